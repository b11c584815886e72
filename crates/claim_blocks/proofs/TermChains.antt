-- Terms one behind the other: by number, and one term more.
use Rattle.std.proofs.Common.{◌≡◌, ℕ, zero, suc, ◌+◌, ◌<◌, List, [], ◌∷◌, ◌++◌, length, refl, sym, ap, ◌∙◌, subst, arith, append_assoc, append-nil}
use Rattle.linear_algebra.specs.Field.{Gf}
use Rattle.quiver_paths.specs.declared.Path.{Path}
use Rattle.representations.specs.Quiver.{Quiver}
use Rattle.path_algebra.specs.declared.Header.{Header}
use Rattle.module_types.specs.declared.Module.{Module}
use Rattle.module_types.specs.declared.Side.{Side}
use Rattle.module_types.specs.declared.TermRows.{TermRows}
use Rattle.claim_conditions.specs.Terms.{term_at, vertices_at}
use Rattle.report_types.specs.WordDimensions.{dim_of, projective_dim, covered_dim}
use Rattle.claim_blocks.specs.Spelling.{in_order}
use Rattle.claim_blocks.specs.TermChains.{IsNextTerm, AreNextTerms, last_dim}

module _ (q : Gf) (Q : Quiver) (words : List Path) (side : Side) where
  -- what a term goes to, by its number
  abbrev dim_before : (ℕ → ℕ) → List TermRows → ℕ → ℕ → ℕ
  dim_before dim terms zero = dim
  dim_before dim terms (suc k) = projective_dim words side (vertices_at terms k)

  before_rest : (dim : ℕ → ℕ) (t : TermRows) (rest : List TermRows) (k : ℕ) → dim_before (projective_dim words side t.vertices) rest k ≡ dim_before dim (t ∷ rest) (suc k)
  before_rest dim t rest zero = refl
  before_rest dim t rest (suc k) = refl

  pub chain_from : (dim : ℕ → ℕ) (terms : List TermRows) → ((k : ℕ) → k < length terms → IsNextTerm q Q words side (dim_before dim terms k) (term_at terms k)) → AreNextTerms q Q words side dim terms
  chain_from dim [] each = tt
  chain_from dim (t ∷ rest) each = (
    each 0 (omega arith),
    chain_from (projective_dim words side t.vertices) rest
        (λ k l. subst (λ d. IsNextTerm q Q words side d (term_at rest k)) (sym (before_rest dim t rest k)) (each (suc k) (omega (arith, l)))),
  )

  pub chain_at : (dim : ℕ → ℕ) (terms : List TermRows) → AreNextTerms q Q words side dim terms → (k : ℕ) → k < length terms → IsNextTerm q Q words side (dim_before dim terms k) (term_at terms k)
  chain_at dim [] are k l = absurd (omega (arith, l))
  chain_at dim (t ∷ rest) are zero l = are.0
  chain_at dim (t ∷ rest) are (suc k) l =
      subst (λ d. IsNextTerm q Q words side d (term_at rest k)) (before_rest dim t rest k) (chain_at (projective_dim words side t.vertices) rest are.1 k (omega (arith, l)))

  pub chain_push : (dim : ℕ → ℕ) (terms : List TermRows) (t : TermRows) → AreNextTerms q Q words side dim terms → IsNextTerm q Q words side (last_dim q Q words side dim terms) t
      → AreNextTerms q Q words side dim (terms ++ t ∷ [])
  chain_push dim [] t are is = (is, tt)
  chain_push dim (u ∷ rest) t are is = (are.0, chain_push (projective_dim words side u.vertices) rest t are.1 is)

  pub last_push : (dim : ℕ → ℕ) (terms : List TermRows) (t : TermRows) → last_dim q Q words side dim (terms ++ t ∷ []) ≡ projective_dim words side t.vertices
  last_push dim [] t = refl
  last_push dim (u ∷ rest) t = last_push (projective_dim words side u.vertices) rest t

-- as claims have it
pub before_is : (words : List Path) (h : Header) (m : Module) (q : Gf) (Q : Quiver) (terms : List TermRows) (k : ℕ) → dim_before q Q words m.side (dim_of h m) terms k ≡ covered_dim words h m terms k
before_is words h m q Q terms zero = refl
before_is words h m q Q terms (suc k) = refl

-- ---- lines

pub order_push : {X : Type 0} (lines : ℕ → X → List (List (List ℕ))) (k : ℕ) (xs : List X) (x : X) → in_order lines k (xs ++ x ∷ []) ≡ in_order lines k xs ++ lines (k + length xs) x
order_push lines k [] x = append-nil (lines k x) ∙ ap (λ n. lines n x) (omega arith)
order_push lines k (y ∷ xs) x =
    ap (λ l. lines k y ++ l) (order_push lines (k + 1) xs x ∙ ap (λ n. in_order lines (k + 1) xs ++ lines n x) (omega arith))
    ∙ sym (append_assoc (lines k y) (in_order lines (k + 1) xs) (lines (k + length (y ∷ xs)) x))
