-- Composites of the matrices of terms, as they stand in slices.
use Rattle.std.proofs.Common.{ℕ, zero, suc, Bool, true, false, ◌≡◌, ◌<◌, ◌≤◌, ◌+◌, ◌*◌, List, length, get_or, inl, inr, refl, sym, ap, ◌∙◌, arith, subst, add-one}
use Rattle.std.specs.Prelude.{slice_index_or, MatchBool}
use Rattle.std.proofs.lemmas.Bool.{cases_eq}
use Rattle.std.proofs.lemmas.Nat.{mul-le}
use Rattle.linear_algebra.specs.Field.{Gf}
use Rattle.linear_algebra.specs.Matrix.{Mat, zeros, ◌·◌}
use Rattle.linear_algebra.specs.Rows.{rows_of}
use Rattle.linear_algebra.specs.Typed.{as_mat}
use Rattle.fp_linear.specs.Slices.{AreElements}
use Rattle.quiver_paths.specs.declared.Path.{Path}
use Rattle.quiver_paths.specs.Quiver.{vertex_count}
use Rattle.path_algebra.specs.declared.Header.{Header}
use Rattle.alg_table.specs.TableView.{IsTable}
use Rattle.module_types.specs.declared.Side.{Side}
use Rattle.module_types.specs.declared.Side.TheVariants.{Right, Left}
use Rattle.module_types.specs.Algebras.{algebra_at}
use Rattle.module_types.specs.Readings.{read}
use Rattle.claim_conditions.specs.ResolutionConditions.{IsComplex}
use Rattle.module_types.specs.declared.Module.{Module}
use Rattle.module_types.specs.declared.TermRows.{TermRows}
use Rattle.claim_conditions.specs.Terms.{vertices_at}
use Rattle.term_rows.specs.SumDims.{sum_dim, covered_dim, AreTerms, IsRoomFor}
use Rattle.term_rows.specs.TermCells.{term_sum, term_target, matrix_in}
use Rattle.term_rows.proofs.SumSteps.{sum_dim_is}
use Rattle.term_rows.proofs.WordRows.{covered_is}
use Rattle.resolution_checks.specs.Room.{AreSmall}
use Rattle.resolution_checks.specs.Products.{IsZeroProduct}
use Rattle.resolution_checks.specs.Steps.{words_of_side, ComposesAt, ComposeBelow, ComposeUpTo}
use Rattle.resolution_checks.proofs.ZeroProducts.{zero_product, product_zero}

pub side_vertices : (side : Side) (h : Header) → (algebra_at side h).quiver.vertices ≡ vertex_count h.quiver
side_vertices Right h = refl
side_vertices Left h = refl

-- the answer of a test is that of the same test in other words
pub test_same : (b : Bool) (P R : Type 0) → (P → R) → (R → P) → MatchBool b P (¬ P) → MatchBool b R (¬ R)
test_same true P R f g m = f m
test_same false P R f g m = λ r. m (g r)

pub zero_sized : (q : Gf) (m k n m' k' n' : ℕ) (f g : List ℕ) → m ≡ m' → k ≡ k' → n ≡ n' → IsZeroProduct q m k n f g → IsZeroProduct q m' k' n' f g
zero_sized q m k n m' k' n' f g a b c z = subst (λ m. IsZeroProduct q m k' n' f g) a (subst (λ k. IsZeroProduct q m k n' f g) b (subst (λ n. IsZeroProduct q m k n f g) c z))

-- sizes
pub small_product : (m n len : ℕ) → m ≤ 512 → n ≤ 512 → len ≡ 262144 → m * n ≤ len
small_product m n len a b e = let p = mul-le m n 512 512 a b in omega (arith, p, e)

module _ (h : Header) (words : List Path) (t : IsTable h words) (a : Module) (terms : List TermRows) where
  -- the matrix that stands in a slice
  abbrev pub held_in : ℕ → ℕ → List ℕ → Type 0
  held_in k w s =
      as_mat h.field ((term_sum h words t a terms k).dim w) ((term_target h words t a terms k).dim w) (rows_of ((term_sum h words t a terms k).dim w) ((term_target h words t a terms k).dim w) s)
      ≡ matrix_in h words t a terms k w

  composes_next : (k w rows width columns : ℕ) (f g : List ℕ) (b : Bool) → rows ≡ sum_dim words a.side (vertices_at terms (suc k)) w → width ≡ covered_dim words h a terms (suc k) w → columns ≡ covered_dim words h a terms k w
      → AreElements h.field f → AreElements h.field g → held_in (suc k) w f → held_in k w g
      → MatchBool b (IsZeroProduct h.field rows width columns f g) (¬ IsZeroProduct h.field rows width columns f g) → MatchBool b (ComposesAt h words t a terms k w) (¬ ComposesAt h words t a terms k w)
  composes_next k w rows width columns f g b re we ce sf sg hf hg m =
      let m1 : (term_sum h words t a terms (suc k)).dim w ≡ rows = sum_dim_is h words t a.side (vertices_at terms (suc k)) w ∙ sym re in
      let m2 : (term_sum h words t a terms k).dim w ≡ width = covered_is h words t a terms (suc k) w ∙ sym we in
      let m3 : (term_target h words t a terms k).dim w ≡ columns = covered_is h words t a terms k w ∙ sym ce in
      let A = matrix_in h words t a terms (suc k) w in
      let B = matrix_in h words t a terms k w in
      test_same b (IsZeroProduct h.field rows width columns f g) (ComposesAt h words t a terms k w)
      (λ z. zero_product A B f g sf sg hf hg (zero_sized h.field rows width columns _ _ _ f g (sym m1) (sym m2) (sym m3) z))
      (λ e. zero_sized h.field _ _ _ rows width columns f g m1 m2 m3 (product_zero A B f g sf sg hf hg e)) m

  pub composes_where : (k w rows width columns : ℕ) (f g : List ℕ) (b : Bool) → rows ≡ sum_dim words a.side (vertices_at terms (k + 1)) w → width ≡ covered_dim words h a terms (k + 1) w → columns ≡ covered_dim words h a terms k w
      → AreElements h.field f → AreElements h.field g → held_in (k + 1) w f → held_in k w g
      → MatchBool b (IsZeroProduct h.field rows width columns f g) (¬ IsZeroProduct h.field rows width columns f g) → MatchBool b (ComposesAt h words t a terms k w) (¬ ComposesAt h words t a terms k w)
  composes_where k w rows width columns f g b re we ce sf sg hf hg m =
      let e : k + 1 ≡ suc k = add-one k in
      composes_next k w rows width columns f g b (re ∙ ap (λ n. sum_dim words a.side (vertices_at terms n) w) e) (we ∙ ap (λ n. covered_dim words h a terms n w) e) ce sf sg
      (subst (λ n. held_in n w f) e hf) hg m

  pub below_more : (k w : ℕ) → ComposeBelow h words t a terms k w → ComposesAt h words t a terms k w → ComposeBelow h words t a terms k (w + 1)
  below_more k w b c = record { at = λ v l. elim (cases_eq v w) [ inl e ↦ subst (ComposesAt h words t a terms k) (sym e) c | inr d ↦ b.at v (omega arith) ] }

  pub up_more : (k : ℕ) → ComposeUpTo h words t a terms k → ComposeBelow h words t a terms k (vertex_count h.quiver) → ComposeUpTo h words t a terms (k + 1)
  up_more k b c = record { at = λ v l. elim (cases_eq v k) [ inl e ↦ subst (λ k. ComposeBelow h words t a terms k (vertex_count h.quiver)) (sym e) c | inr d ↦ b.at v (omega arith) ] }

  -- in the words of the conditions
  pub complex_from : (n : ℕ) → ComposeUpTo h words t a terms n → IsComplex (words_of_side h words t a terms) (read h a) terms n
  complex_from n u = λ k w l b. (u.at k l).at w (subst (λ v. w < v) (side_vertices a.side h) b)

  pub complex_to : (n k : ℕ) → k < n → IsComplex (words_of_side h words t a terms) (read h a) terms n → ComposeBelow h words t a terms k (vertex_count h.quiver)
  complex_to n k l c = record { at = λ w b. c k w l (subst (λ v. w < v) (sym (side_vertices a.side h)) b) }

-- sizes of small terms
module _ (words : List Path) (h : Header) (a : Module) (terms : List TermRows) where
  pub small_at : (n k w : ℕ) → k ≤ n → w < vertex_count h.quiver → AreSmall words h a terms n → covered_dim words h a terms k w ≤ 512
  small_at n k w l b s = (s.fits k l).fits w b

  pub small_sum : (n k w : ℕ) → k < n → w < vertex_count h.quiver → AreSmall words h a terms n → sum_dim words a.side (vertices_at terms k) w ≤ 512
  small_sum n k w l b s = (s.fits (suc k) l).fits w b

  pub middle_is : (k w : ℕ) → covered_dim words h a terms (k + 1) w ≡ sum_dim words a.side (vertices_at terms k) w
  middle_is k w = ap (λ n. covered_dim words h a terms n w) (add-one k)
