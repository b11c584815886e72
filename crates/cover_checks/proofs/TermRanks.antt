-- Whether the generators of a term at a vertex are independent modulo the radical of what the term covers, by the ranks of two slices.
use Rattle.std.proofs.Common.{ℕ, ◌≡◌, ◌+◌, List, sym, subst}
use Rattle.std.specs.Prelude.{⊤}
use Rattle.linear_algebra.specs.Field.{Gf}
use Rattle.linear_algebra.specs.Matrix.{stack}
use Rattle.linear_algebra.specs.Ranks.{rank}
use Rattle.linear_algebra.specs.Rows.{rows_of}
use Rattle.linear_algebra.specs.Reduced.{ReducesTo}
use Rattle.fp_linear.specs.Slices.{AreElements}
use Rattle.representations.specs.Quiver.{Quiver}
use Rattle.representations.specs.Rep.{Rep}
use Rattle.projectives.specs.Words.{Words}
use Rattle.projectives.specs.Generators.{count_at}
use Rattle.module_types.specs.declared.TermRows.{TermRows}
use Rattle.module_types.specs.TermMatrices.{count, vertex}
use Rattle.claim_conditions.specs.Terms.{term_at}
use Rattle.module_checks.specs.Commuting.{AsksMore}
use Rattle.module_checks.proofs.Steps.{AsksMore-reduced}
use Rattle.map_checks.specs.ArrowRows.{AskArrows}
use Rattle.cover_checks.specs.Covers.{covered_size, covered_rep, coordinate_row, StaysAt, IsIndependentAt, IsMinimalAt}
use Rattle.cover_checks.specs.Folds.{HoldsRadical, GeneratorsKilled, AreIndependentWhere}
use Rattle.cover_checks.proofs.RankTests.{RowsKilled, here, b, independent_where, ranks_where, radical_rank, whole_rank}
use Rattle.cover_checks.proofs.GeneratorFolds.{all_killed}

module _ {q : Gf} {Q : Quiver} (W : Words q Q) (X : Rep q Q) (terms : List TermRows) (k w : ℕ) where
  abbrev Z : Rep q Q
  Z = covered_rep W X terms k

  abbrev g : ℕ
  g = count (term_at terms k)

  abbrev v : ℕ → ℕ
  v = vertex (term_at terms k)

  -- the rank of the generators over the radical
  abbrev joined : ℕ → ℕ
  joined m = rank (stack (here Z g v (coordinate_row W X terms k) w m) (b Z g v (coordinate_row W X terms k) w m))

  -- reduced rows ask for the same
  asked_reduced : (n m : ℕ) (old new : List ℕ) → AskArrows Z w n m Q.arrows old → AsksMore q n m old new (λ x. ⊤) → AskArrows Z w n m Q.arrows new
  asked_reduced n m old new h a = record { forth = λ x c. h.forth x (a.before x c); back = λ x c. a.enough x (h.back x c) tt }

  module _ (f : Gf) (fe : f ≡ q) (size m : ℕ) (e : size ≡ covered_size W X terms k w) where
    pub radical_held : (old new pivots : List ℕ) (r : ℕ) → AreElements f old → AreElements f new → AskArrows Z w size m Q.arrows old → ReducesTo f size (rows_of m size old) (rows_of m size new) pivots r
        → HoldsRadical W X terms k w size m r new
    radical_held old new pivots r =
        subst (λ (f : Gf). AreElements f old → AreElements f new → AskArrows Z w size m Q.arrows old → ReducesTo f size (rows_of m size old) (rows_of m size new) pivots r → HoldsRadical W X terms k w size m r new) (sym fe)
        (λ eo en asked form. record {
          asked = asked_reduced size m old new asked (AsksMore-reduced q m size old new pivots r eo en form);
          rank_is = radical_rank Z g v (coordinate_row W X terms k) w m old eo (subst (λ n. AskArrows Z w n m Q.arrows old) e asked) new pivots r en
              (subst (λ n. ReducesTo q n (rows_of m n old) (rows_of m n new) pivots r) e form);
        })

    whole_of : (radical whole new pivots : List ℕ) (r s : ℕ) → AreElements f radical → AreElements f whole → AreElements f new → HoldsRadical W X terms k w size m r radical
        → AsksMore f size m radical whole (GeneratorsKilled W X terms k w g) → ReducesTo f size (rows_of m size whole) (rows_of m size new) pivots s → s ≡ joined m
    whole_of radical whole new pivots r s =
        subst (λ (f : Gf). AreElements f radical → AreElements f whole → AreElements f new → HoldsRadical W X terms k w size m r radical
        → AsksMore f size m radical whole (GeneratorsKilled W X terms k w g) → ReducesTo f size (rows_of m size whole) (rows_of m size new) pivots s → s ≡ joined m) (sym fe)
        (λ er ew en h more form. whole_rank Z g v (coordinate_row W X terms k) w m radical er (subst (λ n. AskArrows Z w n m Q.arrows radical) e h.asked) whole ew
        (subst (λ n. AsksMore q n m radical whole (RowsKilled Z g v (coordinate_row W X terms k) w m)) e (all_killed W X terms k w q size m m radical whole more)) new pivots s en (subst (λ n. ReducesTo q n (rows_of m n whole) (rows_of m n new) pivots s) e form))

    -- so the test decides
    pub independent_at : (radical whole new pivots : List ℕ) (r s n : ℕ) → AreElements f radical → AreElements f whole → AreElements f new → HoldsRadical W X terms k w size m r radical
        → AsksMore f size m radical whole (GeneratorsKilled W X terms k w g) → ReducesTo f size (rows_of m size whole) (rows_of m size new) pivots s → n ≡ count_at g v w → s ≡ n + r → IsIndependentAt W X terms k w
    independent_at radical whole new pivots r s n er ew en h more form ne d = record {
      none = independent_where Z g v (coordinate_row W X terms k) w m r s h.rank_is (whole_of radical whole new pivots r s er ew en h more form) (subst (λ n. s ≡ n + r) ne d);
    }

    pub ranks_at : (radical whole new pivots : List ℕ) (r s n : ℕ) → AreElements f radical → AreElements f whole → AreElements f new → HoldsRadical W X terms k w size m r radical
        → AsksMore f size m radical whole (GeneratorsKilled W X terms k w g) → ReducesTo f size (rows_of m size whole) (rows_of m size new) pivots s → n ≡ count_at g v w → IsIndependentAt W X terms k w → s ≡ n + r
    ranks_at radical whole new pivots r s n er ew en h more form ne i =
        subst (λ n. s ≡ n + r) (sym ne) (ranks_where Z g v (coordinate_row W X terms k) w m r s h.rank_is (whole_of radical whole new pivots r s er ew en h more form) i.none)

  -- at a vertex
  pub minimal_at : StaysAt W X terms k w → AreIndependentWhere W X terms k w → IsMinimalAt W X terms k w
  minimal_at s h = record { stays = s; lie = λ j l e. (h.lie.each j l).lies e; independent = h.independent }

  pub at_minimal : IsMinimalAt W X terms k w → AreIndependentWhere W X terms k w
  at_minimal h = record { lie = record { each = λ j l. record { lies = λ e. h.lie j l e } }; independent = h.independent }
