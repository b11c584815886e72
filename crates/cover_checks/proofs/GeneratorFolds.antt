-- What the generators at a vertex ask of rows there, in coordinates.
use Rattle.std.proofs.Common.{ℕ, ◌<◌, ◌≡◌, ◌≢◌, ◌+◌, List, [], length, get_or, sym, ap, ◌∙◌, inl, inr, arith, subst}
use Rattle.std.specs.Prelude.{slice_index, slice_index_or, MatchOption, Option, None, Some}
use Rattle.std.proofs.lemmas.Bool.{cases_eq}
use Rattle.linear_algebra.specs.Field.{Gf, mul}
use Rattle.linear_algebra.specs.Sums.{sum_to, sum-same}
use Rattle.linear_algebra.specs.Rows.{IsRow}
use Rattle.linear_algebra.proofs.Typed.{as_row-entry}
use Rattle.fp_linear.specs.Slices.{IsWritten, copied}
use Rattle.representations.specs.Quiver.{Quiver}
use Rattle.representations.specs.Rep.{Rep}
use Rattle.projectives.specs.Words.{Words}
use Rattle.projectives.specs.Generators.{rows_at}
use Rattle.projectives.proofs.Generators.{rows_at-here}
use Rattle.module_types.specs.declared.TermRows.{TermRows}
use Rattle.module_types.specs.TermMatrices.{count, vertex}
use Rattle.claim_conditions.specs.Terms.{term_at, goes_to, printed_row}
use Rattle.module_checks.specs.Commuting.{AsksMore}
use Rattle.cover_checks.specs.Bases.{GivesBack, AreAtPlaces, RowKilled}
use Rattle.cover_checks.specs.Covers.{covered_size, covered_rows, covered_pivot, covered_reduced, covered_rep, coordinate_row}
use Rattle.cover_checks.specs.Folds.{IsBasisAt, LiesWhere, LieBelow, GeneratorKilled, GeneratorsKilled}
use Rattle.cover_checks.proofs.FoldRows.{asks_same}
use Rattle.cover_checks.proofs.Placed.{coordinate, in_span_where, back_where}
use Rattle.cover_checks.proofs.RankTests.{RowsKilled}

module _ {q : Gf} {Q : Quiver} (W : Words q Q) (X : Rep q Q) (terms : List TermRows) (k w : ℕ) where
  abbrev Z : Rep q Q
  Z = covered_rep W X terms k

  abbrev g : ℕ
  g = count (term_at terms k)

  abbrev v : ℕ → ℕ
  v = vertex (term_at terms k)

  -- a generator at another vertex
  pub elsewhere : (f : Gf) (n m j : ℕ) (s : List ℕ) → v j ≢ w → LiesWhere W X terms k w j × AsksMore f n m s s (GeneratorKilled W X terms k w j)
  elsewhere f n m j s d = (
    record { lies = λ e. absurd (d e) },
    record { before = λ x h. h; more = λ x h. record { killed = λ e. absurd (d e) }; enough = λ x h p. h },
  )

  -- a generator at this one
  module _ (j : ℕ) (b : j < g) (e : v j ≡ w) (size width : ℕ) (basis marks : List ℕ) (B : IsBasisAt W X terms k w size width basis marks) (image old held x : List ℕ)
      (shape : IsRow q ((goes_to W X terms k).dim (v j)) (slice_index_or (term_at terms k).images j [])) (printed : image ≡ slice_index_or (term_at terms k).images j [])
      (written : IsWritten old held 0 (length image) (copied 0 image)) (taken : AreAtPlaces size marks held x) where
    own : IsBasisAt W X terms k (v j) size width basis marks
    own = subst (λ w. IsBasisAt W X terms k w size width basis marks) (sym e) B

    held_row : (t : ℕ) → t < (goes_to W X terms k).dim (v j) → slice_index held t ≡ (printed_row W X terms k j).at 0 t
    held_row t l =
        let long : length image ≡ (goes_to W X terms k).dim (v j) = ap length printed ∙ shape.count in
        let within : t < length image = subst (λ n. t < n) (sym long) l in
        ap (λ p. get_or held p 0) (let z : t ≡ 0 + t = omega arith in z) ∙ written.within t within ∙ ap (λ p. get_or image p 0) (let z : 0 + t ≡ t = omega arith in z)
        ∙ ap (λ (xs : List ℕ). get_or xs t 0) printed ∙ sym (as_row-entry q ((goes_to W X terms k).dim (v j)) (slice_index_or (term_at terms k).images j []) shape t)

    typed_taken : AreAtPlaces (covered_size W X terms k (v j)) marks held x
    typed_taken = subst (λ n. AreAtPlaces n marks held x) own.size_is taken

    lies_where : GivesBack q size width x basis held width → LiesWhere W X terms k w j
    lies_where h = record {
      lies = λ d. record {
        lies = in_span_where (covered_rows W X terms k (v j)) (covered_pivot W X terms k (v j)) (covered_reduced W X terms k (v j)) basis marks own.basis_is (printed_row W X terms k j) held held_row x typed_taken
            (subst (λ n. GivesBack q n ((goes_to W X terms k).dim (v j)) x basis held ((goes_to W X terms k).dim (v j))) own.size_is (subst (λ n. GivesBack q size n x basis held n) own.width_is h));
      };
    }

    where_lies : LiesWhere W X terms k w j → GivesBack q size width x basis held width
    where_lies r =
        subst (λ n. GivesBack q size n x basis held n) (sym own.width_is) (subst (λ n. GivesBack q n ((goes_to W X terms k).dim (v j)) x basis held ((goes_to W X terms k).dim (v j))) (sym own.size_is)
        (back_where (covered_rows W X terms k (v j)) (covered_pivot W X terms k (v j)) (covered_reduced W X terms k (v j)) basis marks own.basis_is (printed_row W X terms k j) held held_row x typed_taken (r.lies e).lies))

    -- its coordinates
    coordinate_is : (t : ℕ) → t < covered_size W X terms k w → slice_index x t ≡ (rows_at Z g v (coordinate_row W X terms k) w).at j t
    coordinate_is t l =
        coordinate (covered_rows W X terms k (v j)) (covered_pivot W X terms k (v j)) (covered_reduced W X terms k (v j)) basis marks own.basis_is (printed_row W X terms k j) held held_row x typed_taken t
        (subst (λ w. t < covered_size W X terms k w) (sym e) l)
        ∙ sym (rows_at-here Z g v (coordinate_row W X terms k) w j t b e)

    same_sum : (y : ℕ → ℕ) → sum_to q size (λ t. mul q (slice_index x t) (y t)) ≡ sum_to q (covered_size W X terms k w) (λ t. mul q ((rows_at Z g v (coordinate_row W X terms k) w).at j t) (y t))
    same_sum y = ap (λ n. sum_to q n (λ t. mul q (slice_index x t) (y t))) B.size_is ∙ sum-same q (covered_size W X terms k w) _ _ (λ t l. ap (λ z. mul q z (y t)) (coordinate_is t l))

    asked : (m : ℕ) (first new : List ℕ) → AsksMore q size m first new (RowKilled q size x) → AsksMore q size m first new (GeneratorKilled W X terms k w j)
    asked m first new =
        asks_same q size m first new (RowKilled q size x) (GeneratorKilled W X terms k w j) (λ y p. record { killed = λ d. sym (same_sum y) ∙ p.killed }) (λ y p. record { killed = same_sum y ∙ p.killed e })

    -- so the answer of a fold is that of the generator
    pub generator_answer : (field : Gf) → field ≡ q → (m : ℕ) (first new : List ℕ) (o : Option ℕ)
        → MatchOption o (¬ GivesBack field size width x basis held width) (λ u. GivesBack field size width x basis held width × AsksMore field size m first new (RowKilled field size x))
        → MatchOption o (¬ LiesWhere W X terms k w j) (λ u. LiesWhere W X terms k w j × AsksMore field size m first new (GeneratorKilled W X terms k w j))
    generator_answer field s m first new o = subst (λ (f : Gf). MatchOption o (¬ GivesBack f size width x basis held width) (λ u. GivesBack f size width x basis held width × AsksMore f size m first new (RowKilled f size x))
        → MatchOption o (¬ LiesWhere W X terms k w j) (λ u. LiesWhere W X terms k w j × AsksMore f size m first new (GeneratorKilled W X terms k w j))) (sym s) (by_case o)
      where
        by_case : (o : Option ℕ) → MatchOption o (¬ GivesBack q size width x basis held width) (λ u. GivesBack q size width x basis held width × AsksMore q size m first new (RowKilled q size x))
            → MatchOption o (¬ LiesWhere W X terms k w j) (λ u. LiesWhere W X terms k w j × AsksMore q size m first new (GeneratorKilled W X terms k w j))
        by_case None h = λ r. h (where_lies r)
        by_case (Some u) h = (lies_where h.0, asked m first new h.1)

  -- generators one after another
  pub lie_none : LieBelow W X terms k w 0
  lie_none = record { each = λ j l. absurd (omega arith) }

  pub lie_more : (n : ℕ) → LieBelow W X terms k w n → LiesWhere W X terms k w n → LieBelow W X terms k w (n + 1)
  lie_more n h r = record { each = λ j l. elim (cases_eq j n) [ inl s ↦ subst (LiesWhere W X terms k w) (sym s) r | inr d ↦ h.each j (omega arith) ] }

  pub killed_none : (f : Gf) (n m : ℕ) (s : List ℕ) → AsksMore f n m s s (GeneratorsKilled W X terms k w 0)
  killed_none f n m s = record { before = λ x h. h; more = λ x h. record { each = λ j l. absurd (omega arith) }; enough = λ x h p. h }

  pub killed_more : (f : Gf) (n m i : ℕ) (first old new : List ℕ) → AsksMore f n m first old (GeneratorsKilled W X terms k w i) → AsksMore f n m old new (GeneratorKilled W X terms k w i) → AsksMore f n m first new (GeneratorsKilled W X terms k w (i + 1))
  killed_more f n m i first old new a h = record {
    before = λ x c. a.before x (h.before x c);
    more = λ x c. record {
      each = λ j l. elim (cases_eq j i) [
        | inl s ↦ subst (λ j. GeneratorKilled W X terms k w j x) (sym s) (h.more x c)
        | inr d ↦ (a.more x (h.before x c)).each j (omega arith)
      ];
    };
    enough = λ x c p. h.enough x (a.enough x c (record { each = λ j l. p.each j (omega arith) })) (p.each i (omega arith));
  }

  -- all of them
  pub all_killed : (f : Gf) (n m r : ℕ) (first new : List ℕ) → AsksMore f n m first new (GeneratorsKilled W X terms k w g) → AsksMore f n m first new (RowsKilled Z g v (coordinate_row W X terms k) w r)
  all_killed f n m r first new =
      asks_same f n m first new (GeneratorsKilled W X terms k w g) (RowsKilled Z g v (coordinate_row W X terms k) w r) (λ y p. record { each = λ j l e. (p.each j l).killed e })
      (λ y p. record { each = λ j l. record { killed = λ e. p.each j l e } })
