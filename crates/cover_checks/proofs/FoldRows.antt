-- One row that goes along an arrow, in coordinates.
use Rattle.std.proofs.Common.{ℕ, ◌<◌, ◌≡◌, ◌+◌, ◌*◌, List, get_or, sym, ap, ◌∙◌, inl, inr, arith, subst}
use Rattle.std.specs.Prelude.{slice_index, MatchOption, Option, None, Some}
use Rattle.std.proofs.lemmas.Bool.{cases_eq}
use Rattle.linear_algebra.specs.Field.{Gf, mul}
use Rattle.linear_algebra.specs.Sums.{sum_to, sum-same}
use Rattle.linear_algebra.specs.Matrix.{Mat, Row, ◌·◌}
use Rattle.linear_algebra.specs.Parts.{row}
use Rattle.linear_algebra.specs.PartsLaws.{row-at, row-mul}
use Rattle.linear_algebra.specs.RowForm.{selector}
use Rattle.linear_algebra.proofs.Solving.{in_span_by_rows, row_in_span}
use Rattle.fp_linear.specs.Slices.{IsWritten, copied}
use Rattle.fp_linear.specs.Meeting.{IsClearFrom}
use Rattle.fp_linear.proofs.Cells.{cell-is}
use Rattle.representations.specs.Quiver.{Quiver}
use Rattle.representations.specs.Rep.{Rep}
use Rattle.projectives.specs.Words.{Words}
use Rattle.module_types.specs.declared.TermRows.{TermRows}
use Rattle.module_types.specs.Walks.{step}
use Rattle.claim_conditions.specs.Terms.{goes_to}
use Rattle.module_checks.specs.Commuting.{AsksMore}
use Rattle.term_rows.specs.RowSteps.{IsStep}
use Rattle.cover_checks.specs.Bases.{GivesBack, AreAtPlaces, RowKilled}
use Rattle.cover_checks.specs.Covers.{covered_size, covered_rows, covered_pivot, covered_reduced, covered_rep, StaysAlong}
use Rattle.cover_checks.specs.Folds.{RowStays, RowsStay, ImageKilled, AreBases}
use Rattle.cover_checks.proofs.Placed.{coordinate, in_span_where, back_where}

-- The same is asked in other words.
pub asks_same : (q : Gf) (n m : ℕ) (old new : List ℕ) (P R : (ℕ → ℕ) → Type 0) → ((x : ℕ → ℕ) → P x → R x) → ((x : ℕ → ℕ) → R x → P x) → AsksMore q n m old new P → AsksMore q n m old new R
asks_same q n m old new P R f g a = record { before = a.before; more = λ x h. f x (a.more x h); enough = λ x h p. a.enough x h (g x p) }

module _ {q : Gf} {Q : Quiver} (W : Words q Q) (X : Rep q Q) (terms : List TermRows) (k a : ℕ) where
  abbrev Y : Rep q Q
  Y = goes_to W X terms k

  abbrev B : (w : ℕ) → Mat q (covered_size W X terms k w) (Y.dim w)
  B w = covered_rows W X terms k w

  abbrev s : ℕ
  s = Q.source a

  abbrev t : ℕ
  t = Q.target a

  module _ (i from : ℕ) (other : List ℕ) (size width : ℕ) (basis marks : List ℕ) (H : AreBases W X terms k a i from other size width basis marks) (old held next x : List ℕ)
      (zeros : IsClearFrom 0 old) (written : IsWritten old held 0 from (copied (i * from) other)) (moved : IsStep Y a held next) (taken : AreAtPlaces size marks next x) where
    held_row : (j : ℕ) → j < Y.dim s → slice_index held j ≡ (B s).at i j
    held_row j l =
        let b : j < from = subst (λ n. j < n) (sym H.from_is) l in
        ap (λ p. get_or held p 0) (let e : j ≡ 0 + j = omega arith in e) ∙ written.within j b ∙ sym (cell-is from other i j) ∙ H.row_is j b

    abbrev image : Row q (Y.dim t)
    image = row i (B s · Y.mat a)

    next_row : (j : ℕ) → j < Y.dim t → slice_index next j ≡ image.at 0 j
    unfolding step ◌·◌
    next_row j l = moved.at j ∙ sum-same q (Y.dim s) _ _ (λ c b. ap (λ z. mul q z ((Y.mat a).at c j)) (held_row c b)) ∙ sym (row-at i (B s · Y.mat a) j)

    typed_taken : AreAtPlaces (covered_size W X terms k t) marks next x
    typed_taken = subst (λ n. AreAtPlaces n marks next x) H.size_is taken

    -- whether it stays
    pub row_stays : GivesBack q size width x basis next width → RowStays W X terms k a i
    row_stays g = record {
      stays = in_span_where (B t) (covered_pivot W X terms k t) (covered_reduced W X terms k t) basis marks H.basis_is image next next_row x typed_taken
          (subst (λ n. GivesBack q n (Y.dim t) x basis next (Y.dim t)) H.size_is (subst (λ n. GivesBack q size n x basis next n) H.width_is g));
    }

    pub row_back : RowStays W X terms k a i → GivesBack q size width x basis next width
    row_back r =
        subst (λ n. GivesBack q size n x basis next n) (sym H.width_is) (subst (λ n. GivesBack q n (Y.dim t) x basis next (Y.dim t)) (sym H.size_is)
        (back_where (B t) (covered_pivot W X terms k t) (covered_reduced W X terms k t) basis marks H.basis_is image next next_row x typed_taken r.stays))

    -- its coordinates
    coordinate_is : (j : ℕ) → j < covered_size W X terms k t → slice_index x j ≡ ((covered_rep W X terms k).mat a).at i j
    coordinate_is j l =
        coordinate (B t) (covered_pivot W X terms k t) (covered_reduced W X terms k t) basis marks H.basis_is image next next_row x typed_taken j l
        ∙ ap (λ (z : Row q (covered_size W X terms k t)). z.at 0 j) (sym (row-mul i (B s · Y.mat a) (selector q (Y.dim t) (covered_size W X terms k t) (covered_pivot W X terms k t))))
        ∙ row-at i (B s · Y.mat a · selector q (Y.dim t) (covered_size W X terms k t) (covered_pivot W X terms k t)) j

    same_sum : (y : ℕ → ℕ) → sum_to q size (λ j. mul q (slice_index x j) (y j)) ≡ sum_to q (covered_size W X terms k t) (λ j. mul q (((covered_rep W X terms k).mat a).at i j) (y j))
    same_sum y = ap (λ n. sum_to q n (λ j. mul q (slice_index x j) (y j))) H.size_is ∙ sum-same q (covered_size W X terms k t) _ _ (λ j l. ap (λ z. mul q z (y j)) (coordinate_is j l))

    pub image_asked : (m : ℕ) (first new : List ℕ) → AsksMore q size m first new (RowKilled q size x) → AsksMore q size m first new (ImageKilled W X terms k a i)
    image_asked m first new = asks_same q size m first new (RowKilled q size x) (ImageKilled W X terms k a i) (λ y p. record { killed = sym (same_sum y) ∙ p.killed }) (λ y p. record { killed = same_sum y ∙ p.killed })

    -- so the answer of a fold is that of the arrow
    pub fold_answer : (field : Gf) → field ≡ q → (m : ℕ) (first new : List ℕ) (o : Option ℕ)
        → MatchOption o (¬ GivesBack field size width x basis next width) (λ u. GivesBack field size width x basis next width × AsksMore field size m first new (RowKilled field size x))
        → MatchOption o (¬ RowStays W X terms k a i) (λ u. RowStays W X terms k a i × AsksMore field size m first new (ImageKilled W X terms k a i))
    fold_answer field e m first new o = subst (λ (f : Gf). MatchOption o (¬ GivesBack f size width x basis next width) (λ u. GivesBack f size width x basis next width × AsksMore f size m first new (RowKilled f size x))
        → MatchOption o (¬ RowStays W X terms k a i) (λ u. RowStays W X terms k a i × AsksMore f size m first new (ImageKilled W X terms k a i))) (sym e) (by_case o)
      where
        by_case : (o : Option ℕ) → MatchOption o (¬ GivesBack q size width x basis next width) (λ u. GivesBack q size width x basis next width × AsksMore q size m first new (RowKilled q size x))
            → MatchOption o (¬ RowStays W X terms k a i) (λ u. RowStays W X terms k a i × AsksMore q size m first new (ImageKilled W X terms k a i))
        by_case None h = λ r. h (row_back r)
        by_case (Some u) h = (row_stays h.0, image_asked m first new h.1)

  -- the rows one after another
  pub stay_none : RowsStay W X terms k a 0
  stay_none = record { each = λ i l. absurd (omega arith) }

  pub stay_more : (n : ℕ) → RowsStay W X terms k a n → RowStays W X terms k a n → RowsStay W X terms k a (n + 1)
  stay_more n h r = record { each = λ i l. elim (cases_eq i n) [ inl e ↦ subst (RowStays W X terms k a) (sym e) r | inr d ↦ h.each i (omega arith) ] }

  pub stay_along : (n : ℕ) → n ≡ covered_size W X terms k (Q.source a) → RowsStay W X terms k a n → StaysAlong W X terms k a
  stay_along n e h = record { stays = in_span_by_rows (B t) (B s · Y.mat a) (λ i l. (h.each i (subst (λ z. i < z) (sym e) l)).stays) }

  pub along_row : (i : ℕ) → StaysAlong W X terms k a → RowStays W X terms k a i
  along_row i h = record { stays = row_in_span (B t) (B s · Y.mat a) i h.stays }
