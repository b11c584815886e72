-- The rows that are kept of a slice as a level.
use Rattle.std.proofs.Common.{ℕ, ◌<◌, ◌≤◌, ◌≡◌, ◌+◌, ◌*◌, List, [], ◌∷◌, ◌++◌, length, take, get_or, inl, inr, refl, sym, ap, ◌∙◌, subst, arith, mul-le-mul_right}
use Rattle.std.specs.Prelude.{slice_index_or}
use Rattle.std.proofs.lemmas.Bool.{cases_lt}
use Rattle.std.proofs.lemmas.Nat.{row_fits}
use Rattle.std.proofs.lemmas.List.{get_or-take, get_or_append_left, get_or_push, length_push}
use Rattle.linear_algebra.specs.Field.{Gf, mul}
use Rattle.linear_algebra.specs.FieldLaws.{zero_mul}
use Rattle.linear_algebra.specs.Sums.{sum-same, sum-zeros}
use Rattle.linear_algebra.specs.Rows.{rows_of, entry}
use Rattle.linear_algebra.specs.Matrix.{Column}
use Rattle.linear_algebra.specs.BlockFamilies.{total}
use Rattle.linear_algebra.proofs.BlockFamilies.{total_grows}
use Rattle.linear_algebra.proofs.Rows.{list_of-same, entry-rows_of}
use Rattle.fp_linear.specs.Matrix.{PlainMatrix, plain}
use Rattle.fp_linear.specs.Slices.{AreElements}
use Rattle.fp_linear.specs.Meeting.{IsClearFrom}
use Rattle.fp_linear.proofs.Cells.{IsGrid-rows_of}
use Rattle.representations.specs.Quiver.{Quiver}
use Rattle.representations.specs.Rep.{Rep}
use Rattle.module_checks.specs.PathImages.{MeetsAt, HoldPaths}
use Rattle.module_faults.specs.Levels.{TakeToZero, IsLevel}

pub rows_of-take : (m n k : ℕ) (s : List ℕ) → k ≡ m * n → rows_of m n (take k s) ≡ rows_of m n s
unfolding rows_of
rows_of-take m n k s e = list_of-same m _ _ [] (λ i l. list_of-same n _ _ 0 (λ j b. get_or-take k s (i * n + j) 0 (let f = row_fits i n m n l (omega arith) in omega arith)))

module _ {q : Gf} {Q : Quiver} (X : Rep q Q) (j n m count : ℕ) (s : List ℕ) (L : PlainMatrix) (size : n ≡ total Q.vertices X.dim) (few : count ≤ m) (c : IsClearFrom (count * n) s) (elements : AreElements q s) (held : HoldPaths X j n m s)
    (is : L ≡ plain q count n (rows_of count n s)) where
  fits : (w i : ℕ) → w < Q.vertices → i < X.dim w → total w X.dim + i < n
  fits w i l b = let g = total_grows X.dim Q.vertices w l in omega (arith, g, size)

  entry-at : (w r i : ℕ) → w < Q.vertices → r < count → i < X.dim w → entry (rows_of count n s) r (total w X.dim + i) ≡ get_or s (r * n + total w X.dim + i) 0
  entry-at w r i l b d = entry-rows_of count n s r (total w X.dim + i) b (fits w i l d) ∙ (let e : r * n + (total w X.dim + i) ≡ r * n + total w X.dim + i = omega arith in ap (λ p. get_or s p 0) e)

  meets_of_take : (w : ℕ) (y : Column q (X.dim w)) → TakeToZero X (plain q count n (rows_of count n s)) w y → MeetsAt X n m s w y
  meets_of_take w y h = record {
    rows = λ r l. elim (cases_lt w Q.vertices) [
      | inr past ↦ sum-zeros q (X.dim w) _ (λ i b. absurd (let e = X.past w past in omega arith))
      | inl below ↦ elim (cases_lt r count) [
        | inl b ↦ sum-same q (X.dim w) _ _ (λ i d. ap (λ z. mul q z (y.at i 0)) (sym (entry-at w r i below b d))) ∙ h.each r b
        | inr g ↦ sum-zeros q (X.dim w) _ (λ i k. ap (λ z. mul q z (y.at i 0)) (c.clear (r * n + total w X.dim + i) (let d = behind r count n g in omega arith)) ∙ zero_mul q _)
      ]
    ];
  }
    where
      behind : (r count n : ℕ) → count ≤ r → count * n ≤ r * n
      behind r count n h = mul-le-mul_right n h

  take_of_meets : (w : ℕ) (y : Column q (X.dim w)) → MeetsAt X n m s w y → TakeToZero X (plain q count n (rows_of count n s)) w y
  take_of_meets w y h = record {
    each = λ r l. elim (cases_lt w Q.vertices) [
      | inr past ↦ sum-zeros q (X.dim w) _ (λ i b. absurd (let e = X.past w past in omega arith))
      | inl below ↦ sum-same q (X.dim w) _ _ (λ i d. ap (λ z. mul q z (y.at i 0)) (entry-at w r i below l d)) ∙ h.rows r (omega (arith, few))
    ];
  }

  pub is_level : IsLevel X j n L
  is_level = subst (IsLevel X j n) (sym is) (record {
    field = refl;
    columns = refl;
    small = (IsGrid-rows_of q count n s elements).small;
    forth = λ w y h. held.forth w y (meets_of_take w y h);
    back = λ w y h. take_of_meets w y (held.back w y h);
  })

-- the first levels of a list
pub record AreLevels {q : Gf} {Q : Quiver} (X : Rep q Q) (n : ℕ) (levels : List PlainMatrix) : Type 0 where
  pub each : (j : ℕ) (d : PlainMatrix) → j < length levels → IsLevel X j n (slice_index_or levels j d)

module _ {q : Gf} {Q : Quiver} (X : Rep q Q) (n : ℕ) where
  pub no_levels : (levels : List PlainMatrix) → levels ≡ [] → AreLevels X n levels
  no_levels levels e = record { each = λ j d l. absurd (let k = ap length e in omega arith) }

  pub more_levels : (j : ℕ) (levels new : List PlainMatrix) (L : PlainMatrix) → length levels ≡ j → new ≡ levels ++ L ∷ [] → IsLevel X j n L → AreLevels X n levels → AreLevels X n new
  more_levels j levels new L e is h a = subst (AreLevels X n) (sym is) (record {
    each = λ k d l. elim (cases_lt k (length levels)) [
      | inl b ↦ subst (IsLevel X k n) (sym (get_or_append_left levels (L ∷ []) d k b)) (a.each k d b)
      | inr g ↦
          let at : k ≡ j = (let m = length_push levels L in omega arith) in
          subst (IsLevel X k n) (sym (get_or_push levels L d k (e ∙ sym at))) (subst (λ k. IsLevel X k n L) (sym at) h)
    ];
  })
