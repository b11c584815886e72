-- Rows that go along an arrow, and then along all paths of a length: whether something is left of them.
use Rattle.std.proofs.Common.{ℕ, ◌<◌, ◌≤◌, ◌≡◌, ◌+◌, ◌*◌, List, [], ◌∷◌, ◌++◌, get_or, inl, inr, sym, ap, ap₂, ◌∙◌, subst, arith, mul-le-mul_right, mod-eq_of_lt}
use Rattle.std.specs.Prelude.{slice_index, slice_index_or}
use Rattle.std.proofs.lemmas.Bool.{cases_lt, cases_eq}
use Rattle.linear_algebra.specs.Field.{Gf, mul}
use Rattle.linear_algebra.specs.FieldLaws.{zero_mul}
use Rattle.linear_algebra.specs.Sums.{sum_to, sum-same, sum-zeros}
use Rattle.linear_algebra.specs.Rows.{entry}
use Rattle.linear_algebra.specs.Matrix.{Mat, Mat-eq_below, Column, zeros, ◌·◌, transpose, made}
use Rattle.linear_algebra.specs.MatrixLaws.{transpose-at}
use Rattle.linear_algebra.specs.PartsLaws.{made-at}
use Rattle.linear_algebra.specs.BlockFamilies.{total}
use Rattle.linear_algebra.proofs.Rows.{row-entry}
use Rattle.fp_linear.specs.Matrix.{PlainMatrix}
use Rattle.fp_linear.specs.Slices.{AreElements}
use Rattle.fp_linear.specs.Meeting.{Meets, IsClearFrom}
use Rattle.representations.specs.Quiver.{Quiver}
use Rattle.representations.specs.Rep.{Rep}
use Rattle.representations.specs.Dual.{dual}
use Rattle.module_checks.specs.Commuting.{AsksMore}
use Rattle.module_checks.specs.Meeting.{AllMeet}
use Rattle.module_checks.specs.PathImages.{arrow_dot, ImagesMet, MeetsAt}
use Rattle.module_checks.proofs.HomRank.{IsPlainOf}
use Rattle.module_checks.proofs.SpreadDots.{dot_clear}
use Rattle.module_faults.specs.Levels.{TakeToZero, IsLevel, AskImage, IsStoppedAt}
use Rattle.module_faults.proofs.Stopping.{AreStopped, behind_of_ends, ends_of_behind, stopped_by, by_stopped}
use Rattle.module_faults.proofs.PlacedColumns.{image_of_arrow}
use Rattle.module_faults.proofs.PrefixRows.{HoldPrefix}

-- What is folded into clear rows is what they ask then.
pub asks_image : {q : Gf} {Q : Quiver} (X : Rep q Q) (n m count a : ℕ) (p : PlainMatrix) (b t : ℕ) (s clear new : List ℕ) → IsPlainOf p (X.mat a) → b ≡ total (Q.source a) X.dim → t ≡ total (Q.target a) X.dim → IsClearFrom 0 clear
    → AsksMore q n m clear new (ImagesMet q n count s b p t) → AskImage X n m count a s new
asks_image X n m count a p b t s clear new f e d c more = record {
  forth = λ x h r l. sym (image_of_arrow X n a r p b t s f e d x) ∙ (more.more x h).each r l;
  back = λ x h. more.enough x (record { rows = λ i l. dot_clear _ n (i * n) clear x (λ t k. c.clear (i * n + t) (omega arith)) }) (record { each = λ r l. image_of_arrow X n a r p b t s f e d x ∙ h r l });
}

-- rows behind those that are taken are met by everything
meets_all : (q : Gf) (n m used : ℕ) (s : List ℕ) (x : ℕ → ℕ) → IsClearFrom (used * n) s → Meets q n used s x → Meets q n m s x
meets_all q n m used s x c h = record {
  rows = λ i l. elim (cases_lt i used) [
    | inl b ↦ h.rows i b
    | inr g ↦ dot_clear q n (i * n) s x (λ t k. c.clear (i * n + t) (let e = behind i used n g in omega arith))
  ];
}
  where
    behind : (i used n : ℕ) → used ≤ i → used * n ≤ i * n
    behind i used n h = mul-le-mul_right n h

module _ {q : Gf} {Q : Quiver} (X : Rep q Q) (n m count used a : ℕ) (s new : List ℕ) (L : PlainMatrix) (columns : L.col_count ≡ n) (few : used ≤ m) (c : IsClearFrom (used * n) new) (asked : AskImage X n m count a s new) where
  pub stopped_of_meets : AllMeet q L used new → IsStoppedAt X n count s L a
  stopped_of_meets h = record { each = λ l r b d. asked.forth (slice_index (slice_index_or L.rows l [])) (meets_all q n m used new _ c (subst (λ n. Meets q n used new (slice_index (slice_index_or L.rows l []))) columns (h.each l b))) r d }

  pub meets_of_stopped : IsStoppedAt X n count s L a → AllMeet q L used new
  meets_of_stopped h = record {
    each = λ l b. subst (λ n. Meets q n used new (slice_index (slice_index_or L.rows l []))) (sym columns)
        (let all = asked.back (slice_index (slice_index_or L.rows l [])) (λ r d. h.each l r b d) in record { rows = λ i k. all.rows i (omega arith) });
  }

-- the first arrows are stopped
pub record AreStoppedBelow {q : Gf} {Q : Quiver} (X : Rep q Q) (n count : ℕ) (s : List ℕ) (L : PlainMatrix) (k : ℕ) : Type 0 where
  pub each : (a : ℕ) → a < k → IsStoppedAt X n count s L a

module _ {q : Gf} {Q : Quiver} (X : Rep q Q) (n count : ℕ) (s : List ℕ) (L : PlainMatrix) where
  pub below_none : AreStoppedBelow X n count s L 0
  below_none = record { each = λ a l. absurd (omega arith) }

  pub below_more : (k : ℕ) → IsStoppedAt X n count s L k → AreStoppedBelow X n count s L k → AreStoppedBelow X n count s L (k + 1)
  below_more k h b = record { each = λ a l. elim (cases_eq a k) [ inl e ↦ subst (IsStoppedAt X n count s L) (sym e) h | inr d ↦ b.each a (omega arith) ] }

-- The rows that stand for a prefix, and those of a level, as matrices at the two ends of an arrow.
module _ {q : Gf} {Q : Quiver} (Y : Rep q Q) (xs : List ℕ) (n m count j a : ℕ) (s : List ℕ) (L : PlainMatrix) (few : count ≤ m) (c : IsClearFrom (count * n) s) (elements : AreElements q s) (held : HoldPrefix Y xs n m s)
    (level : IsLevel (dual Y) j n L) where
  prefix : Mat q count (Y.dim (Q.source a))
  prefix = made q count (Y.dim (Q.source a)) (λ r i. get_or s (r * n + total (Q.source a) Y.dim + i) 0)

  ends : Mat q L.row_count (Y.dim (Q.target a))
  ends = made q L.row_count (Y.dim (Q.target a)) (λ r i. entry L.rows r (total (Q.target a) Y.dim + i))

  prefix-at : (r i : ℕ) → r < count → i < Y.dim (Q.source a) → prefix.at r i ≡ get_or s (r * n + total (Q.source a) Y.dim + i) 0
  unfolding prefix
  prefix-at r i l b = made-at q count (Y.dim (Q.source a)) (λ r i. get_or s (r * n + total (Q.source a) Y.dim + i) 0) r i l b ∙ mod-eq_of_lt (elements.small (r * n + total (Q.source a) Y.dim + i))

  ends-at : (r i : ℕ) → r < L.row_count → i < Y.dim (Q.target a) → ends.at r i ≡ entry L.rows r (total (Q.target a) Y.dim + i)
  unfolding ends
  ends-at r i l b = made-at q L.row_count (Y.dim (Q.target a)) (λ r i. entry L.rows r (total (Q.target a) Y.dim + i)) r i l b ∙ mod-eq_of_lt (level.small r (total (Q.target a) Y.dim + i))

  prefix_column : (y : Column q (Y.dim (Q.source a))) (r : ℕ) → r < count → (prefix · y).at r 0 ≡ sum_to q (Y.dim (Q.source a)) (λ i. mul q (get_or s (r * n + total (Q.source a) Y.dim + i) 0) (y.at i 0))
  unfolding ◌·◌
  prefix_column y r l = sum-same q (Y.dim (Q.source a)) _ _ (λ i b. ap (λ z. mul q z (y.at i 0)) (prefix-at r i l b))

  ends_column : (y : Column q (Y.dim (Q.target a))) (r : ℕ) → r < L.row_count → (ends · y).at r 0 ≡ sum_to q (Y.dim (Q.target a)) (λ i. mul q (entry L.rows r (total (Q.target a) Y.dim + i)) (y.at i 0))
  unfolding ◌·◌
  ends_column y r l = sum-same q (Y.dim (Q.target a)) _ _ (λ i b. ap (λ z. mul q z (y.at i 0)) (ends-at r i l b))

  prefix_meets : (y : Column q (Y.dim (Q.source a))) → prefix · y ≡ zeros q count 1 → MeetsAt Y n m s (Q.source a) y
  unfolding zeros
  prefix_meets y e = record {
    rows = λ r l. elim (cases_lt r count) [
      | inl b ↦ sym (prefix_column y r b) ∙ ap (λ (m : Mat q count 1). m.at r 0) e
      | inr g ↦ sum-zeros q (Y.dim (Q.source a)) _ (λ i k. ap (λ z. mul q z (y.at i 0)) (c.clear (r * n + total (Q.source a) Y.dim + i) (let d = behind r count n g in omega arith)) ∙ zero_mul q _)
    ];
  }
    where
      behind : (r count n : ℕ) → count ≤ r → count * n ≤ r * n
      behind r count n h = mul-le-mul_right n h

  meets_prefix : (y : Column q (Y.dim (Q.source a))) → MeetsAt Y n m s (Q.source a) y → prefix · y ≡ zeros q count 1
  unfolding zeros
  meets_prefix y h = Mat-eq_below _ _ (λ r i l b. let first : i ≡ 0 = omega arith in ap (λ i. (prefix · y).at r i) first ∙ prefix_column y r l ∙ h.rows r (omega (arith, few)))

  ends_take : (y : Column q (Y.dim (Q.target a))) → ends · y ≡ zeros q L.row_count 1 → TakeToZero (dual Y) L (Q.target a) y
  unfolding zeros
  ends_take y e = record { each = λ r l. sym (ends_column y r l) ∙ ap (λ (m : Mat q L.row_count 1). m.at r 0) e }

  take_ends : (y : Column q (Y.dim (Q.target a))) → TakeToZero (dual Y) L (Q.target a) y → ends · y ≡ zeros q L.row_count 1
  unfolding zeros
  take_ends y h = Mat-eq_below _ _ (λ r i l b. let first : i ≡ 0 = omega arith in ap (λ i. (ends · y).at r i) first ∙ ends_column y r l ∙ h.each r l)

  product : (r l : ℕ) → r < count → l < L.row_count → ((prefix · Y.mat a) · transpose ends).at r l ≡ arrow_dot Y n s a r (slice_index (slice_index_or L.rows l []))
  unfolding ◌·◌
  product r l b d = sum-same q (Y.dim (Q.target a)) _ _ (λ t k. ap₂ (mul q)
      (sum-same q (Y.dim (Q.source a)) _ _ (λ i h. ap (λ z. mul q z ((Y.mat a).at i t)) (prefix-at r i b h)))
      (transpose-at ends t l ∙ ends-at l t d k ∙ sym (row-entry L.rows l (total (Q.target a) Y.dim + t))))

  pub stopped_front : IsStoppedAt Y n count s L a → AreStopped Y (xs ++ a ∷ []) j
  unfolding zeros
  stopped_front h = stopped_by Y xs j a prefix ends
      (λ y e. held.forth (Q.source a) y (prefix_meets y e)) (λ y e. meets_prefix y (held.back (Q.source a) y e))
      (λ y e. behind_of_ends Y j (Q.target a) y (level.forth (Q.target a) y (ends_take y e))) (λ y e. take_ends y (level.back (Q.target a) y (ends_of_behind Y j (Q.target a) y e)))
      (Mat-eq_below _ _ (λ r l b d. product r l b d ∙ h.each l r d b))

  pub front_stopped : AreStopped Y (xs ++ a ∷ []) j → IsStoppedAt Y n count s L a
  unfolding zeros
  front_stopped h =
      let e = by_stopped Y xs j a prefix ends
      (λ y e. held.forth (Q.source a) y (prefix_meets y e)) (λ y e. meets_prefix y (held.back (Q.source a) y e))
      (λ y e. behind_of_ends Y j (Q.target a) y (level.forth (Q.target a) y (ends_take y e))) (λ y e. take_ends y (level.back (Q.target a) y (ends_of_behind Y j (Q.target a) y e))) h in
      record { each = λ l r d b. sym (product r l b d) ∙ ap (λ (m : Mat q count L.row_count). m.at r l) e }
