-- Writing the row of a free column, and one such row after another.
use Rattle.std.proofs.Common.{ℕ, ◌<◌, ◌≤◌, ◌≡◌, ◌≢◌, ◌+◌, ◌*◌, inl, inr, List, [], length, get_or, set, take, sym, ap, ◌∙◌, arith, subst}
use Rattle.std.proofs.lemmas.Bool.{cases_lt}
use Rattle.std.proofs.lemmas.List.{length-take-le}
use Rattle.linear_algebra.specs.Field.{Gf, neg}
use Rattle.linear_algebra.specs.FieldLaws.{one-lt-order, neg_below}
use Rattle.linear_algebra.specs.Rows.{list_of}
use Rattle.linear_algebra.specs.Reduced.{IsReduced, pivot}
use Rattle.linear_algebra.specs.Separators.{IsFunctionalAt}
use Rattle.linear_algebra.proofs.Rows.{list_of-is, list_of-same, row-entry}
use Rattle.linear_algebra.proofs.Reduced.{entry-take}
use Rattle.fp_linear.specs.Slices.{cell, AreElements, IsWritten}
use Rattle.fp_linear.proofs.Cells.{cell-is, place_below}
use Rattle.fp_linear.proofs.KernelOf.{AreElements-none}
use Rattle.fp_linear.proofs.SeparateOf.{IsFunctionalUpTo-none, IsFunctionalUpTo-more, IsFunctionalAt-whole}
use Rattle.fp_linear.proofs.Slices.{AreElements-set, AreElements-written}
use Rattle.row_spaces.specs.FreeColumns.{IsFunctionalSoFar, HasFunctionals}

pub IsFunctionalSoFar-none : (q : Gf) (n c : ℕ) (form : List (List ℕ)) (s : List ℕ) → c < length s → ((k : ℕ) → get_or s k 0 ≡ 0) → IsFunctionalSoFar q n c 0 form (set s c 1)
IsFunctionalSoFar-none q n c form s h z = record { told = IsFunctionalUpTo-none q n c form s h z; elements = AreElements-set q s c 1 (AreElements-none q s z) (one-lt-order q) }

pub IsFunctionalSoFar-more : (q : Gf) (n c k p v r : ℕ) (rows : List (List ℕ)) (s : List ℕ) → IsReduced n (take r rows) → r ≤ length rows → k < r → length s ≡ n → p ≡ pivot (take r rows) k
    → v ≡ neg q (get_or (get_or rows k []) c 0) → ((i : ℕ) → i < length (take r rows) → pivot (take r rows) i ≢ c) → IsFunctionalSoFar q n c k (take r rows) s → IsFunctionalSoFar q n c (k + 1) (take r rows) (set s p v)
IsFunctionalSoFar-more q n c k p v r rows s red fits l size pe ve apart h =
    let count = length-take-le r rows fits in
    record {
      told = IsFunctionalUpTo-more q n c k p v (take r rows) s red (omega arith) size pe (ve ∙ ap (neg q) (row-entry rows k c ∙ sym (entry-take r rows k c l))) apart h.told;
      elements = AreElements-set q s p v h.elements (rw ve (neg_below q _));
    }

pub HasFunctionals-none : (q : Gf) (n : ℕ) (form : List (List ℕ)) (free s : List ℕ) → ((k : ℕ) → get_or s k 0 ≡ 0) → HasFunctionals q n 0 form free s
HasFunctionals-none q n form free s z = record { done = λ j l. absurd (omega (arith, l)); rest = λ i l. z i; elements = AreElements-none q s z }

-- A row more is written, in the part of the slice that is lent for it.
pub HasFunctionals-more : (q : Gf) (n k : ℕ) (form : List (List ℕ)) (free old new written : List ℕ) → IsWritten old new (k * n) n (λ j. get_or written j 0) → length written ≡ n → AreElements q written
    → IsFunctionalAt q n form (get_or free k 0) written → HasFunctionals q n k form free old → HasFunctionals q n (k + 1) form free new
HasFunctionals-more q n k form free old new written w size small f h = record {
  done = λ j l. elim (cases_lt j k) [
    | inl b ↦ subst (IsFunctionalAt q n form (get_or free j 0)) (list_of-same n _ _ 0 (λ t o. before j t b o)) (h.done j b)
    | inr b ↦ last j (omega arith)
  ];
  rest = λ i l. w.after i (omega arith) ∙ h.rest i (omega arith);
  elements = AreElements-written q old new (k * n) n _ h.elements w small.small;
}
  where
    before : (j t : ℕ) → j < k → t < n → cell n old j t ≡ cell n new j t
    before j t b o = cell-is n old j t ∙ sym (w.before (j * n + t) (let p = place_below n j t k 0 b o in omega arith)) ∙ sym (cell-is n new j t)

    last : (j : ℕ) → k ≡ j → IsFunctionalAt q n form (get_or free j 0) (list_of n (cell n new j))
    last j same = subst (λ (j : ℕ). IsFunctionalAt q n form (get_or free j 0) (list_of n (cell n new j))) same
        (subst (IsFunctionalAt q n form (get_or free k 0)) (list_of-is n (cell n new k) written 0 size (λ t o. sym (w.within t o) ∙ sym (cell-is n new k t))) f)

pub IsFunctionalAt-told : (q : Gf) (n c r : ℕ) (rows : List (List ℕ)) (s : List ℕ) → r ≤ length rows → length s ≡ n → IsFunctionalSoFar q n c r (take r rows) s → IsFunctionalAt q n (take r rows) c s
IsFunctionalAt-told q n c r rows s fits size h = IsFunctionalAt-whole q n c r (take r rows) s (length-take-le r rows fits) size h.told
