-- What elimination has made when all columns are done.
use Rattle.std.proofs.Common.{ℕ, ◌<◌, ◌≤◌, ◌≡◌, List, [], length, get_or, take, sym, ◌∙◌, arith}
use Rattle.std.proofs.lemmas.List.{get_or-take, length-take-le}
use Rattle.linear_algebra.specs.Field.{Gf}
use Rattle.linear_algebra.specs.Rows.{entry, rows_of, zeros, SameSpan}
use Rattle.linear_algebra.specs.Reduced.{ReducesTo}
use Rattle.linear_algebra.proofs.Rows.{row-rows_of, length-rows_of, list_of-same, SameSpan-trans}
use Rattle.linear_algebra.proofs.Reduced.{HasPivots, IsReduced-from_pivots, pivots_of-is, entry-take, IsGrid-take, SameSpan-take}
use Rattle.fp_linear.specs.Slices.{cell, AreElements}
use Rattle.fp_linear.specs.Elimination.{IsPartlyReduced}
use Rattle.fp_linear.proofs.Cells.{cell-is, cell-entry, IsGrid-rows_of}

HasPivots-partly : (m n r : ℕ) (s ps : List ℕ) → IsPartlyReduced m n r (cell n s) (λ i. get_or ps i 0) → HasPivots n (take r (rows_of m n s)) (λ i. get_or ps i 0)
HasPivots-partly m n r s ps h = record {
  inside = λ i l. h.inside i (below l);
  one = λ i l. at i _ (below l) (h.inside i (below l)) ∙ h.one i (below l);
  before = λ i j l b. at i j (below l) (let k = h.inside i (below l) in omega arith) ∙ h.before i j (below l) b;
  further = λ i k l b. h.further i k l (below b);
  cleared = λ i k l b d. at k _ (below b) (h.inside i (below l)) ∙ h.cleared i k (below l) (let t = below b in let f = h.fits in omega arith) d;
}
  where
    whole : length (take r (rows_of m n s)) ≡ r
    whole = length-take-le r (rows_of m n s) (let c = length-rows_of m n s in let f = h.fits in omega arith)

    below : {i : ℕ} → i < length (take r (rows_of m n s)) → i < r
    below {i} l = let w = whole in omega arith

    at : (i j : ℕ) → i < r → j < n → entry (take r (rows_of m n s)) i j ≡ cell n s i j
    at i j l k = entry-take r (rows_of m n s) i j l ∙ cell-entry m n s i j (let f = h.fits in omega arith) k

pub ReducesTo-done : (q : Gf) (m n r : ℕ) (old new ps : List ℕ) → AreElements q new → IsPartlyReduced m n r (cell n new) (λ i. get_or ps i 0) → SameSpan q n (rows_of m n old) (rows_of m n new) → m ≤ length ps
    → ReducesTo q n (rows_of m n old) (rows_of m n new) ps r
unfolding zeros
ReducesTo-done q m n r old new ps small h span room =
    let fits = h.fits in
    let grid = IsGrid-rows_of q m n new small in
    let pivots = HasPivots-partly m n r new ps h in
    let count : length (take r (rows_of m n new)) ≡ r = length-take-le r (rows_of m n new) (let c = length-rows_of m n new in omega arith) in
    let rest : (i : ℕ) → r ≤ i → i < m → get_or (rows_of m n new) i [] ≡ zeros n = λ i l k. row-rows_of m n new i k ∙ list_of-same n _ _ 0 (λ j b. sym (cell-is n new i j) ∙ h.below i j l k b) in
    record {
      same_count = length-rows_of m n new ∙ sym (length-rows_of m n old);
      fits = let c = length-rows_of m n new in omega arith;
      reduced = IsReduced-from_pivots q r n (take r (rows_of m n new)) (λ i. get_or ps i 0) (IsGrid-take q m n r (rows_of m n new) grid fits) pivots;
      span = SameSpan-trans q n _ _ _ span (SameSpan-take q m n r (rows_of m n new) grid fits rest);
      rest = λ i l k. rest i l (let c = length-rows_of m n new in omega arith);
      columns = pivots_of-is q r n (take r (rows_of m n new)) (λ i. get_or ps i 0) (take r ps) (IsGrid-take q m n r (rows_of m n new) grid fits) pivots
          (length-take-le r ps (omega arith) ∙ sym count) (λ i l. get_or-take r ps i 0 (omega arith));
    }
