-- A row is in the span of reduced rows exactly where its remainder is zero.
use Rattle.std.proofs.Common.{ℕ, ◌<◌, ◌≡◌, ◌↔◌, List, length, get_or, sym, ap, ◌∙◌}
use Rattle.linear_algebra.specs.Field.{Gf, mul, sub}
use Rattle.linear_algebra.specs.FieldLaws.{mul-mod_left, sub_self}
use Rattle.linear_algebra.specs.Sums.{sum-same}
use Rattle.linear_algebra.specs.Rows.{entry, IsRow, IsGrid, IsInSpan}
use Rattle.linear_algebra.specs.Reduced.{pivot, at_pivots, remainder, IsReduced}
use Rattle.linear_algebra.proofs.Rows.{get_or-times, get_or-list_of}
use Rattle.linear_algebra.proofs.ReducedSpans.{times-at_pivot, get_or-remainder}
use Rattle.linear_algebra.proofs.SeparateRows.{in_span_of_zero}

pub remainder-zero : (q : Gf) (m n : ℕ) (form : List (List ℕ)) (x : List ℕ) → IsGrid q m n form → IsReduced n form → IsInSpan q n form x → (j : ℕ) → j < n → get_or (remainder q n form x) j 0 ≡ 0
unfolding at_pivots
remainder-zero q m n form x g f s j l =
    get_or-remainder q n form x j l
    ∙ ap (sub q (get_or x j 0))
    (get_or-times q n (at_pivots form x) form j l
    ∙ sum-same q (length form) _ _ (λ i b.
    ap (λ a. mul q a (entry form i j)) (get_or-list_of (length form) (λ i. get_or x (pivot form i) 0) i 0 b ∙ sym (ap (λ y. get_or y (pivot form i) 0) s.1) ∙ times-at_pivot q m n form s.0 i g f b)
    ∙ mul-mod_left q (get_or s.0 i 0) (entry form i j))
    ∙ sym (get_or-times q n s.0 form j l) ∙ ap (λ y. get_or y j 0) s.1)
    ∙ sub_self q (get_or x j 0)

pub remainder_tells : (q : Gf) (m n : ℕ) (form : List (List ℕ)) (x : List ℕ) → IsGrid q m n form → IsReduced n form → IsRow q n x → IsInSpan q n form x ↔ ((j : ℕ) → j < n → get_or (remainder q n form x) j 0 ≡ 0)
remainder_tells q m n form x g f w = (remainder-zero q m n form x g f, in_span_of_zero q n form x w)
