-- The number of rows of a reduced row form is the rank.
use Rattle.std.proofs.Common.{ℕ, ◌≤◌, ◌≡◌, List, take, arith}
use Rattle.linear_algebra.specs.Field.{Gf}
use Rattle.linear_algebra.specs.Rank.{RankFactorisation}
use Rattle.linear_algebra.specs.Reduced.{IsReduced, ReducesTo, pivot}
use Rattle.linear_algebra.specs.Rows.{IsGrid, SameSpan}
use Rattle.linear_algebra.specs.Typed.{as_mat}
use Rattle.linear_algebra.proofs.Reduced.{IsGrid-take}
use Rattle.linear_algebra.proofs.RowForm.{reduced_independent}
use Rattle.linear_algebra.proofs.RowFormUnique.{rank_of_span, row_reduced-as_mat}
use Rattle.linear_algebra.proofs.Typed.{same_span_forth, same_span_back}

pub rank_of_form : (q : Gf) (m k n : ℕ) (rows form : List (List ℕ)) → IsGrid q m n rows → IsGrid q k n form → IsReduced n form → SameSpan q n rows form → (r : RankFactorisation (as_mat q m n rows)) → r.size ≡ k
rank_of_form q m k n rows form g h d s r =
    rank_of_span (as_mat q m n rows) (as_mat q k n form)
    (reduced_independent (as_mat q k n form) (pivot form) (row_reduced-as_mat q k n form h d))
    (same_span_forth q m k n rows form g h s) (same_span_back q m k n rows form g h s) r

pub rank_of_answer : (q : Gf) (m n : ℕ) (old new : List (List ℕ)) (pivots : List ℕ) (rank : ℕ) → IsGrid q m n old → IsGrid q m n new → ReducesTo q n old new pivots rank → (r : RankFactorisation (as_mat q m n old)) → r.size ≡ rank
rank_of_answer q m n old new pivots rank g h d r =
    let few : rank ≤ m = (let f = d.fits in let c = h.count in omega arith) in
    rank_of_form q m rank n old (take rank new) g (IsGrid-take q m n rank new h few) d.reduced d.span r
