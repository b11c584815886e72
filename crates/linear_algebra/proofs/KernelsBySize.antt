-- Kernels and cokernels told by their size: reduced rows that f takes to zero, as many as its rows exceed the rank, span all such rows; a co-reduced
-- matrix that is zero after f, of as many columns as those of f exceed the rank, takes to zero only the span of f. And back.
use Rattle.std.proofs.Common.{ℕ, ◌+◌, ◌≡◌, sym, ap, ap₂, ◌∙◌}
use Rattle.linear_algebra.specs.Field.{Gf}
use Rattle.linear_algebra.specs.Matrix.{Mat, Row, zeros, ◌·◌}
use Rattle.linear_algebra.specs.Rank.{IsInSpan, HasLeftInverse}
use Rattle.linear_algebra.specs.Ranks.{rank}
use Rattle.linear_algebra.specs.RowForm.{IsRowReduced, IsCoReduced}
use Rattle.linear_algebra.proofs.RankExists.{rank_factorisation}
use Rattle.linear_algebra.proofs.Dimension.{rank_is}
use Rattle.linear_algebra.proofs.Ranks.{rank_right_inverse, rank_left_inverse}
use Rattle.linear_algebra.proofs.RowForm.{reduced_independent}
use Rattle.linear_algebra.proofs.CoReduced.{place_rows, place_rows_undo}
use Rattle.linear_algebra.proofs.Exactness.{kernel_by_size, cokernel_by_size, ranks_of_exact}

-- The places of a co-reduced matrix undo it on the left, so it is surjective.
pub coreduced_surjective : {q : Gf} {n c : ℕ} (g : Mat q n c) (place : ℕ → ℕ) → IsCoReduced g place → HasLeftInverse g
coreduced_surjective {q} {n} {c} g place d = record { inverse = place_rows q c n place; is = place_rows_undo g place d }

module _ {q : Gf} {m n : ℕ} (f : Mat q m n) where
  module _ {k : ℕ} (i : Mat q k m) (pivot : ℕ → ℕ) (reduced : IsRowReduced i pivot) (kills : i · f ≡ zeros q k n) where
    pub kernel_by_reduced_rows : k + rank f ≡ m → {l : ℕ} (x : Mat q l m) → x · f ≡ zeros q l n → IsInSpan i x
    kernel_by_reduced_rows size x z =
        let F = rank_factorisation f in
        kernel_by_size i f F (reduced_independent i pivot reduced) kills (ap (λ r. k + r) (sym (rank_is F)) ∙ size) x z

    pub reduced_rows_of_kernel : ((x : Row q m) → x · f ≡ zeros q 1 n → IsInSpan i x) → k + rank f ≡ m
    reduced_rows_of_kernel h =
        let F = rank_factorisation i in
        let G = rank_factorisation f in
        ap₂ (λ a b. a + b) (sym (rank_right_inverse i (reduced_independent i pivot reduced)) ∙ rank_is F) (rank_is G) ∙ ranks_of_exact i f F G kills h

  module _ {c : ℕ} (g : Mat q n c) (place : ℕ → ℕ) (coreduced : IsCoReduced g place) (kills : f · g ≡ zeros q m c) where
    pub cokernel_by_coreduced_matrix : rank f + c ≡ n → {l : ℕ} (x : Mat q l n) → x · g ≡ zeros q l c → IsInSpan f x
    cokernel_by_coreduced_matrix size x z =
        let F = rank_factorisation f in
        cokernel_by_size f g F (coreduced_surjective g place coreduced) kills (ap (λ r. r + c) (sym (rank_is F)) ∙ size) x z

    pub coreduced_matrix_of_cokernel : ((x : Row q n) → x · g ≡ zeros q 1 c → IsInSpan f x) → rank f + c ≡ n
    coreduced_matrix_of_cokernel h =
        let F = rank_factorisation f in
        let G = rank_factorisation g in
        ap₂ (λ a b. a + b) (rank_is F) (sym (rank_left_inverse g (coreduced_surjective g place coreduced)) ∙ rank_is G) ∙ ranks_of_exact f g F G kills h
