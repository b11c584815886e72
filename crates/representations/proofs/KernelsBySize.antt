-- Kernels and cokernels of homomorphisms by size: an embedding in reduced row form that f takes to zero, at each vertex of as many rows as the dimension
-- exceeds the rank, is the kernel; a co-reduced projection the same.
use Rattle.std.proofs.Common.{ℕ, ◌+◌, ◌≡◌, sym, ap, ◌∙◌}
use Rattle.linear_algebra.specs.Field.{Gf}
use Rattle.linear_algebra.specs.Matrix.{zeros, ◌·◌}
use Rattle.linear_algebra.specs.Rank.{HasRightInverse, HasLeftInverse}
use Rattle.linear_algebra.specs.Ranks.{rank}
use Rattle.linear_algebra.proofs.Dimension.{rank_is}
use Rattle.linear_algebra.proofs.RankExists.{rank_factorisation}
use Rattle.linear_algebra.proofs.MatrixLaws.{mul_assoc_mat, mul_zeros}
use Rattle.linear_algebra.proofs.RowForm.{reduced_independent}
use Rattle.linear_algebra.proofs.Solving.{right_inverse_injective, left_inverse_surjective}
use Rattle.linear_algebra.proofs.CoReduced.{place_rows, place_rows_undo}
use Rattle.linear_algebra.proofs.Exactness.{kernel_by_size, cokernel_by_size}
use Rattle.representations.specs.Quiver.{Quiver}
use Rattle.representations.specs.Rep.{Rep}
use Rattle.representations.specs.Hom.{Hom}
use Rattle.representations.specs.KernelOf.{IsKernel, IsCokernel, IsReduced, IsCoReducedProjection}

module _ {q : Gf} {Q : Quiver} {N X Y : Rep q Q} where
  pub kernel_of_size : (i : Hom N X) (f : Hom X Y) → ((w : ℕ) → HasRightInverse (i.at w)) → ((w : ℕ) → i.at w · f.at w ≡ zeros q (N.dim w) (Y.dim w)) → ((w : ℕ) → N.dim w + rank (f.at w) ≡ X.dim w) → IsKernel i f
  kernel_of_size i f r z s = record {
    mono = λ w. right_inverse_injective (i.at w) (r w);
    exact = record {
      complex = λ w x. mul_assoc_mat x (i.at w) (f.at w) ∙ ap (λ m. x · m) (z w) ∙ mul_zeros x;
      exact = λ w y e. (let F = rank_factorisation (f.at w) in kernel_by_size (i.at w) (f.at w) F (r w) (z w) (ap (λ n. N.dim w + n) (sym (rank_is F)) ∙ s w) y e);
    };
  }

  pub kernel_by_reduced : (i : Hom N X) (f : Hom X Y) → IsReduced i → ((w : ℕ) → i.at w · f.at w ≡ zeros q (N.dim w) (Y.dim w)) → ((w : ℕ) → N.dim w + rank (f.at w) ≡ X.dim w) → IsKernel i f
  kernel_by_reduced i f r = kernel_of_size i f (λ w. reduced_independent (i.at w) (r w).0 (r w).1)

  pub cokernel_of_size : (f : Hom X Y) (p : Hom Y N) → ((w : ℕ) → HasLeftInverse (p.at w)) → ((w : ℕ) → f.at w · p.at w ≡ zeros q (X.dim w) (N.dim w)) → ((w : ℕ) → rank (f.at w) + N.dim w ≡ Y.dim w) → IsCokernel f p
  cokernel_of_size f p l z s = record {
    onto = λ w y. left_inverse_surjective (p.at w) (l w) y;
    exact = record {
      complex = λ w x. mul_assoc_mat x (f.at w) (p.at w) ∙ ap (λ m. x · m) (z w) ∙ mul_zeros x;
      exact = λ w y e. (let F = rank_factorisation (f.at w) in cokernel_by_size (f.at w) (p.at w) F (l w) (z w) (ap (λ n. n + N.dim w) (sym (rank_is F)) ∙ s w) y e);
    };
  }

  pub cokernel_by_coreduced : (f : Hom X Y) (p : Hom Y N) → IsCoReducedProjection p → ((w : ℕ) → f.at w · p.at w ≡ zeros q (X.dim w) (N.dim w)) → ((w : ℕ) → rank (f.at w) + N.dim w ≡ Y.dim w) → IsCokernel f p
  cokernel_by_coreduced f p c = cokernel_of_size f p (λ w. record { inverse = place_rows q (N.dim w) (Y.dim w) (c w).0; is = place_rows_undo (p.at w) (c w).0 (c w).1 })
