-- Kernel, cokernel and image of a homomorphism. (Assem, Simson, Skowroński, volume 1, chapter III, 1, and appendix A, 1.)
use Rattle.std.specs.Prelude.{ℕ, ◌≡◌}
use Rattle.std.proofs.Common.{sym, ap, ◌∙◌}
use Rattle.linear_algebra.specs.Field.{Gf}
use Rattle.linear_algebra.specs.Matrix.{Row, zeros, ◌·◌}
use Rattle.linear_algebra.specs.Rank.{IsInSpan}
use Rattle.linear_algebra.proofs.Products.{products, pull}
use Rattle.linear_algebra.proofs.Solving.{in_span_trans, in_span_image}
use Rattle.linear_algebra.proofs.Dimension.{complement, kernel_spans, cokernel_spans}
use Rattle.linear_algebra.proofs.RowForm.{reduced_form, reduced_independent}
use Rattle.representations.specs.Quiver.{Quiver}
use Rattle.representations.specs.Rep.{Rep}
use Rattle.representations.specs.Hom.{Hom}
use Rattle.representations.specs.Submodule.{Submodule, Quotient}

-- The kernel: at each vertex a basis of the rows that f takes to zero.
unfoldable pub kernel : {q : Gf} {Q : Quiver} {X Y : Rep q Q} → Hom X Y → Submodule X
kernel {q} {Q} {X} {Y} f = record {
  size = λ v. (complement (f.at v)).nullity;
  basis = λ v. (complement (f.at v)).kernel;
  independent = λ v. record { inverse = (complement (f.at v)).retraction; is = (complement (f.at v)).kernel_retracts };
  stable = λ a. kernel_spans (f.at (Q.target a)) (complement (f.at (Q.target a))) ((complement (f.at (Q.source a))).kernel · X.mat a)
      (simp (products, f.square a, pull (complement (f.at (Q.source a))).kernel (f.at (Q.source a)) (complement (f.at (Q.source a))).kernel_kills));
}

-- The cokernel: at each vertex a surjection that takes to zero just the rows that f reaches.
unfoldable pub cokernel : {q : Gf} {Q : Quiver} {X Y : Rep q Q} → Hom X Y → Quotient Y
cokernel {q} {Q} {X} {Y} f = record {
  size = λ v. (complement (f.at v)).corank;
  onto = λ v. (complement (f.at v)).cokernel;
  surjective = λ v. record { inverse = (complement (f.at v)).section; is = (complement (f.at v)).section_splits };
  stable = λ a x e. killed a x (cokernel_spans (f.at (Q.source a)) (complement (f.at (Q.source a))) x e);
}
  where
    killed : (a : ℕ) (x : Row q (Y.dim (Q.source a))) → IsInSpan (f.at (Q.source a)) x → x · (Y.mat a · (complement (f.at (Q.target a))).cokernel) ≡ zeros q 1 (complement (f.at (Q.target a))).corank
    killed a x s =
        ap (λ z. z · (Y.mat a · (complement (f.at (Q.target a))).cokernel)) (sym s.is)
        ∙ simp (products, pull (f.at (Q.source a)) (Y.mat a) (sym (f.square a)), (complement (f.at (Q.target a))).cokernel_kills)

-- The image: at each vertex the basis in reduced row form of the rows that f reaches.
unfoldable pub image : {q : Gf} {Q : Quiver} {X Y : Rep q Q} → Hom X Y → Submodule Y
image {q} {Q} {X} {Y} f = record {
  size = λ v. (reduced_form (f.at v)).size;
  basis = λ v. (reduced_form (f.at v)).rows;
  independent = λ v. reduced_independent (reduced_form (f.at v)).rows (reduced_form (f.at v)).pivot (reduced_form (f.at v)).reduced;
  stable = λ a. in_span_trans (reduced_form (f.at (Q.target a))).rows (f.at (Q.target a)) ((reduced_form (f.at (Q.source a))).rows · Y.mat a)
      (reduced_form (f.at (Q.target a))).spans
      (in_span_trans (f.at (Q.target a)) (f.at (Q.source a) · Y.mat a) ((reduced_form (f.at (Q.source a))).rows · Y.mat a)
      (record { by = X.mat a; is = f.square a })
      (in_span_image (f.at (Q.source a)) (reduced_form (f.at (Q.source a))).rows (Y.mat a) (reduced_form (f.at (Q.source a))).spanned));
}
