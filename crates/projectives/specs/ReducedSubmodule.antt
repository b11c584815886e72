-- A submodule by its bases in reduced row form, and so the kernel. (Assem, Simson, Skowroński, volume 1, chapter III, 1.)
use Rattle.std.proofs.Common.{sym, ◌∙◌}
use Rattle.linear_algebra.specs.Field.{Gf}
use Rattle.linear_algebra.specs.Matrix.{one, ◌·◌}
use Rattle.linear_algebra.proofs.MatrixLaws.{mul_one_mat, one_mul_mat}
use Rattle.linear_algebra.proofs.Solving.{in_span_trans, in_span_image}
use Rattle.linear_algebra.proofs.RowForm.{reduced_form, reduced_independent}
use Rattle.representations.specs.Quiver.{Quiver}
use Rattle.representations.specs.Rep.{Rep}
use Rattle.representations.specs.Hom.{Hom}
use Rattle.representations.specs.Submodule.{Submodule}
use Rattle.representations.specs.Kernel.{kernel}

-- The whole module, as a submodule.
abbrev pub whole : {q : Gf} {Q : Quiver} (X : Rep q Q) → Submodule X
whole {q} X = record {
  size = X.dim;
  basis = λ v. one q (X.dim v);
  independent = λ v. record { inverse = one q (X.dim v); is = mul_one_mat (one q (X.dim v)) };
  stable = λ a. record { by = X.mat a; is = mul_one_mat (X.mat a) ∙ sym (one_mul_mat (X.mat a)) };
}

-- The same submodule, at each vertex by its basis in reduced row form; and so the kernel.
unfoldable pub reduced : {q : Gf} {Q : Quiver} {X : Rep q Q} → Submodule X → Submodule X
reduced {Q = Q} {X = X} U = record {
  size = λ v. (reduced_form (U.basis v)).size;
  basis = λ v. (reduced_form (U.basis v)).rows;
  independent = λ v. reduced_independent (reduced_form (U.basis v)).rows (reduced_form (U.basis v)).pivot (reduced_form (U.basis v)).reduced;
  stable = λ a. in_span_trans (reduced_form (U.basis (Q.target a))).rows (U.basis (Q.target a)) ((reduced_form (U.basis (Q.source a))).rows · X.mat a)
      (reduced_form (U.basis (Q.target a))).spans
      (in_span_trans (U.basis (Q.target a)) (U.basis (Q.source a) · X.mat a) ((reduced_form (U.basis (Q.source a))).rows · X.mat a)
      (U.stable a) (in_span_image (U.basis (Q.source a)) (reduced_form (U.basis (Q.source a))).rows (X.mat a) (reduced_form (U.basis (Q.source a))).spanned));
}

abbrev pub reduced_kernel : {q : Gf} {Q : Quiver} {X Y : Rep q Q} → Hom X Y → Submodule X
reduced_kernel f = reduced (kernel f)
