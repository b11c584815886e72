-- The radical as a submodule: at each vertex the span of all that comes along arrows. (Assem, Simson, Skowroński, volume 1, chapter III, 2.2.)
use Rattle.std.specs.Prelude.{ℕ, ◌≡◌, ◌≢◌, ◌⊎◌}
use Rattle.std.proofs.Common.{inl, inr, refl, sym, ap, subst}
use Rattle.std.proofs.lemmas.Bool.{cases_eq, cases_lt}
use Rattle.linear_algebra.specs.Field.{Gf}
use Rattle.linear_algebra.specs.Matrix.{Mat, Mat-eq, zeros, reshape, ◌·◌}
use Rattle.linear_algebra.specs.Rank.{IsInSpan}
use Rattle.linear_algebra.specs.BlockFamilies.{total, stack_all}
use Rattle.linear_algebra.proofs.PartsLaws.{reshape-at}
use Rattle.linear_algebra.proofs.Solving.{in_span_trans, in_span_mul}
use Rattle.linear_algebra.proofs.Subspaces.{through_zero}
use Rattle.linear_algebra.proofs.Families.{in_span_zeros}
use Rattle.linear_algebra.proofs.RowForm.{reduced_form, reduced_independent}
use Rattle.representations.specs.Quiver.{Quiver}
use Rattle.representations.specs.Rep.{Rep}
use Rattle.representations.specs.Submodule.{Submodule}
use Rattle.representations.specs.StackSpans.{stack_all_has}

-- The matrix of the arrow a, if it ends at w, and else the zero matrix.
abbrev pub arrow_at : {q : Gf} {Q : Quiver} (X : Rep q Q) (w a : ℕ) → (Q.target a ≡ w) ⊎ (Q.target a ≢ w) → Mat q (X.dim (Q.source a)) (X.dim w)
arrow_at {q} {Q} X w a (inl e) = reshape refl (ap X.dim e) (X.mat a)
arrow_at {q} {Q} X w a (inr d) = zeros q (X.dim (Q.source a)) (X.dim w)

unfoldable pub arrow_into : {q : Gf} {Q : Quiver} (X : Rep q Q) (w a : ℕ) → Mat q (X.dim (Q.source a)) (X.dim w)
arrow_into {Q = Q} X w a = arrow_at X w a (cases_eq (Q.target a) w)

-- The matrices of all arrows that end at w, one over the other.
unfoldable pub arrow_rows : {q : Gf} {Q : Quiver} (X : Rep q Q) (w : ℕ) → Mat q (total Q.arrows (λ a. X.dim (Q.source a))) (X.dim w)
arrow_rows {Q = Q} X w = stack_all Q.arrows (λ a. X.dim (Q.source a)) (arrow_into X w)

pub arrow_into_target : {q : Gf} {Q : Quiver} (X : Rep q Q) (a : ℕ) → arrow_into X (Q.target a) a ≡ X.mat a
unfolding arrow_into
arrow_into_target {Q = Q} X a = here (cases_eq (Q.target a) (Q.target a))
  where
    here : (c : (Q.target a ≡ Q.target a) ⊎ (Q.target a ≢ Q.target a)) → arrow_at X (Q.target a) a c ≡ X.mat a
    here (inl e) = Mat-eq _ _ (λ i j. reshape-at refl (ap X.dim e) (X.mat a) i j)
    here (inr d) = absurd (d refl)

-- What comes along an arrow is in the span.
pub arrow_rows_have : {q : Gf} {Q : Quiver} (X : Rep q Q) (a : ℕ) {k : ℕ} (y : Mat q k (X.dim (Q.source a))) → IsInSpan (arrow_rows X (Q.target a)) (y · X.mat a)
unfolding arrow_rows
arrow_rows_have {q} {Q} X a {k} y = elim (cases_lt a Q.arrows) [
  | inl h ↦
      in_span_trans (arrow_rows X (Q.target a)) (X.mat a) (y · X.mat a)
      (subst (IsInSpan (arrow_rows X (Q.target a))) (arrow_into_target X a) (stack_all_has Q.arrows (λ a. X.dim (Q.source a)) (arrow_into X (Q.target a)) a h))
      (in_span_mul (X.mat a) y)
  | inr h ↦
      subst (IsInSpan (arrow_rows X (Q.target a))) (sym (through_zero y (X.mat a) (X.past (Q.source a) (Q.source_past a h)))) (in_span_zeros k (arrow_rows X (Q.target a)))
]

-- The radical, at each vertex by the basis in reduced row form.
unfoldable pub radical : {q : Gf} {Q : Quiver} (X : Rep q Q) → Submodule X
radical {q} {Q} X = record {
  size = λ v. (reduced_form (arrow_rows X v)).size;
  basis = λ v. (reduced_form (arrow_rows X v)).rows;
  independent = λ v. reduced_independent (reduced_form (arrow_rows X v)).rows (reduced_form (arrow_rows X v)).pivot (reduced_form (arrow_rows X v)).reduced;
  stable = λ a. in_span_trans (reduced_form (arrow_rows X (Q.target a))).rows (arrow_rows X (Q.target a)) ((reduced_form (arrow_rows X (Q.source a))).rows · X.mat a)
      (reduced_form (arrow_rows X (Q.target a))).spans (arrow_rows_have X a (reduced_form (arrow_rows X (Q.source a))).rows);
}
