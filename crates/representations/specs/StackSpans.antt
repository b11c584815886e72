-- The span of matrices one over the other: that of their rows together.
use Rattle.std.specs.Prelude.{ℕ, zero, suc, ◌<◌}
use Rattle.std.proofs.Common.{inl, inr, sym, ap₂, ◌∙◌, arith, subst, not-suc-le-zero}
use Rattle.std.proofs.lemmas.Bool.{cases_eq}
use Rattle.linear_algebra.specs.Field.{Gf}
use Rattle.linear_algebra.specs.Matrix.{Mat, zeros, one, ◌⊞◌, stack, beside}
use Rattle.linear_algebra.specs.Rank.{IsInSpan}
use Rattle.linear_algebra.specs.BlockFamilies.{stack_all}
use Rattle.linear_algebra.proofs.MatrixLaws.{one_mul_mat, zeros_mul, add_zeros, zeros_add}
use Rattle.linear_algebra.proofs.Blocks.{beside_stack, stack_mul, no_rows}
use Rattle.linear_algebra.proofs.Solving.{in_span_trans}

pub stack_has_first : {q : Gf} {m k n : ℕ} (a : Mat q m n) (b : Mat q k n) → IsInSpan (stack a b) a
stack_has_first {q} {m} {k} a b = record { by = beside (one q m) (zeros q m k); is = beside_stack (one q m) (zeros q m k) a b ∙ ap₂ (λ u v. u ⊞ v) (one_mul_mat a) (zeros_mul b) ∙ add_zeros a }

pub stack_has_second : {q : Gf} {m k n : ℕ} (a : Mat q m n) (b : Mat q k n) → IsInSpan (stack a b) b
stack_has_second {q} {m} {k} a b = record { by = beside (zeros q k m) (one q k); is = beside_stack (zeros q k m) (one q k) a b ∙ ap₂ (λ u v. u ⊞ v) (zeros_mul a) (one_mul_mat b) ∙ zeros_add b }

-- Each block is in the span, and what has all blocks in its span has the whole.
pub stack_all_has : {q : Gf} {l : ℕ} (k : ℕ) (size : ℕ → ℕ) (x : (v : ℕ) → Mat q (size v) l) (v : ℕ) → v < k → IsInSpan (stack_all k size x) (x v)
unfolding stack_all
stack_all_has zero size x v h = absurd (not-suc-le-zero h)
stack_all_has (suc k) size x v h = elim (cases_eq v k) [
  | inl e ↦ subst (λ v. IsInSpan (stack (stack_all k size x) (x k)) (x v)) (sym e) (stack_has_second (stack_all k size x) (x k))
  | inr d ↦ in_span_trans (stack (stack_all k size x) (x k)) (stack_all k size x) (x v) (stack_has_first (stack_all k size x) (x k)) (stack_all_has k size x v (omega arith))
]

pub stack_all_least : {q : Gf} {m l : ℕ} (f : Mat q m l) (k : ℕ) (size : ℕ → ℕ) (x : (v : ℕ) → Mat q (size v) l) → ((v : ℕ) → v < k → IsInSpan f (x v)) → IsInSpan f (stack_all k size x)
unfolding stack_all
stack_all_least {q} {m} f zero size x h = record { by = zeros q zero m; is = no_rows _ _ }
stack_all_least f (suc k) size x h =
    let s = stack_all_least f k size x (λ v l. h v (omega arith)) in
    let t = h k (omega arith) in
    record { by = stack s.by t.by; is = stack_mul s.by t.by f ∙ ap₂ stack s.is t.is }
