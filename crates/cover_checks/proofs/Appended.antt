-- Rows of numbers that are written behind others, and what they ask then.
use Rattle.std.proofs.Common.{ℕ, ◌<◌, ◌≤◌, ◌≡◌, ◌≢◌, ◌+◌, ◌*◌, List, get_or, sym, ap, ◌∙◌, inl, inr, arith}
use Rattle.std.proofs.lemmas.Bool.{cases_lt, cases_eq}
use Rattle.linear_algebra.specs.Field.{Gf, mul}
use Rattle.linear_algebra.specs.Sums.{sum_to, sum-same}
use Rattle.fp_linear.specs.Slices.{IsWritten, copied}
use Rattle.fp_linear.specs.Meeting.{dot, IsClearFrom}
use Rattle.fp_linear.proofs.Meeting.{row_step}
use Rattle.module_checks.specs.Commuting.{AsksMore}
use Rattle.module_checks.proofs.SpreadDots.{dot_clear}
use Rattle.cover_checks.specs.Bases.{RowKilled}

module _ (q : Gf) (n m u : ℕ) (y old new : List ℕ) (w : IsWritten old new (u * n) n (copied 0 y)) (c : IsClearFrom (u * n) old) (l : u < m) where
  new_row : (x : ℕ → ℕ) → dot q n new (u * n) x ≡ sum_to q n (λ t. mul q (get_or y t 0) (x t))
  unfolding dot
  new_row x = sum-same q n _ _ (λ t h. ap (λ z. mul q z (x t)) (w.within t h ∙ ap (λ p. get_or y p 0) (let e : 0 + t ≡ t = omega arith in e)))

  old_row : (x : ℕ → ℕ) → dot q n old (u * n) x ≡ 0
  old_row x = dot_clear q n (u * n) old x (λ t h. c.clear (u * n + t) (omega arith))

  other_rows : (x : ℕ → ℕ) (k : ℕ) → k ≢ u → dot q n new (k * n) x ≡ dot q n old (k * n) x
  unfolding dot
  other_rows x k d = sum-same q n _ _ (λ t h. ap (λ z. mul q z (x t)) (elim (cases_lt k u) [
    | inl s ↦ w.before (k * n + t) (let e = row_step n k u s in omega (arith, e, h))
    | inr s ↦ w.after (k * n + t) (let e = row_step n u k (omega arith) in omega (arith, e))
  ]))

  pub row_appended : AsksMore q n m old new (RowKilled q n y)
  row_appended = record {
    before = λ x h. record { rows = λ k r. elim (cases_eq k u) [ inl e ↦ ap (λ z. dot q n old (z * n) x) e ∙ old_row x | inr d ↦ sym (other_rows x k d) ∙ h.rows k r ] };
    more = λ x h. record { killed = sym (new_row x) ∙ h.rows u l };
    enough = λ x h p. record { rows = λ k r. elim (cases_eq k u) [ inl e ↦ ap (λ z. dot q n new (z * n) x) e ∙ new_row x ∙ p.killed | inr d ↦ other_rows x k d ∙ h.rows k r ] };
  }

  pub clear_behind : IsClearFrom ((u + 1) * n) new
  clear_behind = record { clear = λ k h. let e = row_step n u (u + 1) (omega arith) in w.after k (omega (arith, e, h)) ∙ c.clear k (omega (arith, e, h)) }

-- the numbers of a row lie within
pub row_inside : (n m u len : ℕ) → u < m → len ≡ m * n → u * n + n ≤ len
row_inside n m u len l e = let s = row_step n u m l in omega (arith, s, e)
