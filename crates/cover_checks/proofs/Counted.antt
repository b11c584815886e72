-- Counting the vertices that are one vertex.
use Rattle.std.proofs.Common.{ℕ, zero, ◌≡◌, ◌≤◌, ◌+◌, eqb, sym, ap, ap₂, ◌∙◌, arith, add-one}
use Rattle.std.proofs.lemmas.Bool.{cond_both}
use Rattle.linear_algebra.specs.Matrix.{delta}
use Rattle.projectives.specs.Generators.{count_at}

pub delta_le : (i j : ℕ) → delta i j ≤ 1
unfolding delta
delta_le i j = cond_both (eqb i j) 1 zero (λ n. n ≤ 1) (λ e. omega arith) (λ e. omega arith)

pub counted_more : (v : ℕ → ℕ) (w j n d : ℕ) → n ≡ count_at j v w → d ≡ delta (v j) w → n + d ≡ count_at (j + 1) v w
unfolding delta
counted_more v w j n d e f = ap₂ (λ x y. x + y) e f ∙ ap (λ n. count_at n v w) (sym (add-one j))
