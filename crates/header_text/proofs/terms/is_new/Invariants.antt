use Rattle.std.proofs.Common.{◌≡◌, ℕ, ◌<◌, get_or}
use Rattle.path_algebra.specs.declared.Term.{Term}
use Rattle.header_text.proofs.terms.is_new.Given as goal

abbrev pub invariant-loop-j : goal.invariant-loop-j
invariant-loop-j l = (k : ℕ) (d : Term) → k < l.j → (get_or l.terms k d).path ≡ (get_or l.terms l.i d).path → ⊥
