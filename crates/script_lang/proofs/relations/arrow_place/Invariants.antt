use Rattle.std.proofs.Common.{◌≡◌, ℕ, ◌<◌, get_or, false}
use Rattle.script_lang.specs.Tokens.{is_word}
use Rattle.quiver_paths.specs.declared.Arrow.{Arrow}
use Rattle.script_lang.proofs.relations.arrow_place.Given as goal

-- no arrow so far has the name
abbrev pub invariant-loop-i : goal.invariant-loop-i
invariant-loop-i l = (k : ℕ) (d : Arrow) → k < l.i → is_word (get_or l.arrows k d).name l.name ≡ false
