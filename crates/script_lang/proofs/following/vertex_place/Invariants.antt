use Rattle.std.proofs.Common.{◌≡◌, ℕ, ◌<◌, get_or, false}
use Rattle.script_lang.specs.Tokens.{is_word}
use Rattle.quiver_paths.specs.declared.naming.Name.{Name}
use Rattle.script_lang.proofs.following.vertex_place.Given as goal

-- no vertex so far has the name
abbrev pub invariant-loop-i : goal.invariant-loop-i
invariant-loop-i l = (k : ℕ) (d : Name) → k < l.i → is_word (get_or l.vertices k d) l.name ≡ false
