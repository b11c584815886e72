use Rattle.std.proofs.Common.{◌≡◌, ◌++◌, take, map, slice_index}
use Rattle.standard_modules.proofs.arrows.push_at.Given as goal

abbrev pub invariant-loop-place : goal.invariant-loop-place
invariant-loop-place l = l.entries.items ≡ l.initial.entries.items ++ map (slice_index l.row) (take l.place-index l.places)
