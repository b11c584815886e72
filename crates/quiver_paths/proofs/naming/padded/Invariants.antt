use Rattle.std.proofs.Common.{◌≡◌, length, take}
use Rattle.quiver_paths.proofs.naming.padded.Given as goal

abbrev pub invariant-loop-i : goal.invariant-loop-i
invariant-loop-i l = (length l.all ≡ 16) × (take l.i l.all ≡ take l.i l.bytes)
