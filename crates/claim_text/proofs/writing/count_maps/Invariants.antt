use Rattle.std.proofs.Common.{◌≡◌, length, take}
use Rattle.report_types.specs.Numbers.{maps_of}
use Rattle.claim_text.proofs.writing.count_maps.Given as goal

abbrev pub invariant-loop-item : goal.invariant-loop-item
invariant-loop-item l = l.count ≡ length (maps_of (take l.item-index l.items))
