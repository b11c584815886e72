use Rattle.std.proofs.Common.{◌≡◌, length, take}
use Rattle.report_types.specs.Numbers.{modules_of}
use Rattle.claim_text.proofs.writing.count_modules.Given as goal

abbrev pub invariant-loop-item : goal.invariant-loop-item
invariant-loop-item l = l.count ≡ length (modules_of (take l.item-index l.items))
