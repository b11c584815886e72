use Rattle.std.proofs.Common.{◌≡◌, ◌++◌, length, take}
use Rattle.header_text.specs.Spelling.{text_of}
use Rattle.report_types.specs.Numbers.{modules_of, maps_of}
use Rattle.claim_text.specs.Spelling.{records_lines}
use Rattle.claim_text.proofs.writing.push_records.Given as goal

abbrev pub invariant-loop-i : goal.invariant-loop-i
invariant-loop-i l =
    (l.modules ≡ length (modules_of (take l.i l.items))) × (l.maps ≡ length (maps_of (take l.i l.items))) × (l.out.items ≡ l.fn.out.items ++ text_of (records_lines l.header 0 0 0 (take l.i l.items)))
