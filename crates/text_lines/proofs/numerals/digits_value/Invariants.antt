use Rattle.std.proofs.Common.{◌≡◌, take}
use Rattle.std.specs.Str.Parse.{AllDigits, digits_value}
use Rattle.text_lines.proofs.numerals.digits_value.Given as goal

-- the bytes so far are digits, and write n
abbrev pub invariant-loop-byte : goal.invariant-loop-byte
invariant-loop-byte l = record {
  digits : AllDigits 10 (take l.byte-index l.bytes);
  value : l.n ≡ digits_value 10 (take l.byte-index l.bytes);
}
