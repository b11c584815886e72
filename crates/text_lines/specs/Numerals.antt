-- Numbers written in decimal digits.
use Rattle.std.specs.Prelude.{◌≡◌, ℕ, ◌<◌, List, length, slice_index}
use Rattle.std.specs.Str.Parse.{AllDigits, digits_value}

-- decimal digits, at least one, that write this number; zeros may stand in front
pub record WritesNumber (bytes : List ℕ) (n : ℕ) : Type 0 where
  pub some : 0 < length bytes
  pub digits : AllDigits 10 bytes
  pub value : digits_value 10 bytes ≡ n

-- the numeral of this number: no zero stands in front, but for the one of 0
pub record IsNumeral (bytes : List ℕ) (n : ℕ) : Type 0 where
  pub writes : WritesNumber bytes n
  pub plain : slice_index bytes 0 ≡ 48 → length bytes ≡ 1
