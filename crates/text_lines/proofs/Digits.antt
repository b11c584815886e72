-- Laws of numbers in decimal digits.
use Rattle.std.proofs.Common.{◌≡◌, ℕ, ◌+◌, ◌*◌, ◌≤◌, ◌<◌, ◌^◌, List, [], ◌∷◌, ◌++◌, length, take, drop, get_or, decimal, zero, suc, Bool, false, IsTrue, inl, inr, ◌↔◌, refl, sym, ap, ◌∙◌, subst, arith}
use Rattle.std.specs.Str.Parse.{AllDigits, digits_value_after, digits_value}
use Rattle.std.specs.Char.{digit_value}
use Rattle.std.proofs.lemmas.List.{take-append-drop}
use Rattle.std.proofs.lemmas.Fmt.{decimal_is_IsNumeral, first_decimal, decimal_digit, decimal-digits_value}
use Rattle.std.proofs.lemmas.Bool.{false≢true, cases_lt}
use Rattle.std.proofs.lemmas.Str.Parse.{IsNumeralModel, numerals_by_value, tells_digits}
use Rattle.text_lines.specs.Numerals.{WritesNumber, IsNumeral}

digits_value_after-append : (n : ℕ) (xs ys : List ℕ) → digits_value_after 10 n (xs ++ ys) ≡ digits_value_after 10 (digits_value_after 10 n xs) ys
digits_value_after-append n [] ys = refl
digits_value_after-append n (x ∷ xs) ys = digits_value_after-append (n * 10 + digit_value x) xs ys

le-digits_value_after : (n : ℕ) (xs : List ℕ) → n ≤ digits_value_after 10 n xs
le-digits_value_after n [] = omega arith
le-digits_value_after n (x ∷ xs) = omega (arith, le-digits_value_after (n * 10 + digit_value x) xs)

-- more digits write a number that is not smaller
pub digits_value-take : (bytes : List ℕ) (i : ℕ) → digits_value 10 (take i bytes) ≤ digits_value 10 bytes
digits_value-take bytes i =
    let joined : digits_value 10 bytes ≡ digits_value_after 10 (digits_value 10 (take i bytes)) (drop i bytes) =
    ap (digits_value 10) (sym (take-append-drop i bytes)) ∙ digits_value_after-append 0 (take i bytes) (drop i bytes) in
    omega (arith, joined, le-digits_value_after (digits_value 10 (take i bytes)) (drop i bytes))

own : IsNumeralModel (AllDigits 10) (digits_value 10)
own = numerals_by_value (AllDigits 10) tells_digits

-- what is written with no zero in front is the decimal
pub written_is_decimal : (bytes : List ℕ) (n : ℕ) → n < 2 ^ 64 → WritesNumber bytes n → (get_or bytes 0 0 ≡ 48 → length bytes ≡ 1) → bytes ≡ decimal n
written_is_decimal bytes n small writes plain =
    sym (decimal-digits_value own bytes writes.digits writes.some plain (omega (arith, writes.value))) ∙ ap decimal writes.value

pub decimal_is_written : (n : ℕ) → n < 2 ^ 64 → WritesNumber (decimal n) n
decimal_is_written n small = let k = decimal_is_IsNumeral n small in record { some = k.0.0; digits = k.0.1; value = k.1 }

-- no zero stands in front of a decimal
pub decimal_is_plain : (n : ℕ) → n < 2 ^ 64 → get_or (decimal n) 0 0 ≡ 48 → length (decimal n) ≡ 1
decimal_is_plain zero small zero_first = ap length (decimal_digit 0 (omega arith))
decimal_is_plain (suc n) small zero_first = absurd (omega (arith, first_decimal (suc n) (omega arith) small))

pub numeral-decimal : (bytes : List ℕ) (n : ℕ) → n < 2 ^ 64 → IsNumeral bytes n ↔ (bytes ≡ decimal n)
numeral-decimal bytes n small = (
  λ numeral. written_is_decimal bytes n small numeral.writes numeral.plain,
  λ same. subst (λ l. IsNumeral l n) (sym same) (record { writes = decimal_is_written n small; plain = decimal_is_plain n small }),
)

pub decimal_no_leading_zero : (bytes : List ℕ) (n : ℕ) → n < 2 ^ 64 → bytes ≡ decimal n → 1 < length bytes → get_or bytes 0 0 ≡ 48 → ⊥
decimal_no_leading_zero bytes n small same long zero_first =
    let plain = decimal_is_plain n small (ap (λ l. get_or l 0 0) (sym same) ∙ zero_first) in
    omega (arith, ap length same, plain)

-- what writes a number and is the decimal of another writes that one
pub decimal_value : (bytes : List ℕ) (m n : ℕ) → n < 2 ^ 64 → bytes ≡ decimal n → WritesNumber bytes m → m ≡ n
decimal_value bytes m n small same writes = sym writes.value ∙ ap (digits_value 10) same ∙ (decimal_is_written n small).value

-- where no zero stands in front of other bytes, a zero in front is all
pub alone : (leads : Bool) (zero_first : Type 0) (n : ℕ) → leads ≡ false → ((1 < n) × zero_first → IsTrue leads) → 0 < n → zero_first → n ≡ 1
alone leads zero_first n is_false test some first =
    elim (cases_lt 1 n) [ inl long ↦ absurd (false≢true (sym is_false ∙ test (long, first))) | inr short ↦ omega (arith, short) ]
