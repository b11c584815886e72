-- Numbers of at most ten digits.
use Rattle.std.proofs.Common.{◌≡◌, ℕ, ◌<◌, ◌≤◌, ◌^◌, ◌&&◌, nat_le, List, [], ◌∷◌, length, cond, Bool, true, false, Some, None, ◌↔◌, refl, sym, ap, ◌∙◌, arith, true≢false}
use Rattle.std.specs.declared.option.Option.{Option}
use Rattle.std.specs.Prelude.{IfSome, IfNone}
use Rattle.std.specs.List.{list_all}
use Rattle.std.specs.Char.{digit_value}
use Rattle.std.specs.Str.Parse.{AllDigits, digits_value}
use Rattle.std.proofs.lemmas.Bool.{ltb-true, leb-true, lt-ltb, le-leb}
use Rattle.std.proofs.lemmas.Str.Parse.{IsNumeralModel, numerals_by_value, tells_digits, digits_value_short}
use Rattle.text_lines.specs.Numerals.{WritesNumber}
use Rattle.text_lines.specs.Script.{is_digit, is_number, number_in}

own : IsNumeralModel (AllDigits 10) (digits_value 10)
own = numerals_by_value (AllDigits 10) tells_digits

both : (a b : Bool) → (a && b) ≡ true → (a ≡ true) × (b ≡ true)
both true b h = (refl, h)
both false b h = absurd (true≢false (sym h))

all_digits : (word : List ℕ) → list_all is_digit word ≡ true → AllDigits 10 word
all_digits [] h = tt
all_digits (c ∷ word) h =
    let k = both (is_digit c) (list_all is_digit word) h in (ltb-true (digit_value c) 10 k.0, all_digits word k.1)

digits_all : (word : List ℕ) → AllDigits 10 word → list_all is_digit word ≡ true
digits_all [] h = refl
digits_all (c ∷ word) h = ap (λ b. b && list_all is_digit word) (lt-ltb (digit_value c) 10 h.0) ∙ digits_all word h.1

number_true : (word : List ℕ) → 0 < length word → length word ≤ 10 → AllDigits 10 word → is_number word ≡ true
number_true word some short digits =
    ap (λ b. b && (nat_le (length word) 10 && list_all is_digit word)) (lt-ltb 0 (length word) some)
    ∙ ap (λ b. b && list_all is_digit word) (le-leb (length word) 10 short) ∙ digits_all word digits

chosen_true : (b : Bool) (n : ℕ) → b ≡ true → cond b (Some n) None ≡ Some n
chosen_true b n h = ap (λ c. cond c (Some n) None) h

chosen_false : (b : Bool) (n : ℕ) → (b ≡ true → ⊥) → cond b (Some n) None ≡ None
chosen_false true n h = absurd (h refl)
chosen_false false n h = refl

from_chosen : (b : Bool) (m n : ℕ) → cond b (Some m) None ≡ Some n → (b ≡ true) × (m ≡ n)
from_chosen true m n h = (refl, cc)
from_chosen false m n h = cc

pub number-written : (word : List ℕ) (n : ℕ) → WritesNumber word n → length word ≤ 10 → Some n ≡ number_in word
unfolding number_in
number-written word n writes short =
    sym (chosen_true (is_number word) (digits_value 10 word) (number_true word writes.some short writes.digits) ∙ ap Some writes.value)

pub number-long : (word : List ℕ) → 10 < length word → None ≡ number_in word
unfolding number_in
number-long word long = sym (chosen_false (is_number word) (digits_value 10 word)
    (λ h. absurd (omega (arith, leb-true (length word) 10 (both _ _ (both _ _ h).1).0))))

pub number-none : (word : List ℕ) → length word ≤ 10 → ((n : ℕ) → n < 2 ^ 64 → ¬ WritesNumber word n) → None ≡ number_in word
unfolding number_in
number-none word short none = sym (chosen_false (is_number word) (digits_value 10 word) (λ h.
    let k = both _ _ h in
    let digits = all_digits word (both _ _ k.1).1 in
    none (digits_value 10 word) (omega (arith, digits_value_short own word 10 digits short))
    (record { some = ltb-true 0 (length word) k.0; digits = digits; value = refl })))

pub number-both : (word : List ℕ) (n : ℕ) → (number_in word ≡ Some n) ↔ (WritesNumber word n × (length word ≤ 10))
unfolding number_in
number-both word n = (
  λ h.
      let c = from_chosen (is_number word) (digits_value 10 word) n h in
      let k = both _ _ c.0 in
      let m = both _ _ k.1 in
      (record { some = ltb-true 0 (length word) k.0; digits = all_digits word m.1; value = c.1 }, leb-true (length word) 10 m.0),
  λ h. sym (number-written word n h.0 h.1),
)

-- what was read of digits without a limit of their count
pub number-read : (word : List ℕ) (r : Option ℕ) → length word ≤ 10 → IfSome r (λ n. WritesNumber word n)
    → IfNone r ((n : ℕ) → n < 2 ^ 64 → ¬ WritesNumber word n) → r ≡ number_in word
number-read word None short some none = number-none word short none
number-read word (Some n) short some none = number-written word n some short
