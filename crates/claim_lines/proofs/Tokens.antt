-- What a line says, found from its tokens: numbers and words.
use Rattle.std.proofs.Common.{◌≡◌, ℕ, ◌<◌, ◌≤◌, ◌^◌, Bool, true, false, List, [], ◌∷◌, get_or, cond, eqb, decimal, ap, ◌∙◌, arith, lit<}
use Rattle.std.specs.Str.Parse.{digits_value}
use Rattle.std.proofs.lemmas.Fmt.{decimal_is_IsNumeral}
use Rattle.path_algebra.specs.Derivations.{IsNumber}
use Rattle.report_types.specs.Limits.{IsLine}

-- the number that a numeral writes
abbrev pub value : List ℕ → ℕ
value token = digits_value 10 token

pub value_is : (n : ℕ) → n < 2 ^ 64 → value (decimal n) ≡ n
value_is n h = (decimal_is_IsNumeral n h).1

-- the same word
abbrev pub is_same : List ℕ → List ℕ → Bool
is_same [] [] = true
is_same [] (b ∷ bs) = false
is_same (a ∷ xs) [] = false
is_same (a ∷ xs) (b ∷ bs) = cond (eqb a b) (is_same xs bs) false

abbrev pub token : List (List ℕ) → ℕ → List ℕ
token ts i = get_or ts i []

abbrev pub number : List (List ℕ) → ℕ → ℕ
number ts i = value (get_or ts i [])

-- numbers of a report fit 64 bits
pub small : (last n : ℕ) → last < 2 ^ 32 → IsNumber last n → n < 2 ^ 64
small last n few is = let to = is.to in let big : 2 ^ 32 < 2 ^ 64 = lit< tt in omega arith

pub line_small : (n : ℕ) → IsLine n → n < 2 ^ 64
line_small n is = let to = is.to in let big : 4194304 < 2 ^ 64 = lit< tt in omega arith

pub few_small : (n most : ℕ) → n ≤ most → most ≤ 4096 → n < 2 ^ 64
few_small n most a b = let big : 4096 < 2 ^ 64 = lit< tt in omega arith

pub number_is : (last n : ℕ) → last < 2 ^ 32 → IsNumber last n → value (decimal n) ≡ n
number_is last n few is = value_is n (small last n few is)

pub few_is : (n most : ℕ) → n ≤ most → most ≤ 4096 → value (decimal n) ≡ n
few_is n most a b = value_is n (few_small n most a b)

-- a function of equal numbers
pub one : {X : Type 0} (f : ℕ → X) (a x : ℕ) → a ≡ x → f a ≡ f x
one f a x p = ap f p

pub two : {X : Type 0} (f : ℕ → ℕ → X) (a b x y : ℕ) → a ≡ x → b ≡ y → f a b ≡ f x y
two f a b x y p q = ap (λ n. f n b) p ∙ ap (f x) q

pub three : {X : Type 0} (f : ℕ → ℕ → ℕ → X) (a b c x y z : ℕ) → a ≡ x → b ≡ y → c ≡ z → f a b c ≡ f x y z
three f a b c x y z p q r = ap (λ n. f n b c) p ∙ two (f x) b c y z q r

pub four : {X : Type 0} (f : ℕ → ℕ → ℕ → ℕ → X) (a b c d x y z w : ℕ) → a ≡ x → b ≡ y → c ≡ z → d ≡ w → f a b c d ≡ f x y z w
four f a b c d x y z w p q r s = ap (λ n. f n b c d) p ∙ three (f x) b c d y z w q r s
