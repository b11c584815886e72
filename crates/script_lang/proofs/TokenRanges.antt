-- What is read of tokens is in its range.
use Rattle.std.proofs.Common.{◌≡◌, ℕ, ◌<◌, ◌≤◌, ◌-◌, ◌&&◌, nat_le, eqb, List, [], ◌∷◌, length, get_or, cond, Bool, true, false, Some, None, decimal, codes, All, inl, inr, refl, sym, ap, ◌∙◌, true≢false, arith}
use Rattle.std.specs.Prelude.{IfSome}
use Rattle.std.specs.declared.option.Option.{Option}
use Rattle.std.specs.List.{slice_split}
use Rattle.std.proofs.lemmas.Bool.{cases_lt, leb-true}
use Rattle.std.proofs.lemmas.Fmt.{decimal_digit}
use Rattle.std.proofs.lemmas.List.Elements.{All-nil, All-cons, All-weaker}
use Rattle.linear_algebra.specs.Field.{Gf, order}
use Rattle.linear_algebra.specs.FieldLaws.{order-pos}
use Rattle.quiver_paths.specs.Name.{IsName}
use Rattle.quiver_paths.specs.declared.names.Suffix.{Suffix}
use Rattle.quiver_paths.specs.declared.names.Suffix.TheVariants.{Whole}
use Rattle.path_algebra.specs.Allowed.{IsArrowName, is_letter}
use Rattle.text_lines.specs.Parts.{parts, joined}
use Rattle.text_lines.specs.Script.{number_in}
use Rattle.text_lines.proofs.Digits.{written_is_decimal}
use Rattle.text_lines.proofs.ShortNumbers.{number-both}
use Rattle.script_lang.specs.Tokens.{is_word, is_name, vertex_in, name_in, within, number_to, part_of, suffix_in, with_suffix, reference_from, reference_in}
use Rattle.script_lang.specs.Arguments.{before, numbers_in, is_slash, row_in, rows_in, matrix_in}
use Rattle.script_types.specs.Ranges.{IsSuffix, IsReference, IsRow}
use Rattle.script_lang.proofs.NameLaws.{both, true_is_name}

-- what holds in both cases of a test
pub either_way : {X : Type 0} (b : Bool) (P : X → Type 0) (r s : Option X) → (b ≡ true → IfSome r P) → (b ≡ false → IfSome s P) → IfSome (cond b r s) P
either_way true P r s f g = f refl
either_way false P r s f g = g refl

pub not_true : (b : Bool) → b ≡ true → b ≡ false → ⊥
not_true b t f = true≢false (sym t ∙ f)

-- ---- names

pub vertex_named : (token : List ℕ) → IfSome (vertex_in token) IsName
unfolding vertex_in
vertex_named token = either_way (is_name token) IsName (Some token) None (true_is_name token) (λ f. tt)

pub name_named : (token : List ℕ) → IfSome (name_in token) IsArrowName
unfolding name_in
name_named token = either_way (is_name token && is_letter (get_or token 0 0)) IsArrowName (Some token) None
    (λ h. let k = both _ _ h in record { name = true_is_name token k.0; letter = k.1 }) (λ f. tt)

-- ---- numbers

within_small : (most : ℕ) (r : Option ℕ) → IfSome (within most r) (λ n. n ≤ most)
within_small most None = tt
within_small most (Some n) = either_way (nat_le n most) (λ k. k ≤ most) (Some n) None (λ h. leb-true n most h) (λ f. tt)

pub number_small : (most : ℕ) (token : List ℕ) → IfSome (number_to most token) (λ n. n ≤ most)
number_small most token = within_small most (number_in token)

first_of_zero : get_or (decimal 0) 0 0 ≡ 48
first_of_zero = ap (λ l. get_or l 0 0) (decimal_digit 0 (omega arith))

-- a number whose digits begin with no zero is not zero
positive_number : (token : List ℕ) (k : ℕ) → number_in token ≡ Some k → (get_or token 0 0 ≡ 48 → ⊥) → 0 < k
positive_number token k is plain =
    elim (cases_lt 0 k) [
      | inl some ↦ some
      | inr none ↦
          let zero_is : k ≡ 0 = omega arith in
          let text : token ≡ decimal k = written_is_decimal token k (omega arith) ((number-both token k).0 is).0 (λ h. absurd (plain h)) in
          absurd (plain (ap (λ l. get_or l 0 0) (text ∙ ap decimal zero_is) ∙ first_of_zero))
    ]

part_fits : (token : List ℕ) (r : Option ℕ) → number_in token ≡ r → (get_or token 0 0 ≡ 48 → ⊥) → IfSome (part_of (within 256 r)) IsSuffix
part_fits token None is plain = tt
part_fits token (Some k) is plain = part_within (nat_le k 256) refl
  where
    part_within : (b : Bool) → nat_le k 256 ≡ b → IfSome (part_of (cond b (Some k) None)) IsSuffix
    part_within true h = (positive_number token k is plain, leb-true k 256 h)
    part_within false h = tt

not_zero : (n : ℕ) → eqb n 48 ≡ false → n ≡ 48 → ⊥
not_zero n f h = not_true (eqb n 48) (ap (λ m. eqb m 48) h) f

pub suffix_fits : (token : List ℕ) → IfSome (suffix_in token) IsSuffix
unfolding suffix_in
suffix_fits token =
    either_way (is_word token (codes "map")) IsSuffix _ _ (λ _. tt) (λ _.
    either_way (is_word token (codes "inv")) IsSuffix _ _ (λ _. tt) (λ _.
    either_way (eqb (get_or token 0 0) 48) IsSuffix None (part_of (number_to 256 token)) (λ _. tt)
    (λ plain. part_fits token (number_in token) refl (not_zero (get_or token 0 0) plain))))

-- ---- references

with_suffix_fits : (n : Option (List ℕ)) (s : Option Suffix) → IfSome n IsArrowName → IfSome s IsSuffix → IfSome (with_suffix n s) IsReference
with_suffix_fits None s a b = tt
with_suffix_fits (Some n) None a b = tt
with_suffix_fits (Some n) (Some s) a b = record { name = a; suffix = b }

from_fits : (ps : List (List ℕ)) → IfSome (reference_from ps) IsReference
from_fits [] = tt
from_fits (n ∷ []) = with_suffix_fits (name_in n) (Some Whole) (name_named n) tt
from_fits (n ∷ s ∷ more) = with_suffix_fits (name_in n) (suffix_in (joined 46 (s ∷ more))) (name_named n) (suffix_fits (joined 46 (s ∷ more)))

pub reference_fits : (token : List ℕ) → IfSome (reference_in token) IsReference
unfolding reference_in
reference_fits token = from_fits (parts 46 token)

-- ---- lists and matrices

before_all : {X : Type 0} (P : X → Type 0) (r : Option X) (s : Option (List X)) → IfSome r P → IfSome s (All P) → IfSome (before r s) (All P)
before_all P None s a b = tt
before_all P (Some x) None a b = tt
before_all P (Some x) (Some xs) a b = All-cons P x xs a b

pub numbers_small : (most : ℕ) (ts : List (List ℕ)) → IfSome (numbers_in most ts) (All (λ n. n ≤ most))
numbers_small most [] = All-nil (λ n. n ≤ most)
numbers_small most (t ∷ ts) = before_all (λ n. n ≤ most) (number_to most t) (numbers_in most ts) (number_small most t) (numbers_small most ts)

before_some : {X : Type 0} (r : Option X) (s : Option (List X)) → IfSome (before r s) (λ xs. 0 < length xs)
before_some None s = tt
before_some (Some x) None = tt
before_some (Some x) (Some xs) = omega arith

row_of_field : (f : Gf) (r : Option (List ℕ)) → IfSome r (All (λ n. n ≤ order f - 1)) → IfSome r (λ xs. 0 < length xs) → IfSome r (IsRow f)
row_of_field f None a b = tt
row_of_field f (Some xs) a b = record { some = b; entries = All-weaker (λ n. n ≤ order f - 1) (λ n. n < order f) (λ n l. let p = order-pos f in omega arith) xs a }

row_fits : (f : Gf) (ts : List (List ℕ)) → IfSome (row_in (order f - 1) ts) (IsRow f)
row_fits f [] = tt
row_fits f (t ∷ ts) = row_of_field f (numbers_in (order f - 1) (t ∷ ts)) (numbers_small (order f - 1) (t ∷ ts)) (before_some (number_to (order f - 1) t) (numbers_in (order f - 1) ts))

rows_fit : (f : Gf) (rows : List (List (List ℕ))) → IfSome (rows_in (order f - 1) rows) (All (IsRow f))
rows_fit f [] = All-nil (IsRow f)
rows_fit f (row ∷ rows) = before_all (IsRow f) (row_in (order f - 1) row) (rows_in (order f - 1) rows) (row_fits f row) (rows_fit f rows)

pub matrix_fits : (f : Gf) (ts : List (List ℕ)) → IfSome (matrix_in (order f - 1) ts) (All (IsRow f))
matrix_fits f [] = All-nil (IsRow f)
matrix_fits f (t ∷ ts) = rows_fit f (slice_split is_slash (t ∷ ts))
