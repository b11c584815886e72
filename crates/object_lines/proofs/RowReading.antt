-- Rows: by their length and their entries, one by one.
use Rattle.std.proofs.Common.{◌≡◌, ℕ, ◌<◌, List, [], length, get_or, All, decimal, inl, inr, arith}
use Rattle.std.proofs.lemmas.Bool.{cases_lt}
use Rattle.std.proofs.lemmas.List.{get_or_past, get_or_default}
use Rattle.linear_algebra.specs.Field.{Gf, order}
use Rattle.linear_algebra.specs.FieldLaws.{order-pos}
use Rattle.linear_algebra.specs.Rows.{IsRow}
use Rattle.object_lines.specs.Spelling.{numbers_form}
use Rattle.object_lines.specs.Reading.{Takes, BeginsOtherwise, IsElement, AddsRow}
use Rattle.object_lines.proofs.Taking.{from_none, not_all, taken_all}

-- all entries are elements, wherever one looks
pub all_small : (q : Gf) (xs : List ℕ) → All (IsElement q) xs → (j : ℕ) → get_or xs j 0 < order q
all_small q xs all j = elim (cases_lt j (length xs)) [
  | inl inside ↦ all j 0 inside
  | inr past ↦ let zero_there : get_or xs j 0 ≡ 0 = get_or_past xs j 0 past in let some = order-pos q in omega arith
]

pub is_row : (q : Gf) (n : ℕ) (xs : List ℕ) → length xs ≡ n → All (IsElement q) xs → IsRow q n xs
is_row q n xs counted all = record { count = counted; small = all_small q xs all }

pub row_all : (q : Gf) (n : ℕ) (xs : List ℕ) → IsRow q n xs → All (IsElement q) xs
row_all q n xs is = λ j d inside. let same : get_or xs j d ≡ get_or xs j 0 = get_or_default xs j d 0 inside in let small = is.small j in omega arith

-- entries that are all tokens are a row
pub row_taken : (q : Gf) (n : ℕ) (old new : List ℕ) (tokens rest : List (List ℕ)) → rest ≡ [] → Takes decimal (IsElement q) n old new tokens rest → AddsRow q n numbers_form old new tokens
row_taken q n old new tokens rest none t = record {
  row = t.taken;
  is_row = is_row q n t.taken t.counted t.all;
  behind = t.behind;
  spelled = taken_all decimal (IsElement q) n old new tokens rest none t;
}

pub no_row : (q : Gf) (n : ℕ) (tokens : List (List ℕ)) → BeginsOtherwise decimal (IsElement q) n tokens → (row : List ℕ) → IsRow q n row → tokens ≡ numbers_form row → ⊥
no_row q n tokens other row is e = from_none decimal (IsElement q) n tokens other row is.count (row_all q n row is) e

pub longer_row : (q : Gf) (n : ℕ) (old new : List ℕ) (tokens rest : List (List ℕ)) → (rest ≡ [] → ⊥) → Takes decimal (IsElement q) n old new tokens rest → (row : List ℕ) → IsRow q n row → tokens ≡ numbers_form row → ⊥
longer_row q n old new tokens rest some t row is e = not_all decimal (IsElement q) n old new tokens rest some t row is.count e
