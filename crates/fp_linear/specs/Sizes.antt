-- A field of the table by its number of elements.
use Rattle.std.specs.Prelude.{ℕ, ◌≡◌, if◌then◌else◌, ◌==◌}
use Rattle.std.proofs.Common.{ap}
use Rattle.linear_algebra.specs.Field.{Gf, f2, f3, f4, f5, f7, f8, f9, f11, f13, f16, f25, f27, order}
use Rattle.fp_linear.specs.declared.field.Field.TheInside.{Inside}

-- the field of n elements; for the other numbers, which no `Field` holds, that of 2
abbrev pub field_of : ℕ → Gf
field_of n =
    if n == 3 then f3 else if n == 4 then f4 else if n == 5 then f5 else if n == 7 then f7 else if n == 8 then f8
    else if n == 9 then f9 else if n == 11 then f11 else if n == 13 then f13 else if n == 16 then f16 else if n == 25 then f25
    else if n == 27 then f27 else f2

-- the table has a field of n elements
abbrev pub IsFieldSize : ℕ → Type 0
IsFieldSize n = order (field_of n) ≡ n

-- a `Field` with its field
abbrev pub held : Gf → Inside
held g = record { q = order g }

pub held_by_size : (a : Inside) → IsFieldSize a.q → held (field_of a.q) ≡ a
held_by_size a h = ap (λ (n : ℕ). let r : Inside = record { q = n } in r) h
