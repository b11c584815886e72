-- The finite fields that the calculator knows, and their arithmetic. (Any textbook of algebra: the field of p^e elements is the ring
-- of polynomials over the integers modulo p, modulo an irreducible polynomial of degree e.)
-- An element of the field of q = p^e elements is a number below q: c0 + c1 p + c2 p² + .., with each c below p, stands for the
-- polynomial c0 + c1 x + c2 x² + .. For e = 1 the elements are the numbers below p, added and multiplied modulo p.
-- The operations are defined on all numbers: they reduce them modulo q first.
use Rattle.std.specs.Prelude.{ℕ, zero, suc, ◌+◌, ◌*◌, ◌-◌, ◌/◌, ◌%◌, List, [], ◌∷◌, true, false, eqb}

-- A field of the table, by its number of elements.
pub data Gf : Type 0 where
  f2 f3 f4 f5 f7 f8 f9 f11 f13 f16 f25 f27 : Gf

-- p
abbrev pub characteristic : Gf → ℕ
characteristic f2 = 2
characteristic f3 = 3
characteristic f4 = 2
characteristic f5 = 5
characteristic f7 = 7
characteristic f8 = 2
characteristic f9 = 3
characteristic f11 = 11
characteristic f13 = 13
characteristic f16 = 2
characteristic f25 = 5
characteristic f27 = 3

-- The lower coefficients t0, t1, .., t(e−1) of the polynomial x^e + t(e−1) x^(e−1) + .. + t1 x + t0 by which the field is made.
-- For a field of p elements it is x.
abbrev pub lower_terms : Gf → List ℕ
lower_terms f2 = 0 ∷ []
lower_terms f3 = 0 ∷ []
lower_terms f4 = 1 ∷ 1 ∷ []
lower_terms f5 = 0 ∷ []
lower_terms f7 = 0 ∷ []
lower_terms f8 = 1 ∷ 1 ∷ 0 ∷ []
lower_terms f9 = 1 ∷ 0 ∷ []
lower_terms f11 = 0 ∷ []
lower_terms f13 = 0 ∷ []
lower_terms f16 = 1 ∷ 1 ∷ 0 ∷ 0 ∷ []
lower_terms f25 = 2 ∷ 0 ∷ []
lower_terms f27 = 1 ∷ 2 ∷ 0 ∷ []

-- e
abbrev pub degree : Gf → ℕ
degree f2 = 1
degree f3 = 1
degree f4 = 2
degree f5 = 1
degree f7 = 1
degree f8 = 3
degree f9 = 2
degree f11 = 1
degree f13 = 1
degree f16 = 4
degree f25 = 2
degree f27 = 3

-- q, the number of elements: p^e
abbrev pub order : Gf → ℕ
order f2 = 2
order f3 = 3
order f4 = 4
order f5 = 5
order f7 = 7
order f8 = 8
order f9 = 9
order f11 = 11
order f13 = 13
order f16 = 16
order f25 = 25
order f27 = 27

-- Polynomials over the integers modulo p, as the lists of their coefficients, that of 1 first.

-- f + g
unfoldable pub plus : ℕ → List ℕ → List ℕ → List ℕ
plus p [] g = g
plus p (a ∷ f) [] = a ∷ f
plus p (a ∷ f) (b ∷ g) = (a + b) % p ∷ plus p f g

-- c g
unfoldable pub multiple : ℕ → ℕ → List ℕ → List ℕ
multiple p c [] = []
multiple p c (b ∷ g) = (c * b) % p ∷ multiple p c g

-- f g: (a + x f) g = a g + x (f g)
unfoldable pub times : ℕ → List ℕ → List ℕ → List ℕ
times p [] g = []
times p (a ∷ f) g = plus p (multiple p a g) (zero ∷ times p f g)

-- −f
unfoldable pub opposite : ℕ → List ℕ → List ℕ
opposite p [] = []
opposite p (a ∷ f) = (p - a) % p ∷ opposite p f

-- of a list c, h0, .., h(e−1): the first e entries, and the last one
unfoldable pub front : ℕ → List ℕ → List ℕ
front c [] = []
front c (d ∷ h) = c ∷ front d h

unfoldable pub top : ℕ → List ℕ → ℕ
top c [] = c
top c (d ∷ h) = top d h

-- The remainder of f modulo x^e + t, by long division: the remainder h of f gives c + x h for c + x f, from which
-- its coefficient at x^e times x^e + t is taken.
unfoldable pub remainder : ℕ → List ℕ → List ℕ → List ℕ
remainder p t [] = multiple p zero t
remainder p t (c ∷ f) = step (remainder p t f)
  where
    step : List ℕ → List ℕ
    step h = plus p (front c h) (multiple p (p - top c h) t)

-- the e coefficients of the polynomial that a number stands for
unfoldable pub coefficients : ℕ → ℕ → ℕ → List ℕ
coefficients p zero n = []
coefficients p (suc e) n = n % p ∷ coefficients p e (n / p)

-- the number that stands for a polynomial
unfoldable pub number : ℕ → List ℕ → ℕ
number p [] = zero
number p (c ∷ f) = c + p * number p f

-- the polynomial that a number stands for
unfoldable pub polynomial : Gf → ℕ → List ℕ
polynomial q a = coefficients (characteristic q) (degree q) (a % order q)

-- The sum, coefficient by coefficient modulo p.
unfoldable pub add : Gf → ℕ → ℕ → ℕ
add q a b = number (characteristic q) (plus (characteristic q) (polynomial q a) (polynomial q b))

-- The product, of polynomials modulo p and modulo the polynomial of the table.
unfoldable pub mul : Gf → ℕ → ℕ → ℕ
mul q a b = number (characteristic q) (remainder (characteristic q) (lower_terms q) (times (characteristic q) (polynomial q a) (polynomial q b)))

-- The negative.
unfoldable pub neg : Gf → ℕ → ℕ
neg q a = number (characteristic q) (opposite (characteristic q) (polynomial q a))

-- The difference.
unfoldable pub sub : Gf → ℕ → ℕ → ℕ
sub q a b = add q a (neg q b)

-- a number below n whose product with a is 1, or 0 if there is none
unfoldable pub inverse_below : Gf → ℕ → ℕ → ℕ
inverse_below q zero a = zero
inverse_below q (suc n) a = elim (eqb (mul q a n) 1) [ true ↦ n | false ↦ inverse_below q n a ]

-- The inverse of a number that is not zero in the field, and 0 for the others.
unfoldable pub inv : Gf → ℕ → ℕ
inv q a = inverse_below q (order q) a

-- a multiplied n times by itself
unfoldable pub power : Gf → ℕ → ℕ → ℕ
power q a zero = 1
power q a (suc n) = mul q a (power q a n)
