-- Tests over all elements of each field of the table: the written sums and products are those of the operations,
-- and the laws of a commutative ring hold for the written ones. Each test is answered by computation.
use Rattle.std.specs.Prelude.{ℕ, zero, suc, ◌+◌, ◌-◌, ◌<◌, ◌≡◌, Bool, true, eqb, ltb, refl, ◌&&◌, ◌||◌}
use Rattle.std.proofs.Common.{not-suc-le-zero, subst, inl, inr, arith}
use Rattle.std.proofs.lemmas.Bool.{cases_lt, and_parts}
use Rattle.linear_algebra.specs.Field.{Gf, f2, f3, f4, f5, f7, f8, f9, f11, f13, f16, f25, f27, order, polynomial, coefficients, number, plus, times, multiple, opposite, front, top, remainder, add, mul, neg, inv, inverse_below}
use Rattle.linear_algebra.specs.FieldTables.{sum_of, product_of, sum_digits, product_digits}

-- each number below n passes
unfoldable pub all_below : ℕ → (ℕ → Bool) → Bool
all_below zero p = true
all_below (suc n) p = p n && all_below n p

pub all_below-at : (n : ℕ) (p : ℕ → Bool) → all_below n p ≡ true → (j : ℕ) → j < n → p j ≡ true
unfolding all_below
all_below-at zero p h j lt = absurd (not-suc-le-zero lt)
all_below-at (suc n) p h j lt =
    let parts = and_parts (p n) (all_below n p) h in
    elim (cases_lt j n) [
      | inl below ↦ all_below-at n p parts.1 j below
      | inr last ↦ let at : n ≡ j = omega arith in subst (λ k. p k ≡ true) at parts.0
    ]

-- two elements: their sum and product are the written ones, elements again, and the same in the other order
unfoldable pub passes_pair : Gf → ℕ → ℕ → Bool
passes_pair q a b = eqb (add q a b) (sum_of q a b) && (eqb (mul q a b) (product_of q a b) && (ltb (sum_of q a b) (order q) && (ltb (product_of q a b) (order q) && (eqb (sum_of q a b) (sum_of q b a) && eqb (product_of q a b) (product_of q b a)))))

unfoldable pub passes_pairs : Gf → Bool
passes_pairs q = all_below (order q) (λ a. all_below (order q) (λ b. passes_pair q a b))

-- an element: sum with zero, product with one, negative
unfoldable pub passes_one : Gf → ℕ → Bool
passes_one q a = eqb (add q a 0) a && (eqb (mul q a 1) a && (eqb (mul q a 0) 0 && (ltb (neg q a) (order q) && eqb (add q a (neg q a)) 0)))

unfoldable pub passes_ones : Gf → Bool
passes_ones q = all_below (order q) (passes_one q)

-- an element other than zero: the product with its inverse
unfoldable pub passes_inverses : Gf → Bool
passes_inverses q = all_below (order q) (λ a. eqb a 0 || eqb (mul q a (inv q a)) 1)

-- three elements: associativity of sums and products, and distributivity
unfoldable pub passes_three : Gf → ℕ → ℕ → ℕ → Bool
passes_three q a b c = eqb (sum_of q (sum_of q a b) c) (sum_of q a (sum_of q b c)) && (eqb (product_of q (product_of q a b) c) (product_of q a (product_of q b c)) && eqb (product_of q a (sum_of q b c)) (sum_of q (product_of q a b) (product_of q a c)))

-- the same where the first of the three is one of n elements from a number on
unfoldable pub passes_from : Gf → ℕ → ℕ → Bool
passes_from q start n = all_below n (λ a. all_below (order q) (λ b. all_below (order q) (λ c. passes_three q (start + a) b c)))

pairs2 : passes_pairs f2 ≡ true
unfolding passes_pairs passes_pair all_below add mul neg polynomial coefficients number plus times multiple opposite front top remainder sum_of product_of sum_digits product_digits
pairs2 = refl

ones2 : passes_ones f2 ≡ true
unfolding passes_ones passes_one all_below add mul neg polynomial coefficients number plus times multiple opposite front top remainder sum_of product_of sum_digits product_digits
ones2 = refl

pairs3 : passes_pairs f3 ≡ true
unfolding passes_pairs passes_pair all_below add mul neg polynomial coefficients number plus times multiple opposite front top remainder sum_of product_of sum_digits product_digits
pairs3 = refl

ones3 : passes_ones f3 ≡ true
unfolding passes_ones passes_one all_below add mul neg polynomial coefficients number plus times multiple opposite front top remainder sum_of product_of sum_digits product_digits
ones3 = refl

pairs4 : passes_pairs f4 ≡ true
unfolding passes_pairs passes_pair all_below add mul neg polynomial coefficients number plus times multiple opposite front top remainder sum_of product_of sum_digits product_digits
pairs4 = refl

ones4 : passes_ones f4 ≡ true
unfolding passes_ones passes_one all_below add mul neg polynomial coefficients number plus times multiple opposite front top remainder sum_of product_of sum_digits product_digits
ones4 = refl

pairs5 : passes_pairs f5 ≡ true
unfolding passes_pairs passes_pair all_below add mul neg polynomial coefficients number plus times multiple opposite front top remainder sum_of product_of sum_digits product_digits
pairs5 = refl

ones5 : passes_ones f5 ≡ true
unfolding passes_ones passes_one all_below add mul neg polynomial coefficients number plus times multiple opposite front top remainder sum_of product_of sum_digits product_digits
ones5 = refl

pairs7 : passes_pairs f7 ≡ true
unfolding passes_pairs passes_pair all_below add mul neg polynomial coefficients number plus times multiple opposite front top remainder sum_of product_of sum_digits product_digits
pairs7 = refl

ones7 : passes_ones f7 ≡ true
unfolding passes_ones passes_one all_below add mul neg polynomial coefficients number plus times multiple opposite front top remainder sum_of product_of sum_digits product_digits
ones7 = refl

pairs8 : passes_pairs f8 ≡ true
unfolding passes_pairs passes_pair all_below add mul neg polynomial coefficients number plus times multiple opposite front top remainder sum_of product_of sum_digits product_digits
pairs8 = refl

ones8 : passes_ones f8 ≡ true
unfolding passes_ones passes_one all_below add mul neg polynomial coefficients number plus times multiple opposite front top remainder sum_of product_of sum_digits product_digits
ones8 = refl

pairs9 : passes_pairs f9 ≡ true
unfolding passes_pairs passes_pair all_below add mul neg polynomial coefficients number plus times multiple opposite front top remainder sum_of product_of sum_digits product_digits
pairs9 = refl

ones9 : passes_ones f9 ≡ true
unfolding passes_ones passes_one all_below add mul neg polynomial coefficients number plus times multiple opposite front top remainder sum_of product_of sum_digits product_digits
ones9 = refl

pairs11 : passes_pairs f11 ≡ true
unfolding passes_pairs passes_pair all_below add mul neg polynomial coefficients number plus times multiple opposite front top remainder sum_of product_of sum_digits product_digits
pairs11 = refl

ones11 : passes_ones f11 ≡ true
unfolding passes_ones passes_one all_below add mul neg polynomial coefficients number plus times multiple opposite front top remainder sum_of product_of sum_digits product_digits
ones11 = refl

pairs13 : passes_pairs f13 ≡ true
unfolding passes_pairs passes_pair all_below add mul neg polynomial coefficients number plus times multiple opposite front top remainder sum_of product_of sum_digits product_digits
pairs13 = refl

ones13 : passes_ones f13 ≡ true
unfolding passes_ones passes_one all_below add mul neg polynomial coefficients number plus times multiple opposite front top remainder sum_of product_of sum_digits product_digits
ones13 = refl

pairs16 : passes_pairs f16 ≡ true
unfolding passes_pairs passes_pair all_below add mul neg polynomial coefficients number plus times multiple opposite front top remainder sum_of product_of sum_digits product_digits
pairs16 = refl

ones16 : passes_ones f16 ≡ true
unfolding passes_ones passes_one all_below add mul neg polynomial coefficients number plus times multiple opposite front top remainder sum_of product_of sum_digits product_digits
ones16 = refl

pairs25 : passes_pairs f25 ≡ true
unfolding passes_pairs passes_pair all_below add mul neg polynomial coefficients number plus times multiple opposite front top remainder sum_of product_of sum_digits product_digits
pairs25 = refl

ones25 : passes_ones f25 ≡ true
unfolding passes_ones passes_one all_below add mul neg polynomial coefficients number plus times multiple opposite front top remainder sum_of product_of sum_digits product_digits
ones25 = refl

pairs27 : passes_pairs f27 ≡ true
unfolding passes_pairs passes_pair all_below add mul neg polynomial coefficients number plus times multiple opposite front top remainder sum_of product_of sum_digits product_digits
pairs27 = refl

ones27 : passes_ones f27 ≡ true
unfolding passes_ones passes_one all_below add mul neg polynomial coefficients number plus times multiple opposite front top remainder sum_of product_of sum_digits product_digits
ones27 = refl

rows2_0 : passes_from f2 0 2 ≡ true
unfolding passes_from passes_three all_below sum_of product_of sum_digits product_digits
rows2_0 = refl

rows3_0 : passes_from f3 0 3 ≡ true
unfolding passes_from passes_three all_below sum_of product_of sum_digits product_digits
rows3_0 = refl

rows4_0 : passes_from f4 0 4 ≡ true
unfolding passes_from passes_three all_below sum_of product_of sum_digits product_digits
rows4_0 = refl

rows5_0 : passes_from f5 0 5 ≡ true
unfolding passes_from passes_three all_below sum_of product_of sum_digits product_digits
rows5_0 = refl

rows7_0 : passes_from f7 0 7 ≡ true
unfolding passes_from passes_three all_below sum_of product_of sum_digits product_digits
rows7_0 = refl

rows8_0 : passes_from f8 0 8 ≡ true
unfolding passes_from passes_three all_below sum_of product_of sum_digits product_digits
rows8_0 = refl

rows9_0 : passes_from f9 0 9 ≡ true
unfolding passes_from passes_three all_below sum_of product_of sum_digits product_digits
rows9_0 = refl

rows11_0 : passes_from f11 0 11 ≡ true
unfolding passes_from passes_three all_below sum_of product_of sum_digits product_digits
rows11_0 = refl

rows13_0 : passes_from f13 0 13 ≡ true
unfolding passes_from passes_three all_below sum_of product_of sum_digits product_digits
rows13_0 = refl

rows16_0 : passes_from f16 0 6 ≡ true
unfolding passes_from passes_three all_below sum_of product_of sum_digits product_digits
rows16_0 = refl

rows16_6 : passes_from f16 6 6 ≡ true
unfolding passes_from passes_three all_below sum_of product_of sum_digits product_digits
rows16_6 = refl

rows16_12 : passes_from f16 12 4 ≡ true
unfolding passes_from passes_three all_below sum_of product_of sum_digits product_digits
rows16_12 = refl

rows25_0 : passes_from f25 0 4 ≡ true
unfolding passes_from passes_three all_below sum_of product_of sum_digits product_digits
rows25_0 = refl

rows25_4 : passes_from f25 4 4 ≡ true
unfolding passes_from passes_three all_below sum_of product_of sum_digits product_digits
rows25_4 = refl

rows25_8 : passes_from f25 8 4 ≡ true
unfolding passes_from passes_three all_below sum_of product_of sum_digits product_digits
rows25_8 = refl

rows25_12 : passes_from f25 12 4 ≡ true
unfolding passes_from passes_three all_below sum_of product_of sum_digits product_digits
rows25_12 = refl

rows25_16 : passes_from f25 16 4 ≡ true
unfolding passes_from passes_three all_below sum_of product_of sum_digits product_digits
rows25_16 = refl

rows25_20 : passes_from f25 20 4 ≡ true
unfolding passes_from passes_three all_below sum_of product_of sum_digits product_digits
rows25_20 = refl

rows25_24 : passes_from f25 24 1 ≡ true
unfolding passes_from passes_three all_below sum_of product_of sum_digits product_digits
rows25_24 = refl

rows27_0 : passes_from f27 0 3 ≡ true
unfolding passes_from passes_three all_below sum_of product_of sum_digits product_digits
rows27_0 = refl

rows27_3 : passes_from f27 3 3 ≡ true
unfolding passes_from passes_three all_below sum_of product_of sum_digits product_digits
rows27_3 = refl

rows27_6 : passes_from f27 6 3 ≡ true
unfolding passes_from passes_three all_below sum_of product_of sum_digits product_digits
rows27_6 = refl

rows27_9 : passes_from f27 9 3 ≡ true
unfolding passes_from passes_three all_below sum_of product_of sum_digits product_digits
rows27_9 = refl

rows27_12 : passes_from f27 12 3 ≡ true
unfolding passes_from passes_three all_below sum_of product_of sum_digits product_digits
rows27_12 = refl

rows27_15 : passes_from f27 15 3 ≡ true
unfolding passes_from passes_three all_below sum_of product_of sum_digits product_digits
rows27_15 = refl

rows27_18 : passes_from f27 18 3 ≡ true
unfolding passes_from passes_three all_below sum_of product_of sum_digits product_digits
rows27_18 = refl

rows27_21 : passes_from f27 21 3 ≡ true
unfolding passes_from passes_three all_below sum_of product_of sum_digits product_digits
rows27_21 = refl

rows27_24 : passes_from f27 24 3 ≡ true
unfolding passes_from passes_three all_below sum_of product_of sum_digits product_digits
rows27_24 = refl

inverses2 : passes_inverses f2 ≡ true
unfolding passes_inverses all_below inv inverse_below mul polynomial coefficients number plus times multiple front top remainder
inverses2 = refl

inverses3 : passes_inverses f3 ≡ true
unfolding passes_inverses all_below inv inverse_below mul polynomial coefficients number plus times multiple front top remainder
inverses3 = refl

inverses4 : passes_inverses f4 ≡ true
unfolding passes_inverses all_below inv inverse_below mul polynomial coefficients number plus times multiple front top remainder
inverses4 = refl

inverses5 : passes_inverses f5 ≡ true
unfolding passes_inverses all_below inv inverse_below mul polynomial coefficients number plus times multiple front top remainder
inverses5 = refl

inverses7 : passes_inverses f7 ≡ true
unfolding passes_inverses all_below inv inverse_below mul polynomial coefficients number plus times multiple front top remainder
inverses7 = refl

inverses8 : passes_inverses f8 ≡ true
unfolding passes_inverses all_below inv inverse_below mul polynomial coefficients number plus times multiple front top remainder
inverses8 = refl

inverses9 : passes_inverses f9 ≡ true
unfolding passes_inverses all_below inv inverse_below mul polynomial coefficients number plus times multiple front top remainder
inverses9 = refl

inverses11 : passes_inverses f11 ≡ true
unfolding passes_inverses all_below inv inverse_below mul polynomial coefficients number plus times multiple front top remainder
inverses11 = refl

inverses13 : passes_inverses f13 ≡ true
unfolding passes_inverses all_below inv inverse_below mul polynomial coefficients number plus times multiple front top remainder
inverses13 = refl

inverses16 : passes_inverses f16 ≡ true
unfolding passes_inverses all_below inv inverse_below mul polynomial coefficients number plus times multiple front top remainder
inverses16 = refl

inverses25 : passes_inverses f25 ≡ true
unfolding passes_inverses all_below inv inverse_below mul polynomial coefficients number plus times multiple front top remainder
inverses25 = refl

inverses27 : passes_inverses f27 ≡ true
unfolding passes_inverses all_below inv inverse_below mul polynomial coefficients number plus times multiple front top remainder
inverses27 = refl

pub pairs : (q : Gf) → passes_pairs q ≡ true
pairs f2 = pairs2
pairs f3 = pairs3
pairs f4 = pairs4
pairs f5 = pairs5
pairs f7 = pairs7
pairs f8 = pairs8
pairs f9 = pairs9
pairs f11 = pairs11
pairs f13 = pairs13
pairs f16 = pairs16
pairs f25 = pairs25
pairs f27 = pairs27

pub ones : (q : Gf) → passes_ones q ≡ true
ones f2 = ones2
ones f3 = ones3
ones f4 = ones4
ones f5 = ones5
ones f7 = ones7
ones f8 = ones8
ones f9 = ones9
ones f11 = ones11
ones f13 = ones13
ones f16 = ones16
ones f25 = ones25
ones f27 = ones27

pub inverses : (q : Gf) → passes_inverses q ≡ true
inverses f2 = inverses2
inverses f3 = inverses3
inverses f4 = inverses4
inverses f5 = inverses5
inverses f7 = inverses7
inverses f8 = inverses8
inverses f9 = inverses9
inverses f11 = inverses11
inverses f13 = inverses13
inverses f16 = inverses16
inverses f25 = inverses25
inverses f27 = inverses27

-- the test of three elements, at each first one below a number
Passes : Gf → ℕ → Type 0
Passes q n = (a b c : ℕ) → a < n → b < order q → c < order q → passes_three q a b c ≡ true

none : (q : Gf) → Passes q 0
unfolding Passes
none q a b c h j k = absurd (not-suc-le-zero h)

more : (q : Gf) (m n : ℕ) → Passes q m → passes_from q m n ≡ true → Passes q (m + n)
unfolding Passes passes_from
more q m n before test a b c h j k = elim (cases_lt a m) [
  | inl less ↦ before a b c less j k
  | inr past ↦
      let here : a - m < n = omega arith in
      let same : m + (a - m) ≡ a = omega arith in
      subst (λ e. passes_three q e b c ≡ true) same
      (all_below-at (order q) (λ c. passes_three q (m + (a - m)) b c)
      (all_below-at (order q) (λ b. all_below (order q) (λ c. passes_three q (m + (a - m)) b c))
      (all_below-at n (λ a. all_below (order q) (λ b. all_below (order q) (λ c. passes_three q (m + a) b c))) test (a - m) here) b j) c k)
]

triples_of : (q : Gf) → Passes q (order q)
triples_of f2 = more f2 0 2 (none f2) rows2_0
triples_of f3 = more f3 0 3 (none f3) rows3_0
triples_of f4 = more f4 0 4 (none f4) rows4_0
triples_of f5 = more f5 0 5 (none f5) rows5_0
triples_of f7 = more f7 0 7 (none f7) rows7_0
triples_of f8 = more f8 0 8 (none f8) rows8_0
triples_of f9 = more f9 0 9 (none f9) rows9_0
triples_of f11 = more f11 0 11 (none f11) rows11_0
triples_of f13 = more f13 0 13 (none f13) rows13_0
triples_of f16 = more f16 12 4 (more f16 6 6 (more f16 0 6 (none f16) rows16_0) rows16_6) rows16_12
triples_of f25 = more f25 24 1 (more f25 20 4 (more f25 16 4 (more f25 12 4 (more f25 8 4 (more f25 4 4 (more f25 0 4 (none f25) rows25_0) rows25_4) rows25_8) rows25_12) rows25_16) rows25_20) rows25_24
triples_of f27 = more f27 24 3 (more f27 21 3 (more f27 18 3 (more f27 15 3 (more f27 12 3 (more f27 9 3 (more f27 6 3 (more f27 3 3 (more f27 0 3 (none f27) rows27_0) rows27_3) rows27_6) rows27_9) rows27_12) rows27_15) rows27_18) rows27_21) rows27_24

pub triples : (q : Gf) (a b c : ℕ) → a < order q → b < order q → c < order q → passes_three q a b c ≡ true
unfolding Passes
triples = triples_of
