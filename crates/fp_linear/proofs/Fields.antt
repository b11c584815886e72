-- What the size of a field says of it, and the tables that the code reads.
use Rattle.std.proofs.Common.{ℕ, ◌<◌, ◌≡◌, ◌≢◌, ◌+◌, ◌*◌, ◌%◌, ◌-◌, List, get_or, refl, sym, ap, ◌∙◌, eqb, Bool, true, arith, eqb-true, bit_xor, length, take, drop}
use Rattle.std.proofs.lemmas.List.{length-take-le, length-drop, get_or-take, get_or-drop}
use Rattle.std.proofs.lemmas.Nat.{div-mul-add, mod-mul-add, mul-add-lt, row_fits}
use Rattle.linear_algebra.specs.Field.{Gf, f2, f3, f4, f5, f7, f8, f9, f11, f13, f16, f25, f27, order, degree, characteristic, polynomial, coefficients, number, plus, times, multiple, opposite, front, top, remainder, add, mul, neg, inv}
use Rattle.linear_algebra.specs.FieldLaws.{order-pos, mul_cancel, mul_inv, inv_below}
use Rattle.linear_algebra.specs.FieldTests.{all_below, all_below-at}
use Rattle.linear_algebra.specs.Rows.{list_of}
use Rattle.linear_algebra.proofs.Rows.{get_or-list_of, length-list_of}
use Rattle.fp_linear.specs.Slices.{IsRowOfProducts}
use Rattle.fp_linear.specs.Tables.{table_of}
use Rattle.fp_linear.specs.declared.tables.TheConstants.{PRODUCTS_4, PRODUCTS_8, PRODUCTS_9, PRODUCTS_16, PRODUCTS_25, PRODUCTS_27}

pub length-table_of : (n : ℕ) (f : ℕ → ℕ → ℕ) → length (table_of n f) ≡ n * n
unfolding table_of
length-table_of n f = length-list_of (n * n) _

pub table_of-at : (n : ℕ) (f : ℕ → ℕ → ℕ) (a b : ℕ) → a < n → b < n → get_or (table_of n f) (a * n + b) 0 ≡ f a b
unfolding table_of
table_of-at n f a b h k = get_or-list_of (n * n) _ (a * n + b) 0 (mul-add-lt a n b n h k) ∙ ap (λ i. f i ((a * n + b) % n)) (div-mul-add a n b k) ∙ ap (f a) (mod-mul-add a n b k)

pub products_4 : PRODUCTS_4 ≡ table_of 4 (mul f4)
unfolding table_of list_of mul polynomial coefficients number plus times multiple front top remainder
products_4 = refl

pub products_8 : PRODUCTS_8 ≡ table_of 8 (mul f8)
unfolding table_of list_of mul polynomial coefficients number plus times multiple front top remainder
products_8 = refl

pub products_9 : PRODUCTS_9 ≡ table_of 9 (mul f9)
unfolding table_of list_of mul polynomial coefficients number plus times multiple front top remainder
products_9 = refl

pub products_16 : PRODUCTS_16 ≡ table_of 16 (mul f16)
unfolding table_of list_of mul polynomial coefficients number plus times multiple front top remainder
products_16 = refl

pub products_25 : PRODUCTS_25 ≡ table_of 25 (mul f25)
unfolding table_of list_of mul polynomial coefficients number plus times multiple front top remainder
products_25 = refl

pub products_27 : PRODUCTS_27 ≡ table_of 27 (mul f27)
unfolding table_of list_of mul polynomial coefficients number plus times multiple front top remainder
products_27 = refl

-- sums of the fields of 2, 4, 8 and 16 elements
unfoldable xor_tests : Gf → Bool
xor_tests q = all_below (order q) (λ a. all_below (order q) (λ b. eqb (bit_xor a b) (add q a b)))

xor_at : (q : Gf) → xor_tests q ≡ true → (a b : ℕ) → a < order q → b < order q → bit_xor a b ≡ add q a b
unfolding xor_tests
xor_at q h a b k l = eqb-true (bit_xor a b) (add q a b) (all_below-at (order q) (λ b. eqb (bit_xor a b) (add q a b)) (all_below-at (order q) (λ a. all_below (order q) (λ b. eqb (bit_xor a b) (add q a b))) h a k) b l)

xor_2 : xor_tests f2 ≡ true
unfolding xor_tests all_below add polynomial coefficients number plus
xor_2 = refl

xor_4 : xor_tests f4 ≡ true
unfolding xor_tests all_below add polynomial coefficients number plus
xor_4 = refl

xor_8 : xor_tests f8 ≡ true
unfolding xor_tests all_below add polynomial coefficients number plus
xor_8 = refl

xor_16 : xor_tests f16 ≡ true
unfolding xor_tests all_below add polynomial coefficients number plus
xor_16 = refl

pub xor_adds : (q : Gf) (a b : ℕ) → characteristic q ≡ 2 → a < order q → b < order q → bit_xor a b ≡ add q a b
xor_adds f2 a b c h k = xor_at f2 xor_2 a b h k
xor_adds f3 a b c h k = absurd (omega arith)
xor_adds f4 a b c h k = xor_at f4 xor_4 a b h k
xor_adds f5 a b c h k = absurd (omega arith)
xor_adds f7 a b c h k = absurd (omega arith)
xor_adds f8 a b c h k = xor_at f8 xor_8 a b h k
xor_adds f9 a b c h k = absurd (omega arith)
xor_adds f11 a b c h k = absurd (omega arith)
xor_adds f13 a b c h k = absurd (omega arith)
xor_adds f16 a b c h k = xor_at f16 xor_16 a b h k
xor_adds f25 a b c h k = absurd (omega arith)
xor_adds f27 a b c h k = absurd (omega arith)

-- the field that is left when the others are ruled out
pub is_27 : (q : Gf) → degree q ≢ 1 → order q ≢ 4 → order q ≢ 8 → order q ≢ 9 → order q ≢ 16 → order q ≢ 25 → q ≡ f27
is_27 f2 d a b c e f = absurd (d refl)
is_27 f3 d a b c e f = absurd (d refl)
is_27 f4 d a b c e f = absurd (a refl)
is_27 f5 d a b c e f = absurd (d refl)
is_27 f7 d a b c e f = absurd (d refl)
is_27 f8 d a b c e f = absurd (b refl)
is_27 f9 d a b c e f = absurd (c refl)
is_27 f11 d a b c e f = absurd (d refl)
is_27 f13 d a b c e f = absurd (d refl)
is_27 f16 d a b c e f = absurd (e refl)
is_27 f25 d a b c e f = absurd (f refl)
is_27 f27 d a b c e f = refl

pub is_odd_27 : (q : Gf) → degree q ≢ 1 → characteristic q ≢ 2 → order q ≢ 9 → order q ≢ 25 → q ≡ f27
is_odd_27 f2 d p b c = absurd (d refl)
is_odd_27 f3 d p b c = absurd (d refl)
is_odd_27 f4 d p b c = absurd (p refl)
is_odd_27 f5 d p b c = absurd (d refl)
is_odd_27 f7 d p b c = absurd (d refl)
is_odd_27 f8 d p b c = absurd (p refl)
is_odd_27 f9 d p b c = absurd (b refl)
is_odd_27 f11 d p b c = absurd (d refl)
is_odd_27 f13 d p b c = absurd (d refl)
is_odd_27 f16 d p b c = absurd (p refl)
is_odd_27 f25 d p b c = absurd (c refl)
is_odd_27 f27 d p b c = refl

-- negatives
unfoldable same_negatives : Gf → Bool
same_negatives q = all_below (order q) (λ a. eqb a (neg q a))

neg_at : (q : Gf) → same_negatives q ≡ true → (a : ℕ) → a < order q → a ≡ neg q a
unfolding same_negatives
neg_at q h a k = eqb-true a (neg q a) (all_below-at (order q) (λ a. eqb a (neg q a)) h a k)

neg_2 : same_negatives f2 ≡ true
unfolding same_negatives all_below neg polynomial coefficients number opposite
neg_2 = refl

neg_4 : same_negatives f4 ≡ true
unfolding same_negatives all_below neg polynomial coefficients number opposite
neg_4 = refl

neg_8 : same_negatives f8 ≡ true
unfolding same_negatives all_below neg polynomial coefficients number opposite
neg_8 = refl

neg_16 : same_negatives f16 ≡ true
unfolding same_negatives all_below neg polynomial coefficients number opposite
neg_16 = refl

pub neg_binary : (q : Gf) (a : ℕ) → characteristic q ≡ 2 → a < order q → a ≡ neg q a
neg_binary f2 a c h = neg_at f2 neg_2 a h
neg_binary f3 a c h = absurd (omega arith)
neg_binary f4 a c h = neg_at f4 neg_4 a h
neg_binary f5 a c h = absurd (omega arith)
neg_binary f7 a c h = absurd (omega arith)
neg_binary f8 a c h = neg_at f8 neg_8 a h
neg_binary f9 a c h = absurd (omega arith)
neg_binary f11 a c h = absurd (omega arith)
neg_binary f13 a c h = absurd (omega arith)
neg_binary f16 a c h = neg_at f16 neg_16 a h
neg_binary f25 a c h = absurd (omega arith)
neg_binary f27 a c h = absurd (omega arith)

unfoldable negative_products : Gf → ℕ → Bool
negative_products q m = all_below (order q) (λ a. eqb (mul q m a) (neg q a))

neg_by_product : (q : Gf) (m : ℕ) → negative_products q m ≡ true → (a : ℕ) → a < order q → mul q m a ≡ neg q a
unfolding negative_products
neg_by_product q m h a k = eqb-true (mul q m a) (neg q a) (all_below-at (order q) (λ a. eqb (mul q m a) (neg q a)) h a k)

neg_9 : negative_products f9 2 ≡ true
unfolding negative_products all_below mul polynomial coefficients number plus times multiple front top remainder neg opposite
neg_9 = refl

neg_25 : negative_products f25 4 ≡ true
unfolding negative_products all_below mul polynomial coefficients number plus times multiple front top remainder neg opposite
neg_25 = refl

neg_27 : negative_products f27 2 ≡ true
unfolding negative_products all_below mul polynomial coefficients number plus times multiple front top remainder neg opposite
neg_27 = refl

pub neg_25_by_product : (q : Gf) (a : ℕ) → order q ≡ 25 → a < order q → mul q 4 a ≡ neg q a
neg_25_by_product f2 a e h = absurd (omega arith)
neg_25_by_product f3 a e h = absurd (omega arith)
neg_25_by_product f4 a e h = absurd (omega arith)
neg_25_by_product f5 a e h = absurd (omega arith)
neg_25_by_product f7 a e h = absurd (omega arith)
neg_25_by_product f8 a e h = absurd (omega arith)
neg_25_by_product f9 a e h = absurd (omega arith)
neg_25_by_product f11 a e h = absurd (omega arith)
neg_25_by_product f13 a e h = absurd (omega arith)
neg_25_by_product f16 a e h = absurd (omega arith)
neg_25_by_product f25 a e h = neg_by_product f25 4 neg_25 a h
neg_25_by_product f27 a e h = absurd (omega arith)

pub neg_odd : (q : Gf) (a : ℕ) → degree q ≢ 1 → characteristic q ≢ 2 → order q ≢ 25 → a < order q → mul q 2 a ≡ neg q a
neg_odd f2 a d p e h = absurd (d refl)
neg_odd f3 a d p e h = absurd (d refl)
neg_odd f4 a d p e h = absurd (p refl)
neg_odd f5 a d p e h = absurd (d refl)
neg_odd f7 a d p e h = absurd (d refl)
neg_odd f8 a d p e h = absurd (p refl)
neg_odd f9 a d p e h = neg_by_product f9 2 neg_9 a h
neg_odd f11 a d p e h = absurd (d refl)
neg_odd f13 a d p e h = absurd (d refl)
neg_odd f16 a d p e h = absurd (p refl)
neg_odd f25 a d p e h = absurd (e refl)
neg_odd f27 a d p e h = neg_by_product f27 2 neg_27 a h

unfoldable prime_negatives : Gf → Bool
prime_negatives q = all_below (order q) (λ a. eqb ((order q - a) % order q) (neg q a))

prime_neg_at : (q : Gf) → prime_negatives q ≡ true → (a : ℕ) → a < order q → (order q - a) % order q ≡ neg q a
unfolding prime_negatives
prime_neg_at q h a k = eqb-true ((order q - a) % order q) (neg q a) (all_below-at (order q) (λ a. eqb ((order q - a) % order q) (neg q a)) h a k)

prime_neg_2 : prime_negatives f2 ≡ true
unfolding prime_negatives all_below neg polynomial coefficients number opposite
prime_neg_2 = refl

prime_neg_3 : prime_negatives f3 ≡ true
unfolding prime_negatives all_below neg polynomial coefficients number opposite
prime_neg_3 = refl

prime_neg_5 : prime_negatives f5 ≡ true
unfolding prime_negatives all_below neg polynomial coefficients number opposite
prime_neg_5 = refl

prime_neg_7 : prime_negatives f7 ≡ true
unfolding prime_negatives all_below neg polynomial coefficients number opposite
prime_neg_7 = refl

prime_neg_11 : prime_negatives f11 ≡ true
unfolding prime_negatives all_below neg polynomial coefficients number opposite
prime_neg_11 = refl

prime_neg_13 : prime_negatives f13 ≡ true
unfolding prime_negatives all_below neg polynomial coefficients number opposite
prime_neg_13 = refl

pub prime_neg : (q : Gf) (a : ℕ) → degree q ≡ 1 → a < order q → (order q - a) % order q ≡ neg q a
prime_neg f2 a d h = prime_neg_at f2 prime_neg_2 a h
prime_neg f3 a d h = prime_neg_at f3 prime_neg_3 a h
prime_neg f4 a d h = absurd (omega arith)
prime_neg f5 a d h = prime_neg_at f5 prime_neg_5 a h
prime_neg f7 a d h = prime_neg_at f7 prime_neg_7 a h
prime_neg f8 a d h = absurd (omega arith)
prime_neg f9 a d h = absurd (omega arith)
prime_neg f11 a d h = prime_neg_at f11 prime_neg_11 a h
prime_neg f13 a d h = prime_neg_at f13 prime_neg_13 a h
prime_neg f16 a d h = absurd (omega arith)
prime_neg f25 a d h = absurd (omega arith)
prime_neg f27 a d h = absurd (omega arith)

-- there is one inverse
pub inverse_unique : (q : Gf) (a b : ℕ) → a < order q → a ≢ 0 → b < order q → mul q a b ≡ 1 → b ≡ inv q a
inverse_unique q a b h n k e = mul_cancel q a b (inv q a) h n (e ∙ sym (mul_inv q a h n)) k (inv_below q a)

pub two_is_binary : (q : Gf) → order q ≡ 2 → characteristic q ≡ 2
two_is_binary f2 e = refl
two_is_binary f3 e = absurd (omega arith)
two_is_binary f4 e = absurd (omega arith)
two_is_binary f5 e = absurd (omega arith)
two_is_binary f7 e = absurd (omega arith)
two_is_binary f8 e = absurd (omega arith)
two_is_binary f9 e = absurd (omega arith)
two_is_binary f11 e = absurd (omega arith)
two_is_binary f13 e = absurd (omega arith)
two_is_binary f16 e = absurd (omega arith)
two_is_binary f25 e = absurd (omega arith)
two_is_binary f27 e = absurd (omega arith)

-- a row of the table of products
pub row_of_products : (q : Gf) (factor n at : ℕ) (s : List ℕ) → s ≡ table_of (order q) (mul q) → factor < order q → n ≡ order q → at ≡ factor * order q → IsRowOfProducts q factor (take n (drop at s))
row_of_products q factor n at s e h k l =
    let inside = mul-add-lt factor (order q) 0 (order q) h (order-pos q) in
    let most = row_fits factor (order q) (order q) (order q) h (omega arith) in
    let whole : length s ≡ order q * order q = ap length e ∙ length-table_of (order q) (mul q) in
    record {
      count = length-take-le n (drop at s) (simp length-drop (omega arith)) ∙ k;
      products = λ b r. get_or-take n (drop at s) b 0 (omega arith) ∙ get_or-drop at s b 0 ∙ ap (λ t. get_or t (at + b) 0) e ∙ ap (λ i. get_or (table_of (order q) (mul q)) (i + b) 0) l ∙ table_of-at (order q) (mul q) factor b h r;
    }
