-- The laws of the operations, for all numbers. Nothing above this module opens an operation.
use Rattle.std.specs.Prelude.{ℕ, zero, suc, ◌-◌, ◌%◌, ◌<◌, ◌≡◌, ◌≢◌, Bool, true, false, eqb, ltb, refl, ◌&&◌, ◌||◌}
use Rattle.std.proofs.Common.{subst, ◌∙◌, arith, sym, ap, ap₂, eqb-true, ltb-true, ne_eqb, mod-lt, mod-eq_of_lt}
use Rattle.std.proofs.Math.Nat.{mod-mod}
use Rattle.std.proofs.lemmas.Bool.{and_parts}
use Rattle.linear_algebra.specs.Field.{Gf, f2, f3, f4, f5, f7, f8, f9, f11, f13, f16, f25, f27, order, polynomial, add, mul, neg, sub, inv, inverse_below}
use Rattle.linear_algebra.specs.FieldTables.{sum_of, product_of}
use Rattle.linear_algebra.specs.FieldTests.{all_below, all_below-at, passes_pair, passes_pairs, pairs, passes_one, passes_ones, ones, passes_inverses, inverses, passes_three, triples}

pub one-lt-order : (q : Gf) → 1 < order q
one-lt-order f2 = omega arith
one-lt-order f3 = omega arith
one-lt-order f4 = omega arith
one-lt-order f5 = omega arith
one-lt-order f7 = omega arith
one-lt-order f8 = omega arith
one-lt-order f9 = omega arith
one-lt-order f11 = omega arith
one-lt-order f13 = omega arith
one-lt-order f16 = omega arith
one-lt-order f25 = omega arith
one-lt-order f27 = omega arith

pub order-pos : (q : Gf) → 0 < order q
order-pos q = omega (arith, one-lt-order q)

-- A number counts by its remainder.

pub add-mod : (q : Gf) (a b : ℕ) → add q (a % order q) (b % order q) ≡ add q a b
unfolding add polynomial
add-mod q a b = simp mod-mod

pub mul-mod : (q : Gf) (a b : ℕ) → mul q (a % order q) (b % order q) ≡ mul q a b
unfolding mul polynomial
mul-mod q a b = simp mod-mod

pub neg-mod : (q : Gf) (a : ℕ) → neg q (a % order q) ≡ neg q a
unfolding neg polynomial
neg-mod q a = simp mod-mod

pub add-mod_left : (q : Gf) (a b : ℕ) → add q (a % order q) b ≡ add q a b
unfolding add polynomial
add-mod_left q a b = simp mod-mod

pub add-mod_right : (q : Gf) (a b : ℕ) → add q a (b % order q) ≡ add q a b
unfolding add polynomial
add-mod_right q a b = simp mod-mod

pub mul-mod_left : (q : Gf) (a b : ℕ) → mul q (a % order q) b ≡ mul q a b
unfolding mul polynomial
mul-mod_left q a b = simp mod-mod

pub mul-mod_right : (q : Gf) (a b : ℕ) → mul q a (b % order q) ≡ mul q a b
unfolding mul polynomial
mul-mod_right q a b = simp mod-mod

mod_below : (q : Gf) (a : ℕ) → a % order q < order q
mod_below q a = mod-lt a (order-pos q)

-- What the tests say of two elements, and of three.
record IsPair (q : Gf) (a b : ℕ) : Type 0 where
  sum : add q a b ≡ sum_of q a b
  product : mul q a b ≡ product_of q a b
  sum_fits : sum_of q a b < order q
  product_fits : product_of q a b < order q
  sum_swap : sum_of q a b ≡ sum_of q b a
  product_swap : product_of q a b ≡ product_of q b a

pair-of : (q : Gf) (a b : ℕ) → passes_pair q a b ≡ true → IsPair q a b
unfolding passes_pair
pair-of q a b h =
    let h1 = and_parts (eqb (add q a b) (sum_of q a b)) (eqb (mul q a b) (product_of q a b) && (ltb (sum_of q a b) (order q) && (ltb (product_of q a b) (order q) && (eqb (sum_of q a b) (sum_of q b a) && eqb (product_of q a b) (product_of q b a))))) h in
    let h2 = and_parts (eqb (mul q a b) (product_of q a b)) (ltb (sum_of q a b) (order q) && (ltb (product_of q a b) (order q) && (eqb (sum_of q a b) (sum_of q b a) && eqb (product_of q a b) (product_of q b a)))) h1.1 in
    let h3 = and_parts (ltb (sum_of q a b) (order q)) (ltb (product_of q a b) (order q) && (eqb (sum_of q a b) (sum_of q b a) && eqb (product_of q a b) (product_of q b a))) h2.1 in
    let h4 = and_parts (ltb (product_of q a b) (order q)) (eqb (sum_of q a b) (sum_of q b a) && eqb (product_of q a b) (product_of q b a)) h3.1 in
    let h5 = and_parts (eqb (sum_of q a b) (sum_of q b a)) (eqb (product_of q a b) (product_of q b a)) h4.1 in
    record {
      sum = eqb-true _ _ h1.0;
      product = eqb-true _ _ h2.0;
      sum_fits = ltb-true _ _ h3.0;
      product_fits = ltb-true _ _ h4.0;
      sum_swap = eqb-true _ _ h5.0;
      product_swap = eqb-true _ _ h5.1;
    }

pair : (q : Gf) (a b : ℕ) → a < order q → b < order q → IsPair q a b
unfolding passes_pairs
pair q a b h k = pair-of q a b (all_below-at (order q) (λ b. passes_pair q a b) (all_below-at (order q) (λ a. all_below (order q) (λ b. passes_pair q a b)) (pairs q) a h) b k)

-- On elements the operations are the written ones.
pub add_table : (q : Gf) (a b : ℕ) → a < order q → b < order q → add q a b ≡ sum_of q a b
add_table q a b h k = (pair q a b h k).sum

pub mul_table : (q : Gf) (a b : ℕ) → a < order q → b < order q → mul q a b ≡ product_of q a b
mul_table q a b h k = (pair q a b h k).product

record IsTriple (q : Gf) (a b c : ℕ) : Type 0 where
  sums : sum_of q (sum_of q a b) c ≡ sum_of q a (sum_of q b c)
  products : product_of q (product_of q a b) c ≡ product_of q a (product_of q b c)
  mixed : product_of q a (sum_of q b c) ≡ sum_of q (product_of q a b) (product_of q a c)

triple : (q : Gf) (a b c : ℕ) → a < order q → b < order q → c < order q → IsTriple q a b c
unfolding passes_three
triple q a b c h j k =
    let h1 = and_parts (eqb (sum_of q (sum_of q a b) c) (sum_of q a (sum_of q b c))) (eqb (product_of q (product_of q a b) c) (product_of q a (product_of q b c)) && eqb (product_of q a (sum_of q b c)) (sum_of q (product_of q a b) (product_of q a c))) (triples q a b c h j k) in
    let h2 = and_parts (eqb (product_of q (product_of q a b) c) (product_of q a (product_of q b c))) (eqb (product_of q a (sum_of q b c)) (sum_of q (product_of q a b) (product_of q a c))) h1.1 in
    record {
      sums = eqb-true _ _ h1.0;
      products = eqb-true _ _ h2.0;
      mixed = eqb-true _ _ h2.1;
    }

record IsOne (q : Gf) (a : ℕ) : Type 0 where
  add_zero : add q a 0 ≡ a
  mul_one : mul q a 1 ≡ a
  mul_zero : mul q a 0 ≡ 0
  neg_below : neg q a < order q
  add_neg : add q a (neg q a) ≡ 0

one-of : (q : Gf) (a : ℕ) → passes_one q a ≡ true → IsOne q a
unfolding passes_one
one-of q a h =
    let h1 = and_parts (eqb (add q a 0) a) (eqb (mul q a 1) a && (eqb (mul q a 0) 0 && (ltb (neg q a) (order q) && eqb (add q a (neg q a)) 0))) h in
    let h2 = and_parts (eqb (mul q a 1) a) (eqb (mul q a 0) 0 && (ltb (neg q a) (order q) && eqb (add q a (neg q a)) 0)) h1.1 in
    let h3 = and_parts (eqb (mul q a 0) 0) (ltb (neg q a) (order q) && eqb (add q a (neg q a)) 0) h2.1 in
    let h4 = and_parts (ltb (neg q a) (order q)) (eqb (add q a (neg q a)) 0) h3.1 in
    record {
      add_zero = eqb-true _ _ h1.0;
      mul_one = eqb-true _ _ h2.0;
      mul_zero = eqb-true _ _ h3.0;
      neg_below = ltb-true _ _ h4.0;
      add_neg = eqb-true _ _ h4.1;
    }

one : (q : Gf) (a : ℕ) → IsOne q (a % order q)
unfolding passes_ones
one q a = one-of q (a % order q) (all_below-at (order q) (passes_one q) (ones q) (a % order q) (mod_below q a))

-- Results are elements.

pub add_below : (q : Gf) (a b : ℕ) → add q a b < order q
add_below q a b =
    let p = pair q (a % order q) (b % order q) (mod_below q a) (mod_below q b) in
    subst (λ s. s < order q) (sym p.sum ∙ add-mod q a b) p.sum_fits

pub mul_below : (q : Gf) (a b : ℕ) → mul q a b < order q
mul_below q a b =
    let p = pair q (a % order q) (b % order q) (mod_below q a) (mod_below q b) in
    subst (λ s. s < order q) (sym p.product ∙ mul-mod q a b) p.product_fits

pub neg_below : (q : Gf) (a : ℕ) → neg q a < order q
neg_below q a = subst (λ s. s < order q) (neg-mod q a) (one q a).neg_below

pub sub_below : (q : Gf) (a b : ℕ) → sub q a b < order q
unfolding sub
sub_below q a b = add_below q a (neg q b)

pub mod-add : (q : Gf) (a b : ℕ) → add q a b % order q ≡ add q a b
mod-add q a b = mod-eq_of_lt (add_below q a b)

pub mod-mul : (q : Gf) (a b : ℕ) → mul q a b % order q ≡ mul q a b
mod-mul q a b = mod-eq_of_lt (mul_below q a b)

pub mod-neg : (q : Gf) (a : ℕ) → neg q a % order q ≡ neg q a
mod-neg q a = mod-eq_of_lt (neg_below q a)

-- The laws of a commutative ring.

pub add_comm : (q : Gf) (a b : ℕ) → add q a b ≡ add q b a
add_comm q a b =
    let p = pair q (a % order q) (b % order q) (mod_below q a) (mod_below q b) in
    let r = pair q (b % order q) (a % order q) (mod_below q b) (mod_below q a) in
    sym (add-mod q a b) ∙ p.sum ∙ p.sum_swap ∙ sym r.sum ∙ add-mod q b a

pub mul_comm : (q : Gf) (a b : ℕ) → mul q a b ≡ mul q b a
mul_comm q a b =
    let p = pair q (a % order q) (b % order q) (mod_below q a) (mod_below q b) in
    let r = pair q (b % order q) (a % order q) (mod_below q b) (mod_below q a) in
    sym (mul-mod q a b) ∙ p.product ∙ p.product_swap ∙ sym r.product ∙ mul-mod q b a

add_assoc_elements : (q : Gf) (a b c : ℕ) → a < order q → b < order q → c < order q → add q (add q a b) c ≡ add q a (add q b c)
add_assoc_elements q a b c h j k =
    let ab = pair q a b h j in
    let bc = pair q b c j k in
    let t = triple q a b c h j k in
    ap (λ s. add q s c) ab.sum ∙ (pair q (sum_of q a b) c ab.sum_fits k).sum ∙ t.sums ∙ sym (pair q a (sum_of q b c) h bc.sum_fits).sum ∙ ap (add q a) (sym bc.sum)

mul_assoc_elements : (q : Gf) (a b c : ℕ) → a < order q → b < order q → c < order q → mul q (mul q a b) c ≡ mul q a (mul q b c)
mul_assoc_elements q a b c h j k =
    let ab = pair q a b h j in
    let bc = pair q b c j k in
    let t = triple q a b c h j k in
    ap (λ s. mul q s c) ab.product ∙ (pair q (product_of q a b) c ab.product_fits k).product ∙ t.products ∙ sym (pair q a (product_of q b c) h bc.product_fits).product ∙ ap (mul q a) (sym bc.product)

mul_add_elements : (q : Gf) (a b c : ℕ) → a < order q → b < order q → c < order q → mul q a (add q b c) ≡ add q (mul q a b) (mul q a c)
mul_add_elements q a b c h j k =
    let ab = pair q a b h j in
    let ac = pair q a c h k in
    let bc = pair q b c j k in
    let t = triple q a b c h j k in
    ap (mul q a) bc.sum ∙ (pair q a (sum_of q b c) h bc.sum_fits).product ∙ t.mixed ∙ sym (pair q (product_of q a b) (product_of q a c) ab.product_fits ac.product_fits).sum ∙ ap₂ (add q) (sym ab.product) (sym ac.product)

pub add_assoc : (q : Gf) (a b c : ℕ) → add q (add q a b) c ≡ add q a (add q b c)
add_assoc q a b c =
    let from : add q (add q a b) c ≡ add q (add q (a % order q) (b % order q)) (c % order q) =
    ap (λ s. add q s c) (sym (add-mod q a b)) ∙ sym (add-mod_right q (add q (a % order q) (b % order q)) c) in
    let to : add q (a % order q) (add q (b % order q) (c % order q)) ≡ add q a (add q b c) =
    add-mod_left q a (add q (b % order q) (c % order q)) ∙ ap (add q a) (add-mod q b c) in
    from ∙ add_assoc_elements q (a % order q) (b % order q) (c % order q) (mod_below q a) (mod_below q b) (mod_below q c) ∙ to

pub mul_assoc : (q : Gf) (a b c : ℕ) → mul q (mul q a b) c ≡ mul q a (mul q b c)
mul_assoc q a b c =
    let from : mul q (mul q a b) c ≡ mul q (mul q (a % order q) (b % order q)) (c % order q) =
    ap (λ s. mul q s c) (sym (mul-mod q a b)) ∙ sym (mul-mod_right q (mul q (a % order q) (b % order q)) c) in
    let to : mul q (a % order q) (mul q (b % order q) (c % order q)) ≡ mul q a (mul q b c) =
    mul-mod_left q a (mul q (b % order q) (c % order q)) ∙ ap (mul q a) (mul-mod q b c) in
    from ∙ mul_assoc_elements q (a % order q) (b % order q) (c % order q) (mod_below q a) (mod_below q b) (mod_below q c) ∙ to

pub mul_add : (q : Gf) (a b c : ℕ) → mul q a (add q b c) ≡ add q (mul q a b) (mul q a c)
mul_add q a b c =
    let from : mul q a (add q b c) ≡ mul q (a % order q) (add q (b % order q) (c % order q)) =
    sym (mul-mod_left q a (add q b c)) ∙ ap (mul q (a % order q)) (sym (add-mod q b c)) in
    let to : add q (mul q (a % order q) (b % order q)) (mul q (a % order q) (c % order q)) ≡ add q (mul q a b) (mul q a c) =
    ap₂ (add q) (mul-mod q a b) (mul-mod q a c) in
    from ∙ mul_add_elements q (a % order q) (b % order q) (c % order q) (mod_below q a) (mod_below q b) (mod_below q c) ∙ to

pub add_mul : (q : Gf) (a b c : ℕ) → mul q (add q a b) c ≡ add q (mul q a c) (mul q b c)
add_mul q a b c = mul_comm q (add q a b) c ∙ mul_add q c a b ∙ ap₂ (add q) (mul_comm q c a) (mul_comm q c b)

pub add_left_comm : (q : Gf) (a b c : ℕ) → add q a (add q b c) ≡ add q b (add q a c)
add_left_comm q a b c = sym (add_assoc q a b c) ∙ ap (λ s. add q s c) (add_comm q a b) ∙ add_assoc q b a c

pub mul_left_comm : (q : Gf) (a b c : ℕ) → mul q a (mul q b c) ≡ mul q b (mul q a c)
mul_left_comm q a b c = sym (mul_assoc q a b c) ∙ ap (λ s. mul q s c) (mul_comm q a b) ∙ mul_assoc q b a c

-- Products and sums of several terms, in one order, with every product of a sum multiplied out.
pub ruleset ring = (mul_add, add_mul, add_assoc, add_left_comm, add_comm, mul_assoc, mul_left_comm, mul_comm)

pub add_zero-mod : (q : Gf) (a : ℕ) → add q a 0 ≡ a % order q
add_zero-mod q a = sym (add-mod_left q a 0) ∙ (one q a).add_zero

pub zero_add-mod : (q : Gf) (a : ℕ) → add q 0 a ≡ a % order q
zero_add-mod q a = add_comm q 0 a ∙ add_zero-mod q a

pub mul_one-mod : (q : Gf) (a : ℕ) → mul q a 1 ≡ a % order q
mul_one-mod q a = sym (mul-mod_left q a 1) ∙ (one q a).mul_one

pub one_mul-mod : (q : Gf) (a : ℕ) → mul q 1 a ≡ a % order q
one_mul-mod q a = mul_comm q 1 a ∙ mul_one-mod q a

pub add_zero : (q : Gf) (a : ℕ) → a < order q → add q a 0 ≡ a
add_zero q a h = add_zero-mod q a ∙ mod-eq_of_lt h

pub zero_add : (q : Gf) (a : ℕ) → a < order q → add q 0 a ≡ a
zero_add q a h = zero_add-mod q a ∙ mod-eq_of_lt h

pub mul_one : (q : Gf) (a : ℕ) → a < order q → mul q a 1 ≡ a
mul_one q a h = mul_one-mod q a ∙ mod-eq_of_lt h

pub one_mul : (q : Gf) (a : ℕ) → a < order q → mul q 1 a ≡ a
one_mul q a h = one_mul-mod q a ∙ mod-eq_of_lt h

pub mul_zero : (q : Gf) (a : ℕ) → mul q a 0 ≡ 0
mul_zero q a = sym (mul-mod_left q a 0) ∙ (one q a).mul_zero

pub zero_mul : (q : Gf) (a : ℕ) → mul q 0 a ≡ 0
zero_mul q a = mul_comm q 0 a ∙ mul_zero q a

pub add_neg : (q : Gf) (a : ℕ) → add q a (neg q a) ≡ 0
add_neg q a = sym (add-mod_left q a (neg q a)) ∙ ap (add q (a % order q)) (sym (neg-mod q a)) ∙ (one q a).add_neg

pub neg_add_self : (q : Gf) (a : ℕ) → add q (neg q a) a ≡ 0
neg_add_self q a = add_comm q (neg q a) a ∙ add_neg q a

pub sub_def : (q : Gf) (a b : ℕ) → sub q a b ≡ add q a (neg q b)
unfolding sub
sub_def q a b = refl

pub sub_self : (q : Gf) (a : ℕ) → sub q a a ≡ 0
sub_self q a = sub_def q a a ∙ add_neg q a

pub zero-mod : (q : Gf) → 0 % order q ≡ 0
zero-mod q = mod-eq_of_lt (order-pos q)

pub one-mod : (q : Gf) → 1 % order q ≡ 1
one-mod q = mod-eq_of_lt (one-lt-order q)

pub add_zero_zero : (q : Gf) → add q 0 0 ≡ 0
add_zero_zero q = add_zero q 0 (order-pos q)

pub neg_zero : (q : Gf) → neg q 0 ≡ 0
neg_zero q = sym (zero_add q (neg q 0) (neg_below q 0)) ∙ add_neg q 0

pub sub_zero : (q : Gf) (a : ℕ) → a < order q → sub q a 0 ≡ a
sub_zero q a h = sub_def q a 0 ∙ ap (add q a) (neg_zero q) ∙ add_zero q a h

-- What is added on both sides is cancelled.

pub neg_add-cancel : (q : Gf) (a b : ℕ) → add q (neg q a) (add q a b) ≡ b % order q
neg_add-cancel q a b = sym (add_assoc q (neg q a) a b) ∙ ap (λ s. add q s b) (neg_add_self q a) ∙ zero_add-mod q b

pub add_cancel : (q : Gf) (a b c : ℕ) → add q a b ≡ add q a c → b < order q → c < order q → b ≡ c
add_cancel q a b c e h k = sym (mod-eq_of_lt h) ∙ sym (neg_add-cancel q a b) ∙ ap (add q (neg q a)) e ∙ neg_add-cancel q a c ∙ mod-eq_of_lt k

-- the negative is the only element whose sum with a is zero
pub neg_unique : (q : Gf) (a b : ℕ) → b < order q → add q a b ≡ 0 → b ≡ neg q a
neg_unique q a b h e = add_cancel q a b (neg q a) (e ∙ sym (add_neg q a)) h (neg_below q a)

pub neg_neg : (q : Gf) (a : ℕ) → neg q (neg q a) ≡ a % order q
neg_neg q a = sym (neg_unique q (neg q a) (a % order q) (mod_below q a) (add-mod_right q (neg q a) a ∙ neg_add_self q a))

pub mul_neg : (q : Gf) (a b : ℕ) → mul q a (neg q b) ≡ neg q (mul q a b)
mul_neg q a b = neg_unique q (mul q a b) (mul q a (neg q b)) (mul_below q a (neg q b)) (sym (mul_add q a b (neg q b)) ∙ ap (mul q a) (add_neg q b) ∙ mul_zero q a)

pub neg_mul : (q : Gf) (a b : ℕ) → mul q (neg q a) b ≡ neg q (mul q a b)
neg_mul q a b = mul_comm q (neg q a) b ∙ mul_neg q b a ∙ ap (neg q) (mul_comm q b a)

pub add_swap : (q : Gf) (a b c d : ℕ) → add q (add q a b) (add q c d) ≡ add q (add q a c) (add q b d)
add_swap q a b c d = simp (add_assoc, add_left_comm)

pub neg-add : (q : Gf) (a b : ℕ) → neg q (add q a b) ≡ add q (neg q a) (neg q b)
neg-add q a b =
    sym (neg_unique q (add q a b) (add q (neg q a) (neg q b)) (add_below q (neg q a) (neg q b))
    (add_swap q a b (neg q a) (neg q b) ∙ ap₂ (add q) (add_neg q a) (add_neg q b) ∙ add_zero_zero q))

pub sub_eq_zero : (q : Gf) (a b : ℕ) → a < order q → b < order q → sub q a b ≡ 0 → a ≡ b
sub_eq_zero q a b h k e =
    add_cancel q (neg q b) a b (add_comm q (neg q b) a ∙ sym (sub_def q a b) ∙ e ∙ sym (neg_add_self q b)) h k

-- Inverses.

inverse_below-lt : (q : Gf) (n a : ℕ) → inverse_below q (suc n) a < suc n
unfolding inverse_below
inverse_below-lt q zero a = elim (eqb (mul q a 0) 1) as (λ t. elim t as (λ t. ℕ) [ true ↦ 0 | false ↦ zero ] < 1) [ true ↦ omega arith | false ↦ omega arith ]
inverse_below-lt q (suc n) a =
    let below = inverse_below-lt q n a in
    elim (eqb (mul q a (suc n)) 1) as (λ t. elim t as (λ t. ℕ) [ true ↦ suc n | false ↦ inverse_below q (suc n) a ] < suc (suc n)) [ true ↦ omega arith | false ↦ omega arith ]

pub inv_below : (q : Gf) (a : ℕ) → inv q a < order q
unfolding inv
inv_below q a =
    let positive = order-pos q in
    let same : suc (order q - 1) ≡ order q = omega arith in
    subst (λ n. inverse_below q n a < n) same (inverse_below-lt q (order q - 1) a)

or-false : (x y : Bool) → x || y ≡ true → x ≡ false → y ≡ true
or-false true y h e = grind arith
or-false false y h e = h

pub mul_inv : (q : Gf) (a : ℕ) → a < order q → a ≢ 0 → mul q a (inv q a) ≡ 1
unfolding passes_inverses
mul_inv q a h n =
    eqb-true _ _ (or-false (eqb a 0) (eqb (mul q a (inv q a)) 1) (all_below-at (order q) (λ a. eqb a 0 || eqb (mul q a (inv q a)) 1) (inverses q) a h) (ne_eqb a 0 n))

pub inv_mul : (q : Gf) (a : ℕ) → a < order q → a ≢ 0 → mul q (inv q a) a ≡ 1
inv_mul q a h n = mul_comm q (inv q a) a ∙ mul_inv q a h n

-- a product with a nonzero factor is zero only if the other factor is
pub inv_mul-cancel : (q : Gf) (a b : ℕ) → a < order q → a ≢ 0 → mul q (inv q a) (mul q a b) ≡ b % order q
inv_mul-cancel q a b h n = sym (mul_assoc q (inv q a) a b) ∙ ap (λ s. mul q s b) (inv_mul q a h n) ∙ one_mul-mod q b

pub mul_cancel : (q : Gf) (a b c : ℕ) → a < order q → a ≢ 0 → mul q a b ≡ mul q a c → b < order q → c < order q → b ≡ c
mul_cancel q a b c h n e j k = sym (mod-eq_of_lt j) ∙ sym (inv_mul-cancel q a b h n) ∙ ap (mul q (inv q a)) e ∙ inv_mul-cancel q a c h n ∙ mod-eq_of_lt k

pub mul_nonzero : (q : Gf) (a b : ℕ) → a < order q → a ≢ 0 → b < order q → b ≢ 0 → mul q a b ≢ 0
mul_nonzero q a b h n k m e = m (mul_cancel q a b 0 h n (e ∙ sym (mul_zero q a)) k (order-pos q))

pub inv_nonzero : (q : Gf) (a : ℕ) → a < order q → a ≢ 0 → inv q a ≢ 0
inv_nonzero q a h n e =
    let bad : zero ≡ 1 = sym (ap (mul q a) e ∙ mul_zero q a) ∙ mul_inv q a h n in
    omega arith
