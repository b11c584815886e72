-- Powers of elements: p-th powers are additive, where p is the characteristic, and each element is its own q-th power.
use Rattle.std.proofs.Common.{ℕ, zero, suc, ◌%◌, ◌<◌, ◌≡◌, Bool, true, eqb, refl, sym, ap, ap₂, ◌∙◌, eqb-true, mod-lt}
use Rattle.linear_algebra.specs.Field.{Gf, f2, f3, f4, f5, f7, f8, f9, f11, f13, f16, f25, f27, order, characteristic, add, mul, power}
use Rattle.linear_algebra.specs.FieldTables.{sum_of, product_of, sum_digits, product_digits}
use Rattle.linear_algebra.specs.FieldTests.{all_below, all_below-at}
use Rattle.linear_algebra.specs.FieldLaws.{order-pos, one-lt-order, add_below, mul_below, add-mod, mul-mod_left, add_table, mul_table}

-- powers by the written products
power_of : Gf → ℕ → ℕ → ℕ
power_of q a zero = 1
power_of q a (suc n) = product_of q a (power_of q a n)

power_below : (q : Gf) (a n : ℕ) → power q a n < order q
unfolding power
power_below q a zero = one-lt-order q
power_below q a (suc n) = mul_below q a (power q a n)

power-is : (q : Gf) (a n : ℕ) → a < order q → power q a n ≡ power_of q a n
unfolding power power_of
power-is q a zero h = refl
power-is q a (suc n) h = mul_table q a (power q a n) h (power_below q a n) ∙ ap (product_of q a) (power-is q a n h)

power-mod : (q : Gf) (a n : ℕ) → power q (a % order q) n ≡ power q a n
unfolding power
power-mod q a zero = refl
power-mod q a (suc n) = mul-mod_left q a (power q (a % order q) n) ∙ ap (mul q a) (power-mod q a n)

passes_fixed : Gf → Bool
passes_fixed q = all_below (order q) (λ a. eqb (power_of q a (order q)) a)

passes_additive : Gf → Bool
passes_additive q = all_below (order q) (λ a. all_below (order q) (λ b. eqb (power_of q (sum_of q a b) (characteristic q)) (sum_of q (power_of q a (characteristic q)) (power_of q b (characteristic q)))))

fixed : (q : Gf) → passes_fixed q ≡ true
unfolding passes_fixed power_of all_below sum_of product_of sum_digits product_digits
fixed f2 = refl
fixed f3 = refl
fixed f4 = refl
fixed f5 = refl
fixed f7 = refl
fixed f8 = refl
fixed f9 = refl
fixed f11 = refl
fixed f13 = refl
fixed f16 = refl
fixed f25 = refl
fixed f27 = refl

additive : (q : Gf) → passes_additive q ≡ true
unfolding passes_additive power_of all_below sum_of product_of sum_digits product_digits
additive f2 = refl
additive f3 = refl
additive f4 = refl
additive f5 = refl
additive f7 = refl
additive f8 = refl
additive f9 = refl
additive f11 = refl
additive f13 = refl
additive f16 = refl
additive f25 = refl
additive f27 = refl

-- Each element is its own q-th power.
pub power-order : (q : Gf) (a : ℕ) → power q a (order q) ≡ a % order q
unfolding passes_fixed
power-order q a =
    sym (power-mod q a (order q)) ∙ power-is q (a % order q) (order q) (mod-lt a (order-pos q))
    ∙ eqb-true _ _ (all_below-at (order q) (λ a. eqb (power_of q a (order q)) a) (fixed q) (a % order q) (mod-lt a (order-pos q)))

additive_elements : (q : Gf) (a b : ℕ) → a < order q → b < order q → power q (add q a b) (characteristic q) ≡ add q (power q a (characteristic q)) (power q b (characteristic q))
unfolding passes_additive
additive_elements q a b h k =
    power-is q (add q a b) (characteristic q) (add_below q a b)
    ∙ ap (λ s. power_of q s (characteristic q)) (add_table q a b h k)
    ∙ eqb-true _ _ (all_below-at (order q) (λ b. eqb (power_of q (sum_of q a b) (characteristic q)) (sum_of q (power_of q a (characteristic q)) (power_of q b (characteristic q)))) (all_below-at (order q) (λ a. all_below (order q) (λ b. eqb (power_of q (sum_of q a b) (characteristic q)) (sum_of q (power_of q a (characteristic q)) (power_of q b (characteristic q))))) (additive q) a h) b k)
    ∙ ap₂ (sum_of q) (sym (power-is q a (characteristic q) h)) (sym (power-is q b (characteristic q) k))
    ∙ sym (add_table q (power q a (characteristic q)) (power q b (characteristic q)) (power_below q a (characteristic q)) (power_below q b (characteristic q)))

-- p-th powers are additive.
pub power-add : (q : Gf) (a b : ℕ) → power q (add q a b) (characteristic q) ≡ add q (power q a (characteristic q)) (power q b (characteristic q))
power-add q a b =
    ap (λ s. power q s (characteristic q)) (sym (add-mod q a b))
    ∙ additive_elements q (a % order q) (b % order q) (mod-lt a (order-pos q)) (mod-lt b (order-pos q))
    ∙ ap₂ (add q) (power-mod q a (characteristic q)) (power-mod q b (characteristic q))

pub ruleset frobenius_laws = (power-order, power-add)
