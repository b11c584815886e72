-- In a field of p elements sums and products are those of numbers modulo p.
use Rattle.std.proofs.Common.{◌<◌, ◌≡◌, ℕ, ◌+◌, ◌*◌, ◌%◌, ◌^◌, [], ◌∷◌, refl, arith, add-zero, mul-zero}
use Rattle.std.proofs.Math.Nat.{mod-mod, mod-add-mod, add-mod-mod}
use Rattle.std.proofs.lemmas.Nat.{mul-mod_first, mul-mod_second}
use Rattle.linear_algebra.specs.Field.{Gf, f2, f3, f4, f5, f7, f8, f9, f11, f13, f16, f25, f27, characteristic, degree, order, polynomial, coefficients, number, plus, times, multiple, front, top, remainder, add, mul}

pub order_is_power : (q : Gf) → order q ≡ characteristic q ^ degree q
order_is_power f2 = refl
order_is_power f3 = refl
order_is_power f4 = refl
order_is_power f5 = refl
order_is_power f7 = refl
order_is_power f8 = refl
order_is_power f9 = refl
order_is_power f11 = refl
order_is_power f13 = refl
order_is_power f16 = refl
order_is_power f25 = refl
order_is_power f27 = refl

sum_modulo : (p a b : ℕ) → number p (plus p (coefficients p 1 (a % p)) (coefficients p 1 (b % p))) ≡ (a + b) % p
unfolding number plus coefficients
sum_modulo p a b = simp (mul-zero, add-zero, mod-mod, mod-add-mod, add-mod-mod)

product_modulo : (p a b : ℕ) → number p (remainder p (0 ∷ []) (times p (coefficients p 1 (a % p)) (coefficients p 1 (b % p)))) ≡ (a * b) % p
unfolding number remainder times plus multiple front top coefficients
product_modulo p a b = simp (mul-zero, add-zero, mod-mod, mod-add-mod, add-mod-mod, mul-mod_first, mul-mod_second)

pub prime_add : (q : Gf) (a b : ℕ) → degree q ≡ 1 → add q a b ≡ (a + b) % order q
unfolding add polynomial
prime_add f2 a b h = sum_modulo 2 a b
prime_add f3 a b h = sum_modulo 3 a b
prime_add f4 a b h = absurd (omega arith)
prime_add f5 a b h = sum_modulo 5 a b
prime_add f7 a b h = sum_modulo 7 a b
prime_add f8 a b h = absurd (omega arith)
prime_add f9 a b h = absurd (omega arith)
prime_add f11 a b h = sum_modulo 11 a b
prime_add f13 a b h = sum_modulo 13 a b
prime_add f16 a b h = absurd (omega arith)
prime_add f25 a b h = absurd (omega arith)
prime_add f27 a b h = absurd (omega arith)

pub prime_mul : (q : Gf) (a b : ℕ) → degree q ≡ 1 → mul q a b ≡ (a * b) % order q
unfolding mul polynomial
prime_mul f2 a b h = product_modulo 2 a b
prime_mul f3 a b h = product_modulo 3 a b
prime_mul f4 a b h = absurd (omega arith)
prime_mul f5 a b h = product_modulo 5 a b
prime_mul f7 a b h = product_modulo 7 a b
prime_mul f8 a b h = absurd (omega arith)
prime_mul f9 a b h = absurd (omega arith)
prime_mul f11 a b h = product_modulo 11 a b
prime_mul f13 a b h = product_modulo 13 a b
prime_mul f16 a b h = absurd (omega arith)
prime_mul f25 a b h = absurd (omega arith)
prime_mul f27 a b h = absurd (omega arith)

pub characteristic-pos : (q : Gf) → 0 < characteristic q
characteristic-pos f2 = omega arith
characteristic-pos f3 = omega arith
characteristic-pos f4 = omega arith
characteristic-pos f5 = omega arith
characteristic-pos f7 = omega arith
characteristic-pos f8 = omega arith
characteristic-pos f9 = omega arith
characteristic-pos f11 = omega arith
characteristic-pos f13 = omega arith
characteristic-pos f16 = omega arith
characteristic-pos f25 = omega arith
characteristic-pos f27 = omega arith
