-- The Frobenius map on matrices: q-th powers of commuting matrices add, multiples go with it, and a matrix that is its own q-th power is
-- a zero of the product of all X − c. (Any textbook of algebra, for a commutative algebra over a finite field.)
use Rattle.std.proofs.Common.{ℕ, zero, suc, ◌+◌, ◌-◌, ◌*◌, ◌^◌, ◌≡◌, List, [], ◌∷◌, length, refl, sym, ap, ap₂, ◌∙◌, arith, subst, pow-suc}
use Rattle.std.proofs.Math.Nat.{pow-zero}
use Rattle.linear_algebra.specs.Field.{Gf, f2, f3, f4, f5, f7, f8, f9, f11, f13, f16, f25, f27, order, characteristic, degree, polynomial, coefficients, number, plus, times, multiple, opposite, front, top, remainder, add, mul, neg, sub, power}
use Rattle.linear_algebra.specs.FieldLaws.{sub_def, one-lt-order}
use Rattle.linear_algebra.specs.Matrix.{Mat, zeros, one, ◌⊞◌, negative, ◌⊟◌, ◌⊙◌, ◌·◌}
use Rattle.linear_algebra.specs.Powers.{mat_power, shifts}
use Rattle.linear_algebra.proofs.MatrixLaws.{add_comm_mat, add_assoc_mat, add_left_comm_mat, add_zeros, zeros_add, difference, scale_add, add_scale, scale_scale, one_scale, zero_scale, scale-mod, scale_zeros, neg_scale, mul_one_mat, one_mul_mat, mul_zeros, mul_add_mat, add_mul_mat, mul_negative, mul_scale, scale_mul, mul_assoc_mat, sub_self_mat, sub_mul_mat, negative_sum}
use Rattle.linear_algebra.proofs.Products.{pull}
use Rattle.linear_algebra.proofs.Inverses.{mat_power-add, mat_power-suc, mat_power-one, power_intertwines}
use Rattle.linear_algebra.proofs.PrimeFields.{order_is_power, characteristic-pos}
use Rattle.linear_algebra.proofs.FieldPowers.{power-order}

-- Powers of powers, of commuting matrices, of multiples.
pub mat_power-power : {q : Gf} {n : ℕ} (x : Mat q n n) (a b : ℕ) → mat_power (mat_power x a) b ≡ mat_power x (a * b)
unfolding mat_power
mat_power-power x a zero = let same : a * 0 ≡ 0 = omega arith in ap (mat_power x) (sym same)
mat_power-power x a (suc b) =
    let same : a + a * b ≡ a * suc b = omega arith in
    ap (λ z. mat_power x a · z) (mat_power-power x a b) ∙ sym (mat_power-add x a (a * b)) ∙ ap (mat_power x) same

pub powers_commute : {q : Gf} {n : ℕ} (x y : Mat q n n) → x · y ≡ y · x → (a b : ℕ) → mat_power x a · mat_power y b ≡ mat_power y b · mat_power x a
powers_commute x y e a b = power_intertwines x (mat_power y b) x (sym (power_intertwines y x y (sym e) b)) a

pub power_of_multiple : {q : Gf} {n : ℕ} (c : ℕ) (x : Mat q n n) (k : ℕ) → mat_power (c ⊙ x) k ≡ power q c k ⊙ mat_power x k
unfolding mat_power power
power_of_multiple {q} {n} c x zero = sym (one_scale (one q n))
power_of_multiple {q} c x (suc k) =
    scale_mul c x (mat_power (c ⊙ x) k) ∙ ap (λ z. c ⊙ (x · z)) (power_of_multiple c x k) ∙ ap (λ z. c ⊙ z) (mul_scale (power q c k) x (mat_power x k))
    ∙ scale_scale c (power q c k) (x · mat_power x k)

-- Binomial coefficients in the field: each row from the one before.
pass : Gf → ℕ → List ℕ → List ℕ
pass q d [] = d ∷ []
pass q d (c ∷ cs) = add q c d ∷ pass q c cs

binomials : Gf → ℕ → List ℕ
binomials q zero = 1 ∷ []
binomials q (suc n) = pass q 0 (binomials q n)

-- 0, .., 0, 1
last_one : ℕ → List ℕ
last_one zero = 1 ∷ []
last_one (suc k) = 0 ∷ last_one k

-- the inner coefficients of row p are zero
inner_zero : (q : Gf) → binomials q (characteristic q) ≡ 1 ∷ last_one (characteristic q - 1)
unfolding binomials pass last_one add polynomial coefficients number plus
inner_zero f2 = refl
inner_zero f3 = refl
inner_zero f4 = refl
inner_zero f5 = refl
inner_zero f7 = refl
inner_zero f8 = refl
inner_zero f9 = refl
inner_zero f11 = refl
inner_zero f13 = refl
inner_zero f16 = refl
inner_zero f25 = refl
inner_zero f27 = refl

length-pass : (q : Gf) (d : ℕ) (cs : List ℕ) → length (pass q d cs) ≡ suc (length cs)
unfolding pass
length-pass q d [] = refl
length-pass q d (c ∷ cs) = ap suc (length-pass q c cs)

length-last_one : (k : ℕ) → length (last_one k) ≡ suc k
unfolding last_one
length-last_one zero = refl
length-last_one (suc k) = ap suc (length-last_one k)

module _ {q : Gf} {n : ℕ} (y z : Mat q n n) where
  -- c0 z^k + c1 y z^(k − 1) + .. + ck y^k
  mixed : List ℕ → Mat q n n
  mixed [] = zeros q n n
  mixed (c ∷ cs) = c ⊙ mat_power z (length cs) ⊞ y · mixed cs

  mixed-last_one : (k : ℕ) → mixed (last_one k) ≡ mat_power y k
  unfolding mixed last_one mat_power
  mixed-last_one zero = ap₂ (λ u v. u ⊞ v) (one_scale (one q n)) (mul_zeros y) ∙ add_zeros (one q n)
  mixed-last_one (suc k) = ap₂ (λ u v. u ⊞ v) (zero_scale (mat_power z (length (last_one k)))) (ap (λ w. y · w) (mixed-last_one k)) ∙ zeros_add (y · mat_power y k)

  pass_step : (c d : ℕ) (Z H : Mat q n n) → y · (z · H) ≡ z · (y · H)
      → add q c d ⊙ (z · Z) ⊞ y · ((z · H ⊞ y · H) ⊞ c ⊙ Z) ≡ (z · (c ⊙ Z ⊞ y · H) ⊞ y · (c ⊙ Z ⊞ y · H)) ⊞ d ⊙ (z · Z)
  pass_step c d Z H e = simp (mul_add_mat, mul_scale, add_scale, e, add_assoc_mat, add_left_comm_mat, add_comm_mat)

  module _ (e : y · z ≡ z · y) where
    mixed-pass : (d : ℕ) (cs : List ℕ) → mixed (pass q d cs) ≡ (z · mixed cs ⊞ y · mixed cs) ⊞ d ⊙ mat_power z (length cs)
    unfolding mixed pass mat_power
    mixed-pass d [] =
        ap (λ w. d ⊙ one q n ⊞ w) (mul_zeros y) ∙ add_zeros (d ⊙ one q n) ∙ sym (zeros_add (d ⊙ one q n))
        ∙ ap (λ w. w ⊞ d ⊙ one q n) (sym (ap₂ (λ u v. u ⊞ v) (mul_zeros z) (mul_zeros y) ∙ add_zeros (zeros q n n)))
    mixed-pass d (c ∷ cs) =
        ap₂ (λ u v. u ⊞ v) (ap (λ k. add q c d ⊙ mat_power z k) (length-pass q c cs)) (ap (λ w. y · w) (mixed-pass c cs))
        ∙ pass_step c d (mat_power z (length cs)) (mixed cs) (pull y z e (mixed cs) ∙ mul_assoc_mat z y (mixed cs))

    mixed-binomials : (k : ℕ) → mat_power (y ⊞ z) k ≡ mixed (binomials q k)
    unfolding mat_power binomials mixed
    mixed-binomials zero = sym (ap₂ (λ u v. u ⊞ v) (one_scale (one q n)) (mul_zeros y) ∙ add_zeros (one q n))
    mixed-binomials (suc k) =
        ap (λ w. (y ⊞ z) · w) (mixed-binomials k) ∙ add_mul_mat y z (mixed (binomials q k)) ∙ add_comm_mat (y · mixed (binomials q k)) (z · mixed (binomials q k))
        ∙ sym (mixed-pass 0 (binomials q k) ∙ ap (λ w. (z · mixed (binomials q k) ⊞ y · mixed (binomials q k)) ⊞ w) (zero_scale (mat_power z (length (binomials q k)))) ∙ add_zeros (z · mixed (binomials q k) ⊞ y · mixed (binomials q k)))

    -- p-th powers of commuting matrices add.
    pub power_sum : mat_power (y ⊞ z) (characteristic q) ≡ mat_power y (characteristic q) ⊞ mat_power z (characteristic q)
    unfolding mixed
    power_sum =
        let p = characteristic q in
        let large : suc (p - 1) ≡ p = (let h = characteristic-pos q in omega arith) in
        mixed-binomials p ∙ ap mixed (inner_zero q)
        ∙ ap₂ (λ u v. u ⊞ v)
        (ap (λ k. 1 ⊙ mat_power z k) (length-last_one (p - 1) ∙ large) ∙ one_scale (mat_power z p))
        (ap (λ w. y · w) (mixed-last_one (p - 1)) ∙ sym (mat_power-suc y (p - 1)) ∙ ap (mat_power y) large)
        ∙ add_comm_mat (mat_power z p) (mat_power y p)

-- and so their powers by p^e
power_sum_of : {q : Gf} {n : ℕ} (y z : Mat q n n) → y · z ≡ z · y → (e : ℕ) → mat_power (y ⊞ z) (characteristic q ^ e) ≡ mat_power y (characteristic q ^ e) ⊞ mat_power z (characteristic q ^ e)
power_sum_of {q} {n} y z c zero =
    let once : (x : Mat q n n) → mat_power x (characteristic q ^ 0) ≡ x = λ x. ap (mat_power x) (pow-zero (characteristic q)) ∙ mat_power-one x in
    once (y ⊞ z) ∙ ap₂ (λ u v. u ⊞ v) (sym (once y)) (sym (once z))
power_sum_of {q} {n} y z c (suc e) =
    let p = characteristic q in
    let same : p ^ e * p ≡ p ^ suc e = sym (pow-suc p e) in
    let split : (x : Mat q n n) → mat_power x (p ^ suc e) ≡ mat_power (mat_power x (p ^ e)) p = λ x. ap (mat_power x) (sym same) ∙ sym (mat_power-power x (p ^ e) p) in
    split (y ⊞ z) ∙ ap (λ x. mat_power x p) (power_sum_of y z c e) ∙ power_sum (mat_power y (p ^ e)) (mat_power z (p ^ e)) (powers_commute y z c (p ^ e) (p ^ e))
    ∙ ap₂ (λ u v. u ⊞ v) (sym (split y)) (sym (split z))

-- q-th powers of commuting matrices add, and multiples go with them.
pub frobenius_sum : {q : Gf} {n : ℕ} (y z : Mat q n n) → y · z ≡ z · y → mat_power (y ⊞ z) (order q) ≡ mat_power y (order q) ⊞ mat_power z (order q)
frobenius_sum {q} {n} y z c = subst (λ k. mat_power (y ⊞ z) k ≡ mat_power y k ⊞ mat_power z k) (sym (order_is_power q)) (power_sum_of y z c (degree q))

pub frobenius_multiple : {q : Gf} {n : ℕ} (c : ℕ) (y : Mat q n n) → mat_power (c ⊙ y) (order q) ≡ c ⊙ mat_power y (order q)
frobenius_multiple {q} c y = power_of_multiple c y (order q) ∙ ap (λ k. k ⊙ mat_power y (order q)) (power-order q c) ∙ scale-mod c (mat_power y (order q))

-- Polynomials over the field, as the lists of their coefficients, that of 1 first, and their values at a matrix.
-- (X − c) f, where d is the coefficient before
linear_times : Gf → ℕ → ℕ → List ℕ → List ℕ
linear_times q c d [] = d ∷ []
linear_times q c d (a ∷ f) = sub q d (mul q c a) ∷ linear_times q c a f

-- (X − (k − 1)) · .. · (X − 0)
all_roots : Gf → ℕ → List ℕ
all_roots q zero = 1 ∷ []
all_roots q (suc k) = linear_times q k 0 (all_roots q k)

-- X^q − X
roots_are : (q : Gf) → all_roots q (order q) ≡ 0 ∷ neg q 1 ∷ last_one (order q - 2)
unfolding all_roots linear_times last_one sub add mul neg polynomial coefficients number plus times multiple opposite front top remainder
roots_are f2 = refl
roots_are f3 = refl
roots_are f4 = refl
roots_are f5 = refl
roots_are f7 = refl
roots_are f8 = refl
roots_are f9 = refl
roots_are f11 = refl
roots_are f13 = refl
roots_are f16 = refl
roots_are f25 = refl
roots_are f27 = refl

module _ {q : Gf} {n : ℕ} (y : Mat q n n) where
  value : List ℕ → Mat q n n
  value [] = zeros q n n
  value (a ∷ f) = a ⊙ one q n ⊞ y · value f

  value_step : (c d a : ℕ) (V W : Mat q n n) → W ≡ (y · V ⊟ c ⊙ V) ⊞ a ⊙ one q n → sub q d (mul q c a) ⊙ one q n ⊞ y · W ≡ (y · (a ⊙ one q n ⊞ y · V) ⊟ c ⊙ (a ⊙ one q n ⊞ y · V)) ⊞ d ⊙ one q n
  value_step c d a V W e =
      ap (λ w. sub q d (mul q c a) ⊙ one q n ⊞ y · w) e
      ∙ simp (sub_def, difference, add_scale, neg_scale, scale_add, ← scale_scale c a (one q n), negative_sum, mul_add_mat, mul_negative, mul_scale, mul_one_mat, add_assoc_mat, add_left_comm_mat, add_comm_mat)

  value-linear_times : (c d : ℕ) (f : List ℕ) → value (linear_times q c d f) ≡ (y · value f ⊟ c ⊙ value f) ⊞ d ⊙ one q n
  unfolding value linear_times
  value-linear_times c d [] =
      ap (λ w. d ⊙ one q n ⊞ w) (mul_zeros y) ∙ add_zeros (d ⊙ one q n) ∙ sym (zeros_add (d ⊙ one q n))
      ∙ ap (λ w. w ⊞ d ⊙ one q n) (sym (ap₂ (λ u v. u ⊟ v) (mul_zeros y) (scale_zeros c) ∙ sub_self_mat (zeros q n n)))
  value-linear_times c d (a ∷ f) = value_step c d a (value f) (value (linear_times q c a f)) (value-linear_times c a f)

  value-all_roots : (k : ℕ) → shifts y k ≡ value (all_roots q k)
  unfolding shifts all_roots value
  value-all_roots zero = sym (ap₂ (λ u v. u ⊞ v) (one_scale (one q n)) (mul_zeros y) ∙ add_zeros (one q n))
  value-all_roots (suc k) =
      ap (λ w. (y ⊟ k ⊙ one q n) · w) (value-all_roots k)
      ∙ sub_mul_mat y (k ⊙ one q n) (value (all_roots q k)) ∙ ap (λ w. y · value (all_roots q k) ⊟ w) (scale_mul k (one q n) (value (all_roots q k)) ∙ ap (λ w. k ⊙ w) (one_mul_mat (value (all_roots q k))))
      ∙ sym (value-linear_times k 0 (all_roots q k) ∙ ap (λ w. (y · value (all_roots q k) ⊟ k ⊙ value (all_roots q k)) ⊞ w) (zero_scale (one q n)) ∙ add_zeros (y · value (all_roots q k) ⊟ k ⊙ value (all_roots q k)))

  value-last_one : (k : ℕ) → value (last_one k) ≡ mat_power y k
  unfolding value last_one mat_power
  value-last_one zero = ap₂ (λ u v. u ⊞ v) (one_scale (one q n)) (mul_zeros y) ∙ add_zeros (one q n)
  value-last_one (suc k) = ap₂ (λ u v. u ⊞ v) (zero_scale (one q n)) (ap (λ w. y · w) (value-last_one k)) ∙ zeros_add (y · mat_power y k)

  value_of_roots : value (0 ∷ neg q 1 ∷ last_one (order q - 2)) ≡ mat_power y (order q) ⊟ y
  unfolding value
  value_of_roots =
      let large : suc (suc (order q - 2)) ≡ order q = (let h = one-lt-order q in omega arith) in
      let high : y · (y · mat_power y (order q - 2)) ≡ mat_power y (order q) =
      ap (λ w. y · w) (sym (mat_power-suc y (order q - 2))) ∙ sym (mat_power-suc y (suc (order q - 2))) ∙ ap (mat_power y) large in
      ap₂ (λ u v. u ⊞ v) (zero_scale (one q n)) (ap (λ w. y · (neg q 1 ⊙ one q n ⊞ y · w)) (value-last_one (order q - 2)))
      ∙ zeros_add (y · (neg q 1 ⊙ one q n ⊞ y · mat_power y (order q - 2)))
      ∙ mul_add_mat y (neg q 1 ⊙ one q n) (y · mat_power y (order q - 2))
      ∙ ap₂ (λ u v. u ⊞ v) (mul_scale (neg q 1) y (one q n) ∙ ap (λ w. neg q 1 ⊙ w) (mul_one_mat y) ∙ neg_scale 1 y ∙ ap negative (one_scale y)) high
      ∙ add_comm_mat (negative y) (mat_power y (order q)) ∙ sym (difference (mat_power y (order q)) y)

  -- A matrix that is its own q-th power is a zero of the product of all X − c, c in the field.
  pub product_of_shifts : mat_power y (order q) ≡ y → shifts y (order q) ≡ zeros q n n
  product_of_shifts e = value-all_roots (order q) ∙ ap value (roots_are q) ∙ value_of_roots ∙ ap (λ w. w ⊟ y) e ∙ sub_self_mat y
