-- Sums over lists, and linear functions on elements.
use Rattle.std.proofs.Common.{ℕ, ◌≡◌, ◌<◌, List, [], ◌∷◌, ◌++◌, refl, sym, ap, ap₂, ◌∙◌}
use Rattle.std.specs.Prelude.{Contains}
use mathlib.Core.Path.{fun_ext}
use Rattle.linear_algebra.specs.Field.{Gf, order, add, mul}
use Rattle.linear_algebra.specs.FieldLaws.{order-pos, add_below, add_assoc, zero_add, mul_add, mul_zero, zero_mul, add_zero_zero, add_swap}
use Rattle.quiver_paths.specs.declared.Path.{Path}
use Rattle.quiver_paths.proofs.ListLemmas.{Contains-head, Contains-behind}
use Rattle.path_algebra.specs.Elements.{sum_over}

pub sum_over-nil : {X : Type 0} (q : Gf) (f : X → ℕ) → sum_over q [] f ≡ 0
unfolding sum_over
sum_over-nil q f = refl

pub sum_over-cons : {X : Type 0} (q : Gf) (x : X) (xs : List X) (f : X → ℕ) → sum_over q (x ∷ xs) f ≡ add q (f x) (sum_over q xs f)
unfolding sum_over
sum_over-cons q x xs f = refl

pub sum_over_below : {X : Type 0} (q : Gf) (xs : List X) (f : X → ℕ) → sum_over q xs f < order q
unfolding sum_over
sum_over_below q [] f = order-pos q
sum_over_below q (x ∷ xs) f = add_below q _ _

pub sum_over-same : {X : Type 0} (q : Gf) (xs : List X) (f g : X → ℕ) → ((x : X) → Contains xs x → f x ≡ g x) → sum_over q xs f ≡ sum_over q xs g
unfolding sum_over
sum_over-same q [] f g h = refl
sum_over-same q (x ∷ xs) f g h = ap₂ (add q) (h x (Contains-head x xs)) (sum_over-same q xs f g (λ y m. h y (Contains-behind x xs y m)))

pub sum_over-zeros : {X : Type 0} (q : Gf) (xs : List X) (f : X → ℕ) → ((x : X) → Contains xs x → f x ≡ 0) → sum_over q xs f ≡ 0
unfolding sum_over
sum_over-zeros q [] f h = refl
sum_over-zeros q (x ∷ xs) f h = ap₂ (add q) (h x (Contains-head x xs)) (sum_over-zeros q xs f (λ y m. h y (Contains-behind x xs y m))) ∙ add_zero_zero q

pub sum_over-add : {X : Type 0} (q : Gf) (xs : List X) (f g : X → ℕ) → sum_over q xs (λ x. add q (f x) (g x)) ≡ add q (sum_over q xs f) (sum_over q xs g)
unfolding sum_over
sum_over-add q [] f g = sym (add_zero_zero q)
sum_over-add q (x ∷ xs) f g = ap (add q (add q (f x) (g x))) (sum_over-add q xs f g) ∙ add_swap q (f x) (g x) (sum_over q xs f) (sum_over q xs g)

pub mul-sum_over : {X : Type 0} (q : Gf) (c : ℕ) (xs : List X) (f : X → ℕ) → mul q c (sum_over q xs f) ≡ sum_over q xs (λ x. mul q c (f x))
unfolding sum_over
mul-sum_over q c [] f = mul_zero q c
mul-sum_over q c (x ∷ xs) f = mul_add q c (f x) (sum_over q xs f) ∙ ap (add q (mul q c (f x))) (mul-sum_over q c xs f)

pub sum_over-append : {X : Type 0} (q : Gf) (xs ys : List X) (f : X → ℕ) → sum_over q (xs ++ ys) f ≡ add q (sum_over q xs f) (sum_over q ys f)
unfolding sum_over
sum_over-append q [] ys f = sym (zero_add q _ (sum_over_below q ys f))
sum_over-append q (x ∷ xs) ys f = ap (add q (f x)) (sum_over-append q xs ys f) ∙ sym (add_assoc q _ _ _)

-- a function on elements that goes with sums and multiples
pub record IsLinear (q : Gf) (L : (Path → ℕ) → Path → ℕ) : Type 0 where
  pub adds : (x y : Path → ℕ) (r : Path) → L (λ p. add q (x p) (y p)) r ≡ add q (L x r) (L y r)
  pub scales : (c : ℕ) (x : Path → ℕ) (r : Path) → L (λ p. mul q c (x p)) r ≡ mul q c (L x r)

pub linear-same : (L : (Path → ℕ) → Path → ℕ) (x y : Path → ℕ) → ((p : Path) → x p ≡ y p) → (r : Path) → L x r ≡ L y r
linear-same L x y h r = ap (λ z. L z r) (fun_ext h)

pub linear-zero : (q : Gf) (L : (Path → ℕ) → Path → ℕ) → IsLinear q L → (r : Path) → L (λ p. 0) r ≡ 0
linear-zero q L l r = linear-same L (λ p. 0) (λ p. mul q 0 0) (λ p. sym (mul_zero q 0)) r ∙ l.scales 0 (λ p. 0) r ∙ zero_mul q (L (λ p. 0) r)

-- it goes with sums over lists
pub linear-sum : {X : Type 0} (q : Gf) (L : (Path → ℕ) → Path → ℕ) → IsLinear q L → (xs : List X) (c : X → ℕ) (f : X → Path → ℕ) (r : Path)
    → L (λ p. sum_over q xs (λ x. mul q (c x) (f x p))) r ≡ sum_over q xs (λ x. mul q (c x) (L (f x) r))
unfolding sum_over
linear-sum q L l [] c f r = linear-zero q L l r
linear-sum q L l (x ∷ xs) c f r =
    l.adds (λ p. mul q (c x) (f x p)) (λ p. sum_over q xs (λ y. mul q (c y) (f y p))) r
    ∙ ap₂ (add q) (l.scales (c x) (f x) r) (linear-sum q L l xs c f r)

pub linear-compose : (q : Gf) (K L : (Path → ℕ) → Path → ℕ) → IsLinear q K → IsLinear q L → IsLinear q (λ x. L (K x))
linear-compose q K L k l = record {
  adds = λ x y r. linear-same L (K (λ p. add q (x p) (y p))) (λ p. add q (K x p) (K y p)) (k.adds x y) r ∙ l.adds (K x) (K y) r;
  scales = λ c x r. linear-same L (K (λ p. mul q c (x p))) (λ p. mul q c (K x p)) (k.scales c x) r ∙ l.scales c (K x) r;
}
