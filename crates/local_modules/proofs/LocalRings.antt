-- Endomorphisms of a local module: those without an inverse are nilpotent, and closed under sums and under products with any endomorphism.
use Rattle.std.proofs.Common.{ℕ, zero, suc, ◌≡◌, ◌≢◌, ◌⊎◌, inl, inr, refl, sym, ap, ◌∙◌, subst, arith}
use Rattle.linear_algebra.specs.Field.{Gf}
use Rattle.linear_algebra.specs.Matrix.{Mat, zeros, one, ◌·◌, delta-same}
use Rattle.linear_algebra.proofs.MatrixLaws.{one-at}
use Rattle.linear_algebra.proofs.Inverses.{right_inverse_first, left_inverse_second, right_inverse_square, left_inverse_square}
use Rattle.representations.specs.Quiver.{Quiver}
use Rattle.representations.specs.Rep.{Rep}
use Rattle.representations.specs.Hom.{Hom, ◌≫◌, ◌⊕◌, identity, zero_hom, negative_hom, multiple, power}
use Rattle.representations.specs.Module.{IsIso, IsNilpotent}
use Rattle.representations.proofs.Homs.{compose-at, identity-at, zero_hom-at, same-at, compose_assoc, compose_identity, identity_compose, compose_zero, zero_compose, sum_assoc, sum_zero, sum_negative, negative_add_hom, sum_compose, compose_negative, compose_multiple, power-zero, power-suc}
use Rattle.representations.proofs.Endomorphisms.{iso_by_vertices, iso_at, one_minus_nilpotent_hom}
use Rattle.local_modules.specs.Local.{IsLocal}

pub one_not_zero : (q : Gf) (n : ℕ) → n ≢ 0 → one q n ≡ zeros q n n → ⊥
unfolding zeros
one_not_zero q n d e = absurd (omega (arith, sym (one-at q n 0 0 (omega (arith, d)) ∙ delta-same 0) ∙ ap (λ (m : Mat q n n). m.at 0 0) e))

module _ {q : Gf} {Q : Quiver} where
  -- a module whose identity is zero has no rows
  pub identity_not_zero : {X : Rep q Q} (v : ℕ) → X.dim v ≢ 0 → identity X ≡ zero_hom X X → ⊥
  identity_not_zero {X} v d e = one_not_zero q (X.dim v) d (sym (identity-at X v) ∙ same-at e v ∙ zero_hom-at X X v)

  pub iso_compose : {X Y Z : Rep q Q} (f : Hom X Y) (g : Hom Y Z) → IsIso f → IsIso g → IsIso (f ≫ g)
  iso_compose {X} {Y} {Z} f g i j = record {
    inverse = j.inverse ≫ i.inverse;
    right = compose_assoc f g (j.inverse ≫ i.inverse)
        ∙ ap (λ z. f ≫ z) (sym (compose_assoc g j.inverse i.inverse) ∙ ap (λ z. z ≫ i.inverse) j.right ∙ identity_compose i.inverse) ∙ i.right;
    left = compose_assoc j.inverse i.inverse (f ≫ g)
        ∙ ap (λ z. j.inverse ≫ z) (sym (compose_assoc i.inverse f g) ∙ ap (λ z. z ≫ g) i.left ∙ identity_compose g) ∙ j.left;
  }

  -- both factors of an endomorphism that is invertible are
  pub iso_first : {X : Rep q Q} (x y : Hom X X) → IsIso (x ≫ y) → IsIso x
  iso_first x y i = iso_by_vertices x (λ v.
      let inv = iso_at (x ≫ y) i v in
      right_inverse_square (x.at v) refl (right_inverse_first (x.at v) (y.at v) (record { inverse = inv.inverse; is = ap (λ z. z · inv.inverse) (sym (compose-at x y v)) ∙ inv.right })))

  pub iso_second : {X : Rep q Q} (x y : Hom X X) → IsIso (x ≫ y) → IsIso y
  iso_second x y i = iso_by_vertices y (λ v.
      let inv = iso_at (x ≫ y) i v in
      left_inverse_square (y.at v) refl (left_inverse_second (x.at v) (y.at v) (record { inverse = inv.inverse; is = ap (λ z. inv.inverse · z) (sym (compose-at x y v)) ∙ inv.left })))

  pub iso_identity : (X : Rep q Q) → IsIso (identity X)
  iso_identity X = record { inverse = identity X; right = identity_compose (identity X); left = identity_compose (identity X) }

  pub iso_power : {X : Rep q Q} (x : Hom X X) → IsIso x → (k : ℕ) → IsIso (power x k)
  iso_power {X} x i zero = subst IsIso (sym (power-zero x)) (iso_identity X)
  iso_power x i (suc k) = subst IsIso (sym (power-suc x k)) (iso_compose x (power x k) i (iso_power x i k))

  -- Where x and then f is f and then y, so it is for their powers.
  pub power-shift : {X Y : Rep q Q} (x : Hom X X) (y : Hom Y Y) (f : Hom X Y) → x ≫ f ≡ f ≫ y → (m : ℕ) → power x m ≫ f ≡ f ≫ power y m
  power-shift x y f e zero = ap (λ z. z ≫ f) (power-zero x) ∙ identity_compose f ∙ sym (compose_identity f) ∙ ap (λ z. f ≫ z) (sym (power-zero y))
  power-shift x y f e (suc m) =
      ap (λ z. z ≫ f) (power-suc x m) ∙ compose_assoc x (power x m) f ∙ ap (λ z. x ≫ z) (power-shift x y f e m)
      ∙ sym (compose_assoc x f (power y m)) ∙ ap (λ z. z ≫ power y m) e ∙ compose_assoc f y (power y m) ∙ ap (λ z. f ≫ z) (sym (power-suc y m))

  -- what is zero on a module with rows has no inverse, and so neither has what is nilpotent
  pub zero_no_iso : {X Y : Rep q Q} (v : ℕ) → X.dim v ≢ 0 → IsIso (zero_hom X Y) → ⊥
  zero_no_iso {X} {Y} v d i = identity_not_zero v d (sym i.right ∙ zero_compose X i.inverse)

  pub nilpotent_no_iso : {X : Rep q Q} (v : ℕ) → X.dim v ≢ 0 → (x : Hom X X) → IsNilpotent x → IsIso x → ⊥
  nilpotent_no_iso {X} v d x n i = zero_no_iso v d (subst IsIso n.vanishes (iso_power x i n.exponent))

  module _ {X : Rep q Q} (L : IsLocal X) where
    pub never_both : (x : Hom X X) → IsNilpotent x → IsIso x → ⊥
    never_both = nilpotent_no_iso L.vertex L.nonzero

    pub nilpotent_after : (x y : Hom X X) → IsNilpotent x → IsNilpotent (x ≫ y)
    nilpotent_after x y n = elim (L.decides (x ≫ y)) [ inl i ↦ absurd (never_both x n (iso_first x y i)) | inr m ↦ m ]

    pub nilpotent_before : (y x : Hom X X) → IsNilpotent x → IsNilpotent (y ≫ x)
    nilpotent_before y x n = elim (L.decides (y ≫ x)) [ inl i ↦ absurd (never_both x n (iso_second y x i)) | inr m ↦ m ]

    pub nilpotent_multiple : (c : ℕ) (x : Hom X X) → IsNilpotent x → IsNilpotent (multiple c x)
    nilpotent_multiple c x n = subst IsNilpotent (compose_multiple c x (identity X) ∙ ap (multiple c) (compose_identity x)) (nilpotent_after x (multiple c (identity X)) n)

    pub nilpotent_sum : (x y : Hom X X) → IsNilpotent x → IsNilpotent y → IsNilpotent (x ⊕ y)
    nilpotent_sum x y n m = elim (L.decides (x ⊕ y)) [
      | inr z ↦ z
      | inl i ↦
          let whole : x ≫ i.inverse ⊕ y ≫ i.inverse ≡ identity X = sym (sum_compose x y i.inverse) ∙ i.right in
          let rest : x ≫ i.inverse ≡ identity X ⊕ negative_hom (y ≫ i.inverse) =
          sym (sum_zero (x ≫ i.inverse)) ∙ ap (λ z. x ≫ i.inverse ⊕ z) (sym (sum_negative (y ≫ i.inverse)))
          ∙ sym (sum_assoc (x ≫ i.inverse) (y ≫ i.inverse) (negative_hom (y ≫ i.inverse))) ∙ ap (λ z. z ⊕ negative_hom (y ≫ i.inverse)) whole in
          absurd (never_both x n (iso_first x i.inverse (subst IsIso (sym rest) (one_minus_nilpotent_hom (y ≫ i.inverse) (nilpotent_after y i.inverse m)))))
    ]

    pub nilpotent_negative : (x : Hom X X) → IsNilpotent x → IsNilpotent (negative_hom x)
    nilpotent_negative x n = subst IsNilpotent (compose_negative x (identity X) ∙ ap negative_hom (compose_identity x)) (nilpotent_after x (negative_hom (identity X)) n)

    -- an isomorphism less what is nilpotent is an isomorphism
    pub iso_minus_nilpotent : (x j : Hom X X) → IsIso x → IsNilpotent j → IsIso (x ⊕ negative_hom j)
    iso_minus_nilpotent x j i n = elim (L.decides (x ⊕ negative_hom j)) [
      | inl k ↦ k
      | inr m ↦ absurd (never_both x (subst IsNilpotent
          (sum_assoc x (negative_hom j) j ∙ ap (λ z. x ⊕ z) (negative_add_hom j) ∙ sum_zero x) (nilpotent_sum (x ⊕ negative_hom j) j m n)) i)
    ]

    idempotent_power : (e : Hom X X) → e ≫ e ≡ e → (k : ℕ) → power e (suc k) ≡ e
    idempotent_power e d zero = power-suc e 0 ∙ ap (λ z. e ≫ z) (power-zero e) ∙ compose_identity e
    idempotent_power e d (suc k) = power-suc e (suc k) ∙ ap (λ z. e ≫ z) (idempotent_power e d k) ∙ d

    nilpotent_idempotent : (e : Hom X X) → e ≫ e ≡ e → (k : ℕ) → power e k ≡ zero_hom X X → e ≡ zero_hom X X
    nilpotent_idempotent e d zero z = sym (identity_compose e) ∙ ap (λ x. x ≫ e) (sym (power-zero e) ∙ z) ∙ zero_compose X e
    nilpotent_idempotent e d (suc k) z = sym (idempotent_power e d k) ∙ z

    -- an idempotent is the identity or zero
    pub idempotents : (e : Hom X X) → e ≫ e ≡ e → (e ≡ identity X) ⊎ (e ≡ zero_hom X X)
    idempotents e d = elim (L.decides e) [
      | inl i ↦ inl (sym (compose_identity e) ∙ ap (λ z. e ≫ z) (sym i.right) ∙ sym (compose_assoc e e i.inverse) ∙ ap (λ z. z ≫ i.inverse) d ∙ i.right)
      | inr n ↦ inr (nilpotent_idempotent e d n.exponent n.vanishes)
    ]

  -- Between local modules: where f and then g is an isomorphism, both are.
  pub both_iso : {X Y : Rep q Q} → IsLocal X → IsLocal Y → (f : Hom X Y) (g : Hom Y X) → IsIso (f ≫ g) → IsIso f × IsIso g
  both_iso {X} {Y} L K f g i = elim (idempotents K e twice) [ inl one_e ↦ (first one_e, second one_e) | inr zero_e ↦ absurd (zero_no_iso L.vertex L.nonzero (subst IsIso (vanishes zero_e) i)) ]
    where
      u : Hom X X
      u = i.inverse

      e : Hom Y Y
      e = g ≫ (u ≫ f)

      again : (f ≫ e) ≫ g ≡ f ≫ g
      again = compose_assoc f e g ∙ ap (λ z. f ≫ z) (compose_assoc g (u ≫ f) g ∙ ap (λ z. g ≫ z) (compose_assoc u f g)) ∙ sym (compose_assoc f g (u ≫ (f ≫ g)))
          ∙ ap (λ z. (f ≫ g) ≫ z) i.left ∙ compose_identity (f ≫ g)

      twice : e ≫ e ≡ e
      twice = compose_assoc g (u ≫ f) e ∙ ap (λ z. g ≫ z) (compose_assoc u f e ∙ ap (λ z. u ≫ z) (sym (compose_assoc f g (u ≫ f)) ∙ sym (compose_assoc (f ≫ g) u f) ∙ ap (λ z. z ≫ f) i.right ∙ identity_compose f))

      vanishes : e ≡ zero_hom Y Y → f ≫ g ≡ zero_hom X X
      vanishes z = sym again ∙ ap (λ x. (f ≫ x) ≫ g) z ∙ ap (λ x. x ≫ g) (compose_zero f Y) ∙ zero_compose X g

      first : e ≡ identity Y → IsIso f
      first o = record { inverse = g ≫ u; right = sym (compose_assoc f g u) ∙ i.right; left = compose_assoc g u f ∙ o }

      second : e ≡ identity Y → IsIso g
      second o = record { inverse = u ≫ f; right = o; left = compose_assoc u f g ∙ i.left }
