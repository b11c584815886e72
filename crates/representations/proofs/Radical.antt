-- Powers of the radical: sums and multiples, what homomorphisms and paths make of them; they end; Nakayama's lemma.
use Rattle.std.proofs.Common.{ℕ, zero, suc, ◌+◌, ◌≡◌, List, [], ◌∷◌, ◌++◌, refl, sym, ap, ap₂, ◌∙◌, arith, subst}
use Rattle.linear_algebra.specs.Field.{Gf}
use Rattle.linear_algebra.specs.Matrix.{Row, zeros, one, ◌⊞◌, ◌⊙◌, ◌·◌}
use Rattle.linear_algebra.specs.Powers.{mat_power}
use Rattle.linear_algebra.proofs.MatrixLaws.{add_zeros, zeros_add, add_assoc_mat, mul_zeros, zeros_mul, mul_one_mat, add_mul_mat, scale_add, scale_mul, scale_zeros, mul_assoc_mat}
use Rattle.linear_algebra.proofs.PartsLaws.{equal_on_rows}
use Rattle.linear_algebra.proofs.Inverses.{mat_power-last}
use Rattle.linear_algebra.proofs.Steinitz.{steinitz, through_none}
use Rattle.representations.specs.Quiver.{Quiver, Path, trivial, then, path_length, path_join, BoundQuiver}
use Rattle.representations.specs.Rep.{Rep, along, IsMod}
use Rattle.representations.specs.Hom.{Hom, Hom-eq, zero_hom, power}
use Rattle.representations.specs.Module.{IsEpi, IsZero}
use Rattle.representations.specs.Submodule.{quotient_rep, projection}
use Rattle.representations.specs.Kernel.{cokernel}
use Rattle.representations.specs.Radical.{PathTerm, path_sum, IsInRadicalPower, IsInRadical, IsReachedModuloRadical}
use Rattle.representations.proofs.MatrixExtras.{zero_columns}
use Rattle.representations.proofs.Homs.{power-at, zero_hom-at}
use Rattle.representations.proofs.Paths.{along-hom, along_join}
use Rattle.representations.proofs.Submodules.{projection_epi, IsMod-quotient}
use Rattle.representations.proofs.Kernels.{cokernel_exact}

pub path_length-join : {Q : Quiver} {u v w : ℕ} (p : Path Q u v) (r : Path Q v w) → path_length (path_join p r) ≡ path_length p + path_length r
path_length-join p trivial = omega arith
path_length-join p (then a r) = let same = path_length-join p r in omega arith

module _ {q : Gf} {Q : Quiver} {X : Rep q Q} where
  path_sum-append : {k w : ℕ} (ts us : List (PathTerm X k w)) → path_sum (ts ++ us) ≡ path_sum ts ⊞ path_sum us
  path_sum-append [] us = sym (zeros_add (path_sum us))
  path_sum-append (t ∷ ts) us = ap (λ z. t.row · along X t.path ⊞ z) (path_sum-append ts us) ∙ sym (add_assoc_mat (t.row · along X t.path) (path_sum ts) (path_sum us))

  pub radical-zeros : (k w : ℕ) → IsInRadicalPower X k w (zeros q 1 (X.dim w))
  radical-zeros k w = record { terms = []; is = refl }

  pub radical-sum : {k w : ℕ} {x y : Row q (X.dim w)} → IsInRadicalPower X k w x → IsInRadicalPower X k w y → IsInRadicalPower X k w (x ⊞ y)
  radical-sum r s = record { terms = r.terms ++ s.terms; is = path_sum-append r.terms s.terms ∙ ap₂ (λ a b. a ⊞ b) r.is s.is }

  -- a row along a path
  pub radical-along : {k v w : ℕ} (p : Path Q v w) → path_length p ≡ k → (x : Row q (X.dim v)) → IsInRadicalPower X k w (x · along X p)
  radical-along {k} {v} {w} p e x = record { terms = record { start = v; path = p; long = e; row = x } ∷ []; is = add_zeros (x · along X p) }

  -- What holds of zero, of sums, and of rows along paths, holds of the power.
  pub by_terms : {k w : ℕ} (P : Row q (X.dim w) → Type 0) → P (zeros q 1 (X.dim w)) → ((x y : Row q (X.dim w)) → P x → P y → P (x ⊞ y))
      → ((v : ℕ) (p : Path Q v w) → path_length p ≡ k → (y : Row q (X.dim v)) → P (y · along X p)) → {x : Row q (X.dim w)} → IsInRadicalPower X k w x → P x
  by_terms {k} {w} P none both each r = subst P r.is (all r.terms)
    where
      all : (ts : List (PathTerm X k w)) → P (path_sum ts)
      all [] = none
      all (t ∷ ts) = both (t.row · along X t.path) (path_sum ts) (each t.start t.path t.long t.row) (all ts)

  pub radical-scale : {k w : ℕ} (c : ℕ) {x : Row q (X.dim w)} → IsInRadicalPower X k w x → IsInRadicalPower X k w (c ⊙ x)
  radical-scale {k} {w} c = by_terms (λ x. IsInRadicalPower X k w (c ⊙ x))
      (subst (IsInRadicalPower X k w) (sym (scale_zeros c)) (radical-zeros k w))
      (λ x y r s. subst (IsInRadicalPower X k w) (sym (scale_add c x y)) (radical-sum r s))
      (λ v p e y. subst (IsInRadicalPower X k w) (scale_mul c y (along X p)) (radical-along p e (c ⊙ y)))

  -- Each row is in the power zero; a path of k arrows takes the j-th power into the power j + k.
  pub radical-whole : (w : ℕ) (x : Row q (X.dim w)) → IsInRadicalPower X 0 w x
  unfolding along
  radical-whole w x = subst (IsInRadicalPower X 0 w) (mul_one_mat x) (radical-along trivial refl x)

  pub radical-further : {j k v w : ℕ} (p : Path Q v w) → path_length p ≡ k → {x : Row q (X.dim v)} → IsInRadicalPower X j v x → IsInRadicalPower X (j + k) w (x · along X p)
  radical-further {j} {k} {v} {w} p e = by_terms (λ x. IsInRadicalPower X (j + k) w (x · along X p))
      (subst (IsInRadicalPower X (j + k) w) (sym (zeros_mul (along X p))) (radical-zeros (j + k) w))
      (λ x y r s. subst (IsInRadicalPower X (j + k) w) (sym (add_mul_mat x y (along X p))) (radical-sum r s))
      (λ u r d y. subst (IsInRadicalPower X (j + k) w)
      (ap (λ z. y · z) (along_join X r p) ∙ sym (mul_assoc_mat y (along X r) (along X p)))
      (radical-along (path_join r p) (path_length-join r p ∙ ap₂ (λ a b. a + b) d e) y))

-- Homomorphisms take powers of the radical into those of the radical.
pub radical-hom : {q : Gf} {Q : Quiver} {X Y : Rep q Q} (f : Hom X Y) {k w : ℕ} {x : Row q (X.dim w)} → IsInRadicalPower X k w x → IsInRadicalPower Y k w (x · f.at w)
radical-hom {X = X} {Y = Y} f {k} {w} = by_terms (λ x. IsInRadicalPower Y k w (x · f.at w))
    (subst (IsInRadicalPower Y k w) (sym (zeros_mul (f.at w))) (radical-zeros k w))
    (λ x y r s. subst (IsInRadicalPower Y k w) (sym (add_mul_mat x y (f.at w))) (radical-sum r s))
    (λ v p e y. subst (IsInRadicalPower Y k w)
    (mul_assoc_mat y (f.at v) (along Y p) ∙ ap (λ z. y · z) (sym (along-hom f p)) ∙ sym (mul_assoc_mat y (along X p) (f.at w)))
    (radical-along p e (y · f.at v)))

-- The power of the bound is zero.
pub radical-ends : {q : Gf} (A : BoundQuiver) {X : Rep q A.quiver} → IsMod A X → (w : ℕ) {x : Row q (X.dim w)} → IsInRadicalPower X A.bound w x → x ≡ zeros q 1 (X.dim w)
radical-ends {q} A {X} M w = by_terms (λ x. x ≡ zeros q 1 (X.dim w)) refl
    (λ x y r s. ap₂ (λ a b. a ⊞ b) r s ∙ add_zeros (zeros q 1 (X.dim w)))
    (λ v p e y. ap (λ z. y · z) (M.long_paths p e) ∙ mul_zeros y)

module _ {q : Gf} {Q : Quiver} {X : Rep q Q} (e : Hom X X) (h : (v : ℕ) (x : Row q (X.dim v)) → IsInRadical X v (x · e.at v)) where
  -- An endomorphism into the radical takes each power into the next.
  radical-next : {k w : ℕ} {x : Row q (X.dim w)} → IsInRadicalPower X k w x → IsInRadicalPower X (suc k) w (x · e.at w)
  radical-next {k} {w} = by_terms (λ x. IsInRadicalPower X (suc k) w (x · e.at w))
      (subst (IsInRadicalPower X (suc k) w) (sym (zeros_mul (e.at w))) (radical-zeros (suc k) w))
      (λ x y r s. subst (IsInRadicalPower X (suc k) w) (sym (add_mul_mat x y (e.at w))) (radical-sum r s))
      (λ v p d y. subst (IsInRadicalPower X (suc k) w)
      (mul_assoc_mat y (e.at v) (along X p) ∙ ap (λ z. y · z) (sym (along-hom e p)) ∙ sym (mul_assoc_mat y (along X p) (e.at w)))
      (let next : 1 + k ≡ suc k = omega arith in subst (λ j. IsInRadicalPower X j w (y · e.at v · along X p)) next (radical-further p d (h v y))))

  radical-powers : (k w : ℕ) (x : Row q (X.dim w)) → IsInRadicalPower X k w (x · mat_power (e.at w) k)
  radical-powers zero w x = radical-whole w (x · mat_power (e.at w) 0)
  radical-powers (suc k) w x = subst (IsInRadicalPower X (suc k) w)
      (mul_assoc_mat x (mat_power (e.at w) k) (e.at w) ∙ ap (λ z. x · z) (sym (mat_power-last (e.at w) k))) (radical-next (radical-powers k w x))

module _ {q : Gf} (A : BoundQuiver) {X : Rep q A.quiver} (M : IsMod A X) where
  -- An endomorphism into the radical is nilpotent: its power to the bound is zero.
  pub into_radical_nilpotent : (e : Hom X X) → ((v : ℕ) (x : Row q (X.dim v)) → IsInRadical X v (x · e.at v)) → power e A.bound ≡ zero_hom X X
  into_radical_nilpotent e h = Hom-eq (power e A.bound) (zero_hom X X) (λ v.
      power-at e A.bound v
      ∙ equal_on_rows (mat_power (e.at v) A.bound) (zeros q (X.dim v) (X.dim v)) (λ x. radical-ends A M v (radical-powers e h A.bound v x) ∙ sym (mul_zeros x))
      ∙ sym (zero_hom-at X X v))

  -- A module that is its own radical is zero.
  pub nakayama_zero : ((v : ℕ) (x : Row q (X.dim v)) → IsInRadical X v x) → IsZero X
  nakayama_zero h v =
      let all : one q (X.dim v) ≡ zeros q (X.dim v) (X.dim v) = equal_on_rows (one q (X.dim v)) (zeros q (X.dim v) (X.dim v)) (λ x. mul_one_mat x ∙ vanishes x ∙ sym (mul_zeros x)) in
      let none = steinitz (zeros q (X.dim v) 0) (zeros q 0 (X.dim v)) (through_none (zeros q (X.dim v) 0) (zeros q 0 (X.dim v)) ∙ sym all) in
      omega arith
    where
      whole : (k w : ℕ) (x : Row q (X.dim w)) → IsInRadicalPower X k w x
      whole zero w x = radical-whole w x
      whole (suc k) w x =
          let next : k + 1 ≡ suc k = omega arith in
          subst (λ j. IsInRadicalPower X j w x) next
          (by_terms (λ x. IsInRadicalPower X (k + 1) w x) (radical-zeros (k + 1) w) (λ x y r s. radical-sum r s) (λ u p e y. radical-further p e (whole k u y)) (h w x))

      vanishes : (x : Row q (X.dim v)) → x ≡ zeros q 1 (X.dim v)
      vanishes x = radical-ends A M v (whole A.bound v x)

-- Nakayama's lemma: a homomorphism into a module that reaches each row up to the radical is surjective.
pub nakayama : {q : Gf} (A : BoundQuiver) {X Y : Rep q A.quiver} → IsMod A Y → (f : Hom X Y) → ((v : ℕ) (y : Row q (Y.dim v)) → IsReachedModuloRadical f v y) → IsEpi f
nakayama {q} A {X} {Y} M f h v y = (cokernel_exact f).exact v y (zero_columns (zero_there v) (y · p.at v))
  where
    C : Rep q A.quiver
    C = quotient_rep (cokernel f)

    p : Hom Y C
    p = projection (cokernel f)

    reached : (v : ℕ) (y : Row q (Y.dim v)) → IsInRadical C v (y · p.at v)
    reached v y =
        let r = h v y in
        subst (IsInRadical C v)
        (sym (zeros_add (r.rest · p.at v)) ∙ ap (λ z. z ⊞ r.rest · p.at v) (sym ((cokernel_exact f).complex v r.from))
        ∙ sym (add_mul_mat (r.from · f.at v) r.rest (p.at v)) ∙ ap (λ z. z · p.at v) r.is)
        (radical-hom p r.in_radical)

    in_radical : (v : ℕ) (c : Row q (C.dim v)) → IsInRadical C v c
    in_radical v c = let s = projection_epi (cokernel f) v c in subst (IsInRadical C v) s.is (reached v s.by)

    zero_there : IsZero C
    zero_there = nakayama_zero A (IsMod-quotient A (cokernel f) M) in_radical
