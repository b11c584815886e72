-- A path without arrows is a trivial path.
use Rattle.std.proofs.Common.{ℕ, suc, ◌≡◌, ◌⊎◌, inl, inr, refl, sym, ap, ◌∙◌, arith, subst}
use Rattle.std.proofs.Math.Path.{subst_refl}
use native.Mathlib.Nat.{ℕ_set}
use Rattle.representations.specs.Quiver.{Quiver, Path, trivial, then, path_length}

-- Its ends are the same vertex, and there it is the trivial path.
pub record IsTrivial {Q : Quiver} {v w : ℕ} (p : Path Q v w) : Type 0 where
  pub same : v ≡ w
  pub is : (let t : Path Q v v = trivial in subst (Path Q v) same t) ≡ p

pub trivial_or_long : {Q : Quiver} {v w : ℕ} (p : Path Q v w) → IsTrivial p ⊎ ((k : ℕ) × (path_length p ≡ suc k))
trivial_or_long {Q} {v} trivial = inl (record { same = refl; is = subst_refl (Path Q v) trivial })
trivial_or_long (then a p) = inr (path_length p, refl)

-- A trivial path from v to v is the trivial path at v.
pub IsTrivial-loop : {Q : Quiver} {v : ℕ} (p : Path Q v v) → IsTrivial p → p ≡ trivial
IsTrivial-loop {Q} {v} p t = sym t.is ∙ ap (λ (e : v ≡ v). let t : Path Q v v = trivial in subst (Path Q v) e t) (ℕ_set v v t.same refl) ∙ subst_refl (Path Q v) trivial

pub without_arrows : {Q : Quiver} {v : ℕ} (p : Path Q v v) → path_length p ≡ 0 → p ≡ trivial
without_arrows p e = elim (trivial_or_long p) [
  | inl t ↦ IsTrivial-loop p t
  | inr l ↦ absurd (let k = l.1 in omega arith)
]
