-- The Auslander–Reiten translates and the transpose, by a minimal presentation. (Assem, Simson, Skowroński, volume 1, chapter IV, 2.)
use Rattle.std.specs.Prelude.{ℕ}
use Rattle.linear_algebra.specs.Field.{Gf}
use Rattle.representations.specs.Quiver.{opposite, BoundQuiver}
use Rattle.representations.specs.Rep.{Rep}
use Rattle.representations.specs.Hom.{Hom}
use Rattle.representations.specs.Dual.{dual}
use Rattle.representations.specs.KernelOf.{IsKernel, IsCokernel}
use Rattle.projectives.specs.Families.{projectives}
use Rattle.projectives.specs.TwoSided.{TwoSided, other, swap}
use Rattle.projectives.specs.Injective.{injectives}
use Rattle.projectives.specs.Transposed.{transposed, nakayama}
use Rattle.auslander_reiten.specs.Presentation.{IsMinimalPresentation}

module _ {q : Gf} {A : BoundQuiver} (T : TwoSided q A) (k : ℕ) (v : ℕ → ℕ) (h : ℕ) (u : ℕ → ℕ) (M : Rep q A.quiver) where
  -- N is the translate τM, by its embedding i into νP: the kernel of νd : νP → νP', where d and c are a minimal presentation P → P' → M.
  pub record IsTranslate {N : Rep q A.quiver} (d : Hom (projectives T.words k v) (projectives T.words h u)) (c : Hom (projectives T.words h u) M) (i : Hom N (injectives T k v)) : Type 0 where
    pub presentation : IsMinimalPresentation T k v h u d c
    pub kernel : IsKernel i (nakayama T k v h u d)

  -- N is the transpose of M, a module of the other side, by its projection p: the cokernel of the transposed of d, where d and c are a minimal
  -- presentation P → P' → M.
  pub record IsTranspose {N : Rep q (opposite A.quiver)} (d : Hom (projectives T.words k v) (projectives T.words h u)) (c : Hom (projectives T.words h u) M) (p : Hom (projectives (other T) k v) N) : Type 0 where
    pub presentation : IsMinimalPresentation T k v h u d c
    pub cokernel : IsCokernel (transposed T k v h u d) p

-- N is the inverse translate of X, by its projection p: the transpose of the dual of X, by a minimal presentation of that dual on the other side.
abbrev pub IsInverseTranslate : {q : Gf} {A : BoundQuiver} (T : TwoSided q A) (k : ℕ) (v : ℕ → ℕ) (h : ℕ) (u : ℕ → ℕ) (X : Rep q A.quiver) {N : Rep q A.quiver}
    → Hom (projectives (other T) k v) (projectives (other T) h u) → Hom (projectives (other T) h u) (dual X) → Hom (projectives T.words k v) N → Type 0
IsInverseTranslate T k v h u X d c p = IsTranspose (swap T) k v h u (dual X) d c p
