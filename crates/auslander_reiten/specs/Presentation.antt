-- Minimal projective presentations. (Assem, Simson, Skowroński, volume 1, chapter I, 5, and IV, 2.)
use Rattle.std.specs.Prelude.{ℕ, ◌≡◌}
use Rattle.linear_algebra.specs.Field.{Gf}
use Rattle.representations.specs.Quiver.{Quiver, BoundQuiver}
use Rattle.representations.specs.Rep.{Rep}
use Rattle.representations.specs.Hom.{Hom, ◌≫◌}
use Rattle.representations.specs.Module.{IsEpi, IsExact, IsIso, IsSplitEpi}
use Rattle.projectives.specs.Words.{Words}
use Rattle.projectives.specs.Families.{projectives}
use Rattle.projectives.specs.TwoSided.{TwoSided}
use Rattle.projectives.specs.Covers.{KernelInRadical}

-- A minimal projective presentation P → P' → M of M, by d and c: exact at P', onto M, and with both kernels in the radical. P is the sum of the
-- projective modules at k vertices v, and P' that of those at h vertices u: they are projective, since the words of T are a basis of the algebra A; at a
-- number that is no vertex the part is zero. So M is a module over A.
pub record IsMinimalPresentation {q : Gf} {A : BoundQuiver} (T : TwoSided q A) (k : ℕ) (v : ℕ → ℕ) (h : ℕ) (u : ℕ → ℕ) {M : Rep q A.quiver}
    (d : Hom (projectives T.words k v) (projectives T.words h u)) (c : Hom (projectives T.words h u) M) : Type 0 where
  pub onto : IsEpi c
  pub exact : IsExact d c
  pub minimal_cover : KernelInRadical c
  pub minimal : KernelInRadical d

-- An isomorphism of two presentations P → P' → M and R → R' → M of one module, with the identity on it.
pub record PresentationIsomorphism {q : Gf} {Q : Quiver} {P P' R R' M : Rep q Q} (d : Hom P P') (c : Hom P' M) (e : Hom R R') (b : Hom R' M) : Type 0 where
  pub on_first : Hom P R
  pub on_second : Hom P' R'
  pub first_iso : IsIso on_first
  pub second_iso : IsIso on_second
  pub square : on_first ≫ e ≡ d ≫ on_second
  pub over : on_second ≫ b ≡ c

-- M is projective: a direct summand of a sum of projective modules at vertices, where the words W are a basis of the algebra.
pub record IsProjective {q : Gf} {Q : Quiver} (W : Words q Q) (M : Rep q Q) : Type 0 where
  pub k : ℕ
  pub v : ℕ → ℕ
  pub onto : Hom (projectives W k v) M
  pub splits : IsSplitEpi onto
