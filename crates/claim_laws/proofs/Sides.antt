-- A map and a module, read on the side of another module that is theirs.
use Rattle.std.proofs.Common.{◌≡◌, List, sym, subst}
use Rattle.fp_linear.specs.Matrix.{PlainMatrix}
use Rattle.path_algebra.specs.declared.Header.{Header}
use Rattle.representations.specs.Rep.{IsMod}
use Rattle.local_modules.specs.Local.{IsLocal}
use Rattle.module_types.specs.declared.Module.{Module}
use Rattle.module_types.specs.declared.Side.{Side}
use Rattle.module_types.specs.Algebras.{algebra_at}
use Rattle.module_types.specs.Readings.{rep_of, family_of, IsHom}
use Rattle.claim_conditions.specs.Modules.{ModuleHolds, MapHolds}
use Rattle.claim_conditions.specs.Locals.{LocalHolds}

-- The matrices are a homomorphism from a to b, read on a side.
abbrev pub IsHomAt : (h : Header) (a b : Module) → List PlainMatrix → Side → Type 0
IsHomAt h a b matrices s =
    IsHom (rep_of h.field (algebra_at s h).quiver a) (rep_of h.field (algebra_at s h).quiver b)
    (family_of (rep_of h.field (algebra_at s h).quiver a) (rep_of h.field (algebra_at s h).quiver b) matrices)

pub hom_at : (h : Header) (a b : Module) (matrices : List PlainMatrix) (s : Side) → a.side ≡ s → MapHolds h a b matrices → IsHomAt h a b matrices s
hom_at h a b matrices s e m = subst (IsHomAt h a b matrices) e m.hom

pub module_at : (h : Header) (m : Module) (s : Side) → m.side ≡ s → ModuleHolds h m → IsMod (algebra_at s h) (rep_of h.field (algebra_at s h).quiver m)
module_at h m s e p = subst (λ (s : Side). IsMod (algebra_at s h) (rep_of h.field (algebra_at s h).quiver m)) e p

pub local_at : (h : Header) (m : Module) (s : Side) → m.side ≡ s → LocalHolds h m → IsLocal (rep_of h.field (algebra_at s h).quiver m)
local_at h m s e p = subst (λ (s : Side). IsLocal (rep_of h.field (algebra_at s h).quiver m)) e p

pub module_of_at : (h : Header) (m : Module) (s : Side) → m.side ≡ s → IsMod (algebra_at s h) (rep_of h.field (algebra_at s h).quiver m) → ModuleHolds h m
module_of_at h m s e p = subst (λ (s : Side). IsMod (algebra_at s h) (rep_of h.field (algebra_at s h).quiver m)) (sym e) p
