-- Modules by their relations and their long paths.
use Rattle.std.proofs.Common.{ℕ, ◌<◌, ◌≤◌, ◌≡◌, ◌+◌, ◌*◌, inl, inr, refl, sym, ◌∙◌, arith, mul-le-mul_right}
use Rattle.std.specs.Prelude.{length}
use Rattle.std.proofs.lemmas.Bool.{cases_eq}
use Rattle.path_algebra.specs.declared.Header.{Header}
use Rattle.module_types.specs.declared.Side.{Side}
use Rattle.module_types.specs.declared.Side.TheVariants.{Right, Left}
use Rattle.module_types.specs.declared.Module.{Module}
use Rattle.module_types.specs.Algebras.{algebra_at}
use Rattle.module_types.specs.Readings.{read}
use Rattle.claim_conditions.specs.Modules.{ModuleHolds}
use Rattle.module_checks.specs.RowWalks.{AllActAsZero}
use Rattle.module_checks.specs.PathImages.{LongPathsActAsZero}

relations_at : (side : Side) (h : Header) → (algebra_at side h).relations ≡ length h.relations
relations_at Right h = refl
relations_at Left h = refl

bound_at : (side : Side) (h : Header) → (algebra_at side h).bound ≡ h.bound
bound_at Right h = refl
bound_at Left h = refl

pub module_holds : (h : Header) (m : Module) → AllActAsZero h m (length h.relations) → LongPathsActAsZero (read h m) h.bound → ModuleHolds h m
module_holds h m a l = record { relations = λ i b. a.each i (let e = relations_at m.side h in omega (arith, e, b)); long_paths = λ p e. l.zero p (e ∙ bound_at m.side h) }

pub relations_of_module : (h : Header) (m : Module) → ModuleHolds h m → AllActAsZero h m (length h.relations)
relations_of_module h m M = record { each = λ r b. M.relations r (let e = relations_at m.side h in omega (arith, e, b)) }

pub long_of_module : (h : Header) (m : Module) → ModuleHolds h m → LongPathsActAsZero (read h m) h.bound
long_of_module h m M = record { zero = λ p e. M.long_paths p (e ∙ sym (bound_at m.side h)) }

-- More rows than they are long leave room for two.
pub twice_fits : (n m k : ℕ) → n < m → k ≡ m * n → n + n ≤ k
twice_fits n m k h e = elim (cases_eq n 0) [
  | inl z ↦ omega (arith, z)
  | inr d ↦ let two : 2 ≤ m = omega arith in let b : 2 * n ≤ m * n = mul-le-mul_right n two in omega (arith, b, e)
]
