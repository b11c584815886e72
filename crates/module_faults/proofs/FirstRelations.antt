-- The first relation that does not act as zero, by its number.
use Rattle.std.proofs.Common.{ℕ, ◌<◌, ◌≡◌, ◌+◌, ◌-◌, subst, sym, arith}
use Rattle.std.specs.Prelude.{length}
use Rattle.path_algebra.specs.declared.Header.{Header}
use Rattle.module_types.specs.declared.Module.{Module}
use Rattle.module_faults.specs.RelationActions.{IsRelationZero, AreRelationsZero}
use Rattle.module_faults.specs.ModuleFaults.{IsFirstFailing}

pub first_at : (h : Header) (m : Module) (r : ℕ) → r < length h.relations → AreRelationsZero h m r → (IsRelationZero h m r → ⊥) → IsFirstFailing h m (r + 1)
first_at h m r l before fails =
    let e : r + 1 - 1 ≡ r = omega arith in
    record {
      counted = record { from = omega arith; to = omega arith };
      before = subst (AreRelationsZero h m) (sym e) before;
      fails = subst (λ (r : ℕ). IsRelationZero h m r → ⊥) (sym e) fails;
    }
