-- `residue`, where it is a division ring by the list of its elements: only the spans count.
use Rattle.std.proofs.Common.{ℕ, ◌≤◌, ◌≡◌, ◌*◌, List, length, take, arith, mul-le-mul_right}
use Rattle.std.specs.Prelude.{Bool, true, false, MatchBool}
use Rattle.linear_algebra.specs.Matrix.{Mat}
use Rattle.linear_algebra.specs.Rank.{IsInSpan}
use Rattle.fp_linear.specs.Matrix.{PlainMatrix}
use Rattle.path_algebra.specs.declared.Header.{Header}
use Rattle.local_modules.proofs.Subalgebras.{subalgebra_same, listed_of_same}
use Rattle.module_types.specs.declared.Module.{Module}
use Rattle.claim_conditions.specs.LocalConditions.{families_of, ring_rows, ideal_members, IsPrintedResidue}
use Rattle.claim_conditions.specs.declared.Residue.TheVariants.{Listed}
use Rattle.local_checks.proofs.Places.{lent_elements}
use Rattle.local_checks.proofs.PrintedIdeals.{rest_shape}
use Rattle.residue_checks.specs.RingsModulo.{IsRoomFor, IsListedSpace}

-- Room for the rows of a basis is room for the space that they span.
pub room_of : (h : Header) (m : Module) (n r w : ℕ) (rows places pivots : List ℕ) → IsRoomFor h m n rows places → r ≤ n → w ≡ (families_of h m).size → length (take r pivots) ≡ r
    → IsRoomFor h m (length (take r pivots)) (take (r * w) rows) places
room_of h m n r w rows places pivots s l e c = record {
  elements = rw e (lent_elements h.field rows 0 (r * (families_of h m).size) (let k = mul-le-mul_right (families_of h m).size l in omega (arith, k, s.count)) s.elements);
  count = rest_shape r n (families_of h m).size w rows pivots l e s.count c;
  places = omega (arith, c, l, s.places);
}

module _ (h : Header) (m : Module) (basis ideal : PlainMatrix) {n k : ℕ} (f : Mat h.field n (families_of h m).size) (J : Mat h.field k (families_of h m).size)
    (ring_forth : IsInSpan f (ring_rows h m basis)) (ring_back : IsInSpan (ring_rows h m basis) f) (forth : IsInSpan J (ideal_members h m basis ideal)) (back : IsInSpan (ideal_members h m basis ideal) J) where
  pub printed_listed_decided : (b : Bool) → MatchBool b (IsListedSpace (families_of h m) f J) (¬ IsListedSpace (families_of h m) f J)
      → MatchBool b (IsPrintedResidue h m basis ideal Listed) (¬ IsPrintedResidue h m basis ideal Listed)
  printed_listed_decided true d = record {
    ring = subalgebra_same (families_of h m) (ring_rows h m basis) f ring_back ring_forth d.subalgebra;
    form = listed_of_same (families_of h m) (ring_rows h m basis) f (ideal_members h m basis ideal) J ring_back ring_forth back forth d.listed;
  }
  printed_listed_decided false d = λ r. d (record {
    subalgebra = subalgebra_same (families_of h m) f (ring_rows h m basis) ring_forth ring_back r.ring;
    listed = listed_of_same (families_of h m) f (ring_rows h m basis) J (ideal_members h m basis ideal) ring_forth ring_back forth back r.form;
  })
