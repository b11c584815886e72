-- The conditions on a local module, by the spaces that its numbers span.
use Rattle.std.proofs.Common.{ℕ, ◌<◌, ◌≤◌, ◌≡◌, ◌≢◌, ◌*◌, List, get_or, length, take, sym, ap, ◌∙◌, inl, inr, arith, subst, mul-le-mul_right}
use Rattle.std.proofs.lemmas.Bool.{cases_lt}
use Rattle.std.proofs.lemmas.List.{length-take-le}
use Rattle.std.specs.Prelude.{Bool, true, false, MatchBool}
use Rattle.linear_algebra.specs.Field.{Gf}
use Rattle.linear_algebra.specs.Matrix.{Mat, ◌·◌}
use Rattle.linear_algebra.specs.Rank.{IsInSpan}
use Rattle.linear_algebra.specs.Rows.{IsGrid, rows_of}
use Rattle.linear_algebra.specs.Reduced.{IsReduced, pivot}
use Rattle.linear_algebra.specs.Typed.{as_mat}
use Rattle.linear_algebra.proofs.RowFormUnique.{row_reduced-as_mat, grid_of-reduced}
use Rattle.linear_algebra.proofs.Solving.{in_span_self, in_span_trans, in_span_mul}
use Rattle.linear_algebra.proofs.Typed.{grid_of-as_mat}
use Rattle.fp_linear.specs.Matrix.{PlainMatrix, IsMatrix}
use Rattle.path_algebra.specs.declared.Header.{Header}
use Rattle.local_modules.specs.Ideal.{IsLeastPower}
use Rattle.local_modules.specs.Subalgebra.{IsIdealOf}
use Rattle.local_modules.proofs.Subalgebras.{ideal_of_same, subalgebra_same, frobenius_of_same}
use Rattle.local_modules.proofs.SameIdeals.{least_same}
use Rattle.module_types.specs.declared.Module.{Module}
use Rattle.module_types.specs.Algebras.{algebra_at}
use Rattle.module_types.specs.Readings.{read}
use Rattle.module_types.specs.Shapes.{IsModule}
use Rattle.module_checks.proofs.HomRank.{dim_at-is}
use Rattle.claim_conditions.specs.LocalConditions.{families_of, ring_rows, ideal_rows, ideal_members, IsNotZero, IsPrintedIdeal, IsPrintedPower, IsPrintedResidue}
use Rattle.claim_conditions.specs.declared.Residue.TheVariants.{Frobenius}
use Rattle.local_checks.specs.Remainders.{IsFrobeniusSpace}
use Rattle.local_checks.specs.Standing.{standing}
use Rattle.local_checks.specs.Families.{family_rows}

-- `nonzero`
module _ (h : Header) (m : Module) (M : IsModule h.field (algebra_at m.side h).quiver m) where
  pub has_rows : (v : ℕ) → v < length m.dims → get_or m.dims v 0 ≢ 0 → IsNotZero h m
  has_rows v l n = record { vertex = v; nonzero = λ z. n (sym (dim_at-is (algebra_at m.side h).quiver m.dims v (let c = M.counted in omega (arith, c, l))) ∙ z) }

  pub has_no_rows : ((v : ℕ) → v < length m.dims → get_or m.dims v 0 ≡ 0) → IsNotZero h m → ⊥
  has_no_rows z n = elim (cases_lt n.vertex (length m.dims)) [
    | inl l ↦ n.nonzero (dim_at-is (algebra_at m.side h).quiver m.dims n.vertex (let c = M.counted in omega (arith, c, l)) ∙ z n.vertex l)
    | inr l ↦ n.nonzero ((read h m).past n.vertex (let c = M.counted in omega (arith, c, l)))
  ]

-- the rows of the basis that are written, and the members of the ideal over them
module _ (h : Header) (m : Module) (basis ideal : PlainMatrix) (f : basis.field ≡ h.field) (g : ideal.field ≡ h.field) (u : basis.col_count ≡ (families_of h m).size) (c : ideal.col_count ≡ basis.row_count) where
  pub ring_is : (s : List ℕ) → rows_of basis.row_count basis.col_count s ≡ basis.rows → family_rows h m basis.row_count s ≡ ring_rows h m basis
  ring_is s e = ap (as_mat h.field basis.row_count (families_of h m).size) (subst (λ (n : ℕ). rows_of basis.row_count n s ≡ basis.rows) u e)

  pub members_are : (s t : List ℕ) → rows_of basis.row_count basis.col_count s ≡ basis.rows
      → standing ideal.field ideal.row_count basis.col_count t ≡ as_mat ideal.field ideal.row_count ideal.col_count ideal.rows · standing ideal.field ideal.col_count basis.col_count s
      → standing h.field ideal.row_count (families_of h m).size t ≡ ideal_members h m basis ideal
  members_are s t e p =
      let x = ring_is s e in
      subst (λ (r : Mat h.field basis.row_count (families_of h m).size). standing h.field ideal.row_count (families_of h m).size t ≡ ideal_rows h basis ideal · r) x (rw (g, u, c) at p)

-- `ideal` and `power`: only the spans count.
module _ (h : Header) (m : Module) (basis ideal : PlainMatrix) (M : IsMatrix ideal) (f : ideal.field ≡ h.field) (u : ideal.col_count ≡ basis.row_count) where
  ideal_grid : IsGrid h.field ideal.row_count basis.row_count ideal.rows
  ideal_grid = subst (λ (q : Gf). IsGrid q ideal.row_count basis.row_count ideal.rows) f (subst (λ (n : ℕ). IsGrid ideal.field ideal.row_count n ideal.rows) u M.grid)

  pub not_reduced : (IsReduced ideal.col_count ideal.rows → ⊥) → IsPrintedIdeal h m basis ideal → ⊥
  not_reduced n i = n (subst (λ (n : ℕ). IsReduced n ideal.rows) (sym u) (subst (IsReduced basis.row_count) (grid_of-as_mat h.field ideal.row_count basis.row_count ideal.rows ideal_grid)
      (grid_of-reduced (ideal_rows h basis ideal) i.pivot i.reduced)))

  module _ {k : ℕ} (J : Mat h.field k (families_of h m).size) (forth : IsInSpan J (ideal_members h m basis ideal)) (back : IsInSpan (ideal_members h m basis ideal) J) where
    pub printed_ideal_decided : (b : Bool) → IsReduced ideal.col_count ideal.rows → MatchBool b (IsIdealOf (families_of h m) (ring_rows h m basis) J) (¬ IsIdealOf (families_of h m) (ring_rows h m basis) J)
        → MatchBool b (IsPrintedIdeal h m basis ideal) (¬ IsPrintedIdeal h m basis ideal)
    printed_ideal_decided true r d = record {
      pivot = pivot ideal.rows;
      reduced = row_reduced-as_mat h.field ideal.row_count basis.row_count ideal.rows ideal_grid (subst (λ (n : ℕ). IsReduced n ideal.rows) u r);
      closed = ideal_of_same (families_of h m) (ring_rows h m basis) (ring_rows h m basis) (ideal_members h m basis ideal) J (in_span_self (ring_rows h m basis)) (in_span_self (ring_rows h m basis)) back forth d;
    }
    printed_ideal_decided false r d = λ i. d (ideal_of_same (families_of h m) (ring_rows h m basis) (ring_rows h m basis) J (ideal_members h m basis ideal) (in_span_self (ring_rows h m basis)) (in_span_self (ring_rows h m basis)) forth back i.closed)

    pub printed_power_decided : (b : Bool) (s : ℕ) → MatchBool b (IsLeastPower (families_of h m) J s) (¬ IsLeastPower (families_of h m) J s) → MatchBool b (IsPrintedPower h m basis ideal s) (¬ IsPrintedPower h m basis ideal s)
    printed_power_decided true s d = least_same (families_of h m) J (ideal_members h m basis ideal) forth back s d
    printed_power_decided false s d = λ i. d (least_same (families_of h m) (ideal_members h m basis ideal) J back forth s i)

-- `residue`, where it is a field that q-th powers recognise: only the spans count.
module _ (h : Header) (m : Module) (basis ideal : PlainMatrix) {n k : ℕ} (f : Mat h.field n (families_of h m).size) (J : Mat h.field k (families_of h m).size)
    (ring_forth : IsInSpan f (ring_rows h m basis)) (ring_back : IsInSpan (ring_rows h m basis) f) (forth : IsInSpan J (ideal_members h m basis ideal)) (back : IsInSpan (ideal_members h m basis ideal) J) where
  pub ideal_inside : IsInSpan f J
  ideal_inside = in_span_trans f (ideal_members h m basis ideal) J (in_span_trans f (ring_rows h m basis) (ideal_members h m basis ideal) ring_forth (in_span_mul (ring_rows h m basis) (ideal_rows h basis ideal))) back

  pub ideal_closed : IsPrintedIdeal h m basis ideal → IsIdealOf (families_of h m) f J
  ideal_closed i = ideal_of_same (families_of h m) f (ring_rows h m basis) J (ideal_members h m basis ideal) ring_forth ring_back forth back i.closed

  pub printed_frobenius_decided : (b : Bool) → MatchBool b (IsFrobeniusSpace (families_of h m) f J) (¬ IsFrobeniusSpace (families_of h m) f J)
      → MatchBool b (IsPrintedResidue h m basis ideal Frobenius) (¬ IsPrintedResidue h m basis ideal Frobenius)
  printed_frobenius_decided true d = record {
    ring = subalgebra_same (families_of h m) (ring_rows h m basis) f ring_back ring_forth d.subalgebra;
    form = frobenius_of_same (families_of h m) (ring_rows h m basis) f (ideal_members h m basis ideal) J ring_back ring_forth back forth d.frobenius;
  }
  printed_frobenius_decided false d = λ r. d (record {
    subalgebra = subalgebra_same (families_of h m) f (ring_rows h m basis) ring_forth ring_back r.ring;
    frobenius = frobenius_of_same (families_of h m) f (ring_rows h m basis) J (ideal_members h m basis ideal) ring_forth ring_back forth back r.form;
  })

pub rest_shape : (r n N w : ℕ) (rest pivots : List ℕ) → r ≤ n → w ≡ N → length rest ≡ n * N → length (take r pivots) ≡ r → length (take (r * w) rest) ≡ length (take r pivots) * N
rest_shape r n N w rest pivots l e c p =
    rw e (length-take-le (r * N) rest (let k = mul-le-mul_right N l in omega (arith, k, c)) ∙ ap (λ (k : ℕ). k * N) (sym p))
