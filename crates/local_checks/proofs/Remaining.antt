-- What is left of families modulo a space: from lent memory to the conditions.
use Rattle.std.proofs.Common.{ℕ, ◌<◌, ◌≤◌, ◌≡◌, ◌+◌, ◌-◌, ◌*◌, List, ◌++◌, length, take, drop, sym, ap, ap₂, ◌∙◌, inl, inr, arith, subst}
use Rattle.std.proofs.lemmas.Bool.{cases_eq}
use Rattle.linear_algebra.specs.Field.{Gf}
use Rattle.linear_algebra.specs.Parts.{row}
use Rattle.linear_algebra.proofs.PartsLaws.{Row-eq, row-at}
use Rattle.linear_algebra.specs.Matrix.{Mat, ◌⊞◌, ◌⊟◌, ◌⊙◌}
use Rattle.linear_algebra.specs.Ranks.{rank}
use Rattle.linear_algebra.specs.Reduced.{remainder}
use Rattle.linear_algebra.specs.Rows.{rows_of}
use Rattle.linear_algebra.proofs.MatrixLaws.{difference, negative_sum, negative_negative, add_assoc_mat, add_negative, zeros_add}
use Rattle.linear_algebra.proofs.Ranks.{rank_same_span, rank_right_inverse}
use Rattle.linear_algebra.specs.Matrix.{negative}
use Rattle.path_algebra.specs.declared.Header.{Header}
use Rattle.local_modules.specs.Algebra.{Element}
use Rattle.module_types.specs.declared.Module.{Module}
use Rattle.claim_conditions.specs.LocalConditions.{families_of}
use Rattle.local_checks.specs.Standing.{standing}
use Rattle.local_checks.specs.Rows.{IsSpaceOf}
use Rattle.local_checks.specs.Families.{IsFamily, IsFamilySpace, family, family_rows}
use Rattle.local_checks.specs.Remainders.{IsRemainderOf, AreRemaindersUpTo, HaveRemaindersOfRank}
use Rattle.local_checks.proofs.Places.{place_below, row_room, part_before, part_within, part_elements}
use Rattle.local_checks.proofs.Spaces.{standing-at, as_row_is, coefficients, remainder_is, remainder_clear}
use Rattle.fp_linear.specs.Slices.{AreElements, plus_multiple}
use Rattle.fp_linear.proofs.Slices.{length-plus}
use Rattle.local_checks.proofs.ClosedSpaces.{added_row}
use Rattle.local_checks.proofs.Images.{rows_forth, rows_back, rows_independent}

less_less : {q : Gf} {m n : ℕ} (a b : Mat q m n) → a ⊟ (a ⊟ b) ≡ b
less_less a b =
    difference a (a ⊟ b) ∙ ap (λ z. a ⊞ negative z) (difference a b) ∙ ap (λ z. a ⊞ z) (negative_sum a (negative b)) ∙ ap (λ z. a ⊞ (negative a ⊞ z)) (negative_negative b)
    ∙ sym (add_assoc_mat a (negative a) b) ∙ ap (λ z. z ⊞ b) (add_negative a) ∙ zeros_add b

-- A family that is cleared.
pub remainder_of : (h : Header) (m : Module) (rows pivots x y : List ℕ) (p : Element (families_of h m)) → IsFamilySpace h m rows pivots → IsFamily h m x → y ≡ remainder h.field (families_of h m).size (rows_of (length pivots) (families_of h m).size rows) x
    → family h m x ≡ p → IsRemainderOf h m rows pivots p (family h m y)
remainder_of h m rows pivots x y p S f d e = record {
  differs = record {
    by = coefficients h.field (families_of h m).size rows pivots S x y f.elements f.count d;
    is = sym (ap₂ (λ a b. a ⊟ b) (sym e) (remainder_is h.field (families_of h m).size rows pivots S x y f.elements f.count d) ∙ less_less (family h m x) _);
  };
  clear = λ i l. remainder_clear h.field (families_of h m).size rows pivots S x y f.elements f.count d i l;
}

-- The rank that elimination finds.
pub rank_of_space : {q : Gf} {m n : ℕ} (f : Mat q m n) (rows pivots : List ℕ) (r : ℕ) → IsSpaceOf f rows pivots r → rank f ≡ r
rank_of_space {q} {m} {n} f rows pivots r s =
    rank_same_span (standing q r n rows) f (rows_forth f rows pivots r s) (rows_back f rows pivots r s) ∙ rank_right_inverse (standing q r n rows) (rows_independent f rows pivots r s)

-- A power is written, a multiple added, and the row cleared.
pub remainder_written : (h : Header) (m : Module) (factor : ℕ) (x rows pivots power sum rest : List ℕ) → IsFamily h m x → IsFamily h m power → IsFamilySpace h m rows pivots → AreElements h.field sum → (p : Element (families_of h m))
    → family h m power ≡ p → sum ≡ plus_multiple h.field factor x power → rest ≡ remainder h.field (length sum) (rows_of (length pivots) (length sum) rows) sum
    → IsRemainderOf h m rows pivots (p ⊞ factor ⊙ family h m x) (family h m rest)
remainder_written h m factor x rows pivots power sum rest fx fp S a p e es er =
    let count : length sum ≡ (families_of h m).size = ap length es ∙ length-plus h.field factor x power ∙ fp.count in
    remainder_of h m rows pivots sum rest (p ⊞ factor ⊙ family h m x) S (record { count = count; elements = a }) (er ∙ ap (λ (n : ℕ). remainder h.field n (rows_of (length pivots) n rows) sum) count)
    (added_row h.field (families_of h m).size factor x power sum fx.elements fp.elements a fx.count fp.count es ∙ ap (λ (z : Element (families_of h m)). z ⊞ factor ⊙ family h m x) e)

-- One row more.
pub remainders_step : (h : Header) (m : Module) (rows pivots : List ℕ) (n : ℕ) (x : ℕ → Element (families_of h m)) (old w : List ℕ) (i c : ℕ) → c ≡ (families_of h m).size → i < n
    → length old ≡ n * (families_of h m).size → AreElements h.field old → IsFamily h m w → AreRemaindersUpTo h m rows pivots x (family_rows h m n old) i
    → IsRemainderOf h m rows pivots (x i) (family h m w)
    → AreRemaindersUpTo h m rows pivots x (family_rows h m n (take (i * c) old ++ (w ++ drop (i * c + c - i * c) (drop (i * c) old)))) (i + 1) × AreElements h.field (take (i * c) old ++ (w ++ drop (i * c + c - i * c) (drop (i * c) old)))
remainders_step h m rows pivots n x old w i c e l o a f before here = rw e (
  (λ j b. elim (cases_eq j i) [
    | inl d ↦ subst (λ (j : ℕ). IsRemainderOf h m rows pivots (x j) (row j (family_rows h m n (take (i * (families_of h m).size) old ++ (w ++ drop (i * (families_of h m).size + (families_of h m).size - i * (families_of h m).size) (drop (i * (families_of h m).size) old)))))) (sym d)
        (subst (IsRemainderOf h m rows pivots (x i)) (sym this_row) here)
    | inr d ↦ subst (IsRemainderOf h m rows pivots (x j)) (sym (other_row j (omega (arith, b, d)))) (before j (omega (arith, b, d)))
  ]),
  new_elements,
)
  where
    room : i * (families_of h m).size + (families_of h m).size ≤ length old
    room = row_room n (families_of h m).size i old o l

    new_elements : AreElements h.field (take (i * (families_of h m).size) old ++ (w ++ drop (i * (families_of h m).size + (families_of h m).size - i * (families_of h m).size) (drop (i * (families_of h m).size) old)))
    new_elements = part_elements old w (i * (families_of h m).size) (i * (families_of h m).size + (families_of h m).size - i * (families_of h m).size) (families_of h m).size f.count (omega arith) room h.field a f.elements

    this_row : row i (family_rows h m n (take (i * (families_of h m).size) old ++ (w ++ drop (i * (families_of h m).size + (families_of h m).size - i * (families_of h m).size) (drop (i * (families_of h m).size) old)))) ≡ family h m w
    this_row = Row-eq _ _ (λ t b. row-at i (family_rows h m n (take (i * (families_of h m).size) old ++ (w ++ drop (i * (families_of h m).size + (families_of h m).size - i * (families_of h m).size) (drop (i * (families_of h m).size) old)))) t ∙ standing-at h.field n (families_of h m).size (take (i * (families_of h m).size) old ++ (w ++ drop (i * (families_of h m).size + (families_of h m).size - i * (families_of h m).size) (drop (i * (families_of h m).size) old))) new_elements i t l b
        ∙ part_within old w (i * (families_of h m).size) (i * (families_of h m).size + (families_of h m).size - i * (families_of h m).size) (families_of h m).size f.count (omega arith) room t b ∙ sym (as_row_is h.field (families_of h m).size w f.elements f.count t))

    other_row : (j : ℕ) → j < i → row j (family_rows h m n (take (i * (families_of h m).size) old ++ (w ++ drop (i * (families_of h m).size + (families_of h m).size - i * (families_of h m).size) (drop (i * (families_of h m).size) old)))) ≡ row j (family_rows h m n old)
    other_row j b = Row-eq _ _ (λ t d. row-at j (family_rows h m n (take (i * (families_of h m).size) old ++ (w ++ drop (i * (families_of h m).size + (families_of h m).size - i * (families_of h m).size) (drop (i * (families_of h m).size) old)))) t ∙ standing-at h.field n (families_of h m).size (take (i * (families_of h m).size) old ++ (w ++ drop (i * (families_of h m).size + (families_of h m).size - i * (families_of h m).size) (drop (i * (families_of h m).size) old))) new_elements j t (omega (arith, b, l)) d
        ∙ part_before old w (i * (families_of h m).size) (i * (families_of h m).size + (families_of h m).size - i * (families_of h m).size) (families_of h m).size f.count (omega arith) room (j * (families_of h m).size + t) (place_below j (families_of h m).size t i b d)
        ∙ sym (row-at j (family_rows h m n old) t ∙ standing-at h.field n (families_of h m).size old a j t (omega (arith, b, l)) d))

pub remainders_done : (h : Header) (m : Module) (rows pivots : List ℕ) (n : ℕ) (x : ℕ → Element (families_of h m)) (rest last ps : List ℕ) (i r c : ℕ) → i ≡ n → c ≡ (families_of h m).size
    → AreRemaindersUpTo h m rows pivots x (family_rows h m n rest) i → IsSpaceOf (standing h.field n c rest) last ps r → HaveRemaindersOfRank h m rows pivots n x r
remainders_done h m rows pivots n x rest last ps i r c e d u s = record {
  rest = family_rows h m n rest;
  are = λ j l. u j (omega (arith, e, l));
  rank_is = rank_of_space (family_rows h m n rest) last ps r (subst (λ (k : ℕ). IsSpaceOf (standing h.field n k rest) last ps r) d s);
}
