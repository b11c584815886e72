-- One place after another: pivots in a slice, rows that are compared, and what is printed for a generator.
use Rattle.std.proofs.Common.{ℕ, ◌<◌, ◌≡◌, ◌≢◌, ◌+◌, ◌*◌, List, true, false, inl, inr, sym, ap, ◌∙◌, arith, subst}
use Rattle.std.specs.Prelude.{slice_index}
use Rattle.std.proofs.lemmas.Bool.{cases_eq, true_from_ne_false, false_from_ne_true}
use Rattle.linear_algebra.specs.Field.{Gf}
use Rattle.fp_linear.specs.Slices.{cell}
use Rattle.fp_linear.proofs.Cells.{cell-is}
use Rattle.representations.specs.Quiver.{Quiver}
use Rattle.representations.specs.Rep.{Rep}
use Rattle.projectives.specs.Words.{Words}
use Rattle.projectives.specs.Canonical.{is_among}
use Rattle.projectives.proofs.CanonicalRows.{is_among-true, is_among-false}
use Rattle.module_types.specs.declared.TermRows.{TermRows}
use Rattle.claim_conditions.specs.Terms.{term_at}
use Rattle.cover_checks.specs.Covers.{covered_rows, IsChosenIn}
use Rattle.cover_checks.specs.Folds.{IsBasisAt}
use Rattle.cover_checks.specs.Choosing.{IsBasisRow, IsPrintedRow, IsPlacedAt, AreMetBefore, IsReadAt}
use Rattle.cover_checks.proofs.ChosenPlaces.{met_pivot, met_place, placed_where}

pub among_here : (n : ℕ) (f : ℕ → ℕ) (c i : ℕ) → i < n → f i ≡ c → true ≡ is_among n f c
among_here n f c i l e = sym (true_from_ne_false (is_among n f c) (λ x. is_among-false n f c x i l e))

pub among_none : (n : ℕ) (f : ℕ → ℕ) (c : ℕ) → ((i : ℕ) → i < n → f i ≢ c) → false ≡ is_among n f c
among_none n f c h = sym (false_from_ne_true (is_among n f c) (λ x. let i = is_among-true n f c x in h i.0 i.1 i.2))

pub others_more : (k : ℕ) (f : ℕ → ℕ) (c : ℕ) → ((i : ℕ) → i < k → f i ≢ c) → f k ≢ c → (i : ℕ) → i < k + 1 → f i ≢ c
others_more k f c h d i l = elim (cases_eq i k) [ inl e ↦ subst (λ i. f i ≢ c) (sym e) d | inr n ↦ h i (omega arith) ]

pub row_none : (width c : ℕ) (basis image : List ℕ) → IsBasisRow width c basis image 0
row_none width c basis image = record { at = λ i l. absurd (omega arith) }

pub row_more : (width c : ℕ) (basis image : List ℕ) (n : ℕ) → IsBasisRow width c basis image n → slice_index image n ≡ slice_index basis (c * width + n) → IsBasisRow width c basis image (n + 1)
row_more width c basis image n h e = record {
  at = λ i l. elim (cases_eq i n) [ inl s ↦ subst (λ i. slice_index image i ≡ slice_index basis (c * width + i)) (sym s) e | inr d ↦ h.at i (omega arith) ];
}

module _ {q : Gf} {Q : Quiver} (W : Words q Q) (X : Rep q Q) (terms : List TermRows) (k w size width rank : ℕ) (basis places pivots : List ℕ) where
  basis_cell : (c i : ℕ) → IsBasisAt W X terms k w size width basis places → c < size → i < width → slice_index basis (c * width + i) ≡ (covered_rows W X terms k w).at c i
  basis_cell c i B l d =
      let s = B.size_is in
      let n = B.width_is in
      sym (cell-is width basis c i) ∙ ap (λ n. cell n basis c i) B.width_is ∙ B.basis_is.rows c i (omega (arith, s, l)) (omega (arith, n, d))

  placed_printed : (j c : ℕ) → IsBasisAt W X terms k w size width basis places → c < size → IsPrintedRow (term_at terms k) j w width c basis → IsPlacedAt W X terms k j w c
  placed_printed j c B l p = record {
    counted = p.counted;
    vertex_is = p.vertex_is;
    entries_are = λ i d. let b : i < width = (let n = B.width_is in omega (arith, n, d)) in p.row_is.at i b ∙ basis_cell c i B l b;
  }

  printed_placed : (j c : ℕ) → IsBasisAt W X terms k w size width basis places → c < size → IsPlacedAt W X terms k j w c → IsPrintedRow (term_at terms k) j w width c basis
  printed_placed j c B l p = record {
    counted = p.counted;
    vertex_is = p.vertex_is;
    row_is = record { at = λ i b. p.entries_are i (let n = B.width_is in omega (arith, n, b)) ∙ sym (basis_cell c i B l b) };
  }

  -- what happens in a column
  module _ (term : TermRows) (R : IsReadAt W X terms k w size width rank term basis places pivots) (c met : ℕ) (l : c < size) (m : AreMetBefore W X terms k w c met) where
    pub pass_pivot : true ≡ is_among rank (slice_index pivots) c → AreMetBefore W X terms k w (c + 1) met
    pass_pivot e = met_pivot W X terms k w c met (R.pivots_are.are c ∙ sym e) m

    pub pass_place : false ≡ is_among rank (slice_index pivots) c → IsPrintedRow term met w width c basis → AreMetBefore W X terms k w (c + 1) (met + 1)
    pass_place e p = met_place W X terms k w c met (R.pivots_are.are c ∙ sym e) m (placed_printed met c R.basis_is l (subst (λ t. IsPrintedRow t met w width c basis) R.term_is p))

    pub chosen_printed : false ≡ is_among rank (slice_index pivots) c → IsChosenIn W X terms k → IsPrintedRow term met w width c basis
    chosen_printed e C = subst (λ t. IsPrintedRow t met w width c basis) (sym R.term_is)
        (printed_placed met c R.basis_is l (placed_where W X terms k R.rows_are w c met R.vertex_below (let s = R.basis_is.size_is in omega (arith, s, l)) (R.pivots_are.are c ∙ sym e) m C))
