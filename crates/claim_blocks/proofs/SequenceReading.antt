-- A line more of a claim that a sequence is almost split: what its readers conclude.
use Rattle.std.proofs.Common.{◌≡◌, ℕ, Bool, true, false, List, Some, None, inl, inr, refl, sym, subst, arith}
use Rattle.std.specs.Prelude.{⊤, MatchBool}
use Rattle.path_algebra.specs.declared.Header.{Header}
use Rattle.linear_algebra.specs.Rows.{IsRow}
use Rattle.header_text.specs.Reading.{Reads}
use Rattle.object_lines.specs.Spelling.{phi_line, left_line, middle_line}
use Rattle.object_lines.proofs.OneLine.{phi_one}
use Rattle.claim_blocks.specs.declared.part_matrices.PartMatrices.{PartMatrices}
use Rattle.claim_blocks.specs.declared.sequence_block.SequenceBlock.{SequenceBlock}
use Rattle.claim_blocks.specs.declared.sequence_block.SequencePlace.TheVariants as place
use Rattle.claim_blocks.specs.PartMatrices.{FitsMatrix, next_line, with_matrix, MatrixStep, IsWholeMatrices}
use Rattle.claim_blocks.specs.SequenceBlocks.{functional_width, with_phi, FunctionalStep, behind_left, LeftStep, behind_middle, MiddleStep, MiddleMatrixStep, SequenceStepAt}
use Rattle.claim_blocks.proofs.TakenLines.{takes, takes_within, takes_not_within}

-- ---- what fits is spelled in one way

pub one_phi : (h : Header) (b : SequenceBlock) (x y : List ℕ) → IsRow h.field (functional_width b.counts) x → IsRow h.field (functional_width b.counts) y → phi_line x ≡ phi_line y → x ≡ y
one_phi h b x y a c e = phi_one h.field (functional_width b.counts) x y a c e

pub one_left : (u v : ⊤) → ⊤ → ⊤ → left_line ≡ left_line → u ≡ v
one_left u v a c e = refl

pub one_middle : (b : SequenceBlock) (u v : ⊤) → IsWholeMatrices b.left → IsWholeMatrices b.left → middle_line ≡ middle_line → u ≡ v
one_middle b u v a c e = refl

-- ---- what a reader gives

pub functional_reads : (h : Header) (b : SequenceBlock) (counts row : List ℕ) (ts : List (List ℕ)) (next : SequenceBlock) → counts ≡ b.counts → Reads (IsRow h.field (functional_width counts)) phi_line ts (Some row) → next ≡ with_phi b row
    → FunctionalStep h b ts next
functional_reads h b counts row ts next e reads leads =
    takes (IsRow h.field (functional_width b.counts)) phi_line (with_phi b) ts row next (subst (λ l. Reads (IsRow h.field (functional_width l)) phi_line ts (Some row)) e reads) (one_phi h b) leads

pub no_functional : (h : Header) (b : SequenceBlock) (counts : List ℕ) (ts : List (List ℕ)) → counts ≡ b.counts → Reads (IsRow h.field (functional_width counts)) phi_line ts None → (next : SequenceBlock) → FunctionalStep h b ts next → ⊥
no_functional h b counts ts e none next t = none t.item (subst (λ l. IsRow h.field (functional_width l) t.item) (sym e) t.fits) t.spelled

pub left_reads : (b : SequenceBlock) (ts : List (List ℕ)) → ts ≡ left_line → LeftStep b ts (behind_left b)
left_reads b ts e = takes (λ (u : ⊤). ⊤) (λ u. left_line) (λ u. behind_left b) ts tt (behind_left b) (tt, e) one_left refl

pub no_left : (b : SequenceBlock) (ts : List (List ℕ)) → (ts ≡ left_line → ⊥) → (next : SequenceBlock) → LeftStep b ts next → ⊥
no_left b ts none next t = none t.spelled

pub middle_reads : (b : SequenceBlock) (ts : List (List ℕ)) → IsWholeMatrices b.left → ts ≡ middle_line → MiddleStep b ts (behind_middle b)
middle_reads b ts whole e = takes (λ (u : ⊤). IsWholeMatrices b.left) (λ u. middle_line) (λ u. behind_middle b) ts tt (behind_middle b) (whole, e) (one_middle b) refl

pub no_middle : (b : SequenceBlock) (ts : List (List ℕ)) → (ts ≡ middle_line → ⊥) → (next : SequenceBlock) → MiddleStep b ts next → ⊥
no_middle b ts none next t = none t.spelled

module _ (h : Header) (b : SequenceBlock) (ts : List (List ℕ)) where
  abbrev with_left : PartMatrices → SequenceBlock
  with_left m = record b { left = m }

  abbrev with_middle : PartMatrices → SequenceBlock
  with_middle m = record b { middle = m }

  -- behind the last matrix of the left end only the line before those of the middle follows
  pub middle_taken : (taken : Bool) (next : SequenceBlock) → IsWholeMatrices b.left → MatchBool taken (MiddleStep b ts next) ((r : SequenceBlock) → MiddleStep b ts r → ⊥)
      → MatchBool taken (SequenceStepAt place.LeftMatrices h b ts next) ((r : SequenceBlock) → SequenceStepAt place.LeftMatrices h b ts r → ⊥)
  middle_taken true next whole t = inr t
  middle_taken false next whole none = λ r t. elim t [
    | inl u ↦ let l = u.fits.left in absurd (omega (arith, l, whole))
    | inr u ↦ none r u
  ]

  -- before it only a matrix
  pub left_taken : (taken : Bool) (next : PartMatrices) → (IsWholeMatrices b.left → ⊥) → MatchBool taken (MatrixStep h b.left ts next) ((r : PartMatrices) → MatrixStep h b.left ts r → ⊥)
      → MatchBool taken (SequenceStepAt place.LeftMatrices h b ts (record b { left = next })) ((r : SequenceBlock) → SequenceStepAt place.LeftMatrices h b ts r → ⊥)
  left_taken true next some t = inl (takes_within (FitsMatrix h b.left) (next_line h b.left) (with_matrix b.left) with_left ts next t)
  left_taken false next some none = λ r t. elim t [
    | inl u ↦ takes_not_within (FitsMatrix h b.left) (next_line h b.left) (with_matrix b.left) with_left ts none r u
    | inr u ↦ some u.fits
  ]

  pub middle_matrix_taken : (taken : Bool) (next : PartMatrices) → MatchBool taken (MatrixStep h b.middle ts next) ((r : PartMatrices) → MatrixStep h b.middle ts r → ⊥)
      → MatchBool taken (MiddleMatrixStep h b ts (record b { middle = next })) ((r : SequenceBlock) → MiddleMatrixStep h b ts r → ⊥)
  middle_matrix_taken true next t = takes_within (FitsMatrix h b.middle) (next_line h b.middle) (with_matrix b.middle) with_middle ts next t
  middle_matrix_taken false next none = λ r t. takes_not_within (FitsMatrix h b.middle) (next_line h b.middle) (with_matrix b.middle) with_middle ts none r t
