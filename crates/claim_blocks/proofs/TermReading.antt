-- A line of a resolution more: what its readers conclude.
use Rattle.std.proofs.Common.{◌≡◌, ℕ, ◌<◌, ◌≤◌, ◌^◌, List, length, Some, None, sym, ◌∙◌, subst, arith}
use Rattle.path_algebra.specs.declared.Header.{Header}
use Rattle.linear_algebra.specs.Rows.{IsRow}
use Rattle.header_text.specs.Named.{IsNamed}
use Rattle.header_text.specs.Reading.{Reads}
use Rattle.report_types.specs.Limits.{term_limit, resolution_limit}
use Rattle.object_lines.specs.Items.{FitsTerm}
use Rattle.object_lines.specs.Spelling.{gen_line, term_line}
use Rattle.object_lines.proofs.OneLine.{term_one, gen_one}
use Rattle.claim_blocks.specs.declared.term_block.TermBlock.{TermBlock}
use Rattle.claim_blocks.specs.declared.term_block.TermPlace.TheVariants as place
use Rattle.claim_blocks.specs.Counts.{table_dimension}
use Rattle.claim_blocks.specs.TermBlocks.{FitsVertices, with_vertices, image_width, FitsImage, with_image, TermStepAt}
use Rattle.claim_blocks.proofs.TakenLines.{takes}

module _ (h : Header) (b : TermBlock) where
  pub one_vertices : IsNamed h.quiver → (x y : List ℕ) → FitsVertices h b x → FitsVertices h b y → term_line h.quiver (length b.terms) x ≡ term_line h.quiver (length b.terms) y → x ≡ y
  one_vertices named x y a c e = term_one h named (length b.terms) x y a.term c.term e

  pub one_image : (x y : List ℕ) → FitsImage h b x → FitsImage h b y → gen_line x ≡ gen_line y → x ≡ y
  one_image x y a c e = gen_one h.field (image_width b) x y a.is_row c.is_row e

  module _ (tokens : List (List ℕ)) (next : TermBlock) where
    pub no_term_left : b.last < length b.terms → TermStepAt place.Term h b tokens next → ⊥
    no_term_left l t = let k = t.fits.left in omega (arith, l, k)

    pub no_short_term : resolution_limit < length b.terms → TermStepAt place.Term h b tokens next → ⊥
    no_short_term l t = let k = t.fits.short in omega (arith, l, k)

    pub no_vertices : Reads (FitsTerm h) (term_line h.quiver (length b.terms)) tokens None → TermStepAt place.Term h b tokens next → ⊥
    no_vertices none t = none t.item t.fits.term t.spelled

    module _ (named : IsNamed h.quiver) (vertices : List ℕ) (reads : Reads (FitsTerm h) (term_line h.quiver (length b.terms)) tokens (Some vertices)) where
      same : TermStepAt place.Term h b tokens next → (P : List ℕ → Type 0) → ((x : List ℕ) → FitsVertices h b x → P x) → P vertices
      same t P each = subst P (term_one h named (length b.terms) t.item vertices t.fits.term reads.0 (sym t.spelled ∙ reads.1)) (each t.item t.fits)

      pub many_vertices : 2 ^ 32 ≤ length vertices → TermStepAt place.Term h b tokens next → ⊥
      many_vertices l t = let few = same t (λ x. length x < 2 ^ 32) (λ x is. is.few) in omega (arith, l, few)

      pub large_term : term_limit < table_dimension b.table vertices → TermStepAt place.Term h b tokens next → ⊥
      large_term l t = let small = same t (λ x. table_dimension b.table x ≤ term_limit) (λ x is. is.small) in omega (arith, l, small)

      pub takes_vertices : length b.terms ≤ b.last → length b.terms ≤ resolution_limit → length vertices < 2 ^ 32 → table_dimension b.table vertices ≤ term_limit → next ≡ with_vertices b vertices → TermStepAt place.Term h b tokens next
      takes_vertices left short few small leads =
          takes (FitsVertices h b) (term_line h.quiver (length b.terms)) (with_vertices b) tokens vertices next (record { left = left; short = short; term = reads.0; few = few; small = small }, reads.1) (one_vertices named) leads

    pub no_image_left : length b.vertices ≤ length b.images → TermStepAt place.Image h b tokens next → ⊥
    no_image_left l t = let k = t.fits.left in omega (arith, l, k)

    pub no_image : (w : ℕ) → w ≡ image_width b → Reads (IsRow h.field w) gen_line tokens None → TermStepAt place.Image h b tokens next → ⊥
    no_image w e none t = none t.item (subst (λ k. IsRow h.field k t.item) (sym e) t.fits.is_row) t.spelled

    pub takes_image : (w : ℕ) (row : List ℕ) → w ≡ image_width b → Reads (IsRow h.field w) gen_line tokens (Some row) → length b.images < length b.vertices → next ≡ with_image b row → TermStepAt place.Image h b tokens next
    takes_image w row e reads left leads =
        takes (FitsImage h b) gen_line (with_image b) tokens row next (record { left = left; is_row = subst (λ k. IsRow h.field k row) e reads.0 }, reads.1) one_image leads
