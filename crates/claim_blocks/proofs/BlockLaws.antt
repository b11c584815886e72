-- The lines of a claim, whatever its kind: what was read is the claim, the claim is read, and each line leads to one block or to none.
use Rattle.std.specs.Prelude.{IsTrue, ◌↔◌, ◌&&◌, MatchBool, nat_eq}
use Rattle.std.proofs.Common.{◌≡◌, ℕ, Bool, true, false, suc, List, [], ◌∷◌, ◌++◌, length, inl, inr, refl, sym, ap, ◌∙◌, subst, arith}
use Rattle.std.proofs.lemmas.Bool.Decides.{eqb_tells}
use Rattle.text_lines.proofs.Readings.{Goes}
use Rattle.path_algebra.specs.declared.Header.{Header}
use Rattle.header_text.specs.Named.{IsNamed}
use Rattle.report_types.specs.declared.claims.Claim.{Claim}
use Rattle.report_types.specs.declared.claims.Claim.TheVariants as claim
use Rattle.report_types.specs.declared.claims.Record.{Record}
use Rattle.report_types.specs.Numbers.{modules_of, maps_of}
use Rattle.report_types.specs.ClaimBlocks.{IsClaimBlock}
use Rattle.object_lines.proofs.ClearLines.{StandsOutside}
use Rattle.claim_lines.specs.declared.heads.Head.{Head}
use Rattle.claim_lines.specs.declared.heads.Head.TheVariants as head
use Rattle.claim_lines.specs.Items.{AreNumbers}
use Rattle.claim_lines.proofs.Clear.{ClearLine}
use Rattle.claim_blocks.specs.declared.block.Block.{Block}
use Rattle.claim_blocks.specs.declared.block.Block.TheVariants as block
use Rattle.claim_blocks.specs.declared.local_block.LocalBlock.{LocalBlock}
use Rattle.claim_blocks.specs.declared.local_block.LocalPlace.{LocalPlace}
use Rattle.claim_blocks.specs.declared.local_block.LocalPlace.TheVariants as place
use Rattle.claim_blocks.specs.declared.row_block.RowBlock.{RowBlock}
use Rattle.claim_blocks.specs.declared.row_block.Space.{Space}
use Rattle.claim_blocks.specs.declared.row_block.Space.TheVariants as space
use Rattle.claim_blocks.specs.declared.term_block.TermBlock.{TermBlock}
use Rattle.claim_blocks.specs.declared.term_block.TermPlace.{TermPlace}
use Rattle.claim_blocks.specs.declared.term_block.TermPlace.TheVariants as term_place
use Rattle.claim_blocks.specs.TermBlocks.{term_block, TermStep, TermStepAt, IsWholeTerms}
use Rattle.claim_blocks.proofs.TermBlocks.{IsTermsSoFar, terms_start, terms_next, terms_head_is, terms_is_claim, terms_lines, terms_read, terms_one, terms_go, terms_clear}
use Rattle.report_types.specs.declared.claims.Translation.{Translation}
use Rattle.claim_blocks.specs.declared.vertex_block.VertexBlock.{VertexBlock}
use Rattle.claim_blocks.specs.PartMatrices.{with_matrix}
use Rattle.claim_blocks.specs.VertexBlocks.{vertex_block, VertexStep, IsWholeVertices}
use Rattle.claim_blocks.proofs.FilledMatrices.{past_matrices}
use Rattle.claim_blocks.proofs.VertexBlocks.{IsVerticesSoFar, vertices_start, vertices_next, vertices_head_is, vertices_is_claim, vertices_lines, vertices_read, presentation_fits, vertices_one, vertices_go, vertices_clear}
use Rattle.claim_blocks.specs.declared.sequence_block.Sequence.{Sequence}
use Rattle.claim_blocks.specs.declared.sequence_block.SequenceBlock.{SequenceBlock}
use Rattle.claim_blocks.specs.declared.sequence_block.SequencePlace.{SequencePlace}
use Rattle.claim_blocks.specs.declared.sequence_block.SequencePlace.TheVariants as sequence_place
use Rattle.claim_blocks.specs.SequenceBlocks.{sequence_of, sequence_head, sequence_block, SequenceStep, IsWholeSequence}
use Rattle.claim_blocks.proofs.SequenceBlocks.{sequence_fits, IsSequenceSoFar, sequence_start, sequence_next, sequence_lines, sequence_head_is, sequence_is_claim, whole_sequence, sequence_read, sequence_whole, sequence_one, sequence_go, sequence_stops, sequence_clear}
use Rattle.claim_blocks.specs.Blocks.{AreDeclared, AreSmall, whole_terms_place, whole_sequence_place, FitsHead, begin_block, BlockStep, whole_place, whole_block, block_claim, HasBlock, IsReadClaim, IsReadWhole}
use Rattle.claim_blocks.specs.Leading.{Leads}
use Rattle.claim_blocks.specs.LocalBlocks.{local_block, LocalStep, LocalStepAt, IsWholeLocal}
use Rattle.claim_blocks.specs.RowBlocks.{row_block, RowBlockStep, IsWholeRows, rows_head}
use Rattle.claim_blocks.specs.Spelling.{claim_block}
use Rattle.claim_blocks.proofs.Leading.{leads_within}
use Rattle.claim_blocks.proofs.LocalBlocks.{IsLocalSoFar, whole_local, local_start, local_next, local_lines, local_head_is, local_is_claim, local_read, local_back, local_one, local_go, local_clear}
use Rattle.claim_blocks.proofs.RowBlocks.{IsRowsSoFar, rows_start, rows_next, rows_head_is, rows_are_claim, rows_lines, rows_fit, rows_read, rows_back, whole_rows, rows_one, rows_go, rows_clear}

-- ---- whole blocks

clash : true ≡ false → ⊥
clash e = cc

counts_whole : (m n : ℕ) → IsTrue (nat_eq m n) ↔ (m ≡ n)
counts_whole m n = elim (eqb_tells m n) [
  | inl same ↦ (λ t. same.1, λ t. same.0)
  | inr other ↦ (λ t. absurd (clash (sym t ∙ other.0)), λ t. absurd (other.1 t))
]

pub rows_whole : (b : RowBlock) → IsTrue (whole_block (block.Rows b)) ↔ IsWholeRows b
rows_whole b = counts_whole (length b.rows.rows) b.rows.wanted

place_whole : (s : LocalPlace) → IsTrue (whole_place s) ↔ (s ≡ place.Whole)
place_whole place.Ideal = (λ t. absurd (clash (sym t)), λ t. let g : false ≡ true = ap whole_place t in g)
place_whole place.Rows = (λ t. absurd (clash (sym t)), λ t. let g : false ≡ true = ap whole_place t in g)
place_whole place.Residue = (λ t. absurd (clash (sym t)), λ t. let g : false ≡ true = ap whole_place t in g)
place_whole place.Whole = (λ t. refl, λ t. refl)

pub local_whole : (b : LocalBlock) → IsTrue (whole_block (block.Local b)) ↔ IsWholeLocal b
local_whole b = place_whole b.place

terms_place_whole : (s : TermPlace) → IsTrue (whole_terms_place s) ↔ (s ≡ term_place.Whole)
terms_place_whole term_place.Term = (λ t. absurd (clash (sym t)), λ t. let g : false ≡ true = ap whole_terms_place t in g)
terms_place_whole term_place.Image = (λ t. absurd (clash (sym t)), λ t. let g : false ≡ true = ap whole_terms_place t in g)
terms_place_whole term_place.Whole = (λ t. refl, λ t. refl)

pub terms_whole : (b : TermBlock) → IsTrue (whole_block (block.Terms b)) ↔ IsWholeTerms b
terms_whole b = terms_place_whole b.place

pub vertices_whole : (b : VertexBlock) → IsTrue (whole_block (block.Vertices b)) ↔ IsWholeVertices b
vertices_whole b = counts_whole (length b.matrices.matrices) (length b.matrices.rows)

both_hold : (x y : Bool) {P Q : Type 0} → IsTrue x ↔ P → IsTrue y ↔ Q → IsTrue (x && y) ↔ (P × Q)
both_hold true true p q = (λ t. (p.0 refl, q.0 refl), λ t. refl)
both_hold true false p q = (λ t. absurd (clash (sym t)), λ t. absurd (clash (sym (q.1 t.1))))
both_hold false y p q = (λ t. absurd (clash (sym t)), λ t. absurd (clash (sym (p.1 t.0))))

sequence_place_whole : (s : SequencePlace) → IsTrue (whole_sequence_place s) ↔ (s ≡ sequence_place.MiddleMatrices)
sequence_place_whole sequence_place.Functional = (λ t. absurd (clash (sym t)), λ t. let g : false ≡ true = ap whole_sequence_place t in g)
sequence_place_whole sequence_place.Left = (λ t. absurd (clash (sym t)), λ t. let g : false ≡ true = ap whole_sequence_place t in g)
sequence_place_whole sequence_place.LeftMatrices = (λ t. absurd (clash (sym t)), λ t. let g : false ≡ true = ap whole_sequence_place t in g)
sequence_place_whole sequence_place.MiddleMatrices = (λ t. refl, λ t. refl)

pub sequence_block_whole : (b : SequenceBlock) → IsTrue (whole_block (block.Sequence b)) ↔ IsWholeSequence b
sequence_block_whole b =
    both_hold (whole_sequence_place b.place) (nat_eq (length b.middle.matrices) (length b.middle.rows)) (sequence_place_whole b.place) (counts_whole (length b.middle.matrices) (length b.middle.rows))

-- what decides the same is the same
pub same_bool : {P : Type 0} (a b : Bool) → IsTrue a ↔ P → IsTrue b ↔ P → a ≡ b
same_bool true true p q = refl
same_bool true false p q = sym (q.1 (p.0 refl))
same_bool false true p q = p.1 (q.0 refl)
same_bool false false p q = refl

-- no line follows a whole block
pub whole_stops : (h : Header) (b q : Block) (ts : List (List ℕ)) → whole_block b ≡ true → BlockStep h b ts q → ⊥
whole_stops h (block.Rows b) q ts whole t = let left = t.1.fits.left in let e = (rows_whole b).0 whole in absurd (omega (arith, left, e))
whole_stops h (block.Local b) q ts whole t = subst (λ s. LocalStepAt s b ts t.0) ((local_whole b).0 whole) t.1
whole_stops h (block.Terms b) q ts whole t = subst (λ s. TermStepAt s h b ts t.0) ((terms_whole b).0 whole) t.1
whole_stops h (block.Vertices b) q ts whole t = past_matrices h b.matrices ts (with_matrix b.matrices t.1.item) (let e = (vertices_whole b).0 whole in omega (arith, e)) record { item = t.1.item; fits = t.1.fits; spelled = t.1.spelled; only = t.1.only; leads = refl }
whole_stops h (block.Sequence b) q ts whole t = sequence_stops h b t.0 ts ((sequence_block_whole b).0 whole) t.1

-- ---- what was read is the claim

module _ (h : Header) (rs : List Record) (x : Head) where
  -- the block stands behind exactly these lines
  abbrev pub IsSoFar : Block → List (List (List ℕ)) → Type 0
  IsSoFar (block.Rows b) ls = (s : Space) × (n : ℕ) × (x ≡ rows_head s n) × IsRowsSoFar h rs s n b ls
  IsSoFar (block.Local b) ls = (m : ℕ) × (c : ℕ) × (x ≡ head.Local m c) × IsLocalSoFar h rs m c b ls
  IsSoFar (block.Terms b) ls = (a : ℕ) × (n : ℕ) × (x ≡ head.Resolution a n) × IsTermsSoFar h rs a n b ls
  IsSoFar (block.Vertices b) ls = (which : Translation) × (n : ℕ) × (a : ℕ) × (c : ℕ) × (x ≡ head.Translate which n a c) × IsVerticesSoFar h rs which n a c b ls
  IsSoFar (block.Sequence b) ls = (s : Sequence) × (x ≡ sequence_head s) × IsSequenceSoFar h rs s b ls

  pub block_next : (b q : Block) (ts : List (List ℕ)) (ls : List (List (List ℕ))) → IsNamed h.quiver → IsSoFar b ls → BlockStep h b ts q → IsSoFar q (ls ++ ts ∷ [])
  block_next (block.Rows b) q ts ls named (s, n, e, far) t = subst (λ y. IsSoFar y (ls ++ ts ∷ [])) (sym t.2) (s, n, e, rows_next h rs s n b t.0 ts ls far t.1)
  block_next (block.Local b) q ts ls named (m, c, e, far) t = subst (λ y. IsSoFar y (ls ++ ts ∷ [])) (sym t.2) (m, c, e, local_next h rs m c b t.0 ts ls far t.1)
  block_next (block.Terms b) q ts ls named (a, n, e, far) t = subst (λ y. IsSoFar y (ls ++ ts ∷ [])) (sym t.2) (a, n, e, terms_next h rs a n b t.0 ts ls named far t.1)
  block_next (block.Vertices b) q ts ls named (which, n, a, c, e, far) t = subst (λ y. IsSoFar y (ls ++ ts ∷ [])) (sym t.2) (which, n, a, c, e, vertices_next h rs which n a c b t.0 ts ls far t.1)
  block_next (block.Sequence b) q ts ls named (s, e, far) t = subst (λ y. IsSoFar y (ls ++ ts ∷ [])) (sym t.2) (s, e, sequence_next h rs s b t.0 ts ls far t.1)

  pub block_whole : (b : Block) (ls : List (List (List ℕ))) (earlier : ℕ) → IsSoFar b ls → whole_block b ≡ true → length rs ≡ suc earlier → AreNumbers earlier (length (modules_of rs)) (length (maps_of rs)) x
      → IsReadClaim h rs x (block_claim b) ls
  block_whole (block.Rows b) ls earlier (s, n, e, far) whole long are =
      let w = (rows_whole b).0 whole in
      record {
        first = rows_head_is h rs earlier s n b ls far w ∙ sym e;
        shapes = rows_are_claim h rs earlier s n b ls long (subst (AreNumbers earlier (length (modules_of rs)) (length (maps_of rs))) e are) far w;
        lines = rows_lines h rs earlier s n b ls far;
      }
  block_whole (block.Local b) ls earlier (m, c, e, far) whole long are =
      let w = (local_whole b).0 whole in
      record {
        first = local_head_is h rs m c b ls far w ∙ sym e;
        shapes = local_is_claim h rs m c b ls far w earlier long (subst (AreNumbers earlier (length (modules_of rs)) (length (maps_of rs))) e are);
        lines = local_lines h rs m c b ls far w;
      }
  block_whole (block.Terms b) ls earlier (a, n, e, far) whole long are =
      let w = (terms_whole b).0 whole in
      record {
        first = terms_head_is h rs a n b ls far w ∙ sym e;
        shapes = terms_is_claim h rs a n b ls far w earlier (subst (AreNumbers earlier (length (modules_of rs)) (length (maps_of rs))) e are);
        lines = terms_lines h rs a n b ls far w;
      }
  block_whole (block.Vertices b) ls earlier (which, n, a, c, e, far) whole long are =
      let w = (vertices_whole b).0 whole in
      record {
        first = vertices_head_is h rs which n a c b ls far w ∙ sym e;
        shapes = vertices_is_claim h rs which n a c b ls far w earlier long (subst (AreNumbers earlier (length (modules_of rs)) (length (maps_of rs))) e are);
        lines = vertices_lines h rs which n a c b ls far w;
      }
  block_whole (block.Sequence b) ls earlier (s, e, far) whole long are =
      let w = (sequence_block_whole b).0 whole in
      record {
        first = sequence_head_is h rs s b ls far w ∙ sym e;
        shapes = sequence_is_claim h rs s b ls far w earlier long (subst (AreNumbers earlier (length (modules_of rs)) (length (maps_of rs))) e are);
        lines = sequence_lines h rs s b ls far w;
      }

pub block_start : (h : Header) (rs : List Record) (x : Head) → FitsHead h rs x → IsSoFar h rs x (begin_block h rs x) []
block_start h rs head.Basis fits = absurd fits
block_start h rs (head.Module m) fits = absurd fits
block_start h rs (head.Map f) fits = absurd fits
block_start h rs (head.Hom a b count) fits = (space.Hom a b, count, refl, rows_start h rs (space.Hom a b) count fits)
block_start h rs (head.Kernel n f i) fits = absurd fits
block_start h rs (head.Cokernel n f p) fits = absurd fits
block_start h rs (head.Radical n a i) fits = absurd fits
block_start h rs (head.Resolution a n) fits = (a, n, refl, terms_start h rs a n fits)
block_start h rs (head.Ext n a b count c) fits = (space.Ext n a b c, count, refl, rows_start h rs (space.Ext n a b c) count fits)
block_start h rs (head.Local m c) fits = (m, c, refl, local_start h rs m c fits)
block_start h rs (head.Decomposition a s f g parts) fits = absurd fits
block_start h rs (head.Translate which n a c) fits = (which, n, a, c, refl, vertices_start h rs which n a c fits)
block_start h rs (head.AlmostSplit n e a f g c l) fits = (sequence_of n e a f g c l, refl, sequence_start h rs (sequence_of n e a f g c l) fits)

-- ---- the claim is read

rows_step : (h : Header) (p q : RowBlock) (l : List (List ℕ)) → RowBlockStep p l q → BlockStep h (block.Rows p) l (block.Rows q)
rows_step h p q l t = (q, t, refl)

local_step : (h : Header) (p q : LocalBlock) (l : List (List ℕ)) → LocalStep p l q → BlockStep h (block.Local p) l (block.Local q)
local_step h p q l t = (q, t, refl)

rows_leads : (h : Header) (p q : RowBlock) (ls : List (List (List ℕ))) → Leads RowBlockStep p ls q → Leads (BlockStep h) (block.Rows p) ls (block.Rows q)
rows_leads h p q ls leads = leads_within RowBlockStep (BlockStep h) block.Rows (rows_step h) p q ls leads

local_leads : (h : Header) (p q : LocalBlock) (ls : List (List (List ℕ))) → Leads LocalStep p ls q → Leads (BlockStep h) (block.Local p) ls (block.Local q)
local_leads h p q ls leads = leads_within LocalStep (BlockStep h) block.Local (local_step h) p q ls leads

terms_leads : (h : Header) (p q : TermBlock) (ls : List (List (List ℕ))) → Leads (TermStep h) p ls q → Leads (BlockStep h) (block.Terms p) ls (block.Terms q)
terms_leads h p q ls leads = leads_within (TermStep h) (BlockStep h) block.Terms (λ p q l t. (q, t, refl)) p q ls leads

vertices_leads : (h : Header) (p q : VertexBlock) (ls : List (List (List ℕ))) → Leads (VertexStep h) p ls q → Leads (BlockStep h) (block.Vertices p) ls (block.Vertices q)
vertices_leads h p q ls leads = leads_within (VertexStep h) (BlockStep h) block.Vertices (λ p q l t. (q, t, refl)) p q ls leads

sequence_leads : (h : Header) (p q : SequenceBlock) (ls : List (List (List ℕ))) → Leads (SequenceStep h) p ls q → Leads (BlockStep h) (block.Sequence p) ls (block.Sequence q)
sequence_leads h p q ls leads = leads_within (SequenceStep h) (BlockStep h) block.Sequence (λ p q l t. (q, t, refl)) p q ls leads

pub block_read : (h : Header) → IsNamed h.quiver → (rs : List Record) → AreDeclared h rs → AreSmall rs → (c : Claim) → HasBlock c → IsClaimBlock h rs c → IsReadWhole h rs c
block_read h named rs declared small (claim.Basis words steps rules) has is = absurd has
block_read h named rs declared small (claim.Module m) has is = absurd has
block_read h named rs declared small (claim.Map f) has is = absurd has
block_read h named rs declared small (claim.Hom a b rows) has is = record {
  fits = (rows_fit h rs (space.Hom a b) rows is).0;
  last = block.Rows (whole_rows h rs (space.Hom a b) rows);
  leads = rows_leads h (row_block h rs (space.Hom a b) rows.row_count) (whole_rows h rs (space.Hom a b) rows) (claim_block h (claim.Hom a b rows)) (rows_read h rs (space.Hom a b) rows is);
  whole = (rows_whole (whole_rows h rs (space.Hom a b) rows)).1 refl;
  back = rows_back h rs (space.Hom a b) rows is;
}
block_read h named rs declared small (claim.Kernel n f i) has is = absurd has
block_read h named rs declared small (claim.Cokernel n f p) has is = absurd has
block_read h named rs declared small (claim.Radical n a i) has is = absurd has
block_read h named rs declared small (claim.Resolution a n terms) has is =
    let all = terms_read h named rs a n terms is in
    record {
      fits = is.short;
      last = block.Terms all.0;
      leads = terms_leads h (term_block h rs a n) all.0 (claim_block h (claim.Resolution a n terms)) all.1;
      whole = (terms_whole all.0).1 all.2;
      back = all.3;
    }
block_read h named rs declared small (claim.Ext n a b rows c) has is = record {
  fits = (rows_fit h rs (space.Ext n a b c) rows is).0;
  last = block.Rows (whole_rows h rs (space.Ext n a b c) rows);
  leads = rows_leads h (row_block h rs (space.Ext n a b c) rows.row_count) (whole_rows h rs (space.Ext n a b c) rows) (claim_block h (claim.Ext n a b rows c)) (rows_read h rs (space.Ext n a b c) rows is);
  whole = (rows_whole (whole_rows h rs (space.Ext n a b c) rows)).1 refl;
  back = rows_back h rs (space.Ext n a b c) rows is;
}
block_read h named rs declared small (claim.Local m c ideal power residue) has is = record {
  fits = is.homs;
  last = block.Local (whole_local h rs m c ideal power residue);
  leads = local_leads h (local_block h rs m c) (whole_local h rs m c ideal power residue) (claim_block h (claim.Local m c ideal power residue)) (local_read h rs m c ideal power residue is);
  whole = refl;
  back = local_back h rs m c ideal power residue is;
}
block_read h named rs declared small (claim.Decomposition a s f g parts) has is = absurd has
block_read h named rs declared small (claim.Translate which n a c rows) has is =
    let fits = presentation_fits h named rs c is.presentation (λ k l. declared c k) in
    let all = vertices_read h named rs which n a c rows fits is in
    record {
      fits = fits;
      last = block.Vertices all.0;
      leads = vertices_leads h (vertex_block h rs which n a c) all.0 (claim_block h (claim.Translate which n a c rows)) all.1;
      whole = (vertices_whole all.0).1 all.2;
      back = all.3;
    }
block_read h named rs declared small (claim.AlmostSplit n e a f g c l phi left middle) has is =
    let s = sequence_of n e a f g c l in
    let fits = sequence_fits h rs s small (presentation_fits h named rs c is.presentation (λ k l. declared c k)) is.is_local in
    record {
      fits = fits;
      last = block.Sequence (whole_sequence h rs s phi left middle);
      leads = sequence_leads h (sequence_block h rs s) (whole_sequence h rs s phi left middle) (claim_block h (claim.AlmostSplit n e a f g c l phi left middle)) (sequence_read h rs s phi left middle fits is);
      whole = (sequence_block_whole (whole_sequence h rs s phi left middle)).1 (sequence_whole h rs s phi left middle fits is);
      back = refl;
    }

-- ---- one line leads to one block, or to none

within_go : {Part : Type 0} (Step : Part → Type 0) (within : Part → Block) → Goes Step → Goes (λ (next : Block). (q : Part) × Step q × (next ≡ within q))
within_go Step within (inl go) = inl (within go.0, (go.0, go.1, refl))
within_go Step within (inr none) = inr (λ q t. none t.0 t.1)

module _ (h : Header) (named : IsNamed h.quiver) where
  pub block_one : (b q r : Block) (ts : List (List ℕ)) → BlockStep h b ts q → BlockStep h b ts r → q ≡ r
  block_one (block.Rows b) q r ts t u = t.2 ∙ (ap block.Rows (rows_one b t.0 u.0 ts t.1 u.1) ∙ sym u.2)
  block_one (block.Local b) q r ts t u = t.2 ∙ (ap block.Local (local_one b t.0 u.0 ts t.1 u.1) ∙ sym u.2)
  block_one (block.Terms b) q r ts t u = t.2 ∙ (ap block.Terms (terms_one h named b t.0 u.0 ts t.1 u.1) ∙ sym u.2)
  block_one (block.Vertices b) q r ts t u = t.2 ∙ (ap block.Vertices (vertices_one h b ts t.0 u.0 t.1 u.1) ∙ sym u.2)
  block_one (block.Sequence b) q r ts t u = t.2 ∙ (ap block.Sequence (sequence_one h b t.0 u.0 ts t.1 u.1) ∙ sym u.2)

  pub block_go : (b : Block) (ts : List (List ℕ)) → Goes (BlockStep h b ts)
  block_go (block.Rows b) ts = within_go (RowBlockStep b ts) block.Rows (rows_go b ts)
  block_go (block.Local b) ts = within_go (LocalStep b ts) block.Local (local_go b ts)
  block_go (block.Terms b) ts = within_go (TermStep h b ts) block.Terms (terms_go h named b ts)
  block_go (block.Vertices b) ts = within_go (VertexStep h b ts) block.Vertices (vertices_go h b ts)
  block_go (block.Sequence b) ts = within_go (SequenceStep h b ts) block.Sequence (sequence_go h b ts)

  pub block_clear : (c : ℕ) → StandsOutside c → (b q : Block) (ts : List (List ℕ)) → BlockStep h b ts q → ClearLine c ts
  block_clear c outside (block.Rows b) q ts t = rows_clear c outside b t.0 ts t.1
  block_clear c outside (block.Local b) q ts t = local_clear c outside b t.0 ts t.1
  block_clear c outside (block.Terms b) q ts t = terms_clear h named c outside b t.0 ts t.1
  block_clear c outside (block.Vertices b) q ts t = vertices_clear h b ts c outside named t.0 t.1
  block_clear c outside (block.Sequence b) q ts t = sequence_clear h named c outside b t.0 ts t.1

-- what a block's reader of a line gives
pub within_taken : {Part : Type 0} (Step : Part → Type 0) (within : Part → Block) (taken : Bool) (next : Part) → MatchBool taken (Step next) ((r : Part) → Step r → ⊥)
    → MatchBool taken ((q : Part) × Step q × (within next ≡ within q)) ((r : Block) → ((q : Part) × Step q × (r ≡ within q)) → ⊥)
within_taken Step within true next t = (next, t, refl)
within_taken Step within false next none = λ r t. none t.0 t.1
