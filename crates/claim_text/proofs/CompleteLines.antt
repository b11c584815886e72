-- The lines behind the first line of a claim are read, and lead to its record.
use Rattle.std.proofs.Common.{◌≡◌, ℕ, zero, suc, ◌<◌, ◌≤◌, ◌^◌, Bool, true, false, List, [], ◌∷◌, ◌++◌, length, cond, Some, None, inl, inr, refl, sym, ap, ◌∙◌, subst, arith}
use Rattle.std.specs.Prelude.{All, Option, take, slice_get, slice_index}
use Rattle.std.proofs.lemmas.Bool.{cases_lt}
use Rattle.std.proofs.lemmas.List.{take-append-le, get_or_past}
use Rattle.std.proofs.lemmas.List.Elements.{All-append, All-weaker}
use Rattle.quiver_paths.specs.Quiver.{vertex_count}
use Rattle.path_algebra.specs.declared.Header.{Header}
use Rattle.header_text.specs.Named.{IsNamed}
use Rattle.module_types.specs.declared.Module.{Module}
use Rattle.module_types.specs.declared.TermRows.{TermRows}
use Rattle.module_types.specs.Shapes.{dimension, most_dimension}
use Rattle.claim_conditions.specs.Terms.{vertices_at}
use Rattle.report_types.specs.declared.claims.Claim.{Claim}
use Rattle.report_types.specs.declared.claims.Claim.TheVariants as claim
use Rattle.report_types.specs.declared.claims.Record.{Record}
use Rattle.report_types.specs.Limits.{resolution_limit}
use Rattle.report_types.specs.Numbers.{modules_of, record_of, claim_in, claim_of}
use Rattle.report_types.specs.NamedClaims.{HasLength, terms_in}
use Rattle.report_types.specs.Lawful.{IsModuleBlock, IsRecord, MayBeRecord}
use Rattle.report_types.specs.ClaimBlocks.{IsClaimBlock}
use Rattle.report_types.proofs.Fronts.{all_modules}
use Rattle.claim_blocks.specs.declared.block.Block.{Block}
use Rattle.claim_blocks.specs.Leading.{Leads}
use Rattle.claim_blocks.specs.Blocks.{AreDeclared, AreSmall, BlockStep, whole_block, block_claim}
use Rattle.claim_blocks.proofs.BlockLaws.{whole_stops, block_clear}
use Rattle.claim_blocks.proofs.ContextReading.{small_modules}
use Rattle.claim_text.specs.declared.part.Place.TheVariants as place
use Rattle.claim_text.specs.declared.part.Part.{Part}
use Rattle.claim_text.specs.Part.{unclaimed, here, counts_of, claimed, at_block}
use Rattle.claim_text.proofs.ObjectLists.{modules_push, get-left, get-past}
use Rattle.claim_text.proofs.Runs.{Run, run_none, run_line}

-- behind all lines, and among them
at_whole : (p : Part) (b : Block) → whole_block b ≡ true → at_block p b ≡ claimed p p.line (block_claim b)
at_whole p b e = ap (λ w. cond w (claimed p p.line (block_claim b)) (record p { place = place.Block; block = Some b })) e

at_more : (p : Part) (b : Block) → whole_block b ≡ false → at_block p b ≡ record p { place = place.Block; block = Some b }
at_more p b e = ap (λ w. cond w (claimed p p.line (block_claim b)) (record p { place = place.Block; block = Some b })) e

module _ (p : Part) (named : IsNamed p.front.header.quiver) (few_modules : (counts_of p).modules < 2 ^ 32) (few_maps : (counts_of p).maps < 2 ^ 32) where
  pub lines_read : (b last : Block) (ls : List (List (List ℕ))) → Leads (BlockStep p.front.header) b ls last → whole_block last ≡ true → Run (at_block p b) ls (claimed p p.line (block_claim last))
  lines_read b last [] leads whole = run_none (at_block p b) (claimed p p.line (block_claim last)) (ap (λ c. claimed p p.line (block_claim c)) leads ∙ sym (at_whole p b (subst (λ c. whole_block c ≡ true) leads whole)))
  lines_read b last (l ∷ ls) leads whole = by (whole_block b) refl (lines_read leads.0 last ls leads.2 whole)
    where
      by : (w : Bool) → whole_block b ≡ w → Run (at_block p leads.0) ls (claimed p p.line (block_claim last)) → Run (at_block p b) (l ∷ ls) (claimed p p.line (block_claim last))
      by true e more = absurd (whole_stops p.front.header b leads.0 l e leads.1)
      by false e more =
          let q = record p { place = place.Block; block = Some b } in
          let end = claimed p p.line (block_claim last) in
          subst (λ r. Run r (l ∷ ls) end) (sym (at_more p b e))
          (run_line q (at_block p leads.0) end l ls (λ c out o. block_clear p.front.header named c o b leads.0 l leads.1) refl
          record { few_modules = few_modules; few_maps = few_maps; named = named; now = leads.0; step = leads.1; leads = refl } more)

-- a resolution that stands before is no longer than may be
short_in : (h : Header) (rs : List Record) (o : Option Record) (n : ℕ) → MayBeRecord h rs o → HasLength (claim_in o) n → n ≤ resolution_limit
short_in h rs None n is long = absurd long
short_in h rs (Some r) n is long = short (r.claim) is.claim long
  where
    short : (c : Claim) → IsClaimBlock h rs c → HasLength c n → n ≤ resolution_limit
    short (claim.Resolution a m terms) block e = subst (λ k. k ≤ resolution_limit) e block.short
    short (claim.Basis words steps rules) block e = absurd e
    short (claim.Module m) block e = absurd e
    short (claim.Map f) block e = absurd e
    short (claim.Hom a b rows) block e = absurd e
    short (claim.Kernel m f i) block e = absurd e
    short (claim.Cokernel m f i) block e = absurd e
    short (claim.Radical m a i) block e = absurd e
    short (claim.Ext m a b rows c) block e = absurd e
    short (claim.Local m c ideal power residue) block e = absurd e
    short (claim.Decomposition a s f g parts) block e = absurd e
    short (claim.Translate which m a c rows) block e = absurd e
    short (claim.AlmostSplit m d a f g c l phi left middle) block e = absurd e

pub resolution_short : (h : Header) (rs : List Record) → ((k : ℕ) → MayBeRecord h (take k rs) (record_of rs k)) → (c n : ℕ) → HasLength (claim_of rs c) n → n ≤ resolution_limit
resolution_short h rs each c n long = short_in h (take c rs) (record_of rs c) n (each c) long

-- the generators of these terms stand at vertices of the quiver
abbrev AtVertices : Header → List TermRows → Type 0
AtVertices h terms = (k j : ℕ) → j < length (vertices_at terms k) → slice_index (vertices_at terms k) j < vertex_count h.quiver

past_terms : (terms : List TermRows) (k j : ℕ) → length terms ≤ k → j < length (vertices_at terms k) → ⊥
past_terms terms k j past l =
    let none : length (vertices_at terms k) ≡ 0 = ap (λ (t : TermRows). length t.vertices) (get_or_past terms k (record { vertices = []; images = [] }) past) in
    absurd (omega (arith, none, l))

no_terms : (h : Header) → AtVertices h []
no_terms h k j l = absurd (past_terms [] k j (omega arith) l)

claim_declared : (h : Header) (rs : List Record) (c : Claim) → IsClaimBlock h rs c → AtVertices h (terms_in c)
claim_declared h rs (claim.Resolution a n terms) block = λ k j l. elim (cases_lt k (length terms)) [
  | inl inside ↦ (block.each k (let counted = block.counted in omega (arith, inside, counted))).declared j l
  | inr past ↦ absurd (past_terms terms k j past l)
]
claim_declared h rs (claim.Basis words steps rules) block = no_terms h
claim_declared h rs (claim.Module m) block = no_terms h
claim_declared h rs (claim.Map f) block = no_terms h
claim_declared h rs (claim.Hom a b rows) block = no_terms h
claim_declared h rs (claim.Kernel m f i) block = no_terms h
claim_declared h rs (claim.Cokernel m f i) block = no_terms h
claim_declared h rs (claim.Radical m a i) block = no_terms h
claim_declared h rs (claim.Ext m a b rows c) block = no_terms h
claim_declared h rs (claim.Local m c ideal power residue) block = no_terms h
claim_declared h rs (claim.Decomposition a s f g parts) block = no_terms h
claim_declared h rs (claim.Translate which m a c rows) block = no_terms h
claim_declared h rs (claim.AlmostSplit m d a f g c l phi left middle) block = no_terms h

record_declared : (h : Header) (rs : List Record) (o : Option Record) → MayBeRecord h rs o → AtVertices h (terms_in (claim_in o))
record_declared h rs None is = no_terms h
record_declared h rs (Some r) is = claim_declared h rs r.claim is.claim

-- what holds of each item of a list, of one more and of none
with_last : {X : Type 0} (P : Option X → Type 0) (xs : List X) (x : X) (i : ℕ) → P None → P (Some x) → ((k : ℕ) → P (slice_get xs k)) → P (slice_get (xs ++ x ∷ []) i)
with_last P [] x zero none last each = last
with_last P [] x (suc i) none last each = none
with_last P (y ∷ xs) x zero none last each = each zero
with_last P (y ∷ xs) x (suc i) none last each = with_last P xs x i none last (λ k. each (suc k))

-- behind lawful records, the terms of each claim that may be named stand at vertices
pub terms_declared : (h : Header) (p : Part) → ((k : ℕ) → MayBeRecord h (take k p.records) (record_of p.records k)) → AreDeclared h (here p)
terms_declared h p each zero = no_terms h
terms_declared h p each (suc i) =
    with_last (λ o. AtVertices h (terms_in (claim_in o))) p.records (unclaimed p) i (no_terms h) (no_terms h)
    (λ k. record_declared h (take (suc k) p.records) (slice_get p.records k) (each (suc k)))

-- behind lawful records and lawful modules, each module that may be named has at most the largest dimension
abbrev HasSmallDimension : Module → Type 0
HasSmallDimension m = dimension m.dims ≤ most_dimension

blocks_small : (h : Header) (ms : List Module) → All (IsModuleBlock h) ms → All HasSmallDimension ms
blocks_small h ms are = All-weaker (IsModuleBlock h) HasSmallDimension (λ m is. is.small) ms are

pub modules_small : (h : Header) (p : Part) → ((k : ℕ) → MayBeRecord h (take k p.records) (record_of p.records k)) → All (IsModuleBlock h) p.modules → AreSmall (here p)
modules_small h p each are =
    let records_small = all_modules HasSmallDimension p.records (λ i r e. let is : IsRecord h (take (suc i) p.records) r = subst (λ o. MayBeRecord h (take (suc i) p.records) o) e (each (suc i)) in blocks_small h r.modules is.modules) in
    small_modules (here p)
    (subst (All HasSmallDimension) (sym (modules_push p.records (unclaimed p))) (All-append HasSmallDimension (modules_of p.records) p.modules records_small (blocks_small h p.modules are)))

-- the records before some others
pub each_before : (h : Header) (done rest : List Record) → ((k : ℕ) → MayBeRecord h (take k (done ++ rest)) (record_of (done ++ rest) k)) → (k : ℕ) → MayBeRecord h (take k done) (record_of done k)
each_before h done rest each zero = tt
each_before h done rest each (suc i) = elim (cases_lt i (length done)) [
  | inl inside ↦
      subst (λ o. MayBeRecord h (take (suc i) done) o) (get-left done rest i inside)
      (subst (λ l. MayBeRecord h l (slice_get (done ++ rest) i)) (take-append-le (suc i) done rest (omega (arith, inside))) (each (suc i)))
  | inr past ↦ subst (λ o. MayBeRecord h (take (suc i) done) o) (sym (get-past done i past)) tt
]
