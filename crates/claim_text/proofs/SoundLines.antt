-- What has been read of the lines of a claim spells the lines that were read.
use Rattle.std.proofs.Common.{◌≡◌, ℕ, ◌+◌, ◌<◌, Bool, true, false, List, [], ◌∷◌, ◌++◌, length, cond, refl, sym, ap, ◌∙◌, subst, arith, append_assoc}
use Rattle.std.specs.Prelude.{Option, None, Some}
use Rattle.quiver_paths.proofs.ListLemmas.{length-pushed}
use Rattle.path_algebra.specs.declared.Header.{Header}
use Rattle.report_types.specs.declared.claims.Claim.{Claim}
use Rattle.report_types.specs.declared.claims.Claim.TheVariants as claim
use Rattle.report_types.specs.declared.claims.Record.{Record}
use Rattle.report_types.specs.Lawful.{HasItsPlace}
use Rattle.claim_lines.specs.declared.heads.Head.{Head}
use Rattle.claim_lines.specs.Spelling.{claim_line}
use Rattle.claim_blocks.specs.declared.block.Block.{Block}
use Rattle.claim_blocks.specs.Spelling.{head_of}
use Rattle.claim_blocks.specs.Blocks.{FitsHead as FitsLines, begin_block, whole_block, block_claim}
use Rattle.claim_blocks.proofs.BlockLaws.{block_start, block_next, block_whole}
use Rattle.claim_text.specs.declared.part.Place.TheVariants as place
use Rattle.claim_text.specs.declared.part.Part.{Part}
use Rattle.claim_text.specs.Part.{unclaimed, here, claimed, at_block, with_block}
use Rattle.claim_text.specs.Steps.{FitsHead, TakesBlock}
use Rattle.claim_blocks.proofs.Carried.{block_too}
use Rattle.claim_text.proofs.Reached.{Lines}
use Rattle.claim_text.proofs.SoundObjects.{base_lines, Between, sound_claim, lines_claim}
use Rattle.claim_text.proofs.SoundPlaces.{BlockSound, AmongLines, SoundAt, Sound}

has_place : (h : Header) (before rs : List Record) (r : Record) (c : Claim) → FitsLines h before (head_of c) → 1 < length rs → HasItsPlace rs r c
has_place h before rs r (claim.Hom a b rows) fits some = some
has_place h before rs r (claim.Resolution a n terms) fits some = some
has_place h before rs r (claim.Ext n a b rows c) fits some = some
has_place h before rs r (claim.Local m c ideal power residue) fits some = some
has_place h before rs r (claim.Translate which n a c rows) fits some = some
has_place h before rs r (claim.AlmostSplit n e a f g c l phi left middle) fits some = some
has_place h before rs r (claim.Basis words steps rules) fits some = absurd fits
has_place h before rs r (claim.Module m) fits some = some
has_place h before rs r (claim.Map f) fits some = some
has_place h before rs r (claim.Kernel n f i) fits some = some
has_place h before rs r (claim.Cokernel n f i) fits some = some
has_place h before rs r (claim.Radical n a i) fits some = some
has_place h before rs r (claim.Decomposition a s f g parts) fits some = some

-- behind all lines, and among them
whole_sound : (p : Part) (b : Block) (ls : Lines) → BlockSound p b ls → whole_block b ≡ true → Sound (claimed p p.line (block_claim b)) ls
unfolding SoundAt
whole_sound p b ls s e =
    let h = p.front.header in
    let c = block_claim b in
    let r : Record = record { line = p.line; modules = p.modules; maps = p.maps; claim = c } in
    let all = p.records ++ r ∷ [] in
    let long = length-pushed p.records all r refl in
    let long' = length-pushed p.records (p.records ++ unclaimed p ∷ []) (unclaimed p) refl in
    let some = s.base.some in
    let w = block_whole h (here p) s.head b s.more (length p.records) s.so_far e (omega (arith, long')) s.first.numbers in
    record {
      base = sound_claim h p.records p.modules p.maps p.line c s.base s.first.room s.first.is_line
          (has_place h (here p) all r c (subst (FitsLines h (here p)) (sym w.first) s.fits) (omega (arith, some, long)))
          (block_too h p.records (unclaimed p) r refl refl some c w.shapes);
      lines = s.lines
          ∙ (ap (λ x. base_lines h p.records p.modules p.maps ++ claim_line (length p.records + 1) p.line x ∷ s.more) (sym w.first)
          ∙ (ap (λ l. base_lines h p.records p.modules p.maps ++ claim_line (length p.records + 1) p.line (head_of c) ∷ l) w.lines
          ∙ lines_claim h p.records p.modules p.maps p.line c (length p.records + 1) refl));
    }

among_sound : (p : Part) (b : Block) (ls : Lines) → BlockSound p b ls → Sound (record p { place = place.Block; block = Some b }) ls
unfolding SoundAt
among_sound p b ls s = record { head = s.head; fits = s.fits; base = s.base; first = s.first; more = s.more; so_far = s.so_far; lines = s.lines }

sound_at_block : (p : Part) (b : Block) (ls : Lines) → BlockSound p b ls → Sound (at_block p b) ls
sound_at_block p b ls s = by (whole_block b) refl
  where
    by : (w : Bool) → whole_block b ≡ w → Sound (at_block p b) ls
    by true e = subst (λ v. Sound (cond v (claimed p p.line (block_claim b)) (record p { place = place.Block; block = Some b })) ls) (sym e) (whole_sound p b ls s e)
    by false e = subst (λ v. Sound (cond v (claimed p p.line (block_claim b)) (record p { place = place.Block; block = Some b })) ls) (sym e) (among_sound p b ls s)

-- the first line
pub sound_block : (p : Part) (ls : Lines) (line : ℕ) (x : Head) → Between p.front.header p.records p.modules p.maps ls → FitsHead p line x → FitsLines p.front.header (here p) x
    → Sound (with_block p line x) (ls ++ claim_line (length p.records + 1) line x ∷ [])
sound_block p ls line x s fits kind =
    sound_at_block (record p { line = line }) (begin_block p.front.header (here p) x) (ls ++ claim_line (length p.records + 1) line x ∷ [])
    record {
      head = x;
      fits = kind;
      base = s.base;
      first = fits.claim;
      more = [];
      so_far = block_start p.front.header (here p) x kind;
      lines = ap (λ l. l ++ claim_line (length p.records + 1) line x ∷ []) s.lines;
    }

-- one line more
pub sound_line : (p q : Part) (o : Option Block) (ls : Lines) (ts : List (List ℕ)) → AmongLines p o ls → TakesBlock p o ts q → Sound q (ls ++ ts ∷ [])
sound_line p q None ls ts s t = absurd s
sound_line p q (Some b) ls ts s t =
    let front = base_lines p.front.header p.records p.modules p.maps in
    subst (λ (r : Part). Sound r (ls ++ ts ∷ [])) (sym t.leads)
    (sound_at_block p t.now (ls ++ ts ∷ [])
    record {
      head = s.head;
      fits = s.fits;
      base = s.base;
      first = s.first;
      more = s.more ++ ts ∷ [];
      so_far = block_next p.front.header (here p) s.head b t.now ts s.more t.named s.so_far t.step;
      lines = ap (λ l. l ++ ts ∷ []) s.lines ∙ append_assoc front (claim_line (length p.records + 1) p.line s.head ∷ s.more) (ts ∷ []);
    })
