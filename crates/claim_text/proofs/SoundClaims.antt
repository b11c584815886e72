-- The first line of a claim, and the claims that are whole with it.
use Rattle.std.proofs.Common.{◌≡◌, ℕ, ◌+◌, ◌<◌, ◌^◌, List, [], ◌∷◌, ◌++◌, length, refl, sym, ap, ◌∙◌, subst, arith}
use Rattle.std.specs.Prelude.{All}
use Rattle.quiver_paths.proofs.ListLemmas.{length-pushed}
use Rattle.path_algebra.specs.Derivations.{IsNumber}
use Rattle.report_types.specs.declared.claims.Claim.{Claim}
use Rattle.report_types.specs.declared.claims.Claim.TheVariants as claim
use Rattle.report_types.specs.declared.claims.PartClaim.{PartClaim}
use Rattle.report_types.specs.declared.claims.Record.{Record}
use Rattle.report_types.specs.Limits.{IsLine}
use Rattle.report_types.specs.Numbers.{claim_of, NamesModule, NamesMap}
use Rattle.report_types.specs.NamedClaims.{IsLocalClaim}
use Rattle.report_types.specs.ClaimBlocks.{IsClaimBlock, IsPart}
use Rattle.report_types.specs.Lawful.{HasItsPlace}
use Rattle.claim_lines.specs.declared.heads.Head.{Head}
use Rattle.claim_lines.specs.declared.heads.Head.TheVariants as head
use Rattle.claim_lines.specs.Spelling.{claim_line}
use Rattle.claim_lines.specs.Items.{ArePartNumbers}
use Rattle.claim_text.specs.declared.part.Part.{Part}
use Rattle.claim_text.specs.Spelling.{head_of, claim_block}
use Rattle.claim_text.specs.Part.{unclaimed, counts_of, claimed, with_head}
use Rattle.claim_text.specs.Steps.{FitsHead}
use Rattle.claim_text.proofs.ObjectLists.{same_modules, same_maps, claim_earlier}
use Rattle.claim_text.proofs.Reached.{Lines}
use Rattle.claim_text.proofs.SoundObjects.{base_lines, Between, sound_claim, lines_claim}
use Rattle.claim_text.proofs.SoundLines.{sound_block}
use Rattle.claim_text.proofs.SoundPlaces.{SoundAt, Sound, no_first}

module _ (p : Part) (line : ℕ) (c : Claim) where
  abbrev all : List Record
  all = p.records ++ record { line = line; modules = p.modules; maps = p.maps; claim = c } ∷ []

  pub module_named : (m : ℕ) → IsNumber (counts_of p).modules m → NamesModule all m
  module_named m is = subst (λ l. IsNumber (length l) m) (same_modules p.records (unclaimed p) record { line = line; modules = p.modules; maps = p.maps; claim = c } refl) is

  pub map_named : (f : ℕ) → IsNumber (counts_of p).maps f → NamesMap all f
  map_named f is = subst (λ l. IsNumber (length l) f) (same_maps p.records (unclaimed p) record { line = line; modules = p.modules; maps = p.maps; claim = c } refl) is

  parts_named : (parts : List PartClaim) → All (ArePartNumbers (length p.records) (counts_of p).modules) parts → All (λ (x : PartClaim). IsLocalClaim (claim_of p.records x.local)) parts → All (IsPart p.front.header all) parts
  parts_named parts are local = λ i d l.
      let n = are i d l in
      let to = n.named.to in
      let long = length-pushed p.records all record { line = line; modules = p.modules; maps = p.maps; claim = c } refl in
      record {
        is_module = module_named _ n.is_module;
        named = record { from = n.named.from; earlier = omega (arith, to, long) };
        is_local = subst IsLocalClaim (sym (claim_earlier p.records record { line = line; modules = p.modules; maps = p.maps; claim = c } _ to)) (local i d l);
      }

  pub sound_claimed : (ls : Lines) → Between p.front.header p.records p.modules p.maps ls → length p.records + 1 < 2 ^ 32 → IsLine line → claim_block p.front.header c ≡ []
      → HasItsPlace all record { line = line; modules = p.modules; maps = p.maps; claim = c } c → IsClaimBlock p.front.header all c → Sound (claimed p line c) (ls ++ claim_line (length p.records + 1) line (head_of c) ∷ [])
  unfolding SoundAt
  sound_claimed ls s room is none place block =
      let h = p.front.header in
      let head' = claim_line (length p.records + 1) line (head_of c) in
      record {
        base = sound_claim h p.records p.modules p.maps line c s.base room is place block;
        lines = ap (λ l. l ++ head' ∷ []) s.lines
            ∙ (ap (λ l. base_lines h p.records p.modules p.maps ++ (head' ∷ l)) (sym none) ∙ lines_claim h p.records p.modules p.maps line c (length p.records + 1) refl);
      }

  pub behind : 0 < length p.records → 1 < length all
  behind some = let long = length-pushed p.records all record { line = line; modules = p.modules; maps = p.maps; claim = c } refl in omega (arith, some, long)

pub sound_head : (p : Part) (ls : Lines) (line : ℕ) (x : Head) → Between p.front.header p.records p.modules p.maps ls → FitsHead p line x → Sound (with_head p line x) (ls ++ claim_line (length p.records + 1) line x ∷ [])
unfolding SoundAt
sound_head p ls line head.Basis s fits = absurd (no_first p s.base.some fits.kind.first)
sound_head p ls line (head.Module m) s fits =
    let c = claim.Module m in
    let f = fits.claim in
    sound_claimed p line c ls s f.room f.is_line refl (behind p line c s.base.some) (module_named p line c m f.numbers)
sound_head p ls line (head.Map m) s fits =
    let c = claim.Map m in
    let f = fits.claim in
    sound_claimed p line c ls s f.room f.is_line refl (behind p line c s.base.some) (map_named p line c m f.numbers)
sound_head p ls line (head.Kernel n g i) s fits =
    let c = claim.Kernel n g i in
    let f = fits.claim in
    sound_claimed p line c ls s f.room f.is_line refl (behind p line c s.base.some)
    record { objects = record { is_module = module_named p line c n f.numbers.0; is_map = map_named p line c g f.numbers.1 }; is_map = map_named p line c i f.numbers.2 }
sound_head p ls line (head.Cokernel n g i) s fits =
    let c = claim.Cokernel n g i in
    let f = fits.claim in
    sound_claimed p line c ls s f.room f.is_line refl (behind p line c s.base.some)
    record { objects = record { is_module = module_named p line c n f.numbers.0; is_map = map_named p line c g f.numbers.1 }; is_map = map_named p line c i f.numbers.2 }
sound_head p ls line (head.Radical n a i) s fits =
    let c = claim.Radical n a i in
    let f = fits.claim in
    sound_claimed p line c ls s f.room f.is_line refl (behind p line c s.base.some)
    record { objects = record { is_module = module_named p line c n f.numbers.0; is_map = map_named p line c i f.numbers.2 }; is_module = module_named p line c a f.numbers.1 }
sound_head p ls line (head.Decomposition a b g k parts) s fits =
    let c = claim.Decomposition a b g k parts in
    let f = fits.claim in
    sound_claimed p line c ls s f.room f.is_line refl (behind p line c s.base.some)
    record {
      whole = record { is_module = module_named p line c a f.numbers.0; is_map = map_named p line c g f.numbers.2 };
      sum = record { is_module = module_named p line c b f.numbers.1; is_map = map_named p line c k f.numbers.3 };
      each = parts_named p line c parts f.numbers.4 fits.kind.1;
    }
sound_head p ls line (head.Hom a b count) s fits = sound_block p ls line (head.Hom a b count) s fits fits.kind.1
sound_head p ls line (head.Resolution a n) s fits = sound_block p ls line (head.Resolution a n) s fits fits.kind.1
sound_head p ls line (head.Ext n a b count c) s fits = sound_block p ls line (head.Ext n a b count c) s fits fits.kind.1
sound_head p ls line (head.Local m c) s fits = sound_block p ls line (head.Local m c) s fits fits.kind.1
sound_head p ls line (head.Translate which n a c) s fits = sound_block p ls line (head.Translate which n a c) s fits fits.kind.1
sound_head p ls line (head.AlmostSplit n e a f g c l) s fits = sound_block p ls line (head.AlmostSplit n e a f g c l) s fits fits.kind.1
