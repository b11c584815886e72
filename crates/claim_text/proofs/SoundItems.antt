-- What stands between whole objects and claims, with the lines that were read.
use Rattle.std.proofs.Common.{◌≡◌, ◌+◌, List, [], ◌∷◌, ◌++◌, length, sym, ap, ◌∙◌, subst, append-nil, lit<}
use Rattle.header_text.specs.Spelling.{header_lines}
use Rattle.header_text.specs.Part.{MayEnd as HeaderMayEnd}
use Rattle.header_text.proofs.FrontLemmas.{allowed_at_end, lines_at_end}
use Rattle.report_types.specs.declared.claims.Record.{Record}
use Rattle.report_types.specs.declared.reports.End.{End}
use Rattle.report_types.specs.Ends.{IsEnd}
use Rattle.report_types.specs.Lawful.{IsReport}
use Rattle.claim_lines.specs.declared.heads.Head.TheVariants as head
use Rattle.claim_lines.specs.Spelling.{title_line, claim_line, end_line}
use Rattle.claim_lines.specs.Items.{FitsEnd}
use Rattle.claim_text.specs.declared.part.Owner.TheVariants as owner
use Rattle.claim_text.specs.declared.part.Place.TheVariants as place
use Rattle.claim_text.specs.declared.part.Part.{Part}
use Rattle.claim_text.specs.declared.part.Item.{Item}
use Rattle.claim_text.specs.declared.part.Item.TheVariants as item
use Rattle.claim_text.specs.Part.{here, rows_of, columns_of, with_item}
use Rattle.claim_text.specs.Steps.{FitsItem, item_line}
use Rattle.claim_text.proofs.Reached.{Lines}
use Rattle.claim_text.proofs.SoundObjects.{none_each, base_lines, Between, sound_end, lines_end}
use Rattle.claim_text.proofs.SoundPlaces.{HeaderSound, Whole, SoundAt, Sound, no_first}
use Rattle.claim_text.proofs.SoundMatrices.{sound_fill, no_matrices}
use Rattle.claim_text.proofs.SoundClaims.{sound_head}

sound_last : (p : Part) (ls : Lines) (e : End) → Between p.front.header p.records p.modules p.maps ls → p.modules ≡ [] → p.maps ≡ [] → FitsEnd p.front.header (length p.records) e
    → Whole (record p { place = place.Ended; end = e }) (ls ++ end_line p.front.header (length p.records) e ∷ [])
sound_last p ls e s no_module no_map fits =
    let h = p.front.header in
    let whole : Between h p.records [] [] ls = subst (λ ms. Between h p.records ms [] ls) no_module (subst (λ fs. Between h p.records p.modules fs ls) no_map s) in
    record {
      is = sound_end h p.records e whole.base fits;
      lines = ap (λ l. l ++ end_line h (length p.records) e ∷ []) whole.lines ∙ lines_end h p.records e;
    }

pub sound_item : (p : Part) (ls : Lines) (x : Item) → Between p.front.header p.records p.modules p.maps ls → FitsItem p x → Sound (with_item p x) (ls ++ item_line p x ∷ [])
unfolding SoundAt
sound_item p ls (item.Module side dims) s fits =
    let q = record p { dims = dims } in
    let h = p.front.header in
    let line = item_line p (item.Module side dims) in
    sound_fill q (owner.Module side) (ls ++ line ∷ []) [] s.base
    record { behind_basis = fits.behind_basis; no_map = fits.no_map; room = fits.room; counted = fits.counted; small = fits.small }
    (no_matrices h.field (rows_of h dims (here p) (owner.Module side)) (columns_of h dims (here p) (owner.Module side)))
    (ap (λ l. l ++ line ∷ []) s.lines ∙ sym (append-nil (base_lines h p.records p.modules p.maps ++ line ∷ [])))
sound_item p ls (item.Map a b) s fits =
    let h = p.front.header in
    let line = item_line p (item.Map a b) in
    sound_fill p (owner.Map a b) (ls ++ line ∷ []) [] s.base fits
    (no_matrices h.field (rows_of h p.dims (here p) (owner.Map a b)) (columns_of h p.dims (here p) (owner.Map a b)))
    (ap (λ l. l ++ line ∷ []) s.lines ∙ sym (append-nil (base_lines h p.records p.modules p.maps ++ line ∷ [])))
sound_item p ls (item.Claim line x) s fits = sound_head p ls line x s fits
sound_item p ls (item.End e) s fits = sound_last p ls e s fits.no_module fits.no_map fits.ends

-- ---- the first line behind the header

pub sound_first : (p : Part) (ls : Lines) (x : Item) → HeaderSound p ls → HeaderMayEnd p.front → FitsItem p x → Sound (with_item p x) (ls ++ item_line p x ∷ [])
unfolding SoundAt
sound_first p ls (item.Module side dims) s ends fits = absurd (no_first p fits.behind_basis s.bare.none.no_record)
sound_first p ls (item.Map a b) s ends fits = absurd (no_first p fits.behind_basis s.bare.none.no_record)
sound_first p ls (item.End e) s ends fits =
    let h = p.front.header in
    let none = s.bare.none.no_record in
    let empty : IsEnd h [] e = subst (λ (rs : List Record). FitsEnd h (length rs) e) none fits.ends in
    let report : IsReport record { header = h; records = []; end = e } = record {
      header = allowed_at_end p.front s.front ends;
      few = lit< tt;
      few_modules = lit< tt;
      few_maps = lit< tt;
      each = none_each h;
      ends = empty;
    } in
    let whole : Whole (record p { place = place.Ended; records = []; end = e }) (ls ++ end_line h 0 e ∷ []) = record {
      is = report;
      lines = ap (λ l. l ++ end_line h 0 e ∷ []) (s.lines ∙ ap (λ l. title_line ∷ l) (lines_at_end p.front s.front ends));
    } in
    subst (λ (rs : List Record). Whole (record p { place = place.Ended; records = rs; end = e }) (ls ++ end_line h (length rs) e ∷ [])) (sym none) whole
sound_first p ls (item.Claim line head.Basis) s ends fits =
    let h = p.front.header in
    let none = s.bare.none.no_record in
    record {
      allowed = allowed_at_end p.front s.front ends;
      is_line = fits.claim.is_line;
      bare = record { no_word = s.bare.no_word; no_step = s.bare.no_step; no_rule = s.bare.no_rule; none = record { no_record = none; no_module = s.bare.none.no_module; no_map = s.bare.none.no_map } };
      lines = ap (λ l. l ++ claim_line (length p.records + 1) line head.Basis ∷ []) (s.lines ∙ ap (λ l. title_line ∷ l) (lines_at_end p.front s.front ends))
          ∙ ap (λ (rs : List Record). title_line ∷ (header_lines h ++ claim_line (length rs + 1) line head.Basis ∷ [])) none;
    }
sound_first p ls (item.Claim line (head.Module m)) s ends fits = absurd (no_first p fits.kind s.bare.none.no_record)
sound_first p ls (item.Claim line (head.Map m)) s ends fits = absurd (no_first p fits.kind s.bare.none.no_record)
sound_first p ls (item.Claim line (head.Kernel n f i)) s ends fits = absurd (no_first p fits.kind s.bare.none.no_record)
sound_first p ls (item.Claim line (head.Cokernel n f i)) s ends fits = absurd (no_first p fits.kind s.bare.none.no_record)
sound_first p ls (item.Claim line (head.Radical n a i)) s ends fits = absurd (no_first p fits.kind s.bare.none.no_record)
sound_first p ls (item.Claim line (head.Decomposition a b f g parts)) s ends fits = absurd (no_first p fits.kind.0 s.bare.none.no_record)
sound_first p ls (item.Claim line (head.Hom a b count)) s ends fits = absurd (no_first p fits.kind.0 s.bare.none.no_record)
sound_first p ls (item.Claim line (head.Resolution a n)) s ends fits = absurd (no_first p fits.kind.0 s.bare.none.no_record)
sound_first p ls (item.Claim line (head.Ext n a b count c)) s ends fits = absurd (no_first p fits.kind.0 s.bare.none.no_record)
sound_first p ls (item.Claim line (head.Local m c)) s ends fits = absurd (no_first p fits.kind.0 s.bare.none.no_record)
sound_first p ls (item.Claim line (head.Translate which n a c)) s ends fits = absurd (no_first p fits.kind.0 s.bare.none.no_record)
sound_first p ls (item.Claim line (head.AlmostSplit n e a f g c l)) s ends fits = absurd (no_first p fits.kind.0 s.bare.none.no_record)
