-- The lines of a report are read, and lead to that report.
use Rattle.std.proofs.Common.{None, ◌≡◌, ℕ, suc, ◌+◌, ◌<◌, ◌^◌, false, true, List, [], ◌∷◌, ◌++◌, map, length, cond, refl, sym, ap, ◌∙◌, subst, arith, append_assoc, append-nil, lit<}
use Rattle.std.specs.Prelude.{All, take}
use Rattle.std.proofs.lemmas.List.{length-append}
use Rattle.quiver_paths.proofs.ListLemmas.{length-pushed}
use Rattle.path_algebra.specs.declared.Header.{Header}
use Rattle.path_algebra.specs.Allowed.{IsAllowed}
use Rattle.path_algebra.specs.Derivations.{IsNumber}
use Rattle.text_lines.specs.Lines.{lines}
use Rattle.text_lines.specs.Strict.{strict_line, strict_tokens}
use Rattle.text_lines.specs.Reading.{Reads}
use Rattle.text_lines.proofs.StrictLaws.{strict_tokens-strict_line}
use Rattle.header_text.specs.declared.forms.Form.{Form}
use Rattle.header_text.specs.declared.forms.Form.TheVariants.{Field, Vertex, Arrow as ArrowForm, Bound, Relation as RelationForm}
use Rattle.header_text.specs.Named.{IsNamed}
use Rattle.header_text.specs.Spelling.{header_lines}
use Rattle.header_text.specs.Part.{Part as HeaderPart, start as header_start, IsStart, tokens_of, Step as HeaderStep}
use Rattle.header_text.proofs.WholeLemmas.{reads_header, IsNamed-allowed, header_lacks, lines_of_text}
use Rattle.module_types.specs.declared.Module.{Module}
use Rattle.module_types.specs.declared.Map.{Map}
use Rattle.report_types.specs.declared.claims.Claim.{Claim}
use Rattle.report_types.specs.declared.claims.Claim.TheVariants as claim
use Rattle.report_types.specs.declared.claims.PartClaim.{PartClaim}
use Rattle.report_types.specs.declared.claims.Record.{Record}
use Rattle.report_types.specs.declared.reports.End.{End}
use Rattle.report_types.specs.declared.reports.End.TheVariants.{Done, Refused}
use Rattle.report_types.specs.declared.reports.Report.{Report}
use Rattle.report_types.specs.Limits.{IsLine}
use Rattle.report_types.specs.declared.claims.Translation.{Translation}
use Rattle.report_types.specs.declared.claims.Translation.TheVariants.{Tau, Transpose, Taui}
use Rattle.fp_linear.specs.Matrix.{PlainMatrix}
use Rattle.report_types.specs.Numbers.{modules_of, maps_of, record_of, claim_of, NamesModule, NamesMap, NamesClaim}
use Rattle.report_types.specs.NamedClaims.{HasLength, IsLocalClaim}
use Rattle.report_types.specs.ClaimBlocks.{IsClaimBlock, IsPart, HasTranslateShape}
use Rattle.report_types.specs.Ends.{IsEmptyEnd, IsFullEnd}
use Rattle.report_types.specs.Lawful.{IsModuleBlock, IsRecord, HasItsPlace, MayBeRecord, IsReport}
use Rattle.claim_lines.specs.declared.heads.Head.{Head}
use Rattle.claim_lines.specs.declared.heads.Head.TheVariants as head
use Rattle.claim_lines.specs.Spelling.{title_line, claim_line, end_line}
use Rattle.claim_lines.specs.Items.{FitsClaim, AreNumbers, ArePartNumbers, AreTranslateNumbers}
use Rattle.object_lines.proofs.ClearLines.{space_stands}
use Rattle.claim_lines.proofs.Clear.{title_clear, space}
use Rattle.claim_text.specs.declared.part.Place.TheVariants as place
use Rattle.claim_text.specs.declared.part.Part.{Part}
use Rattle.claim_text.specs.declared.part.Item.TheVariants as item
use Rattle.claim_text.specs.Spelling.{block_lines, module_lines, map_lines, head_of, claim_block, record_lines, records_lines, report_lines}
use Rattle.claim_text.specs.Part.{start, report_of, unclaimed, here, counts_of, claimed, at_block, with_block, with_head, with_item}
use Rattle.claim_text.specs.Steps.{TokenStep, begins_body, lexed_begins, is_header_line, StepBy, Step, FitsKind, FitsHead, FitsItem, item_line}
use Rattle.claim_text.specs.Texts.{IsTextOf}
use Rattle.claim_text.proofs.Runs.{Run, run_none, run_line, run_append, taken}
use Rattle.claim_blocks.specs.Blocks.{FitsHead as FitsLines, HasBlock, begin_block}
use Rattle.claim_blocks.proofs.BlockLaws.{block_read as block_read_whole}
use Rattle.claim_blocks.proofs.Carried.{block_too}
use Rattle.claim_text.proofs.CompleteLines.{lines_read, resolution_short, terms_declared, modules_small, each_before}
use Rattle.claim_text.proofs.ObjectLists.{same_modules, same_maps, modules_push, modules_count, maps_count, claim_earlier, record_behind, modules_append, maps_append}
use Rattle.claim_text.proofs.OtherLines.{one_item, item_clear}
use Rattle.claim_text.proofs.CompleteObjects.{between, modules_read, maps_read}
use Rattle.claim_text.proofs.CompleteBasis.{with_basis, basis_read}

-- ---- the header

not_body : (f : HeaderPart) (x : Form) → begins_body (tokens_of f x) ≡ false
not_body f (Field q) = refl
not_body f (Vertex n) = refl
not_body f (ArrowForm a) = refl
not_body f (Bound t) = refl
not_body f (RelationForm r) = refl

abbrev pub header_at : HeaderPart → Part
header_at f = record { front = f; place = place.Header; line = 0; words = []; steps = []; rules = []; records = []; modules = []; maps = []; dims = []; matrices = []; block = None; end = Done }

header_step : (f g : HeaderPart) (line : List ℕ) → HeaderStep f line g → Step (header_at f) line (header_at g)
header_step f g line step =
    let begins : lexed_begins (strict_tokens line) ≡ false = ap lexed_begins step.step.spelled ∙ not_body f step.step.form in
    let e : is_header_line place.Header line ≡ true = ap (λ b. cond b false true) begins in
    subst (λ b. StepBy b (header_at f) line (header_at g)) (sym e) record { front = g; step = step; leads = refl }

header_reads : (f g : HeaderPart) (xs : List (List ℕ)) → Reads HeaderStep f xs g → Reads Step (header_at f) xs (header_at g)
header_reads f g [] e = ap header_at e
header_reads f g (x ∷ xs) reads = (header_at reads.0, header_step f reads.0 x reads.1, header_reads reads.0 g xs reads.2)

header_is_start : IsStart header_start
header_is_start = record { unbegun = refl; no_vertex = refl; no_arrow = refl; unbound = refl; no_relation = refl }

module _ (h : Header) (ok : IsAllowed h) where
  named : IsNamed h.quiver
  named = IsNamed-allowed h ok

  few_relations : length h.relations < 2 ^ 32
  few_relations = let few = ok.few_relations in let big : 256 < 2 ^ 32 = lit< tt in omega arith

  abbrev open_header : Part
  open_header = header_at record { is_begun = true; header = h }

  front_read : Run start (title_line ∷ header_lines h) open_header
  front_read =
      run_line start (header_at header_start) open_header title_line (header_lines h) (λ c out o. title_clear c out) refl record { title = refl; leads = refl }
      record { reads = header_reads header_start record { is_begun = true; header = h } (map strict_line (header_lines h)) (reads_header header_start h header_is_start ok); lacks = header_lacks h ok }

  -- ---- claims

  module _ (rs : List Record) (ms : List Module) (fs : List Map) (some : 0 < length rs) (room : length rs + 1 < 2 ^ 32) (few_modules : length (modules_of rs) + length ms < 2 ^ 32) (few_maps : length (maps_of rs) + length fs < 2 ^ 32) (lawful : All (IsModuleBlock h) ms) where
    abbrev p : Part
    p = between h ok rs ms fs

    abbrev with_claim : ℕ → Claim → List Record
    with_claim line c = rs ++ record { line = line; modules = ms; maps = fs; claim = c } ∷ []

    module_number : (line : ℕ) (c : Claim) (m : ℕ) → NamesModule (with_claim line c) m → IsNumber (counts_of p).modules m
    module_number line c m is = subst (λ l. IsNumber (length l) m) (same_modules rs record { line = line; modules = ms; maps = fs; claim = c } (unclaimed p) refl) is

    map_number : (line : ℕ) (c : Claim) (f : ℕ) → NamesMap (with_claim line c) f → IsNumber (counts_of p).maps f
    map_number line c f is = subst (λ l. IsNumber (length l) f) (same_maps rs record { line = line; modules = ms; maps = fs; claim = c } (unclaimed p) refl) is

    fits_head : (line : ℕ) (x : Head) → FitsClaim (length rs) (counts_of p) (line, x) → FitsKind p x → FitsHead p line x
    fits_head line x fits kind = record {
      few_modules = let m = modules_count rs (unclaimed p) in omega (arith, m, few_modules);
      few_maps = let f = maps_count rs (unclaimed p) in omega (arith, f, few_maps);
      claim = fits;
      kind = kind;
    }

    head_read : (line : ℕ) (x : Head) (q : Part) → with_head p line x ≡ q → FitsHead p line x → Run p (claim_line (length rs + 1) line x ∷ []) q
    head_read line x q e fits =
        let y = item.Claim line x in
        run_line p (with_item p y) q (item_line p y) [] (λ c out o. item_clear c out o p y named few_relations fits) refl (taken (FitsItem p) (item_line p) (with_item p) y fits (one_item p named few_relations)) (run_none (with_item p y) q (sym e))

    part_numbers : (line : ℕ) (c : Claim) (parts : List PartClaim) → All (IsPart h (with_claim line c)) parts → All (ArePartNumbers (length rs) (counts_of p).modules) parts
    part_numbers line c parts are = λ i d l.
        let is = are i d l in
        let n = is.named in
        let long = length-pushed rs (with_claim line c) record { line = line; modules = ms; maps = fs; claim = c } refl in
        record { is_module = module_number line c _ is.is_module; named = let to = n.earlier in record { from = n.from; to = omega (arith, to, long) } }

    part_kinds : (line : ℕ) (c : Claim) (parts : List PartClaim) → All (IsPart h (with_claim line c)) parts → All (λ (x : PartClaim). IsLocalClaim (claim_of rs x.local)) parts
    part_kinds line c parts are = λ i d l.
        let is = are i d l in
        let n = is.named in
        let long = length-pushed rs (with_claim line c) record { line = line; modules = ms; maps = fs; claim = c } refl in
        subst IsLocalClaim (claim_earlier rs record { line = line; modules = ms; maps = fs; claim = c } _ (let to = n.earlier in omega (arith, to, long))) is.is_local

    no_basis : (line : ℕ) (c : Claim) → length (with_claim line c) ≡ 1 → ⊥
    no_basis line c e = let long = length-pushed rs (with_claim line c) record { line = line; modules = ms; maps = fs; claim = c } refl in absurd (omega (arith, e, long, some))

    claim_number : (line : ℕ) (c : Claim) (k : ℕ) → NamesClaim (with_claim line c) k → IsNumber (length rs) k
    claim_number line c k is = record { from = is.from; to = let to = is.earlier in let long = length-pushed rs (with_claim line c) record { line = line; modules = ms; maps = fs; claim = c } refl in omega (arith, to, long) }

    -- a claim with lines behind the first one
    block_read : (line : ℕ) (c : Claim) → ((k : ℕ) → MayBeRecord h (take k rs) (record_of rs k)) → IsLine line → HasBlock c → IsClaimBlock h (with_claim line c) c → AreNumbers (length rs) (counts_of p).modules (counts_of p).maps (head_of c)
        → with_head p line (head_of c) ≡ with_block p line (head_of c) → ((0 < length rs) × FitsLines h (here p) (head_of c) → FitsKind p (head_of c))
        → Run p (claim_line (length rs + 1) line (head_of c) ∷ claim_block h c) (between h ok (with_claim line c) [] [])
    block_read line c each is has block numbers leads kind =
        let q = record p { line = line } in
        let x = head_of c in
        let there : IsClaimBlock h (here p) c =
        block_too h rs record { line = line; modules = ms; maps = fs; claim = c } (unclaimed p) refl refl some c block in
        let whole = block_read_whole h named (here p) (terms_declared h p each) (modules_small h p each lawful) c has there in
        let fits = fits_head line x record { room = room; is_line = is; numbers = numbers } (kind (some, whole.fits)) in
        let first = begin_block h (here p) x in
        let lines = lines_read q named fits.few_modules fits.few_maps first whole.last (claim_block h c) whole.leads whole.whole in
        run_append p (at_block q first) (between h ok (with_claim line c) [] []) (claim_line (length rs + 1) line x ∷ []) (claim_block h c) (head_read line x (at_block q first) leads fits)
        (subst (λ d. Run (at_block q first) (claim_block h c) (claimed q line d)) whole.back lines)

    translate_number : (line : ℕ) (c : Claim) (which : Translation) (n k : ℕ) (rows : List PlainMatrix) → HasTranslateShape h (with_claim line c) which n k rows → AreTranslateNumbers (counts_of p).modules which
    translate_number line c Tau n k rows shape = tt
    translate_number line c Transpose n k rows shape = tt
    translate_number line c (Taui b) n k rows shape = module_number line c b shape.0

    claim_read : (line : ℕ) (c : Claim) → ((k : ℕ) → MayBeRecord h (take k rs) (record_of rs k)) → IsLine line → HasItsPlace (with_claim line c) record { line = line; modules = ms; maps = fs; claim = c } c → IsClaimBlock h (with_claim line c) c
        → Run p (claim_line (length rs + 1) line (head_of c) ∷ claim_block h c) (between h ok (with_claim line c) [] [])
    claim_read line (claim.Basis words steps rules) each is place block = absurd (no_basis line (claim.Basis words steps rules) place.0)
    claim_read line (claim.Module m) each is place block =
        head_read line (head.Module m) _ refl (fits_head line (head.Module m) record { room = room; is_line = is; numbers = module_number line (claim.Module m) m block } some)
    claim_read line (claim.Map f) each is place block =
        head_read line (head.Map f) _ refl (fits_head line (head.Map f) record { room = room; is_line = is; numbers = map_number line (claim.Map f) f block } some)
    claim_read line (claim.Kernel n f i) each is place block =
        let c = claim.Kernel n f i in
        head_read line (head.Kernel n f i) _ refl (fits_head line (head.Kernel n f i) record { room = room; is_line = is; numbers = (module_number line c n block.objects.is_module, map_number line c f block.objects.is_map, map_number line c i block.is_map) } some)
    claim_read line (claim.Cokernel n f i) each is place block =
        let c = claim.Cokernel n f i in
        head_read line (head.Cokernel n f i) _ refl (fits_head line (head.Cokernel n f i) record { room = room; is_line = is; numbers = (module_number line c n block.objects.is_module, map_number line c f block.objects.is_map, map_number line c i block.is_map) } some)
    claim_read line (claim.Radical n a i) each is place block =
        let c = claim.Radical n a i in
        head_read line (head.Radical n a i) _ refl (fits_head line (head.Radical n a i) record { room = room; is_line = is; numbers = (module_number line c n block.objects.is_module, module_number line c a block.is_module, map_number line c i block.objects.is_map) } some)
    claim_read line (claim.Decomposition a s f g parts) each is place block =
        let c = claim.Decomposition a s f g parts in
        head_read line (head.Decomposition a s f g parts) _ refl
        (fits_head line (head.Decomposition a s f g parts)
        record {
          room = room;
          is_line = is;
          numbers = (
            module_number line c a block.whole.is_module,
            module_number line c s block.sum.is_module,
            map_number line c f block.whole.is_map,
            map_number line c g block.sum.is_map,
            part_numbers line c parts block.each,
          );
        } (some, part_kinds line c parts block.each))
    claim_read line (claim.Hom a b rows) each is place block =
        let c = claim.Hom a b rows in
        block_read line c each is tt block (module_number line c a block.first, module_number line c b block.second, (let few = block.are_rows.few in let small = block.small in omega (arith, few, small))) refl (λ fits. fits)
    claim_read line (claim.Resolution a n terms) each is place block =
        let c = claim.Resolution a n terms in
        block_read line c each is tt block (module_number line c a block.named, block.short) refl (λ fits. fits)
    claim_read line (claim.Ext n a b rows c') each is place block =
        let c = claim.Ext n a b rows c' in
        block_read line c each is tt block ((let short = resolution_short h rs each c' (suc n) (subst (λ d. HasLength d (suc n)) (claim_earlier rs record { line = line; modules = ms; maps = fs; claim = c } c' (claim_number line c c' block.resolution.named).to) block.resolution.length) in omega (arith, short)), module_number line c a block.first, module_number line c b block.second, (let few = block.are_rows.few in let small = block.small in omega (arith, few, small)), claim_number line c c' block.resolution.named) refl (λ fits. fits)
    claim_read line (claim.Local m c' ideal power residue) each is place block =
        let c = claim.Local m c' ideal power residue in
        block_read line c each is tt block (module_number line c m block.is_module, claim_number line c c' block.named) refl (λ fits. fits)
    claim_read line (claim.Translate which n a c' rows) each is place block =
        let c = claim.Translate which n a c' rows in
        block_read line c each is tt block (translate_number line c which n c' rows block.shape, module_number line c n block.is_module, module_number line c a block.named, claim_number line c c' block.presentation.resolution.named) refl (λ fits. fits)
    claim_read line (claim.AlmostSplit n e a f g c' l phi left middle) each is place block =
        let c = claim.AlmostSplit n e a f g c' l phi left middle in
        block_read line c each is tt block (module_number line c n block.first.is_module, module_number line c e block.second.is_module, module_number line c a block.ends, map_number line c f block.first.is_map, map_number line c g block.second.is_map, claim_number line c c' block.presentation.resolution.named, claim_number line c l block.named) refl (λ fits. fits)

  -- ---- records

  record_read : (rs : List Record) (r : Record) → 0 < length rs → length rs + 1 < 2 ^ 32 → length (modules_of (rs ++ r ∷ [])) < 2 ^ 32 → length (maps_of (rs ++ r ∷ [])) < 2 ^ 32
      → ((k : ℕ) → MayBeRecord h (take k rs) (record_of rs k)) → IsRecord h (rs ++ r ∷ []) r
      → Run (between h ok rs [] []) (record_lines h (length (modules_of rs)) (length (maps_of rs)) (length rs) r) (between h ok (rs ++ r ∷ []) [] [])
  record_read rs r some room few_modules few_maps before is =
      let M = length (modules_of rs) in
      let F = length (maps_of rs) in
      let m = modules_count rs r in
      let f = maps_count rs r in
      run_append (between h ok rs [] []) (between h ok rs r.modules []) (between h ok (rs ++ r ∷ []) [] []) (module_lines h M r.modules) (map_lines h F r.maps ++ claim_line (length rs + 1) r.line (head_of r.claim) ∷ claim_block h r.claim)
      (modules_read h ok rs [] r.modules M some (omega arith) (omega (arith, m, few_modules)) is.modules)
      (run_append (between h ok rs r.modules []) (between h ok rs r.modules r.maps) (between h ok (rs ++ r ∷ []) [] []) (map_lines h F r.maps) (claim_line (length rs + 1) r.line (head_of r.claim) ∷ claim_block h r.claim)
      (maps_read h ok rs (rs ++ r ∷ []) r.modules [] r.maps F some (modules_push rs r) (omega arith) (omega (arith, f, few_maps)) (omega (arith, m, few_modules)) is.maps)
      (claim_read rs r.modules r.maps some room (omega (arith, m, few_modules)) (omega (arith, f, few_maps)) is.modules r.line r.claim before is.line is.place is.claim))

  records_read : (done todo : List Record) → 0 < length done → length (done ++ todo) < 2 ^ 32 → length (modules_of (done ++ todo)) < 2 ^ 32 → length (maps_of (done ++ todo)) < 2 ^ 32
      → ((k : ℕ) → MayBeRecord h (take k (done ++ todo)) (record_of (done ++ todo) k))
      → Run (between h ok done [] []) (records_lines h (length (modules_of done)) (length (maps_of done)) (length done) todo) (between h ok (done ++ todo) [] [])
  records_read done [] some few few_modules few_maps each = run_none (between h ok done [] []) (between h ok (done ++ []) [] []) (ap (λ l. between h ok l [] []) (append-nil done))
  records_read done (r ∷ rest) some few few_modules few_maps each =
      let again : (done ++ r ∷ []) ++ rest ≡ done ++ r ∷ rest = append_assoc done (r ∷ []) rest in
      let long : length (done ++ r ∷ []) ≡ length done + 1 = length-pushed done (done ++ r ∷ []) r refl in
      let m = modules_count done r in
      let f = maps_count done r in
      let all_long : length (done ++ r ∷ rest) ≡ length (done ++ r ∷ []) + length rest = ap length (sym again) ∙ length-append (done ++ r ∷ []) rest in
      let all_modules : length (modules_of (done ++ r ∷ rest)) ≡ length (modules_of (done ++ r ∷ [])) + length (modules_of rest) =
      ap (λ l. length (modules_of l)) (sym again) ∙ (ap length (modules_append (done ++ r ∷ []) rest) ∙ length-append (modules_of (done ++ r ∷ [])) (modules_of rest)) in
      let all_maps : length (maps_of (done ++ r ∷ rest)) ≡ length (maps_of (done ++ r ∷ [])) + length (maps_of rest) =
      ap (λ l. length (maps_of l)) (sym again) ∙ (ap length (maps_append (done ++ r ∷ []) rest) ∙ length-append (maps_of (done ++ r ∷ [])) (maps_of rest)) in
      let one = record_read done r some (omega (arith, few, all_long, long)) (omega (arith, few_modules, all_modules)) (omega (arith, few_maps, all_maps)) (each_before h done (r ∷ rest) each) (record_behind h done r rest each) in
      let more = records_read (done ++ r ∷ []) rest (omega (arith, long)) (subst (λ l. length l < 2 ^ 32) (sym again) few) (subst (λ l. length (modules_of l) < 2 ^ 32) (sym again) few_modules)
      (subst (λ l. length (maps_of l) < 2 ^ 32) (sym again) few_maps) (subst (λ l. (k : ℕ) → MayBeRecord h (take k l) (record_of l k)) (sym again) each) in
      let M = length (modules_of done) in
      let F = length (maps_of done) in
      run_append (between h ok done [] []) (between h ok (done ++ r ∷ []) [] []) (between h ok (done ++ r ∷ rest) [] []) (record_lines h M F (length done) r)
      (records_lines h (M + length r.modules) (F + length r.maps) (length done + 1) rest) one
      (subst (λ k. Run (between h ok (done ++ r ∷ []) [] []) (records_lines h (M + length r.modules) (F + length r.maps) k rest) (between h ok (done ++ r ∷ rest) [] [])) long
      (subst (λ k. Run (between h ok (done ++ r ∷ []) [] []) (records_lines h (M + length r.modules) k (length (done ++ r ∷ [])) rest) (between h ok (done ++ r ∷ rest) [] [])) f
      (subst (λ k. Run (between h ok (done ++ r ∷ []) [] []) (records_lines h k (length (maps_of (done ++ r ∷ []))) (length (done ++ r ∷ [])) rest) (between h ok (done ++ r ∷ rest) [] [])) m
      (subst (λ l. Run (between h ok (done ++ r ∷ []) [] []) (records_lines h (length (modules_of (done ++ r ∷ []))) (length (maps_of (done ++ r ∷ []))) (length (done ++ r ∷ [])) rest) (between h ok l [] [])) again more))))

  -- the first record
  first_read : (line : ℕ) (ms : List Module) (fs : List Map) (c : Claim) → IsRecord h (record { line = line; modules = ms; maps = fs; claim = c } ∷ []) record { line = line; modules = ms; maps = fs; claim = c }
      → Run open_header (record_lines h 0 0 0 record { line = line; modules = ms; maps = fs; claim = c }) (between h ok (record { line = line; modules = ms; maps = fs; claim = c } ∷ []) [] [])
  first_read line ms fs (claim.Basis words steps rules) is =
      let c = claim.Basis words steps rules in
      let x = item.Claim line head.Basis in
      let low = ok.bound_from in
      let p = open_header in
      let fits : FitsItem p x = record { few_modules = lit< tt; few_maps = lit< tt; claim = record { room = lit< tt; is_line = is.line; numbers = tt }; kind = record { first = refl; no_module = refl; no_map = refl } } in
      let clear = item_clear 32 space space_stands p x named few_relations fits in
      let opens : is_header_line place.Header (strict_line (item_line p x)) ≡ false = ap (λ ts. cond (lexed_begins ts) false true) (strict_tokens-strict_line (item_line p x) clear.some clear.lacks) in
      let step : TokenStep place.Header p (item_line p x) (with_item p x) = record { ends = omega (arith, low); first = taken (FitsItem p) (item_line p) (with_item p) x fits (one_item p named few_relations) } in
      let goal : Run p (record_lines h 0 0 0 record { line = line; modules = []; maps = []; claim = c }) (between h ok (record { line = line; modules = []; maps = []; claim = c } ∷ []) [] []) =
      run_line p (with_item p x) (with_basis h ok line words steps rules) (item_line p x) (block_lines h.quiver words steps rules) (λ c out o. item_clear c out o p x named few_relations fits) opens step (basis_read h ok line words steps rules is.claim) in
      subst (λ l. Run p (record_lines h 0 0 0 record { line = line; modules = l; maps = fs; claim = c }) (between h ok (record { line = line; modules = l; maps = fs; claim = c } ∷ []) [] [])) (sym is.place.1)
      (subst (λ l. Run p (record_lines h 0 0 0 record { line = line; modules = []; maps = l; claim = c }) (between h ok (record { line = line; modules = []; maps = l; claim = c } ∷ []) [] [])) (sym is.place.2) goal)
  first_read line ms fs (claim.Module m) is = absurd (let l = is.place in omega (arith, l))
  first_read line ms fs (claim.Map f) is = absurd (let l = is.place in omega (arith, l))
  first_read line ms fs (claim.Kernel n f i) is = absurd (let l = is.place in omega (arith, l))
  first_read line ms fs (claim.Cokernel n f i) is = absurd (let l = is.place in omega (arith, l))
  first_read line ms fs (claim.Radical n a i) is = absurd (let l = is.place in omega (arith, l))
  first_read line ms fs (claim.Decomposition a s f g parts) is = absurd (let l = is.place in omega (arith, l))
  first_read line ms fs (claim.Hom a b rows) is = absurd (let l = is.place in omega (arith, l))
  first_read line ms fs (claim.Resolution a n terms) is = absurd (let l = is.place in omega (arith, l))
  first_read line ms fs (claim.Ext n a b rows c) is = absurd (let l = is.place in omega (arith, l))
  first_read line ms fs (claim.Local m c ideal power residue) is = absurd (let l = is.place in omega (arith, l))
  first_read line ms fs (claim.Translate which n a c rows) is = absurd (let l = is.place in omega (arith, l))
  first_read line ms fs (claim.AlmostSplit n e a f g c l phi left middle) is = absurd (let l = is.place in omega (arith, l))

  -- ---- the end

  abbrev ended : List Record → End → Part
  ended rs e = record (between h ok rs [] []) { place = place.Ended; end = e }

  empty_read : (e : End) → IsEmptyEnd e → Run open_header (end_line h 0 e ∷ []) (ended [] e)
  empty_read Done is = absurd is
  empty_read (Refused line w) is =
      let e = Refused line w in
      let p = open_header in
      let x = item.End e in
      let low = ok.bound_from in
      let fits : FitsItem p x = record { few = lit< tt; no_module = refl; no_map = refl; ends = is } in
      let clear = item_clear 32 space space_stands p x named few_relations fits in
      let opens : is_header_line place.Header (strict_line (item_line p x)) ≡ false = ap (λ ts. cond (lexed_begins ts) false true) (strict_tokens-strict_line (item_line p x) clear.some clear.lacks) in
      run_line p (with_item p x) (ended [] e) (item_line p x) [] (λ c out o. item_clear c out o p x named few_relations fits) opens record { ends = omega (arith, low); first = taken (FitsItem p) (item_line p) (with_item p) x fits (one_item p named few_relations) }
      (run_none (with_item p x) (ended [] e) refl)

  full_ends : (r : Record) (rest : List Record) (e : End) → length (r ∷ rest) < 2 ^ 32 → IsFullEnd h e → Run (between h ok (r ∷ rest) [] []) (end_line h (length (r ∷ rest)) e ∷ []) (ended (r ∷ rest) e)
  full_ends r rest e few is =
      let p = between h ok (r ∷ rest) [] [] in
      let x = item.End e in
      let fits : FitsItem p x = record { few = few; no_module = refl; no_map = refl; ends = is } in
      run_line p (with_item p x) (ended (r ∷ rest) e) (item_line p x) [] (λ c out o. item_clear c out o p x named few_relations fits) refl (taken (FitsItem p) (item_line p) (with_item p) x fits (one_item p named few_relations)) (run_none (with_item p x) (ended (r ∷ rest) e) refl)

  report_reads : (rs : List Record) (e : End) → IsReport record { header = h; records = rs; end = e }
      → Run start (report_lines record { header = h; records = rs; end = e }) (ended rs e)
  report_reads [] e is = run_append start open_header (ended [] e) (title_line ∷ header_lines h) (end_line h 0 e ∷ []) front_read (empty_read e is.ends)
  report_reads (r ∷ rest) e is =
      let first = first_read r.line r.modules r.maps r.claim (record_behind h [] r rest is.each) in
      let m = modules_count [] r in
      let f = maps_count [] r in
      let more = records_read (r ∷ []) rest (omega arith) is.few is.few_modules is.few_maps is.each in
      let more' : Run (between h ok (r ∷ []) [] []) (records_lines h (0 + length r.modules) (0 + length r.maps) (0 + 1) rest) (between h ok (r ∷ rest) [] []) =
      subst (λ k. Run (between h ok (r ∷ []) [] []) (records_lines h (0 + length r.modules) k 1 rest) (between h ok (r ∷ rest) [] [])) f
      (subst (λ k. Run (between h ok (r ∷ []) [] []) (records_lines h k (length (maps_of (r ∷ []))) 1 rest) (between h ok (r ∷ rest) [] [])) m more) in
      run_append start open_header (ended (r ∷ rest) e) (title_line ∷ header_lines h) (records_lines h 0 0 0 (r ∷ rest) ++ end_line h (length (r ∷ rest)) e ∷ []) front_read
      (run_append open_header (between h ok (r ∷ rest) [] []) (ended (r ∷ rest) e) (records_lines h 0 0 0 (r ∷ rest)) (end_line h (length (r ∷ rest)) e ∷ [])
      (run_append open_header (between h ok (r ∷ []) [] []) (between h ok (r ∷ rest) [] []) (record_lines h 0 0 0 r) (records_lines h (0 + length r.modules) (0 + length r.maps) (0 + 1) rest) first more')
      (full_ends r rest e is.few is.ends))

-- the lines of a report are read, and lead to it
pub record ReadsTo (r : Report) (xs : List (List ℕ)) : Type 0 where
  pub last : Part
  pub reads : Reads Step start xs last
  pub ends : last.place ≡ place.Ended
  pub report : report_of last ≡ r

-- the text of a report is read whole, and leads to it
pub text_reads : (text : List ℕ) (r : Report) → IsTextOf text r → ReadsTo r (lines text)
text_reads text r is =
    let run = report_reads r.header is.report_is.header r.records r.end is.report_is in
    subst (ReadsTo r) (sym (ap lines is.spelled ∙ lines_of_text (report_lines r) run.lacks)) record { last = _; reads = run.reads; ends = refl; report = refl }
