-- What holds of the records, modules and maps that have been read of a report, and their lines.
use Rattle.std.proofs.Common.{◌≡◌, ℕ, zero, suc, ◌+◌, ◌<◌, ◌^◌, List, [], ◌∷◌, ◌++◌, length, refl, sym, ap, ◌∙◌, subst, arith, append_assoc, append-nil, lit<}
use Rattle.std.specs.Prelude.{All, take}
use Rattle.std.proofs.lemmas.List.{length-append}
use Rattle.std.proofs.lemmas.List.Elements.{All-nil, All-push}
use Rattle.quiver_paths.proofs.ListLemmas.{length-pushed}
use Rattle.quiver_paths.specs.declared.Path.{Path}
use Rattle.path_algebra.specs.declared.Header.{Header}
use Rattle.path_algebra.specs.declared.rules.Rule.{Rule}
use Rattle.path_algebra.specs.declared.rules.Step.{Step}
use Rattle.path_algebra.specs.Allowed.{IsAllowed}
use Rattle.header_text.specs.Spelling.{header_lines}
use Rattle.module_types.specs.declared.Module.{Module}
use Rattle.module_types.specs.declared.Map.{Map}
use Rattle.object_lines.specs.Spelling.{module_line, map_line}
use Rattle.report_types.specs.declared.claims.Claim.{Claim}
use Rattle.report_types.specs.declared.claims.Claim.TheVariants as claim
use Rattle.report_types.specs.declared.claims.Record.{Record}
use Rattle.report_types.specs.declared.reports.End.{End}
use Rattle.report_types.specs.Limits.{IsLine}
use Rattle.report_types.specs.Numbers.{modules_of, maps_of, record_of}
use Rattle.report_types.specs.BasisBlocks.{IsBasisBlock}
use Rattle.report_types.specs.ClaimBlocks.{IsClaimBlock}
use Rattle.report_types.specs.Ends.{IsEnd}
use Rattle.report_types.specs.Lawful.{IsModuleBlock, IsMapBlock, HasItsPlace, MayBeRecord, IsReport}
use Rattle.claim_lines.specs.Items.{FitsEnd}
use Rattle.claim_lines.specs.Spelling.{title_line, claim_line, end_line}
use Rattle.claim_text.specs.Spelling.{at_arrows, at_vertices, module_lines, map_lines, head_of, claim_block, record_lines, records_lines, report_lines}
use Rattle.claim_text.proofs.ObjectLists.{map_block_same, same_modules, modules_count, maps_count, each_push}
use Rattle.claim_text.proofs.Reached.{Lines}

-- ---- lines of one more

pub module_lines-push : (h : Header) (k : ℕ) (ms : List Module) (m : Module) → module_lines h k (ms ++ m ∷ []) ≡ module_lines h k ms ++ (module_line (k + length ms + 1) m.side m.dims ∷ at_arrows h m.matrices)
module_lines-push h k [] m = append-nil (module_line (k + 1) m.side m.dims ∷ at_arrows h m.matrices) ∙ ap (λ n. module_line n m.side m.dims ∷ at_arrows h m.matrices) (omega arith)
module_lines-push h k (x ∷ ms) m =
    let one = module_line (k + 1) x.side x.dims ∷ at_arrows h x.matrices in
    ap (λ ls. one ++ ls) (module_lines-push h (k + 1) ms m ∙ ap (λ n. module_lines h (k + 1) ms ++ (module_line n m.side m.dims ∷ at_arrows h m.matrices)) (omega arith))
    ∙ sym (append_assoc one (module_lines h (k + 1) ms) (module_line (k + length (x ∷ ms) + 1) m.side m.dims ∷ at_arrows h m.matrices))

pub map_lines-push : (h : Header) (k : ℕ) (fs : List Map) (f : Map) → map_lines h k (fs ++ f ∷ []) ≡ map_lines h k fs ++ (map_line (k + length fs + 1) f.source f.target ∷ at_vertices h f.matrices)
map_lines-push h k [] f = append-nil (map_line (k + 1) f.source f.target ∷ at_vertices h f.matrices) ∙ ap (λ n. map_line n f.source f.target ∷ at_vertices h f.matrices) (omega arith)
map_lines-push h k (x ∷ fs) f =
    let one = map_line (k + 1) x.source x.target ∷ at_vertices h x.matrices in
    ap (λ ls. one ++ ls) (map_lines-push h (k + 1) fs f ∙ ap (λ n. map_lines h (k + 1) fs ++ (map_line n f.source f.target ∷ at_vertices h f.matrices)) (omega arith))
    ∙ sym (append_assoc one (map_lines h (k + 1) fs) (map_line (k + length (x ∷ fs) + 1) f.source f.target ∷ at_vertices h f.matrices))

records_lines-push : (h : Header) (M F K : ℕ) (rs : List Record) (r : Record)
    → records_lines h M F K (rs ++ r ∷ []) ≡ records_lines h M F K rs ++ record_lines h (M + length (modules_of rs)) (F + length (maps_of rs)) (K + length rs) r
records_lines-push h M F K [] r = append-nil (record_lines h M F K r) ∙ (λ i. record_lines h (plus M i) (plus F i) (plus K i) r)
  where
    plus : (n : ℕ) → n ≡ n + 0
    plus n = omega arith
records_lines-push h M F K (x ∷ rs) r =
    let one = record_lines h M F K x in
    let m : M + length x.modules + length (modules_of rs) ≡ M + length (modules_of (x ∷ rs)) = let e = length-append x.modules (modules_of rs) in omega (arith, e) in
    let f : F + length x.maps + length (maps_of rs) ≡ F + length (maps_of (x ∷ rs)) = let e = length-append x.maps (maps_of rs) in omega (arith, e) in
    let k : K + 1 + length rs ≡ K + length (x ∷ rs) = omega arith in
    let rest = records_lines h (M + length x.modules) (F + length x.maps) (K + 1) rs in
    ap (λ ls. one ++ ls) (records_lines-push h (M + length x.modules) (F + length x.maps) (K + 1) rs r ∙ (λ i. rest ++ record_lines h (m i) (f i) (k i) r))
    ∙ sym (append_assoc one rest (record_lines h (M + length (modules_of (x ∷ rs))) (F + length (maps_of (x ∷ rs))) (K + length (x ∷ rs)) r))

-- ---- what was read whole

-- the lines of whole records, and of the objects of the one that is being read
abbrev pub base_lines : Header → List Record → List Module → List Map → Lines
base_lines h rs ms fs = title_line ∷ (header_lines h ++ (records_lines h 0 0 0 rs ++ (module_lines h (length (modules_of rs)) ms ++ map_lines h (length (maps_of rs)) fs)))

-- the records up to one with these modules
abbrev pub with_modules : List Record → List Module → List Record
with_modules rs ms = rs ++ record { line = 0; modules = ms; maps = []; claim = claim.Module 0 } ∷ []

pub record Base (h : Header) (rs : List Record) (ms : List Module) (fs : List Map) : Type 0 where
  pub allowed : IsAllowed h
  pub some : 0 < length rs
  pub few : length rs < 2 ^ 32
  pub few_modules : length (modules_of rs) + length ms < 2 ^ 32
  pub few_maps : length (maps_of rs) + length fs < 2 ^ 32
  pub each : (k : ℕ) → MayBeRecord h (take k rs) (record_of rs k)
  pub modules : All (IsModuleBlock h) ms
  pub maps : All (IsMapBlock h (with_modules rs ms)) fs

pub record Between (h : Header) (rs : List Record) (ms : List Module) (fs : List Map) (ls : Lines) : Type 0 where
  pub base : Base h rs ms fs
  pub lines : ls ≡ base_lines h rs ms fs

-- one module more
pub sound_module : (h : Header) (rs : List Record) (ms : List Module) (fs : List Map) (m : Module) → Base h rs ms fs → fs ≡ [] → length (modules_of rs) + length ms + 1 < 2 ^ 32 → IsModuleBlock h m → Base h rs (ms ++ m ∷ []) fs
sound_module h rs ms fs m base none room is = record {
  allowed = base.allowed;
  some = base.some;
  few = base.few;
  few_modules = let long = length-pushed ms (ms ++ m ∷ []) m refl in omega (arith, room, long);
  few_maps = base.few_maps;
  each = base.each;
  modules = All-push (IsModuleBlock h) ms m base.modules is;
  maps = subst (All (IsMapBlock h (with_modules rs (ms ++ m ∷ [])))) (sym none) (All-nil (IsMapBlock h (with_modules rs (ms ++ m ∷ []))));
}

pub lines_module : (h : Header) (rs : List Record) (ms : List Module) (fs : List Map) (m : Module) (k : ℕ) → fs ≡ [] → k ≡ length (modules_of rs) + length ms + 1
    → (base_lines h rs ms fs ++ module_line k m.side m.dims ∷ []) ++ at_arrows h m.matrices ≡ base_lines h rs (ms ++ m ∷ []) fs
lines_module h rs ms fs m k none e =
    let M = length (modules_of rs) in
    let F = length (maps_of rs) in
    ap (λ l. (base_lines h rs ms l ++ module_line k m.side m.dims ∷ []) ++ at_arrows h m.matrices) none
    ∙ (ap (λ n. (base_lines h rs ms [] ++ module_line n m.side m.dims ∷ []) ++ at_arrows h m.matrices) e
    ∙ (joined (header_lines h) (records_lines h 0 0 0 rs) (module_lines h M ms) (module_line (M + length ms + 1) m.side m.dims) (at_arrows h m.matrices)
    ∙ (ap (λ l. title_line ∷ (header_lines h ++ (records_lines h 0 0 0 rs ++ (l ++ [])))) (sym (module_lines-push h M ms m))
    ∙ ap (λ l. base_lines h rs (ms ++ m ∷ []) l) (sym none))))
  where
    joined : (hs rs ms : Lines) (l : List (List ℕ)) (at : Lines) → ((title_line ∷ (hs ++ (rs ++ (ms ++ [])))) ++ l ∷ []) ++ at ≡ title_line ∷ (hs ++ (rs ++ ((ms ++ (l ∷ at)) ++ [])))
    joined hs rs ms l at = simp (append_assoc, append-nil)

-- one map more
pub sound_map : (h : Header) (rs : List Record) (ms : List Module) (fs : List Map) (f : Map) → Base h rs ms fs → length (maps_of rs) + length fs + 1 < 2 ^ 32 → IsMapBlock h (with_modules rs ms) f → Base h rs ms (fs ++ f ∷ [])
sound_map h rs ms fs f base room is = record {
  allowed = base.allowed;
  some = base.some;
  few = base.few;
  few_modules = base.few_modules;
  few_maps = let long = length-pushed fs (fs ++ f ∷ []) f refl in omega (arith, room, long);
  each = base.each;
  modules = base.modules;
  maps = All-push (IsMapBlock h (with_modules rs ms)) fs f base.maps is;
}

pub lines_map : (h : Header) (rs : List Record) (ms : List Module) (fs : List Map) (f : Map) (k : ℕ) → k ≡ length (maps_of rs) + length fs + 1
    → (base_lines h rs ms fs ++ map_line k f.source f.target ∷ []) ++ at_vertices h f.matrices ≡ base_lines h rs ms (fs ++ f ∷ [])
lines_map h rs ms fs f k e =
    let M = length (modules_of rs) in
    let F = length (maps_of rs) in
    ap (λ n. (base_lines h rs ms fs ++ map_line n f.source f.target ∷ []) ++ at_vertices h f.matrices) e
    ∙ (joined (header_lines h) (records_lines h 0 0 0 rs) (module_lines h M ms) (map_lines h F fs) (map_line (F + length fs + 1) f.source f.target) (at_vertices h f.matrices)
    ∙ ap (λ l. title_line ∷ (header_lines h ++ (records_lines h 0 0 0 rs ++ (module_lines h M ms ++ l)))) (sym (map_lines-push h F fs f)))
  where
    joined : (hs rs ms fs : Lines) (l : List (List ℕ)) (at : Lines) → ((title_line ∷ (hs ++ (rs ++ (ms ++ fs)))) ++ l ∷ []) ++ at ≡ title_line ∷ (hs ++ (rs ++ (ms ++ (fs ++ (l ∷ at)))))
    joined hs rs ms fs l at = simp append_assoc

-- ---- one claim more

module _ (h : Header) (rs : List Record) (ms : List Module) (fs : List Map) (line : ℕ) (c : Claim) where
  abbrev pub claimed_record : Record
  claimed_record = record { line = line; modules = ms; maps = fs; claim = c }

  pub sound_claim : Base h rs ms fs → length rs + 1 < 2 ^ 32 → IsLine line → HasItsPlace (rs ++ claimed_record ∷ []) claimed_record c → IsClaimBlock h (rs ++ claimed_record ∷ []) c → Base h (rs ++ claimed_record ∷ []) [] []
  sound_claim base room is place block =
      let r = claimed_record in
      let long = length-pushed rs (rs ++ r ∷ []) r refl in
      record {
        allowed = base.allowed;
        some = omega (arith, long);
        few = omega (arith, long, room);
        few_modules = let m = modules_count rs r in let few = base.few_modules in omega (arith, m, few);
        few_maps = let f = maps_count rs r in let few = base.few_maps in omega (arith, f, few);
        each = each_push h rs r base.each record {
          line = is;
          modules = base.modules;
          maps = λ i d l. map_block_same h (with_modules rs ms) (rs ++ r ∷ []) _ (same_modules rs record { line = 0; modules = ms; maps = []; claim = claim.Module 0 } r refl) (base.maps i d l);
          place = place;
          claim = block;
        };
        modules = All-nil (IsModuleBlock h);
        maps = All-nil (IsMapBlock h (with_modules (rs ++ r ∷ []) []));
      }

  pub lines_claim : (k : ℕ) → k ≡ length rs + 1 → base_lines h rs ms fs ++ (claim_line k line (head_of c) ∷ claim_block h c) ≡ base_lines h (rs ++ claimed_record ∷ []) [] []
  lines_claim k e =
      let M = length (modules_of rs) in
      let F = length (maps_of rs) in
      let K = length rs in
      let body = claim_line (K + 1) line (head_of c) ∷ claim_block h c in
      ap (λ n. base_lines h rs ms fs ++ (claim_line n line (head_of c) ∷ claim_block h c)) e
      ∙ (joined (header_lines h) (records_lines h 0 0 0 rs) (module_lines h M ms) (map_lines h F fs) body
      ∙ ap (λ l. title_line ∷ (header_lines h ++ (l ++ ([] ++ []))))
      ((λ i. records_lines h 0 0 0 rs ++ record_lines h (nought M i) (nought F i) (nought K i) claimed_record) ∙ sym (records_lines-push h 0 0 0 rs claimed_record)))
    where
      nought : (n : ℕ) → n ≡ 0 + n
      nought n = omega arith

      joined : (hs rs ms fs body : Lines) → (title_line ∷ (hs ++ (rs ++ (ms ++ fs)))) ++ body ≡ title_line ∷ (hs ++ ((rs ++ (ms ++ (fs ++ body))) ++ ([] ++ [])))
      joined hs rs ms fs body = simp (append_assoc, append-nil)

-- ---- the basis

pub none_each : (h : Header) (k : ℕ) → MayBeRecord h (take k []) (record_of [] k)
none_each h zero = tt
none_each h (suc i) = tt

pub sound_basis : (h : Header) (line : ℕ) (words : List Path) (steps : List Step) (rules : List Rule) → IsAllowed h → IsLine line → IsBasisBlock h words steps rules
    → Base h (record { line = line; modules = []; maps = []; claim = claim.Basis words steps rules } ∷ []) [] []
sound_basis h line words steps rules ok is block =
    let r : Record = record { line = line; modules = []; maps = []; claim = claim.Basis words steps rules } in
    record {
      allowed = ok;
      some = omega arith;
      few = lit< tt;
      few_modules = lit< tt;
      few_maps = lit< tt;
      each = each_push h [] r (none_each h) record {
        line = is;
        modules = All-nil (IsModuleBlock h);
        maps = All-nil (IsMapBlock h (r ∷ []));
        place = (refl, refl, refl);
        claim = block;
      };
      modules = All-nil (IsModuleBlock h);
      maps = All-nil (IsMapBlock h (with_modules (r ∷ []) []));
    }

-- ---- the end

full_end : (h : Header) (rs : List Record) (e : End) → 0 < length rs → FitsEnd h (length rs) e → IsEnd h rs e
full_end h [] e some fits = absurd (omega (arith, some))
full_end h (r ∷ rest) e some fits = fits

pub sound_end : (h : Header) (rs : List Record) (e : End) → Base h rs [] [] → FitsEnd h (length rs) e → IsReport record { header = h; records = rs; end = e }
sound_end h rs e base fits = record {
  header = base.allowed;
  few = base.few;
  few_modules = let few = base.few_modules in omega (arith, few);
  few_maps = let few = base.few_maps in omega (arith, few);
  each = base.each;
  ends = full_end h rs e base.some fits;
}

pub lines_end : (h : Header) (rs : List Record) (e : End) → base_lines h rs [] [] ++ end_line h (length rs) e ∷ [] ≡ report_lines record { header = h; records = rs; end = e }
lines_end h rs e = joined (header_lines h) (records_lines h 0 0 0 rs) (end_line h (length rs) e)
  where
    joined : (hs rs : Lines) (l : List (List ℕ)) → (title_line ∷ (hs ++ (rs ++ ([] ++ [])))) ++ l ∷ [] ≡ title_line ∷ (hs ++ (rs ++ l ∷ []))
    joined hs rs l = simp (append_assoc, append-nil)
