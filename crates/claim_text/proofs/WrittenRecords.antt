-- Lines of records, written one by one. Records of a report can be written.
use Rattle.std.proofs.Common.{◌≡◌, ℕ, ◌+◌, ◌<◌, ◌≤◌, zero, suc, List, [], ◌∷◌, ◌++◌, take, length, get_or, Some, refl, sym, ap, ◌∙◌, subst, append_assoc, append-nil, arith, length-append}
use Rattle.std.specs.Prelude.{All, slice_get}
use Rattle.std.proofs.lemmas.List.{take_more, length-take-le, get_or_default}
use Rattle.std.proofs.lemmas.List.Elements.{All-nil, All-cons, All-weaker, All-get_or}
use Rattle.text_lines.specs.Strict.{strict_line}
use Rattle.path_algebra.specs.declared.Header.{Header}
use Rattle.path_algebra.specs.Allowed.{IsAllowed}
use Rattle.module_types.specs.declared.Map.{Map}
use Rattle.module_types.specs.declared.Module.{Module}
use Rattle.module_types.specs.declared.Side.{Side}
use Rattle.module_types.specs.declared.Side.TheVariants.{Right, Left}
use Rattle.module_types.specs.Algebras.{algebra_at}
use Rattle.quiver_paths.specs.Quiver.{arrow_count}
use Rattle.report_types.specs.declared.claims.Claim.{Claim}
use Rattle.report_types.specs.declared.claims.Claim.TheVariants as claim
use Rattle.report_types.specs.declared.claims.Record.{Record}
use Rattle.report_types.specs.declared.claims.Translation.TheVariants.{Tau, Transpose, Taui}
use Rattle.report_types.specs.declared.reports.Report.{Report}
use Rattle.report_types.specs.ClaimBlocks.{IsClaimBlock}
use Rattle.report_types.specs.Lawful.{IsModuleBlock, IsMapBlock, IsRecord, MayBeRecord, IsReport}
use Rattle.report_types.specs.Numbers.{modules_of, maps_of}
use Rattle.header_text.specs.Spelling.{header_lines, text_of}
use Rattle.header_text.proofs.Joining.{text_of-append, line_step}
use Rattle.claim_lines.specs.Spelling.{title_line, end_line}
use Rattle.claim_text.specs.Spelling.{record_lines, records_lines, record_text, front_text, report_text, text_behind}
use Rattle.claim_text.specs.Writable.{IsShortModule, IsShortMap, IsShortClaim, IsWritable}

-- ---- lines

-- behind the same numbers a record has the same lines
pub same_counts : (h : Header) (r : Record) (m n c m' n' c' : ℕ) → m ≡ m' → n ≡ n' → c ≡ c' → record_lines h m n c r ≡ record_lines h m' n' c' r
same_counts h r m n c m' n' c' e f g = ap (λ x. record_lines h x n c r) e ∙ (ap (λ x. record_lines h m' x c r) f ∙ ap (λ x. record_lines h m' n' x r) g)

records_lines-push : (h : Header) (m n c : ℕ) (rs : List Record) (r : Record)
    → records_lines h m n c (rs ++ r ∷ []) ≡ records_lines h m n c rs ++ record_lines h (m + length (modules_of rs)) (n + length (maps_of rs)) (c + length rs) r
records_lines-push h m n c [] r = append-nil (record_lines h m n c r) ∙ same_counts h r m n c (m + 0) (n + 0) (c + 0) (omega arith) (omega arith) (omega arith)
records_lines-push h m n c (x ∷ rs) r =
    let m' = m + length x.modules in
    let n' = n + length x.maps in
    let lm = length-append x.modules (modules_of rs) in
    let ln = length-append x.maps (maps_of rs) in
    let rest = records_lines h m' n' (c + 1) rs in
    ap (λ ls. record_lines h m n c x ++ ls) (records_lines-push h m' n' (c + 1) rs r
    ∙ ap (λ ls. rest ++ ls) (same_counts h r (m' + length (modules_of rs)) (n' + length (maps_of rs)) (c + 1 + length rs) (m + length (modules_of (x ∷ rs))) (n + length (maps_of (x ∷ rs))) (c + length (x ∷ rs))
    (omega (arith, lm)) (omega (arith, ln)) (omega arith)))
    ∙ sym (append_assoc (record_lines h m n c x) rest (record_lines h (m + length (modules_of (x ∷ rs))) (n + length (maps_of (x ∷ rs))) (c + length (x ∷ rs)) r))

-- the lines of the first i records and of one more
pub records_take : (h : Header) (rs : List Record) (i : ℕ) (d : Record) → i < length rs
    → text_of (records_lines h 0 0 0 (take (i + 1) rs)) ≡ text_of (records_lines h 0 0 0 (take i rs)) ++ record_text h (length (modules_of (take i rs))) (length (maps_of (take i rs))) i (get_or rs i d)
records_take h rs i d l =
    let before = take i rs in
    let r = get_or rs i d in
    let size : length before ≡ i = length-take-le i rs (omega (arith, l)) in
    ap (λ x. text_of (records_lines h 0 0 0 x)) (take_more rs i d l)
    ∙ (ap text_of (records_lines-push h 0 0 0 before r)
    ∙ (text_of-append (records_lines h 0 0 0 before) (record_lines h (0 + length (modules_of before)) (0 + length (maps_of before)) (0 + length before) r)
    ∙ ap (λ x. text_of (records_lines h 0 0 0 before) ++ text_of x)
    (same_counts h r (0 + length (modules_of before)) (0 + length (maps_of before)) (0 + length before) (length (modules_of before)) (length (maps_of before)) i (omega arith) (omega arith) (omega (arith, size)))))

pub report_text-pieces : (r : Report) → report_text r ≡ (front_text r ++ text_of (records_lines r.header 0 0 0 r.records)) ++ strict_line (end_line r.header (length r.records) r.end)
report_text-pieces r =
    let front = title_line ∷ header_lines r.header in
    let records = records_lines r.header 0 0 0 r.records in
    let last = end_line r.header (length r.records) r.end in
    text_of-append front (records ++ last ∷ [])
    ∙ (ap (λ x. text_of front ++ x) (text_of-append records (last ∷ []) ∙ ap (λ x. text_of records ++ x) (append-nil (strict_line last)))
    ∙ sym (append_assoc (text_of front) (text_of records) (strict_line last)))

-- ---- numbers

modules_of-push : (rs : List Record) (r : Record) → length (modules_of (rs ++ r ∷ [])) ≡ length (modules_of rs) + length r.modules
modules_of-push [] r = let a = length-append r.modules [] in omega (arith, a)
modules_of-push (x ∷ rs) r =
    let a = length-append x.modules (modules_of (rs ++ r ∷ [])) in
    let b = length-append x.modules (modules_of rs) in
    let c = modules_of-push rs r in
    omega (arith, a, b, c)

maps_of-push : (rs : List Record) (r : Record) → length (maps_of (rs ++ r ∷ [])) ≡ length (maps_of rs) + length r.maps
maps_of-push [] r = let a = length-append r.maps [] in omega (arith, a)
maps_of-push (x ∷ rs) r =
    let a = length-append x.maps (maps_of (rs ++ r ∷ [])) in
    let b = length-append x.maps (maps_of rs) in
    let c = maps_of-push rs r in
    omega (arith, a, b, c)

-- the modules and the maps of the first i records and of one more
pub modules_take : (rs : List Record) (i : ℕ) (d : Record) → i < length rs → length (modules_of (take (i + 1) rs)) ≡ length (modules_of (take i rs)) + length (get_or rs i d).modules
modules_take rs i d l = ap (λ x. length (modules_of x)) (take_more rs i d l) ∙ modules_of-push (take i rs) (get_or rs i d)

pub maps_take : (rs : List Record) (i : ℕ) (d : Record) → i < length rs → length (maps_of (take (i + 1) rs)) ≡ length (maps_of (take i rs)) + length (get_or rs i d).maps
maps_take rs i d l = ap (λ x. length (maps_of x)) (take_more rs i d l) ∙ maps_of-push (take i rs) (get_or rs i d)

-- the first records have at most the modules and the maps of all
pub modules_front : (k : ℕ) (rs : List Record) → length (modules_of (take k rs)) ≤ length (modules_of rs)
modules_front zero rs = omega arith
modules_front (suc k) [] = omega arith
modules_front (suc k) (r ∷ rs) =
    let a = length-append r.modules (modules_of (take k rs)) in
    let b = length-append r.modules (modules_of rs) in
    let c = modules_front k rs in
    omega (arith, a, b, c)

pub maps_front : (k : ℕ) (rs : List Record) → length (maps_of (take k rs)) ≤ length (maps_of rs)
maps_front zero rs = omega arith
maps_front (suc k) [] = omega arith
maps_front (suc k) (r ∷ rs) =
    let a = length-append r.maps (maps_of (take k rs)) in
    let b = length-append r.maps (maps_of rs) in
    let c = maps_front k rs in
    omega (arith, a, b, c)

-- those of one record fit behind those of the records before it
pub modules_fit : (rs : List Record) (i most : ℕ) (d : Record) → i < length rs → length (modules_of rs) < most → length (modules_of (take i rs)) + length (get_or rs i d).modules < most
modules_fit rs i most d l few = let a = modules_take rs i d l in let b = modules_front (i + 1) rs in omega (arith, a, b, few)

pub maps_fit : (rs : List Record) (i most : ℕ) (d : Record) → i < length rs → length (maps_of rs) < most → length (maps_of (take i rs)) + length (get_or rs i d).maps < most
maps_fit rs i most d l few = let a = maps_take rs i d l in let b = maps_front (i + 1) rs in omega (arith, a, b, few)

-- ---- what a report has can be written

short_module : (h : Header) → IsAllowed h → (m : Module) → IsModuleBlock h m → IsShortModule m
short_module h allowed m is =
    let counted : length m.matrices ≡ arrow_count h.quiver = is.matrices.counted ∙ sided_arrows h m.side in
    let few = allowed.quiver.arrows_limit in
    omega (arith, counted, few)
  where
    sided_arrows : (h : Header) (s : Side) → (algebra_at s h).quiver.arrows ≡ arrow_count h.quiver
    sided_arrows h Right = refl
    sided_arrows h Left = refl

short_map : (h : Header) → IsAllowed h → (rs : List Record) (f : Map) → IsMapBlock h rs f → IsShortMap f
short_map h allowed rs f is =
    let counted = is.matrices.counted in
    let few = allowed.quiver.vertices_limit in
    omega (arith, counted, few)

short_claim : (h : Header) → IsAllowed h → (rs : List Record) (c : Claim) → IsClaimBlock h rs c → IsShortClaim c
short_claim h allowed rs (claim.Basis words steps rules) is = tt
short_claim h allowed rs (claim.Module m) is = tt
short_claim h allowed rs (claim.Map f) is = tt
short_claim h allowed rs (claim.Hom a b rows) is = tt
short_claim h allowed rs (claim.Kernel n f i) is = tt
short_claim h allowed rs (claim.Cokernel n f p) is = tt
short_claim h allowed rs (claim.Radical n a i) is = tt
short_claim h allowed rs (claim.Resolution a n terms) is = let counted = is.counted in let short = is.short in omega (arith, counted, short)
short_claim h allowed rs (claim.Ext n a b rows c) is = tt
short_claim h allowed rs (claim.Local m c ideal power residue) is = tt
short_claim h allowed rs (claim.Decomposition a s f g parts) is = tt
short_claim h allowed rs (claim.Translate Tau n a c rows) is = let counted = is.shape.counted in let few = allowed.quiver.vertices_limit in omega (arith, counted, few)
short_claim h allowed rs (claim.Translate Transpose n a c rows) is = let counted = is.shape.counted in let few = allowed.quiver.vertices_limit in omega (arith, counted, few)
short_claim h allowed rs (claim.Translate (Taui b) n a c rows) is = let counted = is.shape.1.counted in let few = allowed.quiver.vertices_limit in omega (arith, counted, few)
short_claim h allowed rs (claim.AlmostSplit n e a f g c l phi left middle) is =
    let few = allowed.quiver.vertices_limit in
    let first = is.left_shape.counted in
    let second = is.middle_shape.counted in
    (omega (arith, first, few), omega (arith, second, few))

pub writable_record : (h : Header) → IsAllowed h → (rs : List Record) (r : Record) → IsRecord h rs r → IsWritable r
writable_record h allowed rs r is = record {
  modules = All-weaker (IsModuleBlock h) IsShortModule (short_module h allowed) r.modules is.modules;
  maps = All-weaker (IsMapBlock h rs) IsShortMap (short_map h allowed rs) r.maps is.maps;
  claim = short_claim h allowed rs r.claim is.claim;
}

all_there : {X : Type 0} (P : X → Type 0) (xs : List X) → ((i : ℕ) (x : X) → slice_get xs i ≡ Some x → P x) → All P xs
all_there P [] f = All-nil P
all_there P (x ∷ xs) f = All-cons P x xs (f zero x refl) (all_there P xs (λ i y e. f (suc i) y e))

pub all_writable : (r : Report) → IsReport r → All IsWritable r.records
all_writable r is = all_there IsWritable r.records (λ i x e. writable_record r.header is.header (take (suc i) r.records) x (subst (MayBeRecord r.header (take (suc i) r.records)) e (is.each (suc i))))

pub writable_at : (r : Report) (i : ℕ) (d : Record) → i < length r.records → IsReport r → IsWritable (get_or r.records i d)
writable_at r i d l is = All-get_or IsWritable r.records i d l (all_writable r is)

-- ---- one record more

pub record_pushed : (h : Header) (rs : List Record) (i m n k : ℕ) (r : Record) (base old new : List ℕ)
    → i < length rs → r ≡ get_or rs i r → m ≡ length (modules_of (take i rs)) → n ≡ length (maps_of (take i rs)) → k ≡ i
    → old ≡ base ++ text_of (records_lines h 0 0 0 (take i rs)) → new ≡ old ++ record_text h m n k r → new ≡ base ++ text_of (records_lines h 0 0 0 (take (i + 1) rs))
record_pushed h rs i m n k r base old new inside item e f g before pushed =
    let counted = same_counts h r m n k (length (modules_of (take i rs))) (length (maps_of (take i rs))) i e f g in
    let there = ap (λ x. old ++ record_text h (length (modules_of (take i rs))) (length (maps_of (take i rs))) i x) item in
    line_step base old new (text_of (records_lines h 0 0 0 (take i rs))) (record_text h (length (modules_of (take i rs))) (length (maps_of (take i rs))) i (get_or rs i r))
    (text_of (records_lines h 0 0 0 (take (i + 1) rs))) before (pushed ∙ (ap (λ x. old ++ text_of x) counted ∙ there)) (records_take h rs i r inside)

-- the text of record i alone
pub record_written : (h : Header) (rs xs : List Record) (i m n k : ℕ) (item r : Record) (old new : List ℕ)
    → xs ≡ rs → i < length rs → item ≡ get_or xs i item → m ≡ length (modules_of (take i xs)) → n ≡ length (maps_of (take i xs)) → k ≡ i
    → old ≡ [] → new ≡ old ++ record_text h m n k item → new ≡ text_behind h (take i rs) (get_or rs i r)
record_written h rs xs i m n k item r old new e inside item_is m_is n_is k_is empty written =
    let before = take i rs in
    let m_there : m ≡ length (modules_of before) = m_is ∙ ap (λ x. length (modules_of (take i x))) e in
    let n_there : n ≡ length (maps_of before) = n_is ∙ ap (λ x. length (maps_of (take i x))) e in
    let size : length before ≡ i = length-take-le i rs (omega (arith, inside)) in
    let k_there : k ≡ length before = k_is ∙ sym size in
    let there : item ≡ get_or rs i r = item_is ∙ (ap (λ x. get_or x i item) e ∙ get_or_default rs i item r inside) in
    written ∙ (ap (λ o. o ++ record_text h m n k item) empty
    ∙ (ap text_of (same_counts h item m n k (length (modules_of before)) (length (maps_of before)) (length before) m_there n_there k_there) ∙ ap (λ x. text_behind h before x) there))
