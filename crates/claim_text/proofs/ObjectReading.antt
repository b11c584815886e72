-- The objects of a report that is being read: by number, and the sizes of their matrices.
use Rattle.std.proofs.Common.{◌≡◌, ◌≢◌, ℕ, zero, suc, ◌+◌, ◌*◌, ◌-◌, ◌<◌, ◌≤◌, List, [], ◌∷◌, ◌++◌, length, get_or, cond, inl, inr, refl, sym, ap, ◌∙◌, subst, arith, append_assoc, append-nil}
use Rattle.std.proofs.lemmas.Bool.Decides.{eqb_tells}
use Rattle.quiver_paths.proofs.ListLemmas.{length-pushed}
use Rattle.linear_algebra.specs.Field.{Gf}
use Rattle.fp_linear.specs.Matrix.{PlainMatrix}
use Rattle.path_algebra.specs.declared.Header.{Header}
use Rattle.bound_algebra.specs.TypedPaths.{quiver_of}
use Rattle.module_types.specs.declared.Module.{Module}
use Rattle.module_types.specs.declared.Side.{Side}
use Rattle.module_types.specs.declared.Side.TheVariants.{Right, Left}
use Rattle.module_types.specs.Algebras.{algebra_at}
use Rattle.module_types.specs.Readings.{dim_at, dim_past}
use Rattle.report_types.specs.declared.claims.Record.{Record}
use Rattle.report_types.specs.Numbers.{modules_of, maps_of, module_of, numbered, no_module, NamesModule}
use Rattle.claim_text.specs.declared.part.Owner.{Owner}
use Rattle.claim_text.specs.declared.part.Owner.TheVariants as owner
use Rattle.claim_text.specs.declared.part.Part.{Part}
use Rattle.claim_text.specs.Matrices.{empty_matrix, empties, filled}
use Rattle.claim_text.specs.Part.{here, unclaimed, count_of, name_of, rows_of, columns_of, with_matrix}
use Rattle.claim_text.specs.Steps.{Takes, FitsMatrix}
use Rattle.claim_text.proofs.OtherLines.{one_matrix}
use Rattle.claim_text.proofs.TakenLines.{takes}
use Rattle.header_text.specs.Reading.{Reads}
use Rattle.object_lines.specs.Spelling.{at_line}
use Rattle.module_types.specs.Shapes.{HasShape}
use Rattle.std.proofs.Math.Nat.{mul-zero, zero-mul}
use Rattle.std.proofs.Common.{Some}
use Rattle.claim_text.specs.Filling.{with_empties, Filling}
pub use Rattle.claim_blocks.proofs.SumReading.{dim_inside, dim_short}
use Rattle.claim_blocks.proofs.Numbered.{numbered_left, numbered_past, numbered_right}
use Rattle.claim_text.proofs.ObjectLists.{modules_push, modules_count, maps_count}

-- ---- dimensions

dim_sided : (h : Header) (side : Side) (dims : List ℕ) (v : ℕ) → dim_at (quiver_of h.quiver) dims v ≡ dim_at (algebra_at side h).quiver dims v
unfolding dim_at
dim_sided h Right dims v = refl
dim_sided h Left dims v = refl

pub module_dim : (h : Header) (side : Side) (dims : List ℕ) (v s r : ℕ) → s ≡ v → r ≡ dim_at (quiver_of h.quiver) dims s → r ≡ dim_at (algebra_at side h).quiver dims v
module_dim h side dims v s r e f = f ∙ (dim_sided h side dims s ∙ ap (dim_at (algebra_at side h).quiver dims) e)

-- the rows and the columns of a module's matrix
pub module_rows : (h k : Header) (ds es : List ℕ) (records : List Record) (o : Owner) (side : Side) (i s r : ℕ) → o ≡ owner.Module side → h ≡ k → ds ≡ es → s ≡ (algebra_at side h).quiver.source i
    → r ≡ dim_at (quiver_of h.quiver) ds s → r ≡ rows_of k es records o i
module_rows h k ds es records o side i s r eo eh ed at er =
    subst (λ x. r ≡ rows_of k es records x i) (sym eo) (subst (λ x. r ≡ dim_at (algebra_at side k).quiver x ((algebra_at side k).quiver.source i)) ed
    (subst (λ x. r ≡ dim_at (algebra_at side x).quiver ds ((algebra_at side x).quiver.source i)) eh (module_dim h side ds ((algebra_at side h).quiver.source i) s r at er)))

pub module_columns : (h k : Header) (ds es : List ℕ) (records : List Record) (o : Owner) (side : Side) (i s r : ℕ) → o ≡ owner.Module side → h ≡ k → ds ≡ es → s ≡ (algebra_at side h).quiver.target i
    → r ≡ dim_at (quiver_of h.quiver) ds s → r ≡ columns_of k es records o i
module_columns h k ds es records o side i s r eo eh ed at er =
    subst (λ x. r ≡ columns_of k es records x i) (sym eo) (subst (λ x. r ≡ dim_at (algebra_at side k).quiver x ((algebra_at side k).quiver.target i)) ed
    (subst (λ x. r ≡ dim_at (algebra_at side x).quiver ds ((algebra_at side x).quiver.target i)) eh (module_dim h side ds ((algebra_at side h).quiver.target i) s r at er)))

-- past the last matrix there are no rows
rows_past : (h : Header) (dims : List ℕ) (records : List Record) (o : Owner) (i : ℕ) → count_of h o ≤ i → rows_of h dims records o i ≡ 0
rows_past h dims records (owner.Module Right) i l = let Q = (algebra_at Right h).quiver in dim_past Q dims (Q.source i) (Q.source_past i l)
rows_past h dims records (owner.Module Left) i l = let Q = (algebra_at Left h).quiver in dim_past Q dims (Q.source i) (Q.source_past i l)
rows_past h dims records (owner.Map s t) i l = dim_past (quiver_of h.quiver) (module_of records s).dims i l

pub no_more : (p : Part) (o : Owner) (tokens : List (List ℕ)) → count_of p.front.header o ≤ length p.matrices
    → (next : Part) → Takes (FitsMatrix p o) (at_line (name_of p.front.header.quiver o (length p.matrices))) (with_matrix p o) tokens next → ⊥
no_more p o tokens l next t =
    t.fits.entries (ap (λ k. k * t.item.col_count) (t.fits.shape.row_count ∙ rows_past p.front.header p.dims (here p) o (length p.matrices) l) ∙ zero-mul t.item.col_count)

pub product_some : (m n : ℕ) → m ≢ 0 → n ≢ 0 → m * n ≢ 0
product_some zero n a b e = a refl
product_some (suc m) zero a b e = b refl
product_some (suc m) (suc n) a b e = absurd (omega (arith, e))

pub takes_matrix : (p : Part) (o : Owner) (i : ℕ) (m : PlainMatrix) (tokens : List (List ℕ)) (next : Part) → i ≡ length p.matrices
    → Reads (HasShape p.front.header.field (rows_of p.front.header p.dims (here p) o i) (columns_of p.front.header p.dims (here p) o i)) (at_line (name_of p.front.header.quiver o i)) tokens (Some m)
    → m.row_count ≢ 0 → m.col_count ≢ 0 → next ≡ with_matrix p o m
    → Takes (FitsMatrix p o) (at_line (name_of p.front.header.quiver o (length p.matrices))) (with_matrix p o) tokens next
takes_matrix p o i m tokens next is reads rows columns leads =
    let h = p.front.header in
    let n = length p.matrices in
    let known : Reads (HasShape h.field (rows_of h p.dims (here p) o n) (columns_of h p.dims (here p) o n)) (at_line (name_of h.quiver o n)) tokens (Some m) =
    subst (λ k. Reads (HasShape h.field (rows_of h p.dims (here p) o k) (columns_of h p.dims (here p) o k)) (at_line (name_of h.quiver o k)) tokens (Some m)) is reads in
    takes (FitsMatrix p o) (at_line (name_of h.quiver o n)) (with_matrix p o) tokens m next (record { shape = known.0; entries = product_some m.row_count m.col_count rows columns }, known.1) (one_matrix p o) leads

pub none_left : (m n : ℕ) → m ≡ 0 → m * n ≡ 0
none_left m n e = ap (λ k. k * n) e ∙ zero-mul n

pub none_right : (m n : ℕ) → n ≡ 0 → m * n ≡ 0
none_right m n e = ap (λ k. m * k) e ∙ mul-zero m

-- ---- modules by number

modules_here : (p : Part) → modules_of (here p) ≡ modules_of p.records ++ p.modules
modules_here p = modules_push p.records (unclaimed p)

pub module_before : (p : Part) (n : ℕ) (m : Module) → NamesModule p.records n → m ≡ module_of p.records n → m ≡ module_of (here p) n
module_before p n m is e = e ∙ (numbered_left no_module (modules_of p.records) p.modules n is ∙ ap (λ ms. numbered no_module ms n) (sym (modules_here p)))

pub module_zero : (p : Part) (n : ℕ) → (NamesModule p.records n → ⊥) → n ≤ length (modules_of p.records) → no_module ≡ module_of (here p) n
module_zero p zero not l = refl
module_zero p (suc i) not l = absurd (not record { from = omega arith; to = l })

pub module_past : (p : Part) (n : ℕ) → length (modules_of p.records) + length p.modules < n → no_module ≡ module_of (here p) n
module_past p n l = numbered_past no_module (modules_of (here p)) n (let e = modules_count p.records (unclaimed p) in omega (arith, l, e))

pub module_here : (p : Part) (n : ℕ) (m e : Module) (j : ℕ) → n ≡ suc (length (modules_of p.records) + j) → j < length p.modules → m ≡ get_or p.modules j e → m ≡ module_of (here p) n
module_here p n m e j is l at = at ∙ (numbered_right no_module e (modules_of p.records) p.modules n j is l ∙ ap (λ ms. numbered no_module ms n) (sym (modules_here p)))

pub modules_counted : (p : Part) → length (modules_of (here p)) ≡ length (modules_of p.records) + length p.modules
modules_counted p = modules_count p.records (unclaimed p)

pub maps_counted : (p : Part) → length (maps_of (here p)) ≡ length (maps_of p.records) + length p.maps
maps_counted p = maps_count p.records (unclaimed p)

-- ---- matrices without entries

module _ (q : Gf) (rows columns : ℕ → ℕ) where
  pub filled_push : (count : ℕ) (ms : List PlainMatrix) → length ms < count → rows (length ms) * columns (length ms) ≡ 0
      → filled q rows columns count (ms ++ empty_matrix q (rows (length ms)) (columns (length ms)) ∷ []) ≡ filled q rows columns count ms
  filled_push count ms l e =
      let i = length ms in
      let E = empty_matrix q (rows i) (columns i) in
      let long : length (ms ++ E ∷ []) ≡ i + 1 = length-pushed ms (ms ++ E ∷ []) E refl in
      let less : count - i ≡ suc (count - (i + 1)) = omega (arith, l) in
      elim (eqb_tells (rows i * columns i) 0) [
        | inl here ↦
            append_assoc ms (E ∷ []) (empties q rows columns (count - length (ms ++ E ∷ [])) (length (ms ++ E ∷ [])))
            ∙ (ap (λ k. ms ++ E ∷ empties q rows columns (count - k) k) long
            ∙ (ap (λ b. ms ++ cond b (E ∷ empties q rows columns (count - (i + 1)) (i + 1)) []) (sym here.0)
            ∙ ap (λ n. ms ++ empties q rows columns n i) (sym less)))
        | inr other ↦ absurd (other.1 e)
      ]

  stops : (n : ℕ) (i : ℕ) → rows i * columns i ≢ 0 → [] ≡ empties q rows columns n i
  stops zero i some = refl
  stops (suc n) i some = elim (eqb_tells (rows i * columns i) 0) [
    | inl here ↦ absurd (some here.1)
    | inr other ↦ ap (λ b. cond b (empty_matrix q (rows i) (columns i) ∷ empties q rows columns n (i + 1)) []) (sym other.0)
  ]

  pub filled_stop : (count : ℕ) (ms : List PlainMatrix) → rows (length ms) * columns (length ms) ≢ 0 → ms ≡ filled q rows columns count ms
  filled_stop count ms some = sym (append-nil ms) ∙ ap (λ l. ms ++ l) (stops (count - length ms) (length ms) some)

  pub filled_whole : (count : ℕ) (ms : List PlainMatrix) → count ≤ length ms → ms ≡ filled q rows columns count ms
  filled_whole count ms l = sym (append-nil ms) ∙ ap (λ n. ms ++ empties q rows columns n (length ms)) (let e : 0 ≡ count - length ms = omega (arith, l) in e)

-- the matrix that is next has no entries, and is added
pub added_one : (p : Part) (o : Owner) (ms : List PlainMatrix) (m : PlainMatrix) (h : Header) (i r c : ℕ) → length p.matrices < count_of p.front.header o → i ≡ length p.matrices
    → r ≡ rows_of p.front.header p.dims (here p) o i → c ≡ columns_of p.front.header p.dims (here p) o i → r * c ≡ 0
    → h ≡ p.front.header → m ≡ empty_matrix h.field r c → ms ≡ p.matrices ++ m ∷ []
    → Filling o p (record p { matrices = ms }) (length p.matrices + 1) (count_of p.front.header o)
added_one p o ms m g at r c l is ser sec none same em' e = record {
  same =
      let h = p.front.header in
      let R = rows_of h p.dims (here p) o in
      let C = columns_of h p.dims (here p) o in
      let i = length p.matrices in
      let er = ser ∙ ap R is in
      let ec = sec ∙ ap C is in
      let em = em' ∙ ap (λ (x : Header). empty_matrix x.field r c) same in
      let E = empty_matrix h.field (R i) (C i) in
      let all : ms ≡ p.matrices ++ E ∷ [] = e ∙ ap (λ x. p.matrices ++ x ∷ []) (em ∙ (ap (λ k. empty_matrix h.field k c) er ∙ ap (empty_matrix h.field (R i)) ec)) in
      let empty : R i * C i ≡ 0 = subst (λ k. k * C i ≡ 0) er (subst (λ k. r * k ≡ 0) ec none) in
      ap (λ (l : List PlainMatrix). record p { matrices = l }) (ap (filled h.field R C (count_of h o)) all ∙ filled_push h.field R C (count_of h o) p.matrices l empty);
  reached = length-pushed p.matrices ms m e;
  count_is = refl;
}

-- it has some, and is not added
pub added_none : (p : Part) (o : Owner) (i r c : ℕ) → i ≡ length p.matrices → r ≡ rows_of p.front.header p.dims (here p) o i → c ≡ columns_of p.front.header p.dims (here p) o i → r * c ≢ 0
    → p ≡ with_empties p o
added_none p o at r c is ser sec some =
    let h = p.front.header in
    let R = rows_of h p.dims (here p) o in
    let C = columns_of h p.dims (here p) o in
    let i = length p.matrices in
    let er = ser ∙ ap R is in
    let ec = sec ∙ ap C is in
    ap (λ (l : List PlainMatrix). record p { matrices = l }) (filled_stop h.field R C (count_of h o) p.matrices (λ e. some (ap (λ k. k * c) er ∙ (ap (λ k. R i * k) ec ∙ e))))

pub filling_start : (p : Part) (o : Owner) (i count : ℕ) → i ≡ length p.matrices → count ≡ count_of p.front.header o → Filling o p p i count
filling_start p o i count e f = record { same = refl; reached = sym e; count_is = sym f }

pub filling_next : (o : Owner) (first now next : Part) (i count : ℕ) → Filling o first now i count → Filling o now next (length now.matrices + 1) (count_of now.front.header o) → Filling o first next (i + 1) count
filling_next o first now next i count f g = record { same = g.same ∙ f.same; reached = g.reached ∙ ap (λ n. n + 1) f.reached; count_is = g.count_is ∙ f.count_is }

pub filling_done : (o : Owner) (first now : Part) (i count : ℕ) → Filling o first now i count → count ≤ i → now ≡ with_empties first o
filling_done o first now i count f l =
    let h = now.front.header in
    let whole : count_of h o ≤ length now.matrices = let a = f.reached in let b = f.count_is in omega (arith, a, b, l) in
    ap (λ (ms : List PlainMatrix). record now { matrices = ms }) (filled_whole h.field (rows_of h now.dims (here now) o) (columns_of h now.dims (here now) o) (count_of h o) now.matrices whole) ∙ f.same
