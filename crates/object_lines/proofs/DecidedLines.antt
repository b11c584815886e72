-- Whether tokens are those of a line is decided, token by token.
use Rattle.std.proofs.Common.{◌≡◌, ℕ, ◌-◌, ◌*◌, ◌<◌, ◌≤◌, ◌^◌, zero, suc, List, [], ◌∷◌, ◌++◌, map, take, drop, length, All, inl, inr, codes, decimal, refl, sym, ap, ◌∙◌, subst, arith, lit<}
use Rattle.std.specs.Str.Parse.{digits_value}
use Rattle.std.proofs.lemmas.Bool.{cases_eq}
use Rattle.std.proofs.lemmas.List.{length-map, take-append-drop, take_at, drop_at}
use Rattle.std.proofs.lemmas.List.Elements.{All-nil, All-cons, All-head, All-tail}
use Rattle.linear_algebra.specs.Field.{Gf, order}
use Rattle.linear_algebra.specs.FieldLaws.{order-pos}
use Rattle.linear_algebra.specs.Rows.{IsRow}
use Rattle.fp_linear.specs.Matrix.{PlainMatrix, plain, most_entries}
use Rattle.quiver_paths.specs.declared.Quiver.{Quiver}
use Rattle.quiver_paths.specs.Quiver.{vertex_count}
use Rattle.path_algebra.specs.declared.Header.{Header}
use Rattle.path_algebra.specs.Derivations.{IsNumber}
use Rattle.module_types.specs.declared.Side.{Side}
use Rattle.module_types.specs.declared.Side.TheVariants.{Right, Left}
use Rattle.module_types.specs.Shapes.{HasShape, dimension, most_dimension}
use Rattle.claim_conditions.specs.declared.Residue.{Residue}
use Rattle.claim_conditions.specs.declared.Residue.TheVariants.{Frobenius, Listed}
use Rattle.report_types.specs.Limits.{power_limit}
use Rattle.text_lines.proofs.Digits.{decimal_is_written}
use Rattle.header_text.specs.Spelling.{vertex_name}
use Rattle.header_text.proofs.Readers.{order_small}
use Rattle.deciding.proofs.Deciding.{Decided, like, both, three, below, at_most, same_numbers, same_tokens, found, numbers_below}
use Rattle.object_lines.specs.declared.objects.ModuleHead.{ModuleHead}
use Rattle.object_lines.specs.Spelling.{numbers_form, slash_each, matrix_form, side_word, at_line, map_line, row_line, gen_line, phi_line, term_line, ideal_line, power_line, residue_word, residue_line, left_line, middle_line}
use Rattle.object_lines.specs.Reading.{IsElement, IsAtMost, IsVertex}
use Rattle.object_lines.specs.Items.{AreNumbers, FitsModule, head_line, FitsMap, FitsTerm}
use Rattle.object_lines.proofs.Taking.{cons_head, cons_tail, cons_not_nil, cons_same, items_decided, no_list}
use Rattle.object_lines.proofs.RowReading.{is_row, row_all}
use Rattle.object_lines.proofs.MatrixReading.{shape_rows, rows_shape}
use Rattle.object_lines.proofs.ModuleReading.{numbers_of_fits, one_dims}

-- one of some things has this spelling, or none has
abbrev pub Spelled : {X Text : Type 0} → (X → Type 0) → (X → Text) → Text → Type 0
Spelled {X} IsOne spell text = (x : X) × IsOne x × (text ≡ spell x)

-- ---- single tokens

pub numeral_decided : (most : ℕ) → most < 2 ^ 64 → (t : List ℕ) → Decided (Spelled (IsAtMost most) decimal t)
numeral_decided most small t =
    like (λ h. (digits_value 10 t, h.1, h.0))
    (λ x.
    let value : digits_value 10 t ≡ x.0 = ap (digits_value 10) x.2 ∙ (decimal_is_written x.0 (let l = x.1 in omega arith)).value in
    (x.2 ∙ ap decimal (sym value), subst (λ k. k ≤ most) (sym value) x.1))
    (both (same_numbers t (decimal (digits_value 10 t))) (at_most (digits_value 10 t) most))

pub element_decided : (q : Gf) (t : List ℕ) → Decided (Spelled (IsElement q) decimal t)
element_decided q t =
    let some = order-pos q in
    let few = order_small q in
    let big : 27 < 2 ^ 64 = lit< tt in
    like (λ x. (x.0, (let l = x.1 in omega arith), x.2)) (λ x. (x.0, (let l = x.1 in omega arith), x.2)) (numeral_decided (order q - 1) (omega arith) t)

pub place_decided : (last : ℕ) → last < 2 ^ 64 → (t : List ℕ) → Decided (Spelled (IsNumber last) decimal t)
place_decided last small t =
    like (λ h. (digits_value 10 t, record { from = h.1; to = h.2 }, h.0))
    (λ x.
    let value : digits_value 10 t ≡ x.0 = ap (digits_value 10) x.2 ∙ (decimal_is_written x.0 (let to = x.1.to in omega arith)).value in
    (x.2 ∙ ap decimal (sym value), subst (λ k. 1 ≤ k) (sym value) x.1.from, subst (λ k. k ≤ last) (sym value) x.1.to))
    (three (same_numbers t (decimal (digits_value 10 t))) (at_most 1 (digits_value 10 t)) (at_most (digits_value 10 t) last))

pub vertex_decided : (Q : Quiver) (t : List ℕ) → Decided (Spelled (IsVertex Q) (vertex_name Q) t)
vertex_decided Q t =
    like (λ h. (h.0, h.1.0, h.1.1)) (λ x. (x.0, (x.1, x.2)))
    (found (λ (v : ℕ). v < vertex_count Q) (λ (v : ℕ). (v < vertex_count Q) × (t ≡ vertex_name Q v)) (numbers_below (vertex_count Q)) (λ v h. h.0)
    (λ v. both (below v (vertex_count Q)) (same_numbers t (vertex_name Q v))))

side_decided : (t : List ℕ) → Decided (Spelled (λ (s : Side). Unit {0}) side_word t)
side_decided t = by_word (same_numbers t (codes "right")) (same_numbers t (codes "left"))
  where
    none : (t ≡ codes "right" → ⊥) → (t ≡ codes "left" → ⊥) → Spelled (λ (s : Side). Unit {0}) side_word t → ⊥
    none a b (Right, one, e) = a e
    none a b (Left, one, e) = b e

    by_word : Decided (t ≡ codes "right") → Decided (t ≡ codes "left") → Decided (Spelled (λ (s : Side). Unit {0}) side_word t)
    by_word (inl e) b = inl (Right, tt, e)
    by_word (inr a) (inl e) = inl (Left, tt, e)
    by_word (inr a) (inr b) = inr (none a b)

residue_word_decided : (t : List ℕ) → Decided (Spelled (λ (r : Residue). Unit {0}) residue_word t)
residue_word_decided t = by_word (same_numbers t (codes "frobenius")) (same_numbers t (codes "listed"))
  where
    none : (t ≡ codes "frobenius" → ⊥) → (t ≡ codes "listed" → ⊥) → Spelled (λ (r : Residue). Unit {0}) residue_word t → ⊥
    none a b (Frobenius, one, e) = a e
    none a b (Listed, one, e) = b e

    by_word : Decided (t ≡ codes "frobenius") → Decided (t ≡ codes "listed") → Decided (Spelled (λ (r : Residue). Unit {0}) residue_word t)
    by_word (inl e) b = inl (Frobenius, tt, e)
    by_word (inr a) (inl e) = inl (Listed, tt, e)
    by_word (inr a) (inr b) = inr (none a b)

-- ---- tokens in a row

-- a first token that is given
pub behind_decided : {X : Type 0} (IsOne : X → Type 0) (spell : X → List (List ℕ)) (w : List ℕ) → ((ts : List (List ℕ)) → Decided (Spelled IsOne spell ts)) → (ts : List (List ℕ)) → Decided (Spelled IsOne (λ (x : X). w ∷ spell x) ts)
behind_decided IsOne spell w each [] = inr (λ x. cons_not_nil w (spell x.0) (sym x.2))
behind_decided IsOne spell w each (t ∷ ts) =
    like (λ h. (h.1.0, h.1.1, cons_same t w ts (spell h.1.0) h.0 h.1.2)) (λ x. (cons_head t w ts (spell x.0) x.2, (x.0, x.1, cons_tail t w ts (spell x.0) x.2))) (both (same_numbers t w) (each ts))

-- one token that is all
pub only_decided : {X : Type 0} (IsOne : X → Type 0) (spell : X → List ℕ) → ((t : List ℕ) → Decided (Spelled IsOne spell t)) → (ts : List (List ℕ)) → Decided (Spelled IsOne (λ (x : X). spell x ∷ []) ts)
only_decided IsOne spell each [] = inr (λ x. cons_not_nil (spell x.0) [] (sym x.2))
only_decided IsOne spell each (t ∷ []) = like (λ x. (x.0, x.1, cons_same t (spell x.0) [] [] x.2 refl)) (λ x. (x.0, x.1, cons_head t (spell x.0) [] [] x.2)) (each t)
only_decided IsOne spell each (t ∷ u ∷ ts) = inr (λ x. cons_not_nil u ts (cons_tail t (spell x.0) (u ∷ ts) [] x.2))

pub numbers_decided : (most count : ℕ) → most < 2 ^ 64 → (ts : List (List ℕ)) → Decided (Spelled (AreNumbers most count) numbers_form ts)
numbers_decided most count small ts = elim (cases_eq (length ts) count) [
  | inl same ↦ like (λ x. (x.0, record { counted = sym (ap length x.2 ∙ length-map x.0 decimal) ∙ same; small = x.1 }, x.2)) (λ x. (x.0, x.1.small, x.2)) (items_decided decimal (IsAtMost most) (numeral_decided most small) ts)
  | inr other ↦ inr (λ x. other (ap length x.2 ∙ (length-map x.0 decimal ∙ x.1.counted)))
]

pub entries_decided : (q : Gf) (n : ℕ) (ts : List (List ℕ)) → Decided (Spelled (IsRow q n) numbers_form ts)
entries_decided q n ts = elim (cases_eq (length ts) n) [
  | inl same ↦ like (λ x. (x.0, is_row q n x.0 (sym (ap length x.2 ∙ length-map x.0 decimal) ∙ same) x.1, x.2)) (λ x. (x.0, row_all q n x.0 x.1, x.2)) (items_decided decimal (IsElement q) (element_decided q) ts)
  | inr other ↦ inr (λ x. other (ap length x.2 ∙ (length-map x.0 decimal ∙ x.1.count)))
]

-- ---- rows and single lines

pub row_decided : (q : Gf) (n : ℕ) (ts : List (List ℕ)) → Decided (Spelled (IsRow q n) row_line ts)
row_decided q n = behind_decided (IsRow q n) numbers_form (codes "row") (entries_decided q n)

pub gen_decided : (q : Gf) (n : ℕ) (ts : List (List ℕ)) → Decided (Spelled (IsRow q n) gen_line ts)
gen_decided q n = behind_decided (IsRow q n) numbers_form (codes "gen") (entries_decided q n)

pub phi_decided : (q : Gf) (n : ℕ) (ts : List (List ℕ)) → Decided (Spelled (IsRow q n) phi_line ts)
phi_decided q n = behind_decided (IsRow q n) numbers_form (codes "phi") (entries_decided q n)

pub ideal_decided : (most : ℕ) → most < 2 ^ 64 → (ts : List (List ℕ)) → Decided (Spelled (IsAtMost most) ideal_line ts)
ideal_decided most small = behind_decided (IsAtMost most) (λ (n : ℕ). decimal n ∷ []) (codes "ideal") (only_decided (IsAtMost most) decimal (numeral_decided most small))

pub power_decided : (ts : List (List ℕ)) → Decided (Spelled (IsNumber power_limit) power_line ts)
power_decided = behind_decided (IsNumber power_limit) (λ (n : ℕ). decimal n ∷ []) (codes "power") (only_decided (IsNumber power_limit) decimal (place_decided power_limit (lit< tt)))

pub residue_decided : (ts : List (List ℕ)) → Decided (Spelled (λ (r : Residue). Unit {0}) residue_line ts)
residue_decided = behind_decided (λ (r : Residue). Unit {0}) (λ (r : Residue). residue_word r ∷ []) (codes "residue") (only_decided (λ (r : Residue). Unit {0}) residue_word residue_word_decided)

pub left_decided : (ts : List (List ℕ)) → Decided (ts ≡ left_line)
left_decided ts = same_tokens ts left_line

pub middle_decided : (ts : List (List ℕ)) → Decided (ts ≡ middle_line)
middle_decided ts = same_tokens ts middle_line

-- ---- modules, maps and terms

dims_decided : (h : Header) (ts : List (List ℕ)) → Decided (Spelled (FitsModule h) (λ (m : ModuleHead). side_word m.side ∷ numbers_form m.dims) ts)
dims_decided h [] = inr (λ x. cons_not_nil (side_word x.0.side) (numbers_form x.0.dims) (sym x.2))
dims_decided h (t ∷ ts) = by_dims (side_decided t) (numbers_decided 256 (vertex_count h.quiver) (lit< tt) ts)
  where
    small_by : (s : Side) (dims : List ℕ) → t ≡ side_word s → AreNumbers 256 (vertex_count h.quiver) dims → ts ≡ numbers_form dims → Decided (dimension dims ≤ most_dimension)
        → Decided (Spelled (FitsModule h) (λ (m : ModuleHead). side_word m.side ∷ numbers_form m.dims) (t ∷ ts))
    small_by s dims e are f (inl small) = inl (record { side = s; dims = dims }, record { counted = are.counted; small = small }, cons_same t (side_word s) ts (numbers_form dims) e f)
    small_by s dims e are f (inr large) = inr (λ x.
        large (subst (λ l. dimension l ≤ most_dimension) (one_dims (vertex_count h.quiver) x.0.dims dims (numbers_of_fits h x.0 (vertex_count h.quiver) refl x.1) are (sym (cons_tail t (side_word x.0.side) ts (numbers_form x.0.dims) x.2) ∙ f)) x.1.small))

    by_dims : Decided (Spelled (λ (s : Side). Unit {0}) side_word t) → Decided (Spelled (AreNumbers 256 (vertex_count h.quiver)) numbers_form ts)
        → Decided (Spelled (FitsModule h) (λ (m : ModuleHead). side_word m.side ∷ numbers_form m.dims) (t ∷ ts))
    by_dims (inr other) b = inr (λ x. other (x.0.side, tt, cons_head t (side_word x.0.side) ts (numbers_form x.0.dims) x.2))
    by_dims (inl s) (inr other) = inr (λ x. other (x.0.dims, numbers_of_fits h x.0 (vertex_count h.quiver) refl x.1, cons_tail t (side_word x.0.side) ts (numbers_form x.0.dims) x.2))
    by_dims (inl s) (inl d) = small_by s.0 d.0 s.2 d.1 d.2 (at_most (dimension d.0) most_dimension)

pub module_decided : (h : Header) (k : ℕ) (ts : List (List ℕ)) → Decided (Spelled (FitsModule h) (head_line k) ts)
module_decided h k =
    behind_decided (FitsModule h) (λ (m : ModuleHead). decimal k ∷ side_word m.side ∷ numbers_form m.dims) (codes "module")
    (behind_decided (FitsModule h) (λ (m : ModuleHead). side_word m.side ∷ numbers_form m.dims) (decimal k) (dims_decided h))

two_decided : (modules : ℕ) → modules < 2 ^ 64 → (ts : List (List ℕ)) → Decided (Spelled (λ (x : ℕ × ℕ). FitsMap modules x.0 x.1) (λ (x : ℕ × ℕ). decimal x.0 ∷ decimal x.1 ∷ []) ts)
two_decided modules small [] = inr (λ x. cons_not_nil (decimal x.0.0) (decimal x.0.1 ∷ []) (sym x.2))
two_decided modules small (t ∷ ts) =
    like (λ h. ((h.0.0, h.1.0), record { from = h.0.1; to = h.1.1 }, cons_same t (decimal h.0.0) ts (decimal h.1.0 ∷ []) h.0.2 h.1.2))
    (λ x. ((x.0.0, x.1.from, cons_head t (decimal x.0.0) ts (decimal x.0.1 ∷ []) x.2), (x.0.1, x.1.to, cons_tail t (decimal x.0.0) ts (decimal x.0.1 ∷ []) x.2)))
    (both (place_decided modules small t) (only_decided (IsNumber modules) decimal (place_decided modules small) ts))

pub map_decided : (k modules : ℕ) → modules < 2 ^ 64 → (ts : List (List ℕ)) → Decided (Spelled (λ (x : ℕ × ℕ). FitsMap modules x.0 x.1) (λ (x : ℕ × ℕ). map_line k x.0 x.1) ts)
map_decided k modules small =
    behind_decided (λ (x : ℕ × ℕ). FitsMap modules x.0 x.1) (λ (x : ℕ × ℕ). decimal k ∷ decimal x.0 ∷ decimal x.1 ∷ []) (codes "map")
    (behind_decided (λ (x : ℕ × ℕ). FitsMap modules x.0 x.1) (λ (x : ℕ × ℕ). decimal x.0 ∷ decimal x.1 ∷ []) (decimal k) (two_decided modules small))

vertices_decided : (h : Header) (ts : List (List ℕ)) → Decided (Spelled (FitsTerm h) (λ (x : List ℕ). decimal (length x) ∷ map (vertex_name h.quiver) x) ts)
vertices_decided h [] = inr (λ x. cons_not_nil (decimal (length x.0)) (map (vertex_name h.quiver) x.0) (sym x.2))
vertices_decided h (t ∷ ts) =
    like
    (λ d.
    let x = d.2 in
    let count : length ts ≡ length x.0 = ap length x.2 ∙ length-map x.0 (vertex_name h.quiver) in
    (x.0, record { few = subst (λ n. n < 2 ^ 64) count d.1; places = x.1 }, cons_same t (decimal (length x.0)) ts (map (vertex_name h.quiver) x.0) (d.0 ∙ ap decimal count) x.2))
    (λ x.
    let rest = cons_tail t (decimal (length x.0)) ts (map (vertex_name h.quiver) x.0) x.2 in
    let count : length ts ≡ length x.0 = ap length rest ∙ length-map x.0 (vertex_name h.quiver) in
    (cons_head t (decimal (length x.0)) ts (map (vertex_name h.quiver) x.0) x.2 ∙ ap decimal (sym count), subst (λ n. n < 2 ^ 64) (sym count) x.1.few, (x.0, x.1.places, rest)))
    (three (same_numbers t (decimal (length ts))) (below (length ts) (2 ^ 64)) (items_decided (vertex_name h.quiver) (IsVertex h.quiver) (vertex_decided h.quiver) ts))

pub term_decided : (h : Header) (k : ℕ) (ts : List (List ℕ)) → Decided (Spelled (FitsTerm h) (term_line h.quiver k) ts)
term_decided h k =
    behind_decided (FitsTerm h) (λ (x : List ℕ). decimal k ∷ decimal (length x) ∷ map (vertex_name h.quiver) x) (codes "term")
    (behind_decided (FitsTerm h) (λ (x : List ℕ). decimal (length x) ∷ map (vertex_name h.quiver) x) (decimal k) (vertices_decided h))

-- ---- matrices

-- rows of a matrix
pub record AreRowsOf (q : Gf) (m n : ℕ) (rows : List (List ℕ)) : Type 0 where
  pub counted : length rows ≡ m
  pub all : All (IsRow q n) rows

-- the first n tokens are those of a row, and the others of the rest
front_row : (n : ℕ) (row : List ℕ) (ts rest : List (List ℕ)) → length row ≡ n → ts ≡ numbers_form row ++ rest → (take n ts ≡ numbers_form row) × (drop n ts ≡ rest)
front_row n row ts rest counted e =
    let size : n ≡ length (numbers_form row) = sym (length-map row decimal ∙ counted) in
    (ap (take n) e ∙ take_at (numbers_form row) rest n (sym size), ap (drop n) e ∙ drop_at (numbers_form row) rest n (sym size))

slashes_decided : (q : Gf) (m n : ℕ) (ts : List (List ℕ)) → Decided (Spelled (AreRowsOf q m n) slash_each ts)
slashes_decided q zero n [] = inl ([], record { counted = refl; all = All-nil (IsRow q n) }, refl)
slashes_decided q zero n (t ∷ ts) = inr (λ x. cons_not_nil t ts (x.2 ∙ ap slash_each (no_list x.0 x.1.counted)))
slashes_decided q (suc m) n [] = inr (λ x. none x.0 x.1.counted x.2)
  where
    none : (rows : List (List ℕ)) → length rows ≡ suc m → [] ≡ slash_each rows → ⊥
    none [] c e = absurd (omega (arith, c))
    none (r ∷ rows) c e = cons_not_nil (codes "/") (numbers_form r ++ slash_each rows) (sym e)
slashes_decided q (suc m) n (t ∷ ts) =
    like (λ d. (
      d.1.0 ∷ d.2.0,
      record { counted = ap suc d.2.1.counted; all = All-cons (IsRow q n) d.1.0 d.2.0 d.1.1 d.2.1.all },
      cons_same t (codes "/") ts (numbers_form d.1.0 ++ slash_each d.2.0) d.0 (sym (take-append-drop n ts) ∙ (ap (λ l. l ++ drop n ts) d.1.2 ∙ ap (λ l. numbers_form d.1.0 ++ l) d.2.2)),
    ))
    (λ x. apart x.0 x.1 x.2) (three (same_numbers t (codes "/")) (entries_decided q n (take n ts)) (slashes_decided q m n (drop n ts)))
  where
    apart : (rows : List (List ℕ)) → AreRowsOf q (suc m) n rows → t ∷ ts ≡ slash_each rows → (t ≡ codes "/") × Spelled (IsRow q n) numbers_form (take n ts) × Spelled (AreRowsOf q m n) slash_each (drop n ts)
    apart [] are e = absurd (cons_not_nil t ts e)
    apart (r ∷ rows) are e =
        let head = All-head (IsRow q n) r rows are.all in
        let cut = front_row n r ts (slash_each rows) head.count (cons_tail t (codes "/") ts (numbers_form r ++ slash_each rows) e) in
        (cons_head t (codes "/") ts (numbers_form r ++ slash_each rows) e, (r, head, cut.0), (rows, record { counted = (let c = are.counted in omega arith); all = All-tail (IsRow q n) r rows are.all }, cut.1))

rows_decided : (q : Gf) (m n : ℕ) (ts : List (List ℕ)) → Decided (Spelled (AreRowsOf q m n) matrix_form ts)
rows_decided q zero n [] = inl ([], record { counted = refl; all = All-nil (IsRow q n) }, refl)
rows_decided q zero n (t ∷ ts) = inr (λ x. cons_not_nil t ts (x.2 ∙ ap matrix_form (no_list x.0 x.1.counted)))
rows_decided q (suc m) n ts =
    like (λ d. (
      d.0.0 ∷ d.1.0,
      record { counted = ap suc d.1.1.counted; all = All-cons (IsRow q n) d.0.0 d.1.0 d.0.1 d.1.1.all },
      sym (take-append-drop n ts) ∙ (ap (λ l. l ++ drop n ts) d.0.2 ∙ ap (λ l. numbers_form d.0.0 ++ l) d.1.2),
    ))
    (λ x. apart x.0 x.1 x.2) (both (entries_decided q n (take n ts)) (slashes_decided q m n (drop n ts)))
  where
    apart : (rows : List (List ℕ)) → AreRowsOf q (suc m) n rows → ts ≡ matrix_form rows → Spelled (IsRow q n) numbers_form (take n ts) × Spelled (AreRowsOf q m n) slash_each (drop n ts)
    apart [] are e = let c = are.counted in absurd (omega arith)
    apart (r ∷ rows) are e =
        let head = All-head (IsRow q n) r rows are.all in
        let cut = front_row n r ts (slash_each rows) head.count e in
        ((r, head, cut.0), (rows, record { counted = (let c = are.counted in omega arith); all = All-tail (IsRow q n) r rows are.all }, cut.1))

pub matrix_decided : (q : Gf) (m n : ℕ) (ts : List (List ℕ)) → Decided (Spelled (HasShape q m n) (λ (a : PlainMatrix). matrix_form a.rows) ts)
matrix_decided q m n ts =
    like (λ d. (plain q m n d.1.0, rows_shape q m n d.1.0 d.0 d.1.1.counted d.1.1.all, d.1.2))
    (λ x. (not_large x.0 x.1, (x.0.rows, (let rows = shape_rows q m n x.0 x.1 in record { counted = rows.0; all = rows.1 }), x.2)))
    (both (at_most (m * n) most_entries) (rows_decided q m n ts))
  where
    not_large : (a : PlainMatrix) → HasShape q m n a → m * n ≤ most_entries
    not_large a s =
        let fits = s.matrix.fits in
        let same : a.row_count * a.col_count ≡ m * n = ap (λ k. k * a.col_count) s.row_count ∙ ap (λ k. m * k) s.col_count in
        omega arith

pub at_decided : (name : List ℕ) (q : Gf) (m n : ℕ) (ts : List (List ℕ)) → Decided (Spelled (HasShape q m n) (at_line name) ts)
at_decided name q m n =
    behind_decided (HasShape q m n) (λ (a : PlainMatrix). name ∷ matrix_form a.rows) (codes "at")
    (behind_decided (HasShape q m n) (λ (a : PlainMatrix). matrix_form a.rows) name (matrix_decided q m n))
