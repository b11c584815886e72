-- What fits has one spelling: what is spelled alike is the same.
use Rattle.std.proofs.Common.{◌≡◌, ℕ, ◌<◌, ◌≤◌, ◌^◌, List, [], ◌∷◌, length, get_or, All, codes, decimal, refl, sym, ap, ◌∙◌, arith, lit<}
use Rattle.std.proofs.lemmas.List.{length-map}
use Rattle.std.proofs.lemmas.List.Elements.{All-head, All-tail}
use Rattle.linear_algebra.specs.Field.{Gf}
use Rattle.linear_algebra.specs.Rows.{IsRow}
use Rattle.fp_linear.specs.Matrix.{PlainMatrix}
use Rattle.path_algebra.specs.declared.Header.{Header}
use Rattle.path_algebra.specs.Derivations.{IsNumber}
use Rattle.quiver_paths.specs.Quiver.{vertex_count}
use Rattle.module_types.specs.declared.Side.{Side}
use Rattle.module_types.specs.declared.Side.TheVariants.{Right, Left}
use Rattle.module_types.specs.Shapes.{HasShape}
use Rattle.claim_conditions.specs.declared.Residue.{Residue}
use Rattle.claim_conditions.specs.declared.Residue.TheVariants.{Frobenius, Listed}
use Rattle.report_types.specs.Limits.{power_limit}
use Rattle.header_text.specs.Named.{IsNamed}
use Rattle.header_text.specs.Spelling.{vertex_name}
use Rattle.header_text.proofs.Readers.{order_small}
use Rattle.header_text.proofs.Uniqueness.{decimal_one, one_vertex}
use Rattle.object_lines.specs.declared.objects.ModuleHead.{ModuleHead}
use Rattle.object_lines.specs.Spelling.{numbers_form, slash_each, matrix_form, side_word, at_line, map_line, row_line, gen_line, phi_line, term_line, ideal_line, power_line, residue_line}
use Rattle.object_lines.specs.Reading.{IsElement, IsAtMost, IsVertex}
use Rattle.object_lines.specs.Items.{AreNumbers, FitsModule, head_line, FitsMap, FitsTerm}
use Rattle.object_lines.proofs.Taking.{cons_head, cons_tail, cons_same, same_front, one_list}
use Rattle.object_lines.proofs.RowReading.{row_all}
use Rattle.object_lines.proofs.MatrixReading.{shape_rows}
use Rattle.object_lines.proofs.ModuleReading.{numbers_of_fits, one_dims}

element_one : (q : Gf) (d e : ℕ) → IsElement q d → IsElement q e → decimal d ≡ decimal e → d ≡ e
element_one q d e a b same = let few = order_small q in let big : 27 < 2 ^ 64 = lit< tt in decimal_one d e (omega arith) (omega arith) same

pub numbers_one : (most count : ℕ) → most < 2 ^ 64 → (xs ys : List ℕ) → AreNumbers most count xs → AreNumbers most count ys → numbers_form xs ≡ numbers_form ys → xs ≡ ys
numbers_one most count small xs ys a b e = one_list decimal (IsAtMost most) (λ m n c d same. decimal_one m n (omega arith) (omega arith) same) xs ys a.small b.small e

entries_one : (q : Gf) (n : ℕ) (xs ys : List ℕ) → IsRow q n xs → IsRow q n ys → numbers_form xs ≡ numbers_form ys → xs ≡ ys
entries_one q n xs ys a b e = one_list decimal (IsElement q) (element_one q) xs ys (row_all q n xs a) (row_all q n ys b) e

-- ---- rows and single lines

pub row_one : (q : Gf) (n : ℕ) (xs ys : List ℕ) → IsRow q n xs → IsRow q n ys → row_line xs ≡ row_line ys → xs ≡ ys
row_one q n xs ys a b e = entries_one q n xs ys a b (cons_tail _ _ _ _ e)

pub gen_one : (q : Gf) (n : ℕ) (xs ys : List ℕ) → IsRow q n xs → IsRow q n ys → gen_line xs ≡ gen_line ys → xs ≡ ys
gen_one q n xs ys a b e = entries_one q n xs ys a b (cons_tail _ _ _ _ e)

pub phi_one : (q : Gf) (n : ℕ) (xs ys : List ℕ) → IsRow q n xs → IsRow q n ys → phi_line xs ≡ phi_line ys → xs ≡ ys
phi_one q n xs ys a b e = entries_one q n xs ys a b (cons_tail _ _ _ _ e)

pub ideal_one : (most : ℕ) → most < 2 ^ 64 → (m n : ℕ) → m ≤ most → n ≤ most → ideal_line m ≡ ideal_line n → m ≡ n
ideal_one most small m n a b e = decimal_one m n (omega arith) (omega arith) (cons_head _ _ _ _ (cons_tail _ _ _ _ e))

pub power_one : (m n : ℕ) → IsNumber power_limit m → IsNumber power_limit n → power_line m ≡ power_line n → m ≡ n
power_one m n a b e =
    let low = a.to in
    let least = b.to in
    let big : 256 < 2 ^ 64 = lit< tt in
    decimal_one m n (omega arith) (omega arith) (cons_head _ _ _ _ (cons_tail _ _ _ _ e))

pub residue_one : (r s : Residue) → residue_line r ≡ residue_line s → r ≡ s
residue_one Frobenius Frobenius e = refl
residue_one Frobenius Listed e = absurd (omega (arith, ap (λ w. get_or w 0 0) (cons_head (codes "frobenius") (codes "listed") [] [] (cons_tail _ _ _ _ e))))
residue_one Listed Frobenius e = absurd (omega (arith, ap (λ w. get_or w 0 0) (cons_head (codes "listed") (codes "frobenius") [] [] (cons_tail _ _ _ _ e))))
residue_one Listed Listed e = refl

-- ---- modules, maps and terms

side_one : (s t : Side) → side_word s ≡ side_word t → s ≡ t
side_one Right Right e = refl
side_one Right Left e = absurd (omega (arith, ap (λ w. get_or w 0 0) e))
side_one Left Right e = absurd (omega (arith, ap (λ w. get_or w 0 0) e))
side_one Left Left e = refl

same_head : (x y : ModuleHead) → x.side ≡ y.side → x.dims ≡ y.dims → x ≡ y
same_head x y a b = λ k. record { side = a k; dims = b k }

pub module_one : (h : Header) (k : ℕ) (x y : ModuleHead) → FitsModule h x → FitsModule h y → head_line k x ≡ head_line k y → x ≡ y
module_one h k x y a b e =
    let rest = cons_tail _ _ _ _ (cons_tail _ _ _ _ e) in
    same_head x y (side_one x.side y.side (cons_head _ _ _ _ rest))
    (one_dims (vertex_count h.quiver) x.dims y.dims (numbers_of_fits h x (vertex_count h.quiver) refl a) (numbers_of_fits h y (vertex_count h.quiver) refl b) (cons_tail _ _ _ _ rest))

place_one : (last : ℕ) → last < 2 ^ 64 → (m n : ℕ) → IsNumber last m → IsNumber last n → decimal m ≡ decimal n → m ≡ n
place_one last small m n a b e = let low = a.to in let least = b.to in decimal_one m n (omega arith) (omega arith) e

same_pair : (x y : ℕ × ℕ) → x.0 ≡ y.0 → x.1 ≡ y.1 → x ≡ y
same_pair x y a b = λ k. (a k, b k)

pub map_one : (k modules : ℕ) → modules < 2 ^ 64 → (x y : ℕ × ℕ) → FitsMap modules x.0 x.1 → FitsMap modules y.0 y.1 → map_line k x.0 x.1 ≡ map_line k y.0 y.1 → x ≡ y
map_one k modules small x y a b e =
    let rest = cons_tail _ _ _ _ (cons_tail _ _ _ _ e) in
    same_pair x y (place_one modules small x.0 y.0 a.from b.from (cons_head _ _ _ _ rest)) (place_one modules small x.1 y.1 a.to b.to (cons_head _ _ _ _ (cons_tail _ _ _ _ rest)))

pub term_one : (h : Header) → IsNamed h.quiver → (k : ℕ) (xs ys : List ℕ) → FitsTerm h xs → FitsTerm h ys → term_line h.quiver k xs ≡ term_line h.quiver k ys → xs ≡ ys
term_one h named k xs ys a b e =
    one_list (vertex_name h.quiver) (IsVertex h.quiver) (one_vertex h.quiver named) xs ys a.places b.places (cons_tail _ _ _ _ (cons_tail _ _ _ _ (cons_tail _ _ _ _ e)))

-- ---- matrices

slashes_one : (q : Gf) (n : ℕ) (rows us : List (List ℕ)) → length rows ≡ length us → All (IsRow q n) rows → All (IsRow q n) us → slash_each rows ≡ slash_each us → rows ≡ us
slashes_one q n [] [] l a b e = refl
slashes_one q n [] (u ∷ us) l a b e = absurd (omega (arith, l))
slashes_one q n (r ∷ rows) [] l a b e = absurd (omega (arith, l))
slashes_one q n (r ∷ rows) (u ∷ us) l a b e =
    let first = All-head (IsRow q n) r rows a in
    let other = All-head (IsRow q n) u us b in
    let both = same_front (numbers_form r) (numbers_form u) (slash_each rows) (slash_each us) (length-map r decimal ∙ (first.count ∙ (sym other.count ∙ sym (length-map u decimal)))) (cons_tail _ _ _ _ e) in
    cons_same r u rows us (entries_one q n r u first other both.0) (slashes_one q n rows us (omega (arith, l)) (All-tail (IsRow q n) r rows a) (All-tail (IsRow q n) u us b) both.1)

rows_one : (q : Gf) (n : ℕ) (rows us : List (List ℕ)) → length rows ≡ length us → All (IsRow q n) rows → All (IsRow q n) us → matrix_form rows ≡ matrix_form us → rows ≡ us
rows_one q n [] [] l a b e = refl
rows_one q n [] (u ∷ us) l a b e = absurd (omega (arith, l))
rows_one q n (r ∷ rows) [] l a b e = absurd (omega (arith, l))
rows_one q n (r ∷ rows) (u ∷ us) l a b e =
    let first = All-head (IsRow q n) r rows a in
    let other = All-head (IsRow q n) u us b in
    let both = same_front (numbers_form r) (numbers_form u) (slash_each rows) (slash_each us) (length-map r decimal ∙ (first.count ∙ (sym other.count ∙ sym (length-map u decimal)))) e in
    cons_same r u rows us (entries_one q n r u first other both.0) (slashes_one q n rows us (omega (arith, l)) (All-tail (IsRow q n) r rows a) (All-tail (IsRow q n) u us b) both.1)

same_matrix : (a b : PlainMatrix) → a.field ≡ b.field → a.row_count ≡ b.row_count → a.col_count ≡ b.col_count → a.rows ≡ b.rows → a ≡ b
same_matrix a b e f g h = λ k. record { field = e k; row_count = f k; col_count = g k; rows = h k }

pub matrix_one : (q : Gf) (m n : ℕ) (a b : PlainMatrix) → HasShape q m n a → HasShape q m n b → matrix_form a.rows ≡ matrix_form b.rows → a ≡ b
matrix_one q m n a b s t e =
    let rows = shape_rows q m n a s in
    let others = shape_rows q m n b t in
    same_matrix a b (s.field ∙ sym t.field) (s.row_count ∙ sym t.row_count) (s.col_count ∙ sym t.col_count) (rows_one q n a.rows b.rows (rows.0 ∙ sym others.0) rows.1 others.1 e)

pub at_one : (name : List ℕ) (q : Gf) (m n : ℕ) (a b : PlainMatrix) → HasShape q m n a → HasShape q m n b → at_line name a ≡ at_line name b → a ≡ b
at_one name q m n a b s t e = matrix_one q m n a b s t (cons_tail _ _ _ _ (cons_tail _ _ _ _ e))
