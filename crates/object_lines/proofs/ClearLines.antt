-- No token of a line of a module, a map, a matrix, a row or a term has a byte that stands outside of tokens, as a space or a line feed.
use Rattle.std.proofs.Common.{◌≡◌, ℕ, ◌<◌, ◌≤◌, ◌^◌, true, false, List, [], ◌∷◌, ◌++◌, map, length, get_or, All, eqb, codes, decimal, refl, sym, ap, ◌∙◌, arith, lit<}
use Rattle.std.specs.List.{list_all}
use Rattle.std.proofs.lemmas.Bool.{eqb-true, false_from_ne_true}
use Rattle.std.proofs.lemmas.List.Sums.{AllPass-from_list_all}
use Rattle.std.proofs.lemmas.List.Elements.{All-nil, All-cons, All-head, All-tail, All-append, All-weaker, All-map}
use Rattle.linear_algebra.specs.Field.{Gf}
use Rattle.linear_algebra.specs.Rows.{IsRow}
use Rattle.fp_linear.specs.Matrix.{PlainMatrix}
use Rattle.quiver_paths.specs.Name.{is_name_byte}
use Rattle.quiver_paths.specs.Quiver.{vertex_count}
use Rattle.path_algebra.specs.declared.Header.{Header}
use Rattle.module_types.specs.declared.Side.{Side}
use Rattle.module_types.specs.declared.Side.TheVariants.{Right, Left}
use Rattle.module_types.specs.Shapes.{HasShape}
use Rattle.claim_conditions.specs.declared.Residue.{Residue}
use Rattle.claim_conditions.specs.declared.Residue.TheVariants.{Frobenius, Listed}
use Rattle.text_lines.specs.Parts.{Lacks}
use Rattle.header_text.specs.Named.{IsNamed}
use Rattle.header_text.specs.Spelling.{vertex_name}
use Rattle.header_text.proofs.Clean.{IsOutside, space_outside, feed_outside, decimal_lacks, vertex_name_lacks}
use Rattle.header_text.proofs.Readers.{order_small}
use Rattle.object_lines.specs.declared.objects.ModuleHead.{ModuleHead}
use Rattle.object_lines.specs.Spelling.{numbers_form, slash_each, matrix_form, side_word, at_line, map_line, row_line, gen_line, phi_line, term_line, ideal_line, power_line, residue_word, residue_line, left_line, middle_line}
use Rattle.object_lines.specs.Reading.{IsElement}
use Rattle.object_lines.specs.Items.{FitsModule, head_line, FitsMap, FitsTerm}
use Rattle.object_lines.proofs.RowReading.{row_all}
use Rattle.object_lines.proofs.MatrixReading.{shape_rows}
use Rattle.object_lines.proofs.ModuleReading.{numbers_of_fits}

-- a byte that stands in no token of these lines
pub record StandsOutside (c : ℕ) : Type 0 where
  pub out : IsOutside c
  pub slash : eqb 47 c ≡ false

pub space_stands : StandsOutside 32
space_stands = record { out = space_outside; slash = refl }

pub feed_stands : StandsOutside 10
feed_stands = record { out = feed_outside; slash = refl }

clash : true ≡ false → ⊥
clash e = cc

module _ (c : ℕ) (o : StandsOutside c) where
  word_lacks : (w : List ℕ) → list_all is_name_byte w ≡ true → Lacks c w
  word_lacks w e =
      All-weaker (λ b. is_name_byte b ≡ true) (λ b. eqb b c ≡ false)
      (λ b name. false_from_ne_true (eqb b c) (λ s. clash (sym name ∙ (ap is_name_byte (eqb-true b c s) ∙ o.out.name)))) w (AllPass-from_list_all is_name_byte w e)

  number_lacks : (n : ℕ) → n < 2 ^ 64 → Lacks c (decimal n)
  number_lacks n h = decimal_lacks c o.out.digit n h

  nothing : All (Lacks c) []
  nothing = All-nil (Lacks c)

  more : (t : List ℕ) (ts : List (List ℕ)) → Lacks c t → All (Lacks c) ts → All (Lacks c) (t ∷ ts)
  more t ts a b = All-cons (Lacks c) t ts a b

  pub numbers_clear : (most : ℕ) → most < 2 ^ 64 → (ns : List ℕ) → All (λ n. n ≤ most) ns → All (Lacks c) (numbers_form ns)
  numbers_clear most small ns all = All-map (Lacks c) decimal ns (All-weaker (λ n. n ≤ most) (λ n. Lacks c (decimal n)) (λ n l. number_lacks n (omega arith)) ns all)

  entries_clear : (q : Gf) (ns : List ℕ) → All (IsElement q) ns → All (Lacks c) (numbers_form ns)
  entries_clear q ns all =
      let few = order_small q in
      let big : 27 < 2 ^ 64 = lit< tt in
      All-map (Lacks c) decimal ns (All-weaker (IsElement q) (λ n. Lacks c (decimal n)) (λ n l. number_lacks n (omega arith)) ns all)

  pub row_clear : (q : Gf) (n : ℕ) (row : List ℕ) → IsRow q n row → All (Lacks c) (row_line row)
  row_clear q n row is = more (codes "row") (numbers_form row) (word_lacks (codes "row") refl) (entries_clear q row (row_all q n row is))

  pub gen_clear : (q : Gf) (n : ℕ) (row : List ℕ) → IsRow q n row → All (Lacks c) (gen_line row)
  gen_clear q n row is = more (codes "gen") (numbers_form row) (word_lacks (codes "gen") refl) (entries_clear q row (row_all q n row is))

  pub phi_clear : (q : Gf) (n : ℕ) (row : List ℕ) → IsRow q n row → All (Lacks c) (phi_line row)
  phi_clear q n row is = more (codes "phi") (numbers_form row) (word_lacks (codes "phi") refl) (entries_clear q row (row_all q n row is))

  slash_lacks : Lacks c (codes "/")
  slash_lacks = All-cons (λ b. eqb b c ≡ false) 47 [] o.slash (All-nil (λ b. eqb b c ≡ false))

  slashes_clear : (q : Gf) (n : ℕ) (rows : List (List ℕ)) → All (IsRow q n) rows → All (Lacks c) (slash_each rows)
  slashes_clear q n [] all = nothing
  slashes_clear q n (r ∷ rows) all =
      more (codes "/") (numbers_form r ++ slash_each rows) slash_lacks
      (All-append (Lacks c) (numbers_form r) (slash_each rows) (entries_clear q r (row_all q n r (All-head (IsRow q n) r rows all))) (slashes_clear q n rows (All-tail (IsRow q n) r rows all)))

  rows_clear : (q : Gf) (n : ℕ) (rows : List (List ℕ)) → All (IsRow q n) rows → All (Lacks c) (matrix_form rows)
  rows_clear q n [] all = nothing
  rows_clear q n (r ∷ rows) all =
      All-append (Lacks c) (numbers_form r) (slash_each rows) (entries_clear q r (row_all q n r (All-head (IsRow q n) r rows all))) (slashes_clear q n rows (All-tail (IsRow q n) r rows all))

  pub at_clear : (name : List ℕ) → Lacks c name → (q : Gf) (m n : ℕ) (a : PlainMatrix) → HasShape q m n a → All (Lacks c) (at_line name a)
  at_clear name lacks q m n a s = more (codes "at") (name ∷ matrix_form a.rows) (word_lacks (codes "at") refl) (more name (matrix_form a.rows) lacks (rows_clear q n a.rows (shape_rows q m n a s).1))

  side_lacks : (s : Side) → Lacks c (side_word s)
  side_lacks Right = word_lacks (codes "right") refl
  side_lacks Left = word_lacks (codes "left") refl

  pub module_clear : (h : Header) (k : ℕ) → k < 2 ^ 64 → (m : ModuleHead) → FitsModule h m → All (Lacks c) (head_line k m)
  module_clear h k small m fits =
      more (codes "module") (decimal k ∷ side_word m.side ∷ numbers_form m.dims) (word_lacks (codes "module") refl)
      (more (decimal k) (side_word m.side ∷ numbers_form m.dims) (number_lacks k small)
      (more (side_word m.side) (numbers_form m.dims) (side_lacks m.side) (numbers_clear 256 (lit< tt) m.dims (numbers_of_fits h m (vertex_count h.quiver) refl fits).small)))

  pub map_clear : (k modules source target : ℕ) → k < 2 ^ 64 → modules < 2 ^ 64 → FitsMap modules source target → All (Lacks c) (map_line k source target)
  map_clear k modules source target small few fits =
      let low = fits.from.to in
      let least = fits.to.to in
      more (codes "map") (decimal k ∷ decimal source ∷ decimal target ∷ []) (word_lacks (codes "map") refl)
      (more (decimal k) (decimal source ∷ decimal target ∷ []) (number_lacks k small)
      (more (decimal source) (decimal target ∷ []) (number_lacks source (omega arith)) (more (decimal target) [] (number_lacks target (omega arith)) nothing)))

  pub term_clear : (h : Header) → IsNamed h.quiver → (k : ℕ) → k < 2 ^ 64 → (vertices : List ℕ) → FitsTerm h vertices → All (Lacks c) (term_line h.quiver k vertices)
  term_clear h named k small vertices fits =
      let names = map (vertex_name h.quiver) vertices in
      more (codes "term") (decimal k ∷ decimal (length vertices) ∷ names) (word_lacks (codes "term") refl)
      (more (decimal k) (decimal (length vertices) ∷ names) (number_lacks k small)
      (more (decimal (length vertices)) names (number_lacks (length vertices) fits.few) (All-map (Lacks c) (vertex_name h.quiver) vertices (λ i d l. vertex_name_lacks c o.out.name h.quiver named (get_or vertices i d)))))

  pub ideal_clear : (n : ℕ) → n < 2 ^ 64 → All (Lacks c) (ideal_line n)
  ideal_clear n small = more (codes "ideal") (decimal n ∷ []) (word_lacks (codes "ideal") refl) (more (decimal n) [] (number_lacks n small) nothing)

  pub power_clear : (n : ℕ) → n < 2 ^ 64 → All (Lacks c) (power_line n)
  power_clear n small = more (codes "power") (decimal n ∷ []) (word_lacks (codes "power") refl) (more (decimal n) [] (number_lacks n small) nothing)

  residue_lacks : (r : Residue) → Lacks c (residue_word r)
  residue_lacks Frobenius = word_lacks (codes "frobenius") refl
  residue_lacks Listed = word_lacks (codes "listed") refl

  pub residue_clear : (r : Residue) → All (Lacks c) (residue_line r)
  residue_clear r = more (codes "residue") (residue_word r ∷ []) (word_lacks (codes "residue") refl) (more (residue_word r) [] (residue_lacks r) nothing)

  pub left_clear : All (Lacks c) left_line
  left_clear = more (codes "left") [] (word_lacks (codes "left") refl) nothing

  pub middle_clear : All (Lacks c) middle_line
  middle_clear = more (codes "middle") [] (word_lacks (codes "middle") refl) nothing
