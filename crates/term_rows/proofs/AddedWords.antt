-- Products of words and an arrow, added one word after another.
use Rattle.std.proofs.Common.{ℕ, zero, suc, ◌≡◌, ◌≢◌, ◌<◌, ◌≤◌, ◌+◌, List, length, get_or, set, inl, inr, refl, sym, ap, ap₂, ◌∙◌, arith, subst, add-one, get_or-set_same, get_or-set_other}
use Rattle.std.specs.Prelude.{slice_index}
use Rattle.std.proofs.lemmas.Bool.{cases_lt, cases_eq}
use Rattle.std.proofs.lemmas.List.{get_or_past}
use Rattle.std.proofs.lemmas.List.Elements.{Contains-get_or}
use Rattle.linear_algebra.specs.Field.{Gf, order, add, mul}
use Rattle.linear_algebra.specs.FieldLaws.{order-pos, mul_below, add_below, add_zero, add_assoc, zero_add, mul_zero, zero_mul}
use Rattle.linear_algebra.specs.Sums.{sum_to, sum-none, sum-suc, sum_below, sum-zeros}
use Rattle.linear_algebra.specs.Rows.{zeros}
use Rattle.linear_algebra.specs.BlockFamilies.{total}
use Rattle.linear_algebra.proofs.Rows.{get_or-list_of, length-list_of}
use Rattle.linear_algebra.proofs.BlockFamilies.{total_grows, total-same}
use Rattle.fp_linear.specs.Slices.{AreElements}
use Rattle.fp_linear.specs.Meeting.{IsClearFrom}
use Rattle.quiver_paths.specs.declared.Path.{Path}
use Rattle.quiver_paths.specs.Path.{path_length, arrow_path}
use Rattle.quiver_paths.specs.Quiver.{vertex_count, arrow_count, source, target, HasEnds}
use Rattle.path_algebra.specs.declared.Header.{Header}
use Rattle.path_algebra.specs.Rows.{path_at}
use Rattle.alg_table.specs.declared.table.Side.{Side as TableSide}
use Rattle.alg_table.specs.declared.table.Side.TheVariants as table_side
use Rattle.alg_table.specs.TableView.{IsTable}
use Rattle.alg_table.specs.NormalForm.{IsNormalForm, IsProduct, IsProductOf}
use Rattle.alg_table.specs.WordPlaces.{AreWordsAt}
use Rattle.representations.specs.Quiver.{Quiver}
use Rattle.representations.specs.Rep.{Rep}
use Rattle.projectives.specs.Words.{Words, projective}
use Rattle.projectives.specs.Families.{projectives}
use Rattle.projectives.specs.CanonicalCover.{vertex_in}
use Rattle.projectives.proofs.Places.{sum_family-dim}
use Rattle.bound_tables.specs.PlacedEntries.{entry_at_place, ArePlaced}
use Rattle.bound_tables.specs.TableSides.{table_sides}
use Rattle.bound_tables.proofs.TableRows.{count_right, count_left, behind_row, before_row}
use Rattle.module_types.specs.declared.Side.{Side}
use Rattle.module_types.specs.declared.Side.TheVariants.{Right, Left}
use Rattle.module_types.specs.Algebras.{algebra_at, sided_words}
use Rattle.module_types.specs.Walks.{step}
use Rattle.module_types.proofs.TermMatrices.{place_in}
use Rattle.term_rows.specs.SumDims.{side_in_table, count_to, sum_dim}
use Rattle.term_rows.specs.RowSteps.{IsStep, IsAddedFrom, part_entry, HasProducts, multiple_at_place, combined, IsSumStepUpTo, part_dim}
use Rattle.term_rows.proofs.SumSteps.{step_by_parts, count_is}

-- The numbers of a product are elements.
module _ (h : Header) (words : List Path) where
  zeros_small : (k : ℕ) → get_or (zeros (length words)) k zero < order h.field
  unfolding zeros
  zeros_small k = elim (cases_lt k (length words)) [
    | inl l ↦ subst (λ z. z < order h.field) (sym (get_or-list_of (length words) _ k zero l)) (order-pos h.field)
    | inr b ↦ subst (λ z. z < order h.field) (sym (get_or_past (zeros (length words)) k zero (let e = length-list_of {X = ℕ} (length words) (λ _. 0) in omega (arith, e, b)))) (order-pos h.field)
  ]

  normal_small : (p : Path) (row : List ℕ) → IsNormalForm h words p row → (k : ℕ) → get_or row k zero < order h.field
  normal_small p row f k = elim (cases_lt (path_length p) h.bound) [
    | inl s ↦ elim (cases_lt k (length row)) [
      | inl l ↦ (f.short s).coefficients.small k zero l
      | inr b ↦ subst (λ z. z < order h.field) (sym (get_or_past row k zero b)) (order-pos h.field)
    ]
    | inr s ↦ subst (λ r. get_or r k zero < order h.field) (sym (f.long s)) (zeros_small k)
  ]

  product_of_small : (p r : Path) (row : List ℕ) → IsProductOf h words p r row → (k : ℕ) → get_or row k zero < order h.field
  product_of_small p r row f k = elim (cases_eq p.end r.start) [
    | inl e ↦ normal_small _ row (f.meeting e) k
    | inr d ↦ subst (λ s. get_or s k zero < order h.field) (sym (f.apart d)) (zeros_small k)
  ]

  pub product_small : (side : TableSide) (p : Path) (a : ℕ) (row : List ℕ) → IsProduct h words side p a row → (k : ℕ) → get_or row k zero < order h.field
  product_small table_side.Right p a row f k = product_of_small p (arrow_path h.quiver a) row f k
  product_small table_side.Left p a row f k = product_of_small (arrow_path h.quiver a) p row f k

-- Numbers added from a place on.
module _ (q : Gf) (start : ℕ) where
  pub added-none : (value : ℕ → ℕ) (s : List ℕ) → IsAddedFrom q start 0 value s s
  added-none value s = record { there = λ t l. absurd (omega arith); before = λ k l. refl; behind = λ k l. refl }

  pub added-more : (t v : ℕ) (value : ℕ → ℕ) (first s : List ℕ) → IsAddedFrom q start t value first s → start + t < length s → v ≡ add q (get_or s (start + t) 0) (value t) → IsAddedFrom q start (t + 1) value first (set s (start + t) v)
  added-more t v value first s a l e = record {
    there = λ k m. elim (cases_eq k t) [
      | inl same ↦ subst (λ k. get_or (set s (start + t) v) (start + k) 0 ≡ add q (get_or first (start + k) 0) (value k)) (sym same)
          (get_or-set_same s (start + t) v 0 l ∙ e ∙ ap (λ x. add q x (value t)) (a.behind (start + t) (omega arith)))
      | inr d ↦ let ne : start + k ≢ start + t = omega arith in get_or-set_other s (start + t) (start + k) v 0 ne ∙ a.there k (omega arith)
    ];
    before = λ k m. get_or-set_other s (start + t) k v 0 (λ e. omega arith) ∙ a.before k m;
    behind = λ k m. get_or-set_other s (start + t) k v 0 (λ e. omega arith) ∙ a.behind k (omega arith);
  }

  pub added-same : (n : ℕ) (f g : ℕ → ℕ) (old new : List ℕ) → ((t : ℕ) → t < n → f t ≡ g t) → IsAddedFrom q start n f old new → IsAddedFrom q start n g old new
  added-same n f g old new e a = record { there = λ t l. a.there t l ∙ ap (add q (get_or old (start + t) 0)) (e t l); before = a.before; behind = a.behind }

  pub added-zeros : (n : ℕ) (value : ℕ → ℕ) (s : List ℕ) → AreElements q s → ((t : ℕ) → t < n → value t ≡ 0) → IsAddedFrom q start n value s s
  added-zeros n value s small z = record { there = λ t l. sym (ap (add q (get_or s (start + t) 0)) (z t l) ∙ add_zero q (get_or s (start + t) 0) (small.small (start + t))); before = λ k l. refl; behind = λ k l. refl }

  pub added-then : (n : ℕ) (f g : ℕ → ℕ) (old mid new : List ℕ) → IsAddedFrom q start n f old mid → IsAddedFrom q start n g mid new → IsAddedFrom q start n (λ t. add q (f t) (g t)) old new
  added-then n f g old mid new a b = record {
    there = λ t l. b.there t l ∙ ap (λ x. add q x (g t)) (a.there t l) ∙ add_assoc q (get_or old (start + t) 0) (f t) (g t);
    before = λ k l. b.before k l ∙ a.before k l;
    behind = λ k l. b.behind k l ∙ a.behind k l;
  }

module _ (q : Gf) (start from n : ℕ) (row : List ℕ) (entries : ℕ → ℕ → ℕ) where
  pub combined-none : (s : List ℕ) → AreElements q s → IsAddedFrom q start n (combined q row from entries 0) s s
  combined-none s small = added-zeros q start n (combined q row from entries 0) s small (λ t l. sum-none q _)

  pub combined-more : (i : ℕ) (old mid new : List ℕ) → IsAddedFrom q start n (combined q row from entries i) old mid → IsAddedFrom q start n (λ t. mul q (get_or row (from + i) 0) (entries i t)) mid new
      → IsAddedFrom q start n (combined q row from entries (i + 1)) old new
  combined-more i old mid new a b = added-same q start n _ _ old new (λ t l. rw add-one (sym (sum-suc q i _))) (added-then q start n _ _ old mid new a b)

-- The rows of a table's products, as the words of a side have them.
module _ (h : Header) (words : List Path) (t : IsTable h words) where
  pub act_placed : (side : Side) (v a i : ℕ) (sources targets : List ℕ) → a < arrow_count h.quiver
      → AreWordsAt words (side_in_table side) v ((algebra_at side h).quiver.source a) sources → AreWordsAt words (side_in_table side) v ((algebra_at side h).quiver.target a) targets
      → i < length sources → HasProducts h words (side_in_table side) (get_or sources i zero) a targets (((sided_words side (table_sides h words t)).words.act v a).at i)
  act_placed Right v a i sources targets l s b m = record { placed = λ row p. behind_row h words t v a i sources targets row l s b m p }
  act_placed Left v a i sources targets l s b m = record { placed = λ row p. before_row h words t v a i sources targets row l s b m p }

  pub count_places : (side : Side) (v w : ℕ) (places : List ℕ) → AreWordsAt words (side_in_table side) v w places → (sided_words side (table_sides h words t)).words.count v w ≡ length places
  count_places Right v w places a = count_right h words t v w places a
  count_places Left v w places a = count_left h words t v w places a

pub places_below : (words : List Path) (side : TableSide) (v w : ℕ) (places : List ℕ) → AreWordsAt words side v w places → (i : ℕ) → i < length places → get_or places i 0 < length words
places_below words table_side.Right v w places a i l = (a.only (get_or places i 0) (Contains-get_or places i 0 l)).0
places_below words table_side.Left v w places a i l = (a.only (get_or places i 0) (Contains-get_or places i 0 l)).0

pub words_for : (words : List Path) (side : Side) (hand : TableSide) (v u w z : ℕ) (places : List ℕ) → hand ≡ side_in_table side → v ≡ u → w ≡ z → AreWordsAt words hand v w places → AreWordsAt words (side_in_table side) u z places
words_for words side hand v u w z places e f g a =
    subst (λ s. AreWordsAt words s u z places) e (subst (λ u. AreWordsAt words hand u z places) f (subst (λ z. AreWordsAt words hand v z places) g a))

-- The ends of an arrow are vertices.
pub source_below : (side : Side) (h : Header) (a : ℕ) → HasEnds h.quiver → a < arrow_count h.quiver → (algebra_at side h).quiver.source a < vertex_count h.quiver
source_below Right h a e l = e.sources a l
source_below Left h a e l = e.targets a l

pub target_below : (side : Side) (h : Header) (a : ℕ) → HasEnds h.quiver → a < arrow_count h.quiver → (algebra_at side h).quiver.target a < vertex_count h.quiver
target_below Right h a e l = e.targets a l
target_below Left h a e l = e.sources a l

-- One part after another.
module _ {q : Gf} {Q : Quiver} (W : Words q Q) (v : ℕ → ℕ) (a : ℕ) where
  abbrev to_dim : ℕ → ℕ
  to_dim d = W.count (v d) (Q.target a)

  abbrev from_dim : ℕ → ℕ
  from_dim d = W.count (v d) (Q.source a)

  pub sum_step-none : (old new : List ℕ) → IsClearFrom 0 new → IsSumStepUpTo W v a 0 old new
  sum_step-none old new c = record { parts = λ c t l m. absurd (omega arith); behind = λ k l. c.clear k (omega arith) }

  pub sum_step-more : (j n m from to : ℕ) (old mid new : List ℕ) → from ≡ total j from_dim → to ≡ total j to_dim → n ≡ to_dim j → m ≡ from_dim j
      → IsSumStepUpTo W v a j old mid → IsAddedFrom q to n (combined q old from (λ i. (W.act (v j) a).at i) m) mid new → IsSumStepUpTo W v a (j + 1) old new
  sum_step-more j n m from to old mid new fe te ne me s b = record {
    parts = λ c t l k. elim (cases_eq c j) [
      | inl e ↦ subst (λ c. t < to_dim c → slice_index new (total c to_dim + t) ≡ part_entry W (v c) a old (total c from_dim) (from_dim c) t) (sym e) (λ k.
          ap (λ z. slice_index new (z + t)) (sym te) ∙ b.there t (omega (arith, ne, k))
          ∙ ap (λ x. add q x (combined q old from (λ i. (W.act (v j) a).at i) m t)) (s.behind (to + t) (omega (arith, te)))
          ∙ zero_add q _ (sum_below q m _)
          ∙ ap₂ (λ x y. sum_to q y (λ i. mul q (slice_index old (x + i)) ((W.act (v j) a).at i t))) fe me) k
      | inr d ↦
          let g = total_grows to_dim j c (omega arith) in
          b.before (total c to_dim + t) (omega (arith, g, k, te)) ∙ s.parts c t (omega arith) k
    ];
    behind = λ k l.
        let e : total (j + 1) to_dim ≡ total j to_dim + to_dim j = rw add-one refl in
        b.behind k (omega (arith, l, e, te, ne)) ∙ s.behind k (omega (arith, l, e));
  }

  pub sum_step-all : (k : ℕ) (old new : List ℕ) → ((j : ℕ) → get_or old j 0 < order q) → IsSumStepUpTo W v a k old new → IsStep (projectives W k v) a old new
  unfolding step
  sum_step-all k old new small s = record {
    at = λ z. elim (cases_lt z (total k to_dim)) [
      | inl l ↦
          let p = place_in to_dim k z l in
          ap (slice_index new) (sym p.4) ∙ s.parts p.0 p.1 p.2 p.3 ∙ sym (step_by_parts W k v a old small p.0 p.1 p.2 p.3) ∙ ap (step (projectives W k v) a (slice_index old)) p.4
      | inr b ↦
          let d = sum_family-dim k (λ c. projective W (v c)) (Q.target a) in
          s.behind z b ∙ sym (sum-zeros q ((projectives W k v).dim (Q.source a)) _ (λ t l. ap (mul q (slice_index old t)) (((projectives W k v).mat a).fits.right t z (omega (arith, d, b))) ∙ mul_zero q (slice_index old t)))
    ];
  }

-- As the words are counted.
module _ (h : Header) (words : List Path) (t : IsTable h words) where
  pub part_dims : (side : Side) (vs : List ℕ) (w j : ℕ) → total j (part_dim words side vs w) ≡ total j (λ d. (sided_words side (table_sides h words t)).words.count (vertex_in vs d) w)
  part_dims side vs w j = total-same j _ _ (λ c l. sym (count_is h words t side (get_or vs c zero) w))

  -- a part of a row lies within
  pub part_inside : (side : Side) (vs : List ℕ) (w j from n room : ℕ) (places : List ℕ) → j < length vs → from ≡ total j (part_dim words side vs w) → AreWordsAt words (side_in_table side) (get_or vs j 0) w places → n ≡ length places
      → sum_dim words side vs w ≤ room → from + n ≤ room
  part_inside side vs w j from n room places l e a ne r =
      let g = total_grows (part_dim words side vs w) (length vs) j l in
      let c : part_dim words side vs w j ≡ length places = sym (count_is h words t side (get_or vs j 0) w) ∙ count_places h words t side (get_or vs j 0) w places a in
      omega (arith, g, c, e, ne, r)

  pub part_next : (side : Side) (vs : List ℕ) (w j from : ℕ) (places : List ℕ) → from ≡ total j (part_dim words side vs w) → AreWordsAt words (side_in_table side) (get_or vs j 0) w places
      → from + length places ≡ total (j + 1) (part_dim words side vs w)
  part_next side vs w j from places e a =
      let c : part_dim words side vs w j ≡ length places = sym (count_is h words t side (get_or vs j 0) w) ∙ count_places h words t side (get_or vs j 0) w places a in
      let s : total (j + 1) (part_dim words side vs w) ≡ total j (part_dim words side vs w) + part_dim words side vs w j = rw add-one refl in
      omega (arith, c, e, s)
