-- The spans of the images of the trivial words under the paths of one length.
use Rattle.std.proofs.Common.{ℕ, ◌≡◌, ◌<◌, ◌≤◌, ◌+◌, ◌*◌, inl, inr, List, [], ◌∷◌, ◌++◌, length, take, drop, get_or, refl, sym, ap, ap₂, ◌∙◌, subst, arith, length-append}
use Rattle.std.specs.Prelude.{Contains, All}
use mathlib.Core.Path.{fun_ext}
use Rattle.std.proofs.lemmas.Bool.{cases_lt, cases_eq, cond-true, cond-false, eq-eqb, ne_eqb}
use Rattle.std.proofs.lemmas.List.{take-append-drop, length-take-le, take_more, take_all, get_or_past}
use Rattle.std.proofs.lemmas.Nat.{mul-add-lt}
use Rattle.std.proofs.lemmas.List.Elements.{All-nil, All-cons}
use Rattle.linear_algebra.specs.Field.{Gf, order, add, mul}
use Rattle.linear_algebra.specs.FieldLaws.{order-pos, add_below, add_zero_zero, mul_zero, zero_mul}
use Rattle.linear_algebra.specs.Sums.{sum_to, sum-same, sum-zeros}
use Rattle.linear_algebra.specs.Rows.{IsRow, list_of, zeros, times, product, IsInSpan, SameSpan}
use Rattle.linear_algebra.proofs.Rows.{length-list_of, list_of-is, entry-list_of, get_or-times, length-times, times-times, row-product, length-product, row-entry, IsInSpan-through}
use Rattle.linear_algebra.proofs.Reduced.{IsInSpan-zeros}
use Rattle.linear_algebra.proofs.SpanPush.{SplitsOff, SplitsOff-from_span, IsInSpan-from_split}
use Rattle.quiver_paths.specs.declared.Path.{Path}
use Rattle.quiver_paths.specs.Quiver.{vertex_count, arrow_count, source, target}
use Rattle.quiver_paths.specs.Path.{IsPath, Leads, path_length, concat, trivial_path, arrow_path}
use Rattle.quiver_paths.proofs.PathLemmas.{IsPath-trivial, IsPath-end, IsPath-concat, IsPath-arrow, Leads-between, Leads-append}
use Rattle.path_algebra.specs.declared.Header.{Header}
use Rattle.path_algebra.specs.declared.rules.Rule.{Rule}
use Rattle.word_products.specs.declared.sparse.Entry.{Entry}
use Rattle.path_algebra.specs.Elements.{path_element}
use Rattle.path_algebra.specs.Rows.{path_at, row_of, RowsView}
use Rattle.path_algebra.specs.Reduction.{IsReduction, act_arrow, act_arrows}
use Rattle.word_products.specs.SparseRows.{SparseView, entry_at, acted_by}
use Rattle.word_products.specs.WordProducts.{CanAct}
use Rattle.word_products.specs.Vanishing.{AreAllProducts, LongVanish, IsVanishingRow, RowsVanish, AreImages, SpansImages, SpansTrivial, HasImages, AreZero}
use Rattle.path_algebra.proofs.SumsOver.{sum_over-zeros}
use Rattle.path_algebra.proofs.ElementLemmas.{path_element-below, path_element-other}
use Rattle.path_algebra.proofs.Columns.{get_or-row_of, IsRow-row_of}
use Rattle.path_algebra.proofs.Combinations.{IsCombination}
use Rattle.path_algebra.proofs.Acting.{act_arrows-linear, act_arrows-append, nothing_acts, starts_apart, cases_listed}
use Rattle.path_algebra.proofs.Collecting.{no_rows, row_of-sum, sum_with-none, IsRow-span, pushed_in_span}
use Rattle.path_algebra.proofs.Reducing.{AreRules, by_reduction, sum_between-zeros, rewritten_smaller}
use Rattle.path_algebra.proofs.Independent.{trivial_word, along_word, arrows_of_words, word_is_of_words, leads_arrows}
use Rattle.word_products.proofs.SparseActs.{acted_to-at, length-acted_to}
use Rattle.word_products.proofs.WordRows.{word_at, word_listed, short_word, are_rules, acted_on, index_once}
use Rattle.word_products.proofs.ActingRows.{act_all, get_or-row_of_past}

-- what a path becomes ends where it does
pub becomes-ends : (h : Header) (rules : List Rule) → AreRules h rules → (becomes : Path → Path → ℕ) → IsReduction h rules becomes → (p : Path) → IsPath h.quiver p
    → (r : Path) → (r.end ≡ p.end → ⊥) → becomes p r ≡ 0
becomes-ends h rules k becomes red = by_reduction h rules k (λ p. (r : Path) → (r.end ≡ p.end → ⊥) → becomes p r ≡ 0)
    (λ p hp l r d. red.long p hp l r)
    (λ p s no r d. red.stays p s no r ∙ path_element-other h.bound p r (λ e. d (ap (λ (x : Path). x.end) (sym e))))
    (λ p s o before r d. red.rewritten p s o r ∙ sum_between-zeros h becomes o.before o.rule.tail.terms o.behind r
    (λ a m mu mv. before a m mu mv (rewritten_smaller h rules k p o a m mu mv) r (λ e. d (e ∙ ap (λ (x : Path). x.end) (sym o.whole)))))

-- one span in another
pub in_span_kept : (q : Gf) (n : ℕ) (old new : List (List ℕ)) (r x : List ℕ) → SameSpan q n (old ++ r ∷ []) new → IsInSpan q n old x → IsInSpan q n new x
in_span_kept q n old new r x s p = s.forth x (IsInSpan-from_split q n old r x (record { rest = x; factor = 0; in_span = p; whole = sum_with-none q n x r (IsRow-span q n old x p) }))

module _ (h : Header) (words : List Path) (becomes : Path → Path → ℕ) (k : ℕ) where
  pub vanish-none : RowsVanish h words becomes k []
  vanish-none = record {
    elements = λ x s. record {
      element = λ p. 0;
      small = λ r. order-pos h.field;
      outside = λ r d. refl;
      row = no_rows h words x s;
      vanishes = λ ys u w l e r. nothing_acts h becomes words ys r;
    };
  }

  pub vanish-push : (rows : List (List ℕ)) (e : Path → ℕ) → ((r : Path) → e r < order h.field) → ((r : Path) → (Contains words r → ⊥) → e r ≡ 0)
      → ((ys : List ℕ) (u w : ℕ) → Leads h.quiver u ys w → k + length ys ≡ h.bound → (r : Path) → act_arrows h becomes words ys e r ≡ 0)
      → RowsVanish h words becomes k rows → RowsVanish h words becomes k (rows ++ row_of words e ∷ [])
  vanish-push rows e small out v a = record { elements = λ x s. split x (SplitsOff-from_span h.field (length words) rows (row_of words e) x s) }
    where
      split : (x : List ℕ) → SplitsOff h.field (length words) rows (row_of words e) x → IsVanishingRow h words becomes k x
      split x s = let y = a.elements s.rest s.in_span in record {
        element = λ p. add h.field (y.element p) (mul h.field s.factor (e p));
        small = λ r. add_below h.field _ _;
        outside = λ r d. ap₂ (add h.field) (y.outside r d) (ap (mul h.field s.factor) (out r d) ∙ mul_zero h.field s.factor) ∙ add_zero_zero h.field;
        row = row_of-sum h words y.element e s.factor s.rest y.row ∙ s.whole;
        vanishes = λ ys u w l t r.
            (act_arrows-linear h becomes words ys).adds y.element (λ p. mul h.field s.factor (e p)) r
            ∙ ap₂ (add h.field) (y.vanishes ys u w l t r) ((act_arrows-linear h becomes words ys).scales s.factor e r ∙ ap (mul h.field s.factor) (v ys u w l t r) ∙ mul_zero h.field s.factor)
            ∙ add_zero_zero h.field;
      }

  pub vanish-same : (a b : List (List ℕ)) → SameSpan h.field (length words) a b → RowsVanish h words becomes k a → RowsVanish h words becomes k b
  vanish-same a b s v = record { elements = λ x p. v.elements x (s.back x p) }

-- ---- the trivial words

module _ (h : Header) (words : List Path) (rules : List Rule) (can : CanAct h words rules) where
  word_small : (i : ℕ) → (r : Path) → path_element h.bound (path_at words i) r < order h.field
  word_small i r = path_element-below h.field h.bound (path_at words i) r

  pub trivial-none : (span : RowsView) → span.field ≡ h.field → span.columns ≡ length words → span.rows ≡ [] → SpansTrivial h words rules 0 span
  trivial-none span f c r = record {
    field_is = f;
    columns_are = c;
    rows = λ becomes red. record { has = λ j l. absurd (omega (arith, l)); vanish = λ v. subst (RowsVanish h words becomes 0) (sym r) (vanish-none h words becomes 0) };
  }

  pub trivial-skip : (span : RowsView) (i : ℕ) → 0 < path_length (path_at words i) → SpansTrivial h words rules i span → SpansTrivial h words rules (i + 1) span
  trivial-skip span i n s = record {
    field_is = s.field_is;
    columns_are = s.columns_are;
    rows = λ becomes red. let old = s.rows becomes red in record {
      has = λ j l t. elim (cases_lt j i) [
        | inl b ↦ old.has j b t
        | inr b ↦ absurd (omega (arith, n, t, ap (λ x. path_length (path_at words x)) (same j l b)))
      ];
      vanish = old.vanish;
    };
  }
    where
      same : (j : ℕ) → j < i + 1 → i ≤ j → j ≡ i
      same j l b = omega (arith, l, b)

  pub trivial-push : (span new : RowsView) (i : ℕ) → i < length words → SpansTrivial h words rules i span → new.field ≡ span.field → new.columns ≡ span.columns
      → SameSpan h.field (length words) (span.rows ++ row_of words (path_element h.bound (path_at words i)) ∷ []) new.rows → SpansTrivial h words rules (i + 1) new
  trivial-push span new i li s f c ss = record {
    field_is = f ∙ s.field_is;
    columns_are = c ∙ s.columns_are;
    rows = λ becomes red. let old = s.rows becomes red in record {
      has = λ j l t. elim (cases_lt j i) [
        | inl b ↦ in_span_kept h.field (length words) span.rows new.rows _ _ ss (old.has j b t)
        | inr b ↦ subst (λ x. IsInSpan h.field (length words) new.rows (row_of words (path_element h.bound (path_at words x)))) (same j l b)
            (pushed_in_span h words span.rows new.rows (row_of words (path_element h.bound (path_at words i))) (IsRow-row_of h.field words (path_element h.bound (path_at words i)) (word_small i)) ss)
      ];
      vanish = λ lv. vanish-same h words becomes 0 _ new.rows ss (vanish-push h words becomes 0 span.rows (path_element h.bound (path_at words i)) (word_small i)
          (λ r d. path_element-other h.bound (path_at words i) r (λ e. d (subst (Contains words) e (word_listed words i li)))) (word_vanishes becomes lv) (old.vanish lv));
    };
  }
    where
      same : (j : ℕ) → j < i + 1 → i ≤ j → i ≡ j
      same j l b = omega (arith, l, b)

      word_vanishes : (becomes : Path → Path → ℕ) → LongVanish h words becomes → (ys : List ℕ) (u w : ℕ) → Leads h.quiver u ys w → 0 + length ys ≡ h.bound → (r : Path)
          → act_arrows h becomes words ys (path_element h.bound (path_at words i)) r ≡ 0
      word_vanishes becomes lv ys u w l e r = elim (cases_eq u (path_at words i).end) [
        | inl m ↦ lv.long (record { start = u; end = w; arrows = ys })
            (record { starts = subst (λ x. x < vertex_count h.quiver) (sym m) (IsPath-end h.quiver (path_at words i) can.allowed.quiver.ends (short_word h words rules can i li).path); leads = l })
            (omega (arith, e)) (path_at words i) (word_listed words i li) r
        | inr d ↦ starts_apart h becomes words ys (path_at words i) u w (omega (arith, e, can.allowed.bound_from)) l d r
      ]

  -- all of them
  pub trivial-all : (span : RowsView) → SpansTrivial h words rules (length words) span → SpansImages h words rules 0 span
  unfolding act_arrows
  trivial-all span s = record {
    field_is = s.field_is;
    columns_are = s.columns_are;
    images = λ becomes red. record { has = λ v w xs. has becomes red v w xs; vanish = (s.rows becomes red).vanish };
  }
    where
      has : (becomes : Path → Path → ℕ) → IsReduction h rules becomes → (v w : ℕ) (xs : List ℕ) → v < vertex_count h.quiver → Leads h.quiver v xs w → length xs ≡ 0
          → IsInSpan h.field (length words) span.rows (row_of words (act_arrows h becomes words xs (path_element h.bound (trivial_path v))))
      has becomes red v w [] l k e =
          let m = trivial_word h words rules becomes (acted_on h words rules can becomes red) v (IsPath-trivial h.quiver v l) in
          let at : path_at words m.0 ≡ trivial_path v = word_at words m.0 (trivial_path v) m.1 m.2 in
          subst (λ x. IsInSpan h.field (length words) span.rows (row_of words (path_element h.bound x))) at ((s.rows becomes red).has m.0 m.1 (ap path_length at))
      has becomes red v w (x ∷ xs) l k e = absurd (omega (arith, e))

-- ---- the images of combinations

dense : Gf → ℕ → List (List Entry) → ℕ → ℕ → List (List ℕ)
dense q n rows arrows a = list_of n (λ i. list_of n (λ j. entry_at q (get_or rows (i * arrows + a) []) j))

length-dense : (q : Gf) (n : ℕ) (rows : List (List Entry)) (arrows a : ℕ) → length (dense q n rows arrows a) ≡ n
unfolding dense
length-dense q n rows arrows a = length-list_of n _

acted-times : (q : Gf) (n : ℕ) (rows : List (List Entry)) (arrows a : ℕ) (y : List ℕ) → length y ≡ n → acted_by q rows arrows a y ≡ times q n y (dense q n rows arrows a)
unfolding dense times
acted-times q n rows arrows a y e = list_of-is n _ (acted_by q rows arrows a y) 0 (length-acted_to q rows arrows a y (length y) ∙ e)
    (λ j l. acted_to-at q rows arrows a y (length y) j (subst (λ m. j < m) (sym e) l)
    ∙ ap (λ m. sum_to q m (λ i. mul q (get_or y i 0) (entry_at q (get_or rows (i * arrows + a) []) j))) (e ∙ sym (length-list_of n (λ i. list_of n (λ j. entry_at q (get_or rows (i * arrows + a) []) j))))
    ∙ sum-same q (length (list_of n (λ i. list_of n (λ j. entry_at q (get_or rows (i * arrows + a) []) j)))) _ _ (λ i k. ap (mul q (get_or y i 0))
    (sym (entry-list_of n n (λ i j. entry_at q (get_or rows (i * arrows + a) []) j) i j (subst (λ m. i < m) (length-list_of n (λ i. list_of n (λ j. entry_at q (get_or rows (i * arrows + a) []) j))) k) l))))

pub images_in : (q : Gf) (n : ℕ) (rows : List (List Entry)) (arrows a : ℕ) (old new : List (List ℕ)) → ((i : ℕ) → i < length old → length (get_or old i []) ≡ n)
    → ((i : ℕ) → i < length old → IsInSpan q n new (acted_by q rows arrows a (get_or old i []))) → (y : List ℕ) → IsInSpan q n old y → IsInSpan q n new (acted_by q rows arrows a y)
images_in q n rows arrows a old new widths images y s =
    let m : List (List ℕ) = dense q n rows arrows a in
    let count : length m ≡ n = length_dense in
    let width : length y ≡ n = sym (ap length s.1) ∙ length-times q n s.0 old in
    let moved : times q n y m ≡ times q n s.0 (product q n old m) =
    ap (λ x. times q n x m) (sym s.1 ∙ ap (λ k. times q k s.0 old) (sym count)) ∙ times-times q n s.0 old m in
    IsInSpan-through q n new (product q n old m)
    (λ i l. let k : i < length old = subst (λ x. i < x) (length-product q n old m) l in
    subst (IsInSpan q n new) (acted-times q n rows arrows a (get_or old i []) (widths i k) ∙ sym (row-product q n old m i k)) (images i k))
    (acted_by q rows arrows a y) (s.0, sym moved ∙ sym (acted-times q n rows arrows a y width))
  where
    length_dense : length (dense q n rows arrows a) ≡ n
    length_dense = length-dense q n rows arrows a

one_small : (h : Header) (words : List Path) (becomes : Path → Path → ℕ) (a : ℕ) (f : Path → ℕ) → IsCombination h words (act_arrows h becomes words (a ∷ []) f) → (r : Path)
    → act_arrow h becomes words a f r < order h.field
unfolding act_arrows
one_small h words becomes a f c r = c.small r

one_outside : (h : Header) (words : List Path) (becomes : Path → Path → ℕ) (a : ℕ) (f : Path → ℕ) → IsCombination h words (act_arrows h becomes words (a ∷ []) f) → (r : Path)
    → (Contains words r → ⊥) → act_arrow h becomes words a f r ≡ 0
unfolding act_arrows
one_outside h words becomes a f c r d = c.outside r d

one_more : (h : Header) (words : List Path) (becomes : Path → Path → ℕ) (xs : List ℕ) (a : ℕ) (f : Path → ℕ)
    → act_arrow h becomes words a (act_arrows h becomes words xs f) ≡ act_arrows h becomes words (xs ++ a ∷ []) f
unfolding act_arrows
one_more h words becomes [] a f = refl
one_more h words becomes (b ∷ xs) a f = one_more h words becomes xs a (act_arrow h becomes words b f)

-- a zero row is in each span
zero_in : (q : Gf) (n : ℕ) (rows : List (List ℕ)) (x : List ℕ) → length x ≡ n → ((j : ℕ) → get_or x j 0 ≡ 0) → IsInSpan q n rows x
unfolding zeros
zero_in q n rows x l z = subst (IsInSpan q n rows) (sym (list_of-is n (λ _. 0) x 0 l (λ j k. z j))) (IsInSpan-zeros q n rows)

-- combinations of zero rows are zero
pub zero_combinations : (q : Gf) (n : ℕ) (rows : List (List ℕ)) → ((i j : ℕ) → i < length rows → get_or (get_or rows i []) j 0 ≡ 0) → AreZero q n rows
zero_combinations q n rows z = record {
  zero_at = λ x s j. elim (cases_lt j n) [
    | inl l ↦ ap (λ y. get_or y j 0) (sym s.1) ∙ get_or-times q n s.0 rows j l ∙ sum-zeros q (length rows) _ (λ i k. ap (mul q (get_or s.0 i 0)) (sym (row-entry rows i j) ∙ z i j k) ∙ mul_zero q (get_or s.0 i 0))
    | inr l ↦ get_or_past x j 0 (omega (arith, l, sym (ap length s.1) ∙ length-times q n s.0 rows))
  ];
}

module _ (h : Header) (words : List Path) (rules : List Rule) (can : CanAct h words rules) where
  -- an arrow behind another that it does not meet
  arrows_apart : (becomes : Path → Path → ℕ) → IsReduction h rules becomes → (a b : ℕ) → a < arrow_count h.quiver → (source h.quiver b ≡ target h.quiver a → ⊥) → (f : Path → ℕ) (r : Path)
      → act_arrow h becomes words b (act_arrow h becomes words a f) r ≡ 0
  unfolding act_arrow
  arrows_apart becomes red a b la d f r = sum_over-zeros h.field words _ (λ w m. elim (cases_eq w.end (source h.quiver b)) [
    | inr n ↦ cond-false _ _ 0 (ne_eqb _ _ n)
    | inl e ↦ cond-true _ _ 0 (eq-eqb _ _ e) ∙ ap (λ c. mul h.field c (becomes (concat w (arrow_path h.quiver b)) r)) (sum_over-zeros h.field words _ (λ v k. elim (cases_eq v.end (source h.quiver a)) [
      | inr n ↦ cond-false _ _ 0 (ne_eqb _ _ n)
      | inl i ↦ cond-true _ _ 0 (eq-eqb _ _ i) ∙ ap (mul h.field (f v)) (becomes-ends h rules (are_rules h words rules can) becomes red (concat v (arrow_path h.quiver a))
          (IsPath-concat h.quiver v (arrow_path h.quiver a) (can.word.only v k).0.path (IsPath-arrow h.quiver a can.allowed.quiver.ends la) i) w (λ z. d (sym e ∙ z))) ∙ mul_zero h.field (f v)
    ])) ∙ zero_mul h.field _
  ])

  -- what vanishes behind k arrows has images that vanish behind one more
  image_vanishes : (becomes : Path → Path → ℕ) → IsReduction h rules becomes → (k a : ℕ) → a < arrow_count h.quiver → (x : List ℕ) → (f : IsVanishingRow h words becomes k x)
      → (ys : List ℕ) (u w : ℕ) → Leads h.quiver u ys w → (k + 1) + length ys ≡ h.bound → (r : Path) → act_arrows h becomes words ys (act_arrow h becomes words a f.element) r ≡ 0
  unfolding act_arrows
  image_vanishes becomes red k a la x f [] u w l e r = f.vanishes (a ∷ []) (source h.quiver a) (target h.quiver a) (la, refl, refl) (omega (arith, e)) r
  image_vanishes becomes red k a la x f (b ∷ ys) u w l e r = elim (cases_eq (source h.quiver b) (target h.quiver a)) [
    | inl m ↦ f.vanishes (a ∷ b ∷ ys) (source h.quiver a) w (la, refl, (l.0, m, l.2)) (omega (arith, e)) r
    | inr d ↦ ap (λ y. act_arrows h becomes words ys y r) (fun_ext (arrows_apart becomes red a b la d f.element)) ∙ nothing_acts h becomes words ys r
  ]

  pub images-none : (products : SparseView) (k : ℕ) (old : List (List ℕ)) (m : ℕ) (span : RowsView) → m ≡ 0 → span.field ≡ h.field → span.columns ≡ length words → span.rows ≡ []
      → HasImages h words rules products k old m span
  images-none products k old m span z f c r = record {
    field_is = f;
    columns_are = c;
    has = λ i a li la l. absurd (omega (arith, l, z));
    vanish = λ becomes red v. subst (RowsVanish h words becomes (k + 1)) (sym r) (vanish-none h words becomes (k + 1));
  }

  module _ (products : SparseView) (all : AreAllProducts h words rules products) (k : ℕ) (old : List (List ℕ)) (i a : ℕ) (li : i < length old) (la : a < arrow_count h.quiver)
      (x : List ℕ) (xi : x ≡ get_or old i []) (xr : IsRow h.field (length words) x) (xs : IsInSpan h.field (length words) old x)
      (span : RowsView) (had : HasImages h words rules products k old (i * arrow_count h.quiver + a) span)
      (image : List ℕ) (is : image ≡ acted_by h.field products.rows (arrow_count h.quiver) a x) where
    last : (new : List (List ℕ)) → IsInSpan h.field (length words) new image → (j b : ℕ) → b < arrow_count h.quiver → j * arrow_count h.quiver + b ≡ i * arrow_count h.quiver + a
        → (length (get_or old j []) ≡ length words) × IsInSpan h.field (length words) new (acted_by h.field products.rows (arrow_count h.quiver) b (get_or old j []))
    last new s j b lb e =
        let parts = index_once (arrow_count h.quiver) j i b a lb la e in
        let row : get_or old j [] ≡ x = ap (λ y. get_or old y []) parts.0 ∙ sym xi in
        (ap length row ∙ xr.count, subst (IsInSpan h.field (length words) new) (is ∙ ap₂ (λ y z. acted_by h.field products.rows (arrow_count h.quiver) y z) (sym parts.1) (sym row)) s)

    pub images-push : (new : RowsView) → new.field ≡ span.field → new.columns ≡ span.columns → SameSpan h.field (length words) (span.rows ++ image ∷ []) new.rows
        → IsRow h.field (length words) image → HasImages h words rules products k old (i * arrow_count h.quiver + a + 1) new
    images-push new f c ss ir = record {
      field_is = f ∙ had.field_is;
      columns_are = c ∙ had.columns_are;
      has = λ j b lj lb l. elim (cases_lt (j * arrow_count h.quiver + b) (i * arrow_count h.quiver + a)) [
        | inl s ↦ let o = had.has j b lj lb s in (o.0, in_span_kept h.field (length words) span.rows new.rows image _ ss o.1)
        | inr s ↦ last new.rows (pushed_in_span h words span.rows new.rows image ir ss) j b lb (omega (arith, l, s))
      ];
      vanish = λ becomes red v.
          let g = v.elements x xs in
          let row : image ≡ row_of words (act_arrow h becomes words a g.element) =
          is ∙ ap (acted_by h.field products.rows (arrow_count h.quiver) a) (sym g.row) ∙ act_all h words rules can becomes red products.rows (all.known.products becomes red) all.count a la g.element in
          let made = arrows_of_words h words rules becomes (acted_on h words rules can becomes red) (a ∷ []) (one_arrow a la) g.element (record { small = g.small; outside = g.outside }) in
          vanish-same h words becomes (k + 1) (span.rows ++ image ∷ []) new.rows ss
          (subst (λ y. RowsVanish h words becomes (k + 1) (span.rows ++ y ∷ [])) (sym row)
          (vanish-push h words becomes (k + 1) span.rows (act_arrow h becomes words a g.element) (small_of becomes a g.element made) (outside_of becomes a g.element made)
          (image_vanishes becomes red k a la x g) (had.vanish becomes red v)));
    }
      where
        one_arrow : (a : ℕ) → a < arrow_count h.quiver → All (λ b. b < arrow_count h.quiver) (a ∷ [])
        one_arrow a l = All-cons (λ b. b < arrow_count h.quiver) a [] l (All-nil (λ b. b < arrow_count h.quiver))

        small_of : (becomes : Path → Path → ℕ) (a : ℕ) (f : Path → ℕ) → IsCombination h words (act_arrows h becomes words (a ∷ []) f) → (r : Path) → act_arrow h becomes words a f r < order h.field
        small_of becomes a f c r = one_small h words becomes a f c r

        outside_of : (becomes : Path → Path → ℕ) (a : ℕ) (f : Path → ℕ) → IsCombination h words (act_arrows h becomes words (a ∷ []) f) → (r : Path) → (Contains words r → ⊥) → act_arrow h becomes words a f r ≡ 0
        outside_of becomes a f c r d = one_outside h words becomes a f c r d

    pub images-skip : ((j : ℕ) → get_or image j 0 ≡ 0) → HasImages h words rules products k old (i * arrow_count h.quiver + a + 1) span
    images-skip z = record {
      field_is = had.field_is;
      columns_are = had.columns_are;
      has = λ j b lj lb l. elim (cases_lt (j * arrow_count h.quiver + b) (i * arrow_count h.quiver + a)) [
        | inl s ↦ had.has j b lj lb s
        | inr s ↦ last span.rows (zero_in h.field (length words) span.rows image (ap length is ∙ length-acted_to h.field products.rows (arrow_count h.quiver) a x (length x) ∙ xr.count) z) j b lb (omega (arith, l, s))
      ];
      vanish = had.vanish;
    }

  -- all images
  pub images-all : (products : SparseView) → AreAllProducts h words rules products → (k : ℕ) (old span new : RowsView) (m : ℕ) → m ≡ length old.rows * arrow_count h.quiver
      → SpansImages h words rules k old → HasImages h words rules products k old.rows m span → new.field ≡ span.field → new.columns ≡ span.columns
      → SameSpan h.field (length words) span.rows new.rows → SpansImages h words rules (k + 1) new
  images-all products all k old span new m e s g f c ss = record {
    field_is = f ∙ g.field_is;
    columns_are = c ∙ g.columns_are;
    images = λ becomes red. let o = s.images becomes red in record {
      has = λ v w xs lv l n. ss.forth _ (has becomes red o v w xs lv l n);
      vanish = λ lv. vanish-same h words becomes (k + 1) span.rows new.rows ss (g.vanish becomes red (o.vanish lv));
    };
  }
    where
      index : (i a : ℕ) → i < length old.rows → a < arrow_count h.quiver → i * arrow_count h.quiver + a < m
      index i a li la = omega (arith, e, mul-add-lt i (arrow_count h.quiver) a (length old.rows) li la)

      has : (becomes : Path → Path → ℕ) → IsReduction h rules becomes → AreImages h words becomes k old.rows → (v w : ℕ) (xs : List ℕ) → v < vertex_count h.quiver → Leads h.quiver v xs w
          → length xs ≡ k + 1 → IsInSpan h.field (length words) span.rows (row_of words (act_arrows h becomes words xs (path_element h.bound (trivial_path v))))
      has becomes red o v w xs lv l n =
          let front : List ℕ = take k xs in
          let a : ℕ = get_or xs k 0 in
          let split : xs ≡ front ++ a ∷ [] = sym (take_all (k + 1) xs (omega (arith, n))) ∙ take_more xs k 0 (omega (arith, n)) in
          let between = Leads-between h.quiver v front (a ∷ []) w (subst (λ y. Leads h.quiver v y w) split l) in
          let la : a < arrow_count h.quiver = between.2.0 in
          let old_in = o.has v between.0 front lv between.1 (length-take-le k xs (omega (arith, n))) in
          let image : acted_by h.field products.rows (arrow_count h.quiver) a (row_of words (act_arrows h becomes words front (path_element h.bound (trivial_path v))))
          ≡ row_of words (act_arrows h becomes words xs (path_element h.bound (trivial_path v))) =
          act_all h words rules can becomes red products.rows (all.known.products becomes red) all.count a la (act_arrows h becomes words front (path_element h.bound (trivial_path v)))
          ∙ ap (row_of words) (one_more h words becomes front a (path_element h.bound (trivial_path v)) ∙ ap (λ y. act_arrows h becomes words y (path_element h.bound (trivial_path v))) (sym split)) in
          subst (IsInSpan h.field (length words) span.rows) image (images_in h.field (length words) products.rows (arrow_count h.quiver) a old.rows span.rows
          (λ i li. (g.has i a li la (index i a li la)).0) (λ i li. (g.has i a li la (index i a li la)).1) _ old_in)

  -- ---- the images of the bound's length

  pub long-from_zero : (becomes : Path → Path → ℕ) → IsReduction h rules becomes → (rows : List (List ℕ)) → AreImages h words becomes h.bound rows → AreZero h.field (length words) rows → LongVanish h words becomes
  long-from_zero becomes red rows o z = record {
    long = λ p hp e w m r. elim (cases_eq p.start w.end) [
      | inr d ↦ starts_apart h becomes words p.arrows w p.start p.end (omega (arith, e, can.allowed.bound_from)) hp.leads d r
      | inl s ↦
          let hw = (can.word.only w m).0.path in
          let k = acted_on h words rules can becomes red in
          let zs : List ℕ = w.arrows ++ p.arrows in
          let leads : Leads h.quiver w.start zs p.end = Leads-append h.quiver w.start w.arrows w.end p.arrows p.end hw.leads (subst (λ x. Leads h.quiver x p.arrows p.end) s hp.leads) in
          let whole : take h.bound zs ++ drop h.bound zs ≡ zs = take-append-drop h.bound zs in
          let between = Leads-between h.quiver w.start (take h.bound zs) (drop h.bound zs) p.end (subst (λ y. Leads h.quiver w.start y p.end) (sym whole) leads) in
          let e0 : Path → ℕ = path_element h.bound (trivial_path w.start) in
          let front : act_arrows h becomes words (take h.bound zs) e0 ≡ (λ q. 0) =
          fun_ext (image_zero becomes red rows o z w.start between.0 (take h.bound zs) hw.starts between.1 (length-take-le h.bound zs (omega (arith, e, length-append w.arrows p.arrows)))) in
          ap (λ x. act_arrows h becomes words p.arrows x r) (sym (along_word h words rules becomes k w.arrows (trivial_path w.start) w (IsPath-trivial h.quiver w.start hw.starts) m refl refl))
          ∙ ap (λ x. x r) (sym (act_arrows-append h becomes words w.arrows p.arrows e0) ∙ ap (λ y. act_arrows h becomes words y e0) (sym whole) ∙ act_arrows-append h becomes words (take h.bound zs) (drop h.bound zs) e0)
          ∙ ap (λ x. act_arrows h becomes words (drop h.bound zs) x r) front ∙ nothing_acts h becomes words (drop h.bound zs) r
    ];
  }
    where
      image_zero : (becomes : Path → Path → ℕ) → IsReduction h rules becomes → (rows : List (List ℕ)) → AreImages h words becomes h.bound rows → AreZero h.field (length words) rows
          → (v w : ℕ) (xs : List ℕ) → v < vertex_count h.quiver → Leads h.quiver v xs w → length xs ≡ h.bound → (r : Path) → act_arrows h becomes words xs (path_element h.bound (trivial_path v)) r ≡ 0
      image_zero becomes red rows o z v w xs lv l n r =
          let k = acted_on h words rules can becomes red in
          let made = arrows_of_words h words rules becomes k xs (leads_arrows h.quiver v xs w l) (path_element h.bound (trivial_path v))
          (word_is_of_words h words rules becomes k (trivial_path v) (trivial_word h words rules becomes k v (IsPath-trivial h.quiver v lv))) in
          elim (cases_listed words r) [
            | inr d ↦ made.outside r d
            | inl c ↦ subst (λ y. act_arrows h becomes words xs (path_element h.bound (trivial_path v)) y ≡ 0) (word_at words c.0 r c.1 c.2)
                (sym (get_or-row_of words (act_arrows h becomes words xs (path_element h.bound (trivial_path v))) c.0 c.1) ∙ z.zero_at _ (o.has v w xs lv l n) c.0)
          ]

  pub zero-from_long : (becomes : Path → Path → ℕ) (rows : List (List ℕ)) → AreImages h words becomes h.bound rows → LongVanish h words becomes → AreZero h.field (length words) rows
  unfolding act_arrows
  zero-from_long becomes rows o lv = record {
    zero_at = λ x s j.
        let g = (o.vanish lv).elements x s in
        ap (λ y. get_or y j 0) (sym g.row) ∙ elim (cases_lt j (length words)) [
          | inl l ↦ get_or-row_of words g.element j l ∙ g.vanishes [] 0 0 refl (omega arith) (path_at words j)
          | inr l ↦ get_or-row_of_past words g.element j l
        ];
  }
