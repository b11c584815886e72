-- The quotient read off rows in reduced row form: the normal words are the columns without a pivot, and they are a basis.
use Rattle.std.proofs.Common.{ℕ, zero, suc, ◌≡◌, ◌≢◌, ◌<◌, ◌⊎◌, inl, inr, List, [], length, map, get_or, sym, ap, ap₂, ◌∙◌, subst, arith, mod-eq_of_lt}
use Rattle.std.specs.Prelude.{Contains}
use Rattle.std.proofs.lemmas.Bool.{cases_lt, cases_eq}
use Rattle.std.proofs.lemmas.List.{length-map}
use Rattle.std.proofs.lemmas.List.Elements.{All-map, All-weaker, All-contains_itself}
use Rattle.linear_algebra.specs.Field.{Gf, order, add, neg, sub}
use Rattle.linear_algebra.specs.FieldLaws.{sub_below, sub_def, sub_self, sub_eq_zero, add_below, add_comm, add_swap, add_neg, zero_add, neg_neg, neg-add, add-mod_right}
use Rattle.linear_algebra.specs.Rows.{IsRow, IsGrid, list_of, IsInSpan}
use Rattle.linear_algebra.specs.Reduced.{leading, pivot, IsReduced}
use Rattle.linear_algebra.proofs.Rows.{get_or-list_of, IsInSpan-row}
use Rattle.linear_algebra.proofs.ReducedSpans.{zero_from_pivots, leading_at_pivot, remainder, remainder-small, remainder-at_pivot, remainder_differs, sub_sub}
use Rattle.quiver_paths.specs.declared.Path.{Path}
use Rattle.path_algebra.specs.declared.Header.{Header}
use Rattle.path_algebra.specs.Elements.{path_element, combination}
use Rattle.path_algebra.specs.Ideals.{IsInIdeal, Congruent}
use Rattle.path_algebra.specs.Words.{IsShortPath, IsGreatestPath, IsNormal, AreNormalWords, IsExpansion, IsBasis}
use Rattle.path_algebra.specs.Rows.{path_at, row_of}
use Rattle.path_algebra.specs.Allowed.{IsAllowed}
use Rattle.path_algebra.proofs.ElementLemmas.{path_element-below, path_element_support, combination-below}
use Rattle.path_algebra.proofs.IdealLemmas.{IsInIdeal-below, IsInIdeal-same, IsInIdeal-sub, IsInIdeal_support}
use Rattle.path_algebra.proofs.Columns.{HasElement, AreColumns, get_or-row_of, IsRow-row_of, column_of, short_at, same_by_rows, leading-from_greatest, greatest-from_leading}
use Rattle.path_algebra.proofs.Combinations.{combination-outside, combination_support, map-same, AreDistinct, combination-map, coefficients_from_combination}

-- the combinations of the rows are the rows of the ideal's elements
pub record Represents (h : Header) (columns : List Path) (rows : List (List ℕ)) : Type 0 where
  pub sound : (x : List ℕ) → IsInSpan h.field (length columns) rows x → HasElement h columns x
  pub complete : (x : Path → ℕ) → IsInIdeal h x → IsInSpan h.field (length columns) rows (row_of columns x)

-- what is known of the rows of a quotient
pub record IsReducedIdeal (h : Header) (columns : List Path) (rows : List (List ℕ)) : Type 0 where
  pub allowed : IsAllowed h
  pub columns_are : AreColumns h columns
  pub grid : IsGrid h.field (length rows) (length columns) rows
  pub reduced : IsReduced (length columns) rows
  pub represents : Represents h columns rows

-- the column of a row's pivot is no normal word's
pub pivot_not_normal : (h : Header) (columns : List Path) (rows : List (List ℕ)) → IsReducedIdeal h columns rows → (i : ℕ) → i < length rows
    → IsNormal h (path_at columns (pivot rows i)) → ⊥
pivot_not_normal h columns rows r i l n =
    let e = r.represents.sound (get_or rows i []) (IsInSpan-row h.field (length rows) (length columns) rows i r.grid l) in
    let lead : leading (row_of columns e.element) ≡ pivot rows i = ap leading e.row in
    n.no_tip (record {
      element = e.element;
      in_ideal = e.in_ideal;
      greatest = subst (λ j. IsGreatestPath e.element (path_at columns j)) lead (greatest-from_leading h columns r.columns_are e.element
          (IsInIdeal_support h r.allowed e.element e.in_ideal) (subst (λ j. j < length columns) (sym lead) (r.reduced.nonzero i l)));
    })

-- a column that is no pivot is a normal word's
pub normal_outside_pivots : (h : Header) (columns : List Path) (rows : List (List ℕ)) → IsReducedIdeal h columns rows → (j : ℕ) → j < length columns
    → ((i : ℕ) → i < length rows → pivot rows i ≢ j) → IsNormal h (path_at columns j)
normal_outside_pivots h columns rows r j l n = record {
  short = short_at h columns r.columns_are j l;
  no_tip = λ e.
      let lead : leading (row_of columns e.element) ≡ j = leading-from_greatest h columns r.columns_are e.element j l e.greatest in
      let at = leading_at_pivot h.field (length rows) (length columns) rows (row_of columns e.element) r.grid r.reduced
      (r.represents.complete e.element e.in_ideal) (subst (λ k. k < length columns) (sym lead) l) in
      n at.0 at.1 (at.2 ∙ lead);
}

-- a column is a pivot or not
pub cases_pivot : (rows : List (List ℕ)) (m j : ℕ) → ((i : ℕ) × (i < m) × (pivot rows i ≡ j)) ⊎ ((i : ℕ) → i < m → pivot rows i ≢ j)
cases_pivot rows zero j = inr (λ i l. absurd (omega arith))
cases_pivot rows (suc m) j = elim (cases_pivot rows m j) [
  | inl p ↦ inl (p.0, (let b = p.1 in omega arith), p.2)
  | inr n ↦ elim (cases_eq (pivot rows m) j) [
    | inl e ↦ inl (m, omega arith, e)
    | inr d ↦ inr (λ i l. elim (cases_lt i m) [ inl b ↦ n i b | inr b ↦ (let same : m ≡ i = omega arith in subst (λ k. pivot rows k ≢ j) same d) ])
  ]
]

distinct_from_normal : (h : Header) (words : List Path) → AreNormalWords h words → AreDistinct h.bound words
distinct_from_normal h words w = record { ascending = w.ascending; short = λ p m. (w.only p m).short.short }

-- the difference of two elements that are zero but at short paths is so too
sub_support : (h : Header) (x y : Path → ℕ) → ((p : Path) → x p ≢ 0 → IsShortPath h p) → ((p : Path) → y p ≢ 0 → IsShortPath h p)
    → (p : Path) → sub h.field (x p) (y p) ≢ 0 → IsShortPath h p
sub_support h x y sx sy p n = elim (cases_eq (x p) 0) [
  | inl zx ↦ elim (cases_eq (y p) 0) [ inl zy ↦ absurd (n (ap₂ (sub h.field) zx zy ∙ sub_self h.field 0)) | inr ny ↦ sy p ny ]
  | inr nx ↦ sx p nx
]

words_support : (h : Header) (words : List Path) (c : List ℕ) → AreNormalWords h words → (p : Path) → combination h.field h.bound c words p ≢ 0 → IsShortPath h p
words_support h words c w p n = (w.only p (combination_support h.field h.bound c words p n)).short

path_support : (h : Header) (p r : Path) → IsShortPath h p → path_element h.bound p r ≢ 0 → IsShortPath h r
path_support h p r s n = subst (IsShortPath h) (path_element_support h.bound p r n).0 s

-- (e − b) − (e − a) = a − b
pub sub-sub_sub : (q : Gf) (e a b : ℕ) → sub q (sub q e b) (sub q e a) ≡ sub q a b
sub-sub_sub q e a b =
    sub_def q (sub q e b) (sub q e a)
    ∙ (ap₂ (λ x y. add q x (neg q y)) (sub_def q e b) (sub_def q e a)
    ∙ (ap (add q (add q e (neg q b))) (neg-add q e (neg q a))
    ∙ (add_swap q e (neg q b) (neg q e) (neg q (neg q a))
    ∙ (ap (λ x. add q x (add q (neg q b) (neg q (neg q a)))) (add_neg q e)
    ∙ (zero_add q _ (add_below q _ _)
    ∙ (ap (add q (neg q b)) (neg_neg q a)
    ∙ (add-mod_right q (neg q b) a
    ∙ (add_comm q (neg q b) a ∙ sym (sub_def q a b)))))))))

-- The expansion of a short path: what is left of it when the pivot columns are cleared, read at the words.
module _ (h : Header) (columns : List Path) (rows : List (List ℕ)) (r : IsReducedIdeal h columns rows) (words : List Path) (w : AreNormalWords h words)
    (p : Path) (s : IsShortPath h p) where
  abbrev x : List ℕ
  x = row_of columns (path_element h.bound p)

  x-row : IsRow h.field (length columns) x
  x-row = IsRow-row_of h.field columns (path_element h.bound p) (path_element-below h.field h.bound p)

  difference : HasElement h columns (list_of (length columns) (λ j. sub h.field (get_or x j 0) (get_or (remainder h.field (length columns) rows x) j 0)))
  difference = r.represents.sound _ (remainder_differs h.field (length columns) rows x)

  -- the path less a member of the ideal
  rest : Path → ℕ
  rest a = sub h.field (path_element h.bound p a) (difference.element a)

  rest-at : (j : ℕ) → j < length columns → rest (path_at columns j) ≡ get_or (remainder h.field (length columns) rows x) j 0
  unfolding rest
  rest-at j l =
      let z = get_or (remainder h.field (length columns) rows x) j 0 in
      let there : difference.element (path_at columns j) ≡ sub h.field (path_element h.bound p (path_at columns j)) z =
      sym (get_or-row_of columns difference.element j l) ∙ (ap (λ y. get_or y j 0) difference.row
      ∙ (get_or-list_of (length columns) _ j 0 l ∙ ap (λ a. sub h.field a z) (get_or-row_of columns (path_element h.bound p) j l))) in
      ap (sub h.field (path_element h.bound p (path_at columns j))) there
      ∙ (sub_sub h.field (path_element h.bound p (path_at columns j)) z ∙ mod-eq_of_lt (remainder-small h.field (length columns) rows x j))

  rest-below : (a : Path) → rest a < order h.field
  unfolding rest
  rest-below a = sub_below h.field _ _

  rest_support : (a : Path) → rest a ≢ 0 → IsShortPath h a
  unfolding rest
  rest_support a n = sub_support h (path_element h.bound p) difference.element (λ b. path_support h p b s) (IsInIdeal_support h r.allowed difference.element difference.in_ideal) a n

  abbrev coefficients : List ℕ
  coefficients = map rest words

  -- at a column
  rest-column : (j : ℕ) → j < length columns → rest (path_at columns j) ≡ combination h.field h.bound coefficients words (path_at columns j)
  rest-column j l = elim (cases_pivot rows (length rows) j) [
    | inl i ↦
        let zero_there : rest (path_at columns j) ≡ 0 = rest-at j l ∙ subst (λ k. get_or (remainder h.field (length columns) rows x) k 0 ≡ 0) i.2
        (remainder-at_pivot h.field (length rows) (length columns) rows x i.0 r.grid r.reduced x-row i.1) in
        let outside : combination h.field h.bound coefficients words (path_at columns j) ≡ 0 = combination-outside h.field h.bound coefficients words (path_at columns j)
        (λ m. pivot_not_normal h columns rows r i.0 i.1 (subst (λ k. IsNormal h (path_at columns k)) (sym i.2) (w.only _ m))) in
        zero_there ∙ sym outside
    | inr n ↦ sym (combination-map h.field h.bound rest words (path_at columns j) (distinct_from_normal h words w) rest-below
        (w.all _ (normal_outside_pivots h columns rows r j l n)))
  ]

  rest-is : (a : Path) → rest a ≡ combination h.field h.bound coefficients words a
  rest-is = same_by_rows h columns r.columns_are rest (combination h.field h.bound coefficients words) rest_support (words_support h words coefficients w) rest-column

  congruent : Congruent h (path_element h.bound p) (combination h.field h.bound coefficients words)
  unfolding rest
  congruent = IsInIdeal-same h difference.element _ (λ a.
      ap (sub h.field (path_element h.bound p a)) (sym (rest-is a))
      ∙ (sub_sub h.field (path_element h.bound p a) (difference.element a) ∙ mod-eq_of_lt (IsInIdeal-below h difference.element difference.in_ideal a))) difference.in_ideal

  expands : IsExpansion h words p coefficients
  expands = record {
    coefficients = record { count = length-map words rest; small = All-map (λ a. a < order h.field) rest words (λ k d l. rest-below _) };
    congruent = congruent;
  }

-- two combinations of normal words that differ by a member of the ideal are equal at the words
pub same_combination : (h : Header) (columns : List Path) (rows : List (List ℕ)) → IsReducedIdeal h columns rows → (words : List Path) → AreNormalWords h words
    → (a b : List ℕ) → Congruent h (combination h.field h.bound a words) (combination h.field h.bound b words)
    → (p : Path) → Contains words p → combination h.field h.bound a words p ≡ combination h.field h.bound b words p
same_combination h columns rows r words w a b e p m =
    let d : Path → ℕ = λ k. sub h.field (combination h.field h.bound a words k) (combination h.field h.bound b words k) in
    let at_pivot = λ (i : ℕ) (l : i < length rows). get_or-row_of columns d (pivot rows i) (r.reduced.nonzero i l) ∙ vanishes i l in
    let c = column_of h columns r.columns_are p (w.only p m).short in
    let z : d p ≡ 0 = sym (ap d c.is) ∙ (sym (get_or-row_of columns d c.place c.inside)
    ∙ zero_from_pivots h.field (length rows) (length columns) rows (row_of columns d) r.grid r.reduced (r.represents.complete d e) at_pivot c.place) in
    sub_eq_zero h.field _ _ (combination-below h.field h.bound a words p) (combination-below h.field h.bound b words p) z
  where
    not_word : (i : ℕ) → i < length rows → Contains words (path_at columns (pivot rows i)) → ⊥
    not_word i l n = pivot_not_normal h columns rows r i l (w.only _ n)

    vanishes : (i : ℕ) → i < length rows → sub h.field (combination h.field h.bound a words (path_at columns (pivot rows i))) (combination h.field h.bound b words (path_at columns (pivot rows i))) ≡ 0
    vanishes i l = ap₂ (sub h.field) (combination-outside h.field h.bound a words _ (not_word i l)) (combination-outside h.field h.bound b words _ (not_word i l)) ∙ sub_self h.field 0

-- an expansion of a path into normal words is the one above
only_expansion : (h : Header) (columns : List Path) (rows : List (List ℕ)) → IsReducedIdeal h columns rows → (words : List Path) → AreNormalWords h words
    → (p : Path) (a b : List ℕ) → IsExpansion h words p a → IsExpansion h words p b → b ≡ a
only_expansion h columns rows r words w p a b x y =
    let d : Congruent h (combination h.field h.bound b words) (combination h.field h.bound a words) =
    IsInIdeal-same h _ _ (λ k. sym (sub-sub_sub h.field (path_element h.bound p k) (combination h.field h.bound b words k) (combination h.field h.bound a words k)))
    (IsInIdeal-sub h _ _ x.congruent y.congruent) in
    sym (coefficients_from_combination h.field h.bound words b (distinct_from_normal h words w) y.coefficients.count y.coefficients.small)
    ∙ (map-same _ _ words (same_combination h columns rows r words w b a d)
    ∙ coefficients_from_combination h.field h.bound words a (distinct_from_normal h words w) x.coefficients.count x.coefficients.small)

-- The normal words are a basis of the quotient.
pub normal_words_basis : (h : Header) (columns : List Path) (rows : List (List ℕ)) → IsReducedIdeal h columns rows → (words : List Path) → AreNormalWords h words → IsBasis h words
normal_words_basis h columns rows r words w = record {
  paths = All-weaker (Contains words) (IsShortPath h) (λ p m. (w.only p m).short) words (All-contains_itself words);
  expands = λ p s. record {
    expansion = coefficients h columns rows r words w p s;
    expands = expands h columns rows r words w p s;
    unique = λ c e. only_expansion h columns rows r words w p _ c (expands h columns rows r words w p s) e;
  };
}
