-- Elements as rows over the list of all short paths, the greatest first.
use Rattle.std.proofs.Common.{ℕ, ◌≡◌, ◌≢◌, ◌<◌, ◌⊎◌, inl, inr, List, length, get_or, sym, ap, ◌∙◌, subst, arith}
use Rattle.std.specs.Prelude.{Contains, AllPairs}
use Rattle.std.proofs.lemmas.Bool.{cases_lt, cases_eq, cases_order}
use Rattle.std.proofs.lemmas.List.{get_or_default}
use Rattle.std.proofs.lemmas.List.Elements.{Contains-get_or}
use Rattle.linear_algebra.specs.Field.{Gf, order}
use Rattle.linear_algebra.specs.FieldLaws.{order-pos}
use Rattle.linear_algebra.specs.Rows.{IsRow}
use Rattle.linear_algebra.specs.Reduced.{leading}
use Rattle.linear_algebra.proofs.Rows.{length-list_of, get_or-list_of, get_or-list_of_past}
use Rattle.linear_algebra.proofs.Reduced.{leading_is, before_leading, at_leading}
use Rattle.quiver_paths.specs.declared.Path.{Path}
use Rattle.quiver_paths.specs.Path.{trivial_path}
use Rattle.quiver_paths.specs.PathOrder.{IsSmaller}
use Rattle.quiver_paths.proofs.PathOrderLemmas.{IsSmaller-irreflexive, IsSmaller-asymmetric}
use Rattle.path_algebra.specs.declared.Header.{Header}
use Rattle.path_algebra.specs.Ideals.{IsInIdeal}
use Rattle.path_algebra.specs.Rows.{path_at, row_of}
use Rattle.path_algebra.specs.Words.{IsShortPath, IsGreatestPath}

-- the list has all short paths, the greatest first
pub record AreColumns (h : Header) (columns : List Path) : Type 0 where
  pub descending : AllPairs (λ p r. IsSmaller r p) columns
  pub all : (p : Path) → IsShortPath h p → Contains columns p
  pub only : (p : Path) → Contains columns p → IsShortPath h p

-- an element of the ideal with this row
pub record HasElement (h : Header) (columns : List Path) (x : List ℕ) : Type 0 where
  pub element : Path → ℕ
  pub in_ideal : IsInIdeal h element
  pub row : row_of columns element ≡ x

pub length-row_of : (columns : List Path) (x : Path → ℕ) → length (row_of columns x) ≡ length columns
unfolding row_of
length-row_of columns x = length-list_of (length columns) _

pub get_or-row_of : (columns : List Path) (x : Path → ℕ) (j : ℕ) → j < length columns → get_or (row_of columns x) j 0 ≡ x (path_at columns j)
unfolding row_of
get_or-row_of columns x j h = get_or-list_of (length columns) _ j 0 h

pub IsRow-row_of : (q : Gf) (columns : List Path) (x : Path → ℕ) → ((p : Path) → x p < order q) → IsRow q (length columns) (row_of columns x)
unfolding row_of
IsRow-row_of q columns x s = record {
  count = length-row_of columns x;
  small = λ j. elim (cases_lt j (length columns)) [
    | inl h ↦ rw (get_or-row_of columns x j h) (s (path_at columns j))
    | inr h ↦ rw (get_or-list_of_past (length columns) (λ k. x (path_at columns k)) j 0 h) (order-pos q)
  ];
}

-- the column of a short path
pub record HasColumn (columns : List Path) (p : Path) : Type 0 where
  pub place : ℕ
  pub inside : place < length columns
  pub is : path_at columns place ≡ p

pub column_of : (h : Header) (columns : List Path) → AreColumns h columns → (p : Path) → IsShortPath h p → HasColumn columns p
unfolding path_at
column_of h columns a p s =
    let c = a.all p s in
    record { place = c.0; inside = c.1; is = get_or_default columns c.0 (trivial_path 0) p c.1 ∙ c.2 }

pub short_at : (h : Header) (columns : List Path) → AreColumns h columns → (j : ℕ) → j < length columns → IsShortPath h (path_at columns j)
unfolding path_at
short_at h columns a j l = a.only _ (Contains-get_or columns j (trivial_path 0) l)

-- different columns have different paths
pub column_once : (h : Header) (columns : List Path) → AreColumns h columns → (i j : ℕ) → i < length columns → j < length columns
    → path_at columns i ≡ path_at columns j → i ≡ j
unfolding path_at
column_once h columns a i j l k e = elim (cases_order i j) [
  | inl same ↦ same
  | inr (inl lt) ↦ absurd (IsSmaller-irreflexive (path_at columns j) (subst (IsSmaller (path_at columns j)) e (a.descending i j (trivial_path 0) lt k)))
  | inr (inr gt) ↦ absurd (IsSmaller-irreflexive (path_at columns i) (subst (IsSmaller (path_at columns i)) (sym e) (a.descending j i (trivial_path 0) gt l)))
]

-- members of an element's row: it is known by its row where it is zero but at short paths
pub same_by_rows : (h : Header) (columns : List Path) → AreColumns h columns → (x y : Path → ℕ) → ((p : Path) → x p ≢ 0 → IsShortPath h p)
    → ((p : Path) → y p ≢ 0 → IsShortPath h p) → ((j : ℕ) → j < length columns → x (path_at columns j) ≡ y (path_at columns j)) → (p : Path) → x p ≡ y p
same_by_rows h columns a x y sx sy e p = elim (cases_eq (x p) 0) [
  | inl zx ↦ elim (cases_eq (y p) 0) [ inl zy ↦ zx ∙ sym zy | inr ny ↦ at_short (sy p ny) ]
  | inr nx ↦ at_short (sx p nx)
]
  where
    at_short : IsShortPath h p → x p ≡ y p
    at_short s = let c = column_of h columns a p s in subst (λ r. x r ≡ y r) c.is (e c.place c.inside)

-- the greatest path of an element is the path of the first column at which its row is not zero
pub leading-from_greatest : (h : Header) (columns : List Path) → AreColumns h columns → (x : Path → ℕ) (j : ℕ) → j < length columns
    → IsGreatestPath x (path_at columns j) → leading (row_of columns x) ≡ j
unfolding path_at
leading-from_greatest h columns a x j l g = leading_is (row_of columns x) j (rw (length-row_of columns x) l)
    (λ i b. get_or-row_of columns x i (omega arith) ∙ before i b)
    (λ e. g.nonzero (sym (get_or-row_of columns x j l) ∙ e))
  where
    before : (i : ℕ) → i < j → x (path_at columns i) ≡ 0
    before i b = elim (cases_eq (x (path_at columns i)) 0) [
      | inl e ↦ e
      | inr n ↦ elim (g.greatest (path_at columns i) n) [
        | inl same ↦ absurd (let w : i ≡ j = column_once h columns a i j (omega arith) l same in omega arith)
        | inr smaller ↦ absurd (IsSmaller-asymmetric (path_at columns i) (path_at columns j) smaller (a.descending i j (trivial_path 0) b l))
      ]
    ]

pub greatest-from_leading : (h : Header) (columns : List Path) → AreColumns h columns → (x : Path → ℕ) → ((p : Path) → x p ≢ 0 → IsShortPath h p)
    → leading (row_of columns x) < length columns → IsGreatestPath x (path_at columns (leading (row_of columns x)))
unfolding path_at
greatest-from_leading h columns a x s l = record {
  nonzero = λ e. at_leading (row_of columns x) (rw (length-row_of columns x) l) (get_or-row_of columns x _ l ∙ e);
  greatest = λ r n. at_path r n (column_of h columns a r (s r n));
}
  where
    at_path : (r : Path) → x r ≢ 0 → HasColumn columns r → (r ≡ path_at columns (leading (row_of columns x))) ⊎ IsSmaller r (path_at columns (leading (row_of columns x)))
    at_path r n c = elim (cases_order c.place (leading (row_of columns x))) [
      | inl same ↦ inl (sym c.is ∙ ap (path_at columns) same)
      | inr (inl lt) ↦ absurd (n (sym (ap x c.is) ∙ (sym (get_or-row_of columns x c.place c.inside) ∙ before_leading (row_of columns x) c.place lt)))
      | inr (inr gt) ↦ inr (subst (λ p. IsSmaller p (path_at columns (leading (row_of columns x)))) c.is (a.descending _ c.place (trivial_path 0) gt c.inside))
    ]
