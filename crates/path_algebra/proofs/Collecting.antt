-- Collecting the products of the relations: what one more row does, and what the rows are in the end.
use Rattle.std.proofs.Common.{ℕ, ◌≡◌, ◌≢◌, ◌<◌, inl, inr, List, [], ◌∷◌, ◌++◌, length, get_or, All, refl, sym, ap, ap₂, ◌∙◌, subst, arith, length-append}
use Rattle.std.specs.Prelude.{Contains}
use Rattle.std.proofs.lemmas.Bool.{cases_lt, cases_eq}
use Rattle.std.proofs.lemmas.List.Elements.{All-head, All-tail}
use Rattle.linear_algebra.specs.Field.{Gf, add, mul}
use Rattle.linear_algebra.specs.FieldLaws.{zero_mul, one_mul, add_zero, zero_add}
use Rattle.linear_algebra.specs.Sums.{sum-none}
use Rattle.linear_algebra.specs.Rows.{IsRow, list_of, zeros, times, IsInSpan, SameSpan}
use Rattle.linear_algebra.proofs.Rows.{get_or-list_of, list_of-is, list_of-same, IsRow-times, IsInSpan-multiple, IsInSpan-sum}
use Rattle.linear_algebra.proofs.Reduced.{IsInSpan-zeros}
use Rattle.linear_algebra.proofs.SpanPush.{SplitsOff, SplitsOff-from_span, IsInSpan-from_split, sum_with}
use Rattle.quiver_paths.specs.declared.Path.{Path}
use Rattle.quiver_paths.specs.Path.{path_length}
use Rattle.path_algebra.specs.declared.Header.{Header}
use Rattle.path_algebra.specs.declared.Relation.{Relation}
use Rattle.path_algebra.specs.Elements.{middle, product_between}
use Rattle.path_algebra.specs.Ideals.{Summand, IsSummand, relation_element, summand_element, sum_of_summands, IsInIdeal}
use Rattle.path_algebra.specs.Words.{IsShortPath}
use Rattle.path_algebra.specs.Rows.{path_at, row_of}
use Rattle.path_algebra.proofs.Between.{composite, composite-middle}
use Rattle.path_algebra.proofs.ElementLemmas.{product_support, product-below, sum_of_terms-below}
use Rattle.path_algebra.proofs.IdealLemmas.{IsInIdeal-zero, IsInIdeal-add, IsInIdeal-mul}
use Rattle.path_algebra.proofs.Columns.{HasElement, length-row_of, get_or-row_of, IsRow-row_of}

-- the row of u r v, r being a relation
abbrev pub product_row : Header → List Path → Path → Relation → Path → List ℕ
product_row h columns u r v = row_of columns (product_between h.bound u (relation_element h r) v)

-- the combinations of the rows are rows of members of the ideal
pub record AreInIdeal (h : Header) (columns : List Path) (rows : List (List ℕ)) : Type 0 where
  pub elements : (x : List ℕ) → IsInSpan h.field (length columns) rows x → HasElement h columns x

-- the rows have the products of each relation with any short path on each side
pub record HasProducts (h : Header) (columns : List Path) (rows : List (List ℕ)) : Type 0 where
  pub products : (u : Path) (r : Relation) (v : Path) → IsShortPath h u → Contains h.relations r → IsShortPath h v
      → IsInSpan h.field (length columns) rows (product_row h columns u r v)

pub IsRow-product_row : (h : Header) (columns : List Path) (u : Path) (r : Relation) (v : Path) → IsRow h.field (length columns) (product_row h columns u r v)
IsRow-product_row h columns u r v = IsRow-row_of h.field columns _ (λ p.
    product-below h.field h.bound u (relation_element h r) v p (sum_of_terms-below h.field h.bound r.terms))

pub no_rows : (h : Header) (columns : List Path) (x : List ℕ) → IsInSpan h.field (length columns) [] x → row_of columns (λ p. 0) ≡ x
unfolding row_of times
no_rows h columns x s = list_of-same (length columns) (λ j. 0) _ 0 (λ j l. sym (sum-none h.field _)) ∙ s.1

-- the row of a sum of an element and a multiple of another
pub row_of-sum : (h : Header) (columns : List Path) (y e : Path → ℕ) (c : ℕ) (rest : List ℕ) → row_of columns y ≡ rest
    → row_of columns (λ p. add h.field (y p) (mul h.field c (e p))) ≡ sum_with h.field (length columns) rest c (row_of columns e)
unfolding sum_with
row_of-sum h columns y e c rest r = list_of-is (length columns) _ _ 0 (length-row_of columns _) (λ j l.
    get_or-row_of columns _ j l ∙ ap₂ (λ a b. add h.field a (mul h.field c b)) (sym (get_or-row_of columns y j l) ∙ ap (λ z. get_or z j 0) r) (sym (get_or-row_of columns e j l)))

-- a row and no multiple of another; no row and another
pub sum_with-none : (q : Gf) (n : ℕ) (x r : List ℕ) → IsRow q n x → sum_with q n x 0 r ≡ x
unfolding sum_with
sum_with-none q n x r i = sym (list_of-is n _ x 0 i.count (λ j l. sym (ap (add q (get_or x j 0)) (zero_mul q (get_or r j 0)) ∙ add_zero q _ (i.small j))))

sum_with-alone : (q : Gf) (n : ℕ) (x : List ℕ) → IsRow q n x → sum_with q n (zeros n) 1 x ≡ x
unfolding sum_with zeros
sum_with-alone q n x i = sym (list_of-is n _ x 0 i.count (λ j l.
    sym (ap₂ (add q) (get_or-list_of n (λ _. 0) j 0 l) (one_mul q _ (i.small j)) ∙ zero_add q _ (i.small j))))

pub IsRow-span : (q : Gf) (n : ℕ) (rows : List (List ℕ)) (x : List ℕ) → IsInSpan q n rows x → IsRow q n x
IsRow-span q n rows x s = subst (IsRow q n) s.1 (IsRow-times q n s.0 rows)

-- the span of no rows has the zero row alone
pub AreInIdeal-none : (h : Header) (columns : List Path) → AreInIdeal h columns []
AreInIdeal-none h columns = record { elements = λ x s. record { element = λ p. 0; in_ideal = IsInIdeal-zero h; row = no_rows h columns x s } }

-- one more row, of a member of the ideal
pub AreInIdeal-push : (h : Header) (columns : List Path) (rows : List (List ℕ)) (e : Path → ℕ) → IsInIdeal h e → AreInIdeal h columns rows
    → AreInIdeal h columns (rows ++ row_of columns e ∷ [])
AreInIdeal-push h columns rows e m a = record { elements = λ x s. split x (SplitsOff-from_span h.field (length columns) rows (row_of columns e) x s) }
  where
    split : (x : List ℕ) → SplitsOff h.field (length columns) rows (row_of columns e) x → HasElement h columns x
    split x s = let y = a.elements s.rest s.in_span in record {
      element = λ p. add h.field (y.element p) (mul h.field s.factor (e p));
      in_ideal = IsInIdeal-add h y.element (λ p. mul h.field s.factor (e p)) y.in_ideal (IsInIdeal-mul h s.factor e m);
      row = row_of-sum h columns y.element e s.factor s.rest y.row ∙ s.whole;
    }

pub pushed_in_span : (h : Header) (columns : List Path) (old new : List (List ℕ)) (x : List ℕ) → IsRow h.field (length columns) x
    → SameSpan h.field (length columns) (old ++ x ∷ []) new → IsInSpan h.field (length columns) new x
pushed_in_span h columns old new x i s = s.forth x (IsInSpan-from_split h.field (length columns) old x x (record { rest = zeros (length columns); factor = 1; in_span = IsInSpan-zeros h.field (length columns) old; whole = sum_with-alone h.field (length columns) x i }))

product_row-zero : (h : Header) (columns : List Path) (u : Path) (r : Relation) (v : Path) → ((p : Path) → product_between h.bound u (relation_element h r) v p ≡ 0)
    → product_row h columns u r v ≡ zeros (length columns)
unfolding row_of zeros
product_row-zero h columns u r v z = list_of-same (length columns) _ _ 0 (λ j l. z (path_at columns j))

zero_in_span : (h : Header) (columns : List Path) (rows : List (List ℕ)) (u v : Path) (r : Relation) → ((p : Path) → product_between h.bound u (relation_element h r) v p ≡ 0)
    → IsInSpan h.field (length columns) rows (product_row h columns u r v)
zero_in_span h columns rows u v r z = subst (IsInSpan h.field (length columns) rows) (sym (product_row-zero h columns u r v z)) (IsInSpan-zeros h.field (length columns) rows)

zeros-row : (h : Header) (columns : List Path) → zeros (length columns) ≡ row_of columns (sum_of_summands h [])
unfolding row_of zeros sum_of_summands
zeros-row h columns = refl

sum-row : (h : Header) (columns : List Path) (s : Summand) (rest : List Summand)
    → list_of (length columns) (λ j. add h.field (get_or (list_of (length columns) (λ k. mul h.field s.coefficient (get_or (row_of columns (product_between h.bound s.left (relation_element h s.relation) s.right)) k 0))) j 0)
    (get_or (row_of columns (sum_of_summands h rest)) j 0))
    ≡ row_of columns (sum_of_summands h (s ∷ rest))
unfolding sum_of_summands summand_element
sum-row h columns s rest = sym (list_of-is (length columns) _ _ 0 (length-row_of columns _) (λ j l.
    get_or-row_of columns _ j l ∙ ap₂ (add h.field)
    (ap (mul h.field s.coefficient) (sym (get_or-row_of columns _ j l)) ∙ sym (get_or-list_of (length columns) _ j 0 l))
    (sym (get_or-row_of columns (sum_of_summands h rest) j l))))

-- where a product u r v is not zero, u and v are short
short_sides : (h : Header) (u v : Path) (x : Path → ℕ) (p : Path) → product_between h.bound u x v p ≢ 0 → (path_length u < h.bound) × (path_length v < h.bound)
short_sides h u v x p n =
    let s = product_support h.bound u x v p n in
    let l : path_length (composite u (middle u v p) v) < h.bound = subst (λ w. path_length w < h.bound) (sym (composite-middle u v p s.between)) s.short in (
      omega (arith, length-append u.arrows ((middle u v p).arrows ++ v.arrows), length-append (middle u v p).arrows v.arrows),
      omega (arith, length-append u.arrows ((middle u v p).arrows ++ v.arrows), length-append (middle u v p).arrows v.arrows),
    )

product_in_span : (h : Header) (columns : List Path) (rows : List (List ℕ)) → HasProducts h columns rows → (s : Summand) → IsSummand h s
    → IsInSpan h.field (length columns) rows (row_of columns (product_between h.bound s.left (relation_element h s.relation) s.right))
product_in_span h columns rows a s l = elim (cases_lt (path_length s.left) h.bound) [
  | inl b ↦ elim (cases_lt (path_length s.right) h.bound) [
    | inl c ↦ there (record { path = l.left; short = b }) (record { path = l.right; short = c })
    | inr c ↦ nothing (λ p. elim (cases_eq (product_between h.bound s.left (relation_element h s.relation) s.right p) 0) [ inl e ↦ e | inr n ↦ absurd (let q = short_sides h s.left s.right (relation_element h s.relation) p n in omega (arith, q.1)) ])
  ]
  | inr b ↦ nothing (λ p. elim (cases_eq (product_between h.bound s.left (relation_element h s.relation) s.right p) 0) [ inl e ↦ e | inr n ↦ absurd (let q = short_sides h s.left s.right (relation_element h s.relation) p n in omega (arith, q.0)) ])
]
  where
    there : IsShortPath h s.left → IsShortPath h s.right → IsInSpan h.field (length columns) rows (row_of columns (product_between h.bound s.left (relation_element h s.relation) s.right))
    there x y = a.products s.left s.relation s.right x l.relation y

    nothing : ((p : Path) → product_between h.bound s.left (relation_element h s.relation) s.right p ≡ 0) → IsInSpan h.field (length columns) rows (row_of columns (product_between h.bound s.left (relation_element h s.relation) s.right))
    nothing z = zero_in_span h columns rows s.left s.right s.relation z

-- the row of each sum of summands is a combination of the rows
sum_in_span : (h : Header) (columns : List Path) (rows : List (List ℕ)) → HasProducts h columns rows → (summands : List Summand) → All (IsSummand h) summands
    → IsInSpan h.field (length columns) rows (row_of columns (sum_of_summands h summands))
unfolding sum_of_summands summand_element
sum_in_span h columns rows a [] l = subst (IsInSpan h.field (length columns) rows) (zeros-row h columns) (IsInSpan-zeros h.field (length columns) rows)
sum_in_span h columns rows a (s ∷ rest) l = subst (IsInSpan h.field (length columns) rows) (sum-row h columns s rest)
    (IsInSpan-sum h.field (length columns) rows _ _
    (IsInSpan-multiple h.field (length columns) rows s.coefficient _ (product_in_span h columns rows a s (All-head (IsSummand h) s rest l)))
    (sum_in_span h columns rows a rest (All-tail (IsSummand h) s rest l)))

pub complete_rows : (h : Header) (columns : List Path) (rows : List (List ℕ)) → HasProducts h columns rows → (x : Path → ℕ) → IsInIdeal h x
    → IsInSpan h.field (length columns) rows (row_of columns x)
unfolding row_of
complete_rows h columns rows a x m = subst (IsInSpan h.field (length columns) rows)
    (list_of-same (length columns) _ _ 0 (λ j l. sym (m.value (path_at columns j)))) (sum_in_span h columns rows a m.summands m.lawful)
