-- Whether lines have different names and fit at them.
use Rattle.std.proofs.Common.{ℕ, zero, suc, ◌≡◌, ◌<◌, ◌≤◌, ◌+◌, Bool, true, false, inl, inr, List, [], ◌∷◌, length, drop, get_or, cond, refl, sym, ap, ◌∙◌, subst, arith, add-one}
use Rattle.std.specs.Prelude.{All, Some, find, nat_eq, ◌&&◌, ◌||◌, not, slice_index_or}
use Rattle.std.specs.Cmp.Lexicographic.{pointwise}
use Rattle.std.proofs.Math.ListN.{drop_of_length-le}
use Rattle.std.proofs.Math.Seq.{drop-cons}
use Rattle.std.proofs.lemmas.Bool.{cases_eq, and_from, and_left, and_right, not_from_true, not_from_false, true≢false}
use Rattle.std.proofs.lemmas.List.{get_or-map, get_or_default, length-map}
use Rattle.std.proofs.lemmas.List.Elements.{All-from_get_or, All-nil, All-head, All-tail}
use Rattle.std.proofs.lemmas.List.Folds.{list_any_none, list_any_at}
use Rattle.linear_algebra.specs.Field.{Gf}
use Rattle.script_types.specs.declared.AtLine.{AtLine}
use Rattle.script_types.specs.Ranges.{IsRow}
use Rattle.script_answers.specs.FirstTests.{all_different}
use Rattle.script_answers.specs.Written.{line_names, line_rows, rows_at_name, rows_fit, line_fits, lines_fit}
use Rattle.written_modules.specs.Lines.{HoldRows}
use Rattle.written_modules.proofs.Firsts.{find_first, find_none}

-- ---- names

pub name_at : (lines : List AtLine) (i : ℕ) (l : AtLine) → i < length lines → l ≡ slice_index_or lines i l → l.name ≡ get_or (line_names lines) i []
name_at lines i l inside e = ap (λ (l : AtLine). l.name) e ∙ sym (get_or-map (λ (l : AtLine). l.name) lines i l [] inside)

-- the first n names are others than this one
pub record NamesOtherThan (name : List ℕ) (names : List (List ℕ)) (n : ℕ) : Type 0 where
  pub at : (i : ℕ) → i < n → pointwise nat_eq (get_or names i []) name ≡ false

pub other_more : (lines : List AtLine) (name : List ℕ) (n : ℕ) (l : AtLine) → n < length lines → l ≡ slice_index_or lines n l → pointwise nat_eq l.name name ≡ false → NamesOtherThan name (line_names lines) n → NamesOtherThan name (line_names lines) (n + 1)
other_more lines name n l inside e apart u = record {
  at = λ i b. elim (cases_eq i n) [
    | inl same ↦ ap (λ i. pointwise nat_eq (get_or (line_names lines) i []) name) same ∙ ap (λ (x : List ℕ). pointwise nat_eq x name) (sym (name_at lines n l inside e)) ∙ apart
    | inr other ↦ u.at i (omega (arith, b, other))
  ];
}

pub same_at : (lines : List AtLine) (name : List ℕ) (n : ℕ) (l : AtLine) → n < length lines → l ≡ slice_index_or lines n l → pointwise nat_eq l.name name ≡ true → pointwise nat_eq (get_or (line_names lines) n []) name ≡ true
same_at lines name n l inside e passes = ap (λ (x : List ℕ). pointwise nat_eq x name) (sym (name_at lines n l inside e)) ∙ passes

pub record DifferBelow (names : List (List ℕ)) (n : ℕ) : Type 0 where
  pub at : (i j : ℕ) → i < j → j < n → pointwise nat_eq (get_or names i []) (get_or names j []) ≡ false

pub differ_more : (lines : List AtLine) (n : ℕ) (l : AtLine) → n < length lines → l ≡ slice_index_or lines n l → ((i : ℕ) → i < n → pointwise nat_eq (get_or (line_names lines) i []) l.name ≡ false) → DifferBelow (line_names lines) n → DifferBelow (line_names lines) (n + 1)
differ_more lines n l inside e apart u = record {
  at = λ i j a b. elim (cases_eq j n) [
    | inl same ↦ ap (λ j. pointwise nat_eq (get_or (line_names lines) i []) (get_or (line_names lines) j [])) same
        ∙ ap (pointwise nat_eq (get_or (line_names lines) i [])) (sym (name_at lines n l inside e)) ∙ apart i (omega (arith, a, same))
    | inr other ↦ u.at i j a (omega (arith, b, other))
  ];
}

pub all_differ : (names : List (List ℕ)) (n : ℕ) → length names ≤ n → DifferBelow names n → all_different names ≡ true
all_differ [] n l d = refl
all_differ (x ∷ names) zero l d = absurd (omega arith)
all_differ (x ∷ names) (suc n) l d = and_from _ _
    (not_from_false _ (list_any_none (pointwise nat_eq x) names (All-from_get_or (λ y. pointwise nat_eq x y ≡ false) names [] (λ j m. d.at zero (suc j) (omega arith) (omega arith)))))
    (all_differ names n (omega arith) (record { at = λ i j a b. d.at (suc i) (suc j) (omega arith) (omega arith) }))

pub two_agree : (names : List (List ℕ)) (i j : ℕ) → i < j → j < length names → pointwise nat_eq (get_or names i []) (get_or names j []) ≡ true → all_different names ≡ false
two_agree [] i j a b e = absurd (omega arith)
two_agree (x ∷ names) i zero a b e = absurd (omega arith)
two_agree (x ∷ names) zero (suc j) a b e = and_left _ _ (not_from_true _ (list_any_at (pointwise nat_eq x) names j [] (omega arith) e))
two_agree (x ∷ names) (suc i) (suc j) a b e = and_right _ _ (two_agree names i j (omega arith) (omega arith) e)

-- ---- a line at names

module _ (m n : ℕ → ℕ) (l : AtLine) where
  pub fits_step : (names : List (List ℕ)) (k : ℕ) (name : List ℕ) → k < length names → name ≡ slice_index_or names k name
      → line_fits m n l k (drop k names) ≡ ((not (pointwise nat_eq name l.name) || rows_fit (m k) (n k) l.rows) && line_fits m n l (k + 1) (drop (k + 1) names))
  fits_step names k name b e =
      ap (line_fits m n l k) (drop-cons names k name b)
      ∙ ap (λ (name : List ℕ). (not (pointwise nat_eq name l.name) || rows_fit (m k) (n k) l.rows) && line_fits m n l (suc k) (drop (suc k) names)) (sym e)
      ∙ ap (λ j. (not (pointwise nat_eq name l.name) || rows_fit (m k) (n k) l.rows) && line_fits m n l j (drop j names)) (sym (add-one k))

  pub fits_end : (names : List (List ℕ)) (k : ℕ) → length names ≤ k → line_fits m n l k (drop k names) ≡ true
  fits_end names k b = ap (line_fits m n l k) (drop_of_length-le names b)

  fits_at : (names : List (List ℕ)) (j i : ℕ) → line_fits m n l j names ≡ true → i < length names → pointwise nat_eq (get_or names i []) l.name ≡ true → rows_fit (m (j + i)) (n (j + i)) l.rows ≡ true
  fits_at [] j i e b p = absurd (omega arith)
  fits_at (name ∷ names) j zero e b p =
      let at : j + 0 ≡ j = omega arith in
      subst (λ k. rows_fit (m k) (n k) l.rows ≡ true) (sym at) (here (pointwise nat_eq name l.name) (rows_fit (m j) (n j) l.rows) (line_fits m n l (suc j) names) p e)
    where
      here : (a b c : Bool) → a ≡ true → ((not a || b) && c) ≡ true → b ≡ true
      here true true c p e = refl
      here true false c p e = e
      here false b c p e = absurd (true≢false (sym p))
  fits_at (name ∷ names) j (suc i) e b p =
      let at : suc j + i ≡ j + suc i = omega arith in
      subst (λ k. rows_fit (m k) (n k) l.rows ≡ true) at (fits_at names (suc j) i (behind (not (pointwise nat_eq name l.name) || rows_fit (m j) (n j) l.rows) (line_fits m n l (suc j) names) e) (omega arith) p)
    where
      behind : (a b : Bool) → (a && b) ≡ true → b ≡ true
      behind true b e = e
      behind false b e = absurd (true≢false (sym e))

  pub fits_at_name : (names : List (List ℕ)) (i : ℕ) → line_fits m n l 0 names ≡ true → i < length names → pointwise nat_eq (get_or names i []) l.name ≡ true → rows_fit (m i) (n i) l.rows ≡ true
  fits_at_name names i e b p = let at : 0 + i ≡ i = omega arith in subst (λ k. rows_fit (m k) (n k) l.rows ≡ true) at (fits_at names 0 i e b p)

-- ---- the line at a name

front_passes : (a b : Bool) → (a && b) ≡ true → a ≡ true
front_passes true b e = refl
front_passes false b e = e

rest_passes : (a b : Bool) → (a && b) ≡ true → b ≡ true
rest_passes true b e = e
rest_passes false b e = absurd (true≢false (sym e))

abbrev has_name : List ℕ → AtLine → Bool
has_name name l = pointwise nat_eq name l.name

fit_choice : (m n : ℕ) (name : List ℕ) (l : AtLine) (lines : List AtLine) (c : Bool) → (c ≡ true → rows_fit m n l.rows ≡ true)
    → ((line_rows (find (has_name name) lines) ≡ [] → ⊥) → rows_fit m n (line_rows (find (has_name name) lines)) ≡ true)
    → (line_rows (cond c (Some l) (find (has_name name) lines)) ≡ [] → ⊥) → rows_fit m n (line_rows (cond c (Some l) (find (has_name name) lines))) ≡ true
fit_choice m n name l lines true here rest some = here refl
fit_choice m n name l lines false here rest some = rest some

pub rows_fit_at : (names : List (List ℕ)) (m n : ℕ → ℕ) (lines : List AtLine) → lines_fit names m n lines ≡ true → (i : ℕ) → i < length names
    → (rows_at_name lines (get_or names i []) ≡ [] → ⊥) → rows_fit (m i) (n i) (rows_at_name lines (get_or names i [])) ≡ true
rows_fit_at names m n [] fit i b some = absurd (some refl)
rows_fit_at names m n (l ∷ lines) fit i b some = fit_choice (m i) (n i) (get_or names i []) l lines (pointwise nat_eq (get_or names i []) l.name)
    (λ e. fits_at_name m n l names i (front_passes _ _ fit) b e) (rows_fit_at names m n lines (rest_passes _ _ fit) i b) some

hold_choice : (q : Gf) (name : List ℕ) (l : AtLine) (lines : List AtLine) (c : Bool) → All (IsRow q) l.rows → All (IsRow q) (line_rows (find (has_name name) lines)) → All (IsRow q) (line_rows (cond c (Some l) (find (has_name name) lines)))
hold_choice q name l lines true here rest = here
hold_choice q name l lines false here rest = rest

pub rows_hold_at : (q : Gf) (lines : List AtLine) → HoldRows q lines → (name : List ℕ) → All (IsRow q) (rows_at_name lines name)
rows_hold_at q [] all name = All-nil (IsRow q)
rows_hold_at q (l ∷ lines) all name = hold_choice q name l lines (pointwise nat_eq name l.name) (All-head (λ (l : AtLine). All (IsRow q) l.rows) l lines all)
    (rows_hold_at q lines (All-tail (λ (l : AtLine). All (IsRow q) l.rows) l lines all) name)

-- what a search for the line finds
pub record NoneNamed (name : List ℕ) (lines : List AtLine) (n : ℕ) : Type 0 where
  pub at : (i : ℕ) (d : AtLine) → i < n → pointwise nat_eq name (get_or lines i d).name ≡ false

pub none_more : (name : List ℕ) (lines : List AtLine) (n : ℕ) (l : AtLine) → n < length lines → l ≡ slice_index_or lines n l → pointwise nat_eq name l.name ≡ false → NoneNamed name lines n → NoneNamed name lines (n + 1)
none_more name lines n l inside e apart u = record {
  at = λ i d b. elim (cases_eq i n) [
    | inl same ↦ ap (λ i. pointwise nat_eq name (get_or lines i d).name) same ∙ ap (λ (l : AtLine). pointwise nat_eq name l.name) (sym (e ∙ get_or_default lines n l d inside)) ∙ apart
    | inr other ↦ u.at i d (omega (arith, b, other))
  ];
}

pub found_at : (name : List ℕ) (lines : List AtLine) (j : ℕ) (d : AtLine) → j < length lines → pointwise nat_eq name (get_or lines j d).name ≡ true → NoneNamed name lines j → rows_at_name lines name ≡ (get_or lines j d).rows
found_at name lines j d b passes before = ap line_rows (find_first (λ (l : AtLine). pointwise nat_eq name l.name) lines j d b passes (λ k m. before.at k d m))

pub found_none : (name : List ℕ) (lines : List AtLine) (n : ℕ) → length lines ≤ n → NoneNamed name lines n → rows_at_name lines name ≡ []
found_none name lines n b before = ap line_rows (find_none (λ (l : AtLine). pointwise nat_eq name l.name) lines (record { name = []; rows = [] }) (λ k m. before.at k (record { name = []; rows = [] }) (omega (arith, b, m))))

-- the line that is found
pub line_found : (name : List ℕ) (lines : List AtLine) (j : ℕ) (x : AtLine) → j < length lines → x ≡ slice_index_or lines j x → pointwise nat_eq name x.name ≡ true → NoneNamed name lines j → (d : AtLine) → rows_at_name lines name ≡ (slice_index_or lines j d).rows
line_found name lines j x b e passes before d = found_at name lines j d b (ap (λ (l : AtLine). pointwise nat_eq name l.name) (sym (e ∙ get_or_default lines j x d b)) ∙ passes) before

-- two lines of one name
pub lines_agree : (lines : List AtLine) (j : ℕ) (l : AtLine) → j < length lines → l ≡ slice_index_or lines j l → (i : ℕ) × (i < j) × (pointwise nat_eq (slice_index_or (line_names lines) i []) l.name ≡ true) → false ≡ all_different (line_names lines)
lines_agree lines j l b e s =
    sym (two_agree (line_names lines) s.0 j s.1 (let n = length-map lines (λ (l : AtLine). l.name) in omega (arith, n, b))
    (ap (pointwise nat_eq (get_or (line_names lines) s.0 [])) (sym (name_at lines j l b e)) ∙ s.2))

pub lines_differ : (lines : List AtLine) (j : ℕ) → length lines ≤ j → DifferBelow (line_names lines) j → true ≡ all_different (line_names lines)
lines_differ lines j b d = sym (all_differ (line_names lines) j (let n = length-map lines (λ (l : AtLine). l.name) in omega (arith, n, b)) d)
