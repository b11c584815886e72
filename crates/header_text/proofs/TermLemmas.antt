-- Different terms and lists of terms have different spellings, and what the readers of terms conclude.
use Rattle.std.proofs.Common.{◌≡◌, ◌≢◌, ℕ, ◌+◌, ◌<◌, ◌≤◌, zero, suc, List, [], ◌∷◌, ◌++◌, ◌⊎◌, map, length, get_or, inl, inr, refl, sym, ap, ◌∙◌, subst, arith, append_assoc, append-nil}
use Rattle.std.specs.Prelude.{All, AllPairs}
use Rattle.std.proofs.lemmas.Bool.{cases_lt}
use Rattle.std.proofs.lemmas.List.{map-append}
use Rattle.std.proofs.lemmas.List.Elements.{All-head, All-tail, All-push}
use Rattle.linear_algebra.specs.Field.{order}
use Rattle.quiver_paths.specs.declared.Path.{Path}
use Rattle.quiver_paths.specs.Path.{path_length}
use Rattle.path_algebra.specs.declared.Term.{Term}
use Rattle.path_algebra.specs.declared.Relation.{Relation}
use Rattle.path_algebra.specs.declared.Header.{Header}
use Rattle.path_algebra.specs.Allowed.{IsTerm, IsParallel, IsRelation}
use Rattle.text_lines.specs.Parts.{Lacks}
use Rattle.header_text.specs.Spelling.{path_text, coefficient_text, term_text, terms_arguments, plus_each}
use Rattle.header_text.specs.Named.{IsNamed, IsLongPath, IsCoefficientThen, AreTerms, AreRelated}
use Rattle.header_text.proofs.Clean.{path_lacks}
use Rattle.header_text.proofs.Uniqueness.{one_path, coefficient_one}
use Rattle.header_text.proofs.Joining.{plus_each-append}
use Rattle.header_text.proofs.Readers.{order_small}

pub IsTerm-long : (h : Header) (t : Term) → IsTerm h t → IsLongPath h.quiver t.path
IsTerm-long h t term = record { path = term.path; some = λ e. let none : path_length t.path ≡ 0 = ap length e in let two = term.not_short in omega arith }

term_path_lacks : (h : Header) → IsNamed h.quiver → (t : Term) → Lacks 42 (path_text h.quiver t.path)
term_path_lacks h named t = path_lacks 42 refl refl refl h.quiver named t.path.start t.path.arrows

-- the coefficient that was cut off is the term's
term_cut : (h : Header) → IsNamed h.quiver → (token : List ℕ) (c : ℕ) (rest : List ℕ) → IsCoefficientThen (order h.field) token c rest → (t : Term) → IsTerm h t
    → token ≡ term_text h.quiver t → (c ≡ t.coef) × (rest ≡ path_text h.quiver t.path)
term_cut h named token c rest cut t term e =
    coefficient_one (order h.field) c t.coef rest (path_text h.quiver t.path) token (order_small h.field) cut term.nonzero term.small (term_path_lacks h named t) e

pub no_coefficient_no_term : (h : Header) → IsNamed h.quiver → (token : List ℕ) → ((c : ℕ) (rest : List ℕ) → 0 < c → c < order h.field → Lacks 42 rest → token ≡ coefficient_text c ++ rest → ⊥)
    → (t : Term) → IsTerm h t → token ≡ term_text h.quiver t → ⊥
no_coefficient_no_term h named token none t term e = none t.coef (path_text h.quiver t.path) term.nonzero term.small (term_path_lacks h named t) e

pub no_path_no_term : (h : Header) → IsNamed h.quiver → (token : List ℕ) (c : ℕ) (rest : List ℕ) → IsCoefficientThen (order h.field) token c rest
    → ((p : Path) → IsLongPath h.quiver p → rest ≡ path_text h.quiver p → ⊥) → (t : Term) → IsTerm h t → token ≡ term_text h.quiver t → ⊥
no_path_no_term h named token c rest cut none t term e = none t.path (IsTerm-long h t term) (term_cut h named token c rest cut t term e).1

pub no_length_no_term : (h : Header) → IsNamed h.quiver → (token : List ℕ) (c : ℕ) (rest : List ℕ) → IsCoefficientThen (order h.field) token c rest → (p : Path)
    → IsLongPath h.quiver p → rest ≡ path_text h.quiver p → ((2 ≤ path_length p) × (path_length p ≤ 64) → ⊥) → (t : Term) → IsTerm h t → token ≡ term_text h.quiver t → ⊥
no_length_no_term h named token c rest cut p long spelled none t term e =
    let same : t.path ≡ p = one_path h.quiver named t.path p (IsTerm-long h t term) long (sym (term_cut h named token c rest cut t term e).1 ∙ spelled) in
    none (subst (λ r. (2 ≤ path_length r) × (path_length r ≤ 64)) same (term.not_short, term.not_long))

pub is_term : (h : Header) (token : List ℕ) (c : ℕ) (rest : List ℕ) (p : Path) → IsCoefficientThen (order h.field) token c rest → IsLongPath h.quiver p → rest ≡ path_text h.quiver p
    → 2 ≤ path_length p → path_length p ≤ 64 → IsTerm h record { coef = c; path = p } × (token ≡ term_text h.quiver record { coef = c; path = p })
is_term h token c rest p cut long spelled low high =
    (record { nonzero = cut.nonzero; small = cut.small; path = long.path; not_short = low; not_long = high }, cut.spelled ∙ ap (λ r. coefficient_text c ++ r) spelled)

term_same : (s t : Term) → s.coef ≡ t.coef → s.path ≡ t.path → s ≡ t
term_same s t a b = λ k. record { coef = a k; path = b k }

pub one_term : (h : Header) → IsNamed h.quiver → (s t : Term) → IsTerm h s → IsTerm h t → term_text h.quiver s ≡ term_text h.quiver t → s ≡ t
one_term h named s t a b e =
    let both = term_cut h named (term_text h.quiver s) s.coef (path_text h.quiver s.path)
    record { nonzero = a.nonzero; small = a.small; spelled = refl; plain = λ one. term_path_lacks h named s } t b e in
    term_same s t both.0 (one_path h.quiver named s.path t.path (IsTerm-long h s a) (IsTerm-long h t b) both.1)

plus_head : (a b : List ℕ) (xs ys : List (List ℕ)) → (43 ∷ []) ∷ a ∷ xs ≡ (43 ∷ []) ∷ b ∷ ys → a ≡ b
plus_head a b xs ys e = cc

plus_tail : (a b : List ℕ) (xs ys : List (List ℕ)) → (43 ∷ []) ∷ a ∷ xs ≡ (43 ∷ []) ∷ b ∷ ys → xs ≡ ys
plus_tail a b xs ys e = cc

some_none : (a : List ℕ) (xs : List (List ℕ)) → a ∷ xs ≡ [] → ⊥
some_none a xs e = cc

list_head : (a b : List ℕ) (xs ys : List (List ℕ)) → a ∷ xs ≡ b ∷ ys → a ≡ b
list_head a b xs ys e = cc

list_tail : (a b : List ℕ) (xs ys : List (List ℕ)) → a ∷ xs ≡ b ∷ ys → xs ≡ ys
list_tail a b xs ys e = cc

cons_same : (x y : Term) (xs ys : List Term) → x ≡ y → xs ≡ ys → x ∷ xs ≡ y ∷ ys
cons_same x y xs ys a b = cc

module _ (h : Header) (named : IsNamed h.quiver) where
  text : Term → List ℕ
  text t = term_text h.quiver t

  plus_each_prefix : (us ts : List Term) (rest : List (List ℕ)) → All (IsTerm h) us → All (IsTerm h) ts → plus_each (map (term_text h.quiver) ts) ≡ plus_each (map (term_text h.quiver) us) ++ rest
      → (vs : List Term) × (ts ≡ us ++ vs) × (rest ≡ plus_each (map (term_text h.quiver) vs)) × All (IsTerm h) vs
  plus_each_prefix [] ts rest a b e = (ts, refl, sym e, b)
  plus_each_prefix (u ∷ us) [] rest a b e = absurd (some_none _ _ (sym e))
  plus_each_prefix (u ∷ us) (t ∷ ts) rest a b e =
      let same : t ≡ u = one_term h named t u (All-head (IsTerm h) t ts b) (All-head (IsTerm h) u us a)
      (plus_head (term_text h.quiver t) (term_text h.quiver u) (plus_each (map (term_text h.quiver) ts)) (plus_each (map (term_text h.quiver) us) ++ rest) e) in
      let more = plus_each_prefix us ts rest (All-tail (IsTerm h) u us a) (All-tail (IsTerm h) t ts b)
      (plus_tail (term_text h.quiver t) (term_text h.quiver u) (plus_each (map (term_text h.quiver) ts)) (plus_each (map (term_text h.quiver) us) ++ rest) e) in
      (more.0, cons_same t u ts (us ++ more.0) same more.1, more.2, more.3)

  -- tokens that begin with terms are those of terms that begin with them
  pub plus_prefix : (us ts : List Term) (rest : List (List ℕ)) → AreTerms h us → AreTerms h ts → terms_arguments h.quiver ts ≡ terms_arguments h.quiver us ++ rest
      → (vs : List Term) × (ts ≡ us ++ vs) × (rest ≡ plus_each (map (term_text h.quiver) vs)) × All (IsTerm h) vs
  plus_prefix [] ts rest a b e = absurd (a.some refl)
  plus_prefix (u ∷ us) [] rest a b e = absurd (b.some refl)
  plus_prefix (u ∷ us) (t ∷ ts) rest a b e =
      let same : t ≡ u = one_term h named t u (All-head (IsTerm h) t ts b.all) (All-head (IsTerm h) u us a.all)
      (list_head (term_text h.quiver t) (term_text h.quiver u) (plus_each (map (term_text h.quiver) ts)) (plus_each (map (term_text h.quiver) us) ++ rest) e) in
      let more = plus_each_prefix us ts rest (All-tail (IsTerm h) u us a.all) (All-tail (IsTerm h) t ts b.all)
      (list_tail (term_text h.quiver t) (term_text h.quiver u) (plus_each (map (term_text h.quiver) ts)) (plus_each (map (term_text h.quiver) us) ++ rest) e) in
      (more.0, cons_same t u ts (us ++ more.0) same more.1, more.2, more.3)

  none_left : (vs : List Term) (rest : List (List ℕ)) → rest ≡ plus_each (map (term_text h.quiver) vs) → rest ≡ [] → vs ≡ []
  none_left [] rest e none = refl
  none_left (v ∷ vs) rest e none = absurd (some_none _ _ (sym e ∙ none))

  pub one_terms : (us ts : List Term) → AreTerms h us → AreTerms h ts → terms_arguments h.quiver us ≡ terms_arguments h.quiver ts → us ≡ ts
  one_terms us ts a b e =
      let more = plus_prefix us ts [] a b (sym e ∙ sym (append-nil (terms_arguments h.quiver us))) in
      sym (more.1 ∙ (ap (λ r. us ++ r) (none_left more.0 [] more.2 refl) ∙ append-nil us))

  no_next : (vs : List Term) (rest : List (List ℕ)) → All (IsTerm h) vs → rest ≡ plus_each (map (term_text h.quiver) vs) → (rest ≡ [] → ⊥)
      → ((t : Term) (after : List (List ℕ)) → IsTerm h t → rest ≡ ((43 ∷ []) ∷ term_text h.quiver t ∷ []) ++ after → ⊥) → ⊥
  no_next [] rest all e some none = some e
  no_next (v ∷ vs) rest all e some none = none v (plus_each (map (term_text h.quiver) vs)) (All-head (IsTerm h) v vs all) e

  pub no_more_terms : (us : List Term) (tokens rest : List (List ℕ)) → AreTerms h us → tokens ≡ terms_arguments h.quiver us ++ rest → (rest ≡ [] → ⊥)
      → ((t : Term) (after : List (List ℕ)) → IsTerm h t → rest ≡ ((43 ∷ []) ∷ term_text h.quiver t ∷ []) ++ after → ⊥)
      → (ts : List Term) → AreTerms h ts → tokens ≡ terms_arguments h.quiver ts → ⊥
  no_more_terms us tokens rest a whole some none ts b e =
      let more = plus_prefix us ts rest a b (sym e ∙ whole) in
      no_next more.0 rest more.3 more.2 some none

pub no_first_term : (h : Header) (tokens : List (List ℕ)) → ((t : Term) (after : List (List ℕ)) → IsTerm h t → tokens ≡ (term_text h.quiver t ∷ []) ++ after → ⊥)
    → (ts : List Term) → AreTerms h ts → tokens ≡ terms_arguments h.quiver ts → ⊥
no_first_term h tokens none [] are e = are.some refl
no_first_term h tokens none (t ∷ ts) are e = none t (plus_each (map (term_text h.quiver) ts)) (All-head (IsTerm h) t ts are.all) e

pub terms_push : (h : Header) (us : List Term) (t : Term) (tokens rest after : List (List ℕ)) → AreTerms h us → IsTerm h t → tokens ≡ terms_arguments h.quiver us ++ rest
    → rest ≡ ((43 ∷ []) ∷ term_text h.quiver t ∷ []) ++ after → (tokens ≡ terms_arguments h.quiver (us ++ t ∷ []) ++ after) × AreTerms h (us ++ t ∷ [])
terms_push h [] t tokens rest after are term whole next = absurd (are.some refl)
terms_push h (u ∷ us) t tokens rest after are term whole next =
    let f = term_text h.quiver in
    let more : plus_each (map f (us ++ t ∷ [])) ≡ plus_each (map f us) ++ (43 ∷ []) ∷ f t ∷ [] = ap plus_each (map-append f us (t ∷ [])) ∙ plus_each-append (map f us) (f t ∷ []) in (
      whole ∙ (ap (λ r. (f u ∷ plus_each (map f us)) ++ r) next
          ∙ sym (ap (λ r. (f u ∷ r) ++ after) more ∙ append_assoc (f u ∷ plus_each (map f us)) ((43 ∷ []) ∷ f t ∷ []) after)),
      record { some = λ e. let c : List Term = us in pushed_some u us t e; all = All-push (IsTerm h) (u ∷ us) t are.all term },
    )
  where
    pushed_some : (u : Term) (us : List Term) (t : Term) → (u ∷ us) ++ t ∷ [] ≡ [] → ⊥
    pushed_some u us t e = cc

pub IsRelation-terms : (h : Header) (r : Relation) → IsRelation h r → AreTerms h r.terms
IsRelation-terms h r is = record { some = λ e. let none : length r.terms ≡ 0 = ap length e in let some = is.some in omega arith; all = is.terms }

pub not_related : (h : Header) → IsNamed h.quiver → (tokens : List (List ℕ)) (terms : List Term) → AreTerms h terms → tokens ≡ terms_arguments h.quiver terms → (AreRelated terms → ⊥)
    → (r : Relation) → IsRelation h r → tokens ≡ terms_arguments h.quiver r.terms → ⊥
not_related h named tokens terms are spelled none r is e =
    let same : r.terms ≡ terms = one_terms h named r.terms terms (IsRelation-terms h r is) are (sym e ∙ spelled) in
    none (subst AreRelated same record { few = is.few; parallel = is.parallel; different = is.different })

nonempty : (h : Header) (terms : List Term) → AreTerms h terms → 0 < length terms
nonempty h [] are = absurd (are.some refl)
nonempty h (t ∷ ts) are = omega arith

pub is_relation : (h : Header) (terms : List Term) → AreTerms h terms → AreRelated terms → IsRelation h record { terms = terms }
is_relation h terms are related = record { some = nonempty h terms are; few = related.few; terms = are.all; parallel = related.parallel; different = related.different }

itself_parallel : (p : Path) → IsParallel p p
itself_parallel p = record { starts = refl; ends = refl }

pub not_parallel : (terms : List Term) (i : ℕ) (d : Term) → i < length terms → (IsParallel (get_or terms 0 d).path (get_or terms i d).path → ⊥)
    → AllPairs (λ (a b : Term). IsParallel a.path b.path) terms → ⊥
not_parallel terms zero d inside none pairs = none (itself_parallel (get_or terms 0 d).path)
not_parallel terms (suc i) d inside none pairs = none (pairs 0 (suc i) d (omega arith) inside)

-- the first n paths are all different
pub record DifferBelow (terms : List Term) (n : ℕ) : Type 0 where
  pub differ : (j k : ℕ) (d : Term) → j < k → k < n → (get_or terms j d).path ≢ (get_or terms k d).path

pub differ_more : (terms : List Term) (n : ℕ) → DifferBelow terms n → ((j : ℕ) (d : Term) → j < n → (get_or terms j d).path ≢ (get_or terms n d).path) → DifferBelow terms (n + 1)
differ_more terms n before new = record { differ = λ j k d a b. step j k d a b (cases_lt k n) }
  where
    step : (j k : ℕ) (d : Term) → j < k → k < n + 1 → (k < n) ⊎ (n ≤ k) → (get_or terms j d).path ≢ (get_or terms k d).path
    step j k d a b (inl less) = before.differ j k d a less
    step j k d a b (inr least) = let same : n ≡ k = omega arith in subst (λ m. (get_or terms j d).path ≢ (get_or terms m d).path) same (new j d (omega arith))

pub pairs_differ : (terms : List Term) → DifferBelow terms (length terms) → AllPairs (λ (a b : Term). a.path ≢ b.path) terms
pairs_differ terms all = λ i j d a b. all.differ i j d a b

pub new_from_pairs : (terms : List Term) (i : ℕ) → i < length terms → AllPairs (λ (a b : Term). a.path ≢ b.path) terms → (j : ℕ) (d : Term) → j < i → (get_or terms j d).path ≢ (get_or terms i d).path
new_from_pairs terms i inside pairs j d less = pairs j i d less inside
