-- A header with shortened relations: its relations, and that it is allowed.
use Rattle.std.proofs.Common.{ℕ, zero, suc, ◌≡◌, ◌<◌, ◌≤◌, Bool, true, false, List, [], ◌∷◌, length, get_or, refl, sym, ap, ◌∙◌, subst, arith, if◌then◌else◌, lt-ltb, le-ltb}
use Rattle.std.specs.Prelude.{All}
use Rattle.std.specs.List.{filter, AllPairs}
use Rattle.std.proofs.lemmas.Bool.{cond-true, cond-false}
use Rattle.std.proofs.lemmas.List.{get_or-map, length-map}
use Rattle.std.proofs.lemmas.List.Elements.{All-filter, All-map, All-weaker}
use Rattle.std.proofs.lemmas.List.Kept.{AllPairs-filter}
use Rattle.std.proofs.lemmas.List.Sums.{length-filter, count_by-le-length}
use Rattle.linear_algebra.specs.Field.{Gf, add}
use Rattle.linear_algebra.specs.FieldLaws.{zero_add}
use Rattle.quiver_paths.specs.Path.{path_length}
use Rattle.path_algebra.specs.declared.Term.{Term}
use Rattle.path_algebra.specs.declared.Relation.{Relation}
use Rattle.path_algebra.specs.declared.Header.{Header}
use Rattle.path_algebra.specs.Allowed.{IsAllowed, IsRelation, IsTerm, IsParallel}
use Rattle.path_algebra.specs.Elements.{sum_over}
use Rattle.path_algebra.proofs.SumsOver.{sum_over-nil, sum_over-cons, sum_over_below}
use Rattle.bound_algebra.specs.BoundAlgebra.{relation_at}
use Rattle.module_faults.specs.ShortRelations.{is_short, short_terms, relation_or, kept_relation, short_header}

-- a sum over the items that pass a test
sum_over-choice : {A : Type 0} (q : Gf) (b : Bool) (x : A) (xs ys : List A) (f g : A → ℕ) → sum_over q ys f ≡ sum_over q xs g → sum_over q (if b then x ∷ ys else ys) f ≡ add q (if b then f x else 0) (sum_over q xs g)
sum_over-choice q true x xs ys f g e = sum_over-cons q x ys f ∙ ap (add q (f x)) e
sum_over-choice q false x xs ys f g e = e ∙ sym (zero_add q _ (sum_over_below q xs g))

pub sum_over-filter : {A : Type 0} (q : Gf) (p : A → Bool) (xs : List A) (f : A → ℕ) → sum_over q (filter p xs) f ≡ sum_over q xs (λ x. if p x then f x else 0)
sum_over-filter q p [] f = sum_over-nil q f ∙ sym (sum_over-nil q _)
sum_over-filter q p (x ∷ xs) f = sum_over-choice q (p x) x xs (filter p xs) f (λ x. if p x then f x else 0) (sum_over-filter q p xs f) ∙ sym (sum_over-cons q x xs (λ x. if p x then f x else 0))

-- one term
pub one_short : (bound : ℕ) (t : Term) → path_length t.path < bound → short_terms bound (t ∷ []) ≡ t ∷ []
one_short bound t l = cond-true _ (t ∷ []) [] (lt-ltb _ _ l)

pub one_long : (bound : ℕ) (t : Term) → bound ≤ path_length t.path → short_terms bound (t ∷ []) ≡ []
one_long bound t l = cond-false _ (t ∷ []) [] (le-ltb _ _ l)

-- a list with a short term has some
none_behind : (b : Bool) (t : Term) (terms : List Term) → (if b then t ∷ terms else terms) ≡ [] → terms ≡ []
none_behind true t terms e = absurd (let l = ap length e in omega (arith, l))
none_behind false t terms e = e

pub has_one : (bound : ℕ) (terms : List Term) (k : ℕ) (t : Term) → k < length terms → t ≡ get_or terms k t → path_length t.path < bound → short_terms bound terms ≡ [] → ⊥
has_one bound [] k t l e s z = absurd (omega arith)
has_one bound (x ∷ xs) zero t l e s z =
    let c = ap length (sym (cond-true (is_short bound x) (x ∷ short_terms bound xs) (short_terms bound xs) (lt-ltb _ _ (subst (λ (t : Term). path_length t.path < bound) e s))) ∙ z) in
    absurd (omega (arith, c))
has_one bound (x ∷ xs) (suc k) t l e s z = has_one bound xs k t (omega arith) e s (none_behind (is_short bound x) x (short_terms bound xs) z)

-- the relation is that of its short terms, or has none
pub terms_kept : (rel : Relation) (terms : List Term) → (terms ≡ [] → ⊥) → (relation_or rel terms).terms ≡ terms
terms_kept rel [] some = absurd (some refl)
terms_kept rel (t ∷ terms) some = refl

pub none_kept : (rel : Relation) (terms : List Term) → terms ≡ [] → relation_or rel terms ≡ rel
none_kept rel [] e = refl
none_kept rel (t ∷ terms) e = absurd (let l = ap length e in omega (arith, l))

pub some_kept : (rel : Relation) (terms : List Term) → (terms ≡ [] → ⊥) → relation_or rel terms ≡ record { terms = terms }
some_kept rel [] some = absurd (some refl)
some_kept rel (t ∷ terms) some = refl

module _ (h : Header) where
  kept_is : (rel : Relation) → IsRelation h rel → (terms : List Term) → short_terms h.bound rel.terms ≡ terms → IsRelation h (relation_or rel terms)
  kept_is rel is [] e = is
  kept_is rel is (t ∷ terms) e = record {
    some = omega arith;
    few = let a = length-filter (is_short h.bound) rel.terms in let b = count_by-le-length (is_short h.bound) rel.terms in let c = ap length e in let d = is.few in omega (arith, a, b, c, d);
    terms = subst (All (IsTerm h)) e (All-filter (is_short h.bound) (IsTerm h) rel.terms is.terms);
    parallel = subst (AllPairs (λ (a : Term) (b : Term). IsParallel a.path b.path)) e (AllPairs-filter (λ (a : Term) (b : Term). IsParallel a.path b.path) (is_short h.bound) rel.terms is.parallel);
    different = subst (AllPairs (λ (a : Term) (b : Term). a.path ≡ b.path → ⊥)) e (AllPairs-filter (λ (a : Term) (b : Term). a.path ≡ b.path → ⊥) (is_short h.bound) rel.terms is.different);
  }

  term_in : (t : Term) → IsTerm h t → IsTerm (short_header h) t
  term_in t is = record { nonzero = is.nonzero; small = is.small; path = is.path; not_short = is.not_short; not_long = is.not_long }

  relation_in : (rel : Relation) → IsRelation h rel → IsRelation (short_header h) (kept_relation h.bound rel)
  relation_in rel is =
      let k = kept_is rel is (short_terms h.bound rel.terms) refl in
      record { some = k.some; few = k.few; terms = All-weaker (IsTerm h) (IsTerm (short_header h)) term_in _ k.terms; parallel = k.parallel; different = k.different }

  pub short_allowed : IsAllowed h → IsAllowed (short_header h)
  short_allowed ok = record {
    quiver = ok.quiver;
    vertex_names = ok.vertex_names;
    arrow_names = ok.arrow_names;
    vertices_differ = ok.vertices_differ;
    arrows_differ = ok.arrows_differ;
    bound_from = ok.bound_from;
    bound_to = ok.bound_to;
    few_relations = let e = length-map h.relations (kept_relation h.bound) in let l = ok.few_relations in omega (arith, e, l);
    relations = All-map (IsRelation (short_header h)) (kept_relation h.bound) h.relations (All-weaker (IsRelation h) (λ (rel : Relation). IsRelation (short_header h) (kept_relation h.bound rel)) relation_in h.relations ok.relations);
  }

  pub short_count : length (short_header h).relations ≡ length h.relations
  short_count = length-map h.relations (kept_relation h.bound)

  pub short_at : (i : ℕ) → i < length h.relations → relation_at (short_header h).relations i ≡ kept_relation h.bound (relation_at h.relations i)
  short_at i l = get_or-map (kept_relation h.bound) h.relations i (record { terms = [] }) (record { terms = [] }) l
