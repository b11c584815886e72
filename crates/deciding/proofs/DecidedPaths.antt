-- Deciding paths, terms and what is asked of them, and listing them.
use Rattle.std.proofs.Common.{◌≡◌, ◌≢◌, ℕ, ◌<◌, List, [], ◌∷◌, length, All, refl, ap, inl, inr, arith, lit<}
use Rattle.std.specs.Prelude.{Contains}
use Rattle.std.specs.declared.cmp.Ordering.{Ordering}
use Rattle.std.specs.declared.cmp.Ordering.TheVariants.{Less, Equal, Greater}
use Rattle.std.proofs.lemmas.Bool.{cases_eq}
use Rattle.std.proofs.lemmas.List.Elements.{All-weaker}
use Rattle.linear_algebra.specs.Field.{Gf, f2, f3, f4, f5, f7, f8, f9, f11, f13, f16, f25, f27, order}
use Rattle.quiver_paths.specs.declared.Path.{Path}
use Rattle.quiver_paths.specs.declared.Quiver.{Quiver}
use Rattle.quiver_paths.specs.Quiver.{HasEnds, vertex_count, arrow_count, source, target}
use Rattle.quiver_paths.specs.Path.{IsPath, Leads, path_length}
use Rattle.quiver_paths.specs.PathOrder.{path_cmp, IsSmaller}
use Rattle.quiver_paths.specs.PathList.{paths_below}
use Rattle.quiver_paths.proofs.PathLemmas.{same_path}
use Rattle.quiver_paths.proofs.PathListLemmas.{Contains-paths_below}
use Rattle.path_algebra.specs.declared.Term.{Term}
use Rattle.path_algebra.specs.declared.Relation.{Relation}
use Rattle.path_algebra.specs.declared.Header.{Header}
use Rattle.path_algebra.specs.Allowed.{IsTerm, IsParallel, IsRelation}
use Rattle.path_algebra.specs.Words.{IsShortPath}
use Rattle.path_algebra.specs.Rules.{AreElementTerms}
use Rattle.path_algebra.specs.Derivations.{IsNumber}
use Rattle.deciding.proofs.Deciding.{Decided, both, like, three, four, five, fails, below, at_most, same_numbers, of_each, of_pairs, IsListed, fewer, images, pairs, numbers_below}

pub number_decided : (last n : ℕ) → Decided (IsNumber last n)
number_decided last n = like (λ h. record { from = h.0; to = h.1 }) (λ h. (h.from, h.to)) (both (at_most 1 n) (at_most n last))

leads_decided : (Q : Quiver) (u : ℕ) (arrows : List ℕ) (w : ℕ) → Decided (Leads Q u arrows w)
leads_decided Q u [] w = cases_eq u w
leads_decided Q u (a ∷ arrows) w = three (below a (arrow_count Q)) (cases_eq (source Q a) u) (leads_decided Q (target Q a) arrows w)

pub path_decided : (Q : Quiver) (p : Path) → Decided (IsPath Q p)
path_decided Q p =
    like (λ h. record { starts = h.0; leads = h.1 }) (λ h. (h.starts, h.leads)) (both (below p.start (vertex_count Q)) (leads_decided Q p.start p.arrows p.end))

pub same_paths : (p q : Path) → Decided (p ≡ q)
same_paths p q =
    like (λ h. same_path p q h.0 h.1 h.2) (λ e. (ap (λ (r : Path). r.start) e, ap (λ (r : Path). r.end) e, ap (λ (r : Path). r.arrows) e))
    (three (cases_eq p.start q.start) (cases_eq p.end q.end) (same_numbers p.arrows q.arrows))

less_decided : (o : Ordering) → Decided (o ≡ Less)
less_decided Less = inl refl
less_decided Equal = inr (λ e. cc)
less_decided Greater = inr (λ e. cc)

smaller_decided : (p q : Path) → Decided (IsSmaller p q)
smaller_decided p q = less_decided (path_cmp p q)

pub short_decided : (h : Header) (p : Path) → Decided (IsShortPath h p)
short_decided h p = like (λ k. record { path = k.0; short = k.1 }) (λ k. (k.path, k.short)) (both (path_decided h.quiver p) (below (path_length p) h.bound))

-- ---- terms

term_decided : (h : Header) (t : Term) → Decided (IsTerm h t)
term_decided h t =
    like (λ k. record { nonzero = k.0; small = k.1; path = k.2; not_short = k.3; not_long = k.4 })
    (λ k. (k.nonzero, k.small, k.path, k.not_short, k.not_long))
    (five (below 0 t.coef) (below t.coef (order h.field)) (path_decided h.quiver t.path) (at_most 2 (path_length t.path)) (at_most (path_length t.path) 64))

parallel_decided : (p q : Path) → Decided (IsParallel p q)
parallel_decided p q = like (λ h. record { starts = h.0; ends = h.1 }) (λ h. (h.starts, h.ends)) (both (cases_eq p.start q.start) (cases_eq p.end q.end))

pub relation_decided : (h : Header) (r : Relation) → Decided (IsRelation h r)
relation_decided h r =
    like (λ k. record { some = k.0; few = k.1; terms = k.2; parallel = k.3; different = k.4 })
    (λ k. (k.some, k.few, k.terms, k.parallel, k.different))
    (five (below 0 (length r.terms)) (at_most (length r.terms) 64) (of_each (IsTerm h) (term_decided h) r.terms)
    (of_pairs (λ (a b : Term). IsParallel a.path b.path) (λ a b. parallel_decided a.path b.path) r.terms)
    (of_pairs (λ (a b : Term). a.path ≢ b.path) (λ a b. fails (same_paths a.path b.path)) r.terms))

pub tail_decided : (h : Header) (ts : List Term) → Decided (AreElementTerms h ts)
tail_decided h ts =
    like (λ k. record { descending = k.0; nonzero = k.1; small = k.2; short = k.3 }) (λ k. (k.descending, k.nonzero, k.small, k.short))
    (four (of_pairs (λ (a b : Term). IsSmaller b.path a.path) (λ a b. smaller_decided b.path a.path) ts)
    (of_each (λ (a : Term). 0 < a.coef) (λ a. below 0 a.coef) ts)
    (of_each (λ (a : Term). a.coef < order h.field) (λ a. below a.coef (order h.field)) ts)
    (of_each (λ (a : Term). IsShortPath h a.path) (λ a. short_decided h a.path) ts))

-- ---- lists

-- a path shorter than n
pub record IsPathBelow (Q : Quiver) (n : ℕ) (p : Path) : Type 0 where
  pub path : IsPath Q p
  pub short : path_length p < n

pub paths_listed : (Q : Quiver) → HasEnds Q → (n : ℕ) → IsListed (IsPathBelow Q n)
paths_listed Q ends n = record { items = paths_below Q n; all = λ p is. Contains-paths_below Q ends n p is.path is.short }

-- a term with a coefficient of the field and such a path
pub record IsTermBelow (h : Header) (n : ℕ) (t : Term) : Type 0 where
  pub small : t.coef < order h.field
  pub path : IsPathBelow h.quiver n t.path

pub terms_listed : (h : Header) → HasEnds h.quiver → (n : ℕ) → IsListed (IsTermBelow h n)
terms_listed h ends n =
    fewer (IsTermBelow h n) (λ (t : Term). (z : ℕ × Path) × ((z.0 < order h.field) × IsPathBelow h.quiver n z.1) × (term_of z ≡ t)) (λ t is. ((t.coef, t.path), (is.small, is.path), refl))
    (images term_of (pairs (numbers_below (order h.field)) (paths_listed h.quiver ends n)))
  where
    term_of : ℕ × Path → Term
    term_of z = record { coef = z.0; path = z.1 }

-- the terms of a relation, and those of a tail
pub relation_terms : (h : Header) (r : Relation) → IsRelation h r → All (IsTermBelow h 65) r.terms
relation_terms h r is = All-weaker (IsTerm h) (IsTermBelow h 65) (λ t k. record { small = k.small; path = record { path = k.path; short = let long = k.not_long in omega arith } }) r.terms is.terms

pub tail_terms : (h : Header) (ts : List Term) → AreElementTerms h ts → All (IsTermBelow h h.bound) ts
tail_terms h ts are = λ k d less. record { small = are.small k d less; path = record { path = (are.short k d less).path; short = (are.short k d less).short } }

-- ---- fields

fields : List Gf
fields = f2 ∷ f3 ∷ f4 ∷ f5 ∷ f7 ∷ f8 ∷ f9 ∷ f11 ∷ f13 ∷ f16 ∷ f25 ∷ f27 ∷ []

field_in : (f : Gf) → Contains fields f
unfolding fields
field_in f2 = (0, lit< tt, refl)
field_in f3 = (1, lit< tt, refl)
field_in f4 = (2, lit< tt, refl)
field_in f5 = (3, lit< tt, refl)
field_in f7 = (4, lit< tt, refl)
field_in f8 = (5, lit< tt, refl)
field_in f9 = (6, lit< tt, refl)
field_in f11 = (7, lit< tt, refl)
field_in f13 = (8, lit< tt, refl)
field_in f16 = (9, lit< tt, refl)
field_in f25 = (10, lit< tt, refl)
field_in f27 = (11, lit< tt, refl)

pub fields_listed : IsListed (λ (f : Gf). Unit {0})
fields_listed = record { items = fields; all = λ f is. field_in f }
