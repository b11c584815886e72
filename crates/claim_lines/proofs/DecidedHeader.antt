-- Deciding whether a line may follow a front of a header.
use Rattle.std.proofs.Common.{◌≡◌, ◌≢◌, ℕ, ◌<◌, ◌≤◌, List, [], ◌∷◌, length, get_or, All, IsTrue, Bool, true, false, ◌⊎◌, inl, inr, Some, None, refl, sym, ap, arith}
use Rattle.std.specs.declared.option.Option.{Option}
use Rattle.std.proofs.lemmas.Bool.{cases_eq}
use Rattle.linear_algebra.specs.Field.{Gf}
use Rattle.quiver_paths.specs.declared.Arrow.{Arrow}
use Rattle.quiver_paths.specs.declared.Name.{Name}
use Rattle.quiver_paths.specs.declared.Quiver.{Quiver}
use Rattle.quiver_paths.specs.Quiver.{vertex_count}
use Rattle.quiver_paths.specs.Name.{IsName, is_name_byte}
use Rattle.path_algebra.specs.declared.Term.{Term}
use Rattle.path_algebra.specs.declared.Relation.{Relation}
use Rattle.path_algebra.specs.Allowed.{IsArrowName}
use Rattle.text_lines.specs.Strict.{strict_tokens}
use Rattle.header_text.specs.declared.forms.Form.{Form}
use Rattle.header_text.specs.declared.forms.Form.TheVariants.{Field, Vertex, Arrow as ArrowForm, Bound, Relation as RelationForm}
use Rattle.header_text.specs.Part.{Part, IsOpen, IsArrowOf, FitsVertex, FitsArrow, FitsBound, FitsRelation, Fits, tokens_of, after, Step, IsFront}
use Rattle.header_text.proofs.FormLemmas.{step_of, no_step_of, no_step_lexed}
use Rattle.deciding.proofs.Deciding.{Decided, both, like, three, four, five, fails, tested, below, at_most, same_numbers, same_tokens, of_each, IsListed, found, just, either, images, pairs, numbers_below, lists_to}
use Rattle.deciding.proofs.DecidedPaths.{relation_decided, IsTermBelow, terms_listed, relation_terms, fields_listed}

is_true : (b : Bool) → Decided (b ≡ true)
is_true true = inl refl
is_true false = inr (λ e. cc)

is_false : (b : Bool) → Decided (b ≡ false)
is_false true = inr (λ e. cc)
is_false false = inl refl

is_nil : {X : Type 0} (xs : List X) → Decided (xs ≡ [])
is_nil [] = inl refl
is_nil (x ∷ xs) = inr (λ e. some x xs e)
  where
    some : {X : Type 0} (x : X) (xs : List X) → x ∷ xs ≡ [] → ⊥
    some x xs e = cc

open_decided : (p : Part) → Decided (IsOpen p)
open_decided p = like (λ h. record { begun = h.0; unbound = h.1 }) (λ h. (h.begun, h.unbound)) (both (is_true p.is_begun) (cases_eq p.header.bound 0))

pub name_decided : (n : List ℕ) → Decided (IsName n)
name_decided n = like (λ h. record { some = h.0; short = h.1; spelled = h.2 }) (λ h. (h.some, h.short, h.spelled))
    (three (below 0 (length n)) (at_most (length n) 16) (of_each (λ b. IsTrue (is_name_byte b)) (λ b. tested (is_name_byte b)) n))

pub arrow_name_decided : (n : List ℕ) → Decided (IsArrowName n)
arrow_name_decided n = like (λ h. record { name = h.0; letter = h.1 }) (λ h. (h.name, h.letter)) (both (name_decided n) (tested _))

vertex_decided : (p : Part) (n : List ℕ) → Decided (FitsVertex p n)
vertex_decided p n =
    like (λ k. record { opened = k.0; no_arrow = k.1; room = k.2; named = k.3; new = k.4 }) (λ k. (k.opened, k.no_arrow, k.room, k.named, k.new))
    (five (open_decided p) (is_nil p.header.quiver.arrows) (below (length p.header.quiver.vertices) 32) (name_decided n)
    (of_each (λ (m : Name). m ≢ n) (λ m. fails (same_numbers m n)) p.header.quiver.vertices))

arrow_of_decided : (Q : Quiver) (a : Arrow) → Decided (IsArrowOf Q a)
arrow_of_decided Q a = like (λ k. record { named = k.0; from = k.1; to = k.2 }) (λ k. (k.named, k.from, k.to))
    (three (arrow_name_decided a.name) (below a.from (vertex_count Q)) (below a.to (vertex_count Q)))

arrow_decided : (p : Part) (a : Arrow) → Decided (FitsArrow p a)
arrow_decided p a =
    like (λ k. record { opened = k.0; room = k.1; arrow_is = k.2; new = k.3 }) (λ k. (k.opened, k.room, k.arrow_is, k.new))
    (four (open_decided p) (below (length p.header.quiver.arrows) 128) (arrow_of_decided p.header.quiver a)
    (of_each (λ (b : Arrow). b.name ≢ a.name) (λ (b : Arrow). fails (same_numbers b.name a.name)) p.header.quiver.arrows))

bound_decided : (p : Part) (t : ℕ) → Decided (FitsBound p t)
bound_decided p t =
    like (λ k. record { opened = k.0; has_vertex = k.1; from = k.2; to = k.3 }) (λ k. (k.opened, k.has_vertex, k.from, k.to))
    (four (open_decided p) (below 0 (vertex_count p.header.quiver)) (at_most 2 t) (at_most t 32))

relation_line_decided : (p : Part) (r : Relation) → Decided (FitsRelation p r)
relation_line_decided p r =
    like (λ k. record { bounded = k.0; room = k.1; relation_is = k.2 }) (λ k. (k.bounded, k.room, k.relation_is))
    (three (below 0 p.header.bound) (below (length p.header.relations) 256) (relation_decided p.header r))

fits_decided : (p : Part) (x : Form) → Decided (Fits p x)
fits_decided p (Field f) = is_false p.is_begun
fits_decided p (Vertex n) = vertex_decided p n
fits_decided p (ArrowForm a) = arrow_decided p a
fits_decided p (Bound t) = bound_decided p t
fits_decided p (RelationForm r) = relation_line_decided p r

-- ---- the forms that some tokens can have

arrow_form : List ℕ → ℕ × ℕ → Form
arrow_form name z = ArrowForm record { name = name; from = z.0; to = z.1 }

relation_form : List Term → Form
relation_form us = RelationForm record { terms = us }

MayBe : Part → List (List ℕ) → Form → Type 0
MayBe p ts x = ((f : Gf) × Unit {0} × (Field f ≡ x))
    ⊎ ((x ≡ Vertex (get_or ts 1 []))
    ⊎ (((z : ℕ × ℕ) × ((z.0 < vertex_count p.header.quiver) × (z.1 < vertex_count p.header.quiver)) × (arrow_form (get_or ts 1 []) z ≡ x))
    ⊎ (((t : ℕ) × (t < 33) × (Bound t ≡ x))
    ⊎ ((us : List Term) × ((length us ≤ 64) × All (IsTermBelow p.header 65) us) × (relation_form us ≡ x)))))

forms_listed : (p : Part) → IsFront p → (ts : List (List ℕ)) → IsListed (MayBe p ts)
unfolding MayBe
forms_listed p front ts =
    either (images Field fields_listed)
    (either (just (Vertex (get_or ts 1 [])))
    (either (images (arrow_form (get_or ts 1 [])) (pairs (numbers_below (vertex_count p.header.quiver)) (numbers_below (vertex_count p.header.quiver))))
    (either (images Bound (numbers_below 33)) (images relation_form (lists_to (IsTermBelow p.header 65) (terms_listed p.header front.named.ends 65) 64)))))

second : (ts : List (List ℕ)) (a b : List ℕ) (rest : List (List ℕ)) → ts ≡ a ∷ b ∷ rest → get_or ts 1 [] ≡ b
second ts a b rest e = ap (λ l. get_or l 1 []) e

may_be : (p : Part) (ts : List (List ℕ)) (x : Form) → Fits p x → ts ≡ tokens_of p x → MayBe p ts x
unfolding MayBe arrow_form relation_form
may_be p ts (Field f) fits e = inl (f, tt, refl)
may_be p ts (Vertex n) fits e = inr (inl (ap Vertex (sym (second ts _ n _ e))))
may_be p ts (ArrowForm a) fits e =
    inr (inr (inl ((a.from, a.to), (fits.arrow_is.from, fits.arrow_is.to), ap (λ (n : List ℕ). ArrowForm record { name = n; from = a.from; to = a.to }) (second ts _ a.name _ e))))
may_be p ts (Bound t) fits e = inr (inr (inr (inl (t, (let to = fits.to in omega arith), refl))))
may_be p ts (RelationForm r) fits e = inr (inr (inr (inr (r.terms, (fits.relation_is.few, relation_terms p.header r fits.relation_is), refl))))

form_found : (p : Part) → IsFront p → (ts : List (List ℕ)) → Decided ((x : Form) × (Fits p x × (ts ≡ tokens_of p x)))
form_found p front ts =
    found (MayBe p ts) (λ (x : Form). Fits p x × (ts ≡ tokens_of p x)) (forms_listed p front ts) (λ x h. may_be p ts x h.0 h.1) (λ x. both (fits_decided p x) (same_tokens ts (tokens_of p x)))

lexed_goes : (p : Part) → IsFront p → (line : List ℕ) (r : Option (List (List ℕ))) → strict_tokens line ≡ r → ((q : Part) × Step p line q) ⊎ ((q : Part) → Step p line q → ⊥)
lexed_goes p front line None is = inr (no_step_lexed p line is)
lexed_goes p front line (Some ts) is = elim (form_found p front ts) [
  | inl h ↦ inl (after p h.0, step_of p line ts h.0 front is h.1.0 h.1.1)
  | inr none ↦ inr (no_step_of p line ts is (λ x fits e. none (x, (fits, e))))
]

-- a line of the header leads to a part, or to none
pub header_goes : (p : Part) → IsFront p → (line : List ℕ) → ((q : Part) × Step p line q) ⊎ ((q : Part) → Step p line q → ⊥)
header_goes p front line = lexed_goes p front line (strict_tokens line) refl
