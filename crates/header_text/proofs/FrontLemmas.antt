-- A line that fits leads from a front of a header to a front, and adds its tokens.
use Rattle.std.proofs.Common.{◌≡◌, ◌≢◌, ℕ, ◌+◌, ◌<◌, Bool, true, false, List, [], ◌∷◌, ◌++◌, map, length, cond, eqb, refl, sym, ap, ◌∙◌, subst, arith, append_assoc, append-nil}
use Rattle.std.specs.Prelude.{All}
use Rattle.std.proofs.lemmas.Bool.{eqb-true, false_from_ne_true}
use Rattle.std.proofs.lemmas.List.{map-append}
use Rattle.std.proofs.lemmas.List.Elements.{All-nil, All-push, All-weaker}
use Rattle.std.proofs.lemmas.List.Quantifiers.{all_pairs_push}
use Rattle.linear_algebra.specs.Field.{Gf, order}
use Rattle.quiver_paths.specs.declared.Arrow.{Arrow}
use Rattle.quiver_paths.specs.declared.Name.{Name}
use Rattle.quiver_paths.specs.declared.Quiver.{Quiver}
use Rattle.quiver_paths.specs.Name.{IsName}
use Rattle.quiver_paths.specs.Quiver.{HasEnds, vertex_count}
use Rattle.quiver_paths.specs.Path.{IsPath}
use Rattle.quiver_paths.proofs.QuiverLemmas.{HasEnds-from_all, all_from_HasEnds}
use Rattle.quiver_paths.proofs.ListLemmas.{length-pushed}
use Rattle.path_algebra.specs.declared.Term.{Term}
use Rattle.path_algebra.specs.declared.Relation.{Relation}
use Rattle.path_algebra.specs.declared.Header.{Header}
use Rattle.path_algebra.specs.Allowed.{IsAllowed, IsTerm, IsRelation, IsArrowName}
use Rattle.header_text.specs.declared.forms.Form.{Form}
use Rattle.header_text.specs.declared.forms.Form.TheVariants.{Field, Vertex, Arrow as ArrowForm, Bound, Relation as RelationForm}
use Rattle.header_text.specs.Spelling.{vertex_name, arrow_name, path_text_from, field_line, vertex_line, arrow_line, bound_line, relation_line, header_lines}
use Rattle.header_text.specs.Part.{Part, IsStart, FitsVertex, FitsArrow, FitsBound, FitsRelation, Fits, tokens_of, after, with_vertices, with_arrows, IsFront, MayEnd, part_lines}

clash : true ≡ false → ⊥
clash e = cc

-- all of no things
all_none : {X : Type 0} (P : X → Type 0) (xs : List X) → xs ≡ [] → All P xs
all_none P xs e = subst (All P) (sym e) (All-nil P)

pub IsTerm-moved : (g h : Header) → g.field ≡ h.field → g.quiver ≡ h.quiver → (t : Term) → IsTerm g t → IsTerm h t
IsTerm-moved g h f q t is = record {
  nonzero = is.nonzero;
  small = subst (λ x. t.coef < order x) f is.small;
  path = subst (λ Q. IsPath Q t.path) q is.path;
  not_short = is.not_short;
  not_long = is.not_long;
}

pub IsRelation-moved : (g h : Header) → g.field ≡ h.field → g.quiver ≡ h.quiver → (r : Relation) → IsRelation g r → IsRelation h r
IsRelation-moved g h f q r is = record {
  some = is.some;
  few = is.few;
  terms = All-weaker (IsTerm g) (IsTerm h) (IsTerm-moved g h f q) r.terms is.terms;
  parallel = is.parallel;
  different = is.different;
}

pushed : {X : Type 0} (xs : List X) (x : X) → length (xs ++ x ∷ []) ≡ length xs + 1
pushed xs x = length-pushed xs (xs ++ x ∷ []) x refl

front_field : (p : Part) (f : Gf) → IsFront p → p.is_begun ≡ false → IsFront (after p (Field f))
front_field p f front begun = record {
  unbegun = λ e. absurd (clash e);
  named = front.named;
  unbound = front.unbound;
  bounded = front.bounded;
  bound_limit = front.bound_limit;
  few_relations = front.few_relations;
  relations = all_none (IsRelation (after p (Field f)).header) p.header.relations (front.unbound (front.unbegun begun).2);
}

no_arrow_ends : (Q : Quiver) → Q.arrows ≡ [] → HasEnds Q
no_arrow_ends Q e = HasEnds-from_all Q (all_none (λ (x : Arrow). (x.from < vertex_count Q) × (x.to < vertex_count Q)) Q.arrows e)

front_vertex : (p : Part) (n : List ℕ) → IsFront p → FitsVertex p n → IsFront (after p (Vertex n))
front_vertex p n front fits =
    let vs = p.header.quiver.vertices in
    let long = pushed vs n in
    let room = fits.room in
    record {
      unbegun = λ e. absurd (clash (sym fits.opened.begun ∙ e));
      named = record {
        vertices_limit = omega arith;
        arrows_limit = front.named.arrows_limit;
        ends = no_arrow_ends (after p (Vertex n)).header.quiver fits.no_arrow;
        vertex_names = All-push IsName vs n front.named.vertex_names fits.named;
        arrow_names = front.named.arrow_names;
        vertices_differ = all_pairs_push (λ (a b : Name). a ≢ b) vs n front.named.vertices_differ (λ k d l. fits.new k d l);
        arrows_differ = front.named.arrows_differ;
      };
      unbound = front.unbound;
      bounded = λ l. let none = fits.opened.unbound in omega arith;
      bound_limit = front.bound_limit;
      few_relations = front.few_relations;
      relations = all_none (IsRelation (after p (Vertex n)).header) p.header.relations (front.unbound fits.opened.unbound);
    }

front_arrow : (p : Part) (a : Arrow) → IsFront p → FitsArrow p a → IsFront (after p (ArrowForm a))
front_arrow p a front fits =
    let Q = p.header.quiver in
    let long = pushed Q.arrows a in
    let room = fits.room in
    record {
      unbegun = λ e. absurd (clash (sym fits.opened.begun ∙ e));
      named = record {
        vertices_limit = front.named.vertices_limit;
        arrows_limit = omega arith;
        ends = HasEnds-from_all (after p (ArrowForm a)).header.quiver
            (All-push (λ (x : Arrow). (x.from < vertex_count Q) × (x.to < vertex_count Q)) Q.arrows a (all_from_HasEnds Q front.named.ends) (fits.arrow_is.from, fits.arrow_is.to));
        vertex_names = front.named.vertex_names;
        arrow_names = All-push (λ (x : Arrow). IsArrowName x.name) Q.arrows a front.named.arrow_names fits.arrow_is.named;
        vertices_differ = front.named.vertices_differ;
        arrows_differ = all_pairs_push (λ (x y : Arrow). x.name ≢ y.name) Q.arrows a front.named.arrows_differ (λ k d l. fits.new k d l);
      };
      unbound = front.unbound;
      bounded = λ l. let none = fits.opened.unbound in omega arith;
      bound_limit = front.bound_limit;
      few_relations = front.few_relations;
      relations = all_none (IsRelation (after p (ArrowForm a)).header) p.header.relations (front.unbound fits.opened.unbound);
    }

front_bound : (p : Part) (t : ℕ) → IsFront p → FitsBound p t → IsFront (after p (Bound t))
front_bound p t front fits =
    let low = fits.from in
    record {
      unbegun = λ e. absurd (clash (sym fits.opened.begun ∙ e));
      named = front.named;
      unbound = λ e. absurd (omega arith);
      bounded = λ l. (fits.has_vertex, fits.from);
      bound_limit = fits.to;
      few_relations = front.few_relations;
      relations = all_none (IsRelation (after p (Bound t)).header) p.header.relations (front.unbound fits.opened.unbound);
    }

front_relation : (p : Part) (r : Relation) → IsFront p → FitsRelation p r → IsFront (after p (RelationForm r))
front_relation p r front fits =
    let h = p.header in
    let k = (after p (RelationForm r)).header in
    let long = pushed h.relations r in
    let room = fits.room in
    let some = fits.bounded in
    record {
      unbegun = front.unbegun;
      named = front.named;
      unbound = λ e. absurd (omega arith);
      bounded = front.bounded;
      bound_limit = front.bound_limit;
      few_relations = omega arith;
      relations = All-push (IsRelation k) h.relations r (All-weaker (IsRelation h) (IsRelation k) (IsRelation-moved h k refl refl) h.relations front.relations) (IsRelation-moved h k refl refl r fits.relation_is);
    }

pub front_after : (p : Part) (x : Form) → IsFront p → Fits p x → IsFront (after p x)
front_after p (Field f) front fits = front_field p f front fits
front_after p (Vertex n) front fits = front_vertex p n front fits
front_after p (ArrowForm a) front fits = front_arrow p a front fits
front_after p (Bound t) front fits = front_bound p t front fits
front_after p (RelationForm r) front fits = front_relation p r front fits

Lines : Type 0
Lines = List (List (List ℕ))

add_first : (a v r b l : List (List (List ℕ))) (x : List (List ℕ)) → a ≡ [] → v ≡ [] → r ≡ [] → b ≡ [] → l ≡ [] → (x ∷ []) ++ (v ++ (r ++ (b ++ l))) ≡ (a ++ (v ++ (r ++ (b ++ l)))) ++ x ∷ []
add_first a v r b l x e f g h i = rw (e, f, g, h, i)

add_second : (a v r b l : List (List (List ℕ))) (x : List (List ℕ)) → r ≡ [] → b ≡ [] → l ≡ [] → a ++ ((v ++ x ∷ []) ++ (r ++ (b ++ l))) ≡ (a ++ (v ++ (r ++ (b ++ l)))) ++ x ∷ []
add_second a v r b l x g h i = rw (g, h, i) (simp (append-nil, append_assoc))

add_third : (a v r b l : List (List (List ℕ))) (x : List (List ℕ)) → b ≡ [] → l ≡ [] → a ++ (v ++ ((r ++ x ∷ []) ++ (b ++ l))) ≡ (a ++ (v ++ (r ++ (b ++ l)))) ++ x ∷ []
add_third a v r b l x h i = rw (h, i) (simp (append-nil, append_assoc))

add_fourth : (a v r b l : List (List (List ℕ))) (x : List (List ℕ)) → b ≡ [] → l ≡ [] → a ++ (v ++ (r ++ ((x ∷ []) ++ l))) ≡ (a ++ (v ++ (r ++ (b ++ l)))) ++ x ∷ []
add_fourth a v r b l x h i = rw (h, i) (simp (append-nil, append_assoc))

add_fifth : (a v r b l : List (List (List ℕ))) (x : List (List ℕ)) → a ++ (v ++ (r ++ (b ++ (l ++ x ∷ [])))) ≡ (a ++ (v ++ (r ++ (b ++ l)))) ++ x ∷ []
add_fifth a v r b l x = simp append_assoc

begun_lines : Part → List (List (List ℕ))
begun_lines p = cond p.is_begun (field_line p.header.field ∷ []) []

map_none : {X : Type 0} (f : X → List (List ℕ)) (xs : List X) → xs ≡ [] → map f xs ≡ []
map_none f xs e = ap (map f) e

map_pushed : {X : Type 0} (f : X → List (List ℕ)) (xs : List X) (x : X) → map f (xs ++ x ∷ []) ≡ map f xs ++ f x ∷ []
map_pushed f xs x = map-append f xs (x ∷ [])

bound_lines : ℕ → List (List (List ℕ))
bound_lines t = cond (eqb t 0) [] (bound_line t ∷ [])

no_bound : (t : ℕ) → t ≡ 0 → bound_lines t ≡ []
unfolding bound_lines
no_bound t e = ap bound_lines e

some_bound : (t : ℕ) → 0 < t → bound_lines t ≡ bound_line t ∷ []
unfolding bound_lines
some_bound t l = ap (λ b. cond b [] (bound_line t ∷ [])) (false_from_ne_true (eqb t 0) (λ e. let z = eqb-true t 0 e in omega arith))

pub lines_after : (p : Part) (x : Form) → IsFront p → Fits p x → part_lines (after p x) ≡ part_lines p ++ tokens_of p x ∷ []
unfolding bound_lines vertex_name arrow_name path_text_from
lines_after p (Field f) front begun =
    let none = front.unbegun begun in
    add_first _ _ _ _ _ (field_line f) (ap (λ b. cond b (field_line p.header.field ∷ []) []) begun) (map_none vertex_line p.header.quiver.vertices none.0) (map_none (arrow_line p.header.quiver) p.header.quiver.arrows none.1)
    (no_bound p.header.bound none.2) (map_none (relation_line p.header.quiver) p.header.relations (front.unbound none.2))
lines_after p (Vertex n) front fits =
    let vs = p.header.quiver.vertices in
    let Q = with_vertices p (vs ++ n ∷ []) in
    let a = cond p.is_begun (field_line p.header.field ∷ []) [] in
    let none = map_none (arrow_line p.header.quiver) p.header.quiver.arrows fits.no_arrow in
    let no_relation = front.unbound fits.opened.unbound in
    ap (λ v. a ++ (v ++ (map (arrow_line Q.header.quiver) p.header.quiver.arrows ++ (bound_lines p.header.bound ++ map (relation_line Q.header.quiver) p.header.relations)))) (map_pushed vertex_line vs n)
    ∙ (ap (λ r. a ++ ((map vertex_line vs ++ vertex_line n ∷ []) ++ (r ++ (bound_lines p.header.bound ++ map (relation_line Q.header.quiver) p.header.relations)))) (map_none (arrow_line Q.header.quiver) p.header.quiver.arrows fits.no_arrow ∙ sym none)
    ∙ (ap (λ l. a ++ ((map vertex_line vs ++ vertex_line n ∷ []) ++ (map (arrow_line p.header.quiver) p.header.quiver.arrows ++ (bound_lines p.header.bound ++ l))))
    (map_none (relation_line Q.header.quiver) p.header.relations no_relation ∙ sym (map_none (relation_line p.header.quiver) p.header.relations no_relation))
    ∙ add_second a (map vertex_line vs) (map (arrow_line p.header.quiver) p.header.quiver.arrows) (bound_lines p.header.bound) (map (relation_line p.header.quiver) p.header.relations) (vertex_line n)
    none (no_bound p.header.bound fits.opened.unbound) (map_none (relation_line p.header.quiver) p.header.relations no_relation)))
lines_after p (ArrowForm x) front fits =
    let as' = p.header.quiver.arrows in
    let Q = p.header.quiver in
    let Q' = (with_arrows p (as' ++ x ∷ [])).header.quiver in
    let a = cond p.is_begun (field_line p.header.field ∷ []) [] in
    let v = map vertex_line Q.vertices in
    let no_relation = front.unbound fits.opened.unbound in
    ap (λ r. a ++ (v ++ (r ++ (bound_lines p.header.bound ++ map (relation_line Q') p.header.relations)))) (map_pushed (arrow_line Q) as' x)
    ∙ (ap (λ l. a ++ (v ++ ((map (arrow_line Q) as' ++ arrow_line Q x ∷ []) ++ (bound_lines p.header.bound ++ l))))
    (map_none (relation_line Q') p.header.relations no_relation ∙ sym (map_none (relation_line Q) p.header.relations no_relation))
    ∙ add_third a v (map (arrow_line Q) as') (bound_lines p.header.bound) (map (relation_line Q) p.header.relations) (arrow_line Q x)
    (no_bound p.header.bound fits.opened.unbound) (map_none (relation_line Q) p.header.relations no_relation))
lines_after p (Bound t) front fits =
    let low = fits.from in
    ap (λ b. cond p.is_begun (field_line p.header.field ∷ []) [] ++ (map vertex_line p.header.quiver.vertices ++ (map (arrow_line p.header.quiver) p.header.quiver.arrows ++ (b ++ map (relation_line p.header.quiver) p.header.relations))))
    (some_bound t (omega arith))
    ∙ add_fourth (cond p.is_begun (field_line p.header.field ∷ []) []) (map vertex_line p.header.quiver.vertices) (map (arrow_line p.header.quiver) p.header.quiver.arrows) (bound_lines p.header.bound) (map (relation_line p.header.quiver) p.header.relations) (bound_line t) (no_bound p.header.bound fits.opened.unbound)
    (map_none (relation_line p.header.quiver) p.header.relations (front.unbound fits.opened.unbound))
lines_after p (RelationForm r) front fits =
    let h = p.header in
    ap (λ l. cond p.is_begun (field_line h.field ∷ []) [] ++ (map vertex_line h.quiver.vertices ++ (map (arrow_line h.quiver) h.quiver.arrows ++ (bound_lines h.bound ++ l)))) (map_pushed (relation_line h.quiver) h.relations r)
    ∙ add_fifth (cond p.is_begun (field_line h.field ∷ []) []) (map vertex_line h.quiver.vertices) (map (arrow_line h.quiver) h.quiver.arrows) (bound_lines h.bound) (map (relation_line h.quiver) h.relations) (relation_line h.quiver r)

begun_by : (b : Bool) → (b ≡ false → ⊥) → b ≡ true
begun_by true none = refl
begun_by false none = absurd (none refl)

pub is_begun : (p : Part) → IsFront p → MayEnd p → p.is_begun ≡ true
is_begun p front ends = begun_by p.is_begun (λ e. let none = (front.unbegun e).2 in omega arith)

-- where a header may end, what was read is a header that is allowed
pub allowed_at_end : (p : Part) → IsFront p → MayEnd p → IsAllowed p.header
allowed_at_end p front ends = record {
  quiver = record { has_vertex = (front.bounded ends).0; vertices_limit = front.named.vertices_limit; arrows_limit = front.named.arrows_limit; ends = front.named.ends };
  vertex_names = front.named.vertex_names;
  arrow_names = front.named.arrow_names;
  vertices_differ = front.named.vertices_differ;
  arrows_differ = front.named.arrows_differ;
  bound_from = (front.bounded ends).1;
  bound_to = front.bound_limit;
  few_relations = front.few_relations;
  relations = front.relations;
}

pub lines_at_end : (p : Part) → IsFront p → MayEnd p → part_lines p ≡ header_lines p.header
unfolding bound_lines
lines_at_end p front ends =
    let h = p.header in
    ap (λ b. cond b (field_line h.field ∷ []) [] ++ (map vertex_line h.quiver.vertices ++ (map (arrow_line h.quiver) h.quiver.arrows ++ (bound_lines h.bound ++ map (relation_line h.quiver) h.relations)))) (is_begun p front ends)
    ∙ ap (λ b. field_line h.field ∷ (map vertex_line h.quiver.vertices ++ (map (arrow_line h.quiver) h.quiver.arrows ++ (b ++ map (relation_line h.quiver) h.relations)))) (some_bound h.bound ends)

pub lines_at_start : (p : Part) → IsStart p → part_lines p ≡ []
unfolding bound_lines
lines_at_start p start = rw (start.unbegun, start.no_vertex, start.no_arrow, start.unbound, start.no_relation)

pub start_front : (p : Part) → IsStart p → IsFront p
start_front p start = record {
  unbegun = λ e. (start.no_vertex, start.no_arrow, start.unbound);
  named = record {
    vertices_limit = let none = ap length start.no_vertex in omega arith;
    arrows_limit = let none = ap length start.no_arrow in omega arith;
    ends = no_arrow_ends p.header.quiver start.no_arrow;
    vertex_names = all_none IsName p.header.quiver.vertices start.no_vertex;
    arrow_names = all_none (λ (a : Arrow). IsArrowName a.name) p.header.quiver.arrows start.no_arrow;
    vertices_differ = λ i j d l m. absurd (let none = ap length start.no_vertex in omega arith);
    arrows_differ = λ i j d l m. absurd (let none = ap length start.no_arrow in omega arith);
  };
  unbound = λ e. start.no_relation;
  bounded = λ l. let none = start.unbound in absurd (omega arith);
  bound_limit = let none = start.unbound in omega arith;
  few_relations = let none = ap length start.no_relation in omega arith;
  relations = all_none (IsRelation p.header) p.header.relations start.no_relation;
}
