-- The spelling of a header that is allowed is read, line by line.
use Rattle.std.proofs.Common.{◌≡◌, ◌≢◌, ℕ, ◌<◌, ◌≤◌, ◌^◌, true, false, List, [], ◌∷◌, ◌++◌, map, length, codes, decimal, refl, sym, ap, ◌∙◌, subst, arith, append_assoc, append-nil, lit<}
use Rattle.std.specs.Prelude.{All, AllPairs, Contains}
use Rattle.std.specs.List.{concat}
use Rattle.std.proofs.lemmas.List.{map-append, length-append}
use Rattle.std.proofs.lemmas.List.Elements.{All-nil, All-cons, All-head, All-tail, All-append, All-weaker, All-contains, All-map}
use Rattle.linear_algebra.specs.Field.{Gf, order}
use Rattle.quiver_paths.specs.declared.Arrow.{Arrow}
use Rattle.quiver_paths.specs.declared.Name.{Name}
use Rattle.quiver_paths.specs.declared.Quiver.{Quiver}
use Rattle.quiver_paths.specs.Name.{IsName}
use Rattle.quiver_paths.proofs.QuiverLemmas.{all_from_HasEnds}
use Rattle.quiver_paths.proofs.ListLemmas.{AllPairs-head, AllPairs-tail, Contains-head, Contains-behind}
use Rattle.path_algebra.specs.declared.Term.{Term}
use Rattle.path_algebra.specs.declared.Relation.{Relation}
use Rattle.path_algebra.specs.declared.Header.{Header}
use Rattle.path_algebra.specs.Allowed.{IsAllowed, IsTerm, IsRelation, IsArrowName}
use Rattle.text_lines.specs.Lines.{lines}
use Rattle.text_lines.specs.Parts.{Lacks, spaced}
use Rattle.text_lines.specs.Strict.{strict_line}
use Rattle.text_lines.specs.Reading.{Reads, ReadsWhole, IsFirstBad}
use Rattle.text_lines.proofs.Cutting.{lines-cut, concat-lines}
use Rattle.text_lines.proofs.Readings.{Reads-append, whole_not_bad}
use Rattle.text_lines.proofs.StrictLaws.{strict_line-of_tokens, strict_tokens-strict_line}
use Rattle.header_text.specs.declared.forms.Form.{Form}
use Rattle.header_text.specs.declared.forms.Form.TheVariants.{Field, Vertex, Arrow as ArrowForm, Bound, Relation as RelationForm}
use Rattle.header_text.specs.Spelling.{vertex_name, path_text, coefficient_text, term_text, terms_arguments, field_line, vertex_line, arrow_line, bound_line, relation_line, header_lines, text_of, header_text}
use Rattle.header_text.specs.Named.{IsNamed}
use Rattle.header_text.specs.Part.{Part, IsStart, FitsVertex, FitsArrow, FitsBound, FitsRelation, Fits, tokens_of, after, Step, IsFront, MayEnd, part_lines}
use Rattle.header_text.proofs.Clean.{IsOutside, space_outside, feed_outside, name_lacks, decimal_lacks, vertex_name_lacks, path_lacks, coefficient_lacks, lacks_append, joined_lacks, plus_between_lacks, lacks_by_test}
use Rattle.header_text.proofs.Readers.{order_small}
use Rattle.header_text.proofs.FormLemmas.{the_step}
use Rattle.header_text.proofs.FrontLemmas.{front_after, lines_after, allowed_at_end, lines_at_end, lines_at_start, start_front, IsRelation-moved}

pub IsNamed-allowed : (h : Header) → IsAllowed h → IsNamed h.quiver
IsNamed-allowed h is = record {
  vertices_limit = is.quiver.vertices_limit;
  arrows_limit = is.quiver.arrows_limit;
  ends = is.quiver.ends;
  vertex_names = is.vertex_names;
  arrow_names = is.arrow_names;
  vertices_differ = is.vertices_differ;
  arrows_differ = is.arrows_differ;
}

small : (n : ℕ) → n ≤ 32 → n < 2 ^ 64
small n h = let big : 32 < 2 ^ 64 = lit< tt in omega arith

two : (c : ℕ) (a b : List ℕ) → Lacks c a → Lacks c b → All (Lacks c) (a ∷ b ∷ [])
two c a b x y = All-cons (Lacks c) a (b ∷ []) x (All-cons (Lacks c) b [] y (All-nil (Lacks c)))

term_lacks : (c : ℕ) → IsOutside c → (h : Header) → IsNamed h.quiver → (t : Term) → IsTerm h t → Lacks c (term_text h.quiver t)
term_lacks c out h named t is =
    let low = order_small h.field in
    let less = is.small in
    lacks_append c (coefficient_text t.coef) (path_text h.quiver t.path) (coefficient_lacks c out t.coef (small t.coef (omega arith))) (path_lacks c out.name out.dot out.at_sign h.quiver named t.path.start t.path.arrows)

terms_lack : (c : ℕ) → IsOutside c → (h : Header) → IsNamed h.quiver → (ts : List Term) → All (IsTerm h) ts → All (Lacks c) (map (term_text h.quiver) ts)
terms_lack c out h named ts all = All-map (Lacks c) (term_text h.quiver) ts (All-weaker (IsTerm h) (λ t. Lacks c (term_text h.quiver t)) (term_lacks c out h named) ts all)

-- a byte outside the tokens of a line
field_lacks : (c : ℕ) → IsOutside c → Lacks c (codes "field") → (f : Gf) → All (Lacks c) (field_line f)
field_lacks c out w f = let low = order_small f in two c (codes "field") (decimal (order f)) w (decimal_lacks c out.digit (order f) (small (order f) (omega arith)))

vertex_lacks : (c : ℕ) → IsOutside c → Lacks c (codes "vertex") → (n : List ℕ) → IsName n → All (Lacks c) (vertex_line n)
vertex_lacks c out w n name = two c (codes "vertex") n w (name_lacks c out.name n name)

arrow_lacks : (c : ℕ) → IsOutside c → Lacks c (codes "arrow") → (Q : Quiver) → IsNamed Q → (a : Arrow) → IsArrowName a.name → All (Lacks c) (arrow_line Q a)
arrow_lacks c out w Q named a name =
    All-cons (Lacks c) (codes "arrow") (a.name ∷ vertex_name Q a.from ∷ vertex_name Q a.to ∷ []) w (All-cons (Lacks c) a.name (vertex_name Q a.from ∷ vertex_name Q a.to ∷ []) (name_lacks c out.name a.name name.name) (two c (vertex_name Q a.from) (vertex_name Q a.to) (vertex_name_lacks c out.name Q named a.from) (vertex_name_lacks c out.name Q named a.to)))

bound_lacks : (c : ℕ) → IsOutside c → Lacks c (codes "bound") → (t : ℕ) → t ≤ 32 → All (Lacks c) (bound_line t)
bound_lacks c out w t low = two c (codes "bound") (decimal t) w (decimal_lacks c out.digit t (small t low))

relation_lacks : (c : ℕ) → IsOutside c → Lacks c (codes "relation") → (h : Header) → IsNamed h.quiver → (r : Relation) → IsRelation h r → All (Lacks c) (relation_line h.quiver r)
relation_lacks c out w h named r is = All-cons (Lacks c) (codes "relation") (terms_arguments h.quiver r.terms) w (plus_between_lacks c out.plus (map (term_text h.quiver) r.terms) (terms_lack c out h named r.terms is.terms))

record HasWords (c : ℕ) : Type 0 where
  out : IsOutside c
  field_word : Lacks c (codes "field")
  vertex_word : Lacks c (codes "vertex")
  arrow_word : Lacks c (codes "arrow")
  bound_word : Lacks c (codes "bound")
  relation_word : Lacks c (codes "relation")

spaces : HasWords 32
spaces = record {
  out = space_outside;
  field_word = lacks_by_test 32 (codes "field") refl;
  vertex_word = lacks_by_test 32 (codes "vertex") refl;
  arrow_word = lacks_by_test 32 (codes "arrow") refl;
  bound_word = lacks_by_test 32 (codes "bound") refl;
  relation_word = lacks_by_test 32 (codes "relation") refl;
}

feeds : HasWords 10
feeds = record {
  out = feed_outside;
  field_word = lacks_by_test 10 (codes "field") refl;
  vertex_word = lacks_by_test 10 (codes "vertex") refl;
  arrow_word = lacks_by_test 10 (codes "arrow") refl;
  bound_word = lacks_by_test 10 (codes "bound") refl;
  relation_word = lacks_by_test 10 (codes "relation") refl;
}

form_lacks : (c : ℕ) → HasWords c → (p : Part) (x : Form) → IsFront p → Fits p x → All (Lacks c) (tokens_of p x)
form_lacks c w p (Field f) front fits = field_lacks c w.out w.field_word f
form_lacks c w p (Vertex n) front fits = vertex_lacks c w.out w.vertex_word n fits.named
form_lacks c w p (ArrowForm a) front fits = arrow_lacks c w.out w.arrow_word p.header.quiver front.named a fits.arrow_is.named
form_lacks c w p (Bound t) front fits = bound_lacks c w.out w.bound_word t fits.to
form_lacks c w p (RelationForm r) front fits = relation_lacks c w.out w.relation_word p.header front.named r fits.relation_is

cons_some : (x : List ℕ) (xs : List (List ℕ)) → x ∷ xs ≡ [] → ⊥
cons_some x xs e = cc

form_some : (p : Part) (x : Form) → tokens_of p x ≢ []
form_some p (Field f) e = cons_some _ _ e
form_some p (Vertex n) e = cons_some _ _ e
form_some p (ArrowForm a) e = cons_some _ _ e
form_some p (Bound t) e = cons_some _ _ e
form_some p (RelationForm r) e = cons_some _ _ e

form_step : (p : Part) (x : Form) → IsFront p → Fits p x → Step p (strict_line (tokens_of p x)) (after p x)
form_step p x front fits = the_step p (strict_line (tokens_of p x)) x front fits (strict_tokens-strict_line (tokens_of p x) (form_some p x) (form_lacks 32 spaces p x front fits))

stage : Gf → List Name → List Arrow → ℕ → List Relation → Part
stage f vs as' t rs = record { is_begun = true; header = record { field = f; quiver = record { vertices = vs; arrows = as' }; bound = t; relations = rs } }

middle : {X : Type 0} (front : List X) (x : X) (rest : List X) → Contains (front ++ x ∷ rest) x
middle [] x rest = Contains-head x rest
middle (y ∷ front) x rest = Contains-behind y (front ++ x ∷ rest) x (middle front x rest)

before : {X : Type 0} (R : X → X → Type 0) (front : List X) (x : X) (rest : List X) → AllPairs R (front ++ x ∷ rest) → All (λ y. R y x) front
before R [] x rest pairs = All-nil (λ y. R y x)
before R (y ∷ front) x rest pairs =
    All-cons (λ z. R z x) y front (AllPairs-head R y (front ++ x ∷ rest) pairs x (middle front x rest)) (before R front x rest (AllPairs-tail R y (front ++ x ∷ rest) pairs))

shorter : {X : Type 0} (front : List X) (x : X) (rest : List X) (n : ℕ) → length (front ++ x ∷ rest) ≤ n → length front < n
shorter front x rest n h = let e = length-append front (x ∷ rest) in omega arith

reads_vertices : (f : Gf) (all front rest : List Name) → all ≡ front ++ rest → All IsName all → AllPairs (λ (a b : Name). a ≢ b) all → length all ≤ 32 → IsFront (stage f front [] 0 [])
    → Reads Step (stage f front [] 0 []) (map strict_line (map vertex_line rest)) (stage f all [] 0 []) × IsFront (stage f all [] 0 [])
unfolding stage
reads_vertices f all front [] e named pairs few is =
    let same : all ≡ front = e ∙ append-nil front in
    (ap (λ vs. stage f vs [] 0 []) same, subst (λ vs. IsFront (stage f vs [] 0 [])) (sym same) is)
reads_vertices f all front (n ∷ rest) e named pairs few is =
    let p = stage f front [] 0 [] in
    let fits : FitsVertex p n = record {
      opened = record { begun = refl; unbound = refl };
      no_arrow = refl;
      room = shorter front n rest 32 (subst (λ xs. length xs ≤ 32) e few);
      named = All-contains IsName all n named (subst (λ (xs : List Name). Contains xs n) (sym e) (middle front n rest));
      new = before (λ (a b : Name). a ≢ b) front n rest (subst (AllPairs (λ (a b : Name). a ≢ b)) e pairs);
    } in
    let more = reads_vertices f all (front ++ n ∷ []) rest (e ∙ sym (append_assoc front (n ∷ []) rest)) named pairs few (front_after p (Vertex n) is fits) in
    ((stage f (front ++ n ∷ []) [] 0 [], form_step p (Vertex n) is fits, more.0), more.1)

module _ (f : Gf) (vs : List Name) where
  reads_arrows : (all front rest : List Arrow) (Q : Quiver) → Q ≡ record { vertices = vs; arrows = all } → all ≡ front ++ rest → All (λ (a : Arrow). IsArrowName a.name) all
      → All (λ (a : Arrow). (a.from < length vs) × (a.to < length vs)) all → AllPairs (λ (a b : Arrow). a.name ≢ b.name) all → length all ≤ 128 → IsFront (stage f vs front 0 [])
      → Reads Step (stage f vs front 0 []) (map strict_line (map (arrow_line Q) rest)) (stage f vs all 0 []) × IsFront (stage f vs all 0 [])
  unfolding stage vertex_name
  reads_arrows all front [] Q q e named ends pairs few is =
      let same : all ≡ front = e ∙ append-nil front in
      (ap (λ as'. stage f vs as' 0 []) same, subst (λ as'. IsFront (stage f vs as' 0 [])) (sym same) is)
  reads_arrows all front (a ∷ rest) Q q e named ends pairs few is =
      let p = stage f vs front 0 [] in
      let inside : Contains all a = subst (λ (xs : List Arrow). Contains xs a) (sym e) (middle front a rest) in
      let both = All-contains (λ (x : Arrow). (x.from < length vs) × (x.to < length vs)) all a ends inside in
      let fits : FitsArrow p a = record {
        opened = record { begun = refl; unbound = refl };
        room = shorter front a rest 128 (subst (λ xs. length xs ≤ 128) e few);
        arrow_is = record { named = All-contains (λ (x : Arrow). IsArrowName x.name) all a named inside; from = both.0; to = both.1 };
        new = before (λ (x y : Arrow). x.name ≢ y.name) front a rest (subst (AllPairs (λ (x y : Arrow). x.name ≢ y.name)) e pairs);
      } in
      let more = reads_arrows all (front ++ a ∷ []) rest Q q (e ∙ sym (append_assoc front (a ∷ []) rest)) named ends pairs few (front_after p (ArrowForm a) is fits) in
      let line : arrow_line p.header.quiver a ≡ arrow_line Q a = ap (λ (r : Quiver). arrow_line record { vertices = r.vertices; arrows = front } a) (sym q) in
      ((stage f vs (front ++ a ∷ []) 0 [], subst (λ l. Step p (strict_line l) (stage f vs (front ++ a ∷ []) 0 [])) line (form_step p (ArrowForm a) is fits), more.0), more.1)

  reads_relations : (as' : List Arrow) (t : ℕ) (all front rest : List Relation) → 0 < t → all ≡ front ++ rest → All (IsRelation record { field = f; quiver = record { vertices = vs; arrows = as' }; bound = t; relations = all }) all
      → length all ≤ 256 → IsFront (stage f vs as' t front)
      → Reads Step (stage f vs as' t front) (map strict_line (map (relation_line record { vertices = vs; arrows = as' }) rest)) (stage f vs as' t all)
  unfolding stage
  reads_relations as' t all front [] some e are few is = ap (stage f vs as' t) (e ∙ append-nil front)
  reads_relations as' t all front (r ∷ rest) some e are few is =
      let p = stage f vs as' t front in
      let h : Header = record { field = f; quiver = record { vertices = vs; arrows = as' }; bound = t; relations = all } in
      let fits : FitsRelation p r = record {
        bounded = some;
        room = shorter front r rest 256 (subst (λ xs. length xs ≤ 256) e few);
        relation_is = IsRelation-moved h p.header refl refl r (All-contains (IsRelation h) all r are (subst (λ (xs : List Relation). Contains xs r) (sym e) (middle front r rest)));
      } in
      let more = reads_relations as' t all (front ++ r ∷ []) rest some (e ∙ sym (append_assoc front (r ∷ []) rest)) are few (front_after p (RelationForm r) is fits) in
      (stage f vs as' t (front ++ r ∷ []), form_step p (RelationForm r) is fits, more)

begun_stage : (s : Part) (f : Gf) → IsStart s → after s (Field f) ≡ stage f [] [] 0 []
unfolding stage
begun_stage s f start = λ k. record { is_begun = true; header = record { field = f; quiver = record { vertices = start.no_vertex k; arrows = start.no_arrow k }; bound = start.unbound k; relations = start.no_relation k } }

-- the lines of a header that is allowed are read
pub reads_header : (s : Part) (h : Header) → IsStart s → IsAllowed h → Reads Step s (map strict_line (header_lines h)) record { is_begun = true; header = h }
unfolding stage
reads_header s h start is =
    let f = h.field in
    let vs = h.quiver.vertices in
    let as' = h.quiver.arrows in
    let t = h.bound in
    let front0 = start_front s start in
    let first = form_step s (Field f) front0 start.unbegun in
    let front1 : IsFront (stage f [] [] 0 []) = subst IsFront (begun_stage s f start) (front_after s (Field f) front0 start.unbegun) in
    let vertices = reads_vertices f vs [] vs refl is.vertex_names is.vertices_differ is.quiver.vertices_limit front1 in
    let arrows = reads_arrows f vs as' [] as' h.quiver refl refl is.arrow_names (all_from_HasEnds h.quiver is.quiver.ends) is.arrows_differ is.quiver.arrows_limit vertices.1 in
    let p = stage f vs as' 0 [] in
    let low = is.bound_from in
    let fits : FitsBound p t = record { opened = record { begun = refl; unbound = refl }; has_vertex = is.quiver.has_vertex; from = is.bound_from; to = is.bound_to } in
    let bound = form_step p (Bound t) arrows.1 fits in
    let relations = reads_relations f vs as' t h.relations [] h.relations (omega arith) refl is.relations is.few_relations (front_after p (Bound t) arrows.1 fits) in
    let tail = map strict_line (bound_line t ∷ map (relation_line h.quiver) h.relations) in
    let two' = Reads-append Step (stage f vs [] 0 []) p record { is_begun = true; header = h } (map strict_line (map (arrow_line h.quiver) as')) tail arrows.0 (stage f vs as' t [], bound, relations) in
    let three = Reads-append Step (stage f [] [] 0 []) (stage f vs [] 0 []) record { is_begun = true; header = h } (map strict_line (map vertex_line vs)) (map strict_line (map (arrow_line h.quiver) as') ++ tail) vertices.0 two' in
    let lines' : map strict_line (map vertex_line vs) ++ (map strict_line (map (arrow_line h.quiver) as') ++ tail) ≡ map strict_line (map vertex_line vs ++ (map (arrow_line h.quiver) as' ++ (bound_line t ∷ map (relation_line h.quiver) h.relations))) =
    sym (map-append strict_line (map vertex_line vs) (map (arrow_line h.quiver) as' ++ (bound_line t ∷ map (relation_line h.quiver) h.relations))
    ∙ ap (λ r. map strict_line (map vertex_line vs) ++ r) (map-append strict_line (map (arrow_line h.quiver) as') (bound_line t ∷ map (relation_line h.quiver) h.relations))) in
    (stage f [] [] 0 [], subst (λ q. Step s (strict_line (field_line f)) q) (begun_stage s f start) first, subst (λ ls. Reads Step (stage f [] [] 0 []) ls record { is_begun = true; header = h }) lines' three)

-- the lines of a text of lines without a line feed inside
pub lines_of_text : (ls : List (List (List ℕ))) → All (All (Lacks 10)) ls → lines (text_of ls) ≡ map strict_line ls
lines_of_text [] all = refl
lines_of_text (l ∷ ls) all =
    ap lines (append_assoc (spaced l) (10 ∷ []) (text_of ls))
    ∙ (lines-cut (spaced l) (text_of ls) (joined_lacks 10 32 refl l (All-head (All (Lacks 10)) l ls all))
    ∙ ap (λ r. strict_line l ∷ r) (lines_of_text ls (All-tail (All (Lacks 10)) l ls all)))

pub header_lacks : (h : Header) → IsAllowed h → All (All (Lacks 10)) (header_lines h)
header_lacks h is =
    let P = All (Lacks 10) in
    let named = IsNamed-allowed h is in
    let out = feed_outside in
    let rs = map (relation_line h.quiver) h.relations in
    let as' = map (arrow_line h.quiver) h.quiver.arrows in
    let vs = map vertex_line h.quiver.vertices in
    All-cons P (field_line h.field) (vs ++ (as' ++ (bound_line h.bound ∷ rs))) (field_lacks 10 out feeds.field_word h.field)
    (All-append P vs (as' ++ (bound_line h.bound ∷ rs)) (All-map P vertex_line h.quiver.vertices (All-weaker IsName (λ n. P (vertex_line n)) (vertex_lacks 10 out feeds.vertex_word) h.quiver.vertices is.vertex_names))
    (All-append P as' (bound_line h.bound ∷ rs)
    (All-map P (arrow_line h.quiver) h.quiver.arrows (All-weaker (λ (a : Arrow). IsArrowName a.name) (λ a. P (arrow_line h.quiver a)) (arrow_lacks 10 out feeds.arrow_word h.quiver named) h.quiver.arrows is.arrow_names))
    (All-cons P (bound_line h.bound) rs (bound_lacks 10 out feeds.bound_word h.bound is.bound_to)
    (All-map P (relation_line h.quiver) h.relations (All-weaker (IsRelation h) (λ r. P (relation_line h.quiver r)) (relation_lacks 10 out feeds.relation_word h named) h.relations is.relations)))))
