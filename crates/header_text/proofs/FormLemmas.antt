-- What the readers of lines conclude: the tokens of one form are those of no other.
use Rattle.std.proofs.Common.{◌≡◌, ◌≢◌, ℕ, ◌<◌, ◌≤◌, ◌^◌, false, List, [], ◌∷◌, get_or, eqb, codes, decimal, Some, None, refl, sym, ap, ◌∙◌, arith, lit<}
use Rattle.std.proofs.lemmas.Bool.{eqb-false}
use Rattle.std.specs.Prelude.{MatchOption}
use Rattle.std.specs.declared.option.Option.{Option}
use Rattle.linear_algebra.specs.Field.{Gf, f2, f3, f4, f5, f7, f8, f9, f11, f13, f16, f25, f27, order}
use Rattle.fp_linear.specs.Sizes.{field_of}
use Rattle.quiver_paths.specs.declared.Arrow.{Arrow}
use Rattle.path_algebra.specs.declared.Relation.{Relation}
use Rattle.text_lines.specs.Reading.{IsDetermined}
use Rattle.text_lines.specs.Forms.{IsUnambiguous}
use Rattle.text_lines.specs.Strict.{strict_tokens}
use Rattle.text_lines.proofs.FormLaws.{StepByForm-determined}
use Rattle.header_text.specs.declared.forms.Form.{Form}
use Rattle.header_text.specs.declared.forms.Form.TheVariants.{Field, Vertex, Arrow as ArrowForm, Bound, Relation as RelationForm}
use Rattle.header_text.specs.Spelling.{vertex_name, field_arguments, vertex_arguments, arrow_arguments, bound_arguments, terms_arguments}
use Rattle.header_text.specs.Reading.{Reads}
use Rattle.header_text.specs.Part.{Part, FitsVertex, FitsArrow, FitsBound, FitsRelation, MayFollow, Fits, tokens_of, after, FormStep, Step, IsFront}
use Rattle.header_text.proofs.Uniqueness.{decimal_one, one_vertex}
use Rattle.header_text.proofs.TermLemmas.{one_terms, IsRelation-terms}
use Rattle.header_text.proofs.Readers.{order_small}

-- the first byte of the first token
pub tag : List (List ℕ) → ℕ
tag [] = 0
tag (t ∷ ts) = get_or t 0 0

-- and that of each form
pub form_tag : Form → ℕ
form_tag (Field f) = 102
form_tag (Vertex n) = 118
form_tag (ArrowForm a) = 97
form_tag (Bound t) = 98
form_tag (RelationForm r) = 114

pub tag_is : (p : Part) (x : Form) → tag (tokens_of p x) ≡ form_tag x
unfolding tag form_tag
tag_is p (Field f) = refl
tag_is p (Vertex n) = refl
tag_is p (ArrowForm a) = refl
tag_is p (Bound t) = refl
tag_is p (RelationForm r) = refl

args_same : (w : List ℕ) (xs ys : List (List ℕ)) → w ∷ xs ≡ w ∷ ys → xs ≡ ys
args_same w xs ys e = cc

word_same : (v w : List ℕ) (xs ys : List (List ℕ)) → v ∷ xs ≡ w ∷ ys → v ≡ w
word_same v w xs ys e = cc

pub clash : (m n : ℕ) → eqb m n ≡ false → m ≡ n → ⊥
clash m n d e = eqb-false m n d e

pub first_tag : (w : List ℕ) (rest : List (List ℕ)) → tag (w ∷ rest) ≡ get_or w 0 0
unfolding tag
first_tag w rest = refl

pub tags : (p : Part) (w : List ℕ) (rest : List (List ℕ)) (x : Form) → w ∷ rest ≡ tokens_of p x → get_or w 0 0 ≡ form_tag x
tags p w rest x e = sym (first_tag w rest) ∙ (ap tag e ∙ tag_is p x)

-- a line that begins with the word of one form is of that form
pub no_field : (p : Part) (rest : List (List ℕ)) → ((f : Gf) → p.is_begun ≡ false → rest ≡ field_arguments f → ⊥) → (x : Form) → Fits p x → codes "field" ∷ rest ≡ tokens_of p x → ⊥
unfolding form_tag
no_field p rest none (Field f) follows e = none f follows (args_same _ _ _ e)
no_field p rest none (Vertex n) follows e = clash 102 118 refl (tags p (codes "field") rest (Vertex n) e)
no_field p rest none (ArrowForm a) follows e = clash 102 97 refl (tags p (codes "field") rest (ArrowForm a) e)
no_field p rest none (Bound t) follows e = clash 102 98 refl (tags p (codes "field") rest (Bound t) e)
no_field p rest none (RelationForm r) follows e = clash 102 114 refl (tags p (codes "field") rest (RelationForm r) e)

pub no_vertex : (p : Part) (rest : List (List ℕ)) → ((n : List ℕ) → FitsVertex p n → rest ≡ vertex_arguments n → ⊥) → (x : Form) → Fits p x → codes "vertex" ∷ rest ≡ tokens_of p x → ⊥
unfolding form_tag
no_vertex p rest none (Field f) follows e = clash 118 102 refl (tags p (codes "vertex") rest (Field f) e)
no_vertex p rest none (Vertex n) follows e = none n follows (args_same _ _ _ e)
no_vertex p rest none (ArrowForm a) follows e = clash 118 97 refl (tags p (codes "vertex") rest (ArrowForm a) e)
no_vertex p rest none (Bound t) follows e = clash 118 98 refl (tags p (codes "vertex") rest (Bound t) e)
no_vertex p rest none (RelationForm r) follows e = clash 118 114 refl (tags p (codes "vertex") rest (RelationForm r) e)

pub no_arrow : (p : Part) (rest : List (List ℕ)) → ((a : Arrow) → FitsArrow p a → rest ≡ arrow_arguments p.header.quiver a → ⊥) → (x : Form) → Fits p x → codes "arrow" ∷ rest ≡ tokens_of p x → ⊥
unfolding form_tag
no_arrow p rest none (Field f) follows e = clash 97 102 refl (tags p (codes "arrow") rest (Field f) e)
no_arrow p rest none (Vertex n) follows e = clash 97 118 refl (tags p (codes "arrow") rest (Vertex n) e)
no_arrow p rest none (ArrowForm a) follows e = none a follows (args_same _ _ _ e)
no_arrow p rest none (Bound t) follows e = clash 97 98 refl (tags p (codes "arrow") rest (Bound t) e)
no_arrow p rest none (RelationForm r) follows e = clash 97 114 refl (tags p (codes "arrow") rest (RelationForm r) e)

pub no_bound : (p : Part) (rest : List (List ℕ)) → ((t : ℕ) → FitsBound p t → rest ≡ bound_arguments t → ⊥) → (x : Form) → Fits p x → codes "bound" ∷ rest ≡ tokens_of p x → ⊥
unfolding form_tag
no_bound p rest none (Field f) follows e = clash 98 102 refl (tags p (codes "bound") rest (Field f) e)
no_bound p rest none (Vertex n) follows e = clash 98 118 refl (tags p (codes "bound") rest (Vertex n) e)
no_bound p rest none (ArrowForm a) follows e = clash 98 97 refl (tags p (codes "bound") rest (ArrowForm a) e)
no_bound p rest none (Bound t) follows e = none t follows (args_same _ _ _ e)
no_bound p rest none (RelationForm r) follows e = clash 98 114 refl (tags p (codes "bound") rest (RelationForm r) e)

pub no_relation : (p : Part) (rest : List (List ℕ)) → ((r : Relation) → FitsRelation p r → rest ≡ terms_arguments p.header.quiver r.terms → ⊥) → (x : Form) → Fits p x → codes "relation" ∷ rest ≡ tokens_of p x → ⊥
unfolding form_tag
no_relation p rest none (Field f) follows e = clash 114 102 refl (tags p (codes "relation") rest (Field f) e)
no_relation p rest none (Vertex n) follows e = clash 114 118 refl (tags p (codes "relation") rest (Vertex n) e)
no_relation p rest none (ArrowForm a) follows e = clash 114 97 refl (tags p (codes "relation") rest (ArrowForm a) e)
no_relation p rest none (Bound t) follows e = clash 114 98 refl (tags p (codes "relation") rest (Bound t) e)
no_relation p rest none (RelationForm r) follows e = none r follows (args_same _ _ _ e)

no_word_by : (p : Part) (w : List ℕ) (rest : List (List ℕ)) → w ≢ codes "field" → w ≢ codes "vertex" → w ≢ codes "arrow" → w ≢ codes "bound" → w ≢ codes "relation" → (x : Form) → w ∷ rest ≡ tokens_of p x → ⊥
no_word_by p w rest a b c d e (Field f) same = a (word_same _ _ _ _ same)
no_word_by p w rest a b c d e (Vertex n) same = b (word_same _ _ _ _ same)
no_word_by p w rest a b c d e (ArrowForm r) same = c (word_same _ _ _ _ same)
no_word_by p w rest a b c d e (Bound t) same = d (word_same _ _ _ _ same)
no_word_by p w rest a b c d e (RelationForm r) same = e (word_same _ _ _ _ same)

-- a line that begins with another word is of no form
pub no_word : (p : Part) (w : List ℕ) (rest : List (List ℕ)) → w ≢ codes "field" → w ≢ codes "vertex" → w ≢ codes "arrow" → w ≢ codes "bound" → w ≢ codes "relation" → (x : Form) → Fits p x → w ∷ rest ≡ tokens_of p x → ⊥
no_word p w rest a b c d e x follows same = no_word_by p w rest a b c d e x same

-- a line without a token is of no form
pub no_token : (p : Part) (x : Form) → Fits p x → [] ≡ tokens_of p x → ⊥
unfolding form_tag tag
no_token p x follows e = none_tag x (ap tag e ∙ tag_is p x)
  where
    none_tag : (x : Form) → 0 ≡ form_tag x → ⊥
    none_tag (Field f) h = clash 0 102 refl h
    none_tag (Vertex n) h = clash 0 118 refl h
    none_tag (ArrowForm a) h = clash 0 97 refl h
    none_tag (Bound t) h = clash 0 98 refl h
    none_tag (RelationForm r) h = clash 0 114 refl h

-- fields of one size are one
pub one_field : (f g : Gf) → order f ≡ order g → f ≡ g
one_field f g e = sym (at' f) ∙ (ap field_of e ∙ at' g)
  where
    at' : (x : Gf) → field_of (order x) ≡ x
    at' f2 = refl
    at' f3 = refl
    at' f4 = refl
    at' f5 = refl
    at' f7 = refl
    at' f8 = refl
    at' f9 = refl
    at' f11 = refl
    at' f13 = refl
    at' f16 = refl
    at' f25 = refl
    at' f27 = refl

number_same : (a b : List ℕ) → a ∷ [] ≡ b ∷ [] → a ≡ b
number_same a b e = cc

arrow_same : (a b : Arrow) → a.name ≡ b.name → a.from ≡ b.from → a.to ≡ b.to → a ≡ b
arrow_same a b x y z = λ k. record { name = x k; from = y k; to = z k }

three_same : (a b c x y z : List ℕ) → a ∷ b ∷ c ∷ [] ≡ x ∷ y ∷ z ∷ [] → (a ≡ x) × (b ≡ y) × (c ≡ z)
three_same a b c x y z e = (cc, cc, cc)

relation_same : (a b : Relation) → a.terms ≡ b.terms → a ≡ b
relation_same a b x = λ k. record { terms = x k }

pub one_arrow_line : (p : Part) → IsFront p → (a b : Arrow) → FitsArrow p a → FitsArrow p b → arrow_arguments p.header.quiver a ≡ arrow_arguments p.header.quiver b → a ≡ b
one_arrow_line p front a b x y e =
    let Q = p.header.quiver in
    let same = three_same a.name (vertex_name Q a.from) (vertex_name Q a.to) b.name (vertex_name Q b.from) (vertex_name Q b.to) e in
    arrow_same a b same.0 (one_vertex Q front.named a.from b.from x.arrow_is.from y.arrow_is.from same.1) (one_vertex Q front.named a.to b.to x.arrow_is.to y.arrow_is.to same.2)

small : (n : ℕ) → n ≤ 32 → n < 2 ^ 64
small n h = let big : 32 < 2 ^ 64 = lit< tt in omega arith

small_order : (f : Gf) → order f < 2 ^ 64
small_order f = let h = order_small f in small (order f) (omega arith)

-- no two forms that may follow have the same tokens
pub one_form : (p : Part) → IsFront p → (x y : Form) → Fits p x → Fits p y → tokens_of p x ≡ tokens_of p y → x ≡ y
unfolding form_tag
one_form p front (Field x) (Field y) a b e = ap Field (one_field x y (decimal_one (order x) (order y) (small_order x) (small_order y) (number_same _ _ (args_same _ _ _ e))))
one_form p front (Field x) (Vertex y) a b e = absurd (clash 102 118 refl (sym (tag_is p (Field x)) ∙ (ap tag e ∙ tag_is p (Vertex y))))
one_form p front (Field x) (ArrowForm y) a b e = absurd (clash 102 97 refl (sym (tag_is p (Field x)) ∙ (ap tag e ∙ tag_is p (ArrowForm y))))
one_form p front (Field x) (Bound y) a b e = absurd (clash 102 98 refl (sym (tag_is p (Field x)) ∙ (ap tag e ∙ tag_is p (Bound y))))
one_form p front (Field x) (RelationForm y) a b e = absurd (clash 102 114 refl (sym (tag_is p (Field x)) ∙ (ap tag e ∙ tag_is p (RelationForm y))))
one_form p front (Vertex x) (Field y) a b e = absurd (clash 118 102 refl (sym (tag_is p (Vertex x)) ∙ (ap tag e ∙ tag_is p (Field y))))
one_form p front (Vertex x) (Vertex y) a b e = ap Vertex (number_same _ _ (args_same _ _ _ e))
one_form p front (Vertex x) (ArrowForm y) a b e = absurd (clash 118 97 refl (sym (tag_is p (Vertex x)) ∙ (ap tag e ∙ tag_is p (ArrowForm y))))
one_form p front (Vertex x) (Bound y) a b e = absurd (clash 118 98 refl (sym (tag_is p (Vertex x)) ∙ (ap tag e ∙ tag_is p (Bound y))))
one_form p front (Vertex x) (RelationForm y) a b e = absurd (clash 118 114 refl (sym (tag_is p (Vertex x)) ∙ (ap tag e ∙ tag_is p (RelationForm y))))
one_form p front (ArrowForm x) (Field y) a b e = absurd (clash 97 102 refl (sym (tag_is p (ArrowForm x)) ∙ (ap tag e ∙ tag_is p (Field y))))
one_form p front (ArrowForm x) (Vertex y) a b e = absurd (clash 97 118 refl (sym (tag_is p (ArrowForm x)) ∙ (ap tag e ∙ tag_is p (Vertex y))))
one_form p front (ArrowForm x) (ArrowForm y) a b e = ap ArrowForm (one_arrow_line p front x y a b (args_same _ _ _ e))
one_form p front (ArrowForm x) (Bound y) a b e = absurd (clash 97 98 refl (sym (tag_is p (ArrowForm x)) ∙ (ap tag e ∙ tag_is p (Bound y))))
one_form p front (ArrowForm x) (RelationForm y) a b e = absurd (clash 97 114 refl (sym (tag_is p (ArrowForm x)) ∙ (ap tag e ∙ tag_is p (RelationForm y))))
one_form p front (Bound x) (Field y) a b e = absurd (clash 98 102 refl (sym (tag_is p (Bound x)) ∙ (ap tag e ∙ tag_is p (Field y))))
one_form p front (Bound x) (Vertex y) a b e = absurd (clash 98 118 refl (sym (tag_is p (Bound x)) ∙ (ap tag e ∙ tag_is p (Vertex y))))
one_form p front (Bound x) (ArrowForm y) a b e = absurd (clash 98 97 refl (sym (tag_is p (Bound x)) ∙ (ap tag e ∙ tag_is p (ArrowForm y))))
one_form p front (Bound x) (Bound y) a b e = ap Bound (decimal_one x y (small x a.to) (small y b.to) (number_same _ _ (args_same _ _ _ e)))
one_form p front (Bound x) (RelationForm y) a b e = absurd (clash 98 114 refl (sym (tag_is p (Bound x)) ∙ (ap tag e ∙ tag_is p (RelationForm y))))
one_form p front (RelationForm x) (Field y) a b e = absurd (clash 114 102 refl (sym (tag_is p (RelationForm x)) ∙ (ap tag e ∙ tag_is p (Field y))))
one_form p front (RelationForm x) (Vertex y) a b e = absurd (clash 114 118 refl (sym (tag_is p (RelationForm x)) ∙ (ap tag e ∙ tag_is p (Vertex y))))
one_form p front (RelationForm x) (ArrowForm y) a b e = absurd (clash 114 97 refl (sym (tag_is p (RelationForm x)) ∙ (ap tag e ∙ tag_is p (ArrowForm y))))
one_form p front (RelationForm x) (Bound y) a b e = absurd (clash 114 98 refl (sym (tag_is p (RelationForm x)) ∙ (ap tag e ∙ tag_is p (Bound y))))
one_form p front (RelationForm x) (RelationForm y) a b e =
    ap RelationForm (relation_same x y (one_terms p.header front.named x.terms y.terms (IsRelation-terms p.header x a.relation_is) (IsRelation-terms p.header y b.relation_is) (args_same _ _ _ e)))

pub unambiguous : IsUnambiguous MayFollow tokens_of
unambiguous p x y a b e = one_form p a.0 x y a.1 b.1 e

pub step_determined : IsDetermined FormStep
step_determined = StepByForm-determined strict_tokens MayFollow tokens_of after unambiguous

pub behind_first : (tokens : List (List ℕ)) (n m : List ℕ) (rest more : List (List ℕ)) → tokens ≡ n ∷ rest → tokens ≡ m ∷ more → rest ≡ more
behind_first tokens n m rest more a b = let e : n ∷ rest ≡ m ∷ more = sym a ∙ b in cc

pub field_of_number : (tokens : List (List ℕ)) (q : ℕ) (r : Option Gf) → q ≤ 27 → tokens ≡ decimal q ∷ [] → MatchOption r ((f : Gf) → order f ≢ q) (λ f. order f ≡ q)
    → Reads (λ (f : Gf). Unit {0}) field_arguments tokens r
field_of_number tokens q None low e none = λ f _ s. none f (sym (decimal_one q (order f) (small q (omega arith)) (small_order f) (number_same _ _ (sym e ∙ s))))
field_of_number tokens q (Some f) low e found = (tt, e ∙ ap (λ n. decimal n ∷ []) (sym found))

pub the_step : (p : Part) (line : List ℕ) (x : Form) → IsFront p → Fits p x → strict_tokens line ≡ Some (tokens_of p x) → Step p line (after p x)
the_step p line x front fits lex =
    let one : FormStep p line (after p x) = record { form = x; follows = (front, fits); spelled = lex; leads = refl } in
    record { step = one; only = λ other step. step_determined p line other (after p x) step one }

pub step_of : (p : Part) (line : List ℕ) (tokens : List (List ℕ)) (x : Form) → IsFront p → strict_tokens line ≡ Some tokens → Fits p x → tokens ≡ tokens_of p x → Step p line (after p x)
step_of p line tokens x front lex fits spelled = the_step p line x front fits (lex ∙ ap Some spelled)

same_some : (x y : List (List ℕ)) → Some x ≡ Some y → x ≡ y
same_some x y e = cc

none_some : (x : List (List ℕ)) → None ≡ Some x → ⊥
none_some x e = cc

pub no_step_of : (p : Part) (line : List ℕ) (tokens : List (List ℕ)) → strict_tokens line ≡ Some tokens → ((x : Form) → Fits p x → tokens ≡ tokens_of p x → ⊥) → (next : Part) → Step p line next → ⊥
no_step_of p line tokens lex none next step = none step.step.form step.step.follows.1 (same_some _ _ (sym lex ∙ step.step.spelled))

pub no_step_lexed : (p : Part) (line : List ℕ) → strict_tokens line ≡ None → (next : Part) → Step p line next → ⊥
no_step_lexed p line lex next step = none_some _ (sym lex ∙ step.step.spelled)

pub low_bound : (p : Part) (rest : List (List ℕ)) (b : ℕ) → b < 2 → rest ≡ decimal b ∷ [] → (x : Form) → Fits p x → codes "bound" ∷ rest ≡ tokens_of p x → ⊥
low_bound p rest b low is x fits e = no_bound p rest (λ t f s. let same : b ≡ t = decimal_one b t (small b (omega arith)) (small t f.to) (number_same _ _ (sym is ∙ s)) in let two = f.from in omega arith) x fits e
