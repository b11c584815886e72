-- What was read so far is sound: a front of an allowed header, and statements such as the grammar allows.
use Rattle.std.proofs.Common.{◌≡◌, ℕ, ◌+◌, ◌<◌, ◌≤◌, List, [], ◌∷◌, ◌++◌, length, cond, IsTrue, Bool, true, false, Some, None, refl, sym, ap, ◌∙◌, subst, true≢false, arith}
use Rattle.std.specs.Prelude.{IfSome, IsSome, ⊤}
use Rattle.std.specs.declared.option.Option.{Option}
use Rattle.std.proofs.Math.Nat.{min-eq_left}
use Rattle.std.proofs.lemmas.List.Quantifiers.{position-Some}
use Rattle.linear_algebra.specs.Field.{Gf}
use Rattle.quiver_paths.specs.Name.{IsName}
use Rattle.quiver_paths.specs.declared.naming.Name.{Name}
use Rattle.quiver_paths.specs.declared.Arrow.{Arrow}
use Rattle.path_algebra.specs.declared.Header.{Header}
use Rattle.path_algebra.specs.declared.Relation.{Relation}
use Rattle.path_algebra.specs.Allowed.{IsAllowed, IsArrowName}
use Rattle.header_text.specs.declared.forms.Form.TheVariants as form
use Rattle.header_text.specs.Part.{Part as Front, IsFront}
use Rattle.header_text.proofs.FrontLemmas.{front_after, allowed_at_end, start_front}
use Rattle.text_lines.specs.Reading.{Reads}
use Rattle.script_types.specs.declared.AtLine.{AtLine}
use Rattle.script_types.specs.declared.Statement.{Statement}
use Rattle.script_types.specs.declared.StatementKind.{StatementKind}
use Rattle.script_lang.specs.declared.line.Line.{Line}
use Rattle.script_lang.specs.declared.line.Line.TheVariants as line
use Rattle.script_lang.specs.declared.part.Place.{Place}
use Rattle.script_lang.specs.declared.part.Place.TheVariants.{Start, Vertices, Arrows, Relations, Body, Block}
use Rattle.script_lang.specs.declared.part.Part.{Part}
use Rattle.script_lang.specs.Tokens.{is_word}
use Rattle.script_lang.specs.Lines.{line_in}
use Rattle.script_lang.specs.Parts.{FitsField, FitsVertex, FitsArrow, FitsBound, FitsRelation, FitsBasis, FitsStatement, MayFollow, after, with_field, with_vertex, with_arrow, with_bound, with_relation, with_basis, with_statement, awaits_arrows, vertex_place, place_or_first, opens, takes_at, place_with, kind_with, is_block, closed}
use Rattle.script_lang.specs.Scripts.{counted, TokenStep, Step, start}
use Rattle.script_types.specs.Ranges.{IsAtLine, IsStatement}
use Rattle.script_lang.proofs.LineRanges.{IsLine, IsWritten, line_fits}
use Rattle.script_lang.proofs.SoundStatements.{AreSound, IsNext, sound_none, sound_further, next_further, next_here, sound_push, kind_with_fits}

abbrev pub begun_at : Place → Bool
begun_at Start = false
begun_at Vertices = true
begun_at Arrows = true
begun_at Relations = true
begun_at Body = true
begun_at (Block s) = true

abbrev pub front_at : Place → Header → Front
front_at x h = record { is_begun = begun_at x; header = h }

-- the header at each place
abbrev pub HeaderAt : Place → Header → Type 0
HeaderAt Start h = ⊤
HeaderAt Vertices h = (h.quiver.arrows ≡ []) × (h.bound ≡ 0)
HeaderAt Arrows h = h.bound ≡ 0
HeaderAt Relations h = 0 < h.bound
HeaderAt Body h = 0 < h.bound
HeaderAt (Block s) h = 0 < h.bound

pub record InRelations (p : Part) : Type 0 where
  pub none : p.statements ≡ []
  pub bound : 0 < p.bound_line
  pub limit : p.bound_line ≤ p.lines

pub record InBody (p : Part) : Type 0 where
  pub bound : 0 < p.bound_line
  pub basis : p.bound_line < p.basis_line
  pub limit : p.basis_line ≤ p.lines
  pub statements : AreSound p.header.field p.basis_line p.lines p.statements

-- the statements at each place
abbrev pub BodyAt : Place → Part → Type 0
BodyAt Start p = p.statements ≡ []
BodyAt Vertices p = p.statements ≡ []
BodyAt Arrows p = p.statements ≡ []
BodyAt Relations p = InRelations p
BodyAt Body p = InBody p
BodyAt (Block s) p = InBody p × IsNext p.header.field p.basis_line p.lines p.statements s

pub record IsSound (p : Part) : Type 0 where
  pub front : IsFront (front_at p.place p.header)
  pub header : HeaderAt p.place p.header
  pub body : BodyAt p.place p

-- the part with n lines read
abbrev to_line : Part → ℕ → Part
to_line p n = record p { lines = n }

body_further : (p : Part) (n : ℕ) → p.lines < n → InBody p → InBody (to_line p n)
body_further p n l is = let m = is.limit in record { bound = is.bound; basis = is.basis; limit = omega arith; statements = sound_further _ _ p.lines n p.statements (omega arith) is.statements }

body_counted : (x : Place) (p : Part) (n : ℕ) → p.lines < n → BodyAt x p → BodyAt x (to_line p n)
body_counted Start p n l b = b
body_counted Vertices p n l b = b
body_counted Arrows p n l b = b
body_counted Relations p n l b = let m = b.limit in record { none = b.none; bound = b.bound; limit = omega arith }
body_counted Body p n l b = body_further p n l b
body_counted (Block s) p n l b = (body_further p n l b.0, next_further _ _ p.lines n p.statements s (omega arith) b.1)

sound_counted : (p : Part) (n : ℕ) → p.lines < n → IsSound p → IsSound (to_line p n)
sound_counted p n l is = record { front = is.front; header = is.header; body = body_counted p.place p n l is.body }

-- ---- the header

sound_field : (p : Part) (f : Gf) → IsSound p → FitsField p → IsSound (with_field p f)
sound_field p f is fits =
    let begun : begun_at p.place ≡ false = ap begun_at fits in
    let none = is.front.unbegun begun in
    record {
      front = front_after (front_at p.place p.header) (form.Field f) is.front begun;
      header = (none.1, none.2);
      body = subst (λ x. BodyAt x p) fits is.body;
    }

sound_vertex : (p : Part) (n : List ℕ) → IsSound p → FitsVertex p n → IsName n → IsSound (with_vertex p n)
sound_vertex p n is fits name =
    let h = subst (λ x. HeaderAt x p.header) fits.place is.header in
    record {
      front = front_after (front_at p.place p.header) (form.Vertex n) is.front (record {
        opened = record { begun = ap begun_at fits.place; unbound = h.1 };
        no_arrow = h.0;
        room = fits.room;
        named = name;
        new = fits.new;
      });
      header = subst (λ x. HeaderAt x (with_vertex p n).header) (sym fits.place) h;
      body = subst (λ x. BodyAt x (with_vertex p n)) (sym fits.place) (subst (λ x. BodyAt x p) fits.place is.body);
    }

open_at : (x : Place) (h : Header) → IsTrue (awaits_arrows x) → HeaderAt x h → (begun_at x ≡ true) × (h.bound ≡ 0)
open_at Start h w at = absurd (true≢false (sym w))
open_at Vertices h w at = (refl, at.1)
open_at Arrows h w at = (refl, at)
open_at Relations h w at = absurd (true≢false (sym w))
open_at Body h w at = absurd (true≢false (sym w))
open_at (Block s) h w at = absurd (true≢false (sym w))

none_at : (x : Place) (p : Part) → IsTrue (awaits_arrows x) → BodyAt x p → p.statements ≡ []
none_at Start p w b = b
none_at Vertices p w b = b
none_at Arrows p w b = b
none_at Relations p w b = absurd (true≢false (sym w))
none_at Body p w b = absurd (true≢false (sym w))
none_at (Block s) p w b = absurd (true≢false (sym w))

place_inside : (names : List Name) (name : List ℕ) (r : Option ℕ) → vertex_place names name ≡ r → IsSome r → place_or_first r < length names
place_inside names name None is some = absurd (true≢false (sym some))
place_inside names name (Some i) is some = (position-Some (λ (n : Name). is_word n name) names i [] is).0

sound_arrow : (p : Part) (n v w : List ℕ) → IsSound p → FitsArrow p n v w → IsArrowName n → IsSound (with_arrow p n v w)
sound_arrow p n v w is fits name =
    let opened_at = open_at p.place p.header fits.place is.header in
    let vs = p.header.quiver.vertices in
    let a : Arrow = record { name = n; from = place_or_first (vertex_place vs v); to = place_or_first (vertex_place vs w) } in
    let front = front_after (front_at p.place p.header) (form.Arrow a) is.front (record {
      opened = record { begun = opened_at.0; unbound = opened_at.1 };
      room = fits.room;
      arrow_is = record { named = name; from = place_inside vs v _ refl fits.starts; to = place_inside vs w _ refl fits.ends };
      new = fits.new;
    }) in
    record {
      front = subst (λ b. IsFront (record { is_begun = b; header = (with_arrow p n v w).header })) opened_at.0 front;
      header = opened_at.1;
      body = none_at p.place p fits.place is.body;
    }

sound_bound : (p : Part) (t : ℕ) → 0 < p.lines → IsSound p → FitsBound p t → IsSound (with_bound p t)
sound_bound p t some is fits =
    let opened_at = open_at p.place p.header fits.place is.header in
    let front = front_after (front_at p.place p.header) (form.Bound t) is.front (record {
      opened = record { begun = opened_at.0; unbound = opened_at.1 };
      has_vertex = fits.has_vertex;
      from = fits.from;
      to = fits.to;
    }) in
    let low = fits.from in
    record {
      front = subst (λ b. IsFront (record { is_begun = b; header = (with_bound p t).header })) opened_at.0 front;
      header = omega arith;
      body = record { none = none_at p.place p fits.place is.body; bound = some; limit = omega arith };
    }

relations_kept : (p : Part) (rs : List Relation) → InRelations p → InRelations (record p { header = record p.header { relations = rs } })
relations_kept p rs is = record { none = is.none; bound = is.bound; limit = is.limit }

sound_relation : (p : Part) (r : Relation) → IsSound p → FitsRelation p r → IsSound (with_relation p r)
sound_relation p r is fits =
    let h = subst (λ x. HeaderAt x p.header) fits.place is.header in
    record {
      front = front_after (front_at p.place p.header) (form.Relation r) is.front (record { bounded = h; room = fits.room; relation_is = fits.relation_is });
      header = subst (λ x. HeaderAt x (with_relation p r).header) (sym fits.place) h;
      body = subst (λ x. BodyAt x (with_relation p r)) (sym fits.place) (relations_kept p (p.header.relations ++ r ∷ []) (subst (λ x. BodyAt x p) fits.place is.body));
    }

sound_basis : (p : Part) → IsSound p → (p.bound_line < p.lines) → FitsBasis p → IsSound (with_basis p)
sound_basis p is less fits =
    let h = subst (λ x. HeaderAt x p.header) fits is.header in
    let b : InRelations p = subst (λ x. BodyAt x p) fits is.body in
    record {
      front = subst (λ x. IsFront (front_at x p.header)) fits is.front;
      header = h;
      body = record {
        bound = b.bound;
        basis = less;
        limit = omega arith;
        statements = subst (AreSound p.header.field p.lines p.lines) (sym b.none) (sound_none p.header.field p.lines p.lines);
      };
    }

-- ---- the statements, from the part before this line was counted

body_pushed : (p : Part) (s : Statement) → InBody p → IsNext p.header.field p.basis_line p.lines p.statements s → InBody (record p { statements = p.statements ++ s ∷ [] })
body_pushed p s is next = record { bound = is.bound; basis = is.basis; limit = is.limit; statements = sound_push _ _ _ p.statements s is.statements next }

body_placed : (p : Part) (x : Place) → InBody p → InBody (record p { place = x })
body_placed p x is = record { bound = is.bound; basis = is.basis; limit = is.limit; statements = is.statements }

in_place : (p : Part) (x : Place) → begun_at p.place ≡ true → begun_at x ≡ true → IsFront (front_at p.place p.header) → IsFront (front_at x p.header)
in_place p x a b front = subst (λ c. IsFront (record { is_begun = c; header = p.header })) (a ∙ sym b) front

statement_cases : (p : Part) (s : Statement) (b : Bool) → IsSound p → p.place ≡ Body → IsNext p.header.field p.basis_line p.lines p.statements s
    → IsSound (cond b (record p { place = Block s }) (record p { statements = p.statements ++ s ∷ [] }))
statement_cases p s true is at next = record {
  front = in_place p (Block s) (ap begun_at at) refl is.front;
  header = subst (λ x. HeaderAt x p.header) at is.header;
  body = (body_placed p (Block s) (subst (λ x. BodyAt x p) at is.body), record { behind = next.behind; limit = next.limit; last = next.last; kind = next.kind });
}
statement_cases p s false is at next = record {
  front = is.front;
  header = is.header;
  body = subst (λ x. BodyAt x (record p { statements = p.statements ++ s ∷ [] })) (sym at) (body_pushed p s (subst (λ x. BodyAt x p) at is.body) next);
}

sound_statement : (p : Part) (n : ℕ) (k : StatementKind) → p.lines < n → IsSound p → FitsStatement p → IsStatement p.header.field k → IsSound (with_statement (to_line p n) k)
sound_statement p n k l is fits kind =
    let b : InBody p = subst (λ x. BodyAt x p) fits is.body in
    let m = b.limit in
    statement_cases (to_line p n) (record { line = n; kind = k }) (opens k) (sound_counted p n l is) fits
    (next_here p.header.field p.basis_line p.lines n p.statements k (omega arith) l b.statements kind)

at_cases : (x : Place) (p : Part) (l : AtLine) → p.place ≡ x → IsTrue (takes_at x l) → IsAtLine p.header.field l → IsSound p → IsSound (record p { place = place_with x l })
at_cases Start p l e takes at is = absurd (true≢false (sym takes))
at_cases Vertices p l e takes at is = absurd (true≢false (sym takes))
at_cases Arrows p l e takes at is = absurd (true≢false (sym takes))
at_cases Relations p l e takes at is = absurd (true≢false (sym takes))
at_cases Body p l e takes at is = absurd (true≢false (sym takes))
at_cases (Block s) p l e takes at is =
    let b : BodyAt (Block s) p = subst (λ x. BodyAt x p) e is.body in
    record {
      front = in_place p (Block (record { line = s.line; kind = kind_with s.kind l })) (ap begun_at e) refl is.front;
      header = subst (λ x. HeaderAt x p.header) e is.header;
      body = (
        record { bound = b.0.bound; basis = b.0.basis; limit = b.0.limit; statements = b.0.statements },
        record { behind = b.1.behind; limit = b.1.limit; last = b.1.last; kind = kind_with_fits p.header.field s.kind l takes at b.1.kind },
      );
    }

end_cases : (x : Place) (p : Part) → p.place ≡ x → IsTrue (is_block x) → IsSound p → IsSound (record p { place = Body; statements = p.statements ++ closed x })
end_cases Start p e block is = absurd (true≢false (sym block))
end_cases Vertices p e block is = absurd (true≢false (sym block))
end_cases Arrows p e block is = absurd (true≢false (sym block))
end_cases Relations p e block is = absurd (true≢false (sym block))
end_cases Body p e block is = absurd (true≢false (sym block))
end_cases (Block s) p e block is =
    let b : BodyAt (Block s) p = subst (λ x. BodyAt x p) e is.body in
    let q = body_pushed p s b.0 b.1 in
    record {
      front = in_place p Body (ap begun_at e) refl is.front;
      header = subst (λ x. HeaderAt x p.header) e is.header;
      body = record { bound = q.bound; basis = q.basis; limit = q.limit; statements = q.statements };
    }

-- ---- all lines

bound_before : (p : Part) → IsSound p → FitsBasis p → p.bound_line ≤ p.lines
bound_before p is fits =
    let b : InRelations p = subst (λ x. BodyAt x p) fits is.body in b.limit

sound_after : (p : Part) (n : ℕ) (l : Line) (word : List ℕ) (args : List (List ℕ)) → p.lines < n → IsSound p → MayFollow (to_line p n) l → IsLine (IsWritten p.header.field word args) p.header.field l → IsSound (after (to_line p n) l)
sound_after p n (line.Field f) word args less is fits fit = sound_field (to_line p n) f (sound_counted p n less is) fits
sound_after p n (line.Vertex m) word args less is fits fit = sound_vertex (to_line p n) m (sound_counted p n less is) fits fit
sound_after p n (line.Arrow m v w) word args less is fits fit = sound_arrow (to_line p n) m v w (sound_counted p n less is) fits fit
sound_after p n (line.Bound t) word args less is fits fit = sound_bound (to_line p n) t (omega arith) (sound_counted p n less is) fits
sound_after p n (line.Relation r) word args less is fits fit = sound_relation (to_line p n) r (sound_counted p n less is) fits
sound_after p n line.Basis word args less is fits fit = let b = bound_before p is fits in sound_basis (to_line p n) (sound_counted p n less is) (omega arith) fits
sound_after p n (line.Statement k) word args less is fits fit = sound_statement p n k less is fits fit.0
sound_after p n (line.At l) word args less is fits fit = at_cases p.place (to_line p n) l refl fits fit (sound_counted p n less is)
sound_after p n line.End word args less is fits fit = end_cases p.place (to_line p n) refl fits (sound_counted p n less is)

lines_after : (p : Part) (l : Line) → (after p l).lines ≡ p.lines
lines_after p (line.Field f) = refl
lines_after p (line.Vertex n) = refl
lines_after p (line.Arrow n v w) = refl
lines_after p (line.Bound t) = refl
lines_after p (line.Relation r) = refl
lines_after p line.Basis = refl
lines_after p (line.Statement k) = by_test (opens k)
  where
    by_test : (b : Bool) → (cond b (record p { place = Block (record { line = p.lines; kind = k }) }) (record p { statements = p.statements ++ (record { line = p.lines; kind = k }) ∷ [] })).lines ≡ p.lines
    by_test true = refl
    by_test false = refl
lines_after p (line.At l) = refl
lines_after p line.End = refl

-- below the limit of texts each line is counted
counted_lines : (p : Part) → p.lines < 4194304 → (counted p).lines ≡ p.lines + 1
counted_lines p less = min-eq_left (omega arith)

if_some : {X : Type 0} (r : Option X) (x : X) (P : X → Type 0) → r ≡ Some x → IfSome r P → P x
if_some r x P is h = subst (λ o. IfSome o P) is h

-- sound, with one line more
pub record IsSoundWith (q : Part) (n : ℕ) : Type 0 where
  pub sound : IsSound q
  pub lines : q.lines ≡ n

tokens_sound : (p q : Part) (ts : List (List ℕ)) → p.lines < 4194304 → IsSound p → TokenStep p ts q → IsSoundWith q (p.lines + 1)
tokens_sound p q [] less is step =
    let n = counted_lines p less in
    record { sound = subst IsSound (sym step) (sound_counted p (counted p).lines (omega (arith, n)) is); lines = ap (λ (r : Part). r.lines) step ∙ n }
tokens_sound p q (word ∷ args) less is step =
    let n = counted_lines p less in
    let fit = if_some (line_in p.header word args) step.line _ step.reads (line_fits p.header word args) in
    record {
      sound = subst IsSound (sym step.leads) (sound_after p (counted p).lines step.line word args (omega (arith, n)) is step.follows fit);
      lines = ap (λ (r : Part). r.lines) step.leads ∙ lines_after (counted p) step.line ∙ n;
    }

pub reads_sound : (p q : Part) (ls : List (List ℕ)) → p.lines + length ls ≤ 4194304 → IsSound p → Reads Step p ls q → IsSoundWith q (p.lines + length ls)
reads_sound p q [] short is reads = let e = ap (λ (r : Part). r.lines) reads in record { sound = subst IsSound (sym reads) is; lines = omega (arith, e) }
reads_sound p q (l ∷ ls) short is reads =
    let one = tokens_sound p reads.0 reads.1.tokens (omega (arith, short)) is reads.1.step in
    let n = one.lines in
    let rest = reads_sound reads.0 q ls (omega (arith, short, n)) one.sound reads.2 in
    let m = rest.lines in
    record { sound = rest.sound; lines = omega (arith, n, m) }

pub start_sound : IsSound start
start_sound = record {
  front = start_front (front_at Start start.header) (record { unbegun = refl; no_vertex = refl; no_arrow = refl; unbound = refl; no_relation = refl });
  header = tt;
  body = refl;
}

pub ended_allowed : (p : Part) → IsSound p → p.place ≡ Body → IsAllowed p.header
ended_allowed p is at = allowed_at_end (front_at p.place p.header) is.front (subst (λ x. HeaderAt x p.header) at is.header)

pub ended_body : (p : Part) → IsSound p → p.place ≡ Body → InBody p
ended_body p is at = subst (λ x. BodyAt x p) at is.body
