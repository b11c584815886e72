-- Places of names, and the ends of arrows.
use Rattle.std.proofs.Common.{◌≡◌, ℕ, ◌+◌, ◌<◌, ◌≤◌, ◌-◌, List, [], ◌∷◌, ◌++◌, length, get_or, drop, map, cond, Bool, true, false, nat_lt, position, Some, None, ◌↔◌, refl, sym, ap, subst, ◌∙◌, arith, drop-cons, add-one}
use Rattle.std.specs.declared.option.Option.{Option}
use Rattle.std.specs.List.{position_or_len}
use Rattle.std.proofs.lemmas.Bool.{lt-ltb, ltb-true}
use Rattle.std.proofs.lemmas.List.Sums.{position_or_len_is}
use Rattle.std.proofs.Math.ListN.{get_or-eq_default}
use Rattle.std.proofs.lemmas.List.{length-map}
use Rattle.std.proofs.lemmas.List.Splits.{join_with_byte-slice_split}
use Rattle.linear_algebra.specs.Field.{Gf, order}
use Rattle.quiver_paths.specs.declared.Arrow.{Arrow}
use Rattle.quiver_paths.specs.declared.Quiver.{Quiver}
use Rattle.quiver_paths.specs.declared.Path.{Path}
use Rattle.quiver_paths.specs.Quiver.{source, target, vertex_count, arrow_count}
use Rattle.quiver_paths.specs.Path.{Leads}
use Rattle.quiver_paths.proofs.QuiverLemmas.{source_is, target_is}
use Rattle.text_lines.specs.Parts.{parts, joined, Lacks}
use Rattle.text_lines.proofs.Cutting.{parts-cut, parts-whole, parts-some}
use Rattle.script_lang.specs.Tokens.{number_to}
use Rattle.script_lang.specs.Relations.{path_in, term_of, term_from, term_in}

-- the first place that passes a test
pub place_found : {X : Type 0} (test : X → Bool) (xs : List X) (i : ℕ) (d : X) → i < length xs → ((k : ℕ) → k < i → test (get_or xs k d) ≡ false) → test (get_or xs i d) ≡ true
    → Some i ≡ position test xs
place_found test xs i d inside before at =
    let here : position_or_len test xs ≡ i = position_or_len_is test xs i d (omega arith) before (λ _. at) in
    sym (ap (λ n. cond (nat_lt n (length xs)) (Some n) None) here ∙ ap (λ b. cond b (Some i) None) (lt-ltb i (length xs) inside))

chosen_none : (b : Bool) (n : ℕ) → (b ≡ true → ⊥) → cond b (Some n) None ≡ None
chosen_none true n h = absurd (h refl)
chosen_none false n h = refl

pub place_missing : {X : Type 0} (test : X → Bool) (xs : List X) (d : X) → ((k : ℕ) → k < length xs → test (get_or xs k d) ≡ false) → None ≡ position test xs
place_missing test xs d all =
    let here : position_or_len test xs ≡ length xs = position_or_len_is test xs (length xs) d (omega arith) all (λ less. absurd (omega arith)) in
    sym (ap (λ n. cond (nat_lt n (length xs)) (Some n) None) here ∙ chosen_none (nat_lt (length xs) (length xs)) (length xs) (λ less. absurd (omega (arith, ltb-true (length xs) (length xs) less))))

-- ---- ends of arrows

pub source_past : (Q : Quiver) (a : ℕ) → arrow_count Q ≤ a → source Q a ≡ vertex_count Q
unfolding source
source_past Q a past = get_or-eq_default (map (λ (x : Arrow). x.from) Q.arrows) (vertex_count Q) (omega (arith, length-map Q.arrows (λ (x : Arrow). x.from)))

pub target_past : (Q : Quiver) (a : ℕ) → arrow_count Q ≤ a → target Q a ≡ vertex_count Q
unfolding target
target_past Q a past = get_or-eq_default (map (λ (x : Arrow). x.to) Q.arrows) (vertex_count Q) (omega (arith, length-map Q.arrows (λ (x : Arrow). x.to)))

-- ---- arrows that lead one behind the other

head_there : (arrows : List ℕ) (i : ℕ) → i < length arrows → drop i arrows ≡ get_or arrows i 0 ∷ drop (i + 1) arrows
head_there arrows i inside = rw (add-one, drop-cons arrows i 0) refl

pub leads_outside : (Q : Quiver) (u w : ℕ) (arrows : List ℕ) (i : ℕ) → i < length arrows → arrow_count Q ≤ get_or arrows i 0 → Leads Q u (drop i arrows) w → ⊥
leads_outside Q u w arrows i inside past leads =
    let l = subst (λ xs. Leads Q u xs w) (head_there arrows i inside) leads in omega (arith, l.0)

pub leads_other : (Q : Quiver) (u w : ℕ) (arrows : List ℕ) (i : ℕ) (x : Arrow) → i < length arrows → x ≡ get_or Q.arrows (get_or arrows i 0) x → (x.from ≡ u → ⊥)
    → Leads Q u (drop i arrows) w → ⊥
leads_other Q u w arrows i x inside is other leads =
    let l = subst (λ xs. Leads Q u xs w) (head_there arrows i inside) leads in
    other (ap (λ (y : Arrow). y.from) is ∙ sym (source_is Q (get_or arrows i 0) x l.0) ∙ l.1)

pub leads_next : (Q : Quiver) (u w : ℕ) (arrows : List ℕ) (i : ℕ) (x : Arrow) → i < length arrows → get_or arrows i 0 < arrow_count Q → x ≡ get_or Q.arrows (get_or arrows i 0) x → x.from ≡ u
    → Leads Q u (drop i arrows) w ↔ Leads Q x.to (drop (i + 1) arrows) w
leads_next Q u w arrows i x inside there is starts =
    let ends : target Q (get_or arrows i 0) ≡ x.to = target_is Q (get_or arrows i 0) x there ∙ sym (ap (λ (y : Arrow). y.to) is) in
    let from : source Q (get_or arrows i 0) ≡ u = source_is Q (get_or arrows i 0) x there ∙ sym (ap (λ (y : Arrow). y.from) is) ∙ starts in (
      λ leads. let l = subst (λ xs. Leads Q u xs w) (head_there arrows i inside) leads in subst (λ v. Leads Q v (drop (i + 1) arrows) w) ends l.2,
      λ leads. subst (λ xs. Leads Q u xs w) (sym (head_there arrows i inside)) (there, from, subst (λ v. Leads Q v (drop (i + 1) arrows) w) (sym ends) leads),
    )

pub both_ways : {A B C : Type 0} → A ↔ B → A ↔ C → B ↔ C
both_ways p q = (λ b. q.0 (p.1 b), λ c. p.0 (q.1 c))

-- ---- terms

cut_from : (f : Gf) (Q : Quiver) (c token : List ℕ) (ps : List (List ℕ)) → (ps ≡ [] → ⊥) → joined 42 ps ≡ token
    → term_from f Q (c ∷ ps) ≡ term_of (number_to (order f - 1) c) (path_in Q token)
cut_from f Q c token [] some same = absurd (some refl)
cut_from f Q c token (p ∷ ps) some same = ap (λ s. term_of (number_to (order f - 1) c) (path_in Q s)) same

pub term-cut : (f : Gf) (Q : Quiver) (token front back : List ℕ) → token ≡ front ++ 42 ∷ back → Lacks 42 front
    → term_of (number_to (order f - 1) front) (path_in Q back) ≡ term_in f Q token
unfolding term_in
term-cut f Q token front back split lacks =
    sym (ap (term_from f Q) (ap (parts 42) split ∙ parts-cut 42 front back lacks)
    ∙ cut_from f Q front back (parts 42 back) (parts-some 42 back) (join_with_byte-slice_split 42 back))

pub term-whole : (f : Gf) (Q : Quiver) (token : List ℕ) → Lacks 42 token → term_of (Some 1) (path_in Q token) ≡ term_in f Q token
unfolding term_in
term-whole f Q token lacks = sym (ap (term_from f Q) (parts-whole 42 token lacks))

-- a term from its parts
pub term_parts : (f : Gf) (Q : Quiver) (front back : List ℕ) (q : ℕ) (c : Option ℕ) (p : Option Path) → q ≡ order f → c ≡ number_to (q - 1) front → p ≡ path_in Q back
    → term_of c p ≡ term_of (number_to (order f - 1) front) (path_in Q back)
term_parts f Q front back q c p size coef path = ap (λ r. term_of r p) (coef ∙ ap (λ n. number_to (n - 1) front) size) ∙ ap (term_of (number_to (order f - 1) front)) path
