-- Names as tokens.
use Rattle.std.proofs.Common.{◌≡◌, ℕ, ◌&&◌, nat_le, List, length, get_or, cond, Bool, true, false, Some, None, ◌↔◌, refl, sym, ap, ◌∙◌, true≢false}
use Rattle.std.specs.Prelude.{IsSome, IfSome}
use Rattle.std.specs.declared.option.Option.{Option}
use Rattle.std.specs.List.{list_all}
use Rattle.std.proofs.lemmas.Bool.{ltb-true, leb-true, lt-ltb, le-leb}
use Rattle.std.proofs.lemmas.List.Sums.{AllPass-from_list_all, list_all-from_AllPass}
use Rattle.quiver_paths.specs.Name.{IsName, is_name_byte}
use Rattle.path_algebra.specs.Allowed.{is_letter}
use Rattle.script_lang.specs.Tokens.{is_name, vertex_in, name_in}

pub both : (a b : Bool) → (a && b) ≡ true → (a ≡ true) × (b ≡ true)
both true b h = (refl, h)
both false b h = absurd (true≢false (sym h))

pub chosen_true : {X : Type 0} (b : Bool) (x : X) → b ≡ true → cond b (Some x) None ≡ Some x
chosen_true b x h = ap (λ c. cond c (Some x) None) h

pub chosen_false : {X : Type 0} (b : Bool) (x : X) → (b ≡ true → ⊥) → cond b (Some x) None ≡ None
chosen_false true x h = absurd (h refl)
chosen_false false x h = refl

pub is_name_true : (token : List ℕ) → IsName token → is_name token ≡ true
is_name_true token h =
    ap (λ b. b && (nat_le (length token) 16 && list_all is_name_byte token)) (lt-ltb 0 (length token) h.some)
    ∙ ap (λ b. b && list_all is_name_byte token) (le-leb (length token) 16 h.short)
    ∙ list_all-from_AllPass is_name_byte token h.spelled

pub true_is_name : (token : List ℕ) → is_name token ≡ true → IsName token
true_is_name token h =
    let k = both _ _ h in
    let m = both _ _ k.1 in
    record { some = ltb-true 0 (length token) k.0; short = leb-true (length token) 16 m.0; spelled = AllPass-from_list_all is_name_byte token m.1 }

pub vertex_from : (token : List ℕ) (r : Option (List ℕ)) → IsSome r ↔ IsName token → IfSome r (λ n. n ≡ token) → r ≡ vertex_in token
unfolding vertex_in
vertex_from token None named value = sym (chosen_false (is_name token) token (λ h. absurd (true≢false (sym (named.1 (true_is_name token h))))))
vertex_from token (Some n) named value = ap Some value ∙ sym (chosen_true (is_name token) token (is_name_true token (named.0 refl)))

pub name_from : (token : List ℕ) (r : Option (List ℕ)) → IsSome r ↔ IsName token → IfSome r (λ n. n ≡ token) → is_letter (get_or token 0 0) ≡ true → r ≡ name_in token
unfolding name_in
name_from token None named value letter = sym (chosen_false (is_name token && is_letter (get_or token 0 0)) token (λ h. absurd (true≢false (sym (named.1 (true_is_name token (both _ _ h).0))))))
name_from token (Some n) named value letter =
    ap Some value ∙ sym (chosen_true (is_name token && is_letter (get_or token 0 0)) token
    (ap (λ b. b && is_letter (get_or token 0 0)) (is_name_true token (named.0 refl)) ∙ letter))

pub no_name : (token : List ℕ) → is_letter (get_or token 0 0) ≡ false → None ≡ name_in token
unfolding name_in
no_name token plain = sym (chosen_false (is_name token && is_letter (get_or token 0 0)) token (λ h. true≢false (sym (both _ _ h).1 ∙ plain)))
