-- The calls of an indexed set in words of lists.
use Rattle.std.proofs.Common.{ℕ, ◌≡◌, ◌<◌, ◌-◌, ◌^◌, ◌++◌, ◌∷◌, [], if◌then◌else◌, List, length, get_or, slice_get, position, Option, Some, None, is_some, Bool, true, false, not, nat_eq, IsTrue, ◌↔◌, sym, ap, subst, ◌∙◌, inl, inr, true≢false, arith}
use Rattle.std.specs.Prelude.{Contains, AllPairs, ◌≢◌}
use Rattle.std.specs.List.{list_any}
use Rattle.std.specs.Cmp.Lexicographic.{pointwise, nat_list_eq_equiv, bytes_decides}
use Rattle.std.proofs.lemmas.Bool.{cases_Bool}
use Rattle.std.proofs.lemmas.List.Quantifiers.{position-Some, all_pairs_push}
use Rattle.std.proofs.lemmas.List.{length_push}
use Rattle.std.proofs.lemmas.List.Elements.{Contains-get_or}
use Rattle.std.proofs.lemmas.Option.{slice_get-get_or}
use Rattle.std.proofs.lemmas.Map.Views.{list_any-from_Contains, Contains-from_any}

-- the test finds the name exactly where it is in the list
pub found_member : (ks : List (List ℕ)) (k : List ℕ) → list_any (pointwise nat_eq k) ks ≡ true → Contains ks k
found_member ks k h = Contains-from_any {eq = pointwise nat_eq} (λ x y e. (bytes_decides x y).0 e) k ks h

pub not_found : (ks : List (List ℕ)) (k : List ℕ) → list_any (pointwise nat_eq k) ks ≡ false → Contains ks k → ⊥
not_found ks k h there = true≢false (sym (list_any-from_Contains nat_list_eq_equiv k ks there) ∙ h)

pub added_absent : (ks : List (List ℕ)) (k : List ℕ) (r : Bool) → r ≡ not (list_any (pointwise nat_eq k) ks) → IsTrue r ↔ (Contains ks k → ⊥)
added_absent ks k r e =
    elim (cases_Bool (list_any (pointwise nat_eq k) ks)) [
      | inl t ↦ (λ yes. absurd (true≢false (sym yes ∙ e ∙ ap not t)), λ absent. absurd (absent (found_member ks k t)))
      | inr f ↦ (λ yes. not_found ks k f, λ absent. e ∙ ap not f)
    ]

pub place_found : (ks : List (List ℕ)) (k : List ℕ) (i : ℕ) → position (pointwise nat_eq k) ks ≡ Some i → slice_get ks i ≡ Some k
place_found ks k i e =
    let p = position-Some (pointwise nat_eq k) ks i k e in
    slice_get-get_or ks i k p.0 ∙ ap Some (sym ((bytes_decides k (get_or ks i k)).0 p.1))

-- a list of fewer than 2^32 - 1 distinct names stays one with a name more, if that is new
pub still_names : (ks new : List (List ℕ)) (k : List ℕ) (is_in : Bool) → list_any (pointwise nat_eq k) ks ≡ is_in
    → length ks < 2 ^ 32 - 1 → AllPairs (λ a b. a ≢ b) ks → new ≡ (if is_in then ks else ks ++ k ∷ [])
    → (length new < 2 ^ 32) × AllPairs (λ a b. a ≢ b) new
still_names ks new k true t few h e = subst (λ l. (length l < 2 ^ 32) × AllPairs (λ a b. a ≢ b) l) (sym e) (omega arith, h)
still_names ks new k false f few h e =
    subst (λ l. (length l < 2 ^ 32) × AllPairs (λ a b. a ≢ b) l) (sym e) (
      omega (arith, length_push ks k),
      all_pairs_push (λ a b. a ≢ b) ks k h (λ i d l same. not_found ks k f (subst (Contains ks) same (Contains-get_or ks i d l))),
    )

pub absent_from_none : (ks : List (List ℕ)) (k : List ℕ) (r : Option ℕ) → r ≡ None → is_some r ≡ list_any (pointwise nat_eq k) ks → Contains ks k → ⊥
absent_from_none ks k r e found = not_found ks k (sym found ∙ ap is_some e)
