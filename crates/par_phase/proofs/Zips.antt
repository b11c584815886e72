-- Lists of which the items belong together place by place, one behind the other.
use Rattle.std.proofs.Common.{◌≡◌, sym, subst, ℕ, List, [], ◌∷◌, ◌++◌, take, drop, IfOk, Ok, Result}
use Rattle.std.proofs.lemmas.List.{take-append-drop}
use Rattle.std.specs.List.{AllZip}

pub append_all_zip : {A B : Type 0} (R : A → B → Type 0) (xs : List A) (ys : List B) (vs : List A) (ws : List B) → AllZip R xs ys → AllZip R vs ws
    → AllZip R (xs ++ vs) (ys ++ ws)
append_all_zip R [] [] vs ws h k = k
append_all_zip R [] (y ∷ ys) vs ws h k = absurd h
append_all_zip R (x ∷ xs) [] vs ws h k = absurd h
append_all_zip R (x ∷ xs) (y ∷ ys) vs ws h k = (h.0, append_all_zip R xs ys vs ws h.1 k)

-- what the first k items and the others give, one behind the other
pub groups_all_zip : {A B : Type 0} (R : A → B → Type 0) (items : List A) (k : ℕ) (front back : List A) (answers xs ys : List B) → front ≡ take k items
    → back ≡ drop k items → answers ≡ xs ++ ys → AllZip R front xs → AllZip R back ys → AllZip R items answers
groups_all_zip R items k front back answers xs ys f b e h g =
    let whole = append_all_zip R (take k items) xs (drop k items) ys (subst (λ z. AllZip R z xs) f h) (subst (λ z. AllZip R z ys) b g) in
    subst (AllZip R items) (sym e) (subst (λ z. AllZip R z (xs ++ ys)) (take-append-drop k items) whole)

pub if_ok_at : {A E : Type 0} (P : A → Type 0) (r : Result A E) (a : A) → r ≡ Ok a → IfOk r P → P a
if_ok_at P r a e h = subst (λ z. IfOk z P) e h
