-- Lists that are stored item by item.
use Rattle.std.proofs.Common.{ℕ, ◌<◌, ◌≤◌, ◌≡◌, ◌+◌, List, [], ◌∷◌, ◌++◌, length, take, get_or, refl, sym, ap, ◌∙◌, append_assoc}
use Rattle.std.proofs.lemmas.List.{take_more, take_all, take_at, get_or_default}

-- one item more of a list, behind others
pub stored_more : {X : Type 0} (before xs stored new : List X) (i : ℕ) (x y : X) → i < length xs → stored ≡ before ++ take i xs → x ≡ get_or xs i x → y ≡ x → new ≡ stored ++ y ∷ [] → new ≡ before ++ take (i + 1) xs
stored_more before xs stored new i x y l s r e n =
    n ∙ (λ k. s k ++ (e ∙ r ∙ get_or_default xs i x y l) k ∷ []) ∙ append_assoc before (take i xs) (get_or xs i y ∷ []) ∙ ap (λ zs. before ++ zs) (sym (take_more xs i y l))

pub stored_all : {X : Type 0} (before xs stored : List X) (i : ℕ) → length xs ≤ i → stored ≡ before ++ take i xs → stored ≡ before ++ xs
stored_all before xs stored i l s = s ∙ ap (λ zs. before ++ zs) (take_all i xs l)

-- what stood before it is left
pub stored_none : {X : Type 0} (before more stored left : List X) → stored ≡ before ++ more → left ≡ take (length before) stored → left ≡ before
stored_none before more stored left s e = e ∙ ap (take (length before)) s ∙ take_at before more (length before) refl
