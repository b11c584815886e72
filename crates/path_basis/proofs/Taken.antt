-- What holds of what is taken out of a list, and of what is left.
use Rattle.std.proofs.Common.{ℕ, ◌≡◌, ◌<◌, List, ◌∷◌, length, get_or, sym, subst}
use Rattle.std.specs.Prelude.{Option, None, Some, IfSome, IfNone, All}
use Rattle.std.specs.List.{swap_remove}
use Rattle.std.specs.List.Sorted.{IsPermutation}
use Rattle.std.proofs.lemmas.List.Elements.{All-head, All-tail}
use Rattle.std.proofs.lemmas.List.Sorted.{All-permutation, IsPermutation-swap_remove}

pub taken_out : {X : Type 0} (P : X → Type 0) (xs after : List X) (i : ℕ) (x : X) → i < length xs → x ≡ get_or xs i x → after ≡ swap_remove xs i x → All P xs → P x × All P after
taken_out P xs after i x l e is all =
    let p = All-permutation P xs (x ∷ swap_remove xs i x) (IsPermutation-swap_remove xs i x l e) all in
    (All-head P x (swap_remove xs i x) p, subst (All P) (sym is) (All-tail P x (swap_remove xs i x) p))

pub popped : {X : Type 0} (P : X → Type 0) (xs after : List X) (found : Option X) → IfSome found (λ x. IsPermutation xs (x ∷ after)) → All P xs → IfSome found P
popped P xs after None p all = tt
popped P xs after (Some x) p all = All-head P x after (All-permutation P xs (x ∷ after) p all)

pub left : {X : Type 0} (N : Type 0) (P : X → Type 0) (xs after : List X) (found : Option X) → IfSome found (λ x. IsPermutation xs (x ∷ after)) → IfNone found ((after ≡ xs) × N) → All P xs → All P after
left N P xs after None p n all = subst (All P) (sym n.0) all
left N P xs after (Some x) p n all = All-tail P x after (All-permutation P xs (x ∷ after) p all)
