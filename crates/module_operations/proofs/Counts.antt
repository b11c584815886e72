-- Lists of counts, and sums of them.
use Rattle.std.proofs.Common.{ℕ, zero, suc, ◌<◌, ◌≤◌, ◌≡◌, ◌+◌, List, [], ◌∷◌, ◌++◌, map, length, get_or, take, sym, ap, ap₂, ◌∙◌, arith, add-one, subst, inl, inr, length-append}
use Rattle.std.specs.Prelude.{slice_index_or}
use Rattle.std.proofs.Math.Seq.{take-suc, get_or-append_seam}
use Rattle.std.proofs.lemmas.Bool.{cases_lt}
use Rattle.std.proofs.lemmas.List.{take_all, map-append, get_or_append_left}
use Rattle.linear_algebra.specs.BlockFamilies.{total}

-- One item more of a list that is mapped.
pub map_take-more : {X : Type 0} (f : X → ℕ) (xs : List X) (i : ℕ) (x : X) (counts : List ℕ) → i < length xs → x ≡ slice_index_or xs i x → counts ≡ map f (take i xs) → counts ++ f x ∷ [] ≡ map f (take (i + 1) xs)
map_take-more {X = X} f xs i x counts l e c =
    ap₂ (λ (a : List ℕ) (y : X). a ++ f y ∷ []) c e
    ∙ sym (ap (λ n. map f (take n xs)) (add-one i) ∙ ap (map f) (take-suc xs i x l) ∙ map-append f (take i xs) (get_or xs i x ∷ []))

pub map_take-all : {X : Type 0} (f : X → ℕ) (xs : List X) (i : ℕ) → i ≡ length xs → map f (take i xs) ≡ map f xs
map_take-all f xs i e = ap (map f) (take_all i xs (omega arith))

pub total_le : (k : ℕ) (f g : ℕ → ℕ) → ((v : ℕ) → v < k → f v ≤ g v) → total k f ≤ total k g
total_le zero f g h = omega arith
total_le (suc k) f g h = let a = total_le k f g (λ v l. h v (omega arith)) in let b = h k (omega arith) in omega arith

-- What holds of each item of a list, and of one more, holds of each of the longer list.
pub each_pushed : {A : Type 0} (P : ℕ → A → Type 0) (k : ℕ) (xs : List A) (x : A) → length xs ≡ k → ((v : ℕ) (a : A) → v < k → P v (slice_index_or xs v a)) → P k x
    → (v : ℕ) (a : A) → v < k + 1 → P v (slice_index_or (xs ++ x ∷ []) v a)
each_pushed {A = A} P k xs x c h here v a l = elim (cases_lt v k) [
  | inl b ↦ subst (P v) (sym (get_or_append_left xs (x ∷ []) a v (omega arith))) (h v a b)
  | inr b ↦ last v (omega arith)
]
  where
    last : (v : ℕ) → k ≡ v → P v (get_or (xs ++ x ∷ []) v a)
    last v same = subst (λ (v : ℕ). P v (get_or (xs ++ x ∷ []) v a)) same (subst (P k) (sym (ap (λ n. get_or (xs ++ x ∷ []) n a) (sym c) ∙ get_or-append_seam xs x [] a)) here)

pub counted_pushed : {A : Type 0} (k : ℕ) (xs : List A) (x : A) → length xs ≡ k → length (xs ++ x ∷ []) ≡ k + 1
counted_pushed k xs x c = length-append xs (x ∷ []) ∙ ap (λ n. n + 1) c
