-- Lists that are filled one place after another.
use Rattle.std.proofs.Common.{ℕ, zero, suc, ◌<◌, ◌≤◌, ◌≡◌, ◌+◌, ◌*◌, List, [], ◌∷◌, ◌++◌, get_or, inl, inr, refl, sym, ap, ◌∙◌, subst, arith, add-one, mul-le-mul}
use Rattle.std.proofs.lemmas.Bool.{cases_lt}
use Rattle.std.proofs.lemmas.List.{ext_get_or, length_push, get_or_append_left, get_or_push}
use Rattle.linear_algebra.specs.BlockFamilies.{total}
use Rattle.linear_algebra.specs.Rows.{list_of}
use Rattle.linear_algebra.proofs.Rows.{length-list_of, get_or-list_of}

pub list_of-more : {X : Type 0} (n : ℕ) (f : ℕ → X) (d : X) → list_of (n + 1) f ≡ list_of n f ++ f n ∷ []
list_of-more n f d =
    ext_get_or d (list_of (n + 1) f) (list_of n f ++ f n ∷ []) (length-list_of (n + 1) f ∙ sym (length_push (list_of n f) (f n) ∙ ap (λ k. k + 1) (length-list_of n f)))
    (λ i b. let l : i < n + 1 = omega (arith, length-list_of (n + 1) f, b) in get_or-list_of (n + 1) f i d l ∙ elim (cases_lt i n) [
      | inl k ↦ sym (get_or_append_left (list_of n f) (f n ∷ []) d i (omega (arith, length-list_of n f, k)) ∙ get_or-list_of n f i d k)
      | inr g ↦ (let at : i ≡ n = omega arith in subst (λ i. f i ≡ get_or (list_of n f ++ f n ∷ []) i d) (sym at) (sym (get_or_push (list_of n f) (f n) d n (length-list_of n f))))
    ])

pub list_of-none : {X : Type 0} (f : ℕ → X) → [] ≡ list_of 0 f
unfolding list_of
list_of-none f = refl

-- one more item
pub list_of-pushed : {X : Type 0} (n : ℕ) (f : ℕ → X) (xs : List X) (x : X) → xs ≡ list_of n f → x ≡ f n → xs ++ x ∷ [] ≡ list_of (n + 1) f
list_of-pushed n f xs x e d = (λ k. e k ++ d k ∷ []) ∙ sym (list_of-more n f x)

pub total-at_most : (k b : ℕ) (f : ℕ → ℕ) → ((i : ℕ) → i < k → f i ≤ b) → total k f ≤ k * b
total-at_most zero b f h = omega arith
total-at_most (suc k) b f h =
    let t = total-at_most k b f (λ i l. h i (omega (arith, l))) in
    let s = h k (omega arith) in
    let e : suc k * b ≡ k * b + b = suc_times k b in
    omega (arith, t, s, e)
  where
    suc_times : (k b : ℕ) → suc k * b ≡ k * b + b
    suc_times k b = grind arith

-- one more summand
pub total-more : (k : ℕ) (f : ℕ → ℕ) (dim n : ℕ) → dim ≡ total k f → n ≡ f k → dim + n ≡ total (k + 1) f
total-more k f dim n e c = (let s : total (k + 1) f ≡ total k f + f k = rw add-one refl in omega (arith, s, e, c))

-- a matrix of few rows and columns has few entries
pub few_entries : (m n : ℕ) → m ≤ 256 → n ≤ 256 → m * n ≤ 65536
few_entries m n h k = let e : m * n ≤ 256 * 256 = mul-le-mul h k in omega (arith, e)
