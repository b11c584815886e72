-- Numbers and the fronts of lines: what their readers conclude.
use Rattle.std.proofs.Common.{◌≡◌, ◌≢◌, ℕ, ◌<◌, ◌≤◌, ◌^◌, List, ◌∷◌, decimal, sym, ◌∙◌, arith, lit<}
use Rattle.header_text.proofs.Uniqueness.{decimal_one}

pub head_is : (x y : List ℕ) (xs ys : List (List ℕ)) → x ∷ xs ≡ y ∷ ys → x ≡ y
head_is x y xs ys e = cc

pub tail_is : (x y : List ℕ) (xs ys : List (List ℕ)) → x ∷ xs ≡ y ∷ ys → xs ≡ ys
tail_is x y xs ys e = cc

-- a numeral of 0 is that of no other number
pub zero_first : (n x : ℕ) (tokens other rest : List (List ℕ)) → n ≡ 0 → 0 < x → x < 2 ^ 64 → tokens ≡ decimal n ∷ other → tokens ≡ decimal x ∷ rest → ⊥
zero_first n x tokens other rest e some small a b =
    let low : 0 < 2 ^ 64 = lit< tt in
    let same = decimal_one n x (omega (arith, e)) small (head_is _ _ _ _ (sym a ∙ b)) in
    absurd (omega (arith, same, e))

pub other_number : (n x k : ℕ) (word : List ℕ) (tokens more other rest : List (List ℕ)) → n ≤ k → k < 2 ^ 32 → n ≢ k → tokens ≡ word ∷ more → more ≡ decimal n ∷ other → tokens ≡ word ∷ decimal k ∷ rest → ⊥
other_number n x k word tokens more other rest most small differ a b e =
    let big : 2 ^ 32 < 2 ^ 64 = lit< tt in
    differ (decimal_one n k (omega arith) (omega arith) (head_is _ _ _ _ (sym b ∙ tail_is _ _ _ _ (sym a ∙ e))))
