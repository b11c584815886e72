-- Numbers: what their readers conclude.
use Rattle.std.proofs.Common.{◌≡◌, ℕ, ◌<◌, ◌≤◌, ◌^◌, Bool, true, false, List, ◌∷◌, nat_eq, eqb-true, eq-eqb, subst, decimal, refl, sym, ◌∙◌, arith, lit<}
use Rattle.std.specs.Prelude.{MatchBool}
use Rattle.header_text.proofs.Uniqueness.{decimal_one}
use Rattle.object_lines.proofs.Taking.{cons_head}

-- a numeral of 0 is that of no other number
pub zero_first : (n x : ℕ) (tokens other rest : List (List ℕ)) → n ≡ 0 → 0 < x → x < 2 ^ 64 → tokens ≡ decimal n ∷ other → tokens ≡ decimal x ∷ rest → ⊥
zero_first n x tokens other rest e some small a b =
    let low : 0 < 2 ^ 64 = lit< tt in
    let same = decimal_one n x (omega (arith, e)) small (cons_head _ _ _ _ (sym a ∙ b)) in
    absurd (omega (arith, same, e))

-- a number that was taken is the one that is asked for, or that is not there
pub is_number : (m n : ℕ) (tokens less : List (List ℕ)) → m ≤ n → n < 2 ^ 64 → tokens ≡ decimal m ∷ less → MatchBool (nat_eq m n) (tokens ≡ decimal n ∷ less) ((rest : List (List ℕ)) → tokens ≡ decimal n ∷ rest → ⊥)
is_number m n tokens less l small e = by (nat_eq m n) refl
  where
    by : (b : Bool) → nat_eq m n ≡ b → MatchBool b (tokens ≡ decimal n ∷ less) ((rest : List (List ℕ)) → tokens ≡ decimal n ∷ rest → ⊥)
    by true t = subst (λ k. tokens ≡ decimal k ∷ less) (eqb-true m n t) e
    by false t = λ rest f. clash (sym (eq-eqb m n (decimal_one m n (omega arith) small (cons_head _ _ _ _ (sym e ∙ f)))) ∙ t)
      where
        clash : true ≡ false → ⊥
        clash h = cc
