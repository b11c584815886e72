-- A line written piece by piece.
use Rattle.std.proofs.Common.{◌≡◌, ◌≢◌, ℕ, List, [], ◌∷◌, ◌++◌, codes, decimal, refl, sym, ap, ◌∙◌, append_assoc}
use Rattle.quiver_paths.specs.declared.Quiver.{Quiver}
use Rattle.path_algebra.specs.declared.Term.{Term}
use Rattle.path_algebra.specs.declared.rules.Rule.{Rule}
use Rattle.text_lines.specs.Parts.{joined}
use Rattle.text_lines.specs.Strict.{strict_line}
use Rattle.header_text.specs.Spelling.{path_text}
use Rattle.claim_lines.specs.Spelling.{tail_form, rule_line}

-- one piece more
pub then : (o a b p q : List ℕ) → a ≡ o ++ p → b ≡ a ++ q → b ≡ o ++ (p ++ q)
then o a b p q e f = f ∙ (ap (λ r. r ++ q) e ∙ append_assoc o p q)

-- pieces behind some pieces
pub joined-append : (c : ℕ) (xs : List (List ℕ)) (y : List ℕ) (ys : List (List ℕ)) → xs ≢ [] → joined c (xs ++ y ∷ ys) ≡ joined c xs ++ c ∷ joined c (y ∷ ys)
joined-append c [] y ys some = absurd (some refl)
joined-append c (x ∷ []) y ys some = refl
joined-append c (x ∷ z ∷ xs) y ys some = ap (λ r. x ++ c ∷ r) (joined-append c (z ∷ xs) y ys (λ e. nonempty z xs e)) ∙ sym (append_assoc x (c ∷ joined c (z ∷ xs)) (c ∷ joined c (y ∷ ys)))
  where
    nonempty : (z : List ℕ) (xs : List (List ℕ)) → z ∷ xs ≡ [] → ⊥
    nonempty z xs e = cc

pub tail_form-some : (Q : Quiver) (terms : List Term) → tail_form Q terms ≢ []
tail_form-some Q [] e = some_none _ _ e
  where
    some_none : (z : List ℕ) (xs : List (List ℕ)) → z ∷ xs ≡ [] → ⊥
    some_none z xs e = cc
tail_form-some Q (t ∷ terms) e = some_none _ _ e
  where
    some_none : (z : List ℕ) (xs : List (List ℕ)) → z ∷ xs ≡ [] → ⊥
    some_none z xs e = cc

-- the tail of a rule and its step
pub tail_text : (Q : Quiver) (rule : Rule)
    → joined 32 (tail_form Q rule.tail.terms ++ codes "by" ∷ decimal rule.step ∷ []) ≡ joined 32 (tail_form Q rule.tail.terms) ++ (32 ∷ 98 ∷ 121 ∷ 32 ∷ decimal rule.step)
tail_text Q rule = joined-append 32 (tail_form Q rule.tail.terms) (codes "by") (decimal rule.step ∷ []) (tail_form-some Q rule.tail.terms)

arrow_text : (Q : Quiver) (terms : List Term) (d : List ℕ) → joined 32 (codes "->" ∷ (tail_form Q terms ++ codes "by" ∷ d ∷ [])) ≡ 45 ∷ 62 ∷ 32 ∷ joined 32 (tail_form Q terms ++ codes "by" ∷ d ∷ [])
arrow_text Q [] d = refl
arrow_text Q (t ∷ terms) d = refl

pub rule_text : (Q : Quiver) (rule : Rule) → (((((codes "rule " ++ path_text Q rule.tip) ++ codes " -> ") ++ joined 32 (tail_form Q rule.tail.terms)) ++ codes " by") ++ 32 ∷ decimal rule.step) ++ 10 ∷ [] ≡ strict_line (rule_line Q rule)
rule_text Q rule =
    let p = path_text Q rule.tip in
    let ts = tail_form Q rule.tail.terms in
    let d = decimal rule.step in
    let flat : (((((codes "rule " ++ p) ++ codes " -> ") ++ joined 32 ts) ++ codes " by") ++ 32 ∷ d) ++ 10 ∷ [] ≡ codes "rule " ++ (p ++ (codes " -> " ++ (joined 32 ts ++ ((32 ∷ 98 ∷ 121 ∷ 32 ∷ d) ++ 10 ∷ [])))) = simp append_assoc in
    let tail : joined 32 ts ++ ((32 ∷ 98 ∷ 121 ∷ 32 ∷ d) ++ 10 ∷ []) ≡ joined 32 (ts ++ codes "by" ∷ d ∷ []) ++ 10 ∷ [] =
    sym (append_assoc (joined 32 ts) (32 ∷ 98 ∷ 121 ∷ 32 ∷ d) (10 ∷ [])) ∙ ap (λ r. r ++ 10 ∷ []) (sym (tail_text Q rule)) in
    flat ∙ (ap (λ r. codes "rule " ++ (p ++ (codes " -> " ++ r))) tail
    ∙ (ap (λ r. codes "rule " ++ (p ++ (32 ∷ r ++ 10 ∷ []))) (sym (arrow_text Q rule.tail.terms d))
    ∙ ap (λ r. codes "rule " ++ r) (sym (append_assoc p (32 ∷ joined 32 (codes "->" ∷ (ts ++ codes "by" ∷ d ∷ []))) (10 ∷ [])))))
