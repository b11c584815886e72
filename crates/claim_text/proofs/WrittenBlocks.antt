-- Lines of steps, of things in their order and of records, written one by one.
use Rattle.std.proofs.Common.{◌≡◌, ℕ, ◌+◌, ◌<◌, List, [], ◌∷◌, ◌++◌, map, take, length, get_or, decimal, sym, ap, ◌∙◌, append_assoc, append-nil, arith}
use Rattle.std.proofs.lemmas.List.{take_more, length-take-le}
use Rattle.quiver_paths.specs.declared.Path.{Path}
use Rattle.quiver_paths.specs.declared.Quiver.{Quiver}
use Rattle.path_algebra.specs.declared.rules.Rule.{Rule}
use Rattle.path_algebra.specs.declared.rules.Step.{Step}
use Rattle.text_lines.specs.Strict.{strict_line}
use Rattle.header_text.specs.Spelling.{text_of}
use Rattle.header_text.proofs.Joining.{text_of-append}
use Rattle.claim_lines.specs.Spelling.{words_line, word_line, steps_line, rules_line, step_line, rule_line}
use Rattle.claim_text.specs.Spelling.{step_lines, block_lines, in_order}

pub step_lines-push : (Q : Quiver) (k : ℕ) (steps : List Step) (s : Step) → step_lines Q k (steps ++ s ∷ []) ≡ step_lines Q k steps ++ step_line Q (k + length steps) s ∷ []
step_lines-push Q k [] s = ap (λ n. step_line Q n s ∷ []) (omega arith)
step_lines-push Q k (x ∷ steps) s =
    ap (λ r. step_line Q k x ∷ r) (step_lines-push Q (k + 1) steps s ∙ ap (λ n. step_lines Q (k + 1) steps ++ step_line Q n s ∷ []) (omega arith))

take-size : {X : Type 0} (xs : List X) (i : ℕ) → i < length xs → length (take i xs) ≡ i
take-size xs i inside = length-take-le i xs (omega arith)

-- the lines of the first i steps and of one more
pub steps_take : (Q : Quiver) (xs : List Step) (i : ℕ) (d : Step) → i < length xs
    → text_of (step_lines Q 1 (take (i + 1) xs)) ≡ text_of (step_lines Q 1 (take i xs)) ++ strict_line (step_line Q (i + 1) (get_or xs i d))
steps_take Q xs i d h =
    ap (λ r. text_of (step_lines Q 1 r)) (take_more xs i d h)
    ∙ (ap text_of (step_lines-push Q 1 (take i xs) (get_or xs i d))
    ∙ (text_of-append (step_lines Q 1 (take i xs)) (step_line Q (1 + length (take i xs)) (get_or xs i d) ∷ [])
    ∙ ap (λ r. text_of (step_lines Q 1 (take i xs)) ++ r) (append-nil (strict_line (step_line Q (1 + length (take i xs)) (get_or xs i d)))
    ∙ ap (λ n. strict_line (step_line Q n (get_or xs i d))) (let size = take-size xs i h in omega arith))))

-- ---- things in their order

in_order-push : {X : Type 0} (lines : ℕ → X → List (List (List ℕ))) (k : ℕ) (xs : List X) (x : X) → in_order lines k (xs ++ x ∷ []) ≡ in_order lines k xs ++ lines (k + length xs) x
in_order-push lines k [] x = append-nil (lines k x) ∙ ap (λ n. lines n x) (omega arith)
in_order-push lines k (y ∷ xs) x =
    ap (λ r. lines k y ++ r) (in_order-push lines (k + 1) xs x ∙ ap (λ n. in_order lines (k + 1) xs ++ lines n x) (omega arith))
    ∙ sym (append_assoc (lines k y) (in_order lines (k + 1) xs) (lines (k + length (y ∷ xs)) x))

-- the lines of the first i things and of one more
pub order_take : {X : Type 0} (lines : ℕ → X → List (List (List ℕ))) (k : ℕ) (xs : List X) (i : ℕ) (d : X) → i < length xs
    → text_of (in_order lines k (take (i + 1) xs)) ≡ text_of (in_order lines k (take i xs)) ++ text_of (lines (k + i) (get_or xs i d))
order_take lines k xs i d h =
    ap (λ r. text_of (in_order lines k r)) (take_more xs i d h)
    ∙ (ap text_of (in_order-push lines k (take i xs) (get_or xs i d))
    ∙ (text_of-append (in_order lines k (take i xs)) (lines (k + length (take i xs)) (get_or xs i d))
    ∙ ap (λ n. text_of (in_order lines k (take i xs)) ++ text_of (lines (k + n) (get_or xs i d))) (take-size xs i h)))

six : (a b c d e f : List ℕ) → a ++ (b ++ (c ++ (d ++ (e ++ f)))) ≡ ((((a ++ b) ++ c) ++ d) ++ e) ++ f
six a b c d e f = simp append_assoc

pub block_text-pieces : (Q : Quiver) (words : List Path) (steps : List Step) (rules : List Rule)
    → text_of (block_lines Q words steps rules) ≡ ((((strict_line (words_line (decimal (length words))) ++ text_of (map (word_line Q) words)) ++ strict_line (steps_line (decimal (length steps))))
    ++ text_of (step_lines Q 1 steps)) ++ strict_line (rules_line (decimal (length rules)))) ++ text_of (map (rule_line Q) rules)
block_text-pieces Q words steps rules =
    let w = words_line (decimal (length words)) in
    let s = steps_line (decimal (length steps)) in
    let r = rules_line (decimal (length rules)) in
    let ws = map (word_line Q) words in
    let ss = step_lines Q 1 steps in
    let rs = map (rule_line Q) rules in
    let inner = text_of-append ss (r ∷ rs) in
    let outer = text_of-append ws (s ∷ (ss ++ r ∷ rs)) in
    ap (λ x. strict_line w ++ x) (outer ∙ ap (λ x. text_of ws ++ (strict_line s ++ x)) inner) ∙ six (strict_line w) (text_of ws) (strict_line s) (text_of ss) (strict_line r) (text_of rs)

-- ---- pieces of other claims

-- the lines of the first i things and of one more, where the numbers begin with 0
pub order_take_from_0 : {X : Type 0} (lines : ℕ → X → List (List (List ℕ))) (xs : List X) (i : ℕ) (d : X) → i < length xs
    → text_of (in_order lines 0 (take (i + 1) xs)) ≡ text_of (in_order lines 0 (take i xs)) ++ text_of (lines i (get_or xs i d))
order_take_from_0 lines xs i d h = order_take lines 0 xs i d h ∙ ap (λ n. text_of (in_order lines 0 (take i xs)) ++ text_of (lines n (get_or xs i d))) (omega arith)

four : (a b c d : List ℕ) → a ++ (b ++ (c ++ d)) ≡ ((a ++ b) ++ c) ++ d
four a b c d = simp append_assoc

five : (a b c d e : List ℕ) → a ++ (b ++ (c ++ (d ++ e))) ≡ (((a ++ b) ++ c) ++ d) ++ e
five a b c d e = simp append_assoc

-- a line, lines, and two lines
pub text-of_four : (x : List (List ℕ)) (xs : List (List (List ℕ))) (y z : List (List ℕ))
    → text_of (x ∷ (xs ++ (y ∷ z ∷ []))) ≡ ((strict_line x ++ text_of xs) ++ strict_line y) ++ strict_line z
text-of_four x xs y z =
    ap (λ r. strict_line x ++ r) (text_of-append xs (y ∷ z ∷ []))
    ∙ (ap (λ r. strict_line x ++ (text_of xs ++ (strict_line y ++ r))) (append-nil (strict_line z)) ∙ four (strict_line x) (text_of xs) (strict_line y) (strict_line z))

-- two lines, lines, a line, and lines
pub text-of_five : (x y : List (List ℕ)) (xs : List (List (List ℕ))) (z : List (List ℕ)) (zs : List (List (List ℕ)))
    → text_of (x ∷ y ∷ (xs ++ (z ∷ zs))) ≡ (((strict_line x ++ strict_line y) ++ text_of xs) ++ strict_line z) ++ text_of zs
text-of_five x y xs z zs = ap (λ r. strict_line x ++ (strict_line y ++ r)) (text_of-append xs (z ∷ zs)) ∙ five (strict_line x) (strict_line y) (text_of xs) (strict_line z) (text_of zs)

-- lines, lines, a line, and lines
pub text-of_record : (xs ys : List (List (List ℕ))) (z : List (List ℕ)) (zs : List (List (List ℕ)))
    → text_of (xs ++ (ys ++ (z ∷ zs))) ≡ ((text_of xs ++ text_of ys) ++ strict_line z) ++ text_of zs
text-of_record xs ys z zs =
    text_of-append xs (ys ++ z ∷ zs) ∙ (ap (λ r. text_of xs ++ r) (text_of-append ys (z ∷ zs)) ∙ four (text_of xs) (text_of ys) (strict_line z) (text_of zs))
