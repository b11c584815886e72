-- Tokens written one by one, each behind a space.
use Rattle.std.proofs.Common.{◌≡◌, ℕ, ◌<◌, ◌+◌, List, [], ◌∷◌, ◌++◌, map, take, length, get_or, codes, decimal, refl, sym, ap, ◌∙◌, append_assoc, append-nil}
use Rattle.std.proofs.lemmas.List.{take_more}
use Rattle.text_lines.specs.Parts.{joined}
use Rattle.text_lines.specs.Strict.{strict_line}
use Rattle.report_types.specs.declared.claims.PartClaim.{PartClaim}
use Rattle.claim_lines.specs.Spelling.{behind_spaces, parts_form}

pub behind-append : (xs ys : List (List ℕ)) → behind_spaces (xs ++ ys) ≡ behind_spaces xs ++ behind_spaces ys
behind-append [] ys = refl
behind-append (x ∷ xs) ys = ap (λ r. 32 ∷ (x ++ r)) (behind-append xs ys) ∙ ap (λ r. 32 ∷ r) (sym (append_assoc x (behind_spaces xs) (behind_spaces ys)))

pub joined-behind : (t : List ℕ) (ts : List (List ℕ)) → joined 32 (t ∷ ts) ≡ t ++ behind_spaces ts
joined-behind t [] = sym (append-nil t)
joined-behind t (x ∷ ts) = ap (λ r. t ++ 32 ∷ r) (joined-behind x ts)

pub line-behind : (t : List ℕ) (ts : List (List ℕ)) → strict_line (t ∷ ts) ≡ (t ++ behind_spaces ts) ++ 10 ∷ []
line-behind t ts = ap (λ r. r ++ 10 ∷ []) (joined-behind t ts)

map_more : {X Y : Type 0} (f : X → Y) (xs ys : List X) → map f (xs ++ ys) ≡ map f xs ++ map f ys
map_more f [] ys = refl
map_more f (x ∷ xs) ys = ap (λ r. f x ∷ r) (map_more f xs ys)

pub numbers_take : (xs : List ℕ) (i d : ℕ) → i < length xs → behind_spaces (map decimal (take (i + 1) xs)) ≡ behind_spaces (map decimal (take i xs)) ++ 32 ∷ decimal (get_or xs i d)
numbers_take xs i d h =
    ap (λ r. behind_spaces (map decimal r)) (take_more xs i d h)
    ∙ (ap behind_spaces (map_more decimal (take i xs) (get_or xs i d ∷ []))
    ∙ (behind-append (map decimal (take i xs)) (decimal (get_or xs i d) ∷ []) ∙ ap (λ r. behind_spaces (map decimal (take i xs)) ++ 32 ∷ r) (append-nil (decimal (get_or xs i d)))))

parts_more : (ps qs : List PartClaim) → parts_form (ps ++ qs) ≡ parts_form ps ++ parts_form qs
parts_more [] qs = refl
parts_more (p ∷ ps) qs = ap (λ r. decimal p.module ∷ decimal p.local ∷ r) (parts_more ps qs)

pub parts_take : (xs : List PartClaim) (i : ℕ) (d : PartClaim) → i < length xs
    → behind_spaces (parts_form (take (i + 1) xs)) ≡ (behind_spaces (parts_form (take i xs)) ++ 32 ∷ decimal (get_or xs i d).module) ++ 32 ∷ decimal (get_or xs i d).local
parts_take xs i d h =
    let p = get_or xs i d in
    let done = behind_spaces (parts_form (take i xs)) in
    ap (λ r. behind_spaces (parts_form r)) (take_more xs i d h)
    ∙ (ap behind_spaces (parts_more (take i xs) (p ∷ []))
    ∙ (behind-append (parts_form (take i xs)) (decimal p.module ∷ decimal p.local ∷ [])
    ∙ (ap (λ r. done ++ 32 ∷ (decimal p.module ++ 32 ∷ r)) (append-nil (decimal p.local)) ∙ sym (append_assoc done (32 ∷ decimal p.module) (32 ∷ decimal p.local)))))

claim_pieces : (o w k v l h z : List ℕ) → (((((o ++ w) ++ k) ++ v) ++ l) ++ h) ++ z ≡ o ++ ((w ++ (k ++ (v ++ (l ++ h)))) ++ z)
claim_pieces o w k v l h z = simp append_assoc

-- the first line of a claim, in six pieces
pub claim_written : (o a b c d e f k l h : List ℕ) → a ≡ o ++ codes "claim" → b ≡ a ++ 32 ∷ k → c ≡ b ++ codes " line" → d ≡ c ++ 32 ∷ l → e ≡ d ++ h → f ≡ e ++ 10 ∷ []
    → f ≡ o ++ ((codes "claim" ++ 32 ∷ (k ++ 32 ∷ (codes "line" ++ 32 ∷ (l ++ h)))) ++ 10 ∷ [])
claim_written o a b c d e f k l h p q r s t u =
    u ∙ (ap (λ x. x ++ 10 ∷ []) (t ∙ ap (λ x. x ++ h) (s ∙ ap (λ x. x ++ 32 ∷ l) (r ∙ ap (λ x. x ++ codes " line") (q ∙ ap (λ x. x ++ 32 ∷ k) p)))) ∙ claim_pieces o (codes "claim") (32 ∷ k) (codes " line") (32 ∷ l) h (10 ∷ []))

refused_pieces : (o w l h z : List ℕ) → (((o ++ w) ++ l) ++ h) ++ z ≡ o ++ ((w ++ (l ++ h)) ++ z)
refused_pieces o w l h z = simp append_assoc

-- a refused line, in four pieces
pub refused_written : (o a b c d l w : List ℕ) → a ≡ o ++ codes "refused" → b ≡ a ++ 32 ∷ l → c ≡ b ++ w → d ≡ c ++ 10 ∷ [] → d ≡ o ++ ((codes "refused" ++ 32 ∷ (l ++ w)) ++ 10 ∷ [])
refused_written o a b c d l w p q r s = s ∙ (ap (λ x. x ++ 10 ∷ []) (r ∙ ap (λ x. x ++ w) (q ∙ ap (λ x. x ++ 32 ∷ l) p)) ∙ refused_pieces o (codes "refused") (32 ∷ l) w (10 ∷ []))
