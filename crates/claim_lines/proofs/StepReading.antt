-- Steps: their spellings differ, and what their readers conclude.
use Rattle.std.proofs.Common.{◌≡◌, ◌≢◌, ℕ, ◌<◌, ◌≤◌, ◌^◌, List, [], ◌∷◌, length, get_or, codes, decimal, refl, ap, ◌∙◌, arith, lit<}
use Rattle.linear_algebra.specs.Field.{order}
use Rattle.quiver_paths.specs.declared.Quiver.{Quiver}
use Rattle.path_algebra.specs.declared.Header.{Header}
use Rattle.path_algebra.specs.declared.rules.Step.{Step}
use Rattle.path_algebra.specs.declared.rules.Step.TheVariants as step
use Rattle.path_algebra.specs.Derivations.{NamesEarlier}
use Rattle.path_algebra.specs.BasisClauses.{HasFactor}
use Rattle.header_text.specs.Spelling.{arrow_name}
use Rattle.header_text.specs.Named.{IsNamed}
use Rattle.header_text.proofs.Uniqueness.{one_arrow, decimal_one}
use Rattle.header_text.proofs.Readers.{order_small}
use Rattle.claim_lines.specs.Spelling.{step_form}

-- the third letter of the word tells the kind of a step
abbrev pub tag : List (List ℕ) → ℕ
tag [] = 0
tag (w ∷ rest) = get_or w 2 0

abbrev pub step_tag : Step → ℕ
step_tag (step.Relation r) = 108
step_tag (step.Left a j) = 102
step_tag (step.Right j a) = 103
step_tag (step.Add j c m) = 100

pub tag_is : (Q : Quiver) (s : Step) → tag (step_form Q s) ≡ step_tag s
tag_is Q (step.Relation r) = refl
tag_is Q (step.Left a j) = refl
tag_is Q (step.Right j a) = refl
tag_is Q (step.Add j c m) = refl

pub tail_of : (x y : List ℕ) (xs ys : List (List ℕ)) → x ∷ xs ≡ y ∷ ys → xs ≡ ys
tail_of x y xs ys e = cc

pub head_of : (x y : List ℕ) (xs ys : List (List ℕ)) → x ∷ xs ≡ y ∷ ys → x ≡ y
head_of x y xs ys e = cc

tags : (Q : Quiver) (ts : List (List ℕ)) (s : Step) → ts ≡ step_form Q s → tag ts ≡ step_tag s
tags Q ts s e = ap tag e ∙ tag_is Q s

-- tokens that begin with the word of one kind are those of no other
pub no_relation : (Q : Quiver) (rest : List (List ℕ)) (P : Step → Type 0) → ((r : ℕ) → P (step.Relation r) → rest ≡ decimal r ∷ [] → ⊥) → (s : Step) → P s → codes "relation" ∷ rest ≡ step_form Q s → ⊥
no_relation Q rest P none (step.Relation r) is e = none r is (tail_of _ _ _ _ e)
no_relation Q rest P none (step.Left a j) is e = absurd (omega (arith, tags Q _ (step.Left a j) e))
no_relation Q rest P none (step.Right j a) is e = absurd (omega (arith, tags Q _ (step.Right j a) e))
no_relation Q rest P none (step.Add j c m) is e = absurd (omega (arith, tags Q _ (step.Add j c m) e))

pub no_left : (Q : Quiver) (rest : List (List ℕ)) (P : Step → Type 0) → ((a j : ℕ) → P (step.Left a j) → rest ≡ arrow_name Q a ∷ decimal j ∷ [] → ⊥) → (s : Step) → P s → codes "left" ∷ rest ≡ step_form Q s → ⊥
no_left Q rest P none (step.Relation r) is e = absurd (omega (arith, tags Q _ (step.Relation r) e))
no_left Q rest P none (step.Left a j) is e = none a j is (tail_of _ _ _ _ e)
no_left Q rest P none (step.Right j a) is e = absurd (omega (arith, tags Q _ (step.Right j a) e))
no_left Q rest P none (step.Add j c m) is e = absurd (omega (arith, tags Q _ (step.Add j c m) e))

pub no_right : (Q : Quiver) (rest : List (List ℕ)) (P : Step → Type 0) → ((j a : ℕ) → P (step.Right j a) → rest ≡ decimal j ∷ arrow_name Q a ∷ [] → ⊥) → (s : Step) → P s → codes "right" ∷ rest ≡ step_form Q s → ⊥
no_right Q rest P none (step.Relation r) is e = absurd (omega (arith, tags Q _ (step.Relation r) e))
no_right Q rest P none (step.Left a j) is e = absurd (omega (arith, tags Q _ (step.Left a j) e))
no_right Q rest P none (step.Right j a) is e = none j a is (tail_of _ _ _ _ e)
no_right Q rest P none (step.Add j c m) is e = absurd (omega (arith, tags Q _ (step.Add j c m) e))

pub no_add : (Q : Quiver) (rest : List (List ℕ)) (P : Step → Type 0) → ((j c m : ℕ) → P (step.Add j c m) → rest ≡ decimal j ∷ decimal c ∷ decimal m ∷ [] → ⊥) → (s : Step) → P s → codes "add" ∷ rest ≡ step_form Q s → ⊥
no_add Q rest P none (step.Relation r) is e = absurd (omega (arith, tags Q _ (step.Relation r) e))
no_add Q rest P none (step.Left a j) is e = absurd (omega (arith, tags Q _ (step.Left a j) e))
no_add Q rest P none (step.Right j a) is e = absurd (omega (arith, tags Q _ (step.Right j a) e))
no_add Q rest P none (step.Add j c m) is e = none j c m is (tail_of _ _ _ _ e)

-- tokens that begin with no such word
pub no_word : (Q : Quiver) (w : List ℕ) (rest : List (List ℕ)) → w ≢ codes "relation" → w ≢ codes "left" → w ≢ codes "right" → w ≢ codes "add" → (s : Step) → w ∷ rest ≡ step_form Q s → ⊥
no_word Q w rest a b c d (step.Relation r) e = a (head_of _ _ _ _ e)
no_word Q w rest a b c d (step.Left x j) e = b (head_of _ _ _ _ e)
no_word Q w rest a b c d (step.Right j x) e = c (head_of _ _ _ _ e)
no_word Q w rest a b c d (step.Add j x m) e = d (head_of _ _ _ _ e)

pub no_token : (Q : Quiver) (s : Step) → [] ≡ step_form Q s → ⊥
no_token Q (step.Relation r) e = some_none _ _ e
  where
    some_none : (x : List ℕ) (xs : List (List ℕ)) → [] ≡ x ∷ xs → ⊥
    some_none x xs e = cc
no_token Q (step.Left x j) e = some_none _ _ e
  where
    some_none : (x : List ℕ) (xs : List (List ℕ)) → [] ≡ x ∷ xs → ⊥
    some_none x xs e = cc
no_token Q (step.Right j x) e = some_none _ _ e
  where
    some_none : (x : List ℕ) (xs : List (List ℕ)) → [] ≡ x ∷ xs → ⊥
    some_none x xs e = cc
no_token Q (step.Add j x m) e = some_none _ _ e
  where
    some_none : (x : List ℕ) (xs : List (List ℕ)) → [] ≡ x ∷ xs → ⊥
    some_none x xs e = cc

-- two steps of one spelling are one
one_relation : (m n : ℕ) → m < 2 ^ 64 → n < 2 ^ 64 → decimal m ∷ [] ≡ decimal n ∷ [] → step.Relation m ≡ step.Relation n
one_relation m n a b e = ap step.Relation (decimal_one m n a b (head_of _ _ _ _ e))

below : (n last : ℕ) → n ≤ last → last < 2 ^ 32 → n < 2 ^ 64
below n last a b = let big : 2 ^ 32 < 2 ^ 64 = lit< tt in omega arith

factor_below : (h : Header) (c : ℕ) → c < order h.field → c < 2 ^ 64
factor_below h c l = let low = order_small h.field in let big : 27 < 2 ^ 64 = lit< tt in omega arith

pub one_step : (h : Header) (last : ℕ) → IsNamed h.quiver → length h.relations < 2 ^ 32 → last < 2 ^ 32 → (s t : Step) → NamesEarlier h last s × HasFactor h s → NamesEarlier h last t × HasFactor h t
    → step_form h.quiver s ≡ step_form h.quiver t → s ≡ t
one_step h last named few room (step.Relation r) (step.Relation k) a b e =
    one_relation r k (below r (length h.relations) a.0.to few) (below k (length h.relations) b.0.to few) (tail_of _ _ _ _ e)
one_step h last named few room (step.Relation r) (step.Left x j) a b e = absurd (omega (arith, tags h.quiver _ (step.Left x j) e))
one_step h last named few room (step.Relation r) (step.Right j x) a b e = absurd (omega (arith, tags h.quiver _ (step.Right j x) e))
one_step h last named few room (step.Relation r) (step.Add j c m) a b e = absurd (omega (arith, tags h.quiver _ (step.Add j c m) e))
one_step h last named few room (step.Left x j) (step.Relation r) a b e = absurd (omega (arith, tags h.quiver _ (step.Relation r) e))
one_step h last named few room (step.Left x j) (step.Left y k) a b e =
    let rest = tail_of _ _ _ _ e in
    let arrows = one_arrow h.quiver named x y a.0.0 b.0.0 (head_of _ _ _ _ rest) in
    let numbers = decimal_one j k (below j last a.0.1.to room) (below k last b.0.1.to room) (head_of _ _ _ _ (tail_of _ _ _ _ rest)) in
    ap (λ z. step.Left z j) arrows ∙ ap (step.Left y) numbers
one_step h last named few room (step.Left x j) (step.Right k y) a b e = absurd (omega (arith, tags h.quiver _ (step.Right k y) e))
one_step h last named few room (step.Left x j) (step.Add k c m) a b e = absurd (omega (arith, tags h.quiver _ (step.Add k c m) e))
one_step h last named few room (step.Right j x) (step.Relation r) a b e = absurd (omega (arith, tags h.quiver _ (step.Relation r) e))
one_step h last named few room (step.Right j x) (step.Left y k) a b e = absurd (omega (arith, tags h.quiver _ (step.Left y k) e))
one_step h last named few room (step.Right j x) (step.Right k y) a b e =
    let rest = tail_of _ _ _ _ e in
    let numbers = decimal_one j k (below j last a.0.0.to room) (below k last b.0.0.to room) (head_of _ _ _ _ rest) in
    let arrows = one_arrow h.quiver named x y a.0.1 b.0.1 (head_of _ _ _ _ (tail_of _ _ _ _ rest)) in
    ap (λ z. step.Right z x) numbers ∙ ap (step.Right k) arrows
one_step h last named few room (step.Right j x) (step.Add k c m) a b e = absurd (omega (arith, tags h.quiver _ (step.Add k c m) e))
one_step h last named few room (step.Add j c m) (step.Relation r) a b e = absurd (omega (arith, tags h.quiver _ (step.Relation r) e))
one_step h last named few room (step.Add j c m) (step.Left y k) a b e = absurd (omega (arith, tags h.quiver _ (step.Left y k) e))
one_step h last named few room (step.Add j c m) (step.Right k y) a b e = absurd (omega (arith, tags h.quiver _ (step.Right k y) e))
one_step h last named few room (step.Add j c m) (step.Add k d n) a b e =
    let rest = tail_of _ _ _ _ e in
    let more = tail_of _ _ _ _ rest in
    let first = decimal_one j k (below j last a.0.0.to room) (below k last b.0.0.to room) (head_of _ _ _ _ rest) in
    let factor = decimal_one c d (factor_below h c a.1.1) (factor_below h d b.1.1) (head_of _ _ _ _ more) in
    let second = decimal_one m n (below m last a.0.1.to room) (below n last b.0.1.to room) (head_of _ _ _ _ (tail_of _ _ _ _ more)) in
    ap (λ z. step.Add z c m) first ∙ (ap (λ z. step.Add k z m) factor ∙ ap (step.Add k d) second)
