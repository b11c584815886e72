-- Claims' first lines: what a line says is found from its tokens, so different ones have different spellings; and what their readers conclude.
use Rattle.std.proofs.Common.{◌≡◌, ◌≢◌, ℕ, ◌<◌, ◌^◌, List, [], ◌∷◌, ◌++◌, drop, cond, codes, decimal, refl, sym, ap, ◌∙◌, subst, arith, lit≤}
use Rattle.std.specs.Prelude.{All}
use Rattle.std.proofs.lemmas.List.Elements.{All-head, All-tail}
use Rattle.report_types.specs.declared.claims.PartClaim.{PartClaim}
use Rattle.report_types.specs.declared.claims.Translation.{Translation}
use Rattle.report_types.specs.declared.claims.Translation.TheVariants.{Tau, Transpose, Taui}
use Rattle.claim_lines.specs.declared.heads.Head.{Head}
use Rattle.claim_lines.specs.declared.heads.Head.TheVariants as head
use Rattle.claim_lines.specs.Spelling.{parts_form, translate_form, head_form}
use Rattle.claim_lines.specs.Items.{ArePartNumbers, AreNumbers}
use Rattle.claim_lines.proofs.Tokens.{value, is_same, token, number, number_is, few_is, one, two, three, four}
use Rattle.claim_lines.proofs.NumberReading.{tail_is}

-- ---- found from the tokens

abbrev part_of : ℕ → ℕ → PartClaim
part_of m l = record { «module» = m; local = l }

abbrev pub parts_from : List (List ℕ) → List PartClaim
parts_from [] = []
parts_from (x ∷ []) = []
parts_from (x ∷ l ∷ rest) = part_of (value x) (value l) ∷ parts_from rest

abbrev pub head_from : List (List ℕ) → Head
head_from ts =
    let w = token ts 0 in
    cond (is_same w (codes "basis")) head.Basis
    (cond (is_same w (codes "module")) (head.Module (number ts 1))
    (cond (is_same w (codes "map")) (head.Map (number ts 1))
    (cond (is_same w (codes "hom")) (head.Hom (number ts 1) (number ts 2) (number ts 3))
    (cond (is_same w (codes "kernel")) (head.Kernel (number ts 1) (number ts 2) (number ts 3))
    (cond (is_same w (codes "cokernel")) (head.Cokernel (number ts 1) (number ts 2) (number ts 3))
    (cond (is_same w (codes "radical")) (head.Radical (number ts 1) (number ts 2) (number ts 3))
    (cond (is_same w (codes "resolution")) (head.Resolution (number ts 1) (number ts 2))
    (cond (is_same w (codes "ext")) (head.Ext (number ts 1) (number ts 2) (number ts 3) (number ts 4) (number ts 6))
    (cond (is_same w (codes "local")) (head.Local (number ts 1) (number ts 3))
    (cond (is_same w (codes "decomposition")) (head.Decomposition (number ts 1) (number ts 2) (number ts 3) (number ts 4) (parts_from (drop 6 ts)))
    (cond (is_same w (codes "tau")) (head.Translate Tau (number ts 1) (number ts 2) (number ts 4))
    (cond (is_same w (codes "transpose")) (head.Translate Transpose (number ts 1) (number ts 2) (number ts 4))
    (cond (is_same w (codes "taui")) (head.Translate (Taui (number ts 3)) (number ts 1) (number ts 2) (number ts 5))
    (head.AlmostSplit (number ts 1) (number ts 2) (number ts 3) (number ts 4) (number ts 5) (number ts 7) (number ts 8)))))))))))))))

-- ---- what is spelled is found

same_part : (a b x y : ℕ) → a ≡ x → b ≡ y → part_of a b ≡ part_of x y
same_part a b x y p q = two part_of a b x y p q

same_parts : (p q : PartClaim) (ps qs : List PartClaim) → p ≡ q → ps ≡ qs → p ∷ ps ≡ q ∷ qs
same_parts p q ps qs e f = cc

pub parts_back : (earlier modules : ℕ) → earlier < 2 ^ 32 → modules < 2 ^ 32 → (ps : List PartClaim) → All (ArePartNumbers earlier modules) ps → parts_from (parts_form ps) ≡ ps
parts_back earlier modules a b [] are = refl
parts_back earlier modules a b (p ∷ ps) are =
    let is = All-head (ArePartNumbers earlier modules) p ps are in
    same_parts _ p _ ps (same_part _ _ p.module p.local (number_is modules p.module b is.is_module) (number_is earlier p.local a is.named))
    (parts_back earlier modules a b ps (All-tail (ArePartNumbers earlier modules) p ps are))

-- the numbers of a report so far are below 2^32
pub record AreFew (earlier modules maps : ℕ) : Type 0 where
  pub few_claims : earlier < 2 ^ 32
  pub few_modules : modules < 2 ^ 32
  pub few_maps : maps < 2 ^ 32

translate_back : (earlier modules maps : ℕ) → AreFew earlier modules maps → (which : Translation) (n a c : ℕ) → AreNumbers earlier modules maps (head.Translate which n a c) → head_from (translate_form which n a c) ≡ head.Translate which n a c
translate_back k m' f' few Tau n a c is = three (head.Translate Tau) _ _ _ n a c (number_is _ n few.few_modules is.1) (number_is _ a few.few_modules is.2) (number_is _ c few.few_claims is.3)
translate_back k m' f' few Transpose n a c is = three (head.Translate Transpose) _ _ _ n a c (number_is _ n few.few_modules is.1) (number_is _ a few.few_modules is.2) (number_is _ c few.few_claims is.3)
translate_back k m' f' few (Taui b) n a c is =
    four (λ b' n' a' c'. head.Translate (Taui b') n' a' c') _ _ _ _ b n a c (number_is _ b few.few_modules is.0) (number_is _ n few.few_modules is.1) (number_is _ a few.few_modules is.2) (number_is _ c few.few_claims is.3)

ext_back : (a b c d e x y z w v : ℕ) → a ≡ x → b ≡ y → c ≡ z → d ≡ w → e ≡ v → head.Ext a b c d e ≡ head.Ext x y z w v
ext_back a b c d e x y z w v p q r s t = ap (λ n. head.Ext n b c d e) p ∙ four (head.Ext x) b c d e y z w v q r s t

decomposition_back : (a b c d x y z w : ℕ) (ps qs : List PartClaim) → a ≡ x → b ≡ y → c ≡ z → d ≡ w → ps ≡ qs → head.Decomposition a b c d ps ≡ head.Decomposition x y z w qs
decomposition_back a b c d x y z w ps qs p q r s t = ap (head.Decomposition a b c d) t ∙ four (λ i j k l. head.Decomposition i j k l qs) a b c d x y z w p q r s

sequence_back : (a b c d e f g x y z w v u t : ℕ) → a ≡ x → b ≡ y → c ≡ z → d ≡ w → e ≡ v → f ≡ u → g ≡ t → head.AlmostSplit a b c d e f g ≡ head.AlmostSplit x y z w v u t
sequence_back a b c d e f g x y z w v u t p q r s i j k =
    three (λ n m l. head.AlmostSplit n m l d e f g) a b c x y z p q r ∙ four (head.AlmostSplit x y z) d e f g w v u t s i j k

pub head_back : (earlier modules maps : ℕ) → AreFew earlier modules maps → (x : Head) → AreNumbers earlier modules maps x → head_from (head_form x) ≡ x
head_back k m' f' few head.Basis is = refl
head_back k m' f' few (head.Module m) is = one head.Module _ m (number_is _ m few.few_modules is)
head_back k m' f' few (head.Map f) is = one head.Map _ f (number_is _ f few.few_maps is)
head_back k m' f' few (head.Hom a b n) is = three head.Hom _ _ _ a b n (number_is _ a few.few_modules is.0) (number_is _ b few.few_modules is.1) (few_is n 1024 is.2 (lit≤ tt))
head_back k m' f' few (head.Kernel n f i) is = three head.Kernel _ _ _ n f i (number_is _ n few.few_modules is.0) (number_is _ f few.few_maps is.1) (number_is _ i few.few_maps is.2)
head_back k m' f' few (head.Cokernel n f i) is = three head.Cokernel _ _ _ n f i (number_is _ n few.few_modules is.0) (number_is _ f few.few_maps is.1) (number_is _ i few.few_maps is.2)
head_back k m' f' few (head.Radical n a i) is = three head.Radical _ _ _ n a i (number_is _ n few.few_modules is.0) (number_is _ a few.few_modules is.1) (number_is _ i few.few_maps is.2)
head_back k m' f' few (head.Resolution a n) is = two head.Resolution _ _ a n (number_is _ a few.few_modules is.0) (few_is n 16 is.1 (lit≤ tt))
head_back k m' f' few (head.Ext n a b m c) is =
    ext_back _ _ _ _ _ n a b m c (few_is n 16 (let low = is.0 in omega arith) (lit≤ tt)) (number_is _ a few.few_modules is.1) (number_is _ b few.few_modules is.2) (few_is m 1024 is.3 (lit≤ tt)) (number_is _ c few.few_claims is.4)
head_back k m' f' few (head.Local m c) is = two head.Local _ _ m c (number_is _ m few.few_modules is.0) (number_is _ c few.few_claims is.1)
head_back k m' f' few (head.Decomposition a s f g ps) is =
    decomposition_back _ _ _ _ a s f g _ ps (number_is _ a few.few_modules is.0) (number_is _ s few.few_modules is.1) (number_is _ f few.few_maps is.2) (number_is _ g few.few_maps is.3) (parts_back k m' few.few_claims few.few_modules ps is.4)
head_back k m' f' few (head.Translate which n a c) is = translate_back k m' f' few which n a c is
head_back k m' f' few (head.AlmostSplit n e a f g c l) is =
    sequence_back _ _ _ _ _ _ _ n e a f g c l (number_is _ n few.few_modules is.0) (number_is _ e few.few_modules is.1) (number_is _ a few.few_modules is.2) (number_is _ f few.few_maps is.3) (number_is _ g few.few_maps is.4)
    (number_is _ c few.few_claims is.5) (number_is _ l few.few_claims is.6)

-- ---- what readers conclude

-- what is found from some tokens is the only thing that they spell
pub found_is : (earlier modules maps : ℕ) → AreFew earlier modules maps → (ts : List (List ℕ)) (x : Head) → AreNumbers earlier modules maps x → ts ≡ head_form x → head_from ts ≡ x
found_is k m' f' few ts x is e = ap head_from e ∙ head_back k m' f' few x is

pub none_is : (earlier modules maps : ℕ) → AreFew earlier modules maps → (ts : List (List ℕ)) → (AreNumbers earlier modules maps (head_from ts) → ts ≡ head_form (head_from ts) → ⊥)
    → (x : Head) → AreNumbers earlier modules maps x → ts ≡ head_form x → ⊥
none_is k m' f' few ts none x is e =
    let same = found_is k m' f' few ts x is e in
    none (subst (AreNumbers k m' f') (sym same) is) (e ∙ ap head_form (sym same))

pub one_head : (earlier modules maps : ℕ) → AreFew earlier modules maps → (x y : Head) → AreNumbers earlier modules maps x → AreNumbers earlier modules maps y → head_form x ≡ head_form y → x ≡ y
one_head k m' f' few x y a b e = sym (head_back k m' f' few x a) ∙ (ap head_from e ∙ head_back k m' f' few y b)

-- ---- parts one by one

pub parts_push : (ps : List PartClaim) (p : PartClaim) (rest : List (List ℕ)) → parts_form (ps ++ p ∷ []) ++ rest ≡ parts_form ps ++ decimal p.module ∷ decimal p.local ∷ rest
parts_push [] p rest = refl
parts_push (q ∷ ps) p rest = ap (λ r. decimal q.module ∷ decimal q.local ∷ r) (parts_push ps p rest)

pub no_parts : (P : PartClaim → Type 0) (done ps : List PartClaim) (tokens : List (List ℕ)) → parts_form done ++ tokens ≡ parts_form ps → tokens ≢ [] → All P ps
    → ((p : PartClaim) (rest : List (List ℕ)) → P p → tokens ≡ decimal p.module ∷ decimal p.local ∷ rest → ⊥) → ⊥
no_parts P [] [] tokens e some are none = some e
no_parts P [] (p ∷ ps) tokens e some are none = none p (parts_form ps) (All-head P p ps are) e
no_parts P (d ∷ done) [] tokens e some are none = nonempty _ _ e
  where
    nonempty : (t : List ℕ) (ts : List (List ℕ)) → t ∷ ts ≡ [] → ⊥
    nonempty t ts e = cc
no_parts P (d ∷ done) (p ∷ ps) tokens e some are none = no_parts P done ps tokens (tail_is _ _ _ _ (tail_is _ _ _ _ e)) some (All-tail P p ps are) none
