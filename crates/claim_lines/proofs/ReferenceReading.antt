-- References: name and value are found from the token, so different ones have different spellings.
use Rattle.std.proofs.Common.{◌≡◌, ◌≢◌, ℕ, ◌<◌, ◌^◌, true, false, List, [], ◌∷◌, ◌++◌, cond, eqb, codes, decimal, inl, inr, refl, sym, ap, ◌∙◌, subst, lit≤, append-nil}
use Rattle.std.proofs.lemmas.Bool.{false_from_ne_true}
use Rattle.std.proofs.lemmas.Bool.Decides.{eqb_tells}
use Rattle.std.proofs.lemmas.List.Elements.{All-nil, All-cons, All-head}
use Rattle.quiver_paths.specs.declared.names.Reference.{Reference}
use Rattle.quiver_paths.specs.declared.names.Suffix.{Suffix}
use Rattle.quiver_paths.specs.declared.names.Suffix.TheVariants as suffix
use Rattle.quiver_paths.specs.Name.{IsName}
use Rattle.path_algebra.specs.Allowed.{IsArrowName}
use Rattle.path_algebra.specs.Derivations.{IsNumber}
use Rattle.text_lines.specs.Parts.{Lacks, parts}
use Rattle.text_lines.proofs.Cutting.{parts-joined_all}
use Rattle.header_text.proofs.Clean.{name_lacks, decimal_lacks, not_lacks, one_cut}
use Rattle.report_types.specs.Ends.{IsToken}
use Rattle.report_types.specs.Limits.{part_limit}
use Rattle.claim_lines.specs.Spelling.{suffix_text, reference_text}
use Rattle.claim_lines.specs.Reading.{IsDotted}
use Rattle.claim_lines.proofs.Tokens.{is_same, value, few_is, few_small}

-- ---- found from the token

abbrev pub suffix_from : List ℕ → Suffix
suffix_from s = cond (is_same s (codes "map")) suffix.Map (cond (is_same s (codes "inv")) suffix.Inv (suffix.Part (value s)))

abbrev reference : List ℕ → Suffix → Reference
reference n s = record { name = n; suffix = s }

abbrev pub reference_from : List (List ℕ) → Reference
reference_from [] = reference [] suffix.Whole
reference_from (n ∷ []) = reference n suffix.Whole
reference_from (n ∷ s ∷ rest) = reference n (suffix_from s)

abbrev pub reference_at : List ℕ → Reference
reference_at token = reference_from (parts 46 token)

-- ---- what is spelled is found

clash : true ≡ false → ⊥
clash e = cc

cons_same : (a b : ℕ) (xs ys : List ℕ) → a ≡ b → xs ≡ ys → a ∷ xs ≡ b ∷ ys
cons_same a b xs ys e f = cc

pub same_is : (w v : List ℕ) → is_same w v ≡ true → w ≡ v
same_is [] [] e = refl
same_is [] (b ∷ bs) e = absurd (clash (sym e))
same_is (a ∷ xs) [] e = absurd (clash (sym e))
same_is (a ∷ xs) (b ∷ bs) e = elim (eqb_tells a b) [
  | inl one ↦ cons_same a b xs bs one.1 (same_is xs bs (sym (ap (λ t. cond t (is_same xs bs) false) one.0) ∙ e))
  | inr other ↦ absurd (clash (sym e ∙ ap (λ t. cond t (is_same xs bs) false) other.0))
]

-- a numeral is no word that begins with m or i
no_map : (k : ℕ) → k < 2 ^ 64 → is_same (decimal k) (codes "map") ≡ false
no_map k small =
    false_from_ne_true (is_same (decimal k) (codes "map"))
    (λ e. let lacks = subst (Lacks 109) (same_is (decimal k) (codes "map") e) (decimal_lacks 109 (lit≤ tt) k small) in clash (All-head (λ b. eqb b 109 ≡ false) 109 (codes "ap") lacks))

no_inv : (k : ℕ) → k < 2 ^ 64 → is_same (decimal k) (codes "inv") ≡ false
no_inv k small =
    false_from_ne_true (is_same (decimal k) (codes "inv"))
    (λ e. let lacks = subst (Lacks 105) (same_is (decimal k) (codes "inv") e) (decimal_lacks 105 (lit≤ tt) k small) in clash (All-head (λ b. eqb b 105 ≡ false) 105 (codes "nv") lacks))

pub part_small : (k : ℕ) → IsNumber part_limit k → k < 2 ^ 64
part_small k is = few_small k 256 is.to (lit≤ tt)

part_back : (k : ℕ) → IsNumber part_limit k → suffix_from (decimal k) ≡ suffix.Part k
part_back k is =
    let small = part_small k is in
    ap (λ t. cond t suffix.Map (cond (is_same (decimal k) (codes "inv")) suffix.Inv (suffix.Part (value (decimal k))))) (no_map k small)
    ∙ (ap (λ t. cond t suffix.Inv (suffix.Part (value (decimal k)))) (no_inv k small) ∙ ap suffix.Part (few_is k 256 is.to (lit≤ tt)))

some_piece : (t : List ℕ) (ts : List (List ℕ)) → t ∷ ts ≢ []
some_piece t ts e = none t ts e
  where
    none : (t : List ℕ) (ts : List (List ℕ)) → t ∷ ts ≡ [] → ⊥
    none t ts e = cc

pub plain_parts : (n : List ℕ) → IsName n → parts 46 n ≡ n ∷ []
plain_parts n is = parts-joined_all 46 (n ∷ []) (some_piece _ _) (All-cons (Lacks 46) n [] (name_lacks 46 refl n is) (All-nil (Lacks 46)))

pub dotted_parts : (n s : List ℕ) → Lacks 46 n → Lacks 46 s → parts 46 (n ++ 46 ∷ s) ≡ n ∷ s ∷ []
dotted_parts n s a b = parts-joined_all 46 (n ∷ s ∷ []) (some_piece _ _) (All-cons (Lacks 46) n (s ∷ []) a (All-cons (Lacks 46) s [] b (All-nil (Lacks 46))))

three_lack : (a b d : ℕ) → eqb a 46 ≡ false → eqb b 46 ≡ false → eqb d 46 ≡ false → Lacks 46 (a ∷ b ∷ d ∷ [])
three_lack a b d p q r = All-cons (λ x. eqb x 46 ≡ false) a (b ∷ d ∷ []) p (All-cons (λ x. eqb x 46 ≡ false) b (d ∷ []) q (All-cons (λ x. eqb x 46 ≡ false) d [] r (All-nil (λ x. eqb x 46 ≡ false))))

pub back : (n : List ℕ) (s : Suffix) → IsToken n s → reference_at (n ++ suffix_text s) ≡ reference n s
back n suffix.Whole is = ap reference_at (append-nil n) ∙ ap reference_from (plain_parts n is)
back n suffix.Map is = ap reference_from (dotted_parts n (codes "map") (name_lacks 46 refl n is.name) (three_lack 109 97 112 refl refl refl))
back n suffix.Inv is = ap reference_from (dotted_parts n (codes "inv") (name_lacks 46 refl n is.name) (three_lack 105 110 118 refl refl refl))
back n (suffix.Part k) is =
    ap reference_from (dotted_parts n (decimal k) (name_lacks 46 refl n is.0.name) (decimal_lacks 46 (lit≤ tt) k (part_small k is.1))) ∙ ap (reference n) (part_back k is.1)

pub reference_back : (r : Reference) → IsToken r.name r.suffix → reference_at (reference_text r) ≡ r
reference_back r is = back r.name r.suffix is

-- ---- what readers conclude

pub whole_only : (token : List ℕ) → Lacks 46 token → (r : Reference) → IsToken r.name r.suffix → token ≡ reference_text r → reference token suffix.Whole ≡ r
whole_only token lacks r is e =
    sym (ap reference_from (parts-joined_all 46 (token ∷ []) (some_piece _ _) (All-cons (Lacks 46) token [] lacks (All-nil (Lacks 46))))) ∙ (ap reference_at e ∙ reference_back r is)

pub no_whole : (token : List ℕ) → Lacks 46 token → (IsName token → ⊥) → (r : Reference) → IsToken r.name r.suffix → token ≡ reference_text r → ⊥
no_whole token lacks none r is e = none (subst (λ (x : Reference). IsToken x.name x.suffix) (sym (whole_only token lacks r is e)) is)

-- what a token with a dot is
pub record IsDottedAs (front back : List ℕ) (r : Reference) : Type 0 where
  pub name : front ≡ r.name
  pub named : IsArrowName front
  pub value : IsDotted r.suffix
  pub spelled : 46 ∷ back ≡ suffix_text r.suffix

dotted_as : (front back n s : List ℕ) (v : Suffix) → Lacks 46 front → IsArrowName n → IsDotted v → suffix_text v ≡ 46 ∷ s → front ++ 46 ∷ back ≡ n ++ 46 ∷ s → IsDottedAs front back (reference n v)
dotted_as front back n s v lacks named is text e =
    let cut = one_cut 46 front n back s lacks (name_lacks 46 refl n named.name) e in
    record { name = cut.0; named = subst IsArrowName (sym cut.0) named; value = is; spelled = ap (λ r. 46 ∷ r) cut.1 ∙ sym text }

dotted_is : (front back n : List ℕ) (v : Suffix) → Lacks 46 front → IsToken n v → front ++ 46 ∷ back ≡ n ++ suffix_text v → IsDottedAs front back (reference n v)
dotted_is front back n suffix.Whole lacks is e = absurd (not_lacks 46 front back (subst (Lacks 46) (sym (e ∙ append-nil n)) (name_lacks 46 refl n is)))
dotted_is front back n suffix.Map lacks is e = dotted_as front back n (codes "map") suffix.Map lacks is tt refl e
dotted_is front back n suffix.Inv lacks is e = dotted_as front back n (codes "inv") suffix.Inv lacks is tt refl e
dotted_is front back n (suffix.Part k) lacks is e = dotted_as front back n (decimal k) (suffix.Part k) lacks is.0 is.1 refl e

pub dotted_only : (front back : List ℕ) → Lacks 46 front → (r : Reference) → IsToken r.name r.suffix → front ++ 46 ∷ back ≡ reference_text r → IsDottedAs front back r
dotted_only front back lacks r is e = dotted_is front back r.name r.suffix lacks is e

pub token_of : (n : List ℕ) (v : Suffix) → IsArrowName n → IsDotted v → IsToken n v
token_of n suffix.Whole named is = absurd is
token_of n suffix.Map named is = named
token_of n suffix.Inv named is = named
token_of n (suffix.Part k) named is = (named, is)

same_rest : (a b : ℕ) (xs ys : List ℕ) → a ∷ xs ≡ b ∷ ys → xs ≡ ys
same_rest a b xs ys e = cc

pub no_suffix : (bytes : List ℕ) → bytes ≢ codes "map" → bytes ≢ codes "inv" → ((k : ℕ) → IsNumber part_limit k → bytes ≡ decimal k → ⊥) → (v : Suffix) → IsDotted v → 46 ∷ bytes ≡ suffix_text v → ⊥
no_suffix bytes a b none suffix.Whole is e = absurd is
no_suffix bytes a b none suffix.Map is e = a (same_rest _ _ _ _ e)
no_suffix bytes a b none suffix.Inv is e = b (same_rest _ _ _ _ e)
no_suffix bytes a b none (suffix.Part k) is e = none k is (same_rest _ _ _ _ e)
