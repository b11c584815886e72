-- References as tokens.
use Rattle.std.proofs.Common.{◌≡◌, ℕ, List, [], ◌∷◌, ◌++◌, true, false, eqb, get_or, Some, None, codes, refl, sym, ap, ◌∙◌}
use Rattle.std.proofs.lemmas.List.Splits.{join_with_byte-slice_split}
use Rattle.quiver_paths.specs.declared.names.Suffix.TheVariants.{Whole, Map, Inv}
use Rattle.text_lines.specs.Parts.{parts, joined, Lacks}
use Rattle.text_lines.proofs.Cutting.{parts-cut, parts-whole, parts-some}
use Rattle.script_lang.specs.Tokens.{is_word, name_in, number_to, part_of, suffix_in, with_suffix, reference_from, reference_in}

-- what a reference is where its name is cut off
cut_from : (n token : List ℕ) (ps : List (List ℕ)) → (ps ≡ [] → ⊥) → joined 46 ps ≡ token → reference_from (n ∷ ps) ≡ with_suffix (name_in n) (suffix_in token)
cut_from n token [] some same = absurd (some refl)
cut_from n token (p ∷ ps) some same = ap (λ s. with_suffix (name_in n) (suffix_in s)) same

pub reference-cut : (token front back : List ℕ) → token ≡ front ++ 46 ∷ back → Lacks 46 front → with_suffix (name_in front) (suffix_in back) ≡ reference_in token
unfolding reference_in
reference-cut token front back split lacks =
    sym (ap reference_from (ap (parts 46) split ∙ parts-cut 46 front back lacks)
    ∙ cut_from front back (parts 46 back) (parts-some 46 back) (join_with_byte-slice_split 46 back))

pub reference-whole : (token : List ℕ) → Lacks 46 token → with_suffix (name_in token) (Some Whole) ≡ reference_in token
unfolding reference_in
reference-whole token lacks = sym (ap reference_from (parts-whole 46 token lacks))

pub suffix-map : (token : List ℕ) → is_word token (codes "map") ≡ true → Some Map ≡ suffix_in token
unfolding suffix_in
suffix-map token h = rw h refl

pub suffix-inv : (token : List ℕ) → is_word token (codes "map") ≡ false → is_word token (codes "inv") ≡ true → Some Inv ≡ suffix_in token
unfolding suffix_in
suffix-inv token g h = rw (g, h) refl

pub suffix-none : (token : List ℕ) → is_word token (codes "map") ≡ false → is_word token (codes "inv") ≡ false → eqb (get_or token 0 0) 48 ≡ true → None ≡ suffix_in token
unfolding suffix_in
suffix-none token f g h = rw (f, g, h) refl

pub suffix-part : (token : List ℕ) → is_word token (codes "map") ≡ false → is_word token (codes "inv") ≡ false → eqb (get_or token 0 0) 48 ≡ false → part_of (number_to 256 token) ≡ suffix_in token
unfolding suffix_in
suffix-part token f g h = rw (f, g, h) refl
