-- Laws of the tokens of a script's line.
use Rattle.std.proofs.Common.{◌≡◌, ℕ, ◌+◌, ◌<◌, ◌-◌, List, [], ◌∷◌, ◌++◌, length, take, drop, filter, true, false, get_or, All, refl, sym, ap, ◌∙◌, arith, drop-cons, add-one, length-drop}
use Rattle.std.specs.List.{slice_split}
use Rattle.std.proofs.lemmas.List.{take-append-drop, take_all}
use Rattle.std.proofs.lemmas.List.Splits.{slice_split_at}
use Rattle.text_lines.specs.Script.{is_blank, is_some_word, words, uncommented}
use Rattle.text_lines.specs.Parts.{parts, Lacks}
use Rattle.text_lines.proofs.Cutting.{parts-cut, parts-whole}

-- a list is what stands before a place, what stands there, and what stands behind it
pub around : (xs : List ℕ) (i : ℕ) → i < length xs → xs ≡ take i xs ++ get_or xs i 0 ∷ drop (i + 1) xs
around xs i h = sym (take-append-drop i xs) ∙ ap (λ l. take i xs ++ l) (rw (add-one, drop-cons xs i 0) refl)

-- bytes cut at their first blank
pub split_at_blank : (xs : List ℕ) (i : ℕ) → i < length xs → All (λ b. is_blank b ≡ false) (take i xs) → is_blank (get_or xs i 0) ≡ true
    → slice_split is_blank xs ≡ take i xs ∷ slice_split is_blank (drop (i + 1) xs)
split_at_blank xs i h before at =
    ap (slice_split is_blank) (around xs i h) ∙ slice_split_at is_blank (take i xs) (get_or xs i 0) (drop (i + 1) xs) before at

-- an empty part is no token
pub words_cons : (front : List ℕ) (bytes rest : List ℕ) → slice_split is_blank bytes ≡ front ∷ slice_split is_blank rest → 0 < length front → words bytes ≡ front ∷ words rest
words_cons [] bytes rest cut some = absurd (omega arith)
words_cons (b ∷ front) bytes rest cut some = ap (filter is_some_word) cut

pub words_skip : (front : List ℕ) (bytes rest : List ℕ) → slice_split is_blank bytes ≡ front ∷ slice_split is_blank rest → length front ≡ 0 → words bytes ≡ words rest
words_skip [] bytes rest cut none = ap (filter is_some_word) cut
words_skip (b ∷ front) bytes rest cut none = absurd (omega arith)

pub words_last : (bytes : List ℕ) → slice_split is_blank bytes ≡ bytes ∷ [] → 0 < length bytes → words bytes ≡ bytes ∷ []
words_last [] whole some = absurd (omega arith)
words_last (b ∷ bytes) whole some = ap (filter is_some_word) whole

pub words_none : (bytes : List ℕ) → length bytes ≡ 0 → words bytes ≡ []
words_none [] none = refl
words_none (b ∷ bytes) none = absurd (omega arith)

-- what stands before the first `#`
pub uncommented-cut : (bytes code rest : List ℕ) → bytes ≡ code ++ 35 ∷ rest → Lacks 35 code → code ≡ uncommented bytes
uncommented-cut bytes code rest split lacks = sym (ap (λ l. get_or l 0 []) (ap (parts 35) split ∙ parts-cut 35 code rest lacks))

pub uncommented-whole : (bytes : List ℕ) → Lacks 35 bytes → bytes ≡ uncommented bytes
uncommented-whole bytes lacks = sym (ap (λ l. get_or l 0 []) (parts-whole 35 bytes lacks))

-- the same, as the code cuts what stands behind the blank
pub split_before_blank : (xs : List ℕ) (i : ℕ) → i < length xs → All (λ b. is_blank b ≡ false) (take i xs) → is_blank (get_or xs i 0) ≡ true
    → slice_split is_blank xs ≡ take i xs ∷ slice_split is_blank (take (length xs - (i + 1)) (drop (i + 1) xs))
split_before_blank xs i h before at = split_at_blank xs i h before at ∙ ap (λ l. take i xs ∷ slice_split is_blank l) (sym (take_all _ (drop (i + 1) xs) (omega (arith, length-drop (i + 1) xs))))
