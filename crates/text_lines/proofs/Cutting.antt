-- Laws of parts, tokens and lines.
use Rattle.std.proofs.Common.{◌≡◌, ◌≢◌, ℕ, Bool, eq-eqb, ◌+◌, ◌<◌, List, [], ◌∷◌, ◌++◌, length, cond, true, false, eqb, IsTrue, ◌↔◌, take, drop, refl, sym, ap, ◌∙◌, All, arith, append_assoc}
use Rattle.std.specs.List.{onto_first, concat, AllByRecursion}
use Rattle.std.proofs.lemmas.Bool.{false≢true}
use Rattle.std.proofs.lemmas.List.Elements.{recursion_from_All}
use Rattle.std.proofs.lemmas.List.Splits.{slice_split_at, slice_split_none, length-slice_split}
use Rattle.std.proofs.lemmas.List.{length-append, take_at, drop_at}
use Rattle.std.proofs.Math.Seq.{take-length, drop-length}
use Rattle.text_lines.specs.Parts.{parts, joined, Lacks}
use Rattle.text_lines.specs.Lines.{lines, ended}

-- ---- parts

pub eqb_same : (c : ℕ) → eqb c c ≡ true
eqb_same c = eq-eqb c c refl

-- what stands before the first c is the first part
pub parts-cut : (c : ℕ) (bytes rest : List ℕ) → Lacks c bytes → parts c (bytes ++ c ∷ rest) ≡ bytes ∷ parts c rest
parts-cut c bytes rest none = slice_split_at (λ b. eqb b c) bytes c rest none (eqb_same c)

-- where there is no c, all is one part
pub parts-whole : (c : ℕ) (bytes : List ℕ) → Lacks c bytes → parts c bytes ≡ bytes ∷ []
parts-whole c bytes none = slice_split_none (λ b. eqb b c) bytes none

pub parts-joined : (c : ℕ) (piece : List ℕ) (pieces : List (List ℕ)) → Lacks c piece → AllByRecursion (Lacks c) pieces → parts c (joined c (piece ∷ pieces)) ≡ piece ∷ pieces
parts-joined c piece [] none all = parts-whole c piece none
parts-joined c piece (next ∷ pieces) none all =
    parts-cut c piece (joined c (next ∷ pieces)) none ∙ ap (λ l. piece ∷ l) (parts-joined c next pieces all.0 all.1)

pub parts-joined_all : (c : ℕ) (pieces : List (List ℕ)) → pieces ≢ [] → All (Lacks c) pieces → parts c (joined c pieces) ≡ pieces
parts-joined_all c [] some all = absurd (some refl)
parts-joined_all c (piece ∷ pieces) some all =
    let each = recursion_from_All (Lacks c) (piece ∷ pieces) all in
    parts-joined c piece pieces each.0 each.1

-- some part is always there
pub parts-some : (c : ℕ) (bytes : List ℕ) → parts c bytes ≢ []
parts-some c bytes none = absurd (omega (arith, length-slice_split (λ b. eqb b c) bytes, ap length none))

-- what is left of the parts tells whether all were taken
pub none_left : (done : Bool) (c : ℕ) (bytes : List ℕ) → IsTrue done ↔ (cond done [] (parts c bytes) ≡ [])
none_left true c bytes = (λ _. refl, λ _. refl)
none_left false c bytes = (λ h. absurd (false≢true h), λ h. absurd (parts-some c bytes h))

-- ---- lines

lines-cut_by : (bytes rest : List ℕ) → AllByRecursion (λ b. eqb b 10 ≡ false) bytes → lines (bytes ++ 10 ∷ rest) ≡ (bytes ++ 10 ∷ []) ∷ lines rest
lines-cut_by [] rest none = refl
lines-cut_by (b ∷ bytes) rest none = rw none.0 (ap (onto_first b) (lines-cut_by bytes rest none.1))

-- the first line ends at the first line feed
pub lines-cut : (bytes rest : List ℕ) → Lacks 10 bytes → lines (bytes ++ 10 ∷ rest) ≡ ended bytes ∷ lines rest
lines-cut bytes rest none = lines-cut_by bytes rest (recursion_from_All _ bytes none)

lines-last_by : (b : ℕ) (bytes : List ℕ) → AllByRecursion (λ b. eqb b 10 ≡ false) (b ∷ bytes) → lines (b ∷ bytes) ≡ (b ∷ bytes) ∷ []
lines-last_by b [] none = rw none.0 refl
lines-last_by b (c ∷ bytes) none = rw none.0 (ap (onto_first b) (lines-last_by c bytes none.1))

-- a text without a line feed is one line, if it is not empty
pub lines-last : (bytes : List ℕ) → 0 < length bytes → Lacks 10 bytes → lines bytes ≡ bytes ∷ []
lines-last [] some none = absurd (omega arith)
lines-last (b ∷ bytes) some none = lines-last_by b bytes (recursion_from_All _ (b ∷ bytes) none)

concat-onto_first : (b : ℕ) (ls : List (List ℕ)) → concat (onto_first b ls) ≡ b ∷ concat ls
concat-onto_first b [] = refl
concat-onto_first b (l ∷ ls) = refl

concat-lines_cons : (feed : Bool) (b : ℕ) (text : List ℕ) → concat (cond feed ((b ∷ []) ∷ lines text) (onto_first b (lines text))) ≡ b ∷ concat (lines text)
concat-lines_cons true b text = refl
concat-lines_cons false b text = concat-onto_first b (lines text)

-- a text is its lines in a row
pub concat-lines : (text : List ℕ) → concat (lines text) ≡ text
concat-lines [] = refl
concat-lines (b ∷ text) =
    concat-lines_cons (eqb b 10) b text ∙ ap (λ l. b ∷ l) (concat-lines text)

-- a text that is cut behind its first line feed
pub lines-at_feed : (text front rest line others : List ℕ) → text ≡ front ++ 10 ∷ rest → Lacks 10 front → line ≡ take (length front + 1) text → others ≡ drop (length front + 1) text
    → lines text ≡ line ∷ lines others
lines-at_feed text front rest line others split none first second =
    let whole : text ≡ ended front ++ rest = split ∙ sym (append_assoc front (10 ∷ []) rest) in
    let size : length (ended front) ≡ length front + 1 = length-append front (10 ∷ []) in
    let line_is : line ≡ ended front = first ∙ ap (take (length front + 1)) whole ∙ take_at (ended front) rest (length front + 1) size in
    let others_is : others ≡ rest = second ∙ ap (drop (length front + 1)) whole ∙ drop_at (ended front) rest (length front + 1) size in
    ap lines split ∙ lines-cut front rest none ∙ ap (λ l. l ∷ lines rest) (sym line_is) ∙ ap (λ l. line ∷ lines l) (sym others_is)

-- a text without a line feed, taken whole
pub lines-at_end : (text line others : List ℕ) → 0 < length text → Lacks 10 text → line ≡ take (length text) text → others ≡ drop (length text) text → lines text ≡ line ∷ lines others
lines-at_end text line others some none first second =
    lines-last text some none ∙ ap (λ l. l ∷ []) (sym (first ∙ take-length text)) ∙ ap (λ l. line ∷ lines l) (sym (second ∙ drop-length text))
