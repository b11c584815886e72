-- Laws of lines in the strict form.
use Rattle.std.proofs.Common.{◌≡◌, ◌≢◌, ℕ, ◌+◌, ◌-◌, ◌<◌, List, [], ◌∷◌, ◌++◌, length, take, get_or, Bool, cond, true, false, eqb, eqb-true, Some, None, refl, sym, ap, ◌∙◌, All, arith}
use Rattle.std.proofs.lemmas.List.{length-append, take_at, get_or_at, take_more}
use Rattle.std.proofs.Math.Seq.{take-length}
use Rattle.std.proofs.lemmas.List.Splits.{join_with_byte-slice_split}
use Rattle.text_lines.specs.Parts.{tokens, spaced, Lacks}
use Rattle.text_lines.specs.Lines.{ended}
use Rattle.text_lines.specs.Strict.{strict_line, strict_tokens}
use Rattle.text_lines.proofs.Cutting.{parts-joined_all}

chosen : (last : ℕ) (front bytes : List ℕ) → last ≡ 10 → front ≡ bytes → cond (eqb last 10) (Some (tokens front)) None ≡ Some (tokens bytes)
chosen last front bytes feed same = ap (λ b. cond (eqb b 10) (Some (tokens front)) None) feed ∙ ap (λ l. Some (tokens l)) same

-- an ended line has its tokens
pub strict_tokens-ended : (bytes : List ℕ) → strict_tokens (ended bytes) ≡ Some (tokens bytes)
strict_tokens-ended bytes =
    let size : length (ended bytes) - 1 ≡ length bytes = omega (arith, length-append bytes (10 ∷ [])) in
    chosen (get_or (ended bytes) (length (ended bytes) - 1) 0) (take (length (ended bytes) - 1) (ended bytes)) bytes
    (get_or_at bytes 10 [] 0 (length (ended bytes) - 1) (sym size)) (take_at bytes (10 ∷ []) (length (ended bytes) - 1) (sym size))

from_chosen : (feed : Bool) (found pieces : List (List ℕ)) → cond feed (Some found) None ≡ Some pieces → (feed ≡ true) × (found ≡ pieces)
from_chosen true found pieces same = (refl, cc)
from_chosen false found pieces same = cc

-- a list is all but its last, and its last
front_and_last : (line : List ℕ) → 0 < length line → line ≡ take (length line - 1) line ++ get_or line (length line - 1) 0 ∷ []
front_and_last line some =
    let up : length line - 1 + 1 ≡ length line = omega arith in
    sym (take-length line) ∙ ap (λ n. take n line) (sym up) ∙ take_more line (length line - 1) 0 (omega arith)

some_from_feed : (line : List ℕ) → get_or line (length line - 1) 0 ≡ 10 → 0 < length line
some_from_feed [] feed = absurd (omega (arith, feed))
some_from_feed (b ∷ line) feed = omega arith

-- a line that has tokens is the strict line of them
pub strict_line-of_tokens : (line : List ℕ) (pieces : List (List ℕ)) → strict_tokens line ≡ Some pieces → line ≡ strict_line pieces
strict_line-of_tokens line pieces lex =
    let front = take (length line - 1) line in
    let found = from_chosen (eqb (get_or line (length line - 1) 0) 10) (tokens front) pieces lex in
    let feed : get_or line (length line - 1) 0 ≡ 10 = eqb-true (get_or line (length line - 1) 0) 10 found.0 in
    let joined : front ≡ spaced pieces = sym (join_with_byte-slice_split 32 front) ∙ ap spaced found.1 in
    front_and_last line (some_from_feed line feed) ∙ ap (λ b. front ++ b ∷ []) feed ∙ ap (λ l. l ++ 10 ∷ []) joined

-- tokens without spaces, at least one, are those of their strict line
pub strict_tokens-strict_line : (pieces : List (List ℕ)) → pieces ≢ [] → All (Lacks 32) pieces → strict_tokens (strict_line pieces) ≡ Some pieces
strict_tokens-strict_line pieces some each = strict_tokens-ended (spaced pieces) ∙ ap Some (parts-joined_all 32 pieces some each)
