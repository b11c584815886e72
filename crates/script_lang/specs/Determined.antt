-- A line leads a part to one part.
use Rattle.std.specs.Prelude.{◌≡◌, ℕ, List, [], ◌∷◌, Some, None}
use Rattle.std.proofs.Common.{sym, ap, ◌∙◌, subst}
use Rattle.text_lines.specs.Reading.{IsDetermined}
use Rattle.script_lang.specs.declared.part.Part.{Part}
use Rattle.script_lang.specs.Parts.{after}
use Rattle.script_lang.specs.Scripts.{counted, TokenStep, Step}

pub same_some : {A : Type 0} (x y : A) → Some x ≡ Some y → x ≡ y
same_some x y same = cc

pub differs_none : {A : Type 0} (x : A) → None ≡ Some x → ⊥
differs_none x same = cc

tokens-determined : (p : Part) (ts : List (List ℕ)) (q r : Part) → TokenStep p ts q → TokenStep p ts r → q ≡ r
tokens-determined p [] q r a b = a ∙ sym b
tokens-determined p (w ∷ args) q r a b =
    a.leads ∙ ap (after (counted p)) (same_some a.line b.line (sym a.reads ∙ b.reads)) ∙ sym b.leads

-- a line leads to one part
pub Step-determined : IsDetermined Step
Step-determined p line q r a b =
    tokens-determined p b.tokens q r (subst (λ ts. TokenStep p ts q) (same_some a.tokens b.tokens (sym a.lexed ∙ b.lexed)) a.step) b.step
