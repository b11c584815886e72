-- Steps of reading a script.
use Rattle.std.proofs.Common.{◌≡◌, ℕ, List, [], ◌∷◌, Bool, true, false, Some, None, Ok, Err, sym, ap, ◌∙◌, subst}
use Rattle.std.specs.Prelude.{IfOk, MatchBool}
use Rattle.std.specs.declared.result.Result.{Result}
use Rattle.script_lang.specs.Determined.{same_some, differs_none}
use Rattle.text_lines.specs.Script.{script_tokens}
use Rattle.script_lang.specs.declared.line.Line.{Line}
use Rattle.script_lang.specs.declared.part.Part.{Part}
use Rattle.script_lang.specs.Lines.{line_in}
use Rattle.script_lang.specs.Parts.{MayFollow, after}
use Rattle.script_lang.specs.Scripts.{counted, TokenStep, Step}

pub step_skipped : (p : Part) (ws : List (List ℕ)) (next : Part) → ws ≡ [] → next ≡ counted p → TokenStep p ws next
step_skipped p ws next none same = subst (λ ts. TokenStep p ts next) (sym none) same

pub no_line : (p : Part) (w : List ℕ) (args ws : List (List ℕ)) → ws ≡ w ∷ args → None ≡ line_in p.header w args → (next : Part) → TokenStep p ws next → ⊥
no_line p w args ws is none next step =
    let s = subst (λ ts. TokenStep p ts next) is step in differs_none s.line (none ∙ s.reads)

step_cases : (p : Part) (w : List ℕ) (args ws : List (List ℕ)) (line : Line) (q : Part) (b : Bool) → ws ≡ w ∷ args → Some line ≡ line_in p.header w args
    → MatchBool b (MayFollow (counted p) line × (q ≡ after (counted p) line)) (MayFollow (counted p) line → ⊥)
    → MatchBool b (TokenStep p ws q) ((next : Part) → TokenStep p ws next → ⊥)
step_cases p w args ws line q true is reads h =
    subst (λ ts. TokenStep p ts q) (sym is) (record { line = line; reads = sym reads; follows = h.0; leads = h.1 })
step_cases p w args ws line q false is reads h = λ next step.
    let s = subst (λ ts. TokenStep p ts next) is step in
    h (subst (MayFollow (counted p)) (sym (same_some line s.line (reads ∙ s.reads))) s.follows)

-- what was taken of the line decides what is taken of its tokens
pub step_taken : {E : Type 0} (p : Part) (w : List ℕ) (args ws : List (List ℕ)) (line : Line) (q : Part) (r : Result Bool E) → ws ≡ w ∷ args → Some line ≡ line_in p.header w args
    → IfOk r (λ b. MatchBool b (MayFollow (counted p) line × (q ≡ after (counted p) line)) (MayFollow (counted p) line → ⊥))
    → IfOk r (λ b. MatchBool b (TokenStep p ws q) ((next : Part) → TokenStep p ws next → ⊥))
step_taken p w args ws line q (Ok b) is reads h = step_cases p w args ws line q b is reads h
step_taken p w args ws line q (Err e) is reads h = h

-- the same, from the part with this line counted
pub step_counted : {E : Type 0} (p counts : Part) (w : List ℕ) (args ws : List (List ℕ)) (line : Line) (q : Part) (r : Result Bool E) → counts ≡ counted p → ws ≡ w ∷ args → Some line ≡ line_in counts.header w args
    → IfOk r (λ b. MatchBool b (MayFollow counts line × (q ≡ after counts line)) (MayFollow counts line → ⊥))
    → IfOk r (λ b. MatchBool b (TokenStep p ws q) ((next : Part) → TokenStep p ws next → ⊥))
step_counted p counts w args ws line q r same is reads h =
    step_taken p w args ws line q r is (reads ∙ ap (λ (c : Part). line_in c.header w args) same)
    (subst (λ (c : Part). IfOk r (λ b. MatchBool b (MayFollow c line × (q ≡ after c line)) (MayFollow c line → ⊥))) same h)

pub no_line_counted : (p counts : Part) (w : List ℕ) (args ws : List (List ℕ)) → counts ≡ counted p → ws ≡ w ∷ args → None ≡ line_in counts.header w args → (next : Part) → TokenStep p ws next → ⊥
no_line_counted p counts w args ws same is reads = no_line p w args ws is (reads ∙ ap (λ (c : Part). line_in c.header w args) same)

line_cases : (p : Part) (line : List ℕ) (ts : List (List ℕ)) (q : Part) (b : Bool) → script_tokens line ≡ Some ts
    → MatchBool b (TokenStep p ts q) ((next : Part) → TokenStep p ts next → ⊥) → MatchBool b (Step p line q) ((next : Part) → Step p line next → ⊥)
line_cases p line ts q true lexed h = record { tokens = ts; lexed = lexed; step = h }
line_cases p line ts q false lexed h = λ next s. h next (subst (λ us. TokenStep p us next) (same_some s.tokens ts (sym s.lexed ∙ lexed)) s.step)

pub line_taken : {E : Type 0} (p : Part) (line : List ℕ) (ts : List (List ℕ)) (q : Part) (r : Result Bool E) → Some ts ≡ script_tokens line
    → IfOk r (λ b. MatchBool b (TokenStep p ts q) ((next : Part) → TokenStep p ts next → ⊥))
    → IfOk r (λ b. MatchBool b (Step p line q) ((next : Part) → Step p line next → ⊥))
line_taken p line ts q (Ok b) lexed h = line_cases p line ts q b (sym lexed) h
line_taken p line ts q (Err e) lexed h = h

pub no_tokens : (p : Part) (line : List ℕ) → None ≡ script_tokens line → (next : Part) → Step p line next → ⊥
no_tokens p line none next s = differs_none s.tokens (none ∙ s.lexed)
