-- Laws of scripts as texts.
use Rattle.std.proofs.Common.{◌≡◌, ℕ, List, [], ◌∷◌, Some, None, ◌⊎◌, inl, inr, refl, sym, ap, ◌∙◌, subst}
use Rattle.text_lines.specs.Lines.{lines}
use Rattle.text_lines.proofs.Readings.{reads_one, whole_not_bad, one_bad, Goes, ReadOrBad, no_lines_read_or_bad, lines_read_or_bad}
use Rattle.script_types.specs.declared.Script.{Script}
use Rattle.script_lang.specs.declared.part.Part.{Part}
use Rattle.std.specs.declared.option.Option.{Option}
use Rattle.text_lines.specs.Script.{script_tokens}
use Rattle.script_lang.specs.declared.line.Line.{Line}
use Rattle.script_lang.specs.Lines.{line_in}
use Rattle.script_lang.specs.Parts.{MayFollow, after}
use Rattle.script_lang.specs.Scripts.{counted, LineStep, TokenStep, Step, MayEnd, start, script_of, IsScript, IsBadLine}
use Rattle.script_lang.specs.Determined.{same_some, differs_none, Step-determined}
use Rattle.script_lang.proofs.Decided.{at_body, may_follow_decided}

pub one_script : (text : List ℕ) (s t : Script) → IsScript text s → IsScript text t → s ≡ t
one_script text s t a b = a.says ∙ ap script_of (reads_one Step Step-determined start a.last b.last (lines text) a.reads.reads b.reads.reads) ∙ sym b.says

pub one_bad_line : (text : List ℕ) (j k : ℕ) → IsBadLine text j → IsBadLine text k → j ≡ k
one_bad_line text j k a b = one_bad Step MayEnd Step-determined start (lines text) j k a b

pub script_not_bad : (text : List ℕ) (s : Script) (k : ℕ) → IsScript text s → IsBadLine text k → ⊥
script_not_bad text s k is bad = whole_not_bad Step MayEnd Step-determined start is.last (lines text) k is.reads bad

args_go : (p : Part) (word : List ℕ) (args : List (List ℕ)) (r : Option Line) → line_in p.header word args ≡ r → Goes (LineStep p word args)
args_go p word args None is = inr (λ q s. differs_none s.line (sym is ∙ s.reads))
args_go p word args (Some l) is =
    elim (may_follow_decided (counted p) l) [
      | inl follows ↦ inl (after (counted p) l, record { line = l; reads = is; follows = follows; leads = refl })
      | inr stuck ↦ inr (λ q s. stuck (subst (MayFollow (counted p)) (same_some s.line l (sym s.reads ∙ is)) s.follows))
    ]

tokens_go : (p : Part) (ts : List (List ℕ)) → Goes (TokenStep p ts)
tokens_go p [] = inl (counted p, refl)
tokens_go p (word ∷ args) = args_go p word args (line_in p.header word args) refl

line_goes : (p : Part) (l : List ℕ) (r : Option (List (List ℕ))) → script_tokens l ≡ r → Goes (Step p l)
line_goes p l None is = inr (λ q s. differs_none s.tokens (sym is ∙ s.lexed))
line_goes p l (Some ts) is =
    elim (tokens_go p ts) [
      | inl go ↦ inl (go.0, record { tokens = ts; lexed = is; step = go.1 })
      | inr stuck ↦ inr (λ q s. stuck q (subst (λ us. TokenStep p us q) (same_some s.tokens ts (sym s.lexed ∙ is)) s.step))
    ]

read_or_bad : (p : Part) (ls : List (List ℕ)) → ReadOrBad Step MayEnd p ls
read_or_bad p [] = no_lines_read_or_bad Step MayEnd p (at_body p.place)
read_or_bad p (l ∷ ls) = lines_read_or_bad Step MayEnd p l ls (line_goes p l (script_tokens l) refl) (λ q step. read_or_bad q ls)

pub text_read_or_bad : (text : List ℕ) → ((s : Script) × IsScript text s) ⊎ ((k : ℕ) × IsBadLine text k)
text_read_or_bad text =
    elim (read_or_bad start (lines text)) [
      | inl whole ↦ inl (script_of whole.0, record { last = whole.0; reads = whole.1; says = refl })
      | inr bad ↦ inr bad
    ]
