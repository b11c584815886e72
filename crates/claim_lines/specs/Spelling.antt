-- How the lines of a report are spelled: the tokens of each.
use Rattle.std.specs.Prelude.{ℕ, List, [], ◌∷◌, ◌++◌, codes, decimal}
use Rattle.quiver_paths.specs.declared.names.Reference.{Reference}
use Rattle.quiver_paths.specs.declared.names.Suffix.{Suffix}
use Rattle.quiver_paths.specs.declared.names.Suffix.TheVariants as suffix
use Rattle.quiver_paths.specs.declared.Path.{Path}
use Rattle.quiver_paths.specs.declared.Quiver.{Quiver}
use Rattle.path_algebra.specs.declared.Header.{Header}
use Rattle.path_algebra.specs.declared.Term.{Term}
use Rattle.path_algebra.specs.declared.rules.Rule.{Rule}
use Rattle.path_algebra.specs.declared.rules.Step.{Step}
use Rattle.path_algebra.specs.declared.rules.Step.TheVariants as step
use Rattle.header_text.specs.Spelling.{arrow_name, path_text, terms_arguments}
use Rattle.report_types.specs.declared.claims.PartClaim.{PartClaim}
use Rattle.report_types.specs.declared.claims.Translation.{Translation}
use Rattle.report_types.specs.declared.claims.Translation.TheVariants.{Tau, Transpose, Taui}
use Rattle.report_types.specs.declared.reports.Why.{Why}
use Rattle.report_types.specs.declared.reports.Why.TheVariants as why
use Rattle.report_types.specs.declared.reports.End.{End}
use Rattle.report_types.specs.declared.reports.End.TheVariants.{Done, Refused}
use Rattle.claim_lines.specs.declared.heads.Head.{Head}
use Rattle.claim_lines.specs.declared.heads.Head.TheVariants as head

-- tokens, each behind a space
abbrev pub behind_spaces : List (List ℕ) → List ℕ
behind_spaces [] = []
behind_spaces (t ∷ ts) = 32 ∷ (t ++ behind_spaces ts)

abbrev pub title_line : List (List ℕ)
title_line = codes "report" ∷ codes "1" ∷ []

-- ---- the first line of a claim

-- the parts of a decomposition: of each its module, and the claim that it is local
abbrev pub parts_form : List PartClaim → List (List ℕ)
parts_form [] = []
parts_form (p ∷ rest) = decimal p.module ∷ decimal p.local ∷ parts_form rest

abbrev pub translate_form : Translation → (n a c : ℕ) → List (List ℕ)
translate_form Tau n a c = codes "tau" ∷ decimal n ∷ decimal a ∷ codes "using" ∷ decimal c ∷ []
translate_form Transpose n a c = codes "transpose" ∷ decimal n ∷ decimal a ∷ codes "using" ∷ decimal c ∷ []
translate_form (Taui b) n a c = codes "taui" ∷ decimal n ∷ decimal a ∷ decimal b ∷ codes "using" ∷ decimal c ∷ []

-- what the line says behind the claim's number and its line
abbrev pub head_form : Head → List (List ℕ)
head_form head.Basis = codes "basis" ∷ []
head_form (head.Module m) = codes "module" ∷ decimal m ∷ []
head_form (head.Map f) = codes "map" ∷ decimal f ∷ []
head_form (head.Hom a b count) = codes "hom" ∷ decimal a ∷ decimal b ∷ decimal count ∷ []
head_form (head.Kernel n f i) = codes "kernel" ∷ decimal n ∷ decimal f ∷ decimal i ∷ []
head_form (head.Cokernel n f p) = codes "cokernel" ∷ decimal n ∷ decimal f ∷ decimal p ∷ []
head_form (head.Radical n a i) = codes "radical" ∷ decimal n ∷ decimal a ∷ decimal i ∷ []
head_form (head.Resolution a n) = codes "resolution" ∷ decimal a ∷ decimal n ∷ []
head_form (head.Ext n a b count c) = codes "ext" ∷ decimal n ∷ decimal a ∷ decimal b ∷ decimal count ∷ codes "using" ∷ decimal c ∷ []
head_form (head.Local m c) = codes "local" ∷ decimal m ∷ codes "using" ∷ decimal c ∷ []
head_form (head.Decomposition a s f g parts) = codes "decomposition" ∷ decimal a ∷ decimal s ∷ decimal f ∷ decimal g ∷ codes "parts" ∷ parts_form parts
head_form (head.Translate which n a c) = translate_form which n a c
head_form (head.AlmostSplit n e a f g c l) = codes "almostsplit" ∷ decimal n ∷ decimal e ∷ decimal a ∷ decimal f ∷ decimal g ∷ codes "using" ∷ decimal c ∷ decimal l ∷ []

-- the line that opens claim k, which a line of the script asks for
abbrev pub claim_line : ℕ → ℕ → Head → List (List ℕ)
claim_line k line x = codes "claim" ∷ decimal k ∷ codes "line" ∷ decimal line ∷ head_form x

-- ---- the claim of a basis

-- how many words, steps or rules follow: the numeral of their number
abbrev pub words_line : List ℕ → List (List ℕ)
words_line numeral = codes "words" ∷ numeral ∷ []

abbrev pub steps_line : List ℕ → List (List ℕ)
steps_line numeral = codes "steps" ∷ numeral ∷ []

abbrev pub rules_line : List ℕ → List (List ℕ)
rules_line numeral = codes "rules" ∷ numeral ∷ []

abbrev pub word_line : Quiver → Path → List (List ℕ)
word_line Q word = codes "word" ∷ path_text Q word ∷ []

-- a step behind its number
abbrev pub step_form : Quiver → Step → List (List ℕ)
step_form Q (step.Relation r) = codes "relation" ∷ decimal r ∷ []
step_form Q (step.Left a j) = codes "left" ∷ arrow_name Q a ∷ decimal j ∷ []
step_form Q (step.Right j a) = codes "right" ∷ decimal j ∷ arrow_name Q a ∷ []
step_form Q (step.Add j c m) = codes "add" ∷ decimal j ∷ decimal c ∷ decimal m ∷ []

abbrev pub step_line : Quiver → ℕ → Step → List (List ℕ)
step_line Q k s = codes "step" ∷ decimal k ∷ step_form Q s

-- the terms of a tail joined by `+`, and `0` where there is none
abbrev pub tail_form : Quiver → List Term → List (List ℕ)
tail_form Q [] = codes "0" ∷ []
tail_form Q (t ∷ terms) = terms_arguments Q (t ∷ terms)

abbrev pub rule_line : Quiver → Rule → List (List ℕ)
rule_line Q rule = codes "rule" ∷ path_text Q rule.tip ∷ codes "->" ∷ (tail_form Q rule.tail.terms ++ codes "by" ∷ decimal rule.step ∷ [])

-- ---- the last line

-- a name, and behind a dot which of its values is meant
abbrev pub suffix_text : Suffix → List ℕ
suffix_text suffix.Whole = []
suffix_text suffix.Map = codes ".map"
suffix_text suffix.Inv = codes ".inv"
suffix_text (suffix.Part k) = 46 ∷ decimal k

abbrev pub reference_text : Reference → List ℕ
reference_text r = r.name ++ suffix_text r.suffix

abbrev pub why_form : Header → Why → List (List ℕ)
why_form h why.NotBuilt = codes "NotBuilt" ∷ []
why_form h (why.UnknownName token) = codes "UnknownName" ∷ reference_text token ∷ []
why_form h (why.NameTaken name) = codes "NameTaken" ∷ name ∷ []
why_form h why.Side = codes "Side" ∷ []
why_form h why.Shape = codes "Shape" ∷ []
why_form h (why.RelationFails relation) = codes "RelationFails" ∷ decimal relation ∷ []
why_form h (why.BoundFails path) = codes "BoundFails" ∷ path_text h.quiver path ∷ []
why_form h (why.NotHom arrow) = codes "NotHom" ∷ arrow_name h.quiver arrow ∷ []
why_form h (why.PathLimit count) = codes "PathLimit" ∷ decimal count ∷ []
why_form h (why.DimLimit dim) = codes "DimLimit" ∷ decimal dim ∷ []
why_form h (why.HomLimit unknowns) = codes "HomLimit" ∷ decimal unknowns ∷ []
why_form h (why.TermLimit step dim) = codes "TermLimit" ∷ decimal step ∷ decimal dim ∷ []
why_form h (why.DualLimit step dim) = codes "DualLimit" ∷ decimal step ∷ decimal dim ∷ []
why_form h why.Zero = codes "Zero" ∷ []
why_form h why.Decomposable = codes "Decomposable" ∷ []
why_form h why.Projective = codes "Projective" ∷ []

-- the last line of a report with so many claims
abbrev pub end_line : Header → ℕ → End → List (List ℕ)
end_line h claims Done = codes "end" ∷ decimal claims ∷ []
end_line h claims (Refused line w) = codes "refused" ∷ decimal line ∷ why_form h w
