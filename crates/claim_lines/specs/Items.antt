-- What the lines of a report say, and when a line may say it.
use Rattle.std.specs.Prelude.{ℕ, zero, suc, ⊤, ◌≢◌, ◌<◌, ◌≤◌, ◌+◌, ◌^◌, List, All, min}
use Rattle.std.specs.Str.Parse.{digits_value}
use Rattle.quiver_paths.specs.declared.Path.{Path}
use Rattle.path_algebra.specs.declared.Header.{Header}
use Rattle.path_algebra.specs.declared.rules.Rule.{Rule}
use Rattle.path_algebra.specs.declared.rules.Step.{Step}
use Rattle.path_algebra.specs.Words.{IsShortPath}
use Rattle.path_algebra.specs.Derivations.{IsNumber, NamesEarlier}
use Rattle.path_algebra.specs.BasisClauses.{HasFactor}
use Rattle.text_lines.specs.Numerals.{IsNumeral}
use Rattle.report_types.specs.declared.claims.PartClaim.{PartClaim}
use Rattle.report_types.specs.declared.claims.Translation.{Translation}
use Rattle.report_types.specs.declared.claims.Translation.TheVariants.{Tau, Transpose, Taui}
use Rattle.report_types.specs.declared.reports.End.{End}
use Rattle.report_types.specs.Limits.{IsLine, unknown_limit, resolution_limit}
use Rattle.report_types.specs.BasisBlocks.{IsWrittenRule}
use Rattle.report_types.specs.Ends.{IsFullEnd, IsEmptyEnd}
use Rattle.claim_lines.specs.declared.heads.Counts.{Counts}
use Rattle.claim_lines.specs.declared.heads.Head.{Head}
use Rattle.claim_lines.specs.declared.heads.Head.TheVariants as head

-- a numeral, of a number of any size
pub record IsCount (numeral : List ℕ) : Type 0 where
  pub value : ℕ
  pub numeral_is : IsNumeral numeral value

-- the number that a numeral writes; 2^32 stands for every larger one, since no report has so many lines of one kind
abbrev pub counted : List ℕ → ℕ
counted numeral = min (digits_value 10 numeral) (2 ^ 32)

-- a part of a decomposition: a module, and an earlier claim
pub record ArePartNumbers (earlier modules : ℕ) (p : PartClaim) : Type 0 where
  pub is_module : IsNumber modules p.module
  pub named : IsNumber earlier p.local

-- the dual that an inverse translate names
abbrev pub AreTranslateNumbers : ℕ → Translation → Type 0
AreTranslateNumbers modules Tau = ⊤
AreTranslateNumbers modules Transpose = ⊤
AreTranslateNumbers modules (Taui b) = IsNumber modules b

-- the numbers on the first line of a claim, behind so many claims and with so many modules and maps in the report up to this one: those of modules, maps and
-- earlier claims, the length of a resolution and the degree of extensions, whose resolution is longer by one, and how many rows follow
abbrev pub AreNumbers : (earlier modules maps : ℕ) → Head → Type 0
AreNumbers earlier modules maps head.Basis = ⊤
AreNumbers earlier modules maps (head.Module m) = IsNumber modules m
AreNumbers earlier modules maps (head.Map f) = IsNumber maps f
AreNumbers earlier modules maps (head.Hom a b count) = IsNumber modules a × IsNumber modules b × (count ≤ unknown_limit)
AreNumbers earlier modules maps (head.Kernel n f i) = IsNumber modules n × IsNumber maps f × IsNumber maps i
AreNumbers earlier modules maps (head.Cokernel n f p) = IsNumber modules n × IsNumber maps f × IsNumber maps p
AreNumbers earlier modules maps (head.Radical n a i) = IsNumber modules n × IsNumber modules a × IsNumber maps i
AreNumbers earlier modules maps (head.Resolution a n) = IsNumber modules a × (n ≤ resolution_limit)
AreNumbers earlier modules maps (head.Ext n a b count c) = (n < resolution_limit) × IsNumber modules a × IsNumber modules b × (count ≤ unknown_limit) × IsNumber earlier c
AreNumbers earlier modules maps (head.Local m c) = IsNumber modules m × IsNumber earlier c
AreNumbers earlier modules maps (head.Decomposition a s f g parts) =
    IsNumber modules a × IsNumber modules s × IsNumber maps f × IsNumber maps g × All (ArePartNumbers earlier modules) parts
AreNumbers earlier modules maps (head.Translate which n a c) = AreTranslateNumbers modules which × IsNumber modules n × IsNumber modules a × IsNumber earlier c
AreNumbers earlier modules maps (head.AlmostSplit n e a f g c l) =
    IsNumber modules n × IsNumber modules e × IsNumber modules a × IsNumber maps f × IsNumber maps g × IsNumber earlier c × IsNumber earlier l

-- the first line of a claim, behind so many
pub record FitsClaim (earlier : ℕ) (counts : Counts) (x : ℕ × Head) : Type 0 where
  pub room : earlier + 1 < 2 ^ 32
  pub is_line : IsLine x.0
  pub numbers : AreNumbers earlier counts.modules counts.maps x.1

-- the last line behind so many claims
abbrev pub FitsEnd : Header → ℕ → End → Type 0
FitsEnd h zero e = IsEmptyEnd e
FitsEnd h (suc k) e = IsFullEnd h e

-- one word more
pub record FitsWord (h : Header) (words : List Path) (word : Path) : Type 0 where
  pub short : IsShortPath h word
  pub new : All (λ (other : Path). other ≢ word) words

-- one step more, behind so many
pub record FitsStep (h : Header) (earlier : ℕ) (s : Step) : Type 0 where
  pub room : earlier + 1 < 2 ^ 32
  pub named : NamesEarlier h earlier s
  pub factor : HasFactor h s

-- one rule more, behind so many and behind so many steps (of which there always are fewer than 2^32)
pub record FitsRule (h : Header) (steps earlier : ℕ) (rule : Rule) : Type 0 where
  pub few : steps < 2 ^ 32
  pub room : earlier + 1 < 2 ^ 32
  pub written : IsWrittenRule h steps rule
