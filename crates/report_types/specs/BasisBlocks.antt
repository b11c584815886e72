-- The words, steps and rules of a basis claim, as the format has them.
use Rattle.std.specs.Prelude.{ℕ, ◌≢◌, ◌<◌, ◌≤◌, ◌^◌, List, length, All, AllPairs}
use Rattle.quiver_paths.specs.declared.Path.{Path}
use Rattle.quiver_paths.specs.Path.{IsPath, path_length}
use Rattle.path_algebra.specs.declared.Header.{Header}
use Rattle.path_algebra.specs.declared.rules.Rule.{Rule}
use Rattle.path_algebra.specs.declared.rules.Step.{Step}
use Rattle.path_algebra.specs.Words.{IsShortPath}
use Rattle.path_algebra.specs.Rules.{AreElementTerms}
use Rattle.path_algebra.specs.Derivations.{IsNumber, AreSteps}
use Rattle.path_algebra.specs.BasisClauses.{HasFactor}
use Rattle.report_types.specs.Limits.{path_limit, length_limit}

-- words: distinct paths shorter than the bound
pub record AreWords (h : Header) (words : List Path) : Type 0 where
  pub few : length words ≤ path_limit
  pub short : All (IsShortPath h) words
  pub different : AllPairs (λ (v w : Path). v ≢ w) words

-- Steps name earlier steps, written relations and arrows of the quiver, with factors from 1 to q − 1. Their numbers are below 2^32.
pub record AreWrittenSteps (h : Header) (steps : List Step) : Type 0 where
  pub few : length steps < 2 ^ 32
  pub named : AreSteps h steps
  pub factors : All (HasFactor h) steps

-- A rule behind so many steps: its paths are paths of the quiver of length at most 64, those of the tail shorter than the bound and descending, and it names
-- one of the steps. The tip may be trivial, and the tail need not be parallel to it.
pub record IsWrittenRule (h : Header) (steps : ℕ) (rule : Rule) : Type 0 where
  pub tip : IsPath h.quiver rule.tip
  pub tip_limit : path_length rule.tip ≤ length_limit
  pub tail : AreElementTerms h rule.tail.terms
  pub named : IsNumber steps rule.step

pub record AreWrittenRules (h : Header) (steps : ℕ) (rules : List Rule) : Type 0 where
  pub few : length rules < 2 ^ 32
  pub each : All (IsWrittenRule h steps) rules

pub record IsBasisBlock (h : Header) (words : List Path) (steps : List Step) (rules : List Rule) : Type 0 where
  pub are_words : AreWords h words
  pub are_steps : AreWrittenSteps h steps
  pub are_rules : AreWrittenRules h (length steps) rules
