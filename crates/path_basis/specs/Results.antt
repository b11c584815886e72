-- What is answered: the reduced rules of an ideal with their steps, and the table over the normal words.
use Rattle.std.specs.Prelude.{◌≡◌, ◌<◌, ◌≤◌, ◌^◌, length}
use Rattle.path_algebra.specs.declared.Header.{Header}
use Rattle.path_algebra.specs.Rules.{AreReducedRules}
use Rattle.path_algebra.specs.BasisClauses.{IsBasisClaim, MeetsClauses}
use Rattle.path_basis.specs.declared.basis.Reduced.{Reduced}
use Rattle.path_basis.specs.Used.{HasNoUnusedStep}

-- the words, steps and rules meet the conditions on a basis, no step is unused, and there are not too many
pub record IsResult (h : Header) (r : Reduced) : Type 0 where
  pub header : r.table.header ≡ h
  pub rules : AreReducedRules h r.rules
  pub claim : IsBasisClaim h r.table.words r.steps r.rules
  pub holds : MeetsClauses h r.table.words r.steps r.rules
  pub used : HasNoUnusedStep r.steps r.rules
  pub few_steps : length r.steps < 2 ^ 32
  pub few_rules : length r.rules ≤ 4096
