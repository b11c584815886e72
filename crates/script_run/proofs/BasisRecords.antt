-- The record of a basis, from what the reduced rules are known to be.
use Rattle.std.proofs.Common.{◌≡◌, ◌≢◌, ◌<◌, ◌≤◌, ◌^◌, List, [], ◌∷◌, length, refl, sym, subst, arith}
use Rattle.std.specs.Prelude.{Contains, AllPairs, slice_index_or}
use Rattle.std.proofs.lemmas.List.Elements.{All-nil, All-contains, All-contains_itself, All-weaker}
use Rattle.quiver_paths.specs.declared.Path.{Path}
use Rattle.quiver_paths.specs.Path.{IsPath}
use Rattle.quiver_paths.specs.PathOrder.{IsSmaller}
use Rattle.quiver_paths.specs.PathList.{path_count}
use Rattle.quiver_paths.proofs.PathOrderLemmas.{IsSmaller-irreflexive}
use Rattle.path_algebra.specs.declared.Header.{Header}
use Rattle.path_algebra.specs.declared.rules.Rule.{Rule}
use Rattle.path_algebra.specs.declared.rules.Step.{Step}
use Rattle.path_algebra.specs.Allowed.{IsAllowed}
use Rattle.path_algebra.specs.Words.{IsShortPath}
use Rattle.path_algebra.specs.Rules.{AreElementTerms}
use Rattle.path_algebra.specs.Derivations.{IsNumber}
use Rattle.path_algebra.specs.BasisClauses.{IsBasisClaim, MeetsClauses, RuleHolds}
use Rattle.script_types.specs.declared.Script.{Script}
use Rattle.script_types.specs.Lawful.{IsLawful}
use Rattle.report_types.specs.declared.claims.Claim.TheVariants.{Basis}
use Rattle.report_types.specs.declared.claims.Record.{Record}
use Rattle.report_types.specs.BasisBlocks.{AreWords, IsWrittenRule, IsBasisBlock}
use Rattle.report_types.specs.Lawful.{IsModuleBlock, IsMapBlock}
use Rattle.script_run.specs.Records.{IsRightRecord}

module _ (h : Header) (words : List Path) (steps : List Step) (rules : List Rule) (ok : IsAllowed h) (claim : IsBasisClaim h words steps rules) (meets : MeetsClauses h words steps rules)
    (few_steps : length steps < 2 ^ 32) (few_rules : length rules ≤ 4096) where
  words_differ : AllPairs (λ (v w : Path). v ≢ w) words
  words_differ i j d before inside = λ same.
      IsSmaller-irreflexive (slice_index_or words j d) (subst (λ v. IsSmaller v (slice_index_or words j d)) same (meets.word.ascending i j d before inside))

  written_words : AreWords h words
  written_words = record {
    few = claim.few;
    short = All-weaker (Contains words) (IsShortPath h) (λ p m. (meets.word.only p m).0) words (All-contains_itself words);
    different = words_differ;
  }

  written_rule : (rule : Rule) → Contains rules rule → IsWrittenRule h (length steps) rule
  written_rule rule m =
      let holds : RuleHolds h steps rule = All-contains (RuleHolds h steps) rules rule meets.rule m in
      let short = holds.short in
      let bound = ok.bound_to in
      record {
        tip = All-contains (λ (r : Rule). IsPath h.quiver r.tip) rules rule claim.tips m;
        tip_limit = omega arith;
        tail = All-contains (λ (r : Rule). AreElementTerms h r.tail.terms) rules rule claim.tails m;
        named = All-contains (λ (r : Rule). IsNumber (length steps) r.step) rules rule meets.step.derived m;
      }

  pub written_block : IsBasisBlock h words steps rules
  written_block = record {
    are_words = written_words;
    are_steps = record { few = few_steps; named = meets.step.named; factors = claim.factors };
    are_rules = record { few = omega arith; each = All-weaker (Contains rules) (IsWrittenRule h (length steps)) written_rule rules (All-contains_itself rules) };
  }

pub right_record : (script : Script) (words : List Path) (steps : List Step) (rules : List Rule) → IsLawful script → path_count script.header.quiver script.header.bound ≤ 4096
    → IsBasisClaim script.header words steps rules → MeetsClauses script.header words steps rules → length steps < 2 ^ 32 → length rules ≤ 4096
    → IsRightRecord script (record { line = script.basis_line; modules = []; maps = []; claim = Basis words steps rules })
right_record script words steps rules lawful few claim meets few_steps few_rules =
    let from = lawful.order.bound in
    let later = lawful.order.basis in
    let r : Record = record { line = script.basis_line; modules = []; maps = []; claim = Basis words steps rules } in
    record {
      answers = record { few = few; line = refl; prints = record { modules = refl; maps = refl }; claims = tt };
      lawful = record {
        line = record { from = omega arith; to = lawful.order.basis_limit };
        modules = All-nil (IsModuleBlock script.header);
        maps = All-nil (IsMapBlock script.header (r ∷ []));
        place = (refl, refl, refl);
        claim = written_block script.header words steps rules lawful.header claim meets few_steps few_rules;
      };
      conditions = λ n. (meets.step, (meets.rule, (meets.reduced, (meets.word, (meets.action, tt)))));
    }

-- the same of each record that is made of these parts
pub right_record_of : (script : Script) (r : Record) (words : List Path) (steps : List Step) (rules : List Rule) → IsLawful script
    → path_count script.header.quiver script.header.bound ≤ 4096 → IsBasisClaim script.header words steps rules → MeetsClauses script.header words steps rules
    → length steps < 2 ^ 32 → length rules ≤ 4096 → r.line ≡ script.basis_line → r.modules ≡ [] → r.maps ≡ [] → r.claim ≡ Basis words steps rules → IsRightRecord script r
right_record_of script r words steps rules lawful few claim meets few_steps few_rules line modules maps claimed =
    let same : r ≡ record { line = script.basis_line; modules = []; maps = []; claim = Basis words steps rules } =
    λ i. record { line = line i; modules = modules i; maps = maps i; claim = claimed i } in
    subst (IsRightRecord script) (sym same) (right_record script words steps rules lawful few claim meets few_steps few_rules)
