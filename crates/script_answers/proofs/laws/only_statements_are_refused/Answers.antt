use Rattle.script_answers.proofs.Fronts.{statement_refused, ends_done, few_paths}
use Rattle.script_answers.proofs.laws.only_statements_are_refused.Goals as goal

pub returns-clause-statement : goal.returns-clause-statement
returns-clause-statement c = statement_refused

pub returns-clause-done : goal.returns-clause-done
returns-clause-done c = ends_done

pub returns-clause-few : goal.returns-clause-few
returns-clause-few c = few_paths
