use Rattle.top_call.proofs.ExpectedLemmas.{without_statements}
use Rattle.top_call.proofs.laws.scripts_without_statements_are_good.Goals as goal

pub returns : goal.returns
returns c = without_statements
