use Rattle.top_call.proofs.ExpectedLemmas.{accepted}
use Rattle.top_call.proofs.laws.written_reports_are_accepted.Goals as goal

pub returns : goal.returns
returns c = accepted
