use Rattle.script_answers.proofs.Fronts.{fronts_begin}
use Rattle.script_answers.proofs.laws.fronts_begin.Goals as goal

pub returns : goal.returns
returns c = fronts_begin
