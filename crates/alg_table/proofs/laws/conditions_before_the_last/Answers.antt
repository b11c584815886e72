use Rattle.alg_table.proofs.CanActFrom.{can_act}
use Rattle.alg_table.proofs.laws.conditions_before_the_last.Goals as goal

pub returns : goal.returns
returns c h words steps rules ok claim s r d w = can_act h words steps rules ok claim s r d w
