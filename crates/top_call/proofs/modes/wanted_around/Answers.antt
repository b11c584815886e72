use Rattle.top_call.proofs.WordLemmas.{before_name, neither}
use Rattle.top_call.proofs.modes.wanted_around.Goals as goal

pub returns : goal.returns
returns c = before_name c.args.first.now c.args.second.now c.args.third.now c.in-Some-wanted_of.found c.in-Some-wanted_of.ensures

pub returns-in_default-wanted_of : goal.returns-in_default-wanted_of
returns-in_default-wanted_of c = neither c.args.first.now c.args.second.now c.args.third.now c.in_default.ensures c.in_default-wanted_of.ensures
