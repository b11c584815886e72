use Rattle.std.proofs.Common.{sym}
use Rattle.quiver_paths.proofs.NamesLemmas.{place_found, absent_from_none}
use Rattle.quiver_paths.proofs.names.Names.place.Goals as goal

pub returns-clause-found : goal.returns-clause-found
returns-clause-found c = rw (← c.self.view_is) (place_found c.self.inside.set.keys c.args.name.now c.in_ok-i.i (sym c.in_ok-i.ensures.index))

pub returns-in_err-i-clause-none : goal.returns-in_err-i-clause-none
returns-in_err-i-clause-none c =
    let absent = rw c.self.view_is at (absent_from_none c.self.inside.set.keys c.args.name.now c.get_index_of.result c.in_err-i.was c.get_index_of.ensures.found) in
    rw c.from_residual.ensures absent
