use Rattle.std.proofs.Common.{◌<◌, ◌-◌, ◌^◌, length, nat_eq, refl}
use Rattle.std.specs.List.{list_any}
use Rattle.std.specs.Cmp.Lexicographic.{pointwise}
use Rattle.quiver_paths.proofs.NamesLemmas.{added_absent, still_names}
use Rattle.quiver_paths.proofs.names.Names.add.Goals as goal

pub returns-clause-added : goal.returns-clause-added
returns-clause-added c =
    rw (← c.self.view_is) (added_absent c.self.inside.set.keys c.args.name c.in_ok-insert.field-0 c.in_ok-insert.ensures.added)

pub invariant_of-self-2 : goal.invariant_of-self-2
invariant_of-self-2 c =
    let few : length c.self.inside.set.keys < 2 ^ 32 - 1 = rw c.self.view_is c.requires in
    still_names c.self.inside.set.keys c.insert.new.self.keys c.args.name (list_any (pointwise nat_eq c.args.name) c.self.inside.set.keys) refl few c.self.invariant.1 c.in_ok-insert.ensures.keys
