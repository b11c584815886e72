use Rattle.std.proofs.Common.{◌∙◌}
use Rattle.hom_space.proofs.HomCounts.{number_of_unknowns}
use Rattle.hom_space.proofs.counting.unknowns_between.Goals as goal

pub returns-clause-unknowns : goal.returns-clause-unknowns
returns-clause-unknowns c = λ h m. rw (c.dims.ensures, c.dims-2.ensures) at c.products_summed.ensures ∙ number_of_unknowns h c.args.a.now c.args.b.now m
