use Rattle.std.proofs.Common.{◌∙◌, refl, sym, arith, length-set}
use Rattle.module_types.specs.Readings.{read}
use Rattle.module_checks.proofs.Walks.{term_added}
use Rattle.module_checks.proofs.RelationRows.{arrows_below}
use Rattle.module_checks.proofs.relations.add_term.Goals as goal

pub walk_row-requires-clause-arrows : goal.walk_row-requires-clause-arrows
walk_row-requires-clause-arrows c = let p = c.args.term.now.path in arrows_below c.args.header.now.quiver p.start p.arrows p.end c.requires.term.path.leads

pub returns-clause-added : goal.returns-clause-added
returns-clause-added c =
    term_added (read c.args.header.now c.args.m.now) c.args.m.now.side c.args.term.now c.args.i c.clear.new.entries _ c.walk_row.new.row c.args.sum.now c.add_multiple.new.target
    c.clear.ensures.clear refl (omega (arith, c.requires.inside, c.clear.auto.entries)) (c.walk_row.auto.row ∙ length-set c.clear.new.entries c.args.i 1 ∙ c.clear.auto.entries ∙ sym c.requires.sum_length) c.walk_row.ensures.walked c.walk_row.ensures.elements c.add_multiple.ensures.sum
