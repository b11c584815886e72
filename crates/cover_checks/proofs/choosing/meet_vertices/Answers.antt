use Rattle.module_types.specs.Readings.{read}
use Rattle.resolution_checks.specs.Steps.{words_of_side}
use Rattle.cover_checks.proofs.ChosenTerms.{passed_none, passed_more}
use Rattle.cover_checks.proofs.choosing.meet_vertices.Goals as goal

pub loop-w-init : goal.loop-w-init
loop-w-init c = λ t. passed_none (words_of_side c.args.table.now.header c.args.table.now.words t c.args.a.now c.args.terms.now) (read c.args.table.now.header c.args.a.now) c.args.terms.now c.args.k

pub loop-w-preserved : goal.loop-w-preserved
loop-w-preserved c = λ t.
    let p = c.loop-w.invariant t in
    passed_more (words_of_side c.args.table.now.header c.args.table.now.words t c.args.a.now c.args.terms.now) (read c.args.table.now.header c.args.a.now) c.args.terms.now c.args.k c.loop-w.w c.loop-w.met c.in_ok-met.met p (c.in_ok-met.ensures t p.met)
