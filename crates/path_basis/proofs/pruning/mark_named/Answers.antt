use Rattle.std.proofs.Common.{arith}
use Rattle.path_basis.proofs.Marks.{mark_is, marks_grow, marks_stay}
use Rattle.path_basis.proofs.pruning.mark_named.Goals as goal

pub returns : goal.returns
returns c rules m =
    let inside = c.requires.place in
    let count = m.count in
    marks_grow c.args.steps.now rules c.args.marks.now.items c.mark_numbers.new.marks.items c.args.place _ c.requires.ordered c.requires.place
    (mark_is c.args.marks.now.items c.args.place c.index.result.now _ (omega (arith, inside, count)) c.index.ensures c.if-not-index.false) c.mark_numbers.ensures m

pub returns-then-not-index : goal.returns-then-not-index
returns-then-not-index c rules m =
    let inside = c.requires.place in
    let count = m.count in
    marks_stay c.args.steps.now rules c.args.marks.now.items c.args.place (mark_is c.args.marks.now.items c.args.place c.index.result.now _ (omega (arith, inside, count)) c.index.ensures c.if-not-index.true) m
