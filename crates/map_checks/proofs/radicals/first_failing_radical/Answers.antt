use Rattle.std.proofs.Common.{refl}
use Rattle.map_checks.proofs.KernelTests.{reduced_yes, reduced_no}
use Rattle.map_checks.proofs.RadicalTests.{fit_there, few_there, spans_yes, spans_no}
use Rattle.map_checks.proofs.radicals.first_failing_radical.Goals as goal

pub returns-then-not-are_reduced : goal.returns-then-not-are_reduced
returns-then-not-are_reduced c = (1, (tt, (refl, λ r. c.if-not-are_reduced.ensures (reduced_no c.args.header.now c.args.a.now c.args.n.now c.args.a.now c.args.i.now c.requires.i r))))

pub span_arrows-requires-clause-few : goal.span_arrows-requires-clause-few
span_arrows-requires-clause-few c = few_there c.args.header.now c.requires.allowed c.args.n.now c.args.a.now c.args.i.now c.requires.i

pub span_arrows-requires-clause-fit : goal.span_arrows-requires-clause-fit
span_arrows-requires-clause-fit c = fit_there c.args.header.now c.args.n.now c.args.a.now c.args.i.now c.requires.i c.requires.n.small c.requires.a.small

pub returns-then-not-span_arrows : goal.returns-then-not-span_arrows
returns-then-not-span_arrows c =
    let reduced = reduced_yes c.args.header.now c.args.a.now c.args.n.now c.args.a.now c.args.i.now c.requires.i c.if-not-are_reduced.ensures in
    (2, (tt, (reduced, (refl, λ r. c.if-not-span_arrows.ensures (spans_no c.args.header.now c.args.n.now c.args.a.now c.args.i.now c.requires.i r)))))

pub returns : goal.returns
returns c =
    let reduced = reduced_yes c.args.header.now c.args.a.now c.args.n.now c.args.a.now c.args.i.now c.requires.i c.if-not-are_reduced.ensures in
    (tt, (reduced, (spans_yes c.args.header.now c.args.n.now c.args.a.now c.args.i.now c.requires.i c.if-not-span_arrows.ensures, tt)))
