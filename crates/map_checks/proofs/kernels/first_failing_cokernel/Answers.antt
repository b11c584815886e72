use Rattle.std.proofs.Common.{refl}
use Rattle.map_checks.proofs.KernelTests.{dims_fit, column_reduced_yes, column_reduced_no, room_there, cokernel_yes, cokernel_no, products_there, zero_yes, zero_no}
use Rattle.map_checks.proofs.kernels.first_failing_cokernel.Goals as goal

pub returns-then-not-are_column_reduced : goal.returns-then-not-are_column_reduced
returns-then-not-are_column_reduced c = (1, (tt, (refl, λ r. c.if-not-are_column_reduced.ensures (column_reduced_no c.args.header.now c.args.a.now c.args.b.now c.args.n.now c.args.p.now c.requires.p r))))

pub are_zero_products-requires : goal.are_zero_products-requires
are_zero_products-requires c = record { fit = products_there c.args.header.now c.args.a.now c.args.a.now c.args.b.now c.args.f.now c.requires.f c.args.n.now c.args.p.now c.requires.p }

pub returns-then-not-are_zero_products : goal.returns-then-not-are_zero_products
returns-then-not-are_zero_products c =
    let reduced = column_reduced_yes c.args.header.now c.args.a.now c.args.b.now c.args.n.now c.args.p.now c.requires.p c.if-not-are_column_reduced.ensures in
    (2, (tt, (reduced, (refl, λ r. c.if-not-are_zero_products.ensures (zero_no c.args.header.now c.args.a.now c.args.a.now c.args.b.now c.args.f.now c.requires.f c.args.n.now c.args.p.now c.requires.p r)))))

pub have_ranks-requires-clause-part : goal.have_ranks-requires-clause-part
have_ranks-requires-clause-part c = dims_fit c.args.header.now c.args.a.now c.args.n.now c.args.a.now c.args.b.now c.args.f.now c.requires.n c.requires.f

pub have_ranks-requires-clause-whole : goal.have_ranks-requires-clause-whole
have_ranks-requires-clause-whole c = dims_fit c.args.header.now c.args.a.now c.args.b.now c.args.a.now c.args.b.now c.args.f.now c.requires.b c.requires.f

pub have_ranks-requires-clause-room : goal.have_ranks-requires-clause-room
have_ranks-requires-clause-room c = room_there c.args.header.now c.args.a.now c.args.a.now c.args.b.now c.args.f.now c.requires.f c.args.entries.now c.args.pivots.now c.requires.a.small c.requires.b.small c.requires.entries c.requires.pivots

pub returns-then-not-have_ranks : goal.returns-then-not-have_ranks
returns-then-not-have_ranks c =
    let reduced = column_reduced_yes c.args.header.now c.args.a.now c.args.b.now c.args.n.now c.args.p.now c.requires.p c.if-not-are_column_reduced.ensures in
    let zero = zero_yes c.args.header.now c.args.a.now c.args.a.now c.args.b.now c.args.f.now c.requires.f c.args.n.now c.args.p.now c.requires.p c.if-not-are_zero_products.ensures in
    (3, (tt, (reduced, (zero, (refl, λ r. c.if-not-have_ranks.ensures (cokernel_no c.args.header.now c.args.a.now c.args.a.now c.args.b.now c.args.f.now c.requires.f c.args.n.now r))))))

pub returns : goal.returns
returns c =
    let reduced = column_reduced_yes c.args.header.now c.args.a.now c.args.b.now c.args.n.now c.args.p.now c.requires.p c.if-not-are_column_reduced.ensures in
    let zero = zero_yes c.args.header.now c.args.a.now c.args.a.now c.args.b.now c.args.f.now c.requires.f c.args.n.now c.args.p.now c.requires.p c.if-not-are_zero_products.ensures in
    (tt, (reduced, (zero, (cokernel_yes c.args.header.now c.args.a.now c.args.a.now c.args.b.now c.args.f.now c.requires.f c.args.n.now c.if-not-have_ranks.ensures, tt))))
