use Rattle.std.proofs.Common.{refl}
use Rattle.map_checks.proofs.KernelTests.{dims_fit, reduced_yes, reduced_no, room_there, kernel_yes, kernel_no, products_there, zero_yes, zero_no}
use Rattle.map_checks.proofs.kernels.first_failing_kernel.Goals as goal

pub returns-then-not-are_reduced : goal.returns-then-not-are_reduced
returns-then-not-are_reduced c = (1, (tt, (refl, λ r. c.if-not-are_reduced.ensures (reduced_no c.args.header.now c.args.a.now c.args.n.now c.args.a.now c.args.i.now c.requires.i r))))

pub are_zero_products-requires : goal.are_zero_products-requires
are_zero_products-requires c = record { fit = products_there c.args.header.now c.args.a.now c.args.n.now c.args.a.now c.args.i.now c.requires.i c.args.b.now c.args.f.now c.requires.f }

pub returns-then-not-are_zero_products : goal.returns-then-not-are_zero_products
returns-then-not-are_zero_products c =
    let reduced = reduced_yes c.args.header.now c.args.a.now c.args.n.now c.args.a.now c.args.i.now c.requires.i c.if-not-are_reduced.ensures in
    (2, (tt, (reduced, (refl, λ r. c.if-not-are_zero_products.ensures (zero_no c.args.header.now c.args.a.now c.args.n.now c.args.a.now c.args.i.now c.requires.i c.args.b.now c.args.f.now c.requires.f r)))))

pub have_ranks-requires-clause-part : goal.have_ranks-requires-clause-part
have_ranks-requires-clause-part c = dims_fit c.args.header.now c.args.a.now c.args.n.now c.args.a.now c.args.b.now c.args.f.now c.requires.n c.requires.f

pub have_ranks-requires-clause-whole : goal.have_ranks-requires-clause-whole
have_ranks-requires-clause-whole c = dims_fit c.args.header.now c.args.a.now c.args.a.now c.args.a.now c.args.b.now c.args.f.now c.requires.a c.requires.f

pub have_ranks-requires-clause-room : goal.have_ranks-requires-clause-room
have_ranks-requires-clause-room c = room_there c.args.header.now c.args.a.now c.args.a.now c.args.b.now c.args.f.now c.requires.f c.args.entries.now c.args.pivots.now c.requires.a.small c.requires.b.small c.requires.entries c.requires.pivots

pub returns-then-not-have_ranks : goal.returns-then-not-have_ranks
returns-then-not-have_ranks c =
    let reduced = reduced_yes c.args.header.now c.args.a.now c.args.n.now c.args.a.now c.args.i.now c.requires.i c.if-not-are_reduced.ensures in
    let zero = zero_yes c.args.header.now c.args.a.now c.args.n.now c.args.a.now c.args.i.now c.requires.i c.args.b.now c.args.f.now c.requires.f c.if-not-are_zero_products.ensures in
    (3, (tt, (reduced, (zero, (refl, λ r. c.if-not-have_ranks.ensures (kernel_no c.args.header.now c.args.a.now c.args.a.now c.args.b.now c.args.f.now c.requires.f c.args.n.now r))))))

pub returns : goal.returns
returns c =
    let reduced = reduced_yes c.args.header.now c.args.a.now c.args.n.now c.args.a.now c.args.i.now c.requires.i c.if-not-are_reduced.ensures in
    let zero = zero_yes c.args.header.now c.args.a.now c.args.n.now c.args.a.now c.args.i.now c.requires.i c.args.b.now c.args.f.now c.requires.f c.if-not-are_zero_products.ensures in
    (tt, (reduced, (zero, (kernel_yes c.args.header.now c.args.a.now c.args.a.now c.args.b.now c.args.f.now c.requires.f c.args.n.now c.if-not-have_ranks.ensures, tt))))
