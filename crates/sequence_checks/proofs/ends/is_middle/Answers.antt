use Rattle.std.proofs.Common.{arith}
use Rattle.translate_checks.proofs.Ends.{vertices_at_side}
use Rattle.sequence_checks.proofs.EndTests.{middle_reduced, middle_pulled, middle_sizes, middle_yes}
use Rattle.sequence_checks.proofs.ends.is_middle.Goals as goal

pub returns-then-not-are_reduced : goal.returns-then-not-are_reduced
returns-then-not-are_reduced c = λ t i.
    let h = c.args.table.now.header in
    let ws = c.args.table.now.words in
    let side = c.args.side in
    let e = c.args.e.now in
    let m = c.args.m.now in
    let cover = c.args.cover.now in
    let syzygy = c.args.syzygy.now in
    let phi = c.args.functional.now in
    let matrices = c.args.matrices.now in
    c.if-not-are_reduced.ensures (middle_reduced h ws t side m cover phi syzygy e matrices c.requires.e.counted c.requires.matrices i)

pub is_hom_around-requires-clause-vertices : goal.is_hom_around-requires-clause-vertices
is_hom_around-requires-clause-vertices c =
    record { declared = c.requires.presentation.term.declared }

pub is_hom_around-requires-clause-small : goal.is_hom_around-requires-clause-small
is_hom_around-requires-clause-small c =
    c.requires.presentation.syzygy_small

pub returns-then-not-is_hom_around : goal.returns-then-not-is_hom_around
returns-then-not-is_hom_around c = λ t i.
    c.if-not-is_hom_around.ensures t i.hom

pub returns-then-not-are_pulled_back : goal.returns-then-not-are_pulled_back
returns-then-not-are_pulled_back c = λ t i.
    let h = c.args.table.now.header in
    let ws = c.args.table.now.words in
    let side = c.args.side in
    let e = c.args.e.now in
    let m = c.args.m.now in
    let cover = c.args.cover.now in
    let syzygy = c.args.syzygy.now in
    let phi = c.args.functional.now in
    let matrices = c.args.matrices.now in
    c.if-not-are_pulled_back.ensures t (middle_pulled h ws t side m cover phi syzygy e matrices c.requires.e.counted c.requires.matrices i)

pub have_pulled_sizes-requires-clause-dims : goal.have_pulled_sizes-requires-clause-dims
have_pulled_sizes-requires-clause-dims c =
    let v = vertices_at_side c.args.side c.args.table.now.header in let n = c.requires.e.counted in omega (arith, n, v)

pub returns-then-not-have_pulled_sizes : goal.returns-then-not-have_pulled_sizes
returns-then-not-have_pulled_sizes c = λ t i.
    let h = c.args.table.now.header in
    let ws = c.args.table.now.words in
    let side = c.args.side in
    let e = c.args.e.now in
    let m = c.args.m.now in
    let cover = c.args.cover.now in
    let syzygy = c.args.syzygy.now in
    let phi = c.args.functional.now in
    let matrices = c.args.matrices.now in
    c.if-not-have_pulled_sizes.ensures t (middle_sizes h ws t side m cover phi syzygy e matrices c.requires.e.counted c.requires.matrices i)

pub returns : goal.returns
returns c = λ t.
    let h = c.args.table.now.header in
    let ws = c.args.table.now.words in
    let side = c.args.side in
    let e = c.args.e.now in
    let m = c.args.m.now in
    let cover = c.args.cover.now in
    let syzygy = c.args.syzygy.now in
    let phi = c.args.functional.now in
    let matrices = c.args.matrices.now in
    middle_yes h ws t side m cover phi syzygy e matrices c.requires.e.counted c.requires.matrices c.if-not-are_reduced.ensures (c.if-not-is_hom_around.ensures t) (c.if-not-are_pulled_back.ensures t) (c.if-not-have_pulled_sizes.ensures t)
