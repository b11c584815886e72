use Rattle.std.proofs.Common.{refl, arith}
use Rattle.translate_checks.proofs.EmbeddingTests.{co_reduced_yes, co_reduced_no, outside_yes, outside_zero, cosize_yes, cosize_no}
use Rattle.translate_checks.proofs.Ends.{vertices_at_side}
use Rattle.translate_checks.proofs.embeddings.first_failing_projection.Goals as goal

pub returns-then-not-are_column_reduced : goal.returns-then-not-are_column_reduced
returns-then-not-are_column_reduced c = λ t.
    let h = c.args.table.now.header in
    let ws = c.args.table.now.words in
    let side = c.args.side in
    let cover = c.args.cover.now in
    let syzygy = c.args.syzygy.now in
    let n = c.args.n.now in
    let rows = c.args.rows.now in
    let counted = c.requires.n.counted in
    let R = c.requires.rows in
    (0, (refl, λ r. c.if-not-are_column_reduced.ensures (co_reduced_no h ws t side cover syzygy n rows counted R r)))

pub is_hom_from-requires-clause-vertices : goal.is_hom_from-requires-clause-vertices
is_hom_from-requires-clause-vertices c =
    record { declared = c.requires.presentation.term.declared }

pub is_hom_from-requires-clause-small : goal.is_hom_from-requires-clause-small
is_hom_from-requires-clause-small c =
    c.requires.presentation.syzygy_small

pub returns-then-not-is_hom_from : goal.returns-then-not-is_hom_from
returns-then-not-is_hom_from c = λ t.
    let h = c.args.table.now.header in
    let ws = c.args.table.now.words in
    let side = c.args.side in
    let cover = c.args.cover.now in
    let syzygy = c.args.syzygy.now in
    let n = c.args.n.now in
    let rows = c.args.rows.now in
    let counted = c.requires.n.counted in
    let R = c.requires.rows in
    let reduced = co_reduced_yes h ws t side cover syzygy n rows counted R c.if-not-are_column_reduced.ensures in
    (1, (reduced, (refl, λ i. c.if-not-is_hom_from.ensures t i.hom)))

pub returns-then-not-kill : goal.returns-then-not-kill
returns-then-not-kill c = λ t.
    let h = c.args.table.now.header in
    let ws = c.args.table.now.words in
    let side = c.args.side in
    let cover = c.args.cover.now in
    let syzygy = c.args.syzygy.now in
    let n = c.args.n.now in
    let rows = c.args.rows.now in
    let counted = c.requires.n.counted in
    let R = c.requires.rows in
    let reduced = co_reduced_yes h ws t side cover syzygy n rows counted R c.if-not-are_column_reduced.ensures in
    (1, (reduced, (refl, λ i. c.if-not-kill.ensures t (outside_zero h ws t side cover syzygy n rows counted R i))))

pub have_sizes-requires-clause-dims : goal.have_sizes-requires-clause-dims
have_sizes-requires-clause-dims c =
    let h = c.args.table.now.header in
    let ws = c.args.table.now.words in
    let side = c.args.side in
    let cover = c.args.cover.now in
    let syzygy = c.args.syzygy.now in
    let n = c.args.n.now in
    let rows = c.args.rows.now in
    let counted = c.requires.n.counted in
    let R = c.requires.rows in
    let v = vertices_at_side side h in
    omega (arith, counted, v)

pub returns-then-not-have_sizes : goal.returns-then-not-have_sizes
returns-then-not-have_sizes c = λ t.
    let h = c.args.table.now.header in
    let ws = c.args.table.now.words in
    let side = c.args.side in
    let cover = c.args.cover.now in
    let syzygy = c.args.syzygy.now in
    let n = c.args.n.now in
    let rows = c.args.rows.now in
    let counted = c.requires.n.counted in
    let R = c.requires.rows in
    let reduced = co_reduced_yes h ws t side cover syzygy n rows counted R c.if-not-are_column_reduced.ensures in
    let inside = outside_yes h ws t side cover syzygy n rows counted R (c.if-not-is_hom_from.ensures t) (c.if-not-kill.ensures t) in
    (2, (reduced, (inside, (refl, λ s. c.if-not-have_sizes.ensures t (cosize_no h ws t side cover syzygy n rows counted R s)))))

pub returns : goal.returns
returns c = λ t.
    let h = c.args.table.now.header in
    let ws = c.args.table.now.words in
    let side = c.args.side in
    let cover = c.args.cover.now in
    let syzygy = c.args.syzygy.now in
    let n = c.args.n.now in
    let rows = c.args.rows.now in
    let counted = c.requires.n.counted in
    let R = c.requires.rows in
    let reduced = co_reduced_yes h ws t side cover syzygy n rows counted R c.if-not-are_column_reduced.ensures in
    let inside = outside_yes h ws t side cover syzygy n rows counted R (c.if-not-is_hom_from.ensures t) (c.if-not-kill.ensures t) in
    (reduced, (inside, (cosize_yes h ws t side cover syzygy n rows counted R (c.if-not-have_sizes.ensures t), tt)))
