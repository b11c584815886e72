use Rattle.std.proofs.Common.{◌≤◌, length, refl, arith}
use Rattle.claim_conditions.specs.SequenceConditions.{SequenceRows}
use Rattle.sequence_checks.proofs.SequenceTests.{are_maps_yes, are_maps_no}
use Rattle.sequence_checks.proofs.sequences.first_failing_behind.Goals as goal

pub returns-then-generators-eq0 : goal.returns-then-generators-eq0
returns-then-generators-eq0 c = λ t.
    (0, (refl, λ p. (let z = c.if-generators-eq0.true in let y = c.len-generators.ensures in omega (arith, z, y, p))))

pub returns-then-not-is_functional : goal.returns-then-not-is_functional
returns-then-not-is_functional c = λ t.
    let h = c.args.table.now.header in
    let ws = c.args.table.now.words in
    let side = c.args.a.now.side in
    let n = c.args.n.now in
    let e = c.args.e.now in
    let a = c.args.a.now in
    let cover = c.args.cover.now in
    let syzygy = c.args.syzygy.now in
    let s : SequenceRows = record { functional = c.args.functional.now; left = c.args.left.now; middle = c.args.middle.now } in
    let generated : 1 ≤ length syzygy.vertices = (let z = c.if-generators-eq0.false in let y = c.len-generators.ensures in omega (arith, z, y)) in
    (1, (generated, (refl, c.if-not-is_functional.ensures t c.args.syzygy.now)))

pub returns-then-not-is_left : goal.returns-then-not-is_left
returns-then-not-is_left c = λ t.
    let h = c.args.table.now.header in
    let ws = c.args.table.now.words in
    let side = c.args.a.now.side in
    let n = c.args.n.now in
    let e = c.args.e.now in
    let a = c.args.a.now in
    let cover = c.args.cover.now in
    let syzygy = c.args.syzygy.now in
    let s : SequenceRows = record { functional = c.args.functional.now; left = c.args.left.now; middle = c.args.middle.now } in
    let generated : 1 ≤ length syzygy.vertices = (let z = c.if-generators-eq0.false in let y = c.len-generators.ensures in omega (arith, z, y)) in
    let functional = c.if-not-is_functional.ensures t c.args.syzygy.now in
    (2, (generated, (functional, (refl, c.if-not-is_left.ensures t))))

pub returns-then-not-is_middle : goal.returns-then-not-is_middle
returns-then-not-is_middle c = λ t.
    let h = c.args.table.now.header in
    let ws = c.args.table.now.words in
    let side = c.args.a.now.side in
    let n = c.args.n.now in
    let e = c.args.e.now in
    let a = c.args.a.now in
    let cover = c.args.cover.now in
    let syzygy = c.args.syzygy.now in
    let s : SequenceRows = record { functional = c.args.functional.now; left = c.args.left.now; middle = c.args.middle.now } in
    let generated : 1 ≤ length syzygy.vertices = (let z = c.if-generators-eq0.false in let y = c.len-generators.ensures in omega (arith, z, y)) in
    let functional = c.if-not-is_functional.ensures t c.args.syzygy.now in
    let left = c.if-not-is_left.ensures t in
    (3, (generated, (functional, (left, (refl, c.if-not-is_middle.ensures t)))))

pub are_maps-requires-clause-vertices : goal.are_maps-requires-clause-vertices
are_maps-requires-clause-vertices c =
    record { declared = c.requires.presentation.term.declared }

pub are_maps-requires-clause-small : goal.are_maps-requires-clause-small
are_maps-requires-clause-small c =
    c.requires.presentation.syzygy_small

pub are_maps-requires-clause-n : goal.are_maps-requires-clause-n
are_maps-requires-clause-n c =
    c.requires.n.counted

pub returns-then-not-are_maps : goal.returns-then-not-are_maps
returns-then-not-are_maps c = λ t.
    let h = c.args.table.now.header in
    let ws = c.args.table.now.words in
    let side = c.args.a.now.side in
    let n = c.args.n.now in
    let e = c.args.e.now in
    let a = c.args.a.now in
    let cover = c.args.cover.now in
    let syzygy = c.args.syzygy.now in
    let s : SequenceRows = record { functional = c.args.functional.now; left = c.args.left.now; middle = c.args.middle.now } in
    let generated : 1 ≤ length syzygy.vertices = (let z = c.if-generators-eq0.false in let y = c.len-generators.ensures in omega (arith, z, y)) in
    let functional = c.if-not-is_functional.ensures t c.args.syzygy.now in
    let left = c.if-not-is_left.ensures t in
    let middle = c.if-not-is_middle.ensures t in
    (4, (generated, (functional, (left, (middle, (refl, λ m. c.if-not-are_maps.ensures t (are_maps_no h ws t side cover syzygy n e a c.args.f.now c.args.g.now s c.requires.n.counted m)))))))

pub returns : goal.returns
returns c = λ t.
    let h = c.args.table.now.header in
    let ws = c.args.table.now.words in
    let side = c.args.a.now.side in
    let n = c.args.n.now in
    let e = c.args.e.now in
    let a = c.args.a.now in
    let cover = c.args.cover.now in
    let syzygy = c.args.syzygy.now in
    let s : SequenceRows = record { functional = c.args.functional.now; left = c.args.left.now; middle = c.args.middle.now } in
    let generated : 1 ≤ length syzygy.vertices = (let z = c.if-generators-eq0.false in let y = c.len-generators.ensures in omega (arith, z, y)) in
    let functional = c.if-not-is_functional.ensures t c.args.syzygy.now in
    let left = c.if-not-is_left.ensures t in
    let middle = c.if-not-is_middle.ensures t in
    (generated, (functional, (left, (middle, (are_maps_yes h ws t side cover syzygy n e a c.args.f.now c.args.g.now s c.requires.n.counted (c.if-not-are_maps.ensures t), tt)))))
