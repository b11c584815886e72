use Rattle.std.proofs.Common.{decimal, arith, refl}
use Rattle.std.specs.Prelude.{slice_index}
use Rattle.object_lines.specs.Reading.{IsElement}
use Rattle.claim_blocks.proofs.FunctionalReading.{takes_part, no_part}
use Rattle.claim_blocks.proofs.functional.take_parts.Goals as goal

pub returns-then-not-taken : goal.returns-then-not-taken
returns-then-not-taken c =
    let counts = c.args.counts.now in
    let j = c.loop-j.j in
    no_part decimal (IsElement c.args.field) counts j (slice_index counts j) (let l = c.loop-j-test.true in let e = c.loop-j.auto.j-end in omega (arith, l, e)) refl
    c.args.entries.now.items c.loop-j.entries.items c.args.tokens.now c.loop-j.tokens c.loop-j.invariant (rw c.if-not-taken.true at c.in_ok-taken.ensures)

pub loop-j-preserved : goal.loop-j-preserved
loop-j-preserved c =
    let counts = c.args.counts.now in
    let j = c.loop-j.j in
    takes_part decimal (IsElement c.args.field) counts j (slice_index counts j) (let l = c.loop-j-test.true in let e = c.loop-j.auto.j-end in omega (arith, l, e)) refl
    c.args.entries.now.items c.loop-j.entries.items c.take_entries.new.entries.items c.args.tokens.now c.loop-j.tokens c.take_entries.new.tokens c.loop-j.invariant (rw c.if-not-taken.false at c.in_ok-taken.ensures)
