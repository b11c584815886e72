use Rattle.std.proofs.Common.{ap, ◌∙◌, arith}
use Rattle.std.specs.Prelude.{slice_index, slice_index_or}
use Rattle.script_answers.specs.Written.{rows_from}
use Rattle.written_modules.proofs.Counts.{counts_more, counts_all, row_count_at, rows_past}
use Rattle.written_modules.proofs.reps.row_counts.Goals as goal

pub loop-a-preserved : goal.loop-a-preserved
loop-a-preserved c =
    counts_more (rows_from c.args.header.now c.args.dims.now) c.loop-a.a c.index.result.now c.loop-a.counts.items c.push.new.self.items c.loop-a.invariant
    (row_count_at c.args.header.now c.requires.allowed.quiver.ends c.args.dims.now c.requires.dims c.loop-a.a c.index.result.now (omega (arith, c.loop-a-test.true, c.len-a-end.ensures))
    (c.index.ensures ∙ ap (λ s. slice_index_or c.args.dims.now s c.index.result.now) c.source_at.ensures))
    c.in_ok-push.ensures.items

pub returns-clause-at : goal.returns-clause-at
returns-clause-at c = λ a.
    ap (λ s. slice_index s a) c.from_vec.ensures
    ∙ counts_all (rows_from c.args.header.now c.args.dims.now) c.loop-a.a c.loop-a.counts.items c.loop-a.invariant (λ k l. rows_past c.args.header.now c.args.dims.now k (omega (arith, c.loop-a-test.false, c.len-a-end.ensures, l))) a
