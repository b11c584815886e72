use Rattle.std.proofs.Common.{◌++◌, ap, ◌∙◌, arith}
use Rattle.std.proofs.lemmas.Bool.{false≢true}
use Rattle.linear_algebra.specs.Rows.{rows_of}
use Rattle.fp_linear.specs.Matrix.{plain}
use Rattle.written_modules.proofs.Rows.{first_none, first_more, matrix_is}
use Rattle.written_modules.proofs.building.matrix_of_rows.Goals as goal

pub loop-i-init : goal.loop-i-init
loop-i-init c = first_none c.args.field c.args.cols c.args.written.now c.in_ok-entries.entries.items c.in_ok-entries.ensures.items

pub loop-i-preserved : goal.loop-i-preserved
loop-i-preserved c = first_more c.args.field c.args.rows c.args.cols c.loop-i.i c.args.written.now c.index.result.now c.loop-i.entries.items c.extend_from_slice.new.self.items (λ e. false≢true (c.if-is_empty.ensures.1 e)) c.requires.fit c.requires.entries
    (omega (arith, c.loop-i-test.true, c.len-i-end.ensures)) c.index.ensures (c.in_ok-extend_from_slice.ensures.items ∙ ap (λ r. c.loop-i.entries.items ++ r) c.deref.ensures) c.loop-i.invariant

pub returns : goal.returns
returns c = matrix_is c.args.field c.args.rows c.args.cols c.loop-i.i c.args.written.now c.loop-i.entries.items c.in_ok-matrix.matrix (λ e. false≢true (c.if-is_empty.ensures.1 e)) c.requires.fit (omega (arith, c.loop-i-test.false, c.len-i-end.ensures, c.loop-i.auto.i-end)) c.loop-i.invariant
    (c.in_ok-matrix.ensures ∙ ap (λ s. plain c.args.field c.args.rows c.args.cols (rows_of c.args.rows c.args.cols s)) c.deref-2.ensures.value)
