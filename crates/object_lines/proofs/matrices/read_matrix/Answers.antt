use Rattle.std.proofs.Common.{◌≡◌, true, false, length, refl, sym, ap, subst, ◌∙◌, arith}
use Rattle.linear_algebra.specs.Rows.{rows_of}
use Rattle.fp_linear.specs.Matrix.{plain}
use Rattle.fp_linear.specs.Slices.{AreElements}
use Rattle.object_lines.proofs.MatrixReading.{matrix_is, entries_count, entries_small, no_matrix, no_longer_matrix}
use Rattle.object_lines.proofs.matrices.read_matrix.Goals as goal

pub returns-then-not-taken : goal.returns-then-not-taken
returns-then-not-taken c = no_matrix c.args.field c.args.rows c.args.cols c.args.tokens (rw c.if-not-taken.true at c.in_ok-taken.ensures)

pub returns-then-not-is_done : goal.returns-then-not-is_done
returns-then-not-is_done c =
    no_longer_matrix c.args.field c.args.rows c.args.cols _ c.args.tokens _ (λ e. let g : false ≡ true = c.if-not-is_done.ensures.1 e in cc) (rw c.if-not-taken.false at c.in_ok-taken.ensures)

pub returns : goal.returns
returns c =
    matrix_is c.args.field c.args.rows c.args.cols _ c.args.tokens _ c.in_ok-m.m (c.if-not-is_done.ensures.0 refl) (rw c.if-not-taken.false at c.in_ok-taken.ensures) (omega arith) (c.in_ok-m.ensures ∙ ap (λ s. plain c.args.field c.args.rows c.args.cols (rows_of c.args.rows c.args.cols s)) c.deref.ensures.value)

pub from_entries-requires-clause-count : goal.from_entries-requires-clause-count
from_entries-requires-clause-count c = ap length c.deref.ensures.value ∙ entries_count c.args.field c.args.rows c.args.cols _ c.args.tokens _ (rw c.if-not-taken.false at c.in_ok-taken.ensures)

pub from_entries-requires-clause-elements : goal.from_entries-requires-clause-elements
from_entries-requires-clause-elements c =
    subst (AreElements c.args.field) (sym c.deref.ensures.value) (entries_small c.args.field c.args.rows c.args.cols _ c.args.tokens _ (rw c.if-not-taken.false at c.in_ok-taken.ensures))
