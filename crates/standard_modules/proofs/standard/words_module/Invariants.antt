use Rattle.std.proofs.Common.{◌≡◌, length}
use Rattle.linear_algebra.specs.Rows.{list_of}
use Rattle.alg_table.specs.TableView.{IsTable}
use Rattle.standard_modules.specs.StandardModules.{projective_rep, matrix_of_arrow}
use Rattle.standard_modules.proofs.standard.words_module.Given as goal

abbrev pub invariant-loop-arrow : goal.invariant-loop-arrow
invariant-loop-arrow l = record {
  matrices : (t : IsTable l.table.header l.table.words) → l.matrices.items ≡ list_of l.arrow (matrix_of_arrow (projective_rep l.table.header l.table.words t l.side l.v));
  product : length l.product.items ≡ length l.table.words;
}
