use Rattle.fp_linear.specs.Slices.{AreElements}
use Rattle.claim_conditions.specs.LocalConditions.{families_of}
use Rattle.local_checks.specs.Families.{family, family_rows}
use Rattle.local_checks.specs.Remainders.{AreRemaindersUpTo}
use Rattle.residue_checks.specs.RingsModulo.{products_with}
use Rattle.residue_checks.proofs.units.products_rank.Given as goal

abbrev pub invariant-loop-i : goal.invariant-loop-i
invariant-loop-i l = record {
  elements : AreElements l.fn.header.field l.rest;
  remainders : AreRemaindersUpTo l.fn.header l.fn.m l.fn.rows l.fn.pivots (products_with (families_of l.fn.header l.fn.m) (family_rows l.fn.header l.fn.m l.fn.count l.ring) (family l.fn.header l.fn.m l.y)) (family_rows l.fn.header l.fn.m l.fn.count l.rest) l.i;
}
