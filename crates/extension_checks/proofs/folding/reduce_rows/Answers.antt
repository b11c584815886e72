use Rattle.std.proofs.Common.{sym, subst, arith}
use Rattle.linear_algebra.specs.Reduced.{ReducesTo}
use Rattle.linear_algebra.specs.Rows.{rows_of}
use Rattle.linear_algebra.proofs.Rows.{length-rows_of}
use Rattle.fp_linear.specs.Slices.{AreElements}
use Rattle.path_algebra.specs.declared.Header.{Header}
use Rattle.extension_checks.proofs.folding.reduce_rows.Goals as goal

pub echelon_rows-requires-clause-elements : goal.echelon_rows-requires-clause-elements
echelon_rows-requires-clause-elements c = subst (λ (g : Header). AreElements g.field c.args.entries.now) (sym c.header.ensures.header) c.requires.elements

pub returns-clause-elements : goal.returns-clause-elements
returns-clause-elements c = subst (λ (g : Header). AreElements g.field c.echelon_rows.new.entries) c.header.ensures.header c.echelon_rows.ensures.elements

pub returns-clause-form : goal.returns-clause-form
returns-clause-form c =
    subst (λ (g : Header). ReducesTo g.field c.args.unknowns (rows_of 1025 c.args.unknowns c.args.entries.now) (rows_of 1025 c.args.unknowns c.echelon_rows.new.entries) c.echelon_rows.new.pivots c.echelon_rows.result)
    c.header.ensures.header c.echelon_rows.ensures.form

pub returns-clause-few : goal.returns-clause-few
returns-clause-few c = let f = c.echelon_rows.ensures.form.fits in let l = length-rows_of 1025 c.args.unknowns c.echelon_rows.new.entries in omega (arith, f, l)
