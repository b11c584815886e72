use Rattle.std.proofs.Common.{◌∙◌, sym}
use Rattle.written_modules.proofs.WrittenShapes.{stops_by, map_shape_test, map_fit_is}
use Rattle.written_modules.proofs.maps.map_fits.Goals as goal

pub returns-in-Err-clause-tested : goal.returns-in-Err-clause-tested
returns-in-Err-clause-tested c = stops_by _ _ c.in-Err.stop (map_shape_test c.args.header.now c.args.a.now c.args.b.now c.args.lines.now c.requires.a c.requires.b) c.in-Err.ensures.tested

pub returns-clause-tested : goal.returns-clause-tested
returns-clause-tested c = sym (map_shape_test c.args.header.now c.args.a.now c.args.b.now c.args.lines.now c.requires.a c.requires.b) ∙ c.in_default.ensures.tested

pub returns-clause-fit : goal.returns-clause-fit
returns-clause-fit c = sym (map_fit_is c.args.header.now c.args.a.now c.args.b.now c.args.lines.now c.requires.a c.requires.b) ∙ c.in_default.ensures.fit
