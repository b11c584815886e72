use Rattle.extension_checks.proofs.FollowBlocks.{dims_read}
use Rattle.extension_checks.proofs.values.value_dimension.Goals as goal

pub returns : goal.returns
returns c = dims_read c.args.table.now.header c.args.table.now.words c.args.b.now c.requires.b c.args.term.now c.args.j _ _ c.requires.vertices c.requires.generator c.index.ensures c.index-2.ensures
