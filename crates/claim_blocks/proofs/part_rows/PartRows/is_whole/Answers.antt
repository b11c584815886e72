use Rattle.claim_blocks.proofs.ReadRows.{whole_rows}
use Rattle.claim_blocks.proofs.part_rows.PartRows.is_whole.Goals as goal

pub returns : goal.returns
returns c = let x = c.self.inside in whole_rows c.args.self.now x.field x.width x.wanted x.read x.entries.items c.self.view_is
