use Rattle.claim_blocks.proofs.ReadRows.{no_entries}
use Rattle.claim_blocks.proofs.part_rows.PartRows.new.Goals as goal

pub returns : goal.returns
returns c = no_entries c.args.field c.args.width c.args.wanted c.new.result.items
