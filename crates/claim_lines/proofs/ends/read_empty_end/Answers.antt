use Rattle.claim_lines.proofs.EndReading.{no_limit}
use Rattle.claim_lines.proofs.ends.read_empty_end.Goals as goal

pub returns-in_default : goal.returns-in_default
returns-in_default c = no_limit c.args.header.now c.args.tokens c.in_default.ensures
