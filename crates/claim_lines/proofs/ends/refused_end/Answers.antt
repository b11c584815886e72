use Rattle.claim_lines.proofs.EndReading.{no_refused}
use Rattle.claim_lines.proofs.ends.refused_end.Goals as goal

pub returns-in_default : goal.returns-in_default
returns-in_default c =
    let none = rw c.in_default.is at c.in_ok-line.ensures in
    no_refused c.args.header.now c.args.claims c.args.tokens none
