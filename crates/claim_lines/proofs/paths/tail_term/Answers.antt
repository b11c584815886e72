use Rattle.claim_lines.proofs.PathReading.{no_coefficient_no_tail, no_path_no_tail}
use Rattle.claim_lines.proofs.paths.tail_term.Goals as goal

pub returns-in_default : goal.returns-in_default
returns-in_default c = no_coefficient_no_tail c.args.header.now c.requires c.args.token.now c.in_default.ensures.none

pub returns-in_default-2 : goal.returns-in_default-2
returns-in_default-2 c =
    no_path_no_tail c.args.header.now c.requires c.args.token.now c.in-Some.coef c.in-Some.rest.now c.in-Some.ensures.cut (rw c.in_default-2.is at c.in_ok-path.ensures)
