use Rattle.std.proofs.Common.{◌≡◌, true, false}
use Rattle.claim_lines.proofs.EndReading.{no_done}
use Rattle.claim_lines.proofs.ends.done_end.Goals as goal

pub returns-then-not-only_this : goal.returns-then-not-only_this
returns-then-not-only_this c = no_done c.args.header.now c.args.claims c.args.tokens (λ e. let g : false ≡ true = c.if-not-only_this.ensures.1 e in cc)
