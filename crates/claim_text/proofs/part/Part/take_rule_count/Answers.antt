use Rattle.std.proofs.Common.{codes}
use Rattle.claim_text.specs.Part.{with_rule_count}
use Rattle.claim_text.proofs.TakenLines.{no_count}
use Rattle.claim_text.proofs.part.Part.take_rule_count.Goals as goal

pub returns-in_default : goal.returns-in_default
returns-in_default c = no_count (codes "rules") (with_rule_count c.args.self.now) c.args.tokens c.take_word.new.self (rw c.if-not-take_word.false at c.take_word.ensures) c.in_default.ensures
