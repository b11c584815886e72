use Rattle.claim_lines.proofs.RuleReading.{behind_two}
use Rattle.claim_lines.proofs.rules.rule_form.Goals as goal

pub returns-in_default-2 : goal.returns-in_default-2
returns-in_default-2 c = λ x is e.
    let known = rw c.in-Some.is at c.in_ok-tip.ensures in
    let arrow = rw c.if-not-take_word.false at c.take_word.ensures in
    let none = rw c.in_default-2.is at c.in_ok-terms.ensures in
    none (x.tail.terms, x.step) (is.tail, is.named) (behind_two _ _ _ _ c.args.tokens c.next_path.new.tokens c.take_word.new.self _ known.1 arrow e)
