use Rattle.std.proofs.Common.{◌≡◌, true, false, refl, arith}
use Rattle.claim_lines.proofs.RuleReading.{rule_behind, rule_spelled, form_of_rule, rule_from_form, no_limits_no_rule}
use Rattle.claim_lines.proofs.rules.read_rule.Goals as goal

pub returns-in_default : goal.returns-in_default
returns-in_default c = λ x fits e.
    let first = rw c.if-not-take_word.false at c.take_word.ensures in
    let none = rw c.in_default.is at c.in_ok-rule.ensures in
    none x (form_of_rule c.args.header.now c.args.steps x fits.written) (rule_behind c.args.header.now.quiver x c.args.tokens c.take_word.new.self first e)

pub returns-then-not-has_limits : goal.returns-then-not-has_limits
returns-then-not-has_limits c = λ x fits e.
    let first = rw c.if-not-take_word.false at c.take_word.ensures in
    let known = rw c.in-Some.is at c.in_ok-rule.ensures in
    no_limits_no_rule c.args.header.now c.requires c.args.steps fits.few c.in-Some.rule c.take_word.new.self known.0 known.1
    (λ limits. let g : false ≡ true = c.if-not-has_limits.ensures.1 limits in cc) x fits.written (rule_behind c.args.header.now.quiver x c.args.tokens c.take_word.new.self first e)

pub returns : goal.returns
returns c =
    let first = rw c.if-not-take_word.false at c.take_word.ensures in
    let known = rw c.in-Some.is at c.in_ok-rule.ensures in (
      record {
        few = omega arith;
        room = omega arith;
        written = rule_from_form c.args.header.now c.args.steps c.in-Some.rule known.0 (c.if-not-has_limits.ensures.0 refl);
      },
      rule_spelled c.args.header.now.quiver c.in-Some.rule c.args.tokens c.take_word.new.self first known.1,
    )
