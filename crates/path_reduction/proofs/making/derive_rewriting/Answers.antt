use Rattle.std.proofs.Common.{◌++◌, ◌∷◌, [], ap, ◌∙◌}
use Rattle.linear_algebra.specs.Field.{neg}
use Rattle.path_algebra.specs.declared.rules.Step.TheVariants.{Add}
use Rattle.path_reduction.proofs.Deriving.{makes_plus_rule, negative_factor}
use Rattle.path_reduction.proofs.making.derive_rewriting.Goals as goal

pub returns-clause-makes : goal.returns-clause-makes
returns-clause-makes c ok t hu hv x from d =
    let h = c.args.header.now in
    let factor = negative_factor h c.args.factor c.requires.nonzero c.requires.small in
    makes_plus_rule h x (neg h.field c.args.factor) c.args.rule.now c.args.path.now c.args.before c.args.steps.now.items c.derive_between.new.steps.items c.push_step.new.steps.items
    c.args.number c.in_ok-other.other c.in_ok-last.last factor.0 factor.1 c.in_ok-other.ensures.lengthens
    (c.in_ok-last.ensures.pushed ∙ ap (λ k. c.derive_between.new.steps.items ++ Add c.args.number k c.in_ok-other.other ∷ []) c.neg.ensures)
    c.in_ok-last.ensures.number (c.in_ok-other.ensures.makes h ok t hu hv from) d
