use Rattle.std.proofs.Common.{◌≡◌, map, sym, subst}
use Rattle.path_basis.specs.Used.{HasNoUnusedStep}
use Rattle.path_reduction.specs.Derived.{AreDerived}
use Rattle.path_basis.specs.Pruning.{AreMarked, IsKept, with_new_number}
use Rattle.path_basis.proofs.Kept.{kept_lawful, kept_derived, kept_used}
use Rattle.path_basis.proofs.pruning.drop_unused_steps.Goals as goal

pub returns-clause-lawful : goal.returns-clause-lawful
returns-clause-lawful c h lawful = kept_lawful c.args.steps.now c.args.rules.items c.in_ok-marks.marks.items c.in_ok-kept.kept.items c.in_ok-kept.numbers.items c.requires.ordered
    (subst (λ rules. AreMarked c.args.steps.now rules c.in_ok-marks.marks.items 0) c.deref.ensures.value c.in_ok-marks.ensures)
    (subst (λ marks. IsKept c.args.steps.now marks c.in_ok-kept.kept.items c.in_ok-kept.numbers.items) c.deref-2.ensures.value c.in_ok-kept.ensures.kept) c.in_ok-kept.ensures.count h lawful

pub returns-clause-derived : goal.returns-clause-derived
returns-clause-derived c h derived =
    subst (AreDerived h c.in_ok-kept.kept.items) (sym (subst (λ numbers. c.in_ok-rules.rules.items ≡ map (with_new_number numbers) c.args.rules.items) c.deref-3.ensures.value c.in_ok-rules.ensures))
    (kept_derived c.args.steps.now c.args.rules.items c.in_ok-marks.marks.items c.in_ok-kept.kept.items c.in_ok-kept.numbers.items c.requires.ordered
    (subst (λ rules. AreMarked c.args.steps.now rules c.in_ok-marks.marks.items 0) c.deref.ensures.value c.in_ok-marks.ensures)
    (subst (λ marks. IsKept c.args.steps.now marks c.in_ok-kept.kept.items c.in_ok-kept.numbers.items) c.deref-2.ensures.value c.in_ok-kept.ensures.kept) c.in_ok-kept.ensures.count h derived)

pub returns-clause-used : goal.returns-clause-used
returns-clause-used c =
    subst (HasNoUnusedStep c.in_ok-kept.kept.items) (sym (subst (λ numbers. c.in_ok-rules.rules.items ≡ map (with_new_number numbers) c.args.rules.items) c.deref-3.ensures.value c.in_ok-rules.ensures))
    (kept_used c.args.steps.now c.args.rules.items c.in_ok-marks.marks.items c.in_ok-kept.kept.items c.in_ok-kept.numbers.items c.requires.ordered
    (subst (λ rules. AreMarked c.args.steps.now rules c.in_ok-marks.marks.items 0) c.deref.ensures.value c.in_ok-marks.ensures)
    (subst (λ marks. IsKept c.args.steps.now marks c.in_ok-kept.kept.items c.in_ok-kept.numbers.items) c.deref-2.ensures.value c.in_ok-kept.ensures.kept) c.in_ok-kept.ensures.count)
