use Rattle.std.proofs.Common.{ℕ, ◌≡◌, ◌+◌, List, length, get_or, ap, sym, subst, ◌∙◌, arith}
use Rattle.path_algebra.specs.declared.rules.Step.{Step}
use Rattle.path_algebra.specs.declared.rules.Step.TheVariants.{Relation}
use Rattle.path_algebra.specs.Derivations.{element_at, step_element, step_elements}
use Rattle.alg_table.specs.LastUses.{KeepsNamed, AreInUse}
use Rattle.alg_table.proofs.KeptElements.{names_numbers, element_is, kept_for_rules}
use Rattle.alg_table.proofs.elements.elements_for_rules.Goals as goal

pub last_uses-requires-clause-earlier : goal.last_uses-requires-clause-earlier
last_uses-requires-clause-earlier c k s l = names_numbers c.args.header.now k _ (c.requires.steps.named.named k s l)

pub loop-step-preserved : goal.loop-step-preserved
loop-step-preserved c =
    let h = c.args.header.now in
    let steps = c.args.steps.now in
    let xs = step_elements h steps in
    let at = c.loop-step.step-index in
    let step : Step = get_or steps at (Relation 0) in
    let elements = c.loop-step.elements.items in
    let count : length elements ≡ at = c.loop-step.invariant.count in
    let lasts : c.deref.result.now ≡ c.in_ok-lasts.lasts.items = c.deref.ensures.value in
    let value : element_at xs (length elements + 1) ≡ step_element h xs step = ap (λ (k : ℕ). element_at xs (k + 1)) count ∙ element_is h steps c.requires.steps.named at (Relation 0) c.loop-step-test.true in
    let noted : KeepsNamed c.in_ok-lasts.lasts.items at step = c.in_ok-lasts.ensures.named at (Relation 0) c.loop-step-test.true in
    let kept : KeepsNamed c.deref.result.now (length elements) step = subst (λ (ls : List ℕ). KeepsNamed ls (length elements) step) (sym lasts) (subst (λ (k : ℕ). KeepsNamed c.in_ok-lasts.lasts.items k step) (sym count) noted) in
    let held : AreInUse h xs c.deref.result.now elements = subst (λ (ls : List ℕ). AreInUse h xs ls elements) (sym lasts) c.loop-step.invariant.in_use in
    record {
      count = (let one = c.in_ok-push_element.ensures.count in omega (arith, one, count));
      in_use = subst (λ (ls : List ℕ). AreInUse h xs ls c.push_element.new.elements.items) lasts (c.in_ok-push_element.ensures.in_use xs value kept held);
    }

pub returns-clause-rules : goal.returns-clause-rules
returns-clause-rules c =
    kept_for_rules c.args.header.now (step_elements c.args.header.now c.args.steps.now) c.args.steps.now c.args.rules.now c.in_ok-lasts.lasts.items c.loop-step.elements.items
    c.in_ok-lasts.ensures (let a = c.loop-step.invariant.count in omega arith) c.requires.steps.derived c.loop-step.invariant.in_use
