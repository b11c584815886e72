use Rattle.std.proofs.Common.{ℕ, ◌≡◌, ◌∙◌, ◌+◌, List, length, get_or, ap, arith}
use Rattle.std.proofs.lemmas.List.{length_push}
use Rattle.path_algebra.specs.declared.rules.Step.TheVariants.{Relation}
use Rattle.path_basis.specs.Pruning.{renumbered}
use Rattle.path_basis.proofs.Kept.{kept_same, kept_more}
use Rattle.path_basis.proofs.pruning.keep_step.Goals as goal

pub returns-then-not-marks-place-clause-kept : goal.returns-then-not-marks-place-clause-kept
returns-then-not-marks-place-clause-kept c =
    let place : c.len-place.result ≡ length c.args.numbers.now.items = (let a = c.len-place.ensures in let b = c.args.numbers.now.ok in omega (arith, a, b)) in
    kept_same c.args.steps.now c.args.marks.now c.args.kept.now.items c.args.numbers.now.items c.push.new.self.items c.len-place.result c.requires.ordered c.requires.next place
    c.if-not-marks-place.true c.in_ok-push.ensures.items c.requires.kept

pub returns-clause-kept : goal.returns-clause-kept
returns-clause-kept c =
    let place : c.len-place.result ≡ length c.args.numbers.now.items = (let a = c.len-place.ensures in let b = c.args.numbers.now.ok in omega (arith, a, b)) in
    let number : c.len.result ≡ length c.args.kept.now.items + 1 =
    (let a = c.len.ensures in let b = c.push-2.new.self.ok in let d = ap length c.in_ok-push-2.ensures.items ∙ length_push c.args.kept.now.items c.renumbered-step.result in omega (arith, a, b, d)) in
    kept_more c.args.steps.now c.args.marks.now c.args.kept.now.items c.push-2.new.self.items c.args.numbers.now.items c.push-3.new.self.items c.len-place.result (Relation 0) c.renumbered-step.result c.len.result c.requires.ordered c.requires.next
    place c.if-not-marks-place.false (c.renumbered-step.ensures ∙ ap (λ (ns : List ℕ). renumbered ns (get_or c.args.steps.now c.len-place.result (Relation 0))) c.deref.ensures.value) c.in_ok-push-2.ensures.items number c.in_ok-push-3.ensures.items c.requires.kept
