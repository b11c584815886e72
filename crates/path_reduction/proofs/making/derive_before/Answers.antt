use Rattle.std.proofs.Common.{◌≡◌, ◌<◌, ◌+◌, ◌-◌, [], ◌∷◌, ◌++◌, drop, ap, sym, ◌∙◌, subst, length, length-append, arith, get_or}
use Rattle.std.proofs.lemmas.List.{drop_more, drop_all}
use Rattle.path_algebra.specs.declared.rules.Step.TheVariants.{Left}
use Rattle.path_reduction.specs.Derived.{MakesBefore}
use Rattle.path_reduction.proofs.Deriving.{Lengthens-same, Lengthens-push, makes_before_none, makes_before_more}
use Rattle.path_reduction.proofs.making.derive_before.Goals as goal

pub loop-done-init : goal.loop-done-init
loop-done-init c = record {
  count = omega arith;
  lengthens = Lengthens-same c.args.steps.now.items;
  makes = subst (λ xs. MakesBefore xs c.args.steps.now.items c.args.number c.args.steps.now.items c.args.number) (sym (drop_all (length c.args.arrows.now - 0) c.args.arrows.now (omega arith)))
      (makes_before_none c.args.steps.now.items c.args.number);
}

pub loop-done-preserved : goal.loop-done-preserved
loop-done-preserved c =
    let arrows = c.args.arrows.now in
    let k = c.loop-done.done in
    let place : length arrows - (k + 1) + 1 ≡ length arrows - k = (let l = c.loop-done-test.true in omega arith) in
    let inside : length arrows - (k + 1) < length arrows = (let l = c.loop-done-test.true in omega arith) in
    let cut : drop (length arrows - (k + 1)) arrows ≡ get_or arrows (length arrows - (k + 1)) 0 ∷ drop (length arrows - k) arrows =
    drop_more arrows (length arrows - (k + 1)) 0 inside ∙ ap (λ n. get_or arrows (length arrows - (k + 1)) 0 ∷ drop n arrows) place in
    record {
      count = ap length c.in_ok-last.ensures.pushed ∙ length-append c.loop-done.steps.items _ ∙ (let n = c.loop-done.invariant.count in omega arith);
      lengthens = Lengthens-push c.args.steps.now.items c.loop-done.steps.items c.push_step.new.steps.items _ c.loop-done.invariant.lengthens c.in_ok-last.ensures.pushed;
      makes = subst (λ xs. MakesBefore xs c.args.steps.now.items c.args.number c.push_step.new.steps.items c.in_ok-last.last) (sym cut)
          (makes_before_more (drop (length arrows - k) arrows) c.args.steps.now.items c.loop-done.steps.items c.push_step.new.steps.items c.args.number c.loop-done.last c.in_ok-last.last
          (get_or arrows (length arrows - (k + 1)) 0) (c.in_ok-last.ensures.pushed ∙ ap (λ n. c.loop-done.steps.items ++ Left (get_or arrows n 0) c.loop-done.last ∷ []) (omega arith))
          c.in_ok-last.ensures.number c.loop-done.invariant.makes);
    }
