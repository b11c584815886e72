use Rattle.std.proofs.Common.{◌<◌, ◌++◌, sym, ◌∙◌, ap, arith, length, length-append}
use Rattle.std.proofs.lemmas.List.{append-nil}
use Rattle.quiver_paths.specs.declared.Arrow.{Arrow}
use Rattle.quiver_paths.specs.declared.Path.{Path}
use Rattle.quiver_paths.specs.PathList.{behind_arrow}
use Rattle.quiver_paths.proofs.QuiverLemmas.{target_is}
use Rattle.quiver_paths.proofs.ListingSteps.{between, between-none, push_met, pass_missed, same_read}
use Rattle.quiver_paths.proofs.listing.push_behind.Goals as goal
use Rattle.quiver_paths.proofs.listing.push_behind.Goals.{then-index-target+in_ok-longer+in_ok-push, else-index-target}

pub loop-i-init : goal.loop-i-init
loop-i-init c =
    let Q = c.args.quiver.now in
    let old = c.args.paths.now.items in (
      ap (λ (x : Arrow). x.to) c.index.ensures ∙ sym (target_is Q c.args.arrow c.index.result.now c.requires.arrow),
      sym (append-nil old) ∙ ap (λ ps. old ++ behind_arrow Q ps c.args.arrow) (sym (between-none old c.args.begin)),
    )

pub loop-i-preserved : goal.loop-i-preserved
loop-i-preserved c =
    let Q = c.args.quiver.now in
    let old = c.args.paths.now.items in
    let i = c.loop-i.i in
    let a = c.args.arrow in
    let low : i < length old = omega (arith, c.args.paths.now.ok) in
    let long : i < length c.loop-i.paths.items = omega (arith, ap length c.loop-i.invariant.1, length-append old (behind_arrow Q (between old c.args.begin i) a)) in (
      c.loop-i.invariant.0,
      elim c.if-index-target.branch [
        | then-index-target+in_ok-longer+in_ok-push w ↦
            push_met Q old c.loop-i.paths.items c.if-index-target.paths.items c.args.begin i a w.index-then-index-target.result.now w.in_ok-longer.longer
            c.loop-i.invariant.1 c.loop-i.auto.i low w.index-then-index-target.ensures
            (ap (λ (p : Path). p.start) (same_read c.loop-i.paths.items i w.index-then-index-target.result.now c.index-in-loop-i.result.now long w.index-then-index-target.ensures c.index-in-loop-i.ensures) ∙ w.if-index-target.true ∙ c.loop-i.invariant.0)
            w.in_ok-longer.ensures
            (ap (λ v. v.items) w.paths-is ∙ w.in_ok-push.ensures.items)
        | else-index-target w ↦
            ap (λ v. v.items) w.paths-is
            ∙ pass_missed Q old c.loop-i.paths.items c.args.begin i a c.index-in-loop-i.result.now c.loop-i.invariant.1 c.loop-i.auto.i low c.index-in-loop-i.ensures
            (λ e. w.if-index-target.false (e ∙ sym c.loop-i.invariant.0))
      ],
    )
