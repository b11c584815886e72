use Rattle.std.proofs.Common.{◌≡◌, refl, sym, ◌∙◌, ap, arith, cond, ltb}
use Rattle.std.proofs.lemmas.List.{get_or-replicate}
use Rattle.std.proofs.lemmas.Bool.{le-ltb}
use Rattle.quiver_paths.specs.Quiver.{vertex_count}
use Rattle.quiver_paths.proofs.CountingSteps.{CountsPaths-trivial}
use Rattle.quiver_paths.proofs.counting.trivial_counts.Goals as goal

pub loop-v-init : goal.loop-v-init
loop-v-init c = (refl, λ k h. get_or-replicate 32 k 0 0 h ∙ sym (ap (λ b. cond b 1 0) (le-ltb k 0 (omega arith))))

pub returns : goal.returns
returns c =
    let all : c.loop-v.v ≡ vertex_count c.args.quiver.now = omega arith in
    CountsPaths-trivial c.args.quiver.now c.loop-v.counts c.loop-v.invariant.0 (λ k h. c.loop-v.invariant.1 k h ∙ ap (λ n. cond (ltb k n) 1 0) all)
