use Rattle.std.proofs.Common.{◌≡◌, ◌+◌, ◌<◌, take, get_or, sym, ap, subst, ◌∙◌}
use Rattle.quiver_paths.specs.Path.{Leads}
use Rattle.header_text.proofs.Uniqueness.{leads_stuck, leads_on}
use Rattle.quiver_paths.proofs.QuiverLemmas.{source_is, target_is}
use Rattle.quiver_paths.specs.Quiver.{arrow_count, source, target}
use Rattle.quiver_paths.specs.declared.Arrow.{Arrow}
use Rattle.header_text.proofs.tokens.end_of.Goals as goal

pub returns-then-arrow-at : goal.returns-then-arrow-at
returns-then-arrow-at c =
    let a = get_or c.args.arrows.now c.loop-arrow.arrow-index 0 in
    let place : a < arrow_count c.args.quiver.now = c.requires.places c.loop-arrow.arrow-index 0 c.loop-arrow-test.true in
    leads_stuck c.args.quiver.now c.args.start c.args.arrows.now c.loop-arrow.arrow-index 0 c.loop-arrow.at c.loop-arrow-test.true c.loop-arrow.invariant
    (λ e. c.if-arrow-at.true (ap (λ (r : Arrow). r.from) c.index-arrow.ensures ∙ (sym (source_is c.args.quiver.now a c.index-arrow.result.now place) ∙ e)))

pub loop-arrow-preserved : goal.loop-arrow-preserved
loop-arrow-preserved c =
    let a = get_or c.args.arrows.now c.loop-arrow.arrow-index 0 in
    let place : a < arrow_count c.args.quiver.now = c.requires.places c.loop-arrow.arrow-index 0 c.loop-arrow-test.true in
    let starts : source c.args.quiver.now a ≡ c.loop-arrow.at =
    source_is c.args.quiver.now a c.index-arrow.result.now place ∙ (sym (ap (λ (r : Arrow). r.from) c.index-arrow.ensures) ∙ c.if-arrow-at.false) in
    let ends : target c.args.quiver.now a ≡ c.index-arrow.result.now.to =
    target_is c.args.quiver.now a c.index-arrow.result.now place ∙ sym (ap (λ (r : Arrow). r.to) c.index-arrow.ensures) in
    subst (λ w. Leads c.args.quiver.now c.args.start (take (c.loop-arrow.arrow-index + 1) c.args.arrows.now) w) ends
    (leads_on c.args.quiver.now c.args.start c.args.arrows.now c.loop-arrow.arrow-index 0 c.loop-arrow.at c.loop-arrow-test.true c.loop-arrow.invariant place starts)
