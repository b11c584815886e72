use Rattle.std.proofs.Common.{◌≡◌, ◌<◌, ◌∙◌, sym, ap, subst, arith}
use Rattle.quiver_paths.specs.Quiver.{vertex_count}
use Rattle.representations.specs.RadicalModule.{arrow_rows}
use Rattle.projectives.specs.Canonical.{free_places}
use Rattle.module_types.specs.Algebras.{algebra_at}
use Rattle.module_types.specs.Readings.{read}
use Rattle.module_operations.specs.VertexSpaces.{IsFormOf}
use Rattle.standard_modules.proofs.Modules.{vertices_at}
use Rattle.proj_cover.specs.CanonicalTerms.{term_of}
use Rattle.proj_cover.proofs.Columns.{places_none, places_more}
use Rattle.proj_cover.proofs.generators.canonical_term.Goals as goal

pub loop-w-init : goal.loop-w-init
loop-w-init c = (λ k. record { vertices = c.new.ensures k; images = c.new-2.ensures k }) ∙ ap (term_of (read c.args.header.now c.args.m.now)) (sym (places_none (read c.args.header.now c.args.m.now)))

pub loop-w-preserved : goal.loop-w-preserved
loop-w-preserved c =
    let X = read c.args.header.now c.args.m.now in
    let l : c.loop-w.w < vertex_count c.args.header.now.quiver = omega (arith, c.loop-w-test.true, c.len-w-end.ensures, c.requires.forms.counted) in
    let form = subst (IsFormOf (arrow_rows X c.loop-w.w)) (sym c.index.ensures) (c.requires.forms.each c.loop-w.w c.index.result.now l) in
    c.in_ok-add_vertex.ensures _ _ X (free_places X c.loop-w.w) form c.loop-w.invariant ∙ ap (term_of X) (sym (places_more X c.loop-w.w))

pub returns : goal.returns
returns c =
    let h = c.args.header.now in
    let X = read h c.args.m.now in
    let end : c.loop-w.w ≡ (algebra_at c.args.m.now.side h).quiver.vertices = omega (arith, c.loop-w-test.false, c.loop-w.auto.w-end, c.len-w-end.ensures, c.requires.forms.counted, vertices_at c.args.m.now.side h) in
    c.loop-w.invariant ∙ ap (λ n. term_of X (free_places X n)) end
