use Rattle.std.proofs.Common.{◌-◌, length, arith, ap, refl, sym, subst}
use Rattle.quiver_paths.specs.Path.{path_length}
use Rattle.std.specs.Prelude.{All}
use Rattle.std.proofs.lemmas.List.Elements.{All-push}
use Rattle.path_basis.specs.Completing.{IsObstruction}
use Rattle.path_basis.proofs.Overlaps.{overlap_is_obstruction, shared_from_test, overlap_arrows}
use Rattle.path_basis.proofs.obstructions.push_overlap.Goals as goal

pub returns : goal.returns
returns c =
    let h = c.args.header.now in
    let first = c.args.first.now in
    let second = c.args.second.now in
    let e = c.as_slice-front.ensures in
    let f = c.as_slice-rest.ensures in
    subst (All (IsObstruction h)) (sym c.in_ok-push.ensures.items) (All-push (IsObstruction h) c.args.found.now.items _ c.requires.found
    (overlap_is_obstruction h first second c.args.cut (path_length first - c.args.cut) _ _ _ c.requires.first c.requires.second c.requires.inside refl (omega (arith, c.if-rest-common.false, ap length e, ap length f))
    (shared_from_test first.arrows second.arrows c.as_slice-front.result.now c.as_slice-rest.result.now c.args.cut e f c.if-ne.ensures)
    (overlap_arrows first.arrows second.arrows c.as_slice-front.result.now c.as_slice-rest.result.now c.in_ok-arrows.arrows.items c.extend_from_slice.new.self.items _ c.args.cut e f
    c.in_ok-arrows.ensures.items c.in_ok-extend_from_slice.ensures.items c.from_vec.ensures)
    (omega (arith, c.len-end.ensures, c.extend_from_slice.new.self.ok.0, ap length c.from_vec.ensures))))
