use Rattle.std.proofs.Common.{◌<◌, ◌∙◌, sym, arith}
use Rattle.quiver_paths.specs.Quiver.{arrow_count}
use Rattle.module_types.specs.Algebras.{algebra_at}
use Rattle.module_types.specs.Readings.{rep_of}
use Rattle.module_checks.proofs.Sides.{arrows_at, target_inside, source_inside}
use Rattle.module_checks.proofs.Squares.{end_in_map, corners, square_added, squares_all}
use Rattle.module_faults.proofs.Arrows.{square_off}
use Rattle.module_faults.proofs.maps.first_failing_arrow.Goals as goal

pub index-target-requires : goal.index-target-requires
index-target-requires c =
    let l : c.loop-k.k < arrow_count c.args.header.now.quiver = omega (arith, c.len-k-end.ensures, c.loop-k-test.true) in
    end_in_map c.args.header.now c.requires.allowed c.args.a.now c.args.b.now c.args.matrices.now c.requires.a.shape c.requires.b.shape c.requires.matrices c.requires.side c.loop-k.k l _ c.target_at.result c.target_at.ensures (target_inside c.args.a.now.side c.args.header.now c.requires.allowed.quiver.ends c.loop-k.k l)

pub index-source-requires : goal.index-source-requires
index-source-requires c =
    let l : c.loop-k.k < arrow_count c.args.header.now.quiver = omega (arith, c.len-k-end.ensures, c.loop-k-test.true) in
    end_in_map c.args.header.now c.requires.allowed c.args.a.now c.args.b.now c.args.matrices.now c.requires.a.shape c.requires.b.shape c.requires.matrices c.requires.side c.loop-k.k l _ c.source_at.result c.source_at.ensures (source_inside c.args.a.now.side c.args.header.now c.requires.allowed.quiver.ends c.loop-k.k l)

pub products_agree-requires-clause-b_field : goal.products_agree-requires-clause-b_field
products_agree-requires-clause-b_field c =
    let l : c.loop-k.k < arrow_count c.args.header.now.quiver = omega (arith, c.len-k-end.ensures, c.loop-k-test.true) in
    let k = corners c.args.header.now c.requires.allowed c.args.a.now c.args.b.now c.args.matrices.now c.requires.a.shape c.requires.b.shape c.requires.matrices c.requires.side c.loop-k.k l c.target_at.result c.source_at.result c.index.result.now c.index-target.result.now c.index-source.result.now c.index-in-loop-k.result.now c.target_at.ensures c.source_at.ensures c.index.ensures c.index-target.ensures c.index-source.ensures c.index-in-loop-k.ensures in
    k.target_field

pub products_agree-requires-clause-c_field : goal.products_agree-requires-clause-c_field
products_agree-requires-clause-c_field c =
    let l : c.loop-k.k < arrow_count c.args.header.now.quiver = omega (arith, c.len-k-end.ensures, c.loop-k-test.true) in
    let k = corners c.args.header.now c.requires.allowed c.args.a.now c.args.b.now c.args.matrices.now c.requires.a.shape c.requires.b.shape c.requires.matrices c.requires.side c.loop-k.k l c.target_at.result c.source_at.result c.index.result.now c.index-target.result.now c.index-source.result.now c.index-in-loop-k.result.now c.target_at.ensures c.source_at.ensures c.index.ensures c.index-target.ensures c.index-source.ensures c.index-in-loop-k.ensures in
    k.source_field

pub products_agree-requires-clause-ab : goal.products_agree-requires-clause-ab
products_agree-requires-clause-ab c =
    let l : c.loop-k.k < arrow_count c.args.header.now.quiver = omega (arith, c.len-k-end.ensures, c.loop-k-test.true) in
    let k = corners c.args.header.now c.requires.allowed c.args.a.now c.args.b.now c.args.matrices.now c.requires.a.shape c.requires.b.shape c.requires.matrices c.requires.side c.loop-k.k l c.target_at.result c.source_at.result c.index.result.now c.index-target.result.now c.index-source.result.now c.index-in-loop-k.result.now c.target_at.ensures c.source_at.ensures c.index.ensures c.index-target.ensures c.index-source.ensures c.index-in-loop-k.ensures in
    k.first.col_count ∙ sym k.at_target.row_count

pub products_agree-requires-clause-cd : goal.products_agree-requires-clause-cd
products_agree-requires-clause-cd c =
    let l : c.loop-k.k < arrow_count c.args.header.now.quiver = omega (arith, c.len-k-end.ensures, c.loop-k-test.true) in
    let k = corners c.args.header.now c.requires.allowed c.args.a.now c.args.b.now c.args.matrices.now c.requires.a.shape c.requires.b.shape c.requires.matrices c.requires.side c.loop-k.k l c.target_at.result c.source_at.result c.index.result.now c.index-target.result.now c.index-source.result.now c.index-in-loop-k.result.now c.target_at.ensures c.source_at.ensures c.index.ensures c.index-target.ensures c.index-source.ensures c.index-in-loop-k.ensures in
    k.at_source.col_count ∙ sym k.second.row_count

pub products_agree-requires-clause-columns : goal.products_agree-requires-clause-columns
products_agree-requires-clause-columns c =
    let l : c.loop-k.k < arrow_count c.args.header.now.quiver = omega (arith, c.len-k-end.ensures, c.loop-k-test.true) in
    let k = corners c.args.header.now c.requires.allowed c.args.a.now c.args.b.now c.args.matrices.now c.requires.a.shape c.requires.b.shape c.requires.matrices c.requires.side c.loop-k.k l c.target_at.result c.source_at.result c.index.result.now c.index-target.result.now c.index-source.result.now c.index-in-loop-k.result.now c.target_at.ensures c.source_at.ensures c.index.ensures c.index-target.ensures c.index-source.ensures c.index-in-loop-k.ensures in
    k.at_target.col_count ∙ sym k.second.col_count

pub products_agree-requires-clause-rows : goal.products_agree-requires-clause-rows
products_agree-requires-clause-rows c =
    let l : c.loop-k.k < arrow_count c.args.header.now.quiver = omega (arith, c.len-k-end.ensures, c.loop-k-test.true) in
    let k = corners c.args.header.now c.requires.allowed c.args.a.now c.args.b.now c.args.matrices.now c.requires.a.shape c.requires.b.shape c.requires.matrices c.requires.side c.loop-k.k l c.target_at.result c.source_at.result c.index.result.now c.index-target.result.now c.index-source.result.now c.index-in-loop-k.result.now c.target_at.ensures c.source_at.ensures c.index.ensures c.index-target.ensures c.index-source.ensures c.index-in-loop-k.ensures in
    k.first.row_count ∙ sym k.at_source.row_count

pub returns-then-not-products_agree : goal.returns-then-not-products_agree
returns-then-not-products_agree c =
    let Q = (algebra_at c.args.a.now.side c.args.header.now).quiver in
    let X = rep_of c.args.header.now.field Q c.args.a.now in
    let Y = rep_of c.args.header.now.field Q c.args.b.now in
    let l : c.loop-k.k < arrow_count c.args.header.now.quiver = omega (arith, c.len-k-end.ensures, c.loop-k-test.true) in
    let k = corners c.args.header.now c.requires.allowed c.args.a.now c.args.b.now c.args.matrices.now c.requires.a.shape c.requires.b.shape c.requires.matrices c.requires.side c.loop-k.k l c.target_at.result c.source_at.result c.index.result.now c.index-target.result.now c.index-source.result.now c.index-in-loop-k.result.now c.target_at.ensures c.source_at.ensures c.index.ensures c.index-target.ensures c.index-source.ensures c.index-in-loop-k.ensures in
    record {
      side = c.requires.side;
      shape = c.requires.matrices;
      arrow = l;
      before = c.loop-k.invariant.square;
      fails = square_off X Y c.args.matrices.now c.loop-k.k c.index.result.now c.index-target.result.now c.index-source.result.now c.index-in-loop-k.result.now k c.if-not-products_agree.ensures;
    }

pub loop-k-preserved : goal.loop-k-preserved
loop-k-preserved c =
    let Q = (algebra_at c.args.a.now.side c.args.header.now).quiver in
    let X = rep_of c.args.header.now.field Q c.args.a.now in
    let Y = rep_of c.args.header.now.field Q c.args.b.now in
    let l : c.loop-k.k < arrow_count c.args.header.now.quiver = omega (arith, c.len-k-end.ensures, c.loop-k-test.true) in
    let k = corners c.args.header.now c.requires.allowed c.args.a.now c.args.b.now c.args.matrices.now c.requires.a.shape c.requires.b.shape c.requires.matrices c.requires.side c.loop-k.k l c.target_at.result c.source_at.result c.index.result.now c.index-target.result.now c.index-source.result.now c.index-in-loop-k.result.now c.target_at.ensures c.source_at.ensures c.index.ensures c.index-target.ensures c.index-source.ensures c.index-in-loop-k.ensures in
    square_added X Y c.args.matrices.now c.loop-k.k c.index.result.now c.index-target.result.now c.index-source.result.now c.index-in-loop-k.result.now k c.loop-k.invariant c.if-not-products_agree.ensures

pub returns : goal.returns
returns c =
    let Q = (algebra_at c.args.a.now.side c.args.header.now).quiver in
    let X = rep_of c.args.header.now.field Q c.args.a.now in
    let Y = rep_of c.args.header.now.field Q c.args.b.now in
    let e = arrows_at c.args.a.now.side c.args.header.now in
    record { side = c.requires.side; hom = squares_all X Y c.args.matrices.now c.loop-k.k (omega (arith, c.len-k-end.ensures, c.loop-k-test.false)) c.loop-k.invariant }
