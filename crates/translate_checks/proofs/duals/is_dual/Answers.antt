use Rattle.std.proofs.Common.{◌≡◌, ◌<◌, sym, ◌∙◌, arith, subst}
use Rattle.quiver_paths.specs.Quiver.{arrow_count}
use Rattle.module_types.specs.Algebras.{algebra_at, other_side}
use Rattle.translate_checks.specs.Duals.{AreTransposed}
use Rattle.translate_checks.proofs.Ends.{arrows_at_side}
use Rattle.translate_checks.proofs.DualTests.{across_shape, transposed-more, dual_yes, dims_no, transposed_no, rows_turned}
use Rattle.translate_checks.proofs.duals.is_dual.Goals as goal

pub returns-then-not-same_side : goal.returns-then-not-same_side
returns-then-not-same_side c = λ d.
    c.if-not-same_side.ensures (d.side ∙ sym c.other.ensures)

pub same_dims-requires : goal.same_dims-requires
same_dims-requires c =
    let h = c.args.header.now in
    let a = c.args.a.now in
    let b = c.args.b.now in
    let Q = (algebra_at a.side h).quiver in
    let e : b.side ≡ other_side a.side = c.if-not-same_side.ensures ∙ c.other.ensures in
    let B = across_shape h a.side b.side b e c.requires.b in
    B.counted ∙ sym c.requires.a.counted

pub returns-then-not-same_dims : goal.returns-then-not-same_dims
returns-then-not-same_dims c = λ d.
    let h = c.args.header.now in
    let a = c.args.a.now in
    let b = c.args.b.now in
    let Q = (algebra_at a.side h).quiver in
    let e : b.side ≡ other_side a.side = c.if-not-same_side.ensures ∙ c.other.ensures in
    let B = across_shape h a.side b.side b e c.requires.b in
    c.if-not-same_dims.ensures (dims_no h.field Q a b c.requires.a B d.is)

pub index-requires : goal.index-requires
index-requires c =
    let h = c.args.header.now in
    let a = c.args.a.now in
    let b = c.args.b.now in
    let Q = (algebra_at a.side h).quiver in
    let e : b.side ≡ other_side a.side = c.if-not-same_side.ensures ∙ c.other.ensures in
    let B = across_shape h a.side b.side b e c.requires.b in
    let k = c.loop-k.k in
    let l : k < arrow_count h.quiver = omega (arith, c.loop-k-test.true, c.len-k-end.ensures) in
    let s = arrows_at_side a.side h in
    let kb : k < Q.arrows = omega (arith, l, s) in
    let ca = c.requires.a.matrices.counted in
    let cb = B.matrices.counted in
    omega (arith, kb, ca)

pub index-requires-in-loop-k : goal.index-requires-in-loop-k
index-requires-in-loop-k c =
    let h = c.args.header.now in
    let a = c.args.a.now in
    let b = c.args.b.now in
    let Q = (algebra_at a.side h).quiver in
    let e : b.side ≡ other_side a.side = c.if-not-same_side.ensures ∙ c.other.ensures in
    let B = across_shape h a.side b.side b e c.requires.b in
    let k = c.loop-k.k in
    let l : k < arrow_count h.quiver = omega (arith, c.loop-k-test.true, c.len-k-end.ensures) in
    let s = arrows_at_side a.side h in
    let kb : k < Q.arrows = omega (arith, l, s) in
    let ca = c.requires.a.matrices.counted in
    let cb = B.matrices.counted in
    omega (arith, kb, cb)

pub is_transposed-requires-clause-rows : goal.is_transposed-requires-clause-rows
is_transposed-requires-clause-rows c =
    let h = c.args.header.now in
    let a = c.args.a.now in
    let b = c.args.b.now in
    let Q = (algebra_at a.side h).quiver in
    let e : b.side ≡ other_side a.side = c.if-not-same_side.ensures ∙ c.other.ensures in
    let B = across_shape h a.side b.side b e c.requires.b in
    let k = c.loop-k.k in
    let l : k < arrow_count h.quiver = omega (arith, c.loop-k-test.true, c.len-k-end.ensures) in
    let s = arrows_at_side a.side h in
    let kb : k < Q.arrows = omega (arith, l, s) in
    let ca = c.requires.a.matrices.counted in
    let cb = B.matrices.counted in
    (rows_turned h.field Q a b c.requires.a B k c.index.result.now c.index-in-loop-k.result.now kb c.index.ensures c.index-in-loop-k.ensures c.if-not-same_dims.ensures).0

pub is_transposed-requires-clause-columns : goal.is_transposed-requires-clause-columns
is_transposed-requires-clause-columns c =
    let h = c.args.header.now in
    let a = c.args.a.now in
    let b = c.args.b.now in
    let Q = (algebra_at a.side h).quiver in
    let e : b.side ≡ other_side a.side = c.if-not-same_side.ensures ∙ c.other.ensures in
    let B = across_shape h a.side b.side b e c.requires.b in
    let k = c.loop-k.k in
    let l : k < arrow_count h.quiver = omega (arith, c.loop-k-test.true, c.len-k-end.ensures) in
    let s = arrows_at_side a.side h in
    let kb : k < Q.arrows = omega (arith, l, s) in
    let ca = c.requires.a.matrices.counted in
    let cb = B.matrices.counted in
    (rows_turned h.field Q a b c.requires.a B k c.index.result.now c.index-in-loop-k.result.now kb c.index.ensures c.index-in-loop-k.ensures c.if-not-same_dims.ensures).1

pub returns-then-not-is_transposed : goal.returns-then-not-is_transposed
returns-then-not-is_transposed c = λ d.
    let h = c.args.header.now in
    let a = c.args.a.now in
    let b = c.args.b.now in
    let Q = (algebra_at a.side h).quiver in
    let e : b.side ≡ other_side a.side = c.if-not-same_side.ensures ∙ c.other.ensures in
    let B = across_shape h a.side b.side b e c.requires.b in
    let k = c.loop-k.k in
    let l : k < arrow_count h.quiver = omega (arith, c.loop-k-test.true, c.len-k-end.ensures) in
    let s = arrows_at_side a.side h in
    let kb : k < Q.arrows = omega (arith, l, s) in
    let ca = c.requires.a.matrices.counted in
    let cb = B.matrices.counted in
    c.if-not-is_transposed.ensures (transposed_no h.field Q a b c.requires.a B k c.index.result.now c.index-in-loop-k.result.now kb c.index.ensures c.index-in-loop-k.ensures d.is)

pub loop-k-preserved : goal.loop-k-preserved
loop-k-preserved c =
    let h = c.args.header.now in
    let a = c.args.a.now in
    let b = c.args.b.now in
    let Q = (algebra_at a.side h).quiver in
    let e : b.side ≡ other_side a.side = c.if-not-same_side.ensures ∙ c.other.ensures in
    let B = across_shape h a.side b.side b e c.requires.b in
    let k = c.loop-k.k in
    let l : k < arrow_count h.quiver = omega (arith, c.loop-k-test.true, c.len-k-end.ensures) in
    let s = arrows_at_side a.side h in
    let kb : k < Q.arrows = omega (arith, l, s) in
    let ca = c.requires.a.matrices.counted in
    let cb = B.matrices.counted in
    transposed-more a.matrices b.matrices k c.index.result.now c.index-in-loop-k.result.now c.index.ensures c.index-in-loop-k.ensures (omega (arith, kb, ca)) (omega (arith, kb, cb)) c.if-not-is_transposed.ensures c.loop-k.invariant

pub returns : goal.returns
returns c =
    let h = c.args.header.now in
    let a = c.args.a.now in
    let b = c.args.b.now in
    let Q = (algebra_at a.side h).quiver in
    let e : b.side ≡ other_side a.side = c.if-not-same_side.ensures ∙ c.other.ensures in
    let B = across_shape h a.side b.side b e c.requires.b in
    let n : c.loop-k.k ≡ Q.arrows = (let s = arrows_at_side a.side h in omega (arith, s, c.loop-k-test.false, c.loop-k.auto.k-end, c.len-k-end.ensures)) in
    record { side = e; is = dual_yes h.field Q a b c.requires.a B c.if-not-same_dims.ensures (subst (AreTransposed a.matrices b.matrices) n c.loop-k.invariant) }
