use Rattle.std.proofs.Common.{get_or, refl, arith}
use Rattle.word_products.proofs.TouchedRows.{cleared-none, cleared-more, cleared-all}
use Rattle.word_products.proofs.touched.make_zero.Goals as goal

pub loop-k-init : goal.loop-k-init
loop-k-init c q n h = cleared-none q n c.args.places.now c.args.row.now h

pub bounds-row-places : goal.bounds-row-places
bounds-row-places c = let b = c.requires c.loop-k.k 0 (omega arith) in omega arith

pub loop-k-preserved : goal.loop-k-preserved
loop-k-preserved c q n h = cleared-more q n c.args.places.now c.loop-k.row c.loop-k.k (get_or c.args.places.now c.loop-k.k 0) (c.loop-k.invariant q n h) refl (h.inside c.loop-k.k 0 (omega arith))

pub returns : goal.returns
returns c q n h = cleared-all q n c.args.places.now c.loop-k.row c.loop-k.k (c.loop-k.invariant q n h) (omega arith)
