use Rattle.std.proofs.Common.{sym, ap, subst, ◌∙◌, ◌++◌, ◌∷◌, [], length, length-append, add-mul, arith}
use Rattle.alg_table.specs.WordPlaces.{ArePlaceLists}
use Rattle.alg_table.proofs.PlaceLists.{lists-push}
use Rattle.alg_table.proofs.places.add_lists.Goals as goal

pub loop-end-preserved : goal.loop-end-preserved
loop-end-preserved c = record {
  lists = subst (ArePlaceLists c.args.words.now c.args.vertices) (sym c.in_ok-push.ensures)
      (lists-push c.args.words.now c.args.vertices c.loop-end.lists c.args.start c.loop-end.end c.in_ok-places.places c.loop-end-test.true c.loop-end.invariant.count c.in_ok-places.ensures c.loop-end.invariant.lists);
  count = (let n = c.loop-end.invariant.count in omega (arith, ap length c.in_ok-push.ensures, length-append c.loop-end.lists (c.in_ok-places.places ∷ [])));
}

pub returns-clause-count : goal.returns-clause-count
returns-clause-count c = let n = c.loop-end.invariant.count in let a = c.loop-end.auto.end-end in let t = c.loop-end-test.false in omega (arith, add-mul c.args.start 1 c.args.vertices)
