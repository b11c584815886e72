use Rattle.std.proofs.Common.{ℕ, ◌≡◌, ◌*◌, sym, ap, subst, ◌∙◌, length, arith}
use Rattle.alg_table.specs.WordPlaces.{ArePlaceLists}
use Rattle.alg_table.proofs.PlaceLists.{lists-none}
use Rattle.alg_table.proofs.places.place_lists.Goals as goal

pub loop-start-init : goal.loop-start-init
loop-start-init c = record {
  lists = subst (ArePlaceLists c.args.words.now c.args.vertices) (sym c.new-lists.ensures) (lists-none c.args.words.now c.args.vertices);
  count = (let e : ◌≡◌ {A = ℕ} (length c.new-lists.result) 0 = ap length c.new-lists.ensures in omega arith);
}

pub returns-clause-count : goal.returns-clause-count
returns-clause-count c =
    let all : c.loop-start.start ≡ c.args.vertices = (let a = c.loop-start.auto.start-end in let t = c.loop-start-test.false in omega arith) in
    c.loop-start.invariant.count ∙ ap (λ n. n * c.args.vertices) all
