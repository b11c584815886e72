use Rattle.std.proofs.Common.{sym, subst, arith}
use Rattle.std.specs.Prelude.{All}
use Rattle.path_basis.specs.Completing.{IsObstruction}
use Rattle.path_basis.proofs.Growing.{completion_begins}
use Rattle.path_basis.proofs.completion.from_relations.Goals as goal

pub loop-i-init : goal.loop-i-init
loop-i-init c = record {
  completion = completion_begins c.args.header.now _ _ _ c.requires.few c.new.ensures.items c.new-3.ensures.items c.new-2.ensures.items;
  obstructions = subst (All (IsObstruction c.args.header.now)) (sym c.new-4.ensures.items) (λ k d l. absurd (omega (arith, l)));
}
