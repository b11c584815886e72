use Rattle.std.proofs.Common.{ℕ, List, ◌++◌, sym, subst}
use Rattle.std.specs.Prelude.{IfNone}
use Rattle.path_reduction.specs.ShortPaths.{IsWalked}
use Rattle.path_reduction.proofs.Walks.{walked_stuck}
use Rattle.path_reduction.proofs.short_paths.ShortPaths.walk.Goals as goal

pub returns-in_err-at-clause-none : goal.returns-in_err-at-clause-none
returns-in_err-at-clause-none c =
    subst (λ found. IfNone found ((more : List ℕ) (k : ℕ) → IsWalked c.args.self.now c.args.place (c.args.arrows.now ++ more) k → ⊥)) (sym c.from_residual.ensures)
    (λ more k w. c.in_err-at.ensures.none _ k (walked_stuck c.args.self.now c.args.place c.loop-arrow.at k c.loop-arrow.arrow-index c.args.arrows.now more _ c.loop-arrow-test.true c.loop-arrow.invariant w))
