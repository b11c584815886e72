use Rattle.std.proofs.Common.{◌<◌, ◌-◌, [], ◌∷◌, length, sym, subst}
use Rattle.path_reduction.specs.ShortPaths.{IsWalked}
use Rattle.path_reduction.proofs.Walks.{stuck_at_entry, walked_entry}
use Rattle.path_reduction.proofs.short_paths.ShortPaths.follow.Goals as goal

pub returns-then-next-eq0-clause-none : goal.returns-then-next-eq0-clause-none
returns-then-next-eq0-clause-none c more k w =
    stuck_at_entry c.self.inside.paths.items c.self.inside.arrows c.self.inside.behind.items c.args.place c.args.arrow c.index-next.result.now c.self.invariant
    (subst (λ ps. c.args.place < length ps) (sym c.self.view_is) c.requires) c.if-arrow-self.false c.index-next.ensures c.if-next-eq0.true more k
    (subst (λ ps. IsWalked ps c.args.place (c.args.arrow ∷ more) k) (sym c.self.view_is) w)

pub returns-clause-some : goal.returns-clause-some
returns-clause-some c =
    subst (λ ps. IsWalked ps c.args.place (c.args.arrow ∷ []) (c.index-next.result.now - 1)) c.self.view_is
    (walked_entry c.self.inside.paths.items c.self.inside.arrows c.self.inside.behind.items c.args.place c.args.arrow c.index-next.result.now c.self.invariant
    (subst (λ ps. c.args.place < length ps) (sym c.self.view_is) c.requires) c.if-arrow-self.false c.index-next.ensures c.if-next-eq0.false)
