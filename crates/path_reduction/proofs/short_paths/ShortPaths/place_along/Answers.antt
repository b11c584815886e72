use Rattle.std.proofs.Common.{◌++◌, arith}
use Rattle.path_reduction.proofs.Walks.{vertex_starts, along_apart, along_outside, along_stuck, along_some, along_none}
use Rattle.path_reduction.proofs.short_paths.ShortPaths.place_along.Goals as goal

pub returns-then-index-vertex-clause-none : goal.returns-then-index-vertex-clause-none
returns-then-index-vertex-clause-none c =
    along_apart c.self.inside.paths.items c.args.self.now c.self.inside.arrows c.self.inside.behind.items c.args.vertex c.index.result.now (c.args.first.now ++ (c.args.second.now ++ c.args.third.now))
    c.self.invariant c.self.view_is (omega (arith, c.if-start-len.false, c.len.ensures)) c.index.ensures c.if-index-vertex.true

pub returns-in-None-clause-none : goal.returns-in-None-clause-none
returns-in-None-clause-none c =
    along_stuck c.args.self.now c.args.vertex c.args.first.now (c.args.second.now ++ c.args.third.now)
    (vertex_starts c.self.inside.paths.items c.args.self.now c.self.inside.arrows c.self.inside.behind.items c.args.vertex c.index.result.now c.self.invariant c.self.view_is
    (omega (arith, c.if-start-len.false, c.len.ensures)) c.index.ensures c.if-index-vertex.false)
    c.in-None.ensures.none

pub returns-in-Some-clause-some : goal.returns-in-Some-clause-some
returns-in-Some-clause-some c =
    along_some c.args.self.now c.args.vertex c.in-Some.at c.args.first.now (c.args.second.now ++ c.args.third.now) c.walk_on.result
    (vertex_starts c.self.inside.paths.items c.args.self.now c.self.inside.arrows c.self.inside.behind.items c.args.vertex c.index.result.now c.self.invariant c.self.view_is
    (omega (arith, c.if-start-len.false, c.len.ensures)) c.index.ensures c.if-index-vertex.false)
    c.in-Some.ensures.some c.walk_on.ensures.some

pub returns-in-Some-clause-none : goal.returns-in-Some-clause-none
returns-in-Some-clause-none c =
    along_none c.args.self.now c.args.vertex c.in-Some.at c.args.first.now (c.args.second.now ++ c.args.third.now) c.walk_on.result
    (vertex_starts c.self.inside.paths.items c.args.self.now c.self.inside.arrows c.self.inside.behind.items c.args.vertex c.index.result.now c.self.invariant c.self.view_is
    (omega (arith, c.if-start-len.false, c.len.ensures)) c.index.ensures c.if-index-vertex.false)
    c.in-Some.ensures.some c.walk_on.ensures.none

pub returns-then-start-len-clause-none : goal.returns-then-start-len-clause-none
returns-then-start-len-clause-none c =
    along_outside c.self.inside.paths.items c.args.self.now c.self.inside.arrows c.self.inside.behind.items c.args.vertex (c.args.first.now ++ (c.args.second.now ++ c.args.third.now))
    c.self.invariant c.self.view_is (omega (arith, c.if-start-len.true, c.len.ensures))
