use Rattle.std.proofs.Common.{◌≤◌, ◌*◌, length, sym, ap, ◌∙◌, subst, arith}
use Rattle.quiver_paths.specs.Quiver.{arrow_count}
use Rattle.quiver_paths.specs.PathList.{ListsPathsBelow}
use Rattle.quiver_paths.proofs.PathListLemmas.{lists_paths_below}
use Rattle.path_reduction.specs.ShortPaths.{AreBehind, HoldsPaths}
use Rattle.path_reduction.proofs.PathPlaces.{holds_paths}
use Rattle.path_reduction.proofs.short_paths.ShortPaths.new.Goals as goal

pub places_behind-requires-clause-paths : goal.places_behind-requires-clause-paths
places_behind-requires-clause-paths c =
    let h = c.args.header.now in
    subst (ListsPathsBelow h.quiver h.bound) (sym (c.deref.ensures.value ∙ c.in_ok-paths.ensures)) (lists_paths_below h.quiver c.requires.allowed.quiver.ends h.bound)

pub invariant_of-result : goal.invariant_of-result
invariant_of-result c =
    let h = c.args.header.now in
    let ps = c.in_ok-paths.paths.items in
    let lists = subst (ListsPathsBelow h.quiver h.bound) (sym c.in_ok-paths.ensures) (lists_paths_below h.quiver c.requires.allowed.quiver.ends h.bound) in
    subst (λ n. HoldsPaths ps n c.in_ok-behind.behind.items) (sym c.len.ensures)
    (holds_paths h.quiver h.bound ps lists c.requires.allowed.quiver (let b = c.requires.allowed.bound_from in omega arith)
    (subst (λ qs. length qs ≤ 4096) (sym c.in_ok-paths.ensures) c.requires.few) c.in_ok-behind.behind.items
    (c.in_ok-behind.ensures.size ∙ ap (λ qs. length qs * arrow_count h.quiver) c.deref.ensures.value)
    (subst (λ qs. AreBehind qs (arrow_count h.quiver) c.in_ok-behind.behind.items) c.deref.ensures.value c.in_ok-behind.ensures.places))

pub returns : goal.returns
returns c =
    let h = c.args.header.now in
    subst (ListsPathsBelow h.quiver h.bound) (sym c.in_ok-paths.ensures) (lists_paths_below h.quiver c.requires.allowed.quiver.ends h.bound)
