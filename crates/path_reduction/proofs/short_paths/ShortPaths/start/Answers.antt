use Rattle.std.proofs.Common.{◌<◌, length, ap, ◌∙◌, subst, sym}
use Rattle.quiver_paths.specs.declared.Path.{Path}
use Rattle.path_algebra.specs.Rows.{path_at}
use Rattle.path_reduction.specs.ShortPaths.{StartsAt}
use Rattle.path_reduction.proofs.PathPlaces.{path_at-read}
use Rattle.path_reduction.proofs.short_paths.ShortPaths.start.Goals as goal

pub returns-clause-vertex : goal.returns-clause-vertex
returns-clause-vertex c =
    let inside = subst (λ ps. c.args.place < length ps) (sym c.self.view_is) c.requires in
    ap (λ (p : Path). p.start) (path_at-read c.self.inside.paths.items c.args.place c.index.result.now inside c.index.ensures ∙ ap (λ ps. path_at ps c.args.place) c.self.view_is)

pub returns-clause-trivial : goal.returns-clause-trivial
returns-clause-trivial c =
    let inside = subst (λ ps. c.args.place < length ps) (sym c.self.view_is) c.requires in
    subst (λ ps. StartsAt ps c.index.result.now.start) c.self.view_is
    (subst (λ (p : Path). StartsAt c.self.inside.paths.items p.start) (sym (path_at-read c.self.inside.paths.items c.args.place c.index.result.now inside c.index.ensures)) (c.self.invariant.starts c.args.place inside))
