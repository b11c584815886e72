use Rattle.std.proofs.Common.{◌<◌, length, ap, ◌∙◌, subst, sym}
use Rattle.path_algebra.specs.Rows.{path_at}
use Rattle.path_reduction.proofs.PathPlaces.{path_at-read}
use Rattle.path_reduction.proofs.short_paths.ShortPaths.path.Goals as goal

pub returns : goal.returns
returns c = path_at-read c.self.inside.paths.items c.args.place c.index.result.now (subst (λ ps. c.args.place < length ps) (sym c.self.view_is) c.requires) c.index.ensures ∙ ap (λ ps. path_at ps c.args.place) c.self.view_is
