use Rattle.std.proofs.Common.{◌<◌, length, get_or, sym, ap, ◌∙◌, subst}
use Rattle.path_algebra.specs.Rows.{path_at}
use Rattle.path_reduction.proofs.PathPlaces.{path_at-is}
use Rattle.path_reduction.proofs.short_paths.ShortPaths.place.Goals as goal

pub returns-clause-there : goal.returns-clause-there
returns-clause-there c =
    ap (λ ps. path_at ps c.in-Some.place) (sym c.self.view_is)
    ∙ path_at-is c.self.inside.paths.items c.in-Some.place c.args.path.now (subst (λ ps. c.in-Some.place < length ps) c.deref.ensures.value c.in-Some.ensures.0)
    ∙ ap (λ ps. get_or ps c.in-Some.place c.args.path.now) (sym c.deref.ensures.value) ∙ c.in-Some.ensures.1
