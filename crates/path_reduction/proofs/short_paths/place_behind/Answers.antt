use Rattle.std.proofs.Common.{◌≡◌, sym, ap, ◌∙◌, subst, arith}
use Rattle.std.specs.Prelude.{Contains}
use Rattle.quiver_paths.specs.declared.Arrow.{Arrow}
use Rattle.quiver_paths.specs.declared.Path.{Path}
use Rattle.quiver_paths.specs.Quiver.{source}
use Rattle.quiver_paths.specs.Path.{path_length, concat, arrow_path}
use Rattle.quiver_paths.proofs.QuiverLemmas.{source_is}
use Rattle.path_reduction.proofs.PathPlaces.{path_at-is, path_at-read, behind_apart, behind_long, behind_found, longer_listed}
use Rattle.path_reduction.proofs.short_paths.place_behind.Goals as goal

pub returns-then-index-path : goal.returns-then-index-path
returns-then-index-path c =
    let h = c.args.header.now in
    let read = path_at-read c.args.paths.now c.args.place c.index-paths-place.result c.requires.place c.index-paths-place.is in
    let from : c.index.result.now.from ≡ source h.quiver c.args.arrow = ap (λ (x : Arrow). x.from) c.index.ensures ∙ sym (source_is h.quiver c.args.arrow c.index.result.now c.requires.arrow) in
    behind_apart h.quiver h.bound c.args.paths.now c.requires.paths c.args.place c.args.arrow c.requires.place (λ e. c.if-index-path.true (from ∙ e ∙ ap (λ (p : Path). p.end) (sym read)))

pub returns-then-len-header : goal.returns-then-len-header
returns-then-len-header c =
    let h = c.args.header.now in
    let read = path_at-read c.args.paths.now c.args.place c.index-paths-place.result c.requires.place c.index-paths-place.is in
    behind_long h.quiver h.bound c.args.paths.now c.requires.paths c.args.place c.args.arrow (omega (arith, c.if-len-header.true, c.len.ensures, ap path_length read))

pub unreachable-requires : goal.unreachable-requires
unreachable-requires c =
    let h = c.args.header.now in
    let read = path_at-read c.args.paths.now c.args.place c.index-paths-place.result c.requires.place c.index-paths-place.is in
    let from : c.index.result.now.from ≡ source h.quiver c.args.arrow = ap (λ (x : Arrow). x.from) c.index.ensures ∙ sym (source_is h.quiver c.args.arrow c.index.result.now c.requires.arrow) in
    c.in-None.ensures (subst (Contains c.args.paths.now) (ap (λ p. concat p (arrow_path h.quiver c.args.arrow)) (sym read) ∙ sym c.in_ok-longer.ensures)
    (longer_listed h.quiver h.bound c.args.paths.now c.requires.paths c.args.place c.args.arrow c.requires.allowed.quiver.ends c.requires.place c.requires.arrow
    (sym from ∙ c.if-index-path.false ∙ ap (λ (p : Path). p.end) read) (omega (arith, c.if-len-header.false, c.len.ensures, ap path_length read))))

pub returns : goal.returns
returns c =
    let h = c.args.header.now in
    let read = path_at-read c.args.paths.now c.args.place c.index-paths-place.result c.requires.place c.index-paths-place.is in
    behind_found h.quiver h.bound c.args.paths.now c.requires.paths c.args.place c.args.arrow c.in-Some.next c.in-Some.ensures.0
    (path_at-is c.args.paths.now c.in-Some.next c.in_ok-longer.longer c.in-Some.ensures.0 ∙ c.in-Some.ensures.1 ∙ c.in_ok-longer.ensures
    ∙ ap (λ p. concat p (arrow_path h.quiver c.args.arrow)) read)
