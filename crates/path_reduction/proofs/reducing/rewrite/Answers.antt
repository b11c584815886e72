use Rattle.std.proofs.Common.{◌≡◌, get_or, sym, ap, subst, arith}
use Rattle.std.proofs.lemmas.List.{get_or_read}
use Rattle.linear_algebra.specs.Field.{neg}
use Rattle.quiver_paths.specs.declared.Path.{Path}
use Rattle.quiver_paths.specs.Path.{IsPath, path_length}
use Rattle.path_algebra.specs.Rows.{path_at}
use Rattle.path_reduction.specs.Occurrences.{part_before, part_behind}
use Rattle.path_reduction.specs.Derived.{Derives, plus_rule}
use Rattle.path_reduction.proofs.TipStands.{parted}
use Rattle.path_reduction.proofs.PathPlaces.{listed_path, listed_short}
use Rattle.path_reduction.proofs.reducing.rewrite.Goals as goal

pub derive_rewriting-requires-clause-room : goal.derive_rewriting-requires-clause-room
derive_rewriting-requires-clause-room c =
    let h = c.args.header.now in
    let short = listed_short h.quiver h.bound c.args.space.now c.requires.space c.args.place c.requires.place in
    omega (arith, short, ap path_length c.path-path.ensures, c.requires.allowed.bound_to, c.requires.room)

pub returns-clause-count : goal.returns-clause-count
returns-clause-count c =
    let h = c.args.header.now in
    let short = listed_short h.quiver h.bound c.args.space.now c.requires.space c.args.place c.requires.place in
    omega (arith, short, ap path_length c.path-path.ensures, c.requires.allowed.bound_to, c.in_ok-step.ensures.count)

pub returns-clause-makes : goal.returns-clause-makes
returns-clause-makes c x from d =
    let h = c.args.header.now in
    let p : Path = path_at c.args.space.now c.args.place in
    let rule = c.args.rule.now in
    let n = c.args.before in
    let hp = listed_path h.quiver h.bound c.args.space.now c.requires.space c.args.place c.requires.place in
    let parts = parted h p rule n c.requires.allowed.quiver.ends hp c.requires.tidy.path c.requires.tidy.not_trivial c.requires.stands in
    let read : c.index-factor.result.now ≡ get_or c.args.element.coefs.items c.args.place 0 =
    get_or_read c.args.element.coefs.items c.args.place c.index-factor.result.now (omega (arith, c.requires.place, c.requires.row.count)) c.index-factor.ensures 0 in
    let made = c.in_ok-step.ensures.makes c.requires.allowed c.requires.tidy (subst (λ q. IsPath h.quiver (part_before q rule n)) (sym c.path-path.ensures) parts.before_is)
    (subst (λ q. IsPath h.quiver (part_behind q rule n)) (sym c.path-path.ensures) parts.behind_is) x from d in
    subst (λ q. Derives h c.derive_rewriting.new.steps.items c.in_ok-step.step (plus_rule h x (neg h.field (get_or c.args.element.coefs.items c.args.place 0)) rule q n)) c.path-path.ensures
    (subst (λ f. Derives h c.derive_rewriting.new.steps.items c.in_ok-step.step (plus_rule h x (neg h.field f) rule c.path-path.result.now n)) read made)
