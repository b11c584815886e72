use Rattle.std.proofs.Common.{◌≡◌, ◌+◌, ◌-◌, [], ◌++◌, length, take, drop, sym, ap, ◌∙◌, subst, arith}
use Rattle.std.proofs.lemmas.List.{length-take-le}
use Rattle.quiver_paths.specs.declared.Path.{Path}
use Rattle.path_algebra.specs.Rows.{path_at}
use Rattle.path_reduction.specs.Occurrences.{part_before, part_behind}
use Rattle.path_reduction.specs.ShortPaths.{IsWalked}
use Rattle.path_reduction.specs.Reducing.{AreMet}
use Rattle.path_reduction.proofs.TipStands.{parted, slice_behind}
use Rattle.path_reduction.proofs.PathPlaces.{listed_path, listed_short}
use Rattle.path_reduction.proofs.DenseSteps.{tail_met, front_found, added_all}
use Rattle.path_reduction.proofs.reducing.add_tail.Goals as goal

pub prove-unreachable-requires : goal.prove-unreachable-requires
prove-unreachable-requires c =
    let h = c.args.header.now in
    let paths = c.args.space.now in
    let p : Path = path_at paths c.args.place in
    let rule = c.args.rule.now in
    let hp = listed_path h.quiver h.bound paths c.requires.space c.args.place c.requires.place in
    let short = listed_short h.quiver h.bound paths c.requires.space c.args.place c.requires.place in
    let parts = parted h p rule c.args.before c.requires.allowed.quiver.ends hp c.requires.tidy.path c.requires.tidy.not_trivial c.requires.stands in
    let arrows : c.as_slice-arrows.result.now ≡ p.arrows = c.as_slice-arrows.ensures ∙ ap (λ (x : Path). x.arrows) c.path.ensures in
    let trivial = c.start.ensures.trivial.trivial in
    let front = front_found h paths rule p c.args.before c.start.result c.requires.space parts
    (let f = c.requires.stands.fits in let l = length-take-le c.args.before p.arrows (omega arith) in omega arith)
    (ap (λ (x : Path). x.start) trivial ∙ c.start.ensures.vertex) (ap (λ (x : Path). x.arrows) trivial) in
    c.in-None.ensures.none [] front.0 (subst (λ xs. IsWalked paths c.start.result (take c.args.before xs ++ []) front.0) (sym arrows) front.1)

pub returns-in-Some : goal.returns-in-Some
returns-in-Some c =
    let h = c.args.header.now in
    let paths = c.args.space.now in
    let p : Path = path_at paths c.args.place in
    let rule = c.args.rule.now in
    let hp = listed_path h.quiver h.bound paths c.requires.space c.args.place c.requires.place in
    let parts = parted h p rule c.args.before c.requires.allowed.quiver.ends hp c.requires.tidy.path c.requires.tidy.not_trivial c.requires.stands in
    let arrows : c.as_slice-arrows.result.now ≡ p.arrows = c.as_slice-arrows.ensures ∙ ap (λ (x : Path). x.arrows) c.path.ensures in
    let trivial = c.start.ensures.trivial.trivial in
    let walked = c.in-Some.ensures.some in
    let met = tail_met h paths rule p c.args.before c.in-Some.first c.requires.space c.requires.tidy parts walked.inside
    (walked.start ∙ ap (λ (x : Path). x.start) trivial ∙ c.start.ensures.vertex)
    (walked.whole ∙ ap (λ (x : Path). x.arrows ++ take c.args.before c.as_slice-arrows.result.now) trivial ∙ ap (take c.args.before) arrows) in
    let behind = slice_behind p rule c.args.before c.as_slice-arrows.result.now c.len.result arrows c.len.ensures in
    added_all h paths c.args.factor (part_before p rule c.args.before) (part_behind p rule c.args.before) p rule.tail.terms c.as_slice.result.now c.args.coefs.now c.add_products.new.coefs c.as_slice.ensures
    (c.add_products.ensures (part_before p rule c.args.before) (part_behind p rule c.args.before) p
    (subst (λ ts. AreMet h paths c.in-Some.first ts (take (length c.as_slice-arrows.result.now - (c.args.before + c.len.result)) (drop (c.args.before + c.len.result) c.as_slice-arrows.result.now)) (part_before p rule c.args.before) (part_behind p rule c.args.before) p) (sym c.as_slice.ensures)
    (subst (λ xs. AreMet h paths c.in-Some.first rule.tail.terms xs (part_before p rule c.args.before) (part_behind p rule c.args.before) p) (sym behind) met)))
