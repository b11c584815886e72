use Rattle.std.proofs.Common.{◌≡◌, get_or, sym, ap, ◌∙◌, subst}
use Rattle.linear_algebra.specs.Field.{neg}
use Rattle.quiver_paths.specs.declared.Path.{Path}
use Rattle.path_algebra.specs.declared.rules.Rule.{Rule}
use Rattle.path_algebra.specs.Rows.{path_at}
use Rattle.path_algebra.specs.Rules.{rule_element}
use Rattle.path_algebra.specs.Occurring.{HasTip}
use Rattle.path_reduction.specs.Occurrences.{EndsFirst}
use Rattle.path_reduction.specs.Derived.{Derives, plus_rule}
use Rattle.path_reduction.specs.Reducing.{beside, row_element, IsRewritten}
use Rattle.path_reduction.proofs.TipStands.{no_tip_among, parted}
use Rattle.path_reduction.proofs.Deriving.{derives_same}
use Rattle.path_reduction.proofs.PathPlaces.{listed_path}
use Rattle.path_reduction.proofs.DenseSteps.{reducing_passes, reducing_rewrites, rewritten_element}
use Rattle.path_reduction.proofs.reducing.reduce_at.Goals as goal

pub returns-in-None-clause-reducing : goal.returns-in-None-clause-reducing
returns-in-None-clause-reducing c given s =
    let p : Path = path_at c.args.space.now c.args.place in
    let arrows : c.as_slice.result.now ≡ p.arrows = c.as_slice.ensures ∙ ap (λ (x : Path). x.arrows) c.path.ensures in
    reducing_passes c.args.header.now c.args.rules.now given c.args.space.now c.args.element.coefs.items c.args.place
    (λ n. no_tip_among c.args.header.now c.args.rules.now p c.requires.tidy (λ t. c.in-None.ensures.none (subst (HasTip c.args.rules.now) (sym arrows) t))) s

pub returns-in_ok-next-in-Some-clause-reducing : goal.returns-in_ok-next-in-Some-clause-reducing
returns-in_ok-next-in-Some-clause-reducing c given s =
    let h = c.args.header.now in
    let rules = c.args.rules.now in
    let paths = c.args.space.now in
    let p : Path = path_at paths c.args.place in
    let rule : Rule = c.index-rules-found.result in
    let tip = c.in-Some.found.rule in
    let n = c.in-Some.found.before in
    let arrows : c.as_slice.result.now ≡ p.arrows = c.as_slice.ensures ∙ ap (λ (x : Path). x.arrows) c.path.ensures in
    reducing_rewrites h rules given paths c.args.element.coefs.items c.in_ok-next-in-Some.next.coefs.items c.args.place tip n rule c.requires.allowed c.requires.tidy c.requires.space c.requires.place
    (subst (λ xs. EndsFirst rules xs tip n) arrows c.in-Some.ensures.some)
    (subst (λ (x : Rule). IsRewritten h paths x c.args.place n c.args.element.coefs.items c.in_ok-next-in-Some.next.coefs.items) c.index-rules-found.is c.in_ok-next-in-Some.ensures.rewritten) s

pub returns-in_ok-next-in-Some-clause-makes : goal.returns-in_ok-next-in-Some-clause-makes
returns-in_ok-next-in-Some-clause-makes c x from d =
    let h = c.args.header.now in
    let rules = c.args.rules.now in
    let paths = c.args.space.now in
    let row = c.args.element.coefs.items in
    let next = c.in_ok-next-in-Some.next in
    let p : Path = path_at paths c.args.place in
    let rule : Rule = c.index-rules-found.result in
    let tip = c.in-Some.found.rule in
    let n = c.in-Some.found.before in
    let arrows : c.as_slice.result.now ≡ p.arrows = c.as_slice.ensures ∙ ap (λ (x : Path). x.arrows) c.path.ensures in
    let first = subst (λ xs. EndsFirst rules xs tip n) arrows c.in-Some.ensures.some in
    let t = c.requires.tidy.each tip rule first.inside in
    let hp = listed_path h.quiver h.bound paths c.requires.space c.args.place c.requires.place in
    let parts = parted h p (get_or rules tip rule) n c.requires.allowed.quiver.ends hp t.path t.not_trivial (first.stands rule) in
    let made = c.in_ok-next-in-Some.ensures.makes (beside h x (row_element h paths row))
    (subst (λ (y : Rule). Derives h c.args.steps.now.items y.step (rule_element h y)) (sym c.index-rules-found.is) (from tip rule first.inside)) d in
    derives_same h c.rewrite.new.steps.items next.step _ (beside h x (row_element h paths next.coefs.items))
    (λ r. ap (λ (y : Rule). plus_rule h (beside h x (row_element h paths row)) (neg h.field (get_or row c.args.place 0)) y p n r) c.index-rules-found.is
    ∙ rewritten_element h x paths row next.coefs.items (get_or rules tip rule) c.args.place n c.requires.row c.requires.place parts
    (subst (λ (y : Rule). IsRewritten h paths y c.args.place n row next.coefs.items) c.index-rules-found.is c.in_ok-next-in-Some.ensures.rewritten) r) made
