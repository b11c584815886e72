use Rattle.std.proofs.Common.{sym, subst}
use Rattle.header_text.specs.declared.forms.Form.TheVariants.{Arrow as ArrowForm, Relation as RelationForm}
use Rattle.header_text.specs.Part.{Part, Fits, with_arrows, IsFront}
use Rattle.header_text.proofs.FrontLemmas.{front_after}
use Rattle.header_text.proofs.reader.HeaderReader.take.Goals as goal

pub invariant_of-self-in-Continue-branch-2 : goal.invariant_of-self-in-Continue-branch-2
invariant_of-self-in-Continue-branch-2 c =
    let p : Part = record { is_begun = c.self.inside.is_begun; header = c.self.inside.header } in
    let fits : Fits p (ArrowForm c.in-Arrow.arrow) = subst (λ q. Fits q (ArrowForm c.in-Arrow.arrow)) (sym c.self.view_is) (subst (λ x. Fits c.args.self.now x) c.in-Arrow.is c.requires) in
    subst (λ as'. IsFront (with_arrows p as')) (sym c.in_ok-push-in-Arrow.ensures) (front_after p (ArrowForm c.in-Arrow.arrow) c.self.invariant fits)

pub invariant_of-self-in-Continue-branch-3 : goal.invariant_of-self-in-Continue-branch-3
invariant_of-self-in-Continue-branch-3 c =
    let p : Part = record { is_begun = c.self.inside.is_begun; header = c.self.inside.header } in
    let fits : Fits p (RelationForm c.in-Relation.relation) = subst (λ q. Fits q (RelationForm c.in-Relation.relation)) (sym c.self.view_is) (subst (λ x. Fits c.args.self.now x) c.in-Relation.is c.requires) in
    subst (λ rs. IsFront record { is_begun = c.self.inside.is_begun; header = record c.self.inside.header { relations = rs } }) (sym c.in_ok-push-in-Relation.ensures)
    (front_after p (RelationForm c.in-Relation.relation) c.self.invariant fits)
