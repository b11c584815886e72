use Rattle.std.proofs.Common.{◌≡◌, ◌<◌, ◌++◌, ◌∷◌, [], ap, sym, ◌∙◌, subst}
use Rattle.std.proofs.lemmas.List.Elements.{same_from_all_zip}
use Rattle.linear_algebra.specs.Field.{order, add, mul}
use Rattle.linear_algebra.specs.FieldLaws.{mul_below}
use Rattle.quiver_paths.proofs.PathLemmas.{same_path}
use Rattle.path_algebra.proofs.sums.push_joined.Goals as goal

pub add-coef-requires-clause-b_below : goal.add-coef-requires-clause-b_below
add-coef-requires-clause-b_below c = subst (λ n. n < order c.args.field) (sym c.mul.ensures) (mul_below c.args.field _ _)

pub returns-then-coef-eq0 : goal.returns-then-coef-eq0
returns-then-coef-eq0 c = record {
  zero_is = λ e i. c.args.sum.now.items;
  nonzero_is = λ n. absurd (n (ap (add c.args.field c.args.left.now.coef) (sym c.mul.ensures) ∙ sym c.add-coef.ensures ∙ c.if-coef-eq0.true));
}

pub returns : goal.returns
returns c =
    let coef : c.add-coef.result ≡ add c.args.field c.args.left.now.coef (mul c.args.field c.args.factor c.args.right.now.coef) = c.add-coef.ensures ∙ ap (add c.args.field c.args.left.now.coef) c.mul.ensures in
    let path : c.in_ok-path.path ≡ c.args.left.now.path = same_path _ _ c.in_ok-path.ensures.cases.0 c.in_ok-path.ensures.cases.1.0 (same_from_all_zip _ _ _ c.in_ok-path.ensures.cases.1.1 (λ x y e. e)) in
    record {
      zero_is = λ e. absurd (c.if-coef-eq0.false (coef ∙ e));
      nonzero_is = λ n. c.in_ok-push.ensures.items ∙ (λ i. c.args.sum.now.items ++ record { coef = coef i; path = path i } ∷ []);
    }
