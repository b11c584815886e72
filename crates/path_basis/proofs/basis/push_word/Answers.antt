use Rattle.std.proofs.Common.{◌≡◌, ◌∙◌, ◌++◌, ◌∷◌, [], subst}
use Rattle.std.proofs.lemmas.List.Elements.{same_from_all_zip}
use Rattle.quiver_paths.proofs.PathLemmas.{same_path}
use Rattle.path_algebra.specs.Occurring.{HasTip}
use Rattle.path_basis.proofs.NormalWords.{sifted_out, sifted_in}
use Rattle.path_basis.proofs.basis.push_word.Goals as goal

pub returns-then-has_tip : goal.returns-then-has_tip
returns-then-has_tip c paths k l is s = sifted_out c.args.rules.now paths k c.args.path.now c.args.words.now.items l is (subst (HasTip c.args.rules.now) c.as_slice.ensures c.if-has_tip.ensures) s

pub returns : goal.returns
returns c paths k l is s =
    let copy : c.in_ok-clone.field-0 ≡ c.args.path.now = same_path _ _ c.in_ok-clone.ensures.cases.0 c.in_ok-clone.ensures.cases.1.0 (same_from_all_zip _ _ _ c.in_ok-clone.ensures.cases.1.1 (λ x y e. e)) in
    sifted_in c.args.rules.now paths k c.args.path.now c.args.words.now.items c.push.new.self.items l is (subst (λ xs. HasTip c.args.rules.now xs → ⊥) c.as_slice.ensures c.if-has_tip.ensures)
    (c.in_ok-push.ensures.items ∙ (λ i. c.args.words.now.items ++ copy i ∷ [])) s
