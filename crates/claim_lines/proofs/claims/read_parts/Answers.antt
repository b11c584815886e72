use Rattle.std.proofs.Common.{◌≡◌, true, false, [], ◌∷◌, ◌++◌, sym, ap, ◌∙◌, subst}
use Rattle.std.specs.Prelude.{All}
use Rattle.std.proofs.lemmas.List.Elements.{All-nil, All-cons, All-append}
use Rattle.claim_lines.specs.Spelling.{parts_form}
use Rattle.claim_lines.specs.Items.{ArePartNumbers}
use Rattle.claim_lines.proofs.HeadReading.{parts_push, no_parts}
use Rattle.claim_lines.proofs.claims.read_parts.Goals as goal

pub returns-in_default : goal.returns-in_default
returns-in_default c = λ ps are e.
    no_parts (ArePartNumbers c.args.earlier c.args.modules) c.loop-tokens.parts ps c.loop-tokens.tokens (sym c.loop-tokens.invariant.whole ∙ e)
    (λ z. let g : false ≡ true = c.loop-tokens-test.ensures.1 z in cc) are (λ p rest is h. c.in_default.ensures p rest is h)

pub loop-tokens-preserved : goal.loop-tokens-preserved
loop-tokens-preserved c =
    let P = ArePartNumbers c.args.earlier c.args.modules in
    let ps = c.loop-tokens.parts in
    let part = c.in-Some.part in
    let left = c.next_part_claim.new.tokens in
    let e : c.push.new.self ≡ ps ++ part ∷ [] = c.in_ok-push.ensures in
    record {
      whole = c.loop-tokens.invariant.whole ∙ (ap (λ r. parts_form ps ++ r) c.in-Some.ensures.1 ∙ (sym (parts_push ps part left) ∙ ap (λ r. parts_form r ++ left) (sym e)));
      are = subst (All P) (sym e) (All-append P ps (part ∷ []) c.loop-tokens.invariant.are (All-cons P part [] c.in-Some.ensures.0 (All-nil P)));
    }
