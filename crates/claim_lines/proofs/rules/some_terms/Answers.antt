use Rattle.std.proofs.Common.{◌≡◌, [], ◌∷◌, ◌++◌, refl, sym, subst, ap, ◌∙◌}
use Rattle.claim_lines.specs.Reading.{AreTailTerms}
use Rattle.claim_lines.proofs.RuleReading.{so_far, so_far-push, no_more_terms, are_pushed, still_open}
use Rattle.claim_lines.proofs.rules.some_terms.Goals as goal

pub returns-in_default : goal.returns-in_default
returns-in_default c = no_more_terms c.args.header.now [] (c.args.token.now ∷ c.args.tokens.now) (c.args.token.now ∷ c.args.tokens.now) refl (rw c.in_default.is at c.in_ok-first.ensures)

pub returns-in_default-2 : goal.returns-in_default-2
returns-in_default-2 c =
    no_more_terms c.args.header.now c.loop-is_last.terms (c.args.token.now ∷ c.args.tokens.now) c.loop-is_last.tokens
    (still_open c.args.header.now.quiver c.loop-is_last.is_last c.loop-is_last.terms (c.args.token.now ∷ c.args.tokens.now) c.loop-is_last.tokens c.loop-is_last-test.true c.loop-is_last.invariant.whole)
    (rw c.in_default-2.is at c.in_ok-term.ensures)

pub loop-is_last-preserved : goal.loop-is_last-preserved
loop-is_last-preserved c =
    let known = rw c.in-Some-2.is at c.in_ok-term.ensures in
    let Q = c.args.header.now.quiver in
    let ts = c.loop-is_last.terms in
    let tokens = c.args.token.now ∷ c.args.tokens.now in
    let open_whole = still_open Q c.loop-is_last.is_last ts tokens c.loop-is_last.tokens c.loop-is_last-test.true c.loop-is_last.invariant.whole in
    let e : c.push-in-loop-is_last.new.self ≡ ts ++ c.in-Some-2.term ∷ [] = c.in_ok-push-2.ensures in
    record {
      whole = so_far-push Q ts c.in-Some-2.term c.in-Some-2.ends tokens c.loop-is_last.tokens c.next_separated.new.tokens open_whole known.1
          ∙ ap (λ r. so_far Q c.in-Some-2.ends r ++ c.next_separated.new.tokens) (sym e);
      are = subst (AreTailTerms c.args.header.now) (sym e) (are_pushed c.args.header.now ts c.in-Some-2.term c.loop-is_last.invariant.are.all known.0);
    }
