use Rattle.std.proofs.Common.{◌≡◌, ◌++◌, [], ◌∷◌, true, false, sym, ap, subst, ◌∙◌}
use Rattle.header_text.proofs.TermLemmas.{no_more_terms, no_first_term, terms_push}
use Rattle.header_text.specs.Named.{AreTerms}
use Rattle.header_text.specs.Spelling.{terms_arguments}
use Rattle.header_text.proofs.terms.read_terms.Goals as goal

pub returns-in_default : goal.returns-in_default
returns-in_default c = no_first_term c.args.header.now c.args.tokens (rw c.in_default.is at c.in_ok-first.ensures)

pub returns-in_default-2 : goal.returns-in_default-2
returns-in_default-2 c =
    no_more_terms c.args.header.now c.requires c.loop-tokens.terms c.args.tokens c.loop-tokens.tokens c.loop-tokens.invariant.are c.loop-tokens.invariant.whole
    (λ e. let g : false ≡ true = c.loop-tokens-test.ensures.1 e in cc) (rw c.in_default-2.is at c.in_ok-term.ensures)

pub loop-tokens-preserved : goal.loop-tokens-preserved
loop-tokens-preserved c =
    let known = rw c.in-Some-2.is at c.in_ok-term.ensures in
    let step = terms_push c.args.header.now c.loop-tokens.terms c.in-Some-2.term c.args.tokens c.loop-tokens.tokens c.next_plus_term.new.tokens c.loop-tokens.invariant.are known.0
    c.loop-tokens.invariant.whole known.1 in
    let e : c.push-in-loop-tokens.new.self ≡ c.loop-tokens.terms ++ c.in-Some-2.term ∷ [] = c.in_ok-push-2.ensures in
    record {
      whole = step.0 ∙ ap (λ r. terms_arguments c.args.header.now.quiver r ++ c.next_plus_term.new.tokens) (sym e);
      are = subst (AreTerms c.args.header.now) (sym e) step.1;
    }
