use Rattle.std.proofs.Common.{◌≡◌, get_or, true, false, sym, subst, ◌∙◌}
use Rattle.header_text.proofs.TermLemmas.{not_parallel}
use Rattle.path_algebra.specs.declared.Term.{Term}
use Rattle.std.proofs.lemmas.List.{get_or_default}
use Rattle.path_algebra.specs.Allowed.{IsParallel}
use Rattle.header_text.proofs.terms.are_parallel.Goals as goal

pub returns-then-not-is_parallel : goal.returns-then-not-is_parallel
returns-then-not-is_parallel c =
    let i = c.loop-term.term-index in
    let x = c.index-terms-0.result in
    let same : get_or c.args.terms.now i x ≡ c.term-item.result = get_or_default c.args.terms.now i x c.term-item.result c.loop-term-test.true ∙ sym c.term-item.is in (
      λ f. let g : false ≡ true = f in cc,
      λ pairs. absurd (not_parallel c.args.terms.now i x c.loop-term-test.true
          (λ par. let g : false ≡ true = c.if-not-is_parallel.ensures.1 (subst (λ (t : Term). IsParallel (get_or c.args.terms.now 0 x).path t.path) same par) in cc) pairs),
    )
