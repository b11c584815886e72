use Rattle.std.proofs.Common.{◌≡◌, true, false, ◌-◌, get_or, refl, sym, subst, arith}
use Rattle.std.proofs.lemmas.List.{get_or_default}
use Rattle.path_algebra.specs.declared.Term.{Term}
use Rattle.quiver_paths.specs.PathOrder.{IsSmaller}
use Rattle.claim_lines.proofs.RuleReading.{descend_more, descend_one}
use Rattle.claim_lines.proofs.rules.are_descending.Goals as goal

pub loop-i-preserved : goal.loop-i-preserved
loop-i-preserved c =
    let ts = c.args.terms.now in
    let i = c.loop-i.i in
    let a = c.index-terms-i.result in
    let b = c.index-terms-i-in-loop-i.result in
    let small : IsSmaller (get_or ts i a).path (get_or ts (i - 1) b).path = c.if-not-is_smaller.ensures.0 refl in
    descend_more ts i (omega arith) (omega arith)
    (λ d.
    let ea : get_or ts i d ≡ get_or ts i a = get_or_default ts i d a (omega arith) in
    let eb : get_or ts (i - 1) d ≡ get_or ts (i - 1) b = get_or_default ts (i - 1) d b (omega arith) in
    subst (λ (t : Term). IsSmaller t.path (get_or ts (i - 1) d).path) (sym ea) (subst (λ (t : Term). IsSmaller (get_or ts i a).path t.path) (sym eb) small)) c.loop-i.invariant

pub returns-then-not-is_smaller : goal.returns-then-not-is_smaller
returns-then-not-is_smaller c = (
  λ f. let g : false ≡ true = f in cc,
  λ pairs.
      c.if-not-is_smaller.ensures.1 (descend_one c.args.terms.now c.loop-i.i c.index-terms-i.result c.index-terms-i-in-loop-i.result (omega arith) (omega arith) pairs),
)
