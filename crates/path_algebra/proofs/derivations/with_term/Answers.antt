use Rattle.std.proofs.Common.{◌≡◌, ◌<◌, ◌∷◌, [], sym, subst, arith}
use Rattle.path_algebra.specs.declared.Term.{Term}
use Rattle.path_algebra.specs.Elements.{sum_of_terms}
use Rattle.path_algebra.specs.Rules.{AreElementTerms}
use Rattle.path_algebra.specs.ElementTerms.{AreTermsOf, plus_multiple}
use Rattle.quiver_paths.specs.Path.{path_length}
use Rattle.path_algebra.proofs.Derived.{long_term, short_term, one_term, one_item}
use Rattle.path_algebra.proofs.derivations.with_term.Goals as goal

pub returns-then-len-header : goal.returns-then-len-header
returns-then-len-header c = long_term c.args.header.now c.args.sum.items c.args.term.now c.requires.sum (omega arith)

pub plus_multiple-requires-clause-second : goal.plus_multiple-requires-clause-second
plus_multiple-requires-clause-second c =
    let short : path_length c.args.term.now.path < c.args.header.now.bound = omega arith in
    let one : c.deref-2.result.now ≡ c.args.term.now ∷ [] =
    one_item {X = Term} c.deref-2.result.now c.push.new.self.items c.new-one.result.items c.in_ok-clone.field-0 c.args.term.now c.deref-2.ensures.value c.in_ok-push.ensures.items c.new-one.ensures.items c.in_ok-clone.ensures.cases in
    subst (AreElementTerms c.args.header.now) (sym one) (one_term c.args.header.now c.args.term.now c.requires.term short)

pub returns : goal.returns
returns c =
    let q = c.args.header.now.field in
    let s = sum_of_terms q c.args.header.now.bound in
    let one : c.deref-2.result.now ≡ c.args.term.now ∷ [] =
    one_item {X = Term} c.deref-2.result.now c.push.new.self.items c.new-one.result.items c.in_ok-clone.field-0 c.args.term.now c.deref-2.ensures.value c.in_ok-push.ensures.items c.new-one.ensures.items c.in_ok-clone.ensures.cases in
    short_term c.args.header.now c.args.sum.items c.in_ok-longer.longer.items c.args.term.now
    (subst (λ ts. AreTermsOf c.args.header.now (plus_multiple q (s ts) 1 (s (c.args.term.now ∷ []))) c.in_ok-longer.longer.items) c.deref.ensures.value
    (subst (λ ts. AreTermsOf c.args.header.now (plus_multiple q (s c.deref.result.now) 1 (s ts)) c.in_ok-longer.longer.items) one c.in_ok-longer.ensures))
