use Rattle.std.proofs.Common.{◌≡◌, true, false, sym, subst}
use Rattle.header_text.proofs.TermLemmas.{not_related}
use Rattle.header_text.specs.Named.{AreRelated}
use Rattle.header_text.proofs.terms.read_relation.Goals as goal

pub returns-then-not-are_related : goal.returns-then-not-are_related
returns-then-not-are_related c =
    let known = rw c.in-Some.is at c.in_ok-terms.ensures in
    not_related c.args.header.now c.requires c.args.tokens c.in-Some.terms known.0 known.1
    (λ related. let g : false ≡ true = c.if-not-are_related.ensures.1 (subst AreRelated (sym c.as_slice.ensures) related) in cc)
