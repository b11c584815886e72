use Rattle.std.proofs.Common.{refl}
use Rattle.script_lang.proofs.RelatedLaws.{related_terms}
use Rattle.script_lang.proofs.related.is_relation.Goals as goal

pub returns-then-are_terms : goal.returns-then-are_terms
returns-then-are_terms c =
    related_terms c.args.header.now c.args.relation.now c.as_slice-terms.result.now c.are_related.result c.as_slice-terms.ensures c.if-is_empty.ensures (c.if-are_terms.ensures.0 refl) c.are_related.ensures
