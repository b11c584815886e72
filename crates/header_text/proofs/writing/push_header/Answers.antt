use Rattle.header_text.proofs.Joining.{header_text-written}
use Rattle.header_text.proofs.writing.push_header.Goals as goal

pub returns : goal.returns
returns c =
    header_text-written c.args.header.now _ _ _ _ _ _ _ _ c.in_ok-push_field.ensures c.as_slice.ensures c.in_ok-push_vertices.ensures c.in_ok-push_all_arrows.ensures c.in_ok-push_bound.ensures
    c.as_slice-2.ensures c.in_ok-push_relations.ensures
