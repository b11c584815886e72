use Rattle.path_basis.proofs.Inserted.{inserts_at}
use Rattle.path_basis.proofs.inserting.insert_rule.Goals as goal

pub returns : goal.returns
returns c h is = inserts_at h c.args.rules.items c.args.rule c.in_ok-kept.kept.items c.insert.new.self.items c.args.removed.now.items c.take_out.new.removed.items c.as_slice.result.now c.deref.result.now c.place_of-place.result is
    c.as_slice.ensures c.deref.ensures.value c.in_ok-kept.ensures.kept c.in_ok-kept.ensures.removed c.place_of-place.ensures c.in_ok-insert.ensures.items
