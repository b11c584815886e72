use Rattle.std.proofs.Common.{ap}
use Rattle.path_basis.proofs.Growing.{completed, has_grown, inserts_taken}
use Rattle.path_basis.proofs.SameTips.{completion_same_tips, grown_same_tips}
use Rattle.path_basis.proofs.completion.add_rule.Goals as goal

pub reduce_tails_with-requires-clause-tidy : goal.reduce_tails_with-requires-clause-tidy
reduce_tails_with-requires-clause-tidy c = (completed c.args.header.now _ _ _ _ c.args.rule _ c.requires.new c.requires.lawful c.requires.derived c.requires.derives c.requires.removed_tidy c.requires.removed_derived c.requires.room
    (inserts_taken c.args.header.now _ _ _ _ _ c.args.rule (ap (λ v. v.items) c.replace-rules.ensures.value) c.in_ok-state.ensures c.requires.new)).tidy

pub reduce_tails_with-requires-clause-derived : goal.reduce_tails_with-requires-clause-derived
reduce_tails_with-requires-clause-derived c = (completed c.args.header.now _ _ _ _ c.args.rule _ c.requires.new c.requires.lawful c.requires.derived c.requires.derives c.requires.removed_tidy c.requires.removed_derived c.requires.room
    (inserts_taken c.args.header.now _ _ _ _ _ c.args.rule (ap (λ v. v.items) c.replace-rules.ensures.value) c.in_ok-state.ensures c.requires.new)).derived

pub returns-clause-completion : goal.returns-clause-completion
returns-clause-completion c =
    let t = c.in_ok-reduce_tails_with.ensures in
    completion_same_tips c.args.header.now _ _ _ _ _ c.requires.few (completed c.args.header.now _ _ _ _ c.args.rule _ c.requires.new c.requires.lawful c.requires.derived c.requires.derives c.requires.removed_tidy c.requires.removed_derived c.requires.room
    (inserts_taken c.args.header.now _ _ _ _ _ c.args.rule (ap (λ v. v.items) c.replace-rules.ensures.value) c.in_ok-state.ensures c.requires.new)) t.tips t.tidy t.lawful t.derived t.lengthens t.count

pub returns-clause-grown : goal.returns-clause-grown
returns-clause-grown c = grown_same_tips c.args.header.now _ _ _ _ _ (has_grown c.args.header.now _ _ _ _ c.args.rule
    (inserts_taken c.args.header.now _ _ _ _ _ c.args.rule (ap (λ v. v.items) c.replace-rules.ensures.value) c.in_ok-state.ensures c.requires.new)) c.in_ok-reduce_tails_with.ensures.tips
