use Rattle.path_basis.proofs.completion.take_least.Goals as goal

pub returns-in-Some-clause-completion : goal.returns-in-Some-clause-completion
returns-in-Some-clause-completion c h k = record {
  tidy = k.tidy;
  lawful = k.lawful;
  derived = k.derived;
  removed_tidy = (c.take_rule-rule.ensures.tidy h k.removed_tidy).1;
  removed_derived = (c.take_rule-rule.ensures.derived h _ k.removed_derived).1;
  room = k.room;
}

pub returns-in-Some-clause-taken : goal.returns-in-Some-clause-taken
returns-in-Some-clause-taken c h k all = ((c.take_rule-rule.ensures.tidy h k.removed_tidy).0, (c.take_rule-rule.ensures.derived h _ k.removed_derived).0)
