use Rattle.claim_lines.proofs.WordLists.{behind_differs}
use Rattle.claim_lines.proofs.words.Words.lack.Goals as goal

pub returns-then-is_below : goal.returns-then-is_below
returns-then-is_below c = (λ t. behind_differs c.args.self.now c.args.path.now (c.is_below.ensures c.if-is_below.true), λ all. c.if-is_below.true)
