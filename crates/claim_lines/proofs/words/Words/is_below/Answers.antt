use Rattle.std.proofs.Common.{sym, ◌∙◌}
use Rattle.claim_lines.proofs.WordLists.{behind_read}
use Rattle.claim_lines.proofs.words.Words.is_below.Goals as goal

pub returns-in-Less : goal.returns-in-Less
returns-in-Less c t =
    behind_read c.args.self.now c.self.inside.paths c.len-count.result c.index.result.now c.args.path.now (sym c.self.view_is) (c.self.invariant c.if-not-self.false) c.if-count-eq0.false c.len-count.ensures c.index.ensures
    (sym c.compare.ensures ∙ c.in-Less.is)
