use Rattle.std.proofs.Common.{ap}
use Rattle.quiver_paths.specs.declared.Path.{Path}
use Rattle.term_rows.specs.TermCells.{term_target}
use Rattle.term_rows.proofs.WordRows.{word_is, word_arrows_below}
use Rattle.term_rows.proofs.TermRowCells.{holds_along}
use Rattle.term_rows.proofs.term_matrices.write_word_row.Goals as goal

pub walk_in_target-requires-clause-arrows : goal.walk_in_target-requires-clause-arrows
walk_in_target-requires-clause-arrows c = word_arrows_below c.args.table.now.header c.args.table.now.words c.requires.table c.args.word c.word-path.result.now c.requires.word c.word-path.ensures

pub returns-clause-row : goal.returns-clause-row
returns-clause-row c = λ t.
    let h = c.args.table.now.header in
    let ws = c.args.table.now.words in
    holds_along (term_target h ws t c.args.a.now c.args.terms.now c.args.k) c.args.a.now.side c.word-path.result.now.arrows _ c.args.image.now c.hold.new.row c.walk_in_target.new.row
    (ap (λ (p : Path). p.arrows) (word_is h ws t c.args.word c.word-path.result.now c.requires.word c.word-path.ensures)) c.hold.ensures.held (c.walk_in_target.ensures.walked t)
