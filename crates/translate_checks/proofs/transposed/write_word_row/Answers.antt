use Rattle.std.proofs.Common.{ap}
use Rattle.quiver_paths.specs.declared.Path.{Path}
use Rattle.term_rows.proofs.WordRows.{word_is, word_arrows_below}
use Rattle.translate_checks.proofs.TransposedRows.{word_held, room_across}
use Rattle.translate_checks.proofs.transposed.write_word_row.Goals as goal

pub walk_in_sum-requires-clause-arrows : goal.walk_in_sum-requires-clause-arrows
walk_in_sum-requires-clause-arrows c = word_arrows_below c.args.table.now.header c.args.table.now.words c.requires.table c.args.word c.word-path.result.now c.requires.word c.word-path.ensures

pub walk_in_sum-requires-clause-vertices : goal.walk_in_sum-requires-clause-vertices
walk_in_sum-requires-clause-vertices c = record { declared = c.requires.presentation.term.declared }

pub walk_in_sum-requires-clause-room : goal.walk_in_sum-requires-clause-room
walk_in_sum-requires-clause-room c = room_across c.args.table.now.words c.args.table.now.header c.args.side c.other.result c.args.syzygy.now.vertices _ _ c.other.ensures c.requires.presentation.syzygy_small c.write_transposed_row.auto.row c.requires.row

pub returns-clause-row : goal.returns-clause-row
returns-clause-row c = λ t.
    word_held c.args.table.now.header c.args.table.now.words t c.args.side c.args.cover.now c.args.syzygy.now c.args.j c.other.result c.word-path.result.now.arrows _ c.write_transposed_row.new.row c.walk_in_sum.new.row c.other.ensures
    (ap (λ (p : Path). p.arrows) (word_is c.args.table.now.header c.args.table.now.words t c.args.word c.word-path.result.now c.requires.word c.word-path.ensures)) (c.write_transposed_row.ensures.row t) (c.walk_in_sum.ensures.walked t)
