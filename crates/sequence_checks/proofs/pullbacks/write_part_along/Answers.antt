use Rattle.std.proofs.Common.{ℕ, ◌<◌, length, ap, subst, sym}
use Rattle.std.specs.Prelude.{slice_index}
use Rattle.quiver_paths.specs.Quiver.{arrow_count}
use Rattle.quiver_paths.specs.declared.Path.{Path}
use Rattle.path_algebra.specs.declared.Header.{Header}
use Rattle.term_rows.proofs.WordRows.{word_is, word_arrows_below}
use Rattle.sequence_checks.proofs.PartRows.{part_along}
use Rattle.sequence_checks.proofs.pullbacks.write_part_along.Goals as goal

pub walk_in_dual-requires-clause-arrows : goal.walk_in_dual-requires-clause-arrows
walk_in_dual-requires-clause-arrows c =
    subst (λ (h : Header). (n : ℕ) → n < length c.word-path.result.now.arrows → slice_index c.word-path.result.now.arrows n < arrow_count h.quiver) (sym c.header.ensures.header)
    (word_arrows_below c.args.table.now.header c.args.table.now.words c.requires.table c.args.word c.word-path.result.now c.requires.word c.word-path.ensures)

pub returns-clause-row : goal.returns-clause-row
returns-clause-row c = λ t.
    let h = c.args.table.now.header in
    let ws = c.args.table.now.words in
    part_along h ws t c.args.side c.args.m.now c.args.cover.now c.args.functional.now c.args.j c.header.result.now c.word-path.result.now.arrows _ c.write_part.new.row c.walk_in_dual.new.row c.header.ensures.header
    (ap (λ (p : Path). p.arrows) (word_is h ws t c.args.word c.word-path.result.now c.requires.word c.word-path.ensures)) (c.write_part.ensures.part t) c.walk_in_dual.ensures.walked
