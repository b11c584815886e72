use Rattle.std.proofs.Common.{ℕ, ◌≡◌, ◌<◌, length, sym, ap, ◌∙◌, subst}
use Rattle.std.specs.Prelude.{slice_index}
use Rattle.fp_linear.specs.Slices.{plus_multiple}
use Rattle.quiver_paths.specs.declared.Path.{Path}
use Rattle.quiver_paths.specs.Quiver.{arrow_count}
use Rattle.path_algebra.specs.declared.Header.{Header}
use Rattle.term_rows.proofs.WordRows.{word_is, word_arrows_below}
use Rattle.extension_checks.proofs.FollowValues.{word_left_out, word_added, room_for, moved_for}
use Rattle.extension_checks.proofs.values.add_word.Goals as goal

pub returns-then-factor-eq0-clause-added : goal.returns-then-factor-eq0-clause-added
returns-then-factor-eq0-clause-added c = word_left_out c.args.table.now.header c.args.table.now.words c.args.b.now c.args.word c.args.c c.args.factor c.args.sum.now c.if-factor-eq0.true c.requires.elements

pub walk_in_module-requires-clause-arrows : goal.walk_in_module-requires-clause-arrows
walk_in_module-requires-clause-arrows c =
    let arrows = c.word-path.result.now.arrows in
    subst (λ (g : Header). (n : ℕ) → n < length arrows → slice_index arrows n < arrow_count g.quiver) (sym c.header.ensures.header)
    (word_arrows_below c.args.table.now.header c.args.table.now.words c.requires.table c.args.word c.word-path.result.now c.requires.word c.word-path.ensures)

pub walk_in_module-requires-clause-room : goal.walk_in_module-requires-clause-room
walk_in_module-requires-clause-room c = room_for c.args.b.now.side c.args.table.now.header c.header.result.now c.args.b.now _ c.header.ensures.header (c.put_unit.auto.row ∙ c.requires.row) c.requires.b

pub returns-clause-added : goal.returns-clause-added
returns-clause-added c =
    let h = c.args.table.now.header in
    let ws = c.args.table.now.words in
    let p = c.word-path.result.now in
    let row = c.walk_in_module.new.row in
    word_added h ws c.args.b.now c.args.word c.args.c c.args.factor p.arrows c.put_unit.new.row row c.args.sum.now c.add_multiple.new.target
    (ap (λ (p : Path). p.arrows) (word_is h ws c.requires.table c.args.word p c.requires.word c.word-path.ensures)) c.put_unit.ensures.unit
    (moved_for h c.header.result.now c.args.b.now p.arrows c.put_unit.new.row row c.header.ensures.header c.walk_in_module.ensures.walked)
    (c.walk_in_module.auto.row ∙ c.put_unit.auto.row ∙ c.requires.row ∙ sym c.requires.sum)
    (subst (λ (g : Header). c.add_multiple.new.target ≡ plus_multiple g.field c.args.factor row c.args.sum.now) c.header-2.ensures.header c.add_multiple.ensures.sum)
