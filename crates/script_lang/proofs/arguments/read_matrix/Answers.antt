use Rattle.std.proofs.Common.{◌∙◌, sym, ap, refl, Some, true≢false}
use Rattle.script_lang.proofs.ListReading.{matrix_slash, matrix_entry, matrix_ended, ended_none, ended_last, ended_nothing}
use Rattle.script_lang.proofs.arguments.read_matrix.Goals as goal

pub returns-then-is_empty : goal.returns-then-is_empty
returns-then-is_empty c = matrix_slash c.args.most c.loop-word.rows c.loop-word.row c.in-Some.word.now c.next_word.new.self c.loop-word.words c.args.words.now c.in-Some.ensures c.loop-word.invariant (sym c.if-is_slash.ensures) (c.if-is_empty.ensures.0 refl)

pub returns-in_default-read_number : goal.returns-in_default-read_number
returns-in_default-read_number c = matrix_entry c.args.most c.loop-word.rows c.loop-word.row c.in-Some.word.now c.next_word.new.self c.loop-word.words c.args.words.now c.in-Some.ensures c.loop-word.invariant (sym c.if-is_slash.ensures) (sym c.in_default-read_number.ensures)

pub returns-then-is_empty-3 : goal.returns-then-is_empty-3
returns-then-is_empty-3 c =
    ended_nothing c.loop-word.row c.loop-word.rows (c.if-is_empty-2.ensures.0 refl) (c.if-is_empty-3.ensures.0 refl)
    ∙ matrix_ended c.args.most c.loop-word.rows c.loop-word.row c.loop-word.words c.args.words.now c.loop-word.invariant c.in_default.ensures.0

pub returns-then-is_empty-2 : goal.returns-then-is_empty-2
returns-then-is_empty-2 c =
    sym (ended_none c.loop-word.row c.loop-word.rows (c.if-is_empty-2.ensures.0 refl) (λ none. true≢false (sym (c.if-is_empty-3.ensures.1 none))))
    ∙ matrix_ended c.args.most c.loop-word.rows c.loop-word.row c.loop-word.words c.args.words.now c.loop-word.invariant c.in_default.ensures.0

pub returns : goal.returns
returns c =
    ap Some c.in_ok-push-3.ensures
    ∙ sym (ended_last c.loop-word.row c.loop-word.rows (λ none. true≢false (sym (c.if-is_empty-2.ensures.1 none))))
    ∙ matrix_ended c.args.most c.loop-word.rows c.loop-word.row c.loop-word.words c.args.words.now c.loop-word.invariant c.in_default.ensures.0
