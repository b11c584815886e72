use Rattle.std.proofs.Common.{sym}
use Rattle.script_lang.proofs.ReferenceLaws.{suffix-map, suffix-inv, suffix-none, suffix-part}
use Rattle.script_lang.proofs.tokens.read_suffix.Goals as goal

pub returns-then-is_word : goal.returns-then-is_word
returns-then-is_word c = suffix-map c.args.token.now (sym c.if-is_word.ensures)

pub returns-then-is_word-2 : goal.returns-then-is_word-2
returns-then-is_word-2 c = suffix-inv c.args.token.now (sym c.if-is_word.ensures) (sym c.if-is_word-2.ensures)

pub returns-then-begins_with_zero : goal.returns-then-begins_with_zero
returns-then-begins_with_zero c = suffix-none c.args.token.now (sym c.if-is_word.ensures) (sym c.if-is_word-2.ensures) (sym c.if-begins_with_zero.ensures)

pub returns-else-begins_with_zero : goal.returns-else-begins_with_zero
returns-else-begins_with_zero c =
    let e = suffix-part c.args.token.now (sym c.if-is_word.ensures) (sym c.if-is_word-2.ensures) (sym c.if-begins_with_zero.ensures) in
    cc (e, c.part_of.ensures, c.read_number.ensures)
