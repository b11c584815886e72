use Rattle.std.proofs.Common.{arith, inl, inr, sym, subst}
use Rattle.std.proofs.lemmas.Bool.{cases_lt, MatchBool-at_false, MatchBool-at_true}
use Rattle.alg_table.specs.WordChecks.{IsWellPlaced}
use Rattle.path_algebra.proofs.DerivedRules.{item_at}
use Rattle.alg_table.proofs.LocalWords.{words_hold_from, trivial_words, well_placed, placed_members}
use Rattle.alg_table.proofs.words.words_hold.Goals as goal

pub returns-then-not-has_trivial_words : goal.returns-then-not-has_trivial_words
returns-then-not-has_trivial_words c holds = c.if-not-has_trivial_words.ensures (trivial_words c.args.header.now c.args.words.now c.args.rules.now c.requires.allowed c.requires.tips c.requires.paths holds)

pub returns-then-not-branch : goal.returns-then-not-branch
returns-then-not-branch c holds =
    let h = c.args.header.now in
    MatchBool-at_false (IsWellPlaced h c.args.words.now c.args.rules.now c.word-item.result) _ c.if-not-branch.true c.in_ok-is_well_placed.ensures
    (well_placed h c.args.words.now c.args.rules.now c.requires.allowed c.requires.tips c.requires.paths holds c.word-item.result (c.loop-word.word-index, c.loop-word-test.true, sym c.word-item.is))

pub loop-word-preserved : goal.loop-word-preserved
loop-word-preserved c j w l = elim (cases_lt j c.loop-word.word-index) [
  | inl b ↦ c.loop-word.invariant j w b
  | inr b ↦ subst (IsWellPlaced c.args.header.now c.args.words.now c.args.rules.now) (item_at c.args.words.now j c.loop-word.word-index w c.word-item.result (omega arith) c.loop-word-test.true c.word-item.is)
      (MatchBool-at_true (IsWellPlaced c.args.header.now c.args.words.now c.args.rules.now c.word-item.result) _ c.if-not-branch.false c.in_ok-is_well_placed.ensures)
]

pub returns : goal.returns
returns c = words_hold_from c.args.header.now c.args.words.now c.args.rules.now c.requires.allowed c.requires.tips c.requires.paths c.if-not-has_trivial_words.ensures
    (placed_members c.args.header.now c.args.words.now c.args.rules.now (λ k d l. c.loop-word.invariant k d (omega arith))) c.if-not-words_ascend.ensures
