use Rattle.word_products.specs.Vanishing.{SpansTrivial}
use Rattle.word_products.proofs.action.trivial_words.Given as goal

abbrev pub invariant-loop-i : goal.invariant-loop-i
invariant-loop-i l = SpansTrivial l.header l.words l.rules l.i l.span
