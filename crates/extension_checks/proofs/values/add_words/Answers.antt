use Rattle.std.proofs.Common.{◌≡◌, ◌<◌, ◌+◌, length, refl, ◌∙◌, arith, subst}
use Rattle.std.proofs.lemmas.Grind.{get_or_default_zero}
use Rattle.extension_checks.specs.Following.{HoldsWords}
use Rattle.extension_checks.proofs.FollowValues.{words-none, words-more}
use Rattle.extension_checks.proofs.values.add_words.Goals as goal

pub overflow_add-from : goal.overflow_add-from
overflow_add-from c = omega (arith, c.loop-p-test.true, c.requires.inside, c.requires.few)

pub loop-p-init : goal.loop-p-init
loop-p-init c = record {
  words = words-none c.args.table.now.header c.args.table.now.words c.args.b.now c.args.image.now c.args.from c.args.places.now c.args.c c.clear.new.entries c.clear.ensures.clear;
  elements = c.clear.ensures.elements c.args.table.now.header.field;
}

pub loop-p-preserved : goal.loop-p-preserved
loop-p-preserved c =
    let l : c.args.from + c.loop-p.p < length c.args.image.now = omega (arith, c.loop-p-test.true, c.requires.inside) in
    record {
      words = words-more c.args.table.now.header c.args.table.now.words c.args.b.now c.args.image.now c.args.from c.args.places.now c.loop-p.p c.args.c _ c.index.result.now c.loop-p.sum c.add_word.new.sum refl
          (c.index.ensures ∙ get_or_default_zero c.args.image.now (c.args.from + c.loop-p.p) c.index.result.now l) c.loop-p.invariant.words c.add_word.ensures.added;
      elements = c.add_word.ensures.elements;
    }

pub returns-clause-words : goal.returns-clause-words
returns-clause-words c =
    let e : c.loop-p.p ≡ length c.args.places.now = omega (arith, c.loop-p-test.false, c.loop-p.auto.p-end) in
    subst (λ n. HoldsWords c.args.table.now.header c.args.table.now.words c.args.b.now c.args.image.now c.args.from c.args.places.now n c.args.c c.loop-p.sum) e c.loop-p.invariant.words
