use Rattle.std.proofs.Common.{arith, sym, ◌∙◌}
use Rattle.alg_table.proofs.LocalWords.{word-less, word-greater, word-equal}
use Rattle.alg_table.proofs.words.is_word.Goals as goal

pub loop-low-preserved-in-Less : goal.loop-low-preserved-in-Less
loop-low-preserved-in-Less c = record {
  within = c.loop-low.invariant.within;
  between = λ k d l s e.
      let old = c.loop-low.invariant.between k d l s e in
      let past = word-less c.args.words.now c.args.start c.args.arrows.now _ k c.index-words-middle.result d
      (record { ascending = c.requires; first_inside = (let w = c.loop-low.invariant.within in omega arith); second_inside = l; first = c.index-words-middle.is; starts = s; same = e })
      (sym c.compare_at.ensures ∙ c.in-Less.is) in
      (omega arith, old.1);
}

pub returns-in-Equal : goal.returns-in-Equal
returns-in-Equal c = word-equal c.args.words.now c.args.start c.args.arrows.now _ c.index-words-middle.result (let w = c.loop-low.invariant.within in omega arith) c.index-words-middle.is
    (sym c.compare_at.ensures ∙ c.in-Equal.is)

pub loop-low-preserved : goal.loop-low-preserved
loop-low-preserved c = record {
  within = (let w = c.loop-low.invariant.within in omega arith);
  between = λ k d l s e.
      let old = c.loop-low.invariant.between k d l s e in (
        old.0,
        word-greater c.args.words.now c.args.start c.args.arrows.now _ k c.index-words-middle.result d
            (record { ascending = c.requires; first_inside = (let w = c.loop-low.invariant.within in omega arith); second_inside = l; first = c.index-words-middle.is; starts = s; same = e })
            (sym c.compare_at.ensures ∙ c.in-Greater.is),
      );
}
