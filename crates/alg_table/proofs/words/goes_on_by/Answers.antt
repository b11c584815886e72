use Rattle.std.proofs.Common.{◌++◌, ◌∷◌, [], ap, sym, ◌∙◌}
use Rattle.quiver_paths.specs.declared.Arrow.{Arrow}
use Rattle.quiver_paths.proofs.QuiverLemmas.{source_is}
use Rattle.alg_table.proofs.LocalWords.{goes_on_if_met}
use Rattle.alg_table.proofs.words.goes_on_by.Goals as goal

pub returns-then-index-word : goal.returns-then-index-word
returns-then-index-word c m = absurd (c.if-index-word.true
    (ap (λ (x : Arrow). x.from) c.index.ensures ∙ sym (source_is c.args.header.now.quiver c.args.arrow c.index.result.now c.requires.arrow) ∙ sym m))

pub returns : goal.returns
returns c = goes_on_if_met c.args.header.now c.args.words.now c.args.rules.now c.args.word.now c.args.arrow c.deref.result.now c.goes_on.result
    (sym c.if-index-word.false ∙ ap (λ (x : Arrow). x.from) c.index.ensures ∙ sym (source_is c.args.header.now.quiver c.args.arrow c.index.result.now c.requires.arrow))
    (c.deref.ensures.value ∙ c.in_ok-push.ensures.items ∙ ap (λ xs. xs ++ c.args.arrow ∷ []) (c.in_ok-extend_from_slice.ensures.items ∙ (λ i. c.new-longer.ensures.items i ++ c.as_slice.ensures i)))
    c.goes_on.ensures
