use Rattle.std.proofs.Common.{◌≡◌, ◌<◌, List, [], ◌∷◌, ◌++◌, length, take, sym, ap, ◌∙◌, arith}
use Rattle.std.proofs.lemmas.List.{take_more, take_all}
use Rattle.std.proofs.lemmas.List.Elements.{same_from_all_zip}
use Rattle.quiver_paths.specs.declared.Path.{Path}
use Rattle.quiver_paths.proofs.PathLemmas.{same_path}
use Rattle.script_run.proofs.basis.words_of.Goals as goal

pub loop-i-init : goal.loop-i-init
loop-i-init c = c.new-words.ensures

pub loop-i-preserved : goal.loop-i-preserved
loop-i-preserved c =
    let inside : c.loop-i.i < length c.args.table.now.words = omega (arith, c.loop-i-test.true, c.word_count-i-end.ensures) in
    let copy : c.in_ok-clone.field-0 ≡ c.word.result.now = same_path _ _ c.in_ok-clone.ensures.cases.0 c.in_ok-clone.ensures.cases.1.0 (same_from_all_zip _ _ _ c.in_ok-clone.ensures.cases.1.1 (λ x y e. e)) in
    c.in_ok-push.ensures ∙ (ap (λ (l : List Path). l ++ c.in_ok-clone.field-0 ∷ []) c.loop-i.invariant
    ∙ (ap (λ (w : Path). take c.loop-i.i c.args.table.now.words ++ w ∷ []) (copy ∙ c.word.ensures)
    ∙ sym (take_more c.args.table.now.words c.loop-i.i c.word.result.now inside)))

pub returns : goal.returns
returns c = c.loop-i.invariant ∙ take_all c.loop-i.i c.args.table.now.words (omega (arith, c.loop-i-test.false, c.word_count-i-end.ensures))
