use Rattle.std.proofs.Common.{◌≡◌, [], get_or, true, arith, sym, ap, ◌∙◌}
use Rattle.quiver_paths.specs.declared.Arrow.{Arrow}
use Rattle.script_lang.specs.Tokens.{is_word}
use Rattle.script_lang.proofs.PlaceLaws.{place_found, place_missing}
use Rattle.script_lang.proofs.relations.arrow_place.Goals as goal

abbrev none : Arrow
none = record { name = []; from = 0; to = 0 }

pub returns-then-is_word : goal.returns-then-is_word
returns-then-is_word c =
    let d = c.index-arrows-i.result in
    let at : is_word (get_or c.args.arrows.now c.loop-i.i d).name c.args.name.now ≡ true =
    ap (λ (a : Arrow). is_word a.name c.args.name.now) (sym c.index-arrows-i.is) ∙ sym (ap (λ l. is_word l c.args.name.now) c.text.ensures.bytes) ∙ sym c.if-is_word.ensures in
    place_found (λ (a : Arrow). is_word a.name c.args.name.now) c.args.arrows.now c.loop-i.i d c.loop-i-test.true (λ k less. c.loop-i.invariant k d less) at

pub returns : goal.returns
returns c = place_missing (λ (a : Arrow). is_word a.name c.args.name.now) c.args.arrows.now none (λ k less. c.loop-i.invariant k none (omega arith))
