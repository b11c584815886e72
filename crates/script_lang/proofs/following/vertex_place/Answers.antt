use Rattle.std.proofs.Common.{◌≡◌, [], get_or, true, arith}
use Rattle.quiver_paths.specs.declared.naming.Name.{Name}
use Rattle.script_lang.specs.Tokens.{is_word}
use Rattle.script_lang.proofs.PlaceLaws.{place_found, place_missing}
use Rattle.script_lang.proofs.following.vertex_place.Goals as goal

pub returns-then-is_word : goal.returns-then-is_word
returns-then-is_word c =
    let d = c.index-vertices-i.result in
    let at : is_word (get_or c.args.vertices.now c.loop-i.i d) c.args.name.now ≡ true = cc (c.if-is_word.ensures, c.text.ensures.bytes, c.text-in-loop-i.ensures.bytes, c.index-vertices-i.is) in
    place_found (λ (n : Name). is_word n c.args.name.now) c.args.vertices.now c.loop-i.i d c.loop-i-test.true (λ k less. c.loop-i.invariant k d less) at

pub returns : goal.returns
returns c = place_missing (λ (n : Name). is_word n c.args.name.now) c.args.vertices.now [] (λ k less. c.loop-i.invariant k [] (omega arith))
