use Rattle.std.proofs.Common.{arith, map, ◌∷◌, []}
use Rattle.std.specs.Prelude.{string_bytes}
use Rattle.top_call.proofs.WordLemmas.{three_words, same_words}
use Rattle.top_call.proofs.modes.read_words.Goals as goal

pub returns : goal.returns
returns c =
    same_words (map string_bytes c.args.words.now) (c.as_str-2.result.now ∷ c.as_str-3.result.now ∷ c.as_str-4.result.now ∷ [])
    (three_words string_bytes c.args.words.now c.index-words-0-2.result c.index-words-1.result c.index-words-2.result c.as_str-2.result.now c.as_str-3.result.now c.as_str-4.result.now
    (omega (arith, c.if-words-ne3.false)) c.index-words-0-2.is c.index-words-1.is c.index-words-2.is c.as_str-2.ensures.value c.as_str-3.ensures.value c.as_str-4.ensures.value)
    c.wanted_around.result c.wanted_around.ensures
