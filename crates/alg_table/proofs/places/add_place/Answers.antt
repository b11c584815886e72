use Rattle.std.proofs.Common.{◌+◌, sym, ap, subst, ◌∙◌}
use Rattle.alg_table.specs.WordPlaces.{ArePlacesAmong}
use Rattle.word_products.proofs.WordRows.{word_at}
use Rattle.alg_table.proofs.PlaceLists.{places-skip, places-push}
use Rattle.alg_table.proofs.places.add_place.Goals as goal

pub returns-then-word-start : goal.returns-then-word-start
returns-then-word-start c = places-skip c.args.words.now c.args.start c.args.end c.args.place c.args.places.now
    (λ b. c.if-word-start.true (ap (λ p. p.start) (sym (word_at c.args.words.now c.args.place c.index-words-place.result c.requires.place (sym c.index-words-place.is))) ∙ b.starts)) c.requires.places

pub returns-then-word-end : goal.returns-then-word-end
returns-then-word-end c = places-skip c.args.words.now c.args.start c.args.end c.args.place c.args.places.now
    (λ b. c.if-word-end.true (ap (λ p. p.end) (sym (word_at c.args.words.now c.args.place c.index-words-place.result c.requires.place (sym c.index-words-place.is))) ∙ b.ends)) c.requires.places

pub returns : goal.returns
returns c =
    let at = word_at c.args.words.now c.args.place c.index-words-place.result c.requires.place (sym c.index-words-place.is) in
    subst (ArePlacesAmong c.args.words.now c.args.start c.args.end (c.args.place + 1)) (sym c.in_ok-push.ensures)
    (places-push c.args.words.now c.args.start c.args.end c.args.place c.args.places.now
    (record { starts = ap (λ p. p.start) at ∙ c.if-word-start.false; ends = ap (λ p. p.end) at ∙ c.if-word-end.false }) c.requires.places)
