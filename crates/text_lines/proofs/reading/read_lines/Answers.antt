use Rattle.std.proofs.Common.{◌∷◌, ◌++◌, [], length, sym, ap, ◌∙◌, arith, append_assoc}
use Rattle.std.proofs.lemmas.List.{length-append}
use Rattle.text_lines.specs.Lines.{lines}
use Rattle.text_lines.proofs.Readings.{Reads-push}
use Rattle.text_lines.proofs.reading.read_lines.Goals as goal

pub loop-rest-preserved : goal.loop-rest-preserved
loop-rest-preserved g c =
    let so_far = c.loop-rest.invariant in
    let line = c.first_line.result.0.now in (
      so_far.0 ++ line ∷ [],
      record {
        split = so_far.1.split ∙ ap (λ l. so_far.0 ++ l) c.first_line.ensures.first ∙ sym (append_assoc so_far.0 (line ∷ []) (lines c.first_line.result.1.now));
        reads = Reads-push _ _ _ _ so_far.0 line so_far.1.reads (rw c.if-not-taken.false at c.in-Ok.ensures);
        number = omega (arith, so_far.1.number, length-append so_far.0 (line ∷ []));
        room = omega (arith, so_far.1.room, c.first_line.ensures.some, ap length c.first_line.ensures.whole, length-append line c.first_line.result.1.now);
      },
    )
