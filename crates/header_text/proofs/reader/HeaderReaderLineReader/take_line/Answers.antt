use Rattle.std.proofs.Common.{sym, subst}
use Rattle.header_text.specs.Part.{Step}
use Rattle.header_text.proofs.FormLemmas.{step_of}
use Rattle.header_text.proofs.reader.HeaderReaderLineReader.take_line.Goals as goal

pub returns : goal.returns
returns c =
    let known = rw c.in-Some-2.is at c.in_ok-form.ensures in
    subst (Step c.args.self.now c.args.line.now) (sym c.in_ok-take.ensures)
    (step_of c.args.self.now c.args.line.now c.in-Some.tokens c.in-Some-2.form c.has_begun-begun.ensures.front (sym c.in-Some.ensures) known.0 known.1)
