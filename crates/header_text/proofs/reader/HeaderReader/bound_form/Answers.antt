use Rattle.header_text.proofs.FormLemmas.{low_bound}
use Rattle.header_text.proofs.reader.HeaderReader.bound_form.Goals as goal

pub returns-then-bound-lt2 : goal.returns-then-bound-lt2
returns-then-bound-lt2 c = low_bound c.args.self.now c.args.rest c.in-Some.bound c.if-bound-lt2.true c.in-Some.ensures.1
