use Rattle.claim_text.proofs.ReportLaws.{report_pieces}
use Rattle.claim_text.proofs.laws.texts_are_in_pieces.Goals as goal

pub returns : goal.returns
returns c = report_pieces
