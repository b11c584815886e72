use Rattle.claim_text.specs.Part.{here}
use Rattle.claim_text.proofs.ObjectReading.{module_columns}
use Rattle.claim_text.proofs.part.Part.column_count.Goals as goal

pub returns-in-Module : goal.returns-in-Module
returns-in-Module c =
    let p = c.args.self.now in
    module_columns c.header-header.result.now p.front.header c.as_slice.result.now p.dims (here p) c.args.owner c.in-Module.side c.args.i c.target_at.result c.dim_at.result c.in-Module.is c.header-header.ensures.same c.as_slice.ensures
    c.target_at.ensures c.dim_at.ensures
