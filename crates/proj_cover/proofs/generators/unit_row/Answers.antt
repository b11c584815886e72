use Rattle.std.proofs.Common.{◌∙◌, ap, set}
use Rattle.proj_cover.proofs.Columns.{unit_written}
use Rattle.proj_cover.proofs.generators.unit_row.Goals as goal

pub returns : goal.returns
returns c = c.from_vec.ensures ∙ ap (λ s. set s c.args.c 1) (c.in_ok-row.ensures.items_if_clones_equal (λ y h. h)) ∙ unit_written c.args.width c.args.c c.requires
