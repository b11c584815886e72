use Rattle.alg_table.proofs.elements.let_go_named.Goals as goal

pub returns-in-Add-clause-in_use : goal.returns-in-Add-clause-in_use
returns-in-Add-clause-in_use c h xs held = c.let_go-in-Add-2.ensures.in_use h xs (c.let_go-in-Add.ensures.in_use h xs held)
