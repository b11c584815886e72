use Rattle.std.proofs.Common.{ap, ap₂, sym, subst, ◌∙◌, ◌∷◌, []}
use Rattle.linear_algebra.specs.Rows.{IsRow, unit}
use Rattle.word_products.specs.SparseRows.{acted_along}
use Rattle.word_products.proofs.SparseActs.{acted_along-first, IsRow-acted_along}
use Rattle.word_products.proofs.TermSums.{IsRow-unit}
use Rattle.word_products.proofs.word_sums.act_on_word_behind.Goals as goal

pub act_along-requires-clause-row : goal.act_along-requires-clause-row
act_along-requires-clause-row c = subst (IsRow c.args.rows.now.field c.args.rows.now.width) (sym (c.set_unit.ensures ∙ ap (λ n. unit n c.args.place) c.requires.into))
    (IsRow-unit c.args.rows.now.field c.args.rows.now.width c.args.place)

pub act_along-requires-2-clause-row : goal.act_along-requires-2-clause-row
act_along-requires-2-clause-row c = subst (IsRow c.args.rows.now.field c.args.rows.now.width) (sym c.act_along.ensures.row)
    (IsRow-acted_along c.args.rows.now.field c.args.rows.now.rows c.args.arrows (c.args.arrow ∷ []) c.args.rows.now.width c.set_unit.new.row
    (subst (IsRow c.args.rows.now.field c.args.rows.now.width) (sym (c.set_unit.ensures ∙ ap (λ n. unit n c.args.place) c.requires.into))
    (IsRow-unit c.args.rows.now.field c.args.rows.now.width c.args.place)))

pub returns : goal.returns
returns c = c.act_along-2.ensures.row
    ∙ ap₂ (acted_along c.args.rows.now.field c.args.rows.now.rows c.args.arrows) c.as_slice.ensures
    (c.act_along.ensures.row ∙ ap (acted_along c.args.rows.now.field c.args.rows.now.rows c.args.arrows (c.args.arrow ∷ [])) (c.set_unit.ensures ∙ ap (λ n. unit n c.args.place) c.requires.into))
    ∙ acted_along-first c.args.rows.now.field c.args.rows.now.rows c.args.arrows c.args.arrow c.args.path.now.arrows (unit c.args.rows.now.width c.args.place)
