use Rattle.std.proofs.Common.{◌≡◌, ◌<◌, length, ap, sym, subst, ◌∙◌}
use Rattle.std.specs.Prelude.{All}
use Rattle.linear_algebra.specs.Rows.{unit}
use Rattle.quiver_paths.specs.Path.{IsPath}
use Rattle.alg_table.specs.TableView.{TableView}
use Rattle.word_products.specs.SparseRows.{acted_along}
use Rattle.alg_table.specs.NormalForm.{IsNormalForm}
use Rattle.alg_table.proofs.TableActs.{arrows_inside, start_inside, form_along}
use Rattle.alg_table.proofs.table.Table.normal_form.Goals as goal

pub act_on_word-requires-clause-path : goal.act_on_word-requires-clause-path
act_on_word-requires-clause-path c =
    let path = subst (λ (v : TableView). IsPath v.header.quiver c.args.path.now) (sym c.self.view_is) c.requires.path in
    subst (λ n. All (λ a. a < n) c.args.path.now.arrows) (sym c.len-arrows.ensures)
    (arrows_inside c.self.inside.header c.self.inside.words c.self.inside.rows c.self.invariant.table c.self.invariant.rows_are c.args.path.now path)

pub act_on_word-requires-clause-place : goal.act_on_word-requires-clause-place
act_on_word-requires-clause-place c =
    let path = subst (λ (v : TableView). IsPath v.header.quiver c.args.path.now) (sym c.self.view_is) c.requires.path in
    start_inside c.self.inside.header c.self.inside.words c.self.inside.rows c.self.invariant.table c.self.invariant.rows_are c.args.path.now.start path.starts

pub returns : goal.returns
returns c =
    let path = subst (λ (v : TableView). IsPath v.header.quiver c.args.path.now) (sym c.self.view_is) c.requires.path in
    rw (← c.self.view_is) (form_along c.self.inside.header c.self.inside.words c.self.inside.rows c.self.invariant.table c.self.invariant.rows_are c.args.path.now path c.act_on_word.new.into
    (c.act_on_word.ensures ∙ ap (λ n. acted_along c.self.inside.rows.field c.self.inside.rows.rows n c.args.path.now.arrows (unit c.self.inside.rows.width c.args.path.now.start)) c.len-arrows.ensures))
