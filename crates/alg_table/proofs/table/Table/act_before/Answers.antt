use Rattle.std.proofs.Common.{◌≡◌, ◌<◌, ◌∷◌, length, ap, sym, subst, ◌∙◌}
use Rattle.std.specs.Prelude.{All}
use Rattle.linear_algebra.specs.Rows.{unit, zeros}
use Rattle.quiver_paths.specs.declared.Path.{Path}
use Rattle.quiver_paths.specs.declared.Arrow.{Arrow}
use Rattle.quiver_paths.specs.Quiver.{arrow_count, source, target}
use Rattle.quiver_paths.specs.Path.{arrow_path}
use Rattle.quiver_paths.proofs.QuiverLemmas.{source_is, target_is}
use Rattle.path_algebra.specs.Rows.{path_at}
use Rattle.alg_table.specs.TableView.{TableView}
use Rattle.word_products.specs.SparseRows.{acted_along}
use Rattle.alg_table.specs.NormalForm.{IsProductOf}
use Rattle.word_products.proofs.TermSums.{zeros_are}
use Rattle.word_products.proofs.WordRows.{word_at}
use Rattle.alg_table.proofs.TableActs.{arrows_inside, start_inside, word_path, before_word, apart_word}
use Rattle.alg_table.proofs.table.Table.act_before.Goals as goal

pub returns-then-ends-word : goal.returns-then-ends-word
returns-then-ends-word c =
    let inside : c.args.word < length c.self.inside.words = subst (λ (v : TableView). c.args.word < length v.words) (sym c.self.view_is) c.requires.word in
    let arrow : c.args.arrow < arrow_count c.self.inside.header.quiver = subst (λ (v : TableView). c.args.arrow < arrow_count v.header.quiver) (sym c.self.view_is) c.requires.arrow in
    let at = word_at c.self.inside.words c.args.word c.index-word.result.now inside (sym c.index-word.ensures) in
    let ends : c.index-ends.result.now.to ≡ target c.self.inside.header.quiver c.args.arrow = ap (λ (x : Arrow). x.to) c.index-ends.ensures ∙ sym (target_is c.self.inside.header.quiver c.args.arrow c.index-ends.result.now arrow) in
    rw (← c.self.view_is) (apart_word c.self.inside.header c.self.inside.words (arrow_path c.self.inside.header.quiver c.args.arrow) (path_at c.self.inside.words c.args.word)
    (λ m. c.if-ends-word.true (ends ∙ m ∙ ap (λ (p : Path). p.start) at)) c.fill.new.self
    (c.fill.ensures.after (λ y e. e) ∙ zeros_are (length c.args.into.now) ∙ ap zeros (c.requires.into ∙ ap (λ (v : TableView). length v.words) (sym c.self.view_is))))

pub act_on_word_behind-requires-clause-path : goal.act_on_word_behind-requires-clause-path
act_on_word_behind-requires-clause-path c =
    let inside : c.args.word < length c.self.inside.words = subst (λ (v : TableView). c.args.word < length v.words) (sym c.self.view_is) c.requires.word in
    let at = word_at c.self.inside.words c.args.word c.index-word.result.now inside (sym c.index-word.ensures) in
    subst (λ n. All (λ a. a < n) c.index-word.result.now.arrows) (sym c.len-arrows.ensures)
    (subst (λ (p : Path). All (λ a. a < arrow_count c.self.inside.header.quiver) p.arrows) at
    (arrows_inside c.self.inside.header c.self.inside.words c.self.inside.rows c.self.invariant.table c.self.invariant.rows_are (path_at c.self.inside.words c.args.word)
    (word_path c.self.inside.header c.self.inside.words c.self.inside.rows c.self.invariant.table c.self.invariant.rows_are c.args.word inside)))

pub act_on_word_behind-requires-clause-place : goal.act_on_word_behind-requires-clause-place
act_on_word_behind-requires-clause-place c =
    let arrow : c.args.arrow < arrow_count c.self.inside.header.quiver = subst (λ (v : TableView). c.args.arrow < arrow_count v.header.quiver) (sym c.self.view_is) c.requires.arrow in
    let starts : c.index-ends.result.now.from ≡ source c.self.inside.header.quiver c.args.arrow = ap (λ (x : Arrow). x.from) c.index-ends.ensures ∙ sym (source_is c.self.inside.header.quiver c.args.arrow c.index-ends.result.now arrow) in
    subst (λ v. v < c.self.inside.rows.width) (sym starts)
    (start_inside c.self.inside.header c.self.inside.words c.self.inside.rows c.self.invariant.table c.self.invariant.rows_are (source c.self.inside.header.quiver c.args.arrow)
    (c.self.invariant.table.allowed.quiver.ends.sources c.args.arrow arrow))

pub returns : goal.returns
returns c =
    let inside : c.args.word < length c.self.inside.words = subst (λ (v : TableView). c.args.word < length v.words) (sym c.self.view_is) c.requires.word in
    let arrow : c.args.arrow < arrow_count c.self.inside.header.quiver = subst (λ (v : TableView). c.args.arrow < arrow_count v.header.quiver) (sym c.self.view_is) c.requires.arrow in
    let at = word_at c.self.inside.words c.args.word c.index-word.result.now inside (sym c.index-word.ensures) in
    let ends : c.index-ends.result.now.to ≡ target c.self.inside.header.quiver c.args.arrow = ap (λ (x : Arrow). x.to) c.index-ends.ensures ∙ sym (target_is c.self.inside.header.quiver c.args.arrow c.index-ends.result.now arrow) in
    let starts : c.index-ends.result.now.from ≡ source c.self.inside.header.quiver c.args.arrow = ap (λ (x : Arrow). x.from) c.index-ends.ensures ∙ sym (source_is c.self.inside.header.quiver c.args.arrow c.index-ends.result.now arrow) in
    let rows = c.self.inside.rows in
    rw (← c.self.view_is) (before_word c.self.inside.header c.self.inside.words c.self.inside.rows c.self.invariant.table c.self.invariant.rows_are c.args.word c.args.arrow inside arrow
    (sym ends ∙ c.if-ends-word.false ∙ ap (λ (p : Path). p.start) (sym at)) c.act_on_word_behind.new.into
    (c.act_on_word_behind.ensures
    ∙ ap (λ n. acted_along rows.field rows.rows n (c.args.arrow ∷ c.index-word.result.now.arrows) (unit rows.width c.index-ends.result.now.from)) c.len-arrows.ensures
    ∙ ap (λ (p : Path). acted_along rows.field rows.rows (arrow_count c.self.inside.header.quiver) (c.args.arrow ∷ p.arrows) (unit rows.width c.index-ends.result.now.from)) (sym at)
    ∙ ap (λ v. acted_along rows.field rows.rows (arrow_count c.self.inside.header.quiver) (c.args.arrow ∷ (path_at c.self.inside.words c.args.word).arrows) (unit rows.width v)) starts))
