-- The normal form of a path is what its arrows make of the row of the trivial word where it starts.
use Rattle.std.proofs.Common.{ℕ, ◌≡◌, ◌<◌, ◌*◌, List, length, sym, ap, ◌∙◌, subst}
use mathlib.Core.Path.{fun_ext}
use Rattle.linear_algebra.specs.Rows.{unit}
use Rattle.quiver_paths.specs.declared.Path.{Path}
use Rattle.quiver_paths.specs.Quiver.{arrow_count}
use Rattle.quiver_paths.specs.Path.{IsPath, path_length, trivial_path}
use Rattle.path_algebra.specs.declared.Header.{Header}
use Rattle.path_algebra.specs.declared.rules.Rule.{Rule}
use Rattle.word_products.specs.declared.sparse.Entry.{Entry}
use Rattle.path_algebra.specs.Elements.{path_element}
use Rattle.path_algebra.specs.Rows.{path_at, row_of}
use Rattle.path_algebra.specs.Reduction.{act_arrows}
use Rattle.word_products.specs.SparseRows.{acted_along}
use Rattle.word_products.specs.WordProducts.{KnowsProducts, CanAct}
use Rattle.alg_table.specs.NormalForm.{IsNormalForm}
use Rattle.path_algebra.proofs.Independent.{leads_arrows}
use Rattle.path_algebra.proofs.ClausesSuffice.{AreSound}
use Rattle.word_products.proofs.WordRows.{word_listed, short_word, unit-row}
use Rattle.word_products.proofs.ActingRows.{along_all}
use Rattle.alg_table.proofs.FormRows.{form_row}
use Rattle.alg_table.proofs.BehindForms.{path_from_start}

pub form_by_rows : (h : Header) (words : List Path) (rules : List Rule) → AreSound h words rules → CanAct h words rules → (rows : List (List Entry)) → KnowsProducts h words rules rows
    → length rows ≡ length words * arrow_count h.quiver → (p : Path) → IsPath h.quiver p → (place : ℕ) → place < length words → path_at words place ≡ trivial_path p.start
    → IsNormalForm h words p (acted_along h.field rows (arrow_count h.quiver) p.arrows (unit (length words) place))
form_by_rows h words rules c can rows known count p hp place l e =
    let becomes = c.action.becomes in
    let is = can.word.only (path_at words place) (word_listed words place l) in
    let start : path_element h.bound (path_at words place) ≡ becomes (trivial_path p.start) =
    fun_ext (λ r. sym (c.action.reduction.stays (path_at words place) is.0 is.1 r)) ∙ ap becomes e in
    subst (IsNormalForm h words p)
    (sym (ap (acted_along h.field rows (arrow_count h.quiver) p.arrows) (unit-row h.bound words can.word.ascending place l (short_word h words rules can place l).short)
    ∙ along_all h words rules can becomes c.action.reduction rows (known.products becomes c.action.reduction) count p.arrows (leads_arrows h.quiver p.start p.arrows p.end hp.leads) (path_element h.bound (path_at words place))
    ∙ ap (λ x. row_of words (act_arrows h becomes words p.arrows x)) start
    ∙ ap (row_of words) (path_from_start h words rules c p hp)))
    (form_row h words rules c p hp)
