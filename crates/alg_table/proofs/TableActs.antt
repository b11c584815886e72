-- What the arrows of paths make of the first words, in a table.
use Rattle.std.proofs.Common.{ℕ, ◌≡◌, ◌≢◌, ◌<◌, List, [], ◌∷◌, length, refl, sym, ap, ◌∙◌, subst}
use Rattle.std.specs.Prelude.{All}
use Rattle.std.proofs.lemmas.Bool.{cases_eq}
use Rattle.linear_algebra.specs.Rows.{unit, zeros}
use Rattle.quiver_paths.specs.declared.Path.{Path}
use Rattle.quiver_paths.specs.Quiver.{vertex_count, arrow_count, source, target}
use Rattle.quiver_paths.specs.Path.{IsPath, Meets, concat, trivial_path, arrow_path}
use Rattle.quiver_paths.proofs.PathLemmas.{IsPath-concat, IsPath-arrow}
use Rattle.path_algebra.specs.declared.Header.{Header}
use Rattle.path_algebra.specs.Rows.{path_at}
use Rattle.path_algebra.proofs.Independent.{leads_arrows}
use Rattle.word_products.specs.SparseRows.{SparseView, acted_along}
use Rattle.alg_table.specs.NormalForm.{IsNormalForm, IsProductOf}
use Rattle.alg_table.specs.TableView.{IsTable, AreTableRows}
use Rattle.alg_table.proofs.FirstWords.{first_word}
use Rattle.word_products.proofs.WordRows.{word_listed}

module _ (h : Header) (words : List Path) (rows : SparseView) (t : IsTable h words) (r : AreTableRows h words rows) where
  pub arrows_inside : (p : Path) → IsPath h.quiver p → All (λ a. a < arrow_count h.quiver) p.arrows
  arrows_inside p hp = leads_arrows h.quiver p.start p.arrows p.end hp.leads

  pub start_inside : (v : ℕ) → v < vertex_count h.quiver → v < rows.width
  start_inside v l = subst (λ n. v < n) (sym r.width_is) (first_word h words t.allowed t.normal v l).0

  pub word_path : (i : ℕ) → i < length words → IsPath h.quiver (path_at words i)
  word_path i l = (t.normal.only (path_at words i) (word_listed words i l)).short.path

  -- the arrows of a path give its normal form
  pub form_along : (p : Path) → IsPath h.quiver p → (row : List ℕ) → row ≡ acted_along rows.field rows.rows (arrow_count h.quiver) p.arrows (unit rows.width p.start) → IsNormalForm h words p row
  form_along p hp row e =
      let f = first_word h words t.allowed t.normal p.start hp.starts in
      subst (IsNormalForm h words p)
      (sym (e ∙ ap (λ q. acted_along q rows.rows (arrow_count h.quiver) p.arrows (unit rows.width p.start)) r.field_is
      ∙ ap (λ n. acted_along h.field rows.rows (arrow_count h.quiver) p.arrows (unit n p.start)) r.width_is))
      (r.forms p hp p.start f.0 f.1)

  -- an arrow before a word that it meets
  pub before_word : (i a : ℕ) → i < length words → a < arrow_count h.quiver → target h.quiver a ≡ (path_at words i).start → (row : List ℕ)
      → row ≡ acted_along rows.field rows.rows (arrow_count h.quiver) (a ∷ (path_at words i).arrows) (unit rows.width (source h.quiver a))
      → IsProductOf h words (arrow_path h.quiver a) (path_at words i) row
  before_word i a li la m row e = record {
    meeting = λ _. form_along (concat (arrow_path h.quiver a) (path_at words i))
        (IsPath-concat h.quiver (arrow_path h.quiver a) (path_at words i) (IsPath-arrow h.quiver a t.allowed.quiver.ends la) (word_path i li) m) row e;
    apart = λ n. absurd (n m);
  }

-- an arrow before a word that it does not meet
pub apart_word : (h : Header) (words : List Path) (p r : Path) → (Meets p r → ⊥) → (row : List ℕ) → row ≡ zeros (length words) → IsProductOf h words p r row
apart_word h words p r n row e = record { meeting = λ m. absurd (n m); apart = λ _. e }
