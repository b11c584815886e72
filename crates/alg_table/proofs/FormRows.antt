-- What a path becomes is its normal form, where all conditions hold; so the rows of products are normal forms.
use Rattle.std.proofs.Common.{ℕ, ◌≡◌, ◌<◌, ◌+◌, ◌*◌, List, length, map, inl, inr, sym, ◌∙◌, subst, arith}
use Rattle.std.proofs.lemmas.List.{length-map, get_or-map}
use Rattle.std.proofs.lemmas.Nat.{mul-add-lt}
use Rattle.std.proofs.lemmas.Bool.{cases_lt, cond-false, ne_eqb}
use Rattle.linear_algebra.specs.Rows.{zeros}
use Rattle.linear_algebra.proofs.Rows.{list_of-is, list_of-same}
use Rattle.quiver_paths.specs.declared.Path.{Path}
use Rattle.quiver_paths.specs.Quiver.{arrow_count}
use Rattle.quiver_paths.specs.Path.{IsPath, path_length, concat, arrow_path, trivial_path}
use Rattle.quiver_paths.proofs.PathLemmas.{IsPath-concat, IsPath-arrow}
use Rattle.path_algebra.specs.declared.Header.{Header}
use Rattle.path_algebra.specs.declared.rules.Rule.{Rule}
use Rattle.word_products.specs.declared.sparse.Entry.{Entry}
use Rattle.path_algebra.specs.Rows.{path_at, row_of}
use Rattle.path_algebra.specs.Words.{IsExpansion, IsBasis}
use Rattle.word_products.specs.WordProducts.{product_with, IsSparseRow, KnowsProducts, CanAct}
use Rattle.alg_table.specs.NormalForm.{IsNormalForm, AreRightProducts}
use Rattle.word_products.specs.SparseRows.{dense_row}
use Rattle.path_algebra.proofs.ClausesSuffice.{AreSound, expansion}
use Rattle.word_products.proofs.WordRows.{short_word, product-met}

row_of-map : (words : List Path) (x : Path → ℕ) → map x words ≡ row_of words x
unfolding row_of path_at
row_of-map words x = list_of-is (length words) _ (map x words) 0 (length-map words x) (λ j l. get_or-map x words j (trivial_path 0) 0 l)

module _ (h : Header) (words : List Path) (rules : List Rule) (c : AreSound h words rules) where
  -- what a path becomes is its normal form
  pub form_row : (p : Path) → IsPath h.quiver p → IsNormalForm h words p (row_of words (c.action.becomes p))
  unfolding row_of zeros
  form_row p hp = record {
    short = λ s. subst (IsExpansion h words p) (row_of-map words (c.action.becomes p)) (expansion h words rules c p hp);
    long = λ l. list_of-same (length words) _ _ 0 (λ j k. c.action.reduction.long p hp l (path_at words j));
  }

  sparse-dense : (x : Path → ℕ) (entries : List Entry) → IsSparseRow h.field words x entries → row_of words x ≡ dense_row h.field (length words) entries
  unfolding row_of dense_row
  sparse-dense x entries s = list_of-same (length words) _ _ 0 (λ j l. sym (s.value j l))

  pub right_products : CanAct h words rules → (rows : List (List Entry)) → KnowsProducts h words rules rows → length rows ≡ length words * arrow_count h.quiver → AreRightProducts h words rows
  unfolding product_with row_of zeros
  right_products can rows known count = record {
    meeting = λ i a li la e.
        let p : Path = concat (path_at words i) (arrow_path h.quiver a) in
        let s = ((known.products c.action.becomes c.action.reduction).row i a li la (index i a li la)) in
        subst (IsNormalForm h words p) (list_of-same (length words) _ _ 0 (λ j l. sym (product-met h words rules can c.action.becomes (path_at words i) a (path_at words j) e))
        ∙ sparse-dense (product_with h c.action.becomes (path_at words i) a) _ s)
        (form_row p (IsPath-concat h.quiver (path_at words i) (arrow_path h.quiver a) (short_word h words rules can i li).path (IsPath-arrow h.quiver a can.allowed.quiver.ends la) e));
    apart = λ i a li la d.
        let s = ((known.products c.action.becomes c.action.reduction).row i a li la (index i a li la)) in
        sym (sparse-dense (product_with h c.action.becomes (path_at words i) a) _ s)
        ∙ list_of-same (length words) _ _ 0 (λ j l. cond-false _ _ 0 (ne_eqb _ _ d));
  }
    where
      index : (i a : ℕ) → i < length words → a < arrow_count h.quiver → i * arrow_count h.quiver + a < length rows
      index i a li la = omega (arith, count, mul-add-lt i (arrow_count h.quiver) a (length words) li la)

-- a path has one normal form
pub form_once : (h : Header) (words : List Path) → IsBasis h words → (p : Path) → IsPath h.quiver p → (c d : List ℕ) → IsNormalForm h words p c → IsNormalForm h words p d → c ≡ d
form_once h words b p hp c d f g = elim (cases_lt (path_length p) h.bound) [
  | inl l ↦
      let one = b.expands p (record { path = hp; short = l }) in
      one.unique c (f.short l) ∙ sym (one.unique d (g.short l))
  | inr l ↦ f.long l ∙ sym (g.long l)
]
