-- A sparse row added to zeros is the row with all entries.
use Rattle.std.proofs.Common.{ℕ, ◌≡◌, ◌<◌, List, length, get_or, sym, ap, ap₂, ◌∙◌, subst, arith}
use Rattle.std.specs.Prelude.{replicate}
use Rattle.std.proofs.lemmas.List.{length-replicate, get_or-replicate}
use Rattle.linear_algebra.specs.Field.{Gf, add}
use Rattle.linear_algebra.specs.FieldLaws.{zero_add, one_mul}
use Rattle.linear_algebra.specs.Rows.{list_of}
use Rattle.linear_algebra.proofs.Rows.{list_of-is}
use Rattle.word_products.specs.declared.sparse.Entry.{Entry}
use Rattle.word_products.specs.SparseRows.{entry_at, with_multiple}
use Rattle.word_products.specs.SparseRows.{dense_row}
use Rattle.word_products.specs.WordProducts.{AreEntriesOf}
use Rattle.word_products.proofs.SparseActs.{entry_at_below, length-with_multiple, with_multiple-at}

pub written_row : (q q' : Gf) (n width : ℕ) (row entries : List Entry) (into : List ℕ) → q ≡ q' → row ≡ entries → into ≡ replicate n 0 → n ≡ width
    → with_multiple q 1 row into ≡ dense_row q' width entries
unfolding dense_row
written_row q q' n width row entries into e r z l =
    list_of-is width (entry_at q row) (with_multiple q 1 row into) 0 (length-with_multiple q 1 row into ∙ count) (λ j b.
    with_multiple-at q 1 row into j (omega (arith, b, count))
    ∙ ap₂ (add q) (ap (λ x. get_or x j 0) z ∙ get_or-replicate n j 0 0 (omega (arith, b, l))) (one_mul q (entry_at q row j) (entry_at_below q row j))
    ∙ zero_add q (entry_at q row j) (entry_at_below q row j))
    ∙ ap₂ (λ p xs. list_of width (entry_at p xs)) e r
  where
    count : length into ≡ width
    count = ap length z ∙ length-replicate n 0 ∙ l

-- the entries of a row are those of the sparse row
pub dense_entries : (q q' : Gf) (n : ℕ) (x : List ℕ) (entries : List Entry) → q' ≡ q → n ≡ length x → AreEntriesOf q x (length x) entries → dense_row q' n entries ≡ x
unfolding dense_row
dense_entries q q' n x entries e w a = ap (λ p. list_of n (entry_at p entries)) e
    ∙ sym (list_of-is n (entry_at q entries) x 0 (sym w) (λ j l. sym (a.within j (subst (λ m. j < m) w l))))
