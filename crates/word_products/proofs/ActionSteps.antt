-- The action clause from its two parts, and what steps towards them leave.
use Rattle.std.proofs.Common.{ℕ, ◌≡◌, ◌<◌, ◌+◌, ◌*◌, List, [], ◌∷◌, ◌++◌, length, get_or, Bool, true, false, refl, sym, ap, ◌∙◌, subst, arith}
use Rattle.std.specs.Prelude.{All, IsTrue, ◌↔◌}
use Rattle.linear_algebra.specs.Field.{Gf}
use Rattle.linear_algebra.specs.Rows.{IsRow, SameSpan, IsInSpan}
use Rattle.quiver_paths.specs.declared.Path.{Path}
use Rattle.quiver_paths.specs.Quiver.{arrow_count}
use Rattle.path_algebra.specs.declared.Header.{Header}
use Rattle.path_algebra.specs.declared.rules.Rule.{Rule}
use Rattle.path_algebra.specs.Rows.{RowsView}
use Rattle.path_algebra.specs.Reduction.{IsReduction}
use Rattle.path_algebra.specs.BasisClauses.{ActionHolds}
use Rattle.word_products.specs.SparseRows.{IsEntry, SparseView, SumView, dense_row, acted_by}
use Rattle.word_products.specs.WordProducts.{CanAct, AreEntriesOf}
use Rattle.word_products.specs.Vanishing.{AreAllProducts, RelationsVanish, LongVanish, AreImages, SpansImages, HasImages, IsRowAt, AreZero}
use Rattle.path_algebra.proofs.ReductionExists.{HasReduction, reduction_exists}
use Rattle.word_products.specs.declared.sparse.Entry.{Entry}
use Rattle.word_products.proofs.SparseActs.{IsRow-acted_by}
use Rattle.word_products.proofs.EntryRows.{entries_fit}
use Rattle.word_products.proofs.DenseRows.{dense_entries}
use Rattle.word_products.proofs.TermSums.{row_moved}
use Rattle.word_products.proofs.WordRows.{are_rules}
use Rattle.word_products.proofs.ImageSpans.{long-from_zero, zero-from_long, images-push, images-skip, images-all}

pub nonempty : (xs : List ℕ) → (xs ≡ [] → ⊥) → 0 < length xs
nonempty [] d = absurd (d refl)
nonempty (x ∷ xs) d = omega arith

module _ (h : Header) (words : List Path) (rules : List Rule) (can : CanAct h words rules) where
  pub reduction : HasReduction h rules
  reduction = reduction_exists h rules (are_rules h words rules can) can.reduced.ascending can.reduced.tips

  pub action-refuted : (b : Bool) → b ≡ false → ((becomes : Path → Path → ℕ) → IsReduction h rules becomes → IsTrue b ↔ RelationsVanish h words becomes) → ActionHolds h words rules → false ≡ true
  action-refuted b e f a = sym e ∙ (f a.becomes a.reduction).1 (record { relations = λ relation m. record { vanishes = λ w k. a.relations relation m w k } })

  pub action-from : (b d : Bool) → b ≡ true → ((becomes : Path → Path → ℕ) → IsReduction h rules becomes → IsTrue b ↔ RelationsVanish h words becomes)
      → ((becomes : Path → Path → ℕ) → IsReduction h rules becomes → IsTrue d ↔ LongVanish h words becomes) → IsTrue d ↔ ActionHolds h words rules
  action-from b d e f g = (
    λ t. record {
      becomes = reduction.becomes;
      reduction = reduction.is;
      relations = λ relation m w k. (((f reduction.becomes reduction.is).0 e).relations relation m).vanishes w k;
      long = ((g reduction.becomes reduction.is).0 t).long;
    },
    λ a. (g a.becomes a.reduction).1 (record { long = a.long }),
  )

  pub long_answer : (k : ℕ) (span : RowsView) (b : Bool) → k ≡ h.bound → SpansImages h words rules k span → (IsTrue b ↔ AreZero span.field span.columns span.rows)
      → (becomes : Path → Path → ℕ) → IsReduction h rules becomes → IsTrue b ↔ LongVanish h words becomes
  long_answer k span b e s z becomes red =
      let images = subst (λ x. AreImages h words becomes x span.rows) e ((s.images becomes red)) in (
        λ t. long-from_zero h words rules can becomes red span.rows images (subst (λ (q : Gf). AreZero q (length words) span.rows) s.field_is (subst (λ n. AreZero span.field n span.rows) s.columns_are (z.0 t))),
        λ lv. z.1 (subst (λ n. AreZero span.field n span.rows) (sym s.columns_are) (subst (λ (q : Gf). AreZero q (length words) span.rows) (sym s.field_is) (zero-from_long h words rules can becomes span.rows images lv))),
      )

-- what is used of the image of a row under an arrow
pub record IsImage (h : Header) (words : List Path) (rules : List Rule) (products : SparseView) (k : ℕ) (old : RowsView) (i a : ℕ) (x image : List ℕ) : Type 0 where
  pub all : AreAllProducts h words rules products
  pub place : i < length old.rows
  pub arrow : a < arrow_count h.quiver
  pub span : SpansImages h words rules k old
  pub at : IsRowAt old i x
  pub is : image ≡ acted_by products.field products.rows (arrow_count h.quiver) a x

-- the image of a row by its entries
pub image_is : (h : Header) (words : List Path) (rules : List Rule) (products : SparseView) (k : ℕ) (old : RowsView) (i a n : ℕ) (x image : List ℕ) (entries : List Entry) (s : SumView)
    → AreAllProducts h words rules products → SpansImages h words rules k old → IsRowAt old i x → AreEntriesOf old.field x (length x) entries
    → s ≡ record { field = h.field; width = length words; sum = s.sum } → n ≡ arrow_count h.quiver → image ≡ acted_by s.field products.rows n a (dense_row s.field s.width entries)
    → image ≡ acted_by products.field products.rows (arrow_count h.quiver) a x
image_is h words rules products k old i a n x image entries s all span at are is count e =
    let field : s.field ≡ h.field = ap (λ (v : SumView). v.field) is in
    let width : s.width ≡ length words = ap (λ (v : SumView). v.width) is in
    e ∙ ap (λ m. acted_by s.field products.rows m a (dense_row s.field s.width entries)) count
    ∙ ap (acted_by s.field products.rows (arrow_count h.quiver) a) (dense_entries old.field s.field s.width x entries (field ∙ sym span.field_is) (width ∙ sym (at.row.count ∙ span.columns_are)) are)
    ∙ ap (λ (q : Gf). acted_by q products.rows (arrow_count h.quiver) a x) (field ∙ sym all.field_is)

-- its entries fit the rows that sums are made in
pub image_entries : (h : Header) (words : List Path) (rules : List Rule) (k : ℕ) (old : RowsView) (i : ℕ) (x : List ℕ) (entries : List Entry) (s : SumView)
    → SpansImages h words rules k old → IsRowAt old i x → AreEntriesOf old.field x (length x) entries
    → s ≡ record { field = h.field; width = length words; sum = s.sum } → All (IsEntry s.field s.width) entries
image_entries h words rules k old i x entries s span at are is = entries_fit old.field s.field s.width x entries entries (ap (λ (v : SumView). v.field) is ∙ sym span.field_is)
    (ap (λ (v : SumView). v.width) is ∙ sym (at.row.count ∙ span.columns_are)) refl are

module _ (h : Header) (words : List Path) (rules : List Rule) (can : CanAct h words rules) (products : SparseView) (k : ℕ) (old : RowsView) (i a : ℕ) (x image : List ℕ)
    (m : IsImage h words rules products k old i a x image) (next : RowsView) (had : HasImages h words rules products k old.rows (i * arrow_count h.quiver + a) next) where
  row : IsRow h.field (length words) x
  row = row_moved old.field h.field old.columns (length words) x (sym m.span.field_is) (sym m.span.columns_are) m.at.row

  in_span : IsInSpan h.field (length words) old.rows x
  in_span = subst (λ (q : Gf). IsInSpan q (length words) old.rows x) m.span.field_is (subst (λ n. IsInSpan old.field n old.rows x) m.span.columns_are m.at.in_span)

  is : image ≡ acted_by h.field products.rows (arrow_count h.quiver) a x
  is = m.is ∙ ap (λ q. acted_by q products.rows (arrow_count h.quiver) a x) m.all.field_is

  pub image_row : IsRow h.field (length words) image
  image_row = subst (IsRow h.field (length words)) (sym is) (IsRow-acted_by h.field products.rows (arrow_count h.quiver) a (length words) x row)

  pub image_fits : IsRow next.field next.columns image
  image_fits = row_moved h.field next.field (length words) next.columns image had.field_is had.columns_are image_row

  pub image_pushed : (new : RowsView) → new.field ≡ next.field → new.columns ≡ next.columns → SameSpan next.field next.columns (next.rows ++ image ∷ []) new.rows
      → HasImages h words rules products k old.rows (i * arrow_count h.quiver + a + 1) new
  image_pushed new f c s = images-push h words rules can products m.all k old.rows i a m.place m.arrow x m.at.value row in_span next had image is new f c
      (subst (λ (q : Gf). SameSpan q (length words) (next.rows ++ image ∷ []) new.rows) had.field_is (subst (λ n. SameSpan next.field n (next.rows ++ image ∷ []) new.rows) had.columns_are s)) image_row

  pub image_skipped : ((j : ℕ) → get_or image j 0 ≡ 0) → HasImages h words rules products k old.rows (i * arrow_count h.quiver + a + 1) next
  image_skipped z = images-skip h words rules can products m.all k old.rows i a m.place m.arrow x m.at.value row in_span next had image is z

-- all images, brought into reduced form
pub images_done : (h : Header) (words : List Path) (rules : List Rule) → CanAct h words rules → (products : SparseView) → AreAllProducts h words rules products → (k : ℕ) (old span new : RowsView) (i : ℕ)
    → i ≡ length old.rows → SpansImages h words rules k old → HasImages h words rules products k old.rows (i * arrow_count h.quiver) span → new.field ≡ span.field → new.columns ≡ span.columns
    → SameSpan span.field span.columns span.rows new.rows → SpansImages h words rules (k + 1) new
images_done h words rules can products all k old span new i e s g f c ss = images-all h words rules can products all k old span new (i * arrow_count h.quiver) (ap (λ x. x * arrow_count h.quiver) e) s g f c
    (subst (λ (q : Gf). SameSpan q (length words) span.rows new.rows) g.field_is (subst (λ n. SameSpan span.field n span.rows new.rows) g.columns_are ss))
