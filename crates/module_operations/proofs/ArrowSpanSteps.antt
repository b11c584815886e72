-- What comes along arrows to a vertex, arrow by arrow.
use Rattle.std.proofs.Common.{ℕ, ◌<◌, ◌≤◌, ◌≡◌, ◌≢◌, ◌+◌, ◌⊎◌, List, ◌++◌, sym, ap, ap₂, ◌∙◌, inl, inr, refl, arith, subst}
use Rattle.std.proofs.lemmas.Bool.{cases_lt, cases_eq}
use Rattle.linear_algebra.specs.Field.{Gf}
use Rattle.linear_algebra.specs.Matrix.{Mat, zeros, one, stack}
use Rattle.linear_algebra.specs.MatrixLaws.{one_mul_mat}
use Rattle.linear_algebra.specs.Blocks.{stack_mul}
use Rattle.linear_algebra.specs.Rank.{IsInSpan}
use Rattle.linear_algebra.specs.Rows.{IsGrid}
use Rattle.linear_algebra.specs.Typed.{as_mat}
use Rattle.linear_algebra.proofs.Families.{in_span_zeros}
use Rattle.linear_algebra.proofs.RowForm.{reduced_independent}
use Rattle.linear_algebra.proofs.Solving.{in_span_trans}
use Rattle.linear_algebra.proofs.Steinitz.{steinitz}
use Rattle.linear_algebra.proofs.Typed.{as_mat-append}
use Rattle.fp_linear.specs.Matrix.{PlainMatrix, plain, IsMatrix}
use Rattle.row_spaces.specs.RowSpaces.{typed, IsRowFormOf}
use Rattle.representations.specs.Quiver.{Quiver}
use Rattle.representations.specs.Rep.{Rep}
use Rattle.representations.specs.StackSpans.{stack_has_first, stack_has_second, stack_all_least}
use Rattle.representations.specs.RadicalModule.{arrow_at, arrow_into, arrow_rows, arrow_into_target, arrow_rows_have}
use Rattle.module_operations.specs.ArrowSpans.{arrow_size, arrow_family, SpansArrows}
use Rattle.module_operations.specs.VertexSpaces.{IsFormOf}
use Rattle.module_operations.proofs.FormSpaces.{no_rows_reduced}
use Rattle.module_operations.proofs.OnSpaces.{no_rows_equal}

stack_least : {q : Gf} {m k l n : ℕ} (f : Mat q l n) (a : Mat q m n) (b : Mat q k n) → IsInSpan f a → IsInSpan f b → IsInSpan f (stack a b)
stack_least f a b s t = record { by = stack s.by t.by; is = stack_mul s.by t.by f ∙ ap₂ stack s.is t.is }

module _ {q : Gf} {Q : Quiver} (X : Rep q Q) where
  -- an arrow to another vertex
  into_other : (w a : ℕ) → Q.target a ≢ w → arrow_into X w a ≡ zeros q (X.dim (Q.source a)) (X.dim w)
  unfolding arrow_into
  into_other w a d = here (cases_eq (Q.target a) w)
    where
      here : (c : (Q.target a ≡ w) ⊎ (Q.target a ≢ w)) → arrow_at X w a c ≡ zeros q (X.dim (Q.source a)) (X.dim w)
      here (inl e) = absurd (d e)
      here (inr d) = refl

  pub SpansArrows-none : (w : ℕ) (b : PlainMatrix) → b ≡ plain q 0 (X.dim w) b.rows → IsMatrix b → SpansArrows X w 0 b
  SpansArrows-none w b e h = record {
    shape = subst (λ (k : ℕ). b ≡ plain q k (X.dim w) b.rows) (sym rows) e;
    matrix = h;
    reduced = no_rows_reduced (as_mat q b.row_count (X.dim w) b.rows) rows;
    has = λ a l. absurd (omega arith);
    within = record { by = zeros q b.row_count (arrow_size X w); is = no_rows_equal _ _ rows };
  }
    where
      rows : b.row_count ≡ 0
      rows = ap (λ (m : PlainMatrix). m.row_count) e

  pub SpansArrows-other : (w k : ℕ) (b : PlainMatrix) → Q.target k ≢ w → SpansArrows X w k b → SpansArrows X w (k + 1) b
  SpansArrows-other w k b d h = record {
    shape = h.shape;
    matrix = h.matrix;
    reduced = h.reduced;
    has = λ a l. elim (cases_lt a k) [
      | inl o ↦ h.has a o
      | inr o ↦ last a (omega arith)
    ];
    within = h.within;
  }
    where
      last : (a : ℕ) → k ≡ a → IsInSpan (as_mat q b.row_count (X.dim w) b.rows) (arrow_into X w a)
      last a same = subst (λ (a : ℕ). IsInSpan (as_mat q b.row_count (X.dim w) b.rows) (arrow_into X w a)) same
          (subst (IsInSpan (as_mat q b.row_count (X.dim w) b.rows)) (sym (into_other w k d)) (in_span_zeros (X.dim (Q.source k)) (as_mat q b.row_count (X.dim w) b.rows)))

  -- the rows of an arrow put below
  module _ (k : ℕ) (rows : List (List ℕ)) (is : X.mat k ≡ as_mat q (X.dim (Q.source k)) (X.dim (Q.target k)) rows) (g : IsGrid q (X.dim (Q.source k)) (X.dim (Q.target k)) rows) (b : PlainMatrix) (B : SpansArrows X (Q.target k) k b)
      (result : List (List ℕ)) (l : ℕ) where
    abbrev n : ℕ
    n = X.dim (Q.target k)

    abbrev F : Mat q b.row_count n
    F = as_mat q b.row_count n b.rows

    grid : IsGrid q b.row_count n b.rows
    grid = subst (λ (m : PlainMatrix). IsGrid m.field b.row_count m.col_count b.rows) B.shape B.matrix.grid

    stacked : as_mat q (b.row_count + X.dim (Q.source k)) n (b.rows ++ rows) ≡ stack F (X.mat k)
    stacked = as_mat-append q b.row_count (X.dim (Q.source k)) n b.rows rows grid g ∙ ap (stack F) (sym is)

    comes : IsInSpan (arrow_rows X (Q.target k)) (X.mat k)
    comes = subst (IsInSpan (arrow_rows X (Q.target k))) (one_mul_mat (X.mat k)) (arrow_rows_have X k (one q (X.dim (Q.source k))))

    module _ (form : IsRowFormOf (as_mat q (b.row_count + X.dim (Q.source k)) n (b.rows ++ rows)) (as_mat q l n result)) where
      there : IsRowFormOf (stack F (X.mat k)) (as_mat q l n result)
      there = subst (λ (z : Mat q (b.row_count + X.dim (Q.source k)) n). IsRowFormOf z (as_mat q l n result)) stacked form

      pub has_more : (a : ℕ) → a < k + 1 → IsInSpan (as_mat q l n result) (arrow_into X (Q.target k) a)
      has_more a o = elim (cases_lt a k) [
        | inl before ↦
            in_span_trans (as_mat q l n result) (stack F (X.mat k)) (arrow_into X (Q.target k) a) there.spans
            (in_span_trans (stack F (X.mat k)) F (arrow_into X (Q.target k) a) (stack_has_first F (X.mat k)) (B.has a before))
        | inr behind ↦ last a (omega arith)
      ]
        where
          last : (a : ℕ) → k ≡ a → IsInSpan (as_mat q l n result) (arrow_into X (Q.target k) a)
          last a same = subst (λ (a : ℕ). IsInSpan (as_mat q l n result) (arrow_into X (Q.target k) a)) same
              (subst (IsInSpan (as_mat q l n result)) (sym (arrow_into_target X k))
              (in_span_trans (as_mat q l n result) (stack F (X.mat k)) (X.mat k) there.spans (stack_has_second F (X.mat k))))

      pub within_more : IsInSpan (arrow_rows X (Q.target k)) (as_mat q l n result)
      within_more = in_span_trans (arrow_rows X (Q.target k)) (stack F (X.mat k)) (as_mat q l n result) (stack_least (arrow_rows X (Q.target k)) F (X.mat k) B.within comes) there.spanned

  -- All arrows: a basis of the rows of the radical.
  pub arrows_form : (w : ℕ) (b : PlainMatrix) → SpansArrows X w Q.arrows b → IsFormOf (arrow_family X w) b
  unfolding arrow_rows
  arrows_form w b h = record {
    shape = h.shape;
    matrix = h.matrix;
    form = record {
      reduced = h.reduced;
      spans = stack_all_least (as_mat q b.row_count (X.dim w) b.rows) Q.arrows (λ a. X.dim (Q.source a)) (arrow_into X w) h.has;
      spanned = h.within;
    };
  }

  pub few_spanning : (w k : ℕ) (b : PlainMatrix) → SpansArrows X w k b → b.row_count ≤ X.dim w
  few_spanning w k b h = let i = reduced_independent (as_mat q b.row_count (X.dim w) b.rows) h.reduced.0 h.reduced.1 in steinitz (as_mat q b.row_count (X.dim w) b.rows) i.inverse i.is

-- The same where the matrices are told by equations.
pub SpansArrows-more : {q : Gf} {Q : Quiver} (X : Rep q Q) (w k : ℕ) → Q.target k ≡ w → (rows : List (List ℕ)) → X.mat k ≡ as_mat q (X.dim (Q.source k)) (X.dim (Q.target k)) rows → IsGrid q (X.dim (Q.source k)) (X.dim (Q.target k)) rows
    → (b matrix both result : PlainMatrix) → SpansArrows X w k b → matrix ≡ plain q (X.dim (Q.source k)) (X.dim (Q.target k)) rows → both ≡ plain b.field (b.row_count + matrix.row_count) b.col_count (b.rows ++ matrix.rows)
    → result ≡ plain both.field result.row_count both.col_count result.rows → IsMatrix result → IsRowFormOf (typed both) (as_mat both.field result.row_count both.col_count result.rows) → SpansArrows X w (k + 1) result
SpansArrows-more {q} {Q} X w k same rows is g b matrix both result B em eb er kept form = subst At same there B
  where
    At : ℕ → Type 0
    At w = SpansArrows X w k b → SpansArrows X w (k + 1) result

    there : At (Q.target k)
    there B =
        let n = X.dim (Q.target k) in
        let both_is : both ≡ plain q (b.row_count + X.dim (Q.source k)) n (b.rows ++ rows) = eb ∙ ap₂ (λ (x y : PlainMatrix). plain x.field (b.row_count + y.row_count) x.col_count (b.rows ++ y.rows)) B.shape em in
        let whole : IsRowFormOf (as_mat q (b.row_count + X.dim (Q.source k)) n (b.rows ++ rows)) (as_mat q result.row_count n result.rows) =
        subst (λ (x : PlainMatrix). IsRowFormOf (typed x) (as_mat x.field result.row_count x.col_count result.rows)) both_is form in
        record {
          shape = subst (λ (x : PlainMatrix). result ≡ plain x.field result.row_count x.col_count result.rows) both_is er;
          matrix = kept;
          reduced = whole.reduced;
          has = has_more X k rows is g b B result.rows result.row_count whole;
          within = within_more X k rows is g b B result.rows result.row_count whole;
        }
