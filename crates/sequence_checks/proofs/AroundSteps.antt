-- Columns of the arrows on injective modules and a module beside them; the shapes of maps into these.
use Rattle.std.proofs.Common.{ℕ, ◌≡◌, ◌<◌, ◌≤◌, ◌+◌, ◌-◌, List, length, set, get_or-set_same, get_or-set_other, inl, inr, sym, ap, ◌∙◌, arith, subst}
use Rattle.std.specs.Prelude.{slice_index}
use Rattle.std.proofs.lemmas.Bool.{cases_lt, cases_eq}
use Rattle.linear_algebra.specs.Field.{Gf}
use Rattle.linear_algebra.specs.Matrix.{Mat, zeros, beside, stack}
use Rattle.linear_algebra.specs.DirectSum.{diagonal}
use Rattle.linear_algebra.specs.Rows.{entry}
use Rattle.linear_algebra.proofs.Blocks.{join_cases, join-first, join-second}
use Rattle.fp_linear.specs.Matrix.{PlainMatrix}
use Rattle.fp_linear.specs.Meeting.{IsClearFrom}
use Rattle.quiver_paths.specs.declared.Path.{Path}
use Rattle.path_algebra.specs.declared.Header.{Header}
use Rattle.alg_table.specs.TableView.{IsTable}
use Rattle.representations.specs.Rep.{Rep}
use Rattle.representations.specs.Sum.{sum_rep}
use Rattle.module_types.specs.declared.Side.{Side}
use Rattle.module_types.specs.declared.Module.{Module}
use Rattle.module_types.specs.Algebras.{algebra_at, other_side}
use Rattle.module_types.specs.Readings.{dim_at}
use Rattle.module_types.specs.Shapes.{AreMatrices}
use Rattle.module_checks.proofs.HomRank.{IsPlainOf}
use Rattle.term_rows.specs.SumDims.{sum_dim}
use Rattle.translate_checks.specs.Dots.{HoldsColumn}
use Rattle.translate_checks.specs.Steps.{module_in, injectives_in}
use Rattle.translate_checks.proofs.AcrossRows.{dim_across}
use Rattle.sequence_checks.specs.Maps.{IsShiftedColumn}

pub shifted-none : (a : PlainMatrix) (j start : ℕ) (s : List ℕ) → IsClearFrom 0 s → IsShiftedColumn a j start 0 s
shifted-none a j start s z = record { before = λ k l. z.clear k (omega arith); at = λ i l. absurd (omega arith); behind = λ k l. z.clear k (omega arith) }

pub shifted-more : (a : PlainMatrix) (j start n v : ℕ) (s : List ℕ) → start + n < length s → v ≡ entry a.rows n j → IsShiftedColumn a j start n s → IsShiftedColumn a j start (n + 1) (set s (start + n) v)
shifted-more a j start n v s l e d = record {
  before = λ k b. get_or-set_other s (start + n) k v 0 (λ f. omega arith) ∙ d.before k b;
  at = λ i b. elim (cases_eq i n) [
    | inl f ↦ subst (λ i. slice_index (set s (start + n) v) (start + i) ≡ entry a.rows i j) (sym f) (get_or-set_same s (start + n) v 0 l ∙ e)
    | inr f ↦ get_or-set_other s (start + n) (start + i) v 0 (λ g. f (omega arith)) ∙ d.at i (omega arith)
  ];
  behind = λ k b. get_or-set_other s (start + n) k v 0 (λ f. omega arith) ∙ d.behind k (omega arith);
}

-- the columns of the direct sum of two matrices
module _ {q : Gf} {m n k l : ℕ} (a : Mat q m n) (b : Mat q k l) where
  first_columns : (i j : ℕ) → j < n → (diagonal a b).at i j ≡ a.at i j
  unfolding diagonal stack beside zeros
  first_columns i j u = elim (join_cases m i) [
    | inl e ↦ e.is _ _ ∙ join-first n (a.at i) (λ _. 0) j u
    | inr e ↦ e.is _ _ ∙ join-first n (λ _. 0) (b.at (i - m)) j u ∙ sym (a.fits.below i j e.ge)
  ]

  upper_columns : (i j : ℕ) → n ≤ j → i < m → (diagonal a b).at i j ≡ 0
  unfolding diagonal stack beside zeros
  upper_columns i j g u = join-first m _ _ i u ∙ join-second n (a.at i) (λ _. 0) j g

  lower_columns : (i j : ℕ) → n ≤ j → m ≤ i → (diagonal a b).at i j ≡ b.at (i - m) (j - n)
  unfolding diagonal stack beside zeros
  lower_columns i j g u = join-second m _ _ i u ∙ join-second n (λ _. 0) (b.at (i - m)) j g

  pub column_first : (j : ℕ) (s : List ℕ) → j < n → HoldsColumn a j s → HoldsColumn (diagonal a b) j s
  column_first j s u c = record { at = λ i. c.at i ∙ sym (first_columns i j u) }

  pub column_second : (p : PlainMatrix) (x : IsPlainOf p b) (j c start : ℕ) (s : List ℕ) → n + c ≡ j → start ≡ m → IsShiftedColumn p c start p.row_count s → HoldsColumn (diagonal a b) j s
  column_second p x j c start s e f w = record {
    at = λ i. elim (cases_lt i m) [
      | inl u ↦ w.before i (omega (arith, f)) ∙ sym (upper_columns i j (omega (arith, e)) u)
      | inr u ↦
          let d : j - n ≡ c = omega (arith, e) in
          let same : (diagonal a b).at i j ≡ b.at (i - m) c = lower_columns i j (omega (arith, e)) u ∙ ap (b.at (i - m)) d in
          elim (cases_lt (i - m) k) [
            | inl v ↦ ap (slice_index s) (omega (arith, f, u)) ∙ w.at (i - m) (omega (arith, x.row_count, v)) ∙ x.entries (i - m) c ∙ sym same
            | inr v ↦ w.behind i (omega (arith, f, u, v, x.row_count)) ∙ sym (b.fits.below (i - m) c v) ∙ sym same
          ]
    ];
  }

-- the shapes, as they are read
module _ (h : Header) (words : List Path) (t : IsTable h words) (side : Side) (e m : Module) (vs : List ℕ) (matrices : List PlainMatrix) where
  abbrev pub beside_in : Rep h.field (algebra_at side h).quiver
  beside_in = sum_rep (injectives_in h words t side vs) (module_in h words t side m)

  pub shapes_beside : AreMatrices h.field (algebra_at side h).quiver.vertices (dim_at (algebra_at side h).quiver e.dims) (λ w. sum_dim words (other_side side) vs w + dim_at (algebra_at side h).quiver m.dims w) matrices
      → AreMatrices h.field (algebra_at side h).quiver.vertices (module_in h words t side e).dim beside_in.dim matrices
  shapes_beside M = record {
    counted = M.counted;
    each = λ w p l. let s = M.each w p l in record { matrix = s.matrix; field = s.field; row_count = s.row_count; col_count = s.col_count ∙ ap (λ n. n + dim_at (algebra_at side h).quiver m.dims w) (sym (dim_across h words t side vs w)) };
  }
