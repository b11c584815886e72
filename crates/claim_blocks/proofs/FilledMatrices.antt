-- Matrices at vertices that are read one by one: those without entries are added, one with entries is read.
use Rattle.std.proofs.Common.{◌≡◌, ◌≢◌, ℕ, zero, suc, ◌+◌, ◌*◌, ◌-◌, ◌<◌, ◌≤◌, List, [], ◌∷◌, ◌++◌, length, Some, None, refl, sym, ap, ◌∙◌, subst, arith, append-nil}
use Rattle.std.specs.Prelude.{slice_index}
use Rattle.std.proofs.Math.Nat.{mul-zero, zero-mul}
use Rattle.quiver_paths.specs.Quiver.{vertex_count}
use Rattle.quiver_paths.proofs.ListLemmas.{length-pushed}
use Rattle.linear_algebra.specs.Field.{Gf}
use Rattle.fp_linear.specs.Matrix.{PlainMatrix}
use Rattle.path_algebra.specs.declared.Header.{Header}
use Rattle.header_text.specs.Reading.{Reads}
use Rattle.header_text.specs.Spelling.{vertex_name}
use Rattle.module_types.specs.Shapes.{HasShape}
use Rattle.object_lines.specs.Spelling.{at_line}
use Rattle.object_lines.proofs.OneLine.{at_one}
use Rattle.claim_blocks.specs.declared.part_matrices.PartMatrices.{PartMatrices}
use Rattle.claim_blocks.specs.Matrices.{empty_matrix, empties, filled}
use Rattle.claim_blocks.specs.PartMatrices.{filled_part, FitsMatrix, with_matrix, next_line, MatrixStep, Filling}
use Rattle.claim_blocks.proofs.MatrixBlocks.{filled_empty, filled_entry}
use Rattle.claim_blocks.proofs.TakenLines.{takes}

pub product_some : (m n : ℕ) → m ≢ 0 → n ≢ 0 → m * n ≢ 0
product_some zero n a b e = a refl
product_some (suc m) zero a b e = b refl
product_some (suc m) (suc n) a b e = absurd (omega (arith, e))

pub none_left : (m n : ℕ) → m ≡ 0 → m * n ≡ 0
none_left m n e = ap (λ k. k * n) e ∙ zero-mul n

pub none_right : (m n : ℕ) → n ≡ 0 → m * n ≡ 0
none_right m n e = ap (λ k. m * k) e ∙ mul-zero m

-- ---- those without entries

-- the matrix that is next has no entries, and is added
pub added_one : (p : PartMatrices) (ms : List PlainMatrix) (m : PlainMatrix) (i r c : ℕ) → length p.matrices < length p.rows → i ≡ length p.matrices → r ≡ slice_index p.rows i → c ≡ slice_index p.columns i → r * c ≡ 0
    → m ≡ empty_matrix p.field r c → ms ≡ p.matrices ++ m ∷ [] → Filling p (record p { matrices = ms }) (length p.matrices + 1) (length p.rows)
added_one p ms m i r c l is ser sec none em e = record {
  same =
      let R = slice_index p.rows in
      let C = slice_index p.columns in
      let n = length p.matrices in
      let er = ser ∙ ap R is in
      let ec = sec ∙ ap C is in
      let E = empty_matrix p.field (R n) (C n) in
      let all : ms ≡ p.matrices ++ E ∷ [] = e ∙ ap (λ x. p.matrices ++ x ∷ []) (em ∙ (λ j. empty_matrix p.field (er j) (ec j))) in
      let empty : R n * C n ≡ 0 = subst (λ k. k * C n ≡ 0) er (subst (λ k. r * k ≡ 0) ec none) in
      ap (λ (l : List PlainMatrix). record p { matrices = l }) (ap (filled p.field R C (length p.rows)) all ∙ sym (filled_empty p.field R C (length p.rows) p.matrices l empty));
  reached = length-pushed p.matrices ms m e;
  count_is = refl;
}

-- it has some, and is not added
pub added_none : (p : PartMatrices) (i r c : ℕ) → i ≡ length p.matrices → r ≡ slice_index p.rows i → c ≡ slice_index p.columns i → r ≢ 0 → c ≢ 0 → p ≡ filled_part p
added_none p i r c is ser sec some any =
    let R = slice_index p.rows in
    let C = slice_index p.columns in
    let er = ser ∙ ap R is in
    let ec = sec ∙ ap C is in
    ap (λ (l : List PlainMatrix). record p { matrices = l }) (sym (filled_entry p.field R C (length p.rows) p.matrices (product_some _ _ (λ e. some (er ∙ e)) (λ e. any (ec ∙ e)))))

pub filling_start : (p : PartMatrices) (i count : ℕ) → i ≡ length p.matrices → count ≡ length p.rows → Filling p p i count
filling_start p i count e f = record { same = refl; reached = sym e; count_is = sym f }

pub filling_next : (first now next : PartMatrices) (i count : ℕ) → Filling first now i count → Filling now next (length now.matrices + 1) (length now.rows) → Filling first next (i + 1) count
filling_next first now next i count f g = record { same = g.same ∙ f.same; reached = g.reached ∙ ap (λ n. n + 1) f.reached; count_is = g.count_is ∙ f.count_is }

-- where no matrix is left, none is added
pub filled_past : (q : Gf) (rows columns : ℕ → ℕ) (count : ℕ) (ms : List PlainMatrix) → count ≤ length ms → ms ≡ filled q rows columns count ms
filled_past q rows columns count ms l = let none : 0 ≡ count - length ms = omega (arith, l) in sym (append-nil ms) ∙ ap (λ n. ms ++ empties q rows columns n (length ms)) none

pub filling_done : (first now : PartMatrices) (i count : ℕ) → Filling first now i count → count ≤ i → now ≡ filled_part first
filling_done first now i count f l =
    let whole : length now.rows ≤ length now.matrices = (let a = f.reached in let b = f.count_is in omega (arith, a, b, l)) in
    ap (λ (ms : List PlainMatrix). record now { matrices = ms }) (filled_past now.field (slice_index now.rows) (slice_index now.columns) (length now.rows) now.matrices whole) ∙ f.same

-- ---- one with entries

pub one_matrix : (h : Header) (p : PartMatrices) (x y : PlainMatrix) → FitsMatrix h p x → FitsMatrix h p y → next_line h p x ≡ next_line h p y → x ≡ y
one_matrix h p x y a b e = at_one (vertex_name h.quiver (length p.matrices)) p.field (slice_index p.rows (length p.matrices)) (slice_index p.columns (length p.matrices)) x y a.shape b.shape e

-- it was read
pub takes_matrix : (h : Header) (p : PartMatrices) (i r c : ℕ) (m : PlainMatrix) (tokens : List (List ℕ)) (next : PartMatrices) → i ≡ length p.matrices → i < length p.rows → i < vertex_count h.quiver
    → r ≡ slice_index p.rows i → c ≡ slice_index p.columns i → Reads (HasShape p.field r c) (at_line (vertex_name h.quiver i)) tokens (Some m) → r ≢ 0 → c ≢ 0 → next ≡ with_matrix p m → MatrixStep h p tokens next
takes_matrix h p i r c m tokens next is inside declared er ec reads some any leads =
    let n = length p.matrices in
    let shape : HasShape p.field (slice_index p.rows n) (slice_index p.columns n) m = subst (λ k. HasShape p.field (slice_index p.rows k) (slice_index p.columns k) m) is (subst (λ k. HasShape p.field k (slice_index p.columns i) m) er
    (subst (λ k. HasShape p.field r k m) ec reads.0)) in
    let fits : FitsMatrix h p m = record {
      inside = omega (arith, is, declared);
      left = omega (arith, is, inside);
      shape = shape;
      entries = product_some _ _ (λ e. some (sym reads.0.row_count ∙ e)) (λ e. any (sym reads.0.col_count ∙ e));
    } in
    takes (FitsMatrix h p) (next_line h p) (with_matrix p) tokens m next (fits, reads.1 ∙ ap (λ k. at_line (vertex_name h.quiver k) m) is) (one_matrix h p) leads

-- none was
pub no_matrix : (h : Header) (p : PartMatrices) (i r c : ℕ) (tokens : List (List ℕ)) (next : PartMatrices) → i ≡ length p.matrices → r ≡ slice_index p.rows i → c ≡ slice_index p.columns i
    → Reads (HasShape p.field r c) (at_line (vertex_name h.quiver i)) tokens None → MatrixStep h p tokens next → ⊥
no_matrix h p i r c tokens next is er ec none t =
    none t.item (subst (λ k. HasShape p.field k c t.item) (ap (slice_index p.rows) (sym is) ∙ sym er) (subst (λ k. HasShape p.field (slice_index p.rows (length p.matrices)) k t.item) (ap (slice_index p.columns) (sym is) ∙ sym ec) t.fits.shape))
    (t.spelled ∙ ap (λ k. at_line (vertex_name h.quiver k) t.item) (sym is))

pub no_entries : (h : Header) (p : PartMatrices) (i r c : ℕ) (tokens : List (List ℕ)) (next : PartMatrices) → i ≡ length p.matrices → r ≡ slice_index p.rows i → c ≡ slice_index p.columns i → r * c ≡ 0 → MatrixStep h p tokens next → ⊥
no_entries h p i r c tokens next is er ec none t =
    t.fits.entries ((λ j. t.fits.shape.row_count j * t.fits.shape.col_count j) ∙ subst (λ k. slice_index p.rows k * slice_index p.columns k ≡ 0) is (subst (λ k. k * slice_index p.columns i ≡ 0) er (subst (λ k. r * k ≡ 0) ec none)))

pub past_matrices : (h : Header) (p : PartMatrices) (tokens : List (List ℕ)) (next : PartMatrices) → length p.rows ≤ length p.matrices → MatrixStep h p tokens next → ⊥
past_matrices h p tokens next l t = let k = t.fits.left in omega (arith, l, k)

pub past_vertices : (h : Header) (p : PartMatrices) (tokens : List (List ℕ)) (next : PartMatrices) → vertex_count h.quiver ≤ length p.matrices → MatrixStep h p tokens next → ⊥
past_vertices h p tokens next l t = let k = t.fits.inside in omega (arith, l, k)
