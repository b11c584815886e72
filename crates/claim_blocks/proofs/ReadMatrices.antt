-- Matrices at the vertices that are read one by one: what was read, and that they are read.
use Rattle.std.proofs.Common.{◌≡◌, ◌≢◌, ℕ, ◌+◌, ◌*◌, ◌<◌, ◌≤◌, List, [], ◌∷◌, ◌++◌, length, inl, inr, refl, sym, ap, ◌∙◌, subst, arith, append_assoc, append-nil}
use Rattle.std.specs.Prelude.{slice_index, slice_index_or}
use Rattle.std.proofs.lemmas.Bool.{cases_eq}
use Rattle.quiver_paths.specs.Quiver.{vertex_count}
use Rattle.quiver_paths.proofs.ListLemmas.{length-pushed}
use Rattle.linear_algebra.specs.Field.{Gf}
use Rattle.fp_linear.specs.Matrix.{PlainMatrix}
use Rattle.path_algebra.specs.declared.Header.{Header}
use Rattle.deciding.proofs.Deciding.{Decided, like, both, below, fails}
use Rattle.header_text.specs.Named.{IsNamed}
use Rattle.header_text.specs.Spelling.{vertex_name}
use Rattle.header_text.proofs.Clean.{vertex_name_lacks}
use Rattle.module_types.specs.Shapes.{HasShape, AreMatrices}
use Rattle.object_lines.specs.Spelling.{at_line, at_lines}
use Rattle.object_lines.proofs.ClearLines.{StandsOutside, at_clear}
use Rattle.object_lines.proofs.DecidedLines.{at_decided}
use Rattle.object_lines.proofs.OneLine.{at_one}
use Rattle.claim_lines.proofs.Clear.{ClearLine}
use Rattle.claim_blocks.specs.declared.part_matrices.PartMatrices.{PartMatrices}
use Rattle.claim_blocks.specs.Leading.{Leads}
use Rattle.claim_blocks.specs.Matrices.{filled}
use Rattle.claim_blocks.specs.PartMatrices.{filled_part, no_matrices, FitsMatrix, with_matrix, next_line, MatrixStep, IsWholeMatrices}
use Rattle.claim_blocks.proofs.FilledMatrices.{one_matrix, filled_past}
use Rattle.claim_blocks.proofs.MatrixBlocks.{only_empty, push_matrix, push_filled, filled_empty, filled_entry, at_lines-empty, at_lines-entry, at_lines-filled, at_lines-push}
use Rattle.claim_blocks.proofs.Narrowing.{narrowed}
use Rattle.claim_blocks.proofs.TakenLines.{takes_own}

-- by other counts that are the same
pub matrices_same : (q : Gf) (n : ℕ) (r c s d : ℕ → ℕ) (ms : List PlainMatrix) → ((i : ℕ) → i < n → r i ≡ s i) → ((i : ℕ) → i < n → c i ≡ d i) → AreMatrices q n r c ms → AreMatrices q n s d ms
matrices_same q n r c s d ms e f are = record {
  counted = are.counted;
  each = λ i a l. subst (λ k. HasShape q k (d i) (slice_index_or ms i a)) (e i l) (subst (λ k. HasShape q (r i) k (slice_index_or ms i a)) (f i l) (are.each i a l));
}

module _ (h : Header) (q : Gf) (rows columns : List ℕ) where
  -- with these matrices
  abbrev pub holding : List PlainMatrix → PartMatrices
  holding ms = record { field = q; rows = rows; columns = columns; matrices = ms }

  -- the matrices stand behind these lines
  pub record AreRead (m : PartMatrices) (ls : List (List (List ℕ))) : Type 0 where
    pub same : m ≡ holding m.matrices
    pub are : AreMatrices q (length m.matrices) (slice_index rows) (slice_index columns) m.matrices
    pub lines : ls ≡ at_lines (vertex_name h.quiver) 0 m.matrices

  read_filled : (ms : List PlainMatrix) (ls : List (List (List ℕ))) → AreMatrices q (length ms) (slice_index rows) (slice_index columns) ms → ls ≡ at_lines (vertex_name h.quiver) 0 ms → AreRead (filled_part (holding ms)) ls
  read_filled ms ls are e = record {
    same = refl;
    are = push_filled q (slice_index rows) (slice_index columns) (length rows) ms are;
    lines = e ∙ sym (at_lines-filled (vertex_name h.quiver) q (slice_index rows) (slice_index columns) (length rows) 0 ms);
  }

  pub read_start : AreRead (no_matrices q rows columns) []
  read_start = read_filled [] [] (record { counted = refl; each = λ i a l. absurd (omega (arith, l)) }) refl

  pub read_next : (m : PartMatrices) (x : PlainMatrix) (ls : List (List (List ℕ))) → AreRead m ls → FitsMatrix h m x → AreRead (with_matrix m x) (ls ++ next_line h m x ∷ [])
  read_next m x ls read fits =
      let ms = m.matrices in
      let shape : HasShape q (slice_index rows (length ms)) (slice_index columns (length ms)) x = subst (λ (p : PartMatrices). HasShape p.field (slice_index p.rows (length ms)) (slice_index p.columns (length ms)) x) read.same fits.shape in
      subst (λ (p : PartMatrices). AreRead (filled_part (record p { matrices = ms ++ x ∷ [] })) (ls ++ next_line h m x ∷ [])) (sym read.same)
      (read_filled (ms ++ x ∷ []) (ls ++ next_line h m x ∷ []) (push_matrix q (slice_index rows) (slice_index columns) ms x read.are shape)
      (ap (λ l. l ++ next_line h m x ∷ []) read.lines ∙ sym (at_lines-push (vertex_name h.quiver) ms x fits.entries)))

  pub read_whole : (m : PartMatrices) (ls : List (List (List ℕ))) → AreRead m ls → IsWholeMatrices m → AreMatrices q (length rows) (slice_index rows) (slice_index columns) m.matrices
  read_whole m ls read whole = subst (λ n. AreMatrices q n (slice_index rows) (slice_index columns) m.matrices) (whole ∙ ap (λ (p : PartMatrices). length p.rows) read.same) read.are

  -- ---- they are read

  module _ (declared : length rows ≤ vertex_count h.quiver) where
    pub matrices_left : (done todo : List PlainMatrix) → length done + length todo ≡ length rows → AreMatrices q (length rows) (slice_index rows) (slice_index columns) (done ++ todo)
        → Leads (MatrixStep h) (filled_part (holding done)) (at_lines (vertex_name h.quiver) (length done) todo) (holding (done ++ todo))
    matrices_left done [] e are =
        ap holding (append-nil done ∙ filled_past q (slice_index rows) (slice_index columns) (length rows) done (omega (arith, e)))
    matrices_left done (a ∷ rest) e are =
        let R = slice_index rows in
        let C = slice_index columns in
        let i = length done in
        let inside : i < length rows = omega (arith, e) in
        let shape : HasShape q (R i) (C i) a = subst (HasShape q (R i) (C i)) (seam done a rest a) (are.each i a inside) in
        let long : length (done ++ a ∷ []) ≡ i + 1 = length-pushed done (done ++ a ∷ []) a refl in
        let again : (done ++ a ∷ []) ++ rest ≡ done ++ a ∷ rest = append_assoc done (a ∷ []) rest in
        let product : a.row_count * a.col_count ≡ R i * C i = (λ j. shape.row_count j * shape.col_count j) in
        let more = matrices_left (done ++ a ∷ []) rest (omega (arith, e, long)) (subst (AreMatrices q (length rows) R C) (sym again) are) in
        let next : Leads (MatrixStep h) (filled_part (holding (done ++ a ∷ []))) (at_lines (vertex_name h.quiver) (i + 1) rest) (holding (done ++ a ∷ rest)) =
        subst (λ l. Leads (MatrixStep h) (filled_part (holding (done ++ a ∷ []))) (at_lines (vertex_name h.quiver) (i + 1) rest) (holding l)) again
        (subst (λ k. Leads (MatrixStep h) (filled_part (holding (done ++ a ∷ []))) (at_lines (vertex_name h.quiver) k rest) (holding ((done ++ a ∷ []) ++ rest))) long more) in
        elim (cases_eq (R i * C i) 0) [
          | inl none ↦
              let only = only_empty q (R i) (C i) a none shape in
              let same : filled_part (holding (done ++ a ∷ [])) ≡ filled_part (holding done) =
              ap holding (ap (λ x. filled q R C (length rows) (done ++ x ∷ [])) only ∙ sym (filled_empty q R C (length rows) done inside none)) in
              subst (λ p. Leads (MatrixStep h) p (at_lines (vertex_name h.quiver) i (a ∷ rest)) (holding (done ++ a ∷ rest))) same
              (subst (λ ls. Leads (MatrixStep h) (filled_part (holding (done ++ a ∷ []))) ls (holding (done ++ a ∷ rest))) (sym (at_lines-empty (vertex_name h.quiver) i a rest (product ∙ none))) next)
          | inr some ↦
              let differs : a.row_count * a.col_count ≢ 0 = (λ z. some (sym product ∙ z)) in
              let p = holding done in
              let fits : FitsMatrix h p a = record { inside = omega (arith, inside, declared); left = inside; shape = shape; entries = differs } in
              let same : p ≡ filled_part p = sym (ap holding (filled_entry q R C (length rows) done some)) in
              subst (λ ls. Leads (MatrixStep h) (filled_part p) ls (holding (done ++ a ∷ rest))) (sym (at_lines-entry (vertex_name h.quiver) i a rest differs))
              (subst (λ x. Leads (MatrixStep h) x (at_line (vertex_name h.quiver i) a ∷ at_lines (vertex_name h.quiver) (i + 1) rest) (holding (done ++ a ∷ rest))) same
              (with_matrix p a, takes_own (FitsMatrix h p) (next_line h p) (with_matrix p) a fits (one_matrix h p), next))
        ]
      where
        seam : (xs : List PlainMatrix) (x : PlainMatrix) (ys : List PlainMatrix) (d : PlainMatrix) → slice_index_or (xs ++ x ∷ ys) (length xs) d ≡ x
        seam [] x ys d = refl
        seam (y ∷ xs) x ys d = seam xs x ys d

    pub matrices_read : (ms : List PlainMatrix) → AreMatrices q (length rows) (slice_index rows) (slice_index columns) ms
        → Leads (MatrixStep h) (no_matrices q rows columns) (at_lines (vertex_name h.quiver) 0 ms) (holding ms)
    matrices_read ms are = matrices_left [] ms (let c = are.counted in omega (arith, c)) are

-- ---- one line leads to one list of matrices, or to none

module _ (h : Header) (m : PartMatrices) (ts : List (List ℕ)) where
  pub matrix_found : Decided ((x : PlainMatrix) × (FitsMatrix h m x × (ts ≡ next_line h m x)))
  matrix_found =
      let name = vertex_name h.quiver (length m.matrices) in
      let r = slice_index m.rows (length m.matrices) in
      let c = slice_index m.columns (length m.matrices) in
      narrowed (HasShape m.field r c) (λ (x : PlainMatrix). ((length m.matrices < vertex_count h.quiver) × (length m.matrices < length m.rows)) × (x.row_count * x.col_count ≢ 0)) (FitsMatrix h m) (next_line h m) ts
      (at_one name m.field r c) (λ x s g. record { inside = g.0.0; left = g.0.1; shape = s; entries = g.1 }) (λ x f. (f.shape, ((f.inside, f.left), f.entries)))
      (like (λ x. (x.0, (x.1, x.2))) (λ x. (x.0, x.1.0, x.1.1)) (at_decided name m.field r c ts))
      (λ x. both (both (below (length m.matrices) (vertex_count h.quiver)) (below (length m.matrices) (length m.rows))) (fails (cases_eq (x.row_count * x.col_count) 0)))

module _ (c : ℕ) (outside : StandsOutside c) (h : Header) (named : IsNamed h.quiver) where
  some_tokens : (t : List ℕ) (ts : List (List ℕ)) → t ∷ ts ≡ [] → ⊥
  some_tokens t ts e = cc

  pub matrix_clear : (m : PartMatrices) (x : PlainMatrix) → FitsMatrix h m x → ClearLine c (next_line h m x)
  matrix_clear m x fits = record {
    some = λ e. some_tokens _ _ e;
    lacks = at_clear c outside (vertex_name h.quiver (length m.matrices)) (vertex_name_lacks c outside.out.name h.quiver named (length m.matrices)) m.field (slice_index m.rows (length m.matrices)) (slice_index m.columns (length m.matrices)) x fits.shape;
  }
