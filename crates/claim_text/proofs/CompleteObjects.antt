-- The lines of modules and maps are read.
use Rattle.std.proofs.Common.{None, ◌≡◌, ◌≢◌, ℕ, ◌+◌, ◌*◌, ◌<◌, ◌^◌, true, List, [], ◌∷◌, ◌++◌, length, cond, inl, inr, refl, sym, ap, ◌∙◌, subst, arith, append_assoc, append-nil, lit<}
use Rattle.std.specs.Prelude.{All}
use Rattle.std.proofs.lemmas.Bool.Decides.{eqb_tells}
use Rattle.std.proofs.lemmas.Bool.{cases_eq}
use Rattle.std.proofs.lemmas.List.Elements.{All-head, All-tail}
use Rattle.std.proofs.Math.Seq.{get_or-append_seam}
use Rattle.quiver_paths.proofs.ListLemmas.{length-pushed}
use Rattle.quiver_paths.specs.Quiver.{vertex_count}
use Rattle.fp_linear.specs.Matrix.{PlainMatrix}
use Rattle.path_algebra.specs.declared.Header.{Header}
use Rattle.path_algebra.specs.Allowed.{IsAllowed}
use Rattle.header_text.specs.Named.{IsNamed}
use Rattle.header_text.specs.Spelling.{arrow_name, vertex_name}
use Rattle.header_text.proofs.WholeLemmas.{IsNamed-allowed}
use Rattle.module_types.specs.declared.Side.{Side}
use Rattle.module_types.specs.declared.Side.TheVariants.{Right, Left}
use Rattle.module_types.specs.declared.Module.{Module}
use Rattle.module_types.specs.declared.Map.{Map}
use Rattle.module_types.specs.Algebras.{algebra_at}
use Rattle.module_types.specs.Shapes.{HasShape, AreMatrices, IsModule}
use Rattle.object_lines.specs.Spelling.{module_line, map_line, at_line, at_lines}
use Rattle.report_types.specs.declared.claims.Record.{Record}
use Rattle.report_types.specs.declared.reports.End.TheVariants.{Done}
use Rattle.report_types.specs.Numbers.{modules_of, maps_of}
use Rattle.report_types.specs.Lawful.{IsModuleBlock, IsMapBlock}
use Rattle.claim_text.specs.declared.part.Owner.{Owner}
use Rattle.claim_text.specs.declared.part.Owner.TheVariants as owner
use Rattle.claim_text.specs.declared.part.Place.TheVariants as place
use Rattle.claim_text.specs.declared.part.Part.{Part}
use Rattle.claim_text.specs.declared.part.Item.TheVariants as item
use Rattle.claim_text.specs.Matrices.{filled}
use Rattle.claim_text.specs.Spelling.{at_arrows, at_vertices, module_lines, map_lines}
use Rattle.claim_text.specs.Part.{unclaimed, here, counts_of, count_of, name_of, rows_of, columns_of, closed, at_matrices, fill, with_matrix, with_item}
use Rattle.claim_text.specs.Steps.{FitsItem, item_line, FitsMatrix}
use Rattle.claim_text.proofs.Runs.{Run, run_none, run_line, run_append, taken}
use Rattle.claim_text.proofs.MatrixBlocks.{only_empty, filled_empty, filled_entry, filled_whole, at_lines-empty, at_lines-entry}
use Rattle.claim_text.proofs.ObjectLists.{map_block_same, modules_push, modules_count, maps_count}
use Rattle.claim_text.proofs.OtherLines.{one_matrix, matrix_clear, one_item, item_clear}

module _ (h : Header) (ok : IsAllowed h) where
  named : IsNamed h.quiver
  named = IsNamed-allowed h ok

  few_relations : length h.relations < 2 ^ 32
  few_relations = let few = ok.few_relations in let big : 256 < 2 ^ 32 = lit< tt in omega arith

  -- between whole objects and claims, with what was read of one that is open
  abbrev pub among : List Record → List Module → List Map → List ℕ → List PlainMatrix → Part
  among rs ms fs dims matrices = record { front = record { is_begun = true; header = h }; place = place.Between; line = 0; words = []; steps = []; rules = []; records = rs; modules = ms; maps = fs; dims = dims; matrices = matrices; block = None; end = Done }

  abbrev pub between : List Record → List Module → List Map → Part
  between rs ms fs = among rs ms fs [] []

  module _ (rs : List Record) (ms : List Module) (fs : List Map) (dims : List ℕ) (o : Owner) where
    abbrev state : List PlainMatrix → Part
    state matrices = among rs ms fs dims matrices

    abbrev R : ℕ → ℕ
    R = rows_of h dims (here (state [])) o

    abbrev C : ℕ → ℕ
    C = columns_of h dims (here (state [])) o

    abbrev goal_lines : List PlainMatrix → List PlainMatrix → List (List (List ℕ))
    goal_lines done todo = at_lines (name_of h.quiver o) (length done) todo

    full : (matrices : List PlainMatrix) → length matrices ≡ count_of h o → at_matrices (state matrices) o ≡ closed (state matrices) o
    full matrices e = elim (eqb_tells (length matrices) (count_of h o)) [
      | inl same ↦ ap (λ b. cond b (closed (state matrices) o) (record (state matrices) { place = place.Matrices o })) same.0
      | inr other ↦ absurd (other.1 e)
    ]

    open_at : (matrices : List PlainMatrix) → length matrices < count_of h o → at_matrices (state matrices) o ≡ record (state matrices) { place = place.Matrices o }
    open_at matrices l = elim (eqb_tells (length matrices) (count_of h o)) [
      | inl same ↦ absurd (omega (arith, l, same.1))
      | inr other ↦ ap (λ b. cond b (closed (state matrices) o) (record (state matrices) { place = place.Matrices o })) other.0
    ]

    product_is : (m n : ℕ) (a : PlainMatrix) → HasShape h.field m n a → a.row_count * a.col_count ≡ m * n
    product_is m n a s = λ i. s.row_count i * s.col_count i

    pub reads_matrices : (done todo : List PlainMatrix) → length done + length todo ≡ count_of h o → AreMatrices h.field (count_of h o) R C (done ++ todo)
        → Run (fill (state done) o) (goal_lines done todo) (closed (state (done ++ todo)) o)
    reads_matrices done [] e are =
        let size : length done ≡ count_of h o = omega (arith, e) in
        run_none (fill (state done) o) (closed (state (done ++ [])) o)
        (ap (λ l. closed (state l) o) (append-nil done) ∙ sym (ap (λ l. at_matrices (state l) o) (filled_whole h.field R C (count_of h o) done size) ∙ full done size))
    reads_matrices done (a ∷ rest) e are =
        let i = length done in
        let inside : i < count_of h o = omega (arith, e) in
        let shape : HasShape h.field (R i) (C i) a = subst (HasShape h.field (R i) (C i)) (get_or-append_seam done a rest a) (are.each i a inside) in
        let long : length (done ++ a ∷ []) ≡ i + 1 = length-pushed done (done ++ a ∷ []) a refl in
        let again : (done ++ a ∷ []) ++ rest ≡ done ++ a ∷ rest = append_assoc done (a ∷ []) rest in
        let more : Run (fill (state (done ++ a ∷ [])) o) (goal_lines (done ++ a ∷ []) rest) (closed (state ((done ++ a ∷ []) ++ rest)) o) =
        reads_matrices (done ++ a ∷ []) rest (omega (arith, e, long)) (subst (AreMatrices h.field (count_of h o) R C) (sym again) are) in
        let next : Run (fill (state (done ++ a ∷ [])) o) (at_lines (name_of h.quiver o) (i + 1) rest) (closed (state (done ++ a ∷ rest)) o) =
        subst (λ l. Run (fill (state (done ++ a ∷ [])) o) (at_lines (name_of h.quiver o) (i + 1) rest) (closed (state l) o)) again
        (subst (λ k. Run (fill (state (done ++ a ∷ [])) o) (at_lines (name_of h.quiver o) k rest) (closed (state ((done ++ a ∷ []) ++ rest)) o)) long more) in
        elim (cases_eq (R i * C i) 0) [
          | inl none ↦
              let only = only_empty h.field (R i) (C i) a none shape in
              let same : fill (state (done ++ a ∷ [])) o ≡ fill (state done) o =
              ap (λ l. at_matrices (state l) o) (ap (λ x. filled h.field R C (count_of h o) (done ++ x ∷ [])) only ∙ sym (filled_empty h.field R C (count_of h o) done inside none)) in
              subst (λ p. Run p (goal_lines done (a ∷ rest)) (closed (state (done ++ a ∷ rest)) o)) same
              (subst (λ ls. Run (fill (state (done ++ a ∷ [])) o) ls (closed (state (done ++ a ∷ rest)) o)) (sym (at_lines-empty (name_of h.quiver o) i a rest (product_is (R i) (C i) a shape ∙ none))) next)
          | inr some ↦
              let differs : a.row_count * a.col_count ≢ 0 = λ z. some (sym (product_is (R i) (C i) a shape) ∙ z) in
              let p = record (state done) { place = place.Matrices o } in
              let fits : FitsMatrix p o a = record { shape = shape; entries = differs } in
              let ts = at_line (name_of h.quiver o i) a in
              let end = closed (state (done ++ a ∷ rest)) o in
              let same : p ≡ fill (state done) o = sym (ap (λ l. at_matrices (state l) o) (filled_entry h.field R C (count_of h o) done some) ∙ open_at done inside) in
              subst (λ ls. Run (fill (state done) o) ls end) (sym (at_lines-entry (name_of h.quiver o) i a rest differs))
              (subst (λ q. Run q (ts ∷ at_lines (name_of h.quiver o) (i + 1) rest) end) same
              (run_line p (with_matrix p o a) end ts (at_lines (name_of h.quiver o) (i + 1) rest) (λ c out apart. matrix_clear c out apart p o a named fits) refl
              (taken (FitsMatrix p o) (at_line (name_of h.quiver o i)) (with_matrix p o) a fits (one_matrix p o)) next))
        ]

  -- ---- modules

  block_dims : (side : Side) (dims : List ℕ) (matrices : List PlainMatrix) → IsModule h.field (algebra_at side h).quiver record { side = side; dims = dims; matrices = matrices } → length dims ≡ vertex_count h.quiver
  block_dims Right dims matrices is = is.counted
  block_dims Left dims matrices is = is.counted

  block_matrices : (side : Side) (dims : List ℕ) (matrices : List PlainMatrix) (rs : List Record) → IsModule h.field (algebra_at side h).quiver record { side = side; dims = dims; matrices = matrices }
      → AreMatrices h.field (count_of h (owner.Module side)) (rows_of h dims rs (owner.Module side)) (columns_of h dims rs (owner.Module side)) matrices
  block_matrices Right dims matrices rs is = is.matrices
  block_matrices Left dims matrices rs is = is.matrices

  module_read : (rs : List Record) (ms : List Module) (m : Module) (k : ℕ) → 0 < length rs → k ≡ length (modules_of rs) + length ms + 1 → k < 2 ^ 32 → IsModuleBlock h m
      → Run (between rs ms []) (module_line k m.side m.dims ∷ at_arrows h m.matrices) (between rs (ms ++ m ∷ []) [])
  module_read rs ms m k some e room is =
      let p = between rs ms [] in
      let x = item.Module m.side m.dims in
      let number : (counts_of p).modules + 1 ≡ k = let c = modules_count rs (unclaimed p) in omega (arith, e, c) in
      let fits : FitsItem p x = record { behind_basis = some; no_map = refl; room = omega (arith, number, room); counted = block_dims m.side m.dims m.matrices is; small = is.small } in
      let are = block_matrices m.side m.dims m.matrices (here p) is in
      let counted = are.counted in
      let rest = reads_matrices rs ms [] m.dims (owner.Module m.side) [] m.matrices (omega (arith, counted)) are in
      subst (λ n. Run p (module_line n m.side m.dims ∷ at_arrows h m.matrices) (between rs (ms ++ m ∷ []) [])) number
      (run_line p (with_item p x) (between rs (ms ++ m ∷ []) []) (item_line p x) (at_lines (arrow_name h.quiver) 0 m.matrices) (λ c out o. item_clear c out o p x named few_relations fits) refl (taken (FitsItem p) (item_line p) (with_item p) x fits (one_item p named few_relations)) rest)

  pub modules_read : (rs : List Record) (done todo : List Module) (k : ℕ) → 0 < length rs → k ≡ length (modules_of rs) + length done → length (modules_of rs) + (length done + length todo) < 2 ^ 32 → All (IsModuleBlock h) todo
      → Run (between rs done []) (module_lines h k todo) (between rs (done ++ todo) [])
  modules_read rs done [] k some e room are = run_none (between rs done []) (between rs (done ++ []) []) (ap (λ l. between rs l []) (append-nil done))
  modules_read rs done (m ∷ rest) k some e room are =
      let long : length (done ++ m ∷ []) ≡ length done + 1 = length-pushed done (done ++ m ∷ []) m refl in
      let one = module_read rs done m (k + 1) some (omega (arith, e)) (omega (arith, e, room)) (All-head (IsModuleBlock h) m rest are) in
      let more = modules_read rs (done ++ m ∷ []) rest (k + 1) some (omega (arith, e, long)) (omega (arith, room, long)) (All-tail (IsModuleBlock h) m rest are) in
      run_append (between rs done []) (between rs (done ++ m ∷ []) []) (between rs (done ++ m ∷ rest) []) (module_line (k + 1) m.side m.dims ∷ at_arrows h m.matrices) (module_lines h (k + 1) rest) one
      (subst (λ l. Run (between rs (done ++ m ∷ []) []) (module_lines h (k + 1) rest) (between rs l [])) (append_assoc done (m ∷ []) rest) more)

  -- ---- maps

  map_read : (rs all : List Record) (ms : List Module) (fs : List Map) (f : Map) (k : ℕ) → 0 < length rs → modules_of all ≡ modules_of rs ++ ms → k ≡ length (maps_of rs) + length fs + 1 → k < 2 ^ 32 → length (modules_of rs) + length ms < 2 ^ 32 → IsMapBlock h all f
      → Run (between rs ms fs) (map_line k f.source f.target ∷ at_vertices h f.matrices) (between rs ms (fs ++ f ∷ []))
  map_read rs all ms fs f k some same e room few is =
      let p = between rs ms fs in
      let x = item.Map f.source f.target in
      let block : IsMapBlock h (here p) f = map_block_same h all (here p) f (same ∙ sym (modules_push rs (unclaimed p))) is in
      let number : (counts_of p).maps + 1 ≡ k = let c = maps_count rs (unclaimed p) in omega (arith, e, c) in
      let fits : FitsItem p x = record { behind_basis = some; few_modules = let m = modules_count rs (unclaimed p) in omega (arith, m, few); room = omega (arith, number, room); named_source = block.source; named_target = block.target } in
      let counted = block.matrices.counted in
      let rest = reads_matrices rs ms fs [] (owner.Map f.source f.target) [] f.matrices (omega (arith, counted)) block.matrices in
      subst (λ n. Run p (map_line n f.source f.target ∷ at_vertices h f.matrices) (between rs ms (fs ++ f ∷ []))) number
      (run_line p (with_item p x) (between rs ms (fs ++ f ∷ [])) (item_line p x) (at_lines (vertex_name h.quiver) 0 f.matrices) (λ c out o. item_clear c out o p x named few_relations fits) refl (taken (FitsItem p) (item_line p) (with_item p) x fits (one_item p named few_relations)) rest)

  pub maps_read : (rs all : List Record) (ms : List Module) (done todo : List Map) (k : ℕ) → 0 < length rs → modules_of all ≡ modules_of rs ++ ms → k ≡ length (maps_of rs) + length done
      → length (maps_of rs) + (length done + length todo) < 2 ^ 32 → length (modules_of rs) + length ms < 2 ^ 32 → All (IsMapBlock h all) todo → Run (between rs ms done) (map_lines h k todo) (between rs ms (done ++ todo))
  maps_read rs all ms done [] k some same e room few are = run_none (between rs ms done) (between rs ms (done ++ [])) (ap (λ l. between rs ms l) (append-nil done))
  maps_read rs all ms done (f ∷ rest) k some same e room few are =
      let long : length (done ++ f ∷ []) ≡ length done + 1 = length-pushed done (done ++ f ∷ []) f refl in
      let one = map_read rs all ms done f (k + 1) some same (omega (arith, e)) (omega (arith, e, room)) few (All-head (IsMapBlock h all) f rest are) in
      let more = maps_read rs all ms (done ++ f ∷ []) rest (k + 1) some same (omega (arith, e, long)) (omega (arith, room, long)) few (All-tail (IsMapBlock h all) f rest are) in
      run_append (between rs ms done) (between rs ms (done ++ f ∷ [])) (between rs ms (done ++ f ∷ rest)) (map_line (k + 1) f.source f.target ∷ at_vertices h f.matrices) (map_lines h (k + 1) rest) one
      (subst (λ l. Run (between rs ms (done ++ f ∷ [])) (map_lines h (k + 1) rest) (between rs ms l)) (append_assoc done (f ∷ []) rest) more)
