-- The lines of a claim on a translate, a transpose or an inverse translate: what was read is the claim, and the claim is read.
use Rattle.std.proofs.Common.{◌≡◌, ℕ, zero, suc, ◌<◌, ◌≤◌, List, [], ◌∷◌, ◌++◌, length, refl, sym, ap, ◌∙◌, subst, arith}
use Rattle.claim_blocks.proofs.WordTables.{table_dimension-is, table_dims-at}
use Rattle.std.specs.Prelude.{slice_index}
use Rattle.linear_algebra.specs.BlockFamilies.{total}
use Rattle.quiver_paths.specs.Quiver.{vertex_count}
use Rattle.path_algebra.specs.declared.Header.{Header}
use Rattle.module_types.specs.Algebras.{other_side}
use Rattle.report_types.specs.declared.claims.Record.{Record}
use Rattle.report_types.specs.ClaimBlocks.{side_of, vertices_of, dual_dim}
use Rattle.report_types.specs.Limits.{term_limit}
use Rattle.report_types.specs.WordDimensions.{printed_words, projective_dim}
use Rattle.claim_blocks.specs.Counts.{WordTable, table_dimension, table_dims}
use Rattle.module_types.specs.declared.Side.{Side}
use Rattle.report_types.specs.NamedClaims.{HasLength, resolved_in}
use Rattle.claim_blocks.specs.TermBlocks.{printed_table}
use Rattle.linear_algebra.proofs.Rows.{length-list_of, get_or-list_of}
use Rattle.fp_linear.specs.Matrix.{PlainMatrix}
use Rattle.path_algebra.specs.Derivations.{IsNumber}
use Rattle.module_types.specs.Shapes.{AreMatrices}
use Rattle.report_types.specs.declared.claims.Translation.{Translation}
use Rattle.report_types.specs.declared.claims.Translation.TheVariants.{Tau, Transpose, Taui}
use Rattle.report_types.specs.ClaimBlocks.{IsTranslateBlock, HasTranslateShape, IsPresentation}
use Rattle.report_types.specs.Numbers.{module_of, claim_of, modules_of, maps_of}
use Rattle.report_types.specs.WordDimensions.{dim_of}
use Rattle.claim_lines.specs.declared.heads.Head.TheVariants as head
use Rattle.claim_lines.specs.Items.{AreNumbers, AreTranslateNumbers}
use Rattle.claim_blocks.specs.declared.part_matrices.PartMatrices.{PartMatrices}
use Rattle.claim_blocks.specs.declared.vertex_block.VertexBlock.{VertexBlock}
use Rattle.claim_blocks.specs.Counts.{table_dim}
use Rattle.claim_blocks.specs.PartMatrices.{no_matrices, FitsMatrix, with_matrix, next_line, MatrixStep}
use Rattle.claim_blocks.specs.Spelling.{claim_block, at_vertices}
use Rattle.claim_blocks.specs.TermBlocks.{module_dims}
use Rattle.claim_blocks.specs.VertexBlocks.{FitsPresentation, dual_dims, translate_between, vertex_block, VertexStep, IsWholeVertices, vertex_claim}
use Rattle.text_lines.proofs.Readings.{Goes}
use Rattle.header_text.specs.Named.{IsNamed}
use Rattle.object_lines.proofs.ClearLines.{StandsOutside}
use Rattle.report_types.specs.declared.claims.Claim.TheVariants as claim
use Rattle.claim_lines.proofs.Clear.{ClearLine}
use Rattle.claim_blocks.specs.Leading.{Leads}
use Rattle.claim_blocks.proofs.FilledMatrices.{one_matrix}
use Rattle.claim_blocks.proofs.Leading.{leads_within}
use Rattle.claim_blocks.proofs.ReadMatrices.{matrices_same, holding, AreRead, read_start, read_next, read_whole, matrices_read, matrix_found, matrix_clear}
use Rattle.claim_blocks.proofs.TakenLines.{takes_within, takes_one, takes_go}

module _ (h : Header) (rs : List Record) (c k : ℕ) (vertices : List ℕ) (are : vertices ≡ vertices_of h rs c k) (small : (j : ℕ) → j < length vertices → slice_index vertices j < 256) where
  -- the injective modules of a term, by the table
  dual_dimension : table_dimension (printed_table h rs (other_side (side_of h rs c))) vertices ≡ total (vertex_count h.quiver) (dual_dim h rs c k)
  dual_dimension =
      table_dimension-is (printed_words rs) (other_side (side_of h rs c)) (vertex_count h.quiver) vertices small
      ∙ ap (λ vs. total (vertex_count h.quiver) (λ w. projective_dim (printed_words rs) (other_side (side_of h rs c)) vs w)) are

  pub large_dual : term_limit < table_dimension (printed_table h rs (other_side (side_of h rs c))) vertices → k ≤ 1 → FitsPresentation h rs c → ⊥
  large_dual l at fits = let s = fits.small k at in let e = dual_dimension in omega (arith, l, s, e)

  pub small_dual : table_dimension (printed_table h rs (other_side (side_of h rs c))) vertices ≤ term_limit → total (vertex_count h.quiver) (dual_dim h rs c k) ≤ term_limit
  small_dual l = subst (λ n. n ≤ term_limit) dual_dimension l

pub both_terms : (P : ℕ → Type 0) → P 0 → P 1 → (k : ℕ) → k ≤ 1 → P k
both_terms P a b zero l = a
both_terms P a b (suc zero) l = b
both_terms P a b (suc (suc k)) l = absurd (omega (arith, l))

-- which table the answers are of
pub table_of : (h : Header) (rs : List Record) (c m : ℕ) (s o : Side) (t : WordTable) → m ≡ resolved_in (claim_of rs c) → s ≡ (module_of rs m).side → o ≡ other_side s → t ≡ printed_table h rs o → t ≡ printed_table h rs (other_side (side_of h rs c))
table_of h rs c m s o t em es eo et = et ∙ ap (printed_table h rs) (eo ∙ ap other_side (es ∙ ap (λ n. (module_of rs n).side) em))

-- both terms have answers
pub presentation_of : (h : Header) (rs : List Record) (c : ℕ) (t : WordTable) (first second dims : List ℕ) → HasLength (claim_of rs c) 1 → t ≡ printed_table h rs (other_side (side_of h rs c))
    → first ≡ vertices_of h rs c 0 → second ≡ vertices_of h rs c 1 → ((j : ℕ) → slice_index first j < 256) → ((j : ℕ) → slice_index second j < 256)
    → table_dimension t first ≤ term_limit → (table_dimension t second ≤ term_limit) × (dims ≡ table_dims t second) → FitsPresentation h rs c × (dims ≡ dual_dims h rs c)
presentation_of h rs c t first second dims long et ef es bf bs sf answer = (
  record {
    of_length = long;
    small = both_terms (λ k. total (vertex_count h.quiver) (dual_dim h rs c k) ≤ term_limit)
        (small_dual h rs c 0 first ef (λ j l. bf j) (subst (λ x. table_dimension x first ≤ term_limit) et sf))
        (small_dual h rs c 1 second es (λ j l. bs j) (subst (λ x. table_dimension x second ≤ term_limit) et answer.0));
    places = both_terms (λ k. (j : ℕ) → j < length (vertices_of h rs c k) → slice_index (vertices_of h rs c k) j < 256)
        (λ j l. subst (λ vs. slice_index vs j < 256) ef (bf j)) (λ j l. subst (λ vs. slice_index vs j < 256) es (bs j));
  },
  answer.1 ∙ (λ i. table_dims (et i) (es i)),
)

-- ---- dimensions, vertex by vertex

pub own_at : (h : Header) (rs : List Record) (n w : ℕ) → w < vertex_count h.quiver → slice_index (module_dims h rs n) w ≡ dim_of h (module_of rs n) w
own_at h rs n w l = get_or-list_of (vertex_count h.quiver) (dim_of h (module_of rs n)) w 0 l

pub own_long : (h : Header) (rs : List Record) (n : ℕ) → length (module_dims h rs n) ≡ vertex_count h.quiver
own_long h rs n = length-list_of (vertex_count h.quiver) (dim_of h (module_of rs n))

pub dual_at : (h : Header) (rs : List Record) (c : ℕ) → FitsPresentation h rs c → (w : ℕ) → w < vertex_count h.quiver → slice_index (dual_dims h rs c) w ≡ dual_dim h rs c 1 w
dual_at h rs c fits w l = table_dims-at (printed_words rs) (other_side (side_of h rs c)) (vertex_count h.quiver) (vertices_of h rs c 1) (fits.places 1 (omega arith)) w l

pub dual_long : (h : Header) (rs : List Record) (c : ℕ) → length (dual_dims h rs c) ≡ vertex_count h.quiver
dual_long h rs c = length-list_of (vertex_count h.quiver) (table_dim (printed_table h rs (other_side (side_of h rs c))) (vertices_of h rs c 1))

-- ---- what was read

-- the rows and columns of an embedding of a translate, or of a projection onto a transpose or a dual
abbrev row_counts : Translation → (own dual : List ℕ) → List ℕ
row_counts Tau own dual = own
row_counts Transpose own dual = dual
row_counts (Taui b) own dual = dual

abbrev column_counts : Translation → (own dual : List ℕ) → List ℕ
column_counts Tau own dual = dual
column_counts Transpose own dual = own
column_counts (Taui b) own dual = own

between_is : (h : Header) (which : Translation) (own dual : List ℕ) → translate_between h which own dual ≡ no_matrices h.field (row_counts which own dual) (column_counts which own dual)
between_is h Tau own dual = refl
between_is h Transpose own dual = refl
between_is h (Taui b) own dual = refl

module _ (h : Header) (rs : List Record) (which : Translation) (n a c : ℕ) where
  abbrev own : List ℕ
  own = module_dims h rs n

  abbrev dual : List ℕ
  dual = dual_dims h rs c

  abbrev ReadBetween : PartMatrices → List (List (List ℕ)) → Type 0
  ReadBetween m ls = AreRead h h.field (row_counts which own dual) (column_counts which own dual) m ls

  -- the block behind these lines
  pub record IsVerticesSoFar (b : VertexBlock) (ls : List (List (List ℕ))) : Type 0 where
    pub fits : FitsPresentation h rs c
    pub which_is : b.which ≡ which
    pub subject : b.subject ≡ n
    pub of_is : b.of ≡ a
    pub resolution : b.resolution ≡ c
    pub read : ReadBetween b.matrices ls

  pub vertices_start : FitsPresentation h rs c → IsVerticesSoFar (vertex_block h rs which n a c) []
  vertices_start fits = record {
    fits = fits;
    which_is = refl;
    subject = refl;
    of_is = refl;
    resolution = refl;
    read = subst (λ m. ReadBetween m []) (sym (between_is h which own dual)) (read_start h h.field (row_counts which own dual) (column_counts which own dual));
  }

  pub vertices_next : (b next : VertexBlock) (ts : List (List ℕ)) (ls : List (List (List ℕ))) → IsVerticesSoFar b ls → VertexStep h b ts next → IsVerticesSoFar next (ls ++ ts ∷ [])
  vertices_next b next ts ls far t =
      subst (λ x. IsVerticesSoFar x (ls ++ ts ∷ [])) (sym t.leads) (subst (λ l. IsVerticesSoFar (record b { matrices = with_matrix b.matrices t.item }) (ls ++ l ∷ [])) (sym t.spelled) record {
        fits = far.fits;
        which_is = far.which_is;
        subject = far.subject;
        of_is = far.of_is;
        resolution = far.resolution;
        read = read_next h h.field (row_counts which own dual) (column_counts which own dual) b.matrices t.item ls far.read t.fits;
      })

-- the shape that the claim asks for, from and to that of the lists
shape_of : (h : Header) (rs : List Record) (which : Translation) (n c modules : ℕ) (ms : List PlainMatrix) → FitsPresentation h rs c → length (modules_of rs) ≡ modules → AreTranslateNumbers modules which
    → AreMatrices h.field (length (row_counts which (module_dims h rs n) (dual_dims h rs c))) (slice_index (row_counts which (module_dims h rs n) (dual_dims h rs c))) (slice_index (column_counts which (module_dims h rs n) (dual_dims h rs c))) ms
    → HasTranslateShape h rs which n c ms
shape_of h rs Tau n c modules ms fits e named are =
    matrices_same h.field (vertex_count h.quiver) _ _ _ _ ms (own_at h rs n) (dual_at h rs c fits) (subst (λ k. AreMatrices h.field k (slice_index (module_dims h rs n)) (slice_index (dual_dims h rs c)) ms) (own_long h rs n) are)
shape_of h rs Transpose n c modules ms fits e named are =
    matrices_same h.field (vertex_count h.quiver) _ _ _ _ ms (dual_at h rs c fits) (own_at h rs n) (subst (λ k. AreMatrices h.field k (slice_index (dual_dims h rs c)) (slice_index (module_dims h rs n)) ms) (dual_long h rs c) are)
shape_of h rs (Taui b) n c modules ms fits e named are = (
  subst (λ k. IsNumber k b) (sym e) named,
  matrices_same h.field (vertex_count h.quiver) _ _ _ _ ms (dual_at h rs c fits) (own_at h rs n) (subst (λ k. AreMatrices h.field k (slice_index (dual_dims h rs c)) (slice_index (module_dims h rs n)) ms) (dual_long h rs c) are),
)

module _ (h : Header) (rs : List Record) (which : Translation) (n a c : ℕ) (b : VertexBlock) (ls : List (List (List ℕ))) (far : IsVerticesSoFar h rs which n a c b ls) (whole : IsWholeVertices b) where
  pub vertices_lines : ls ≡ claim_block h (vertex_claim b)
  vertices_lines = far.read.lines

  pub vertices_head_is : head.Translate b.which b.subject b.of b.resolution ≡ head.Translate which n a c
  vertices_head_is = λ i. head.Translate (far.which_is i) (far.subject i) (far.of_is i) (far.resolution i)

  pub vertices_is_claim : (earlier : ℕ) → length rs ≡ suc earlier → AreNumbers earlier (length (modules_of rs)) (length (maps_of rs)) (head.Translate which n a c)
      → IsTranslateBlock h rs b.which b.subject b.of b.resolution b.matrices.matrices
  vertices_is_claim earlier e are =
      let ms = b.matrices.matrices in
      subst (λ w. IsTranslateBlock h rs w b.subject b.of b.resolution ms) (sym far.which_is) (subst (λ x. IsTranslateBlock h rs which x b.of b.resolution ms) (sym far.subject)
      (subst (λ x. IsTranslateBlock h rs which n x b.resolution ms) (sym far.of_is) (subst (λ x. IsTranslateBlock h rs which n a x ms) (sym far.resolution) record {
        is_module = are.1;
        named = are.2;
        presentation = record {
          resolution = record { named = record { from = are.3.from; earlier = (let to = are.3.to in omega (arith, e, to)) }; length = far.fits.of_length };
          small = far.fits.small;
        };
        shape = shape_of h rs which n c (length (modules_of rs)) ms far.fits refl are.0
            (read_whole h h.field (row_counts which (module_dims h rs n) (dual_dims h rs c)) (column_counts which (module_dims h rs n) (dual_dims h rs c)) b.matrices ls far.read whole);
      })))

-- ---- a claim is read

module _ (h : Header) (named : IsNamed h.quiver) where
  abbrev pub whole_vertices : (rs : List Record) (which : Translation) (n a c : ℕ) → List PlainMatrix → VertexBlock
  whole_vertices rs which n a c ms = record { which = which; subject = n; of = a; resolution = c; matrices = holding h h.field (row_counts which (module_dims h rs n) (dual_dims h rs c)) (column_counts which (module_dims h rs n) (dual_dims h rs c)) ms }

  -- the shapes of the lists
  shape_back : (rs : List Record) (which : Translation) (n c : ℕ) (ms : List PlainMatrix) → FitsPresentation h rs c → HasTranslateShape h rs which n c ms
      → AreMatrices h.field (length (row_counts which (module_dims h rs n) (dual_dims h rs c))) (slice_index (row_counts which (module_dims h rs n) (dual_dims h rs c))) (slice_index (column_counts which (module_dims h rs n) (dual_dims h rs c))) ms
  shape_back rs Tau n c ms fits are =
      subst (λ k. AreMatrices h.field k (slice_index (module_dims h rs n)) (slice_index (dual_dims h rs c)) ms) (sym (own_long h rs n))
      (matrices_same h.field (vertex_count h.quiver) _ _ _ _ ms (λ i l. sym (own_at h rs n i l)) (λ i l. sym (dual_at h rs c fits i l)) are)
  shape_back rs Transpose n c ms fits are =
      subst (λ k. AreMatrices h.field k (slice_index (dual_dims h rs c)) (slice_index (module_dims h rs n)) ms) (sym (dual_long h rs c))
      (matrices_same h.field (vertex_count h.quiver) _ _ _ _ ms (λ i l. sym (dual_at h rs c fits i l)) (λ i l. sym (own_at h rs n i l)) are)
  shape_back rs (Taui b) n c ms fits are =
      subst (λ k. AreMatrices h.field k (slice_index (dual_dims h rs c)) (slice_index (module_dims h rs n)) ms) (sym (dual_long h rs c))
      (matrices_same h.field (vertex_count h.quiver) _ _ _ _ ms (λ i l. sym (dual_at h rs c fits i l)) (λ i l. sym (own_at h rs n i l)) are.1)

  rows_long : (rs : List Record) (which : Translation) (n c : ℕ) → length (row_counts which (module_dims h rs n) (dual_dims h rs c)) ≡ vertex_count h.quiver
  rows_long rs Tau n c = own_long h rs n
  rows_long rs Transpose n c = dual_long h rs c
  rows_long rs (Taui b) n c = dual_long h rs c

  -- The lines of a claim lead to the block with it. (That the presentation fits follows of a named resolution whose generators stand at vertices.)
  pub vertices_read : (rs : List Record) (which : Translation) (n a c : ℕ) (ms : List PlainMatrix) → FitsPresentation h rs c → IsTranslateBlock h rs which n a c ms
      → (b : VertexBlock) × Leads (VertexStep h) (vertex_block h rs which n a c) (claim_block h (claim.Translate which n a c ms)) b × IsWholeVertices b × (vertex_claim b ≡ claim.Translate which n a c ms)
  vertices_read rs which n a c ms fits is =
      let own = module_dims h rs n in
      let dual = dual_dims h rs c in
      let R = row_counts which own dual in
      let C = column_counts which own dual in
      let are = shape_back rs which n c ms fits is.shape in
      let within : PartMatrices → VertexBlock = (λ m. record { which = which; subject = n; of = a; resolution = c; matrices = m }) in
      let lead = leads_within (MatrixStep h) (VertexStep h) within (λ p q l t. takes_within (FitsMatrix h p) (next_line h p) (with_matrix p) within l q t) (no_matrices h.field R C) (holding h h.field R C ms) (at_vertices h ms)
      (matrices_read h h.field R C (let e = rows_long rs which n c in omega (arith, e)) ms are) in (
        whole_vertices rs which n a c ms,
        subst (λ m. Leads (VertexStep h) (within m) (at_vertices h ms) (whole_vertices rs which n a c ms)) (sym (between_is h which own dual)) lead,
        are.counted,
        refl,
      )

  -- a presentation fits whose generators stand at vertices
  pub presentation_fits : (rs : List Record) (c : ℕ) → IsPresentation h rs c → ((k : ℕ) → k ≤ 1 → (j : ℕ) → j < length (vertices_of h rs c k) → slice_index (vertices_of h rs c k) j < vertex_count h.quiver) → FitsPresentation h rs c
  presentation_fits rs c is declared = record {
    of_length = is.resolution.length;
    small = is.small;
    places = λ k at j l. (let d = declared k at j l in let few = named.vertices_limit in omega (arith, d, few));
  }

-- ---- one line leads to one block, or to none

module _ (h : Header) (b : VertexBlock) (ts : List (List ℕ)) where
  pub vertices_one : (q r : VertexBlock) → VertexStep h b ts q → VertexStep h b ts r → q ≡ r
  vertices_one q r t u = takes_one (FitsMatrix h b.matrices) (next_line h b.matrices) (λ m. record b { matrices = with_matrix b.matrices m }) ts q r t u

  pub vertices_go : Goes (VertexStep h b ts)
  vertices_go = takes_go (FitsMatrix h b.matrices) (next_line h b.matrices) (λ m. record b { matrices = with_matrix b.matrices m }) ts (one_matrix h b.matrices) (matrix_found h b.matrices ts)

  pub vertices_clear : (c : ℕ) → StandsOutside c → IsNamed h.quiver → (next : VertexBlock) → VertexStep h b ts next → ClearLine c ts
  vertices_clear c outside named next t = subst (ClearLine c) (sym t.spelled) (matrix_clear c outside h named b.matrices t.item t.fits)
