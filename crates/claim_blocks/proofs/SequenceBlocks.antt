-- The lines of a claim that a sequence is almost split: what was read is the claim, and the claim is read.
use Rattle.std.specs.Prelude.{⊤, slice_index}
use Rattle.std.proofs.Common.{◌≡◌, ℕ, suc, ◌+◌, ◌<◌, ◌≤◌, ◌^◌, List, [], ◌∷◌, ◌++◌, length, inl, inr, refl, sym, ap, ◌∙◌, subst, arith, lit<, append_assoc}
use Rattle.std.proofs.lemmas.Bool.{cases_eq}
use Rattle.linear_algebra.specs.BlockFamilies.{total}
use Rattle.linear_algebra.specs.Rows.{IsRow}
use Rattle.linear_algebra.proofs.Rows.{length-list_of, get_or-list_of}
use Rattle.linear_algebra.proofs.BlockFamilies.{total_grows, total-same}
use Rattle.fp_linear.specs.Matrix.{PlainMatrix}
use Rattle.quiver_paths.specs.Quiver.{vertex_count}
use Rattle.path_algebra.specs.declared.Header.{Header}
use Rattle.bound_algebra.specs.TypedPaths.{quiver_of}
use Rattle.module_types.specs.Shapes.{AreMatrices, dimension, most_dimension}
use Rattle.report_types.specs.declared.claims.Record.{Record}
use Rattle.report_types.specs.ClaimBlocks.{vertices_of, dual_dim, IsSequenceBlock}
use Rattle.report_types.specs.NamedClaims.{IsLocalClaim}
use Rattle.report_types.specs.Numbers.{module_of, claim_of, modules_of, maps_of}
use Rattle.report_types.specs.WordDimensions.{dim_of, count_at}
use Rattle.deciding.proofs.Deciding.{like, both, same_tokens}
use Rattle.text_lines.proofs.Readings.{Goes}
use Rattle.header_text.specs.Named.{IsNamed}
use Rattle.object_lines.specs.Spelling.{phi_line, left_line, middle_line}
use Rattle.object_lines.proofs.ClearLines.{StandsOutside, phi_clear, left_clear, middle_clear}
use Rattle.object_lines.proofs.DecidedLines.{phi_decided}
use Rattle.claim_lines.specs.Items.{AreNumbers}
use Rattle.claim_lines.proofs.Clear.{ClearLine}
use Rattle.claim_blocks.specs.declared.part_matrices.PartMatrices.{PartMatrices}
use Rattle.claim_blocks.specs.declared.sequence_block.Sequence.{Sequence}
use Rattle.claim_blocks.specs.declared.sequence_block.SequencePlace.{SequencePlace}
use Rattle.claim_blocks.specs.declared.sequence_block.SequencePlace.TheVariants as place
use Rattle.claim_blocks.specs.declared.sequence_block.SequenceBlock.{SequenceBlock}
use Rattle.claim_blocks.specs.Leading.{Leads}
use Rattle.claim_blocks.specs.PartMatrices.{FitsMatrix, next_line, with_matrix, MatrixStep, IsWholeMatrices}
use Rattle.claim_blocks.specs.SequenceBlocks.{sequence_head, generator_dims, functional_width, dims_beside, FitsSequence, sequence_block, with_phi, behind_left, LeftMatrixStep, behind_middle, MiddleStep, MiddleMatrixStep, SequenceStepAt, SequenceStep, IsWholeSequence, sequence_claim}
use Rattle.claim_blocks.specs.Spelling.{claim_block, at_vertices}
use Rattle.claim_blocks.specs.Taking.{Takes}
use Rattle.claim_blocks.specs.TermBlocks.{module_dims}
use Rattle.claim_blocks.specs.VertexBlocks.{FitsPresentation, dual_dims}
use Rattle.claim_blocks.proofs.FilledMatrices.{one_matrix}
use Rattle.claim_blocks.proofs.Leading.{leads_within, leads_append}
use Rattle.claim_blocks.proofs.ReadMatrices.{matrices_same, holding, AreRead, read_start, read_next, read_whole, matrices_read, matrix_found, matrix_clear}
use Rattle.claim_blocks.proofs.SequenceReading.{one_phi, one_left, one_middle}
use Rattle.claim_blocks.proofs.SumReading.{dim_small}
use Rattle.claim_blocks.proofs.TakenLines.{takes_within, takes_one, takes_own, takes_go}
use Rattle.claim_blocks.proofs.VertexBlocks.{own_at, own_long, dual_at}

-- ---- dimensions

module _ (h : Header) (rs : List Record) (s : Sequence) where
  abbrev dual : List ℕ
  dual = dual_dims h rs s.resolution

  abbrev beside : List ℕ
  beside = dims_beside h rs dual s.right

  abbrev counts : List ℕ
  counts = generator_dims h rs s.right s.resolution

  -- the entries of the functional
  width_is : functional_width counts ≡ count_at h (module_of rs s.right) (vertices_of h rs s.resolution 0)
  width_is =
      let vs = vertices_of h rs s.resolution 0 in
      let f : ℕ → ℕ = (λ j. dim_of h (module_of rs s.right) (slice_index vs j)) in
      ap (λ n. total n (slice_index counts)) (length-list_of (length vs) f) ∙ total-same (length vs) (slice_index counts) f (λ j l. get_or-list_of (length vs) f j 0 l)

  beside_at : FitsPresentation h rs s.resolution → (w : ℕ) → w < vertex_count h.quiver → slice_index beside w ≡ dual_dim h rs s.resolution 1 w + dim_of h (module_of rs s.right) w
  beside_at fits w l =
      get_or-list_of (vertex_count h.quiver) (λ k. slice_index dual k + dim_of h (module_of rs s.right) k) w 0 l
      ∙ ap (λ n. n + dim_of h (module_of rs s.right) w) (dual_at h rs s.resolution fits w l)

  -- what is named fits, where modules have at most the largest dimension
  pub sequence_fits : ((a : ℕ) → dimension (module_of rs a).dims ≤ most_dimension) → FitsPresentation h rs s.resolution → IsLocalClaim (claim_of rs s.local) → FitsSequence h rs s
  sequence_fits small fits is_local = record {
    presentation = fits;
    is_local = is_local;
    narrow = λ w l.
        let e = dual_at h rs s.resolution fits w l in
        let grows = total_grows (dual_dim h rs s.resolution 1) (vertex_count h.quiver) w l in
        let few = fits.small 1 (omega arith) in
        let own = dim_small (quiver_of h.quiver) (module_of rs s.right).dims most_dimension w (small s.right) in
        let big : 768 < 2 ^ 32 = lit< tt in
        omega (arith, e, grows, few, own, big);
  }

  -- shapes by the lists and by the dimensions
  shape_to : (rows columns : List ℕ) (r c : ℕ → ℕ) (ms : List PlainMatrix) → length rows ≡ vertex_count h.quiver → ((w : ℕ) → w < vertex_count h.quiver → slice_index rows w ≡ r w)
      → ((w : ℕ) → w < vertex_count h.quiver → slice_index columns w ≡ c w) → AreMatrices h.field (length rows) (slice_index rows) (slice_index columns) ms → AreMatrices h.field (vertex_count h.quiver) r c ms
  shape_to rows columns r c ms long er ec are =
      matrices_same h.field (vertex_count h.quiver) (slice_index rows) (slice_index columns) r c ms er ec (subst (λ k. AreMatrices h.field k (slice_index rows) (slice_index columns) ms) long are)

  shape_back : (rows columns : List ℕ) (r c : ℕ → ℕ) (ms : List PlainMatrix) → length rows ≡ vertex_count h.quiver → ((w : ℕ) → w < vertex_count h.quiver → slice_index rows w ≡ r w)
      → ((w : ℕ) → w < vertex_count h.quiver → slice_index columns w ≡ c w) → AreMatrices h.field (vertex_count h.quiver) r c ms → AreMatrices h.field (length rows) (slice_index rows) (slice_index columns) ms
  shape_back rows columns r c ms long er ec are =
      subst (λ k. AreMatrices h.field k (slice_index rows) (slice_index columns) ms) (sym long)
      (matrices_same h.field (vertex_count h.quiver) r c (slice_index rows) (slice_index columns) ms (λ w l. sym (er w l)) (λ w l. sym (ec w l)) are)

-- ---- what was read

-- the lines that were read before what is owed
module _ (h : Header) (b : SequenceBlock) (ls : List (List (List ℕ))) where
  abbrev left_lines : List (List (List ℕ))
  left_lines = at_vertices h b.left.matrices

  abbrev middle_lines : List (List (List ℕ))
  middle_lines = at_vertices h b.middle.matrices

  pub record BeforeFunctional : Type 0 where
    pub lines : ls ≡ []
    pub left_none : [] ≡ left_lines
    pub middle_none : [] ≡ middle_lines

  pub record BehindFunctional : Type 0 where
    pub lines : ls ≡ phi_line b.phi ∷ []
    pub functional : IsRow h.field (functional_width b.counts) b.phi
    pub left_none : [] ≡ left_lines
    pub middle_none : [] ≡ middle_lines

  pub record AmongLeft : Type 0 where
    pub lines : ls ≡ phi_line b.phi ∷ left_line ∷ left_lines
    pub functional : IsRow h.field (functional_width b.counts) b.phi
    pub middle_none : [] ≡ middle_lines

  pub record AmongMiddle : Type 0 where
    pub lines : ls ≡ phi_line b.phi ∷ left_line ∷ (left_lines ++ (middle_line ∷ middle_lines))
    pub functional : IsRow h.field (functional_width b.counts) b.phi
    pub whole : IsWholeMatrices b.left

abbrev pub LinesAt : SequencePlace → Header → SequenceBlock → List (List (List ℕ)) → Type 0
LinesAt place.Functional h b ls = BeforeFunctional h b ls
LinesAt place.Left h b ls = BehindFunctional h b ls
LinesAt place.LeftMatrices h b ls = AmongLeft h b ls
LinesAt place.MiddleMatrices h b ls = AmongMiddle h b ls

module _ (h : Header) (rs : List Record) (s : Sequence) where
  -- matrices that stand behind lines of their own
  abbrev IsLeft : PartMatrices → List (List (List ℕ)) → Type 0
  IsLeft m ls = AreRead h h.field (module_dims h rs s.left) (dual h rs s) m ls

  abbrev IsMiddle : PartMatrices → List (List (List ℕ)) → Type 0
  IsMiddle m ls = AreRead h h.field (module_dims h rs s.middle) (beside h rs s) m ls

  own_left : (m : PartMatrices) (ls : List (List (List ℕ))) → IsLeft m ls → IsLeft m (at_vertices h m.matrices)
  own_left m ls read = record { same = read.same; are = read.are; lines = refl }

  own_middle : (m : PartMatrices) (ls : List (List (List ℕ))) → IsMiddle m ls → IsMiddle m (at_vertices h m.matrices)
  own_middle m ls read = record { same = read.same; are = read.are; lines = refl }

  -- the block behind these lines
  pub record IsSequenceSoFar (b : SequenceBlock) (ls : List (List (List ℕ))) : Type 0 where
    pub fits : FitsSequence h rs s
    pub of_is : b.of ≡ s
    pub counts_are : b.counts ≡ counts h rs s
    pub left : IsLeft b.left (at_vertices h b.left.matrices)
    pub middle : IsMiddle b.middle (at_vertices h b.middle.matrices)
    pub at : LinesAt b.place h b ls

  pub sequence_start : FitsSequence h rs s → IsSequenceSoFar (sequence_block h rs s) []
  sequence_start fits =
      let left = read_start h h.field (module_dims h rs s.left) (dual h rs s) in
      let middle = read_start h h.field (module_dims h rs s.middle) (beside h rs s) in
      let b = sequence_block h rs s in
      record {
        fits = fits;
        of_is = refl;
        counts_are = refl;
        left = own_left b.left [] left;
        middle = own_middle b.middle [] middle;
        at = record { lines = refl; left_none = left.lines; middle_none = middle.lines };
      }

  functional_next : (b : SequenceBlock) (row : List ℕ) (ls : List (List (List ℕ))) → IsSequenceSoFar b ls → b.place ≡ place.Functional → IsRow h.field (functional_width b.counts) row
      → IsSequenceSoFar (with_phi b row) (ls ++ phi_line row ∷ [])
  functional_next b row ls far e fits =
      let at = subst (λ p. LinesAt p h b ls) e far.at in
      record {
        fits = far.fits;
        of_is = far.of_is;
        counts_are = far.counts_are;
        left = far.left;
        middle = far.middle;
        at = record { lines = ap (λ l. l ++ phi_line row ∷ []) at.lines; functional = fits; left_none = at.left_none; middle_none = at.middle_none };
      }

  left_next : (b : SequenceBlock) (ls : List (List (List ℕ))) → IsSequenceSoFar b ls → b.place ≡ place.Left → IsSequenceSoFar (behind_left b) (ls ++ left_line ∷ [])
  left_next b ls far e =
      let at = subst (λ p. LinesAt p h b ls) e far.at in
      record {
        fits = far.fits;
        of_is = far.of_is;
        counts_are = far.counts_are;
        left = far.left;
        middle = far.middle;
        at = record {
          lines = ap (λ l. l ++ left_line ∷ []) at.lines ∙ ap (λ l. phi_line b.phi ∷ left_line ∷ l) at.left_none;
          functional = at.functional;
          middle_none = at.middle_none;
        };
      }

  left_matrix_next : (b : SequenceBlock) (m : PlainMatrix) (ls : List (List (List ℕ))) → IsSequenceSoFar b ls → b.place ≡ place.LeftMatrices → FitsMatrix h b.left m
      → IsSequenceSoFar (record b { left = with_matrix b.left m }) (ls ++ next_line h b.left m ∷ [])
  left_matrix_next b m ls far e fits =
      let at = subst (λ p. LinesAt p h b ls) e far.at in
      let next = next_line h b.left m in
      let more = read_next h h.field (module_dims h rs s.left) (dual h rs s) b.left m (at_vertices h b.left.matrices) far.left fits in
      record {
        fits = far.fits;
        of_is = far.of_is;
        counts_are = far.counts_are;
        left = own_left (with_matrix b.left m) (at_vertices h b.left.matrices ++ next ∷ []) more;
        middle = far.middle;
        at = subst (λ p. LinesAt p h (record b { left = with_matrix b.left m }) (ls ++ next ∷ [])) (sym e) record {
          lines = ap (λ l. l ++ next ∷ []) at.lines ∙ ap (λ l. phi_line b.phi ∷ left_line ∷ l) more.lines;
          functional = at.functional;
          middle_none = at.middle_none;
        };
      }

  middle_next : (b : SequenceBlock) (ls : List (List (List ℕ))) → IsSequenceSoFar b ls → b.place ≡ place.LeftMatrices → IsWholeMatrices b.left → IsSequenceSoFar (behind_middle b) (ls ++ middle_line ∷ [])
  middle_next b ls far e whole =
      let at = subst (λ p. LinesAt p h b ls) e far.at in
      record {
        fits = far.fits;
        of_is = far.of_is;
        counts_are = far.counts_are;
        left = far.left;
        middle = far.middle;
        at = record {
          lines = ap (λ l. l ++ middle_line ∷ []) at.lines ∙ ap (λ l. phi_line b.phi ∷ left_line ∷ (at_vertices h b.left.matrices ++ (middle_line ∷ l))) at.middle_none;
          functional = at.functional;
          whole = whole;
        };
      }

  middle_matrix_next : (b : SequenceBlock) (m : PlainMatrix) (ls : List (List (List ℕ))) → IsSequenceSoFar b ls → b.place ≡ place.MiddleMatrices → FitsMatrix h b.middle m
      → IsSequenceSoFar (record b { middle = with_matrix b.middle m }) (ls ++ next_line h b.middle m ∷ [])
  middle_matrix_next b m ls far e fits =
      let at = subst (λ p. LinesAt p h b ls) e far.at in
      let next = next_line h b.middle m in
      let L = at_vertices h b.left.matrices in
      let M = at_vertices h b.middle.matrices in
      let more = read_next h h.field (module_dims h rs s.middle) (beside h rs s) b.middle m M far.middle fits in
      record {
        fits = far.fits;
        of_is = far.of_is;
        counts_are = far.counts_are;
        left = far.left;
        middle = own_middle (with_matrix b.middle m) (M ++ next ∷ []) more;
        at = subst (λ p. LinesAt p h (record b { middle = with_matrix b.middle m }) (ls ++ next ∷ [])) (sym e) record {
          lines = ap (λ l. l ++ next ∷ []) at.lines ∙ ap (λ l. phi_line b.phi ∷ left_line ∷ l) (append_assoc L (middle_line ∷ M) (next ∷ []) ∙ ap (λ l. L ++ (middle_line ∷ l)) more.lines);
          functional = at.functional;
          whole = at.whole;
        };
      }

  -- a line more is that of its item
  by_item : {X : Type 0} (Fits : X → Type 0) (spell : X → List (List ℕ)) (with : X → SequenceBlock) (ts : List (List ℕ)) (ls : List (List (List ℕ))) (next : SequenceBlock) → Takes Fits spell with ts next
      → ((x : X) → Fits x → IsSequenceSoFar (with x) (ls ++ spell x ∷ [])) → IsSequenceSoFar next (ls ++ ts ∷ [])
  by_item Fits spell with ts ls next t each =
      subst (λ b. IsSequenceSoFar b (ls ++ ts ∷ [])) (sym t.leads) (subst (λ l. IsSequenceSoFar (with t.item) (ls ++ l ∷ [])) (sym t.spelled) (each t.item t.fits))

  next_at : (p : SequencePlace) (b next : SequenceBlock) (ts : List (List ℕ)) (ls : List (List (List ℕ))) → b.place ≡ p → IsSequenceSoFar b ls → SequenceStepAt p h b ts next → IsSequenceSoFar next (ls ++ ts ∷ [])
  next_at place.Functional b next ts ls e far t =
      by_item (IsRow h.field (functional_width b.counts)) phi_line (with_phi b) ts ls next t (λ row fits. functional_next b row ls far e fits)
  next_at place.Left b next ts ls e far t = by_item (λ (u : ⊤). ⊤) (λ u. left_line) (λ u. behind_left b) ts ls next t (λ u fits. left_next b ls far e)
  next_at place.LeftMatrices b next ts ls e far (inl t) =
      by_item (FitsMatrix h b.left) (next_line h b.left) (λ m. record b { left = with_matrix b.left m }) ts ls next t (λ m fits. left_matrix_next b m ls far e fits)
  next_at place.LeftMatrices b next ts ls e far (inr t) =
      by_item (λ (u : ⊤). IsWholeMatrices b.left) (λ u. middle_line) (λ u. behind_middle b) ts ls next t (λ u whole. middle_next b ls far e whole)
  next_at place.MiddleMatrices b next ts ls e far t =
      by_item (FitsMatrix h b.middle) (next_line h b.middle) (λ m. record b { middle = with_matrix b.middle m }) ts ls next t (λ m fits. middle_matrix_next b m ls far e fits)

  pub sequence_next : (b next : SequenceBlock) (ts : List (List ℕ)) (ls : List (List (List ℕ))) → IsSequenceSoFar b ls → SequenceStep h b ts next → IsSequenceSoFar next (ls ++ ts ∷ [])
  sequence_next b next ts ls far t = next_at b.place b next ts ls refl far t

  -- the block of a whole claim
  module _ (b : SequenceBlock) (ls : List (List (List ℕ))) (far : IsSequenceSoFar b ls) (whole : IsWholeSequence b) where
    behind : AmongMiddle h b ls
    behind = subst (λ p. LinesAt p h b ls) whole.0 far.at

    pub sequence_lines : ls ≡ claim_block h (sequence_claim b)
    sequence_lines = behind.lines

    pub sequence_head_is : sequence_head b.of ≡ sequence_head s
    sequence_head_is = ap sequence_head far.of_is

    pub sequence_is_claim : (earlier : ℕ) → length rs ≡ suc earlier → AreNumbers earlier (length (modules_of rs)) (length (maps_of rs)) (sequence_head s)
        → IsSequenceBlock h rs b.of.left b.of.middle b.of.right b.of.f b.of.g b.of.resolution b.of.local b.phi b.left.matrices b.middle.matrices
    sequence_is_claim earlier long are =
        let V = vertex_count h.quiver in
        let fits = far.fits.presentation in
        subst (λ (x : Sequence). IsSequenceBlock h rs x.left x.middle x.right x.f x.g x.resolution x.local b.phi b.left.matrices b.middle.matrices) (sym far.of_is) record {
          first = record { is_module = are.0; is_map = are.3 };
          second = record { is_module = are.1; is_map = are.4 };
          ends = are.2;
          presentation = record {
            resolution = record { named = record { from = are.5.from; earlier = (let to = are.5.to in omega (arith, long, to)) }; length = fits.of_length };
            small = fits.small;
          };
          named = record { from = are.6.from; earlier = (let to = are.6.to in omega (arith, long, to)) };
          is_local = far.fits.is_local;
          functional = subst (λ n. IsRow h.field n b.phi) (ap functional_width far.counts_are ∙ width_is h rs s) behind.functional;
          left_shape = shape_to h rs s (module_dims h rs s.left) (dual h rs s) (dim_of h (module_of rs s.left)) (dual_dim h rs s.resolution 1) b.left.matrices (own_long h rs s.left) (own_at h rs s.left)
              (dual_at h rs s.resolution fits) (read_whole h h.field (module_dims h rs s.left) (dual h rs s) b.left (at_vertices h b.left.matrices) far.left behind.whole);
          middle_shape = shape_to h rs s (module_dims h rs s.middle) (beside h rs s) (dim_of h (module_of rs s.middle)) (λ w. dual_dim h rs s.resolution 1 w + dim_of h (module_of rs s.right) w) b.middle.matrices
              (own_long h rs s.middle) (own_at h rs s.middle) (beside_at h rs s fits) (read_whole h h.field (module_dims h rs s.middle) (beside h rs s) b.middle (at_vertices h b.middle.matrices) far.middle whole.1);
        }

-- ---- a claim is read

module _ (h : Header) (rs : List Record) (s : Sequence) (phi : List ℕ) (left middle : List PlainMatrix) where
  -- the block of a whole claim
  abbrev pub whole_sequence : SequenceBlock
  whole_sequence = record {
    of = s;
    place = place.MiddleMatrices;
    counts = counts h rs s;
    phi = phi;
    left = holding h h.field (module_dims h rs s.left) (dual h rs s) left;
    middle = holding h h.field (module_dims h rs s.middle) (beside h rs s) middle;
  }

  module _ (fits : FitsSequence h rs s) (is : IsSequenceBlock h rs s.left s.middle s.right s.f s.g s.resolution s.local phi left middle) where
    left_are : AreMatrices h.field (length (module_dims h rs s.left)) (slice_index (module_dims h rs s.left)) (slice_index (dual h rs s)) left
    left_are =
        shape_back h rs s (module_dims h rs s.left) (dual h rs s) (dim_of h (module_of rs s.left)) (dual_dim h rs s.resolution 1) left (own_long h rs s.left) (own_at h rs s.left)
        (dual_at h rs s.resolution fits.presentation) is.left_shape

    middle_are : AreMatrices h.field (length (module_dims h rs s.middle)) (slice_index (module_dims h rs s.middle)) (slice_index (beside h rs s)) middle
    middle_are =
        shape_back h rs s (module_dims h rs s.middle) (beside h rs s) (dim_of h (module_of rs s.middle)) (λ w. dual_dim h rs s.resolution 1 w + dim_of h (module_of rs s.right) w) middle (own_long h rs s.middle)
        (own_at h rs s.middle) (beside_at h rs s fits.presentation) is.middle_shape

    row : IsRow h.field (functional_width (counts h rs s)) phi
    row = subst (λ n. IsRow h.field n phi) (sym (width_is h rs s)) is.functional

    abbrev b : SequenceBlock
    b = sequence_block h rs s

    -- among the matrices of the left end, and among those of the middle
    abbrev among_left : PartMatrices → SequenceBlock
    among_left m = record b { place = place.LeftMatrices; phi = phi; left = m }

    abbrev among_middle : PartMatrices → SequenceBlock
    among_middle m = record whole_sequence { middle = m }

    lefts : Leads (SequenceStep h) (among_left b.left) (at_vertices h left) (among_left whole_sequence.left)
    lefts =
        leads_within (MatrixStep h) (SequenceStep h) among_left (λ p q l t. inl (takes_within (FitsMatrix h p) (next_line h p) (with_matrix p) among_left l q t)) b.left whole_sequence.left (at_vertices h left)
        (matrices_read h h.field (module_dims h rs s.left) (dual h rs s) (let e = own_long h rs s.left in omega (arith, e)) left left_are)

    middles : Leads (SequenceStep h) (among_middle b.middle) (at_vertices h middle) whole_sequence
    middles =
        leads_within (MatrixStep h) (SequenceStep h) among_middle (λ p q l t. takes_within (FitsMatrix h p) (next_line h p) (with_matrix p) among_middle l q t) b.middle whole_sequence.middle (at_vertices h middle)
        (matrices_read h h.field (module_dims h rs s.middle) (beside h rs s) (let e = own_long h rs s.middle in omega (arith, e)) middle middle_are)

    middle_read : Leads (SequenceStep h) (among_left whole_sequence.left) (middle_line ∷ at_vertices h middle) whole_sequence
    middle_read = (
      among_middle b.middle,
      inr (takes_own (λ (u : ⊤). IsWholeMatrices whole_sequence.left) (λ u. middle_line) (λ u. behind_middle (among_left whole_sequence.left)) tt left_are.counted (one_middle (among_left whole_sequence.left))),
      middles,
    )

    pub sequence_read : Leads (SequenceStep h) (sequence_block h rs s) (claim_block h (sequence_claim whole_sequence)) whole_sequence
    sequence_read = (
      with_phi b phi,
      takes_own (IsRow h.field (functional_width b.counts)) phi_line (with_phi b) phi row (one_phi h b),
      (
        among_left b.left,
        takes_own (λ (u : ⊤). ⊤) (λ u. left_line) (λ u. behind_left (with_phi b phi)) tt tt one_left,
        leads_append (SequenceStep h) (among_left b.left) (among_left whole_sequence.left) whole_sequence (at_vertices h left) (middle_line ∷ at_vertices h middle) lefts middle_read,
      ),
    )

    pub sequence_whole : IsWholeSequence whole_sequence
    sequence_whole = (refl, middle_are.counted)

-- ---- one line leads to one block, or to none

module _ (h : Header) (b : SequenceBlock) where
  not_both : {P : Type 0} (m : PlainMatrix) → FitsMatrix h b.left m → IsWholeMatrices b.left → P
  not_both m fits whole = let l = fits.left in absurd (omega (arith, l, whole))

  one_at : (p : SequencePlace) (q r : SequenceBlock) (ts : List (List ℕ)) → SequenceStepAt p h b ts q → SequenceStepAt p h b ts r → q ≡ r
  one_at place.Functional q r ts t u = takes_one (IsRow h.field (functional_width b.counts)) phi_line (with_phi b) ts q r t u
  one_at place.Left q r ts t u = takes_one (λ (v : ⊤). ⊤) (λ v. left_line) (λ v. behind_left b) ts q r t u
  one_at place.LeftMatrices q r ts (inl t) (inl u) = takes_one (FitsMatrix h b.left) (next_line h b.left) (λ m. record b { left = with_matrix b.left m }) ts q r t u
  one_at place.LeftMatrices q r ts (inl t) (inr u) = not_both t.item t.fits u.fits
  one_at place.LeftMatrices q r ts (inr t) (inl u) = not_both u.item u.fits t.fits
  one_at place.LeftMatrices q r ts (inr t) (inr u) = takes_one (λ (v : ⊤). IsWholeMatrices b.left) (λ v. middle_line) (λ v. behind_middle b) ts q r t u
  one_at place.MiddleMatrices q r ts t u = takes_one (FitsMatrix h b.middle) (next_line h b.middle) (λ m. record b { middle = with_matrix b.middle m }) ts q r t u

  pub sequence_one : (q r : SequenceBlock) (ts : List (List ℕ)) → SequenceStep h b ts q → SequenceStep h b ts r → q ≡ r
  sequence_one q r ts t u = one_at b.place q r ts t u

  left_goes : (ts : List (List ℕ)) → Goes (LeftMatrixStep h b ts)
  left_goes ts = takes_go (FitsMatrix h b.left) (next_line h b.left) (λ m. record b { left = with_matrix b.left m }) ts (one_matrix h b.left) (matrix_found h b.left ts)

  middle_goes : (ts : List (List ℕ)) → Goes (MiddleStep b ts)
  middle_goes ts =
      takes_go (λ (u : ⊤). IsWholeMatrices b.left) (λ u. middle_line) (λ u. behind_middle b) ts (one_middle b)
      (like (λ d. (tt, (d.0, d.1))) (λ x. (x.1.0, x.1.1)) (both (cases_eq (length b.left.matrices) (length b.left.rows)) (same_tokens ts middle_line)))

  either_goes : (ts : List (List ℕ)) → Goes (LeftMatrixStep h b ts) → Goes (MiddleStep b ts) → Goes (SequenceStepAt place.LeftMatrices h b ts)
  either_goes ts (inl go) other = inl (go.0, inl go.1)
  either_goes ts (inr none) (inl go) = inl (go.0, inr go.1)
  either_goes ts (inr none) (inr neither) = inr (λ q t. elim t [
    | inl u ↦ none q u
    | inr u ↦ neither q u
  ])

  go_at : (p : SequencePlace) (ts : List (List ℕ)) → Goes (SequenceStepAt p h b ts)
  go_at place.Functional ts =
      takes_go (IsRow h.field (functional_width b.counts)) phi_line (with_phi b) ts (one_phi h b)
      (like (λ x. (x.0, (x.1, x.2))) (λ x. (x.0, x.1.0, x.1.1)) (phi_decided h.field (functional_width b.counts) ts))
  go_at place.Left ts = takes_go (λ (u : ⊤). ⊤) (λ u. left_line) (λ u. behind_left b) ts one_left (like (λ e. (tt, (tt, e))) (λ x. x.1.1) (same_tokens ts left_line))
  go_at place.LeftMatrices ts = either_goes ts (left_goes ts) (middle_goes ts)
  go_at place.MiddleMatrices ts = takes_go (FitsMatrix h b.middle) (next_line h b.middle) (λ m. record b { middle = with_matrix b.middle m }) ts (one_matrix h b.middle) (matrix_found h b.middle ts)

  pub sequence_go : (ts : List (List ℕ)) → Goes (SequenceStep h b ts)
  sequence_go ts = go_at b.place ts

  -- no line follows a whole block
  pub sequence_stops : (next : SequenceBlock) (ts : List (List ℕ)) → IsWholeSequence b → SequenceStep h b ts next → ⊥
  sequence_stops next ts whole t =
      let at : MiddleMatrixStep h b ts next = subst (λ p. SequenceStepAt p h b ts next) whole.0 t in
      let l = at.fits.left in
      let e = whole.1 in
      absurd (omega (arith, l, e))

some_tokens : (t : List ℕ) (ts : List (List ℕ)) → t ∷ ts ≡ [] → ⊥
some_tokens t ts e = cc

module _ (h : Header) (named : IsNamed h.quiver) (c : ℕ) (outside : StandsOutside c) where
  clear_at : (p : SequencePlace) (b next : SequenceBlock) (ts : List (List ℕ)) → SequenceStepAt p h b ts next → ClearLine c ts
  clear_at place.Functional b next ts t =
      subst (ClearLine c) (sym t.spelled) record { some = λ e. some_tokens _ _ e; lacks = phi_clear c outside h.field (functional_width b.counts) t.item t.fits }
  clear_at place.Left b next ts t = subst (ClearLine c) (sym t.spelled) record { some = λ e. some_tokens _ _ e; lacks = left_clear c outside }
  clear_at place.LeftMatrices b next ts (inl t) = subst (ClearLine c) (sym t.spelled) (matrix_clear c outside h named b.left t.item t.fits)
  clear_at place.LeftMatrices b next ts (inr t) = subst (ClearLine c) (sym t.spelled) record { some = λ e. some_tokens _ _ e; lacks = middle_clear c outside }
  clear_at place.MiddleMatrices b next ts t = subst (ClearLine c) (sym t.spelled) (matrix_clear c outside h named b.middle t.item t.fits)

  pub sequence_clear : (b next : SequenceBlock) (ts : List (List ℕ)) → SequenceStep h b ts next → ClearLine c ts
  sequence_clear b next ts t = clear_at b.place b next ts t
