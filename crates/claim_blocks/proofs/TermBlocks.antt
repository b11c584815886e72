-- The lines of a claim that terms are a minimal projective resolution: what was read is the claim, and the claim is read.
use Rattle.std.proofs.Common.{◌≡◌, ◌≢◌, ℕ, suc, ◌+◌, ◌<◌, ◌≤◌, ◌^◌, true, false, List, [], ◌∷◌, ◌++◌, length, map, cond, lt-ltb, le-ltb, inl, inr, refl, sym, ap, ◌∙◌, subst, arith, append_assoc, append-nil, lit<}
use Rattle.std.specs.Prelude.{slice_index, slice_index_or, ◌==◌}
use Rattle.std.proofs.lemmas.Bool.{cases_lt}
use Rattle.std.proofs.lemmas.Bool.Decides.{eqb_tells}
use Rattle.std.proofs.lemmas.List.{length-append, get_or_append_left, get_or_push, map-append}
use Rattle.std.proofs.lemmas.List.Elements.{All-get_or, All-from_get_or}
use Rattle.quiver_paths.proofs.ListLemmas.{length-pushed}
use Rattle.linear_algebra.specs.BlockFamilies.{total}
use Rattle.linear_algebra.specs.Rows.{IsRow}
use Rattle.linear_algebra.proofs.Rows.{get_or-list_of}
use Rattle.quiver_paths.specs.declared.Path.{Path}
use Rattle.quiver_paths.specs.Quiver.{vertex_count}
use Rattle.bound_algebra.specs.TypedPaths.{quiver_of}
use Rattle.path_algebra.specs.declared.Header.{Header}
use Rattle.module_types.specs.declared.Module.{Module}
use Rattle.module_types.specs.declared.Side.{Side}
use Rattle.module_types.specs.declared.TermRows.{TermRows}
use Rattle.module_types.specs.Shapes.{IsTerm}
use Rattle.header_text.specs.Named.{IsNamed}
use Rattle.claim_conditions.specs.Terms.{term_at}
use Rattle.report_types.specs.declared.claims.Claim.TheVariants as claim
use Rattle.report_types.specs.declared.claims.Record.{Record}
use Rattle.report_types.specs.ClaimBlocks.{IsResolutionBlock}
use Rattle.report_types.specs.Limits.{term_limit, resolution_limit}
use Rattle.report_types.specs.Numbers.{module_of, modules_of, maps_of}
use Rattle.report_types.specs.WordDimensions.{dim_of, printed_words, projective_dim}
use Rattle.object_lines.specs.Items.{FitsTerm}
use Rattle.object_lines.specs.Reading.{IsVertex}
use Rattle.object_lines.specs.Spelling.{gen_line, term_line}
use Rattle.object_lines.proofs.ClearLines.{StandsOutside, term_clear, gen_clear}
use Rattle.object_lines.proofs.DecidedLines.{term_decided, gen_decided}
use Rattle.object_lines.proofs.OneLine.{term_one, gen_one}
use Rattle.text_lines.proofs.Readings.{Goes}
use Rattle.deciding.proofs.Deciding.{like, both, three, at_most, below}
use Rattle.claim_lines.specs.declared.heads.Head.TheVariants as head
use Rattle.claim_lines.proofs.Clear.{ClearLine}
use Rattle.claim_lines.specs.Items.{AreNumbers}
use Rattle.claim_blocks.specs.declared.term_block.TermPlace.{TermPlace}
use Rattle.claim_blocks.specs.declared.term_block.TermPlace.TheVariants as place
use Rattle.claim_blocks.specs.declared.term_block.TermBlock.{TermBlock}
use Rattle.claim_blocks.specs.Counts.{WordTable, table_dims, table_dimension}
use Rattle.claim_blocks.specs.Leading.{Leads}
use Rattle.claim_blocks.specs.Spelling.{term_block as term_block_lines, term_lines, claim_block}
use Rattle.claim_blocks.specs.Taking.{Takes}
use Rattle.claim_blocks.specs.TermBlocks.{FitsResolution, module_dims, printed_table, term_block, term_place, closed_term, settled, FitsVertices, with_vertices, image_width, FitsImage, with_image, TermStepAt, TermStep, IsWholeTerms, terms_claim}
use Rattle.claim_blocks.specs.TermChains.{IsNextTerm, AreNextTerms, last_dim}
use Rattle.claim_blocks.proofs.Leading.{leads_append}
use Rattle.claim_blocks.proofs.Narrowing.{narrowed}
use Rattle.claim_blocks.proofs.TakenLines.{takes_own, takes_one, takes_go}
use Rattle.claim_blocks.proofs.TermChains.{chain_from, chain_at, chain_push, last_push, before_is, order_push}
use Rattle.claim_blocks.proofs.TermReading.{one_vertices, one_image}
use Rattle.claim_blocks.proofs.WordTables.{table_dims-at, table_dimension-is}

abbrev pub Lines : Type 0
Lines = List (List (List ℕ))

lines_image : (front : Lines) (line : List (List ℕ)) (images : List (List ℕ)) (row : List ℕ) (ls : Lines) → ls ≡ front ++ (line ∷ map gen_line images)
    → ls ++ gen_line row ∷ [] ≡ front ++ (line ∷ map gen_line (images ++ row ∷ []))
lines_image front line images row ls e =
    ap (λ l. l ++ gen_line row ∷ []) e
    ∙ (append_assoc front (line ∷ map gen_line images) (gen_line row ∷ []) ∙ ap (λ l. front ++ (line ∷ l)) (sym (map-append gen_line images (row ∷ []))))

module _ (h : Header) (rs : List Record) (a n : ℕ) where
  abbrev words : List Path
  words = printed_words rs

  abbrev subject_module : Module
  subject_module = module_of rs a

  abbrev side : Side
  side = subject_module.side

  abbrev vertices_in : ℕ
  vertices_in = vertex_count h.quiver

  -- what the term behind some terms goes to
  abbrev dim_behind : List TermRows → ℕ → ℕ
  dim_behind terms = last_dim h.field (quiver_of h.quiver) words side (dim_of h subject_module) terms

  abbrev AreWhole : List TermRows → Type 0
  AreWhole terms = AreNextTerms h.field (quiver_of h.quiver) words side (dim_of h subject_module) terms

  -- a list has these dimensions at the vertices
  abbrev AreDims : List ℕ → (ℕ → ℕ) → Type 0
  AreDims dims dim = (v : ℕ) → v < vertices_in → slice_index dims v ≡ dim v

  -- ---- what was read

  -- before the generators of a term
  pub record BeforeTerm (b : TermBlock) (ls : Lines) : Type 0 where
    pub left : length b.terms ≤ n
    pub reached : AreDims b.reached (dim_behind b.terms)
    pub lines : ls ≡ term_lines h.quiver 0 b.terms

  -- the term that is read, with some of its rows
  pub record OpenTerm (b : TermBlock) (ls : Lines) : Type 0 where
    pub left : length b.terms ≤ n
    pub covered : AreDims b.covered (dim_behind b.terms)
    pub reached : AreDims b.reached (projective_dim words side b.vertices)
    pub few : length b.vertices < 2 ^ 32
    pub small : total vertices_in (projective_dim words side b.vertices) ≤ term_limit
    pub declared : (j : ℕ) → j < length b.vertices → slice_index b.vertices j < vertices_in
    pub rows : length b.images ≤ length b.vertices
    pub each : (j : ℕ) → j < length b.images → IsRow h.field (dim_behind b.terms (slice_index b.vertices j)) (slice_index_or b.images j [])
    pub lines : ls ≡ term_lines h.quiver 0 b.terms ++ term_block_lines h.quiver (length b.terms) record { vertices = b.vertices; images = b.images }

  pub record AmongImages (b : TermBlock) (ls : Lines) : Type 0 where
    pub term : OpenTerm b ls
    pub due : length b.images < length b.vertices

  pub record BehindTerms (b : TermBlock) (ls : Lines) : Type 0 where
    pub counted : length b.terms ≡ suc n
    pub lines : ls ≡ term_lines h.quiver 0 b.terms

  abbrev pub TermAt : TermPlace → TermBlock → Lines → Type 0
  TermAt place.Term b ls = BeforeTerm b ls
  TermAt place.Image b ls = AmongImages b ls
  TermAt place.Whole b ls = BehindTerms b ls

  -- the block behind these lines
  pub record IsTermsSoFar (b : TermBlock) (ls : Lines) : Type 0 where
    pub short : FitsResolution n
    pub subject : b.subject ≡ a
    pub last : b.last ≡ n
    pub table : b.table ≡ printed_table h rs side
    pub are : AreWhole b.terms
    pub at : TermAt b.place b ls

  pub terms_start : FitsResolution n → IsTermsSoFar (term_block h rs a n) []
  terms_start short = record {
    short = short;
    subject = refl;
    last = refl;
    table = refl;
    are = tt;
    at = record { left = omega arith; reached = λ v l. get_or-list_of vertices_in (dim_of h subject_module) v 0 l; lines = refl };
  }

  -- ---- a term is closed

  whole_term : (b : TermBlock) (ls : Lines) → OpenTerm b ls → length b.images ≡ length b.vertices → IsNextTerm h.field (quiver_of h.quiver) words side (dim_behind b.terms) record { vertices = b.vertices; images = b.images }
  whole_term b ls o e = record {
    few = o.few;
    term = record { counted = e; declared = o.declared; each = λ j l. o.each j (omega (arith, l, e)) };
    small = o.small;
  }

  place_at : (b : TermBlock) (ls : Lines) (terms : List TermRows) (k : ℕ) → k ≡ length terms → b.last ≡ n → k ≤ suc n → AreDims b.reached (dim_behind terms) → ls ≡ term_lines h.quiver 0 terms
      → TermAt (term_place b.last k) (record b { place = term_place b.last k; terms = terms; vertices = []; images = [] }) ls
  place_at b ls terms k e last l reached lines = elim (cases_lt b.last k) [
    | inl past ↦
        subst (λ c. TermAt (cond c place.Whole place.Term) (record b { place = cond c place.Whole place.Term; terms = terms; vertices = []; images = [] }) ls) (sym (lt-ltb b.last k past))
        record { counted = omega (arith, e, l, last, past); lines = lines }
    | inr before ↦
        subst (λ c. TermAt (cond c place.Whole place.Term) (record b { place = cond c place.Whole place.Term; terms = terms; vertices = []; images = [] }) ls) (sym (le-ltb b.last k (omega (arith, before))))
        record { left = omega (arith, e, last, before); reached = reached; lines = lines }
  ]

  closed : (b : TermBlock) (ls : Lines) → FitsResolution n → b.subject ≡ a → b.last ≡ n → b.table ≡ printed_table h rs side → AreWhole b.terms → OpenTerm b ls → length b.images ≡ length b.vertices → IsTermsSoFar (closed_term b) ls
  closed b ls short subject last table are o e =
      let t : TermRows = record { vertices = b.vertices; images = b.images } in
      let long : length (b.terms ++ t ∷ []) ≡ length b.terms + 1 = length-pushed b.terms (b.terms ++ t ∷ []) t refl in
      let left = o.left in
      record {
        short = short;
        subject = subject;
        last = last;
        table = table;
        are = chain_push h.field (quiver_of h.quiver) words side (dim_of h subject_module) b.terms t are (whole_term b ls o e);
        at = place_at b ls (b.terms ++ t ∷ []) (length b.terms + 1) (sym long) last (omega (arith, left))
            (subst (AreDims b.reached) (sym (last_push h.field (quiver_of h.quiver) words side (dim_of h subject_module) b.terms t)) o.reached)
            (o.lines ∙ (ap (λ k. term_lines h.quiver 0 b.terms ++ term_block_lines h.quiver k t) (omega arith) ∙ sym (order_push (term_block_lines h.quiver) 0 b.terms t)));
      }

  placed : (b : TermBlock) (ls : Lines) → OpenTerm b ls → OpenTerm (record b { place = place.Image }) ls
  placed b ls o = record {
    left = o.left;
    covered = o.covered;
    reached = o.reached;
    few = o.few;
    small = o.small;
    declared = o.declared;
    rows = o.rows;
    each = o.each;
    lines = o.lines;
  }

  settle : (b : TermBlock) (ls : Lines) → FitsResolution n → b.subject ≡ a → b.last ≡ n → b.table ≡ printed_table h rs side → AreWhole b.terms → OpenTerm b ls → IsTermsSoFar (settled b) ls
  settle b ls short subject last table are o = elim (eqb_tells (length b.images) (length b.vertices)) [
    | inl same ↦ subst (λ c. IsTermsSoFar (cond c (closed_term b) (record b { place = place.Image })) ls) (sym same.0) (closed b ls short subject last table are o same.1)
    | inr differs ↦
        subst (λ c. IsTermsSoFar (cond c (closed_term b) (record b { place = place.Image })) ls) (sym differs.0) record {
          short = short;
          subject = subject;
          last = last;
          table = table;
          are = are;
          at = record { term = placed b ls o; due = (let r = o.rows in let d = differs.1 in omega (arith, r, d)) };
        }
  ]

  vertices_next : (b : TermBlock) (vertices : List ℕ) (ls : Lines) → IsNamed h.quiver → IsTermsSoFar b ls → BeforeTerm b ls → FitsVertices h b vertices → IsTermsSoFar (with_vertices b vertices) (ls ++ term_line h.quiver (length b.terms) vertices ∷ [])
  vertices_next b vertices ls named far before fits =
      let V = vertices_in in
      let declared : (j : ℕ) → j < length vertices → slice_index vertices j < V = (λ j l. All-get_or (IsVertex h.quiver) vertices j 0 l fits.term.places) in
      let small : (j : ℕ) → j < length vertices → slice_index vertices j < 256 = (λ j l. let d = declared j l in let few = named.vertices_limit in omega (arith, d, few)) in
      settle (record b { covered = b.reached; reached = table_dims b.table vertices; vertices = vertices; images = [] }) (ls ++ term_line h.quiver (length b.terms) vertices ∷ []) far.short far.subject far.last far.table far.are record {
        left = before.left;
        covered = before.reached;
        reached = λ v l. ap (λ (t : WordTable). slice_index (table_dims t vertices) v) far.table ∙ table_dims-at words side V vertices small v l;
        few = fits.few;
        small = subst (λ k. k ≤ term_limit) (ap (λ (t : WordTable). table_dimension t vertices) far.table ∙ table_dimension-is words side V vertices small) fits.small;
        declared = declared;
        rows = omega arith;
        each = λ j l. absurd (omega (arith, l));
        lines = ap (λ x. x ++ term_line h.quiver (length b.terms) vertices ∷ []) before.lines;
      }

  image_next : (b : TermBlock) (row : List ℕ) (ls : Lines) → IsTermsSoFar b ls → AmongImages b ls → FitsImage h b row → IsTermsSoFar (with_image b row) (ls ++ gen_line row ∷ [])
  image_next b row ls far among fits =
      let o = among.term in
      let due = among.due in
      let i = length b.images in
      let long : length (b.images ++ row ∷ []) ≡ i + 1 = length-pushed b.images (b.images ++ row ∷ []) row refl in
      let dim : slice_index b.covered (slice_index b.vertices i) ≡ dim_behind b.terms (slice_index b.vertices i) = o.covered (slice_index b.vertices i) (o.declared i due) in
      let is_row : IsRow h.field (dim_behind b.terms (slice_index b.vertices i)) row = subst (λ k. IsRow h.field k row) dim fits.is_row in
      settle (record b { images = b.images ++ row ∷ [] }) (ls ++ gen_line row ∷ []) far.short far.subject far.last far.table far.are record {
        left = o.left;
        covered = o.covered;
        reached = o.reached;
        few = o.few;
        small = o.small;
        declared = o.declared;
        rows = omega (arith, long, due);
        each = λ j l. elim (cases_lt j i) [
          | inl inside ↦ subst (IsRow h.field (dim_behind b.terms (slice_index b.vertices j))) (sym (get_or_append_left b.images (row ∷ []) [] j inside)) (o.each j inside)
          | inr past ↦
              let e : i ≡ j = omega (arith, past, l, long) in
              subst (IsRow h.field (dim_behind b.terms (slice_index b.vertices j))) (sym (get_or_push b.images row [] j e)) (subst (λ k. IsRow h.field (dim_behind b.terms (slice_index b.vertices k)) row) e is_row)
        ];
        lines = lines_image (term_lines h.quiver 0 b.terms) (term_line h.quiver (length b.terms) b.vertices) b.images row ls o.lines;
      }

  -- a line more is that of its item
  by_item : {X : Type 0} (Fits : X → Type 0) (spell : X → List (List ℕ)) (with : X → TermBlock) (ts : List (List ℕ)) (ls : Lines) (next : TermBlock) → Takes Fits spell with ts next
      → ((x : X) → Fits x → IsTermsSoFar (with x) (ls ++ spell x ∷ [])) → IsTermsSoFar next (ls ++ ts ∷ [])
  by_item Fits spell with ts ls next t each =
      subst (λ b. IsTermsSoFar b (ls ++ ts ∷ [])) (sym t.leads) (subst (λ l. IsTermsSoFar (with t.item) (ls ++ l ∷ [])) (sym t.spelled) (each t.item t.fits))

  next_at : (s : TermPlace) (b next : TermBlock) (ts : List (List ℕ)) (ls : Lines) → IsNamed h.quiver → b.place ≡ s → IsTermsSoFar b ls → TermStepAt s h b ts next → IsTermsSoFar next (ls ++ ts ∷ [])
  next_at place.Term b next ts ls named e far t =
      by_item (FitsVertices h b) (term_line h.quiver (length b.terms)) (with_vertices b) ts ls next t (λ x fits. vertices_next b x ls named far (subst (λ s. TermAt s b ls) e far.at) fits)
  next_at place.Image b next ts ls named e far t = by_item (FitsImage h b) gen_line (with_image b) ts ls next t (λ x fits. image_next b x ls far (subst (λ s. TermAt s b ls) e far.at) fits)
  next_at place.Whole b next ts ls named e far t = absurd t

  pub terms_next : (b next : TermBlock) (ts : List (List ℕ)) (ls : Lines) → IsNamed h.quiver → IsTermsSoFar b ls → TermStep h b ts next → IsTermsSoFar next (ls ++ ts ∷ [])
  terms_next b next ts ls named far t = next_at b.place b next ts ls named refl far t

  -- ---- the block of a whole claim

  module _ (b : TermBlock) (ls : Lines) (far : IsTermsSoFar b ls) (whole : IsWholeTerms b) where
    behind : BehindTerms b ls
    behind = subst (λ s. TermAt s b ls) whole far.at

    pub terms_lines : ls ≡ claim_block h (terms_claim b)
    terms_lines = behind.lines

    pub terms_head_is : head.Resolution b.subject b.last ≡ head.Resolution a n
    terms_head_is = λ i. head.Resolution (far.subject i) (far.last i)

    pub terms_is_claim : (earlier : ℕ) → AreNumbers earlier (length (modules_of rs)) (length (maps_of rs)) (head.Resolution a n) → IsResolutionBlock h rs b.subject b.last b.terms
    terms_is_claim earlier are =
        let Q = quiver_of h.quiver in
        let each = chain_at h.field Q words side (dim_of h subject_module) b.terms far.are in
        let count = behind.counted in
        subst (λ x. IsResolutionBlock h rs x b.last b.terms) (sym far.subject) (subst (λ x. IsResolutionBlock h rs a x b.terms) (sym far.last) record {
          named = are.0;
          short = far.short;
          counted = behind.counted;
          few = λ k l. (each k (omega (arith, l, count))).few;
          each = λ k l. subst (λ d. IsTerm h.field Q d (term_at b.terms k)) (before_is words h subject_module h.field Q b.terms k) (each k (omega (arith, l, count))).term;
          small = λ k l. (each k (omega (arith, l, count))).small;
        })

-- ---- a claim is read

-- the block behind some whole terms
abbrev pub terms_at : Header → List Record → (a n : ℕ) → (covered reached : List ℕ) → List TermRows → TermBlock
terms_at h rs a n covered reached terms = record {
  subject = a;
  last = n;
  place = term_place n (length terms);
  table = printed_table h rs (module_of rs a).side;
  covered = covered;
  reached = reached;
  terms = terms;
  vertices = [];
  images = [];
}

module _ (h : Header) (named : IsNamed h.quiver) where
  -- rows one behind the other
  images_read : (b : TermBlock) (done todo : List (List ℕ)) → length (done ++ todo) ≡ length b.vertices
      → ((j : ℕ) (row : List ℕ) → length done ≤ j → j < length b.vertices → row ≡ slice_index_or (done ++ todo) j [] → IsRow h.field (slice_index b.covered (slice_index b.vertices j)) row)
      → Leads (TermStep h) (settled (record b { images = done })) (map gen_line todo) (settled (record b { images = done ++ todo }))
  images_read b done [] long each = ap (λ l. settled (record b { images = l })) (append-nil done)
  images_read b done (row ∷ rest) long each =
      let longer : length (done ++ row ∷ rest) ≡ length done + suc (length rest) = length-append done (row ∷ rest) in
      let less : length done < length b.vertices = omega (arith, long, longer) in
      let before : TermBlock = record b { place = place.Image; images = done } in
      let is : settled (record b { images = done }) ≡ before = ap (λ c. cond c (closed_term (record b { images = done })) before) (not_same (length done) (length b.vertices) (λ e. omega (arith, e, less))) in
      let same = append_assoc done (row ∷ []) rest in
      let fits : FitsImage h before row = record {
        left = less;
        is_row = each (length done) row (omega arith) less (sym (get_or-append-here done row rest));
      } in
      subst (λ p. Leads (TermStep h) p (map gen_line (row ∷ rest)) (settled (record b { images = done ++ row ∷ rest }))) (sym is) (
        settled (record b { images = done ++ row ∷ [] }),
        takes_own (FitsImage h before) gen_line (with_image before) row fits (one_image h before),
        subst (λ l. Leads (TermStep h) (settled (record b { images = done ++ row ∷ [] })) (map gen_line rest) (settled (record b { images = l }))) same
            (images_read b (done ++ row ∷ []) rest (ap length same ∙ long)
            (λ j r l k e. each j r (let o = length-append done (row ∷ []) in omega (arith, l, o)) k (e ∙ ap (λ xs. slice_index_or xs j []) same))),
      )
    where
      not_same : (m n : ℕ) → m ≢ n → (m == n) ≡ false
      not_same m n differs = elim (eqb_tells m n) [
        | inl e ↦ absurd (differs e.1)
        | inr e ↦ e.0
      ]

      get_or-append-here : (xs : List (List ℕ)) (x : List ℕ) (rest : List (List ℕ)) → slice_index_or (xs ++ x ∷ rest) (length xs) [] ≡ x
      get_or-append-here [] x rest = refl
      get_or-append-here (y ∷ xs) x rest = get_or-append-here xs x rest

  -- one term more
  term_read : (rs : List Record) (a n : ℕ) (covered reached : List ℕ) (terms : List TermRows) (t : TermRows) → length terms ≤ n → length terms ≤ resolution_limit → IsNextTerm h.field (quiver_of h.quiver) (printed_words rs) (module_of rs a).side (dim_behind h rs a n terms) t
      → ((v : ℕ) → v < vertex_count h.quiver → slice_index reached v ≡ dim_behind h rs a n terms v)
      → Leads (TermStep h) (terms_at h rs a n covered reached terms) (term_block_lines h.quiver (length terms) t) (terms_at h rs a n reached (table_dims (printed_table h rs (module_of rs a).side) t.vertices) (terms ++ t ∷ []))
  term_read rs a n covered reached terms t left short is are =
      let side = (module_of rs a).side in
      let words = printed_words rs in
      let V = vertex_count h.quiver in
      let vs = t.vertices in
      let table = printed_table h rs side in
      let before : TermBlock = record (terms_at h rs a n covered reached terms) { place = place.Term } in
      let opened : TermBlock = record before { covered = reached; reached = table_dims table vs; vertices = vs; images = [] } in
      let small : (j : ℕ) → j < length vs → slice_index vs j < 256 = (λ j l. let d = is.term.declared j l in let few = named.vertices_limit in omega (arith, d, few)) in
      let fits : FitsVertices h before vs = record {
        left = left;
        short = short;
        term = record { few = (let f = is.few in omega (arith, f)); places = All-from_get_or (IsVertex h.quiver) vs 0 is.term.declared };
        few = is.few;
        small = subst (λ k. k ≤ term_limit) (sym (table_dimension-is words side V vs small)) is.small;
      } in
      let start : terms_at h rs a n covered reached terms ≡ before = ap (λ s. record before { place = s }) (ap (λ c. cond c place.Whole place.Term) (le-ltb n (length terms) left)) in
      let last : settled (record opened { images = t.images }) ≡ terms_at h rs a n reached (table_dims table vs) (terms ++ t ∷ []) =
      ap (λ c. cond c (closed_term (record opened { images = t.images })) (record opened { place = place.Image; images = t.images })) (same_count (length t.images) (length vs) is.term.counted)
      ∙ ap (λ k. record (terms_at h rs a n reached (table_dims table vs) (terms ++ t ∷ [])) { place = term_place n k }) (sym (length-pushed terms (terms ++ t ∷ []) t refl)) in
      subst (λ p. Leads (TermStep h) p (term_block_lines h.quiver (length terms) t) (terms_at h rs a n reached (table_dims table vs) (terms ++ t ∷ []))) (sym start) (
        settled opened,
        takes_own (FitsVertices h before) (term_line h.quiver (length terms)) (with_vertices before) vs fits (one_vertices h before named),
        subst (Leads (TermStep h) (settled opened) (map gen_line t.images)) last
            (images_read opened [] t.images is.term.counted
            (λ j row l k e. subst (IsRow h.field (slice_index reached (slice_index vs j))) (sym e) (subst (λ w. IsRow h.field w (slice_index_or t.images j [])) (sym (are (slice_index vs j) (is.term.declared j k))) (is.term.each j k)))),
      )
    where
      same_count : (m n : ℕ) → m ≡ n → (m == n) ≡ true
      same_count m n e = elim (eqb_tells m n) [
        | inl s ↦ s.0
        | inr s ↦ absurd (s.1 e)
      ]

  -- all terms that are left
  terms_left : (rs : List Record) (a n : ℕ) → n ≤ resolution_limit → (covered reached : List ℕ) (done todo : List TermRows) → length done + length todo ≡ suc n
      → AreNextTerms h.field (quiver_of h.quiver) (printed_words rs) (module_of rs a).side (dim_behind h rs a n done) todo → ((v : ℕ) → v < vertex_count h.quiver → slice_index reached v ≡ dim_behind h rs a n done v)
      → (last : List ℕ × List ℕ) × Leads (TermStep h) (terms_at h rs a n covered reached done) (term_lines h.quiver (length done) todo) (terms_at h rs a n last.0 last.1 (done ++ todo))
  terms_left rs a n short covered reached done [] long are dims = ((covered, reached), ap (terms_at h rs a n covered reached) (append-nil done))
  terms_left rs a n short covered reached done (t ∷ rest) long are dims =
      let side = (module_of rs a).side in
      let words = printed_words rs in
      let Q = quiver_of h.quiver in
      let more = done ++ t ∷ [] in
      let after = table_dims (printed_table h rs side) t.vertices in
      let longer : length more ≡ length done + 1 = length-pushed done more t refl in
      let last = last_push h.field Q words side (dim_of h (module_of rs a)) done t in
      let small : (j : ℕ) → j < length t.vertices → slice_index t.vertices j < 256 = (λ j l. let d = are.0.term.declared j l in let few = named.vertices_limit in omega (arith, d, few)) in
      let one = term_read rs a n covered reached done t (omega (arith, long)) (omega (arith, long, short)) are.0 dims in
      let left = terms_left rs a n short reached after more rest (omega (arith, long, longer)) (subst (λ d. AreNextTerms h.field Q words side d rest) (sym last) are.1)
      (λ v l. table_dims-at words side (vertex_count h.quiver) t.vertices small v l ∙ ap (λ (d : ℕ → ℕ). d v) (sym last)) in (
        left.0,
        leads_append (TermStep h) (terms_at h rs a n covered reached done) (terms_at h rs a n reached after more) (terms_at h rs a n left.0.0 left.0.1 (done ++ t ∷ rest)) (term_block_lines h.quiver (length done) t)
            (term_lines h.quiver (length done + 1) rest) one
            (subst (λ k. Leads (TermStep h) (terms_at h rs a n reached after more) (term_lines h.quiver k rest) (terms_at h rs a n left.0.0 left.0.1 (done ++ t ∷ rest))) longer
            (subst (λ ts. Leads (TermStep h) (terms_at h rs a n reached after more) (term_lines h.quiver (length more) rest) (terms_at h rs a n left.0.0 left.0.1 ts)) (append_assoc done (t ∷ []) rest) left.1)),
      )

  -- the lines of a claim lead to the block with it
  pub terms_read : (rs : List Record) (a n : ℕ) (terms : List TermRows) → IsResolutionBlock h rs a n terms
      → (b : TermBlock) × Leads (TermStep h) (term_block h rs a n) (claim_block h (claim.Resolution a n terms)) b × IsWholeTerms b × (terms_claim b ≡ claim.Resolution a n terms)
  terms_read rs a n terms is =
      let m = module_of rs a in
      let words = printed_words rs in
      let Q = quiver_of h.quiver in
      let counted = is.counted in
      let chain = chain_from h.field Q words m.side (dim_of h m) terms (λ k l. record {
        few = is.few k (omega (arith, l, counted));
        term = subst (λ d. IsTerm h.field Q d (term_at terms k)) (sym (before_is words h m h.field Q terms k)) (is.each k (omega (arith, l, counted)));
        small = is.small k (omega (arith, l, counted));
      }) in
      let left = terms_left rs a n is.short [] (module_dims h rs a) [] terms (omega (arith, counted)) chain (λ v l. get_or-list_of (vertex_count h.quiver) (dim_of h m) v 0 l) in
      let start : terms_at h rs a n [] (module_dims h rs a) [] ≡ term_block h rs a n = ap (λ s. record (term_block h rs a n) { place = s }) (ap (λ c. cond c place.Whole place.Term) (le-ltb n 0 (omega arith))) in (
        terms_at h rs a n left.0.0 left.0.1 terms,
        subst (λ p. Leads (TermStep h) p (term_lines h.quiver 0 terms) (terms_at h rs a n left.0.0 left.0.1 terms)) start left.1,
        ap (λ c. cond c place.Whole place.Term) (lt-ltb n (length terms) (omega (arith, counted))),
        refl,
      )

-- ---- one line leads to one block, or to none

module _ (h : Header) (named : IsNamed h.quiver) where
  one_at : (s : TermPlace) (b q r : TermBlock) (ts : List (List ℕ)) → TermStepAt s h b ts q → TermStepAt s h b ts r → q ≡ r
  one_at place.Term b q r ts t u = takes_one (FitsVertices h b) (term_line h.quiver (length b.terms)) (with_vertices b) ts q r t u
  one_at place.Image b q r ts t u = takes_one (FitsImage h b) gen_line (with_image b) ts q r t u
  one_at place.Whole b q r ts t u = absurd t

  pub terms_one : (b q r : TermBlock) (ts : List (List ℕ)) → TermStep h b ts q → TermStep h b ts r → q ≡ r
  terms_one b q r ts t u = one_at b.place b q r ts t u

  go_at : (s : TermPlace) (b : TermBlock) (ts : List (List ℕ)) → Goes (TermStepAt s h b ts)
  go_at place.Term b ts =
      takes_go (FitsVertices h b) (term_line h.quiver (length b.terms)) (with_vertices b) ts (one_vertices h b named)
      (narrowed (FitsTerm h) (λ vs. ((length b.terms ≤ b.last) × (length b.terms ≤ resolution_limit)) × (length vs < 2 ^ 32) × (table_dimension b.table vs ≤ term_limit)) (FitsVertices h b) (term_line h.quiver (length b.terms)) ts
      (term_one h named (length b.terms)) (λ x a g. record { left = g.0.0; short = g.0.1; term = a; few = g.1; small = g.2 }) (λ x a. (a.term, ((a.left, a.short), a.few, a.small)))
      (like (λ x. (x.0, (x.1, x.2))) (λ x. (x.0, x.1.0, x.1.1)) (term_decided h (length b.terms) ts))
      (λ vs. three (both (at_most (length b.terms) b.last) (at_most (length b.terms) resolution_limit)) (below (length vs) (2 ^ 32)) (at_most (table_dimension b.table vs) term_limit)))
  go_at place.Image b ts =
      takes_go (FitsImage h b) gen_line (with_image b) ts (one_image h b)
      (narrowed (IsRow h.field (image_width b)) (λ row. length b.images < length b.vertices) (FitsImage h b) gen_line ts (gen_one h.field (image_width b)) (λ x a g. record { left = g; is_row = a }) (λ x a. (a.is_row, a.left))
      (like (λ x. (x.0, (x.1, x.2))) (λ x. (x.0, x.1.0, x.1.1)) (gen_decided h.field (image_width b) ts)) (λ row. below (length b.images) (length b.vertices)))
  go_at place.Whole b ts = inr (λ q t. t)

  pub terms_go : (b : TermBlock) (ts : List (List ℕ)) → Goes (TermStep h b ts)
  terms_go b ts = go_at b.place b ts

  some_tokens : (t : List ℕ) (ts : List (List ℕ)) → t ∷ ts ≡ [] → ⊥
  some_tokens t ts e = cc

  module _ (c : ℕ) (outside : StandsOutside c) where
    clear_at : (s : TermPlace) (b next : TermBlock) (ts : List (List ℕ)) → TermStepAt s h b ts next → ClearLine c ts
    clear_at place.Term b next ts t =
        let short = t.fits.short in
        let big : 16 < 2 ^ 64 = lit< tt in
        subst (ClearLine c) (sym t.spelled) record { some = λ e. some_tokens _ _ e; lacks = term_clear c outside h named (length b.terms) (omega (arith, short, big)) t.item t.fits.term }
    clear_at place.Image b next ts t = subst (ClearLine c) (sym t.spelled) record { some = λ e. some_tokens _ _ e; lacks = gen_clear c outside h.field (image_width b) t.item t.fits.is_row }
    clear_at place.Whole b next ts t = absurd t

    pub terms_clear : (b next : TermBlock) (ts : List (List ℕ)) → TermStep h b ts next → ClearLine c ts
    terms_clear b next ts t = clear_at b.place b next ts t
