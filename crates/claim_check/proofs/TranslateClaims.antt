-- Claims over a named resolution: extensions, translates and transposes. What the format asks of them, over the whole report; the answers on them, and those
-- over the records up to the claim.
use Rattle.std.proofs.Common.{ℕ, suc, ◌≡◌, ◌≤◌, ◌<◌, List, length, refl, sym, ap, ◌∙◌, subst, arith}
use Rattle.std.specs.Prelude.{⊤, Option, take, slice_index_or}
use Rattle.std.proofs.lemmas.List.{take-take}
use Rattle.fp_linear.specs.Matrix.{PlainMatrix}
use Rattle.linear_algebra.specs.BlockFamilies.{total}
use Rattle.linear_algebra.proofs.BlockFamilies.{total_grows}
use Rattle.quiver_paths.specs.Quiver.{vertex_count}
use Rattle.path_algebra.specs.declared.Header.{Header}
use Rattle.bound_algebra.specs.TypedPaths.{quiver_of}
use Rattle.alg_table.specs.TableView.{TableView}
use Rattle.module_types.specs.declared.Side.{Side}
use Rattle.module_types.specs.declared.Side.TheVariants.{Right, Left}
use Rattle.module_types.specs.declared.Module.{Module}
use Rattle.module_types.specs.declared.TermRows.{TermRows}
use Rattle.module_types.specs.Algebras.{algebra_at, other_side}
use Rattle.module_types.specs.Readings.{dim_at, rep_of, read_beside}
use Rattle.module_types.specs.Shapes.{AreMatrices}
use Rattle.module_types.specs.TermCoordinates.{coordinates}
use Rattle.claim_conditions.specs.declared.Clause.{Clause}
use Rattle.claim_conditions.specs.declared.Clause.TheVariants as clause
use Rattle.claim_conditions.specs.Conditions.{IsAnswer}
use Rattle.claim_conditions.specs.Modules.{Sides}
use Rattle.claim_conditions.specs.HomConditions.{HaveOneSide}
use Rattle.claim_conditions.specs.Translates.{IsDualOf}
use Rattle.claim_conditions.specs.ExtensionConditions.{extension_conditions}
use Rattle.claim_conditions.specs.TranslateConditions.{tau_conditions, transpose_conditions, taui_conditions}
use Rattle.claim_conditions.specs.Terms.{term_at, vertices_at}
use Rattle.term_rows.specs.SumDims.{sum_dim, IsRoomFor}
use Rattle.translate_checks.specs.Room.{AreSmallAcross}
use Rattle.report_types.specs.declared.claims.Claim.{Claim}
use Rattle.report_types.specs.declared.claims.Claim.TheVariants as claim
use Rattle.report_types.specs.declared.claims.Translation.TheVariants.{Tau, Transpose, Taui}
use Rattle.report_types.specs.declared.claims.Record.{Record}
use Rattle.report_types.specs.declared.reports.Report.{Report}
use Rattle.report_types.specs.Limits.{term_limit, unknown_limit}
use Rattle.report_types.specs.Numbers.{module_of, claim_of, claim_in, NamesModule}
use Rattle.report_types.specs.NamedClaims.{HasLength, IsResolutionOf, resolved_in, terms_in}
use Rattle.report_types.specs.ClaimBlocks.{IsClaimBlock, IsResolutionBlock, NamesResolution, IsPresentation, IsExtensionBlock, IsTranslateBlock, AreRows, dual_dim, HasTranslateShape, AtVertices}
use Rattle.report_types.specs.WordDimensions.{printed_words, injective_dim, dim_of, count_at}
use Rattle.report_types.specs.declared.claims.Translation.{Translation}
use Rattle.report_types.specs.Lawful.{IsReport}
use Rattle.report_types.proofs.Fronts.{module_in_whole, claim_in_whole, record_there, named_below}
use Rattle.module_types.specs.Shapes.{HasShape}
use Rattle.linear_algebra.specs.Field.{Gf}
use Rattle.claim_check.specs.ClaimVerdicts.{IsTableOf}
use Rattle.claim_check.proofs.Named.{names_module, names_claim, record_lawful}
use Rattle.claim_check.proofs.WhatNumbersSay.{behind_first, named_swap}
use Rattle.claim_check.proofs.ByNumbers.{whole_module, whole_claim}
use Rattle.claim_check.proofs.ResolutionClaims.{same_sum, whole_words, term_room}

-- ---- over the whole report

pub named_in_whole : (h : Header) (k : ℕ) (rs : List Record) (c n : ℕ) → NamesResolution h (take k rs) c n → NamesResolution h rs c n
named_in_whole h k rs c n x = record { named = names_claim k rs c x.named; length = subst (λ z. HasLength z n) (claim_in_whole k rs c x.named) x.length }

names_more : (j k : ℕ) (rs : List Record) (n : ℕ) → j ≤ k → NamesModule (take j rs) n → NamesModule (take k rs) n
names_more j k rs n l is = names_module j (take k rs) n (subst (λ xs. NamesModule xs n) (sym (take-take j k rs l)) is)

-- a resolution names a module before it
resolved_names : (h : Header) (rs : List Record) (c : Claim) (n : ℕ) → HasLength c n → IsClaimBlock h rs c → NamesModule rs (resolved_in c)
resolved_names h rs (claim.Basis words steps rules) n is b = absurd is
resolved_names h rs (claim.Module m) n is b = absurd is
resolved_names h rs (claim.Map g) n is b = absurd is
resolved_names h rs (claim.Hom x y rows) n is b = absurd is
resolved_names h rs (claim.Kernel m g i) n is b = absurd is
resolved_names h rs (claim.Cokernel m g p) n is b = absurd is
resolved_names h rs (claim.Radical m x i) n is b = absurd is
resolved_names h rs (claim.Resolution x m terms) n is b = b.named
resolved_names h rs (claim.Ext m x y rows c) n is b = absurd is
resolved_names h rs (claim.Local m c ideal power residue) n is b = absurd is
resolved_names h rs (claim.Decomposition x s g f parts) n is b = absurd is
resolved_names h rs (claim.Translate which m x c rows) n is b = absurd is
resolved_names h rs (claim.AlmostSplit m e x g f c l phi left middle) n is b = absurd is

module _ (report : Report) (is : IsReport report) (k c n : ℕ) (x : NamesResolution report.header (take k report.records) c n) where
  resolved_there : NamesModule (take k report.records) (resolved_in (claim_of report.records c))
  resolved_there =
      let whole = named_in_whole report.header k report.records c n x in
      let r = record_there report.records c whole.named in
      let lawful = record_lawful report is c r.0 r.1 in
      let l = named_below k c report.records x.named in
      names_more c k report.records (resolved_in (claim_of report.records c)) (omega (arith, l))
      (subst (λ z. NamesModule (take c report.records) (resolved_in z)) (sym (ap claim_in r.1))
      (resolved_names report.header (take c report.records) r.0.claim n (subst (λ z. HasLength z n) (ap claim_in r.1) whole.length) lawful.claim))

  -- what stands for the terms on the other side has the same dimensions
  pub dual_in_whole : 1 < length (take k report.records) → (j : ℕ) → dual_dim report.header (take k report.records) c j ≡ dual_dim report.header report.records c j
  dual_in_whole l j =
      let front = take k report.records in
      let ec = claim_in_whole k report.records c x.named in
      let em = ap (λ z. module_of front (resolved_in z)) ec ∙ module_in_whole k report.records (resolved_in (claim_of report.records c)) resolved_there in
      ap (λ ws. injective_dim ws (module_of front (resolved_in (claim_of front c))).side (vertices_at (terms_in (claim_of front c)) j)) (whole_words k report.records l)
      ∙ (ap (λ (m : Module). injective_dim (printed_words report.records) m.side (vertices_at (terms_in (claim_of front c)) j)) em
      ∙ ap (λ z. injective_dim (printed_words report.records) (module_of report.records (resolved_in (claim_of report.records c))).side (vertices_at (terms_in z) j)) ec)

module _ (report : Report) (is : IsReport report) (k : ℕ) (l : 1 < length (take k report.records)) where
  shape_in_whole : (which : Translation) (n c : ℕ) (rows : List PlainMatrix) → NamesModule (take k report.records) n → NamesResolution report.header (take k report.records) c 1
      → HasTranslateShape report.header (take k report.records) which n c rows → HasTranslateShape report.header report.records which n c rows
  shape_in_whole Tau n c rows nm x s =
      subst (λ m. AtVertices report.header report.records (dim_of report.header m) (dual_dim report.header report.records c 1) rows) (module_in_whole k report.records n nm)
      (subst (λ d. AtVertices report.header report.records (dim_of report.header (module_of (take k report.records) n)) d rows) (dual_in_whole report is k c 1 x l 1) s)
  shape_in_whole Transpose n c rows nm x s =
      subst (λ m. AtVertices report.header report.records (dual_dim report.header report.records c 1) (dim_of report.header m) rows) (module_in_whole k report.records n nm)
      (subst (λ d. AtVertices report.header report.records d (dim_of report.header (module_of (take k report.records) n)) rows) (dual_in_whole report is k c 1 x l 1) s)
  shape_in_whole (Taui b) n c rows nm x s = (
    names_module k report.records b s.0,
    subst (λ m. AtVertices report.header report.records (dual_dim report.header report.records c 1) (dim_of report.header m) rows) (module_in_whole k report.records n nm)
        (subst (λ d. AtVertices report.header report.records d (dim_of report.header (module_of (take k report.records) n)) rows) (dual_in_whole report is k c 1 x l 1) s.1),
  )

  pub presentation_in_whole : (c : ℕ) → IsPresentation report.header (take k report.records) c → IsPresentation report.header report.records c
  presentation_in_whole c p = record {
    resolution = named_in_whole report.header k report.records c 1 p.resolution;
    small = λ j b. subst (λ d. total (vertex_count report.header.quiver) d ≤ term_limit) (dual_in_whole report is k c 1 p.resolution l j) (p.small j b);
  }

  pub translate_in_whole : (which : Translation) (n a c : ℕ) (rows : List PlainMatrix) → IsTranslateBlock report.header (take k report.records) which n a c rows
      → IsTranslateBlock report.header report.records which n a c rows
  translate_in_whole which n a c rows b = record {
    is_module = names_module k report.records n b.is_module;
    named = names_module k report.records a b.named;
    presentation = presentation_in_whole c b.presentation;
    shape = shape_in_whole which n c rows b.is_module b.presentation.resolution b.shape;
  }

pub extension_in_whole : (h : Header) (k : ℕ) (rs : List Record) (n a b : ℕ) (rows : PlainMatrix) (c : ℕ) → IsExtensionBlock h (take k rs) n a b rows c → IsExtensionBlock h rs n a b rows c
extension_in_whole h k rs n a b rows c x =
    let em = module_in_whole k rs b x.second in
    let ec = claim_in_whole k rs c x.resolution.named in
    record {
      first = names_module k rs a x.first;
      second = names_module k rs b x.second;
      resolution = named_in_whole h k rs c (suc n) x.resolution;
      small = subst (λ z. count_at h (module_of rs b) (vertices_at (terms_in z) n) ≤ unknown_limit) ec (subst (λ m. count_at h m (vertices_at (terms_in (claim_of (take k rs) c)) n) ≤ unknown_limit) em x.small);
      are_rows = subst (λ z. AreRows h (count_at h (module_of rs b) (vertices_at (terms_in z) n)) rows) ec (subst (λ m. AreRows h (count_at h m (vertices_at (terms_in (claim_of (take k rs) c)) n)) rows) em x.are_rows);
    }

-- ---- over the records up to the claim

module _ (h : Header) (T : Sides h) (k : ℕ) (rs : List Record) (r : Option Clause) where
  pub extension_at_front : (n a b : ℕ) (rows : PlainMatrix) (c : ℕ) → IsExtensionBlock h (take k rs) n a b rows c
      → IsAnswer (extension_conditions (IsResolutionOf (claim_of rs c) a) h T (module_of rs a) (module_of rs b) (terms_in (claim_of rs c)) n rows) r
      → IsAnswer (extension_conditions (IsResolutionOf (claim_of (take k rs) c) a) h T (module_of (take k rs) a) (module_of (take k rs) b) (terms_in (claim_of (take k rs) c)) n rows) r
  extension_at_front n a b rows c x y =
      let y1 = subst (λ z. IsAnswer (extension_conditions (IsResolutionOf z a) h T (module_of rs a) (module_of rs b) (terms_in z) n rows) r) (whole_claim k rs c x.resolution.named) y in
      let z = claim_of (take k rs) c in
      let y2 = subst (λ m. IsAnswer (extension_conditions (IsResolutionOf z a) h T m (module_of rs b) (terms_in z) n rows) r) (whole_module k rs a x.first) y1 in
      subst (λ m. IsAnswer (extension_conditions (IsResolutionOf z a) h T (module_of (take k rs) a) m (terms_in z) n rows) r) (whole_module k rs b x.second) y2

  pub tau_at_front : (n a c : ℕ) (rows : List PlainMatrix) → IsTranslateBlock h (take k rs) Tau n a c rows
      → IsAnswer (tau_conditions (IsResolutionOf (claim_of rs c) a) h T (module_of rs n) (module_of rs a) (terms_in (claim_of rs c)) rows) r
      → IsAnswer (tau_conditions (IsResolutionOf (claim_of (take k rs) c) a) h T (module_of (take k rs) n) (module_of (take k rs) a) (terms_in (claim_of (take k rs) c)) rows) r
  tau_at_front n a c rows x y =
      let y1 = subst (λ z. IsAnswer (tau_conditions (IsResolutionOf z a) h T (module_of rs n) (module_of rs a) (terms_in z) rows) r) (whole_claim k rs c x.presentation.resolution.named) y in
      let z = claim_of (take k rs) c in
      let y2 = subst (λ m. IsAnswer (tau_conditions (IsResolutionOf z a) h T m (module_of rs a) (terms_in z) rows) r) (whole_module k rs n x.is_module) y1 in
      subst (λ m. IsAnswer (tau_conditions (IsResolutionOf z a) h T (module_of (take k rs) n) m (terms_in z) rows) r) (whole_module k rs a x.named) y2

  pub transpose_at_front : (n a c : ℕ) (rows : List PlainMatrix) → IsTranslateBlock h (take k rs) Transpose n a c rows
      → IsAnswer (transpose_conditions (IsResolutionOf (claim_of rs c) a) h T (module_of rs n) (module_of rs a) (terms_in (claim_of rs c)) rows) r
      → IsAnswer (transpose_conditions (IsResolutionOf (claim_of (take k rs) c) a) h T (module_of (take k rs) n) (module_of (take k rs) a) (terms_in (claim_of (take k rs) c)) rows) r
  transpose_at_front n a c rows x y =
      let y1 = subst (λ z. IsAnswer (transpose_conditions (IsResolutionOf z a) h T (module_of rs n) (module_of rs a) (terms_in z) rows) r) (whole_claim k rs c x.presentation.resolution.named) y in
      let z = claim_of (take k rs) c in
      let y2 = subst (λ m. IsAnswer (transpose_conditions (IsResolutionOf z a) h T m (module_of rs a) (terms_in z) rows) r) (whole_module k rs n x.is_module) y1 in
      subst (λ m. IsAnswer (transpose_conditions (IsResolutionOf z a) h T (module_of (take k rs) n) m (terms_in z) rows) r) (whole_module k rs a x.named) y2

  pub taui_at_front : (n a b c : ℕ) (rows : List PlainMatrix) → IsTranslateBlock h (take k rs) (Taui b) n a c rows
      → IsAnswer (taui_conditions (IsResolutionOf (claim_of rs c) b) h T (module_of rs n) (module_of rs a) (module_of rs b) (terms_in (claim_of rs c)) rows) r
      → IsAnswer (taui_conditions (IsResolutionOf (claim_of (take k rs) c) b) h T (module_of (take k rs) n) (module_of (take k rs) a) (module_of (take k rs) b) (terms_in (claim_of (take k rs) c)) rows) r
  taui_at_front n a b c rows x y =
      let y1 = subst (λ z. IsAnswer (taui_conditions (IsResolutionOf z b) h T (module_of rs n) (module_of rs a) (module_of rs b) (terms_in z) rows) r) (whole_claim k rs c x.presentation.resolution.named) y in
      let z = claim_of (take k rs) c in
      let y2 = subst (λ m. IsAnswer (taui_conditions (IsResolutionOf z b) h T m (module_of rs a) (module_of rs b) (terms_in z) rows) r) (whole_module k rs n x.is_module) y1 in
      let y3 = subst (λ m. IsAnswer (taui_conditions (IsResolutionOf z b) h T (module_of (take k rs) n) m (module_of rs b) (terms_in z) rows) r) (whole_module k rs a x.named) y2 in
      subst (λ m. IsAnswer (taui_conditions (IsResolutionOf z b) h T (module_of (take k rs) n) (module_of (take k rs) a) m (terms_in z) rows) r) (whole_module k rs b x.shape.0) y3

-- ---- the answer

module _ (h : Header) (T : Sides h) (rs : List Record) (c x m : ℕ) (terms : List TermRows) (e : claim_of rs c ≡ claim.Resolution x m terms) (r : Option Clause) where
  pub extension_answer : (n a b : ℕ) (rows : PlainMatrix) (am bm : Module) → am ≡ module_of rs a → bm ≡ module_of rs b → x ≡ a → IsAnswer (extension_conditions ⊤ h T am bm terms n rows) r
      → IsAnswer (extension_conditions (IsResolutionOf (claim_of rs c) a) h T (module_of rs a) (module_of rs b) (terms_in (claim_of rs c)) n rows) r
  extension_answer n a b rows am bm ea eb same y =
      let y1 = subst (λ z. IsAnswer (extension_conditions ⊤ h T z bm terms n rows) r) ea y in
      let y2 = subst (λ z. IsAnswer (extension_conditions ⊤ h T (module_of rs a) z terms n rows) r) eb y1 in
      let y3 : IsAnswer (extension_conditions (IsResolutionOf (claim.Resolution x m terms) a) h T (module_of rs a) (module_of rs b) terms n rows) r =
      named_swap clause.Objects (behind_first (extension_conditions ⊤ h T (module_of rs a) (module_of rs b) terms n rows)) (⊤ × HaveOneSide (module_of rs a) (module_of rs b))
      ((x ≡ a) × HaveOneSide (module_of rs a) (module_of rs b)) r (λ p. (same, p.1)) (λ p. (tt, p.1)) y2 in
      subst (λ z. IsAnswer (extension_conditions (IsResolutionOf z a) h T (module_of rs a) (module_of rs b) (terms_in z) n rows) r) (sym e) y3

  pub tau_answer : (n a : ℕ) (rows : List PlainMatrix) (nm am : Module) → nm ≡ module_of rs n → am ≡ module_of rs a → x ≡ a → IsAnswer (tau_conditions ⊤ h T nm am terms rows) r
      → IsAnswer (tau_conditions (IsResolutionOf (claim_of rs c) a) h T (module_of rs n) (module_of rs a) (terms_in (claim_of rs c)) rows) r
  tau_answer n a rows nm am en ea same y =
      let y1 = subst (λ z. IsAnswer (tau_conditions ⊤ h T z am terms rows) r) en y in
      let y2 = subst (λ z. IsAnswer (tau_conditions ⊤ h T (module_of rs n) z terms rows) r) ea y1 in
      let y3 : IsAnswer (tau_conditions (IsResolutionOf (claim.Resolution x m terms) a) h T (module_of rs n) (module_of rs a) terms rows) r =
      named_swap clause.Objects (behind_first (tau_conditions ⊤ h T (module_of rs n) (module_of rs a) terms rows)) (⊤ × ((module_of rs n).side ≡ (module_of rs a).side))
      ((x ≡ a) × ((module_of rs n).side ≡ (module_of rs a).side)) r (λ p. (same, p.1)) (λ p. (tt, p.1)) y2 in
      subst (λ z. IsAnswer (tau_conditions (IsResolutionOf z a) h T (module_of rs n) (module_of rs a) (terms_in z) rows) r) (sym e) y3

  pub transpose_answer : (n a : ℕ) (rows : List PlainMatrix) (nm am : Module) → nm ≡ module_of rs n → am ≡ module_of rs a → x ≡ a → IsAnswer (transpose_conditions ⊤ h T nm am terms rows) r
      → IsAnswer (transpose_conditions (IsResolutionOf (claim_of rs c) a) h T (module_of rs n) (module_of rs a) (terms_in (claim_of rs c)) rows) r
  transpose_answer n a rows nm am en ea same y =
      let y1 = subst (λ z. IsAnswer (transpose_conditions ⊤ h T z am terms rows) r) en y in
      let y2 = subst (λ z. IsAnswer (transpose_conditions ⊤ h T (module_of rs n) z terms rows) r) ea y1 in
      let y3 : IsAnswer (transpose_conditions (IsResolutionOf (claim.Resolution x m terms) a) h T (module_of rs n) (module_of rs a) terms rows) r =
      named_swap clause.Objects (behind_first (transpose_conditions ⊤ h T (module_of rs n) (module_of rs a) terms rows)) (⊤ × ((module_of rs n).side ≡ other_side (module_of rs a).side))
      ((x ≡ a) × ((module_of rs n).side ≡ other_side (module_of rs a).side)) r (λ p. (same, p.1)) (λ p. (tt, p.1)) y2 in
      subst (λ z. IsAnswer (transpose_conditions (IsResolutionOf z a) h T (module_of rs n) (module_of rs a) (terms_in z) rows) r) (sym e) y3

  pub taui_answer : (n a b : ℕ) (rows : List PlainMatrix) (nm am bm : Module) → nm ≡ module_of rs n → am ≡ module_of rs a → bm ≡ module_of rs b → x ≡ b
      → IsAnswer (taui_conditions ⊤ h T nm am bm terms rows) r
      → IsAnswer (taui_conditions (IsResolutionOf (claim_of rs c) b) h T (module_of rs n) (module_of rs a) (module_of rs b) (terms_in (claim_of rs c)) rows) r
  taui_answer n a b rows nm am bm en ea eb same y =
      let y1 = subst (λ z. IsAnswer (taui_conditions ⊤ h T z am bm terms rows) r) en y in
      let y2 = subst (λ z. IsAnswer (taui_conditions ⊤ h T (module_of rs n) z bm terms rows) r) ea y1 in
      let y3 = subst (λ z. IsAnswer (taui_conditions ⊤ h T (module_of rs n) (module_of rs a) z terms rows) r) eb y2 in
      let y4 : IsAnswer (taui_conditions (IsResolutionOf (claim.Resolution x m terms) b) h T (module_of rs n) (module_of rs a) (module_of rs b) terms rows) r =
      named_swap clause.Objects (behind_first (taui_conditions ⊤ h T (module_of rs n) (module_of rs a) (module_of rs b) terms rows))
      (⊤ × IsDualOf h (module_of rs a) (module_of rs b) × ((module_of rs n).side ≡ (module_of rs a).side))
      ((x ≡ b) × IsDualOf h (module_of rs a) (module_of rs b) × ((module_of rs n).side ≡ (module_of rs a).side)) r (λ p. (same, p.1, p.2)) (λ p. (tt, p.1, p.2)) y3 in
      subst (λ z. IsAnswer (taui_conditions (IsResolutionOf z b) h T (module_of rs n) (module_of rs a) (module_of rs b) (terms_in z) rows) r) (sym e) y4

-- ---- what the deciders ask

pub matrices_by : (q : Gf) (n : ℕ) (rows other columns more : ℕ → ℕ) (ms : List PlainMatrix) → ((i : ℕ) → rows i ≡ other i) → ((i : ℕ) → columns i ≡ more i) → AreMatrices q n rows columns ms → AreMatrices q n other more ms
matrices_by q n rows other columns more ms e f m = record {
  counted = m.counted;
  each = λ i a l. subst (λ z. HasShape q (other i) z (slice_index_or ms i a)) (f i) (subst (λ z. HasShape q z (columns i) (slice_index_or ms i a)) (e i) (m.each i a l));
}

-- a resolution of length 1 that is named, of module x
module _ (report : Report) (table : TableView) (t : IsTableOf report table) (c x m : ℕ) (terms : List TermRows) (e : claim_of report.records c ≡ claim.Resolution x m terms) (xm : Module) (ex : xm ≡ module_of report.records x) where
  -- the dimensions of what stands for term k on the other side
  pub dual_is : (k w : ℕ) → dual_dim report.header report.records c k w ≡ sum_dim table.words (other_side xm.side) (vertices_at terms k) w
  dual_is k w =
      ap (λ z. injective_dim (printed_words report.records) (module_of report.records (resolved_in z)).side (vertices_at (terms_in z) k) w) e
      ∙ (ap (λ (y : Module). injective_dim (printed_words report.records) y.side (vertices_at terms k) w) (sym ex)
      ∙ (sym (same_sum (printed_words report.records) (other_side xm.side) (vertices_at terms k) w)
      ∙ ap (λ ws. sum_dim ws (other_side xm.side) (vertices_at terms k) w) (sym t.words)))

  dual_room : IsPresentation report.header report.records c → (k : ℕ) → k ≤ 1 → IsRoomFor table.header (sum_dim table.words (other_side xm.side) (vertices_at terms k)) 512
  dual_room p k l =
      subst (λ (g : Header). IsRoomFor g (sum_dim table.words (other_side xm.side) (vertices_at terms k)) 512) (sym t.header) (record {
        fits = λ w s.
            let g = total_grows (dual_dim report.header report.records c k) (vertex_count report.header.quiver) w s in
            let b = p.small k l in
            let d = dual_is k w in
            omega (arith, g, b, d);
      })

  pub small_across : IsResolutionBlock report.header report.records x m terms → m ≡ 1 → IsPresentation report.header report.records c → AreSmallAcross table.words table.header xm.side terms
  small_across b one p = record {
    cover = term_room report table t x m terms b xm ex 0 (omega (arith, one));
    cover_across = dual_room p 0 (omega arith);
    syzygy_across = dual_room p 1 (omega arith);
  }

  pub embedding_shape : (n : ℕ) (rows : List PlainMatrix) (nm : Module) → nm ≡ module_of report.records n
      → AreMatrices report.header.field (vertex_count report.header.quiver) (dim_of report.header (module_of report.records n)) (dual_dim report.header report.records c 1) rows
      → AreMatrices table.header.field (vertex_count table.header.quiver) (dim_at (quiver_of table.header.quiver) nm.dims) (sum_dim table.words (other_side xm.side) (vertices_at terms 1)) rows
  embedding_shape n rows nm en s =
      subst (λ (g : Header). AreMatrices g.field (vertex_count g.quiver) (dim_at (quiver_of g.quiver) nm.dims) (sum_dim table.words (other_side xm.side) (vertices_at terms 1)) rows) (sym t.header)
      (matrices_by report.header.field (vertex_count report.header.quiver) (dim_of report.header (module_of report.records n)) (dim_at (quiver_of report.header.quiver) nm.dims)
      (dual_dim report.header report.records c 1) (sum_dim table.words (other_side xm.side) (vertices_at terms 1)) rows
      (λ i. ap (λ (y : Module). dim_at (quiver_of report.header.quiver) y.dims i) (sym en)) (dual_is 1) s)

  pub projection_shape : (n : ℕ) (rows : List PlainMatrix) (nm : Module) → nm ≡ module_of report.records n
      → AreMatrices report.header.field (vertex_count report.header.quiver) (dual_dim report.header report.records c 1) (dim_of report.header (module_of report.records n)) rows
      → AreMatrices table.header.field (vertex_count table.header.quiver) (sum_dim table.words (other_side xm.side) (vertices_at terms 1)) (dim_at (quiver_of table.header.quiver) nm.dims) rows
  projection_shape n rows nm en s =
      subst (λ (g : Header). AreMatrices g.field (vertex_count g.quiver) (sum_dim table.words (other_side xm.side) (vertices_at terms 1)) (dim_at (quiver_of g.quiver) nm.dims) rows) (sym t.header)
      (matrices_by report.header.field (vertex_count report.header.quiver) (dual_dim report.header report.records c 1) (sum_dim table.words (other_side xm.side) (vertices_at terms 1))
      (dim_of report.header (module_of report.records n)) (dim_at (quiver_of report.header.quiver) nm.dims) rows
      (dual_is 1) (λ i. ap (λ (y : Module). dim_at (quiver_of report.header.quiver) y.dims i) (sym en)) s)

pub length_is : (c : Claim) (x m n : ℕ) (terms : List TermRows) → c ≡ claim.Resolution x m terms → HasLength c n → m ≡ n
length_is c x m n terms e l = subst (λ z. HasLength z n) e l

-- ---- coordinates of extensions

coordinates_by : (h : Header) (side : Side) (b : Module) (t : TermRows) → coordinates (rep_of h.field (algebra_at side h).quiver b) t ≡ count_at h b t.vertices
unfolding dim_at
coordinates_by h Right b t = refl
coordinates_by h Left b t = refl

pub coordinates_are : (report : Report) (table : TableView) → IsTableOf report table → (c x m n b : ℕ) (terms : List TermRows) (cols : ℕ) (am bm : Module) → claim_of report.records c ≡ claim.Resolution x m terms
    → bm ≡ module_of report.records b → cols ≡ count_at report.header (module_of report.records b) (vertices_at (terms_in (claim_of report.records c)) n)
    → cols ≡ coordinates (read_beside table.header am bm) (term_at terms n)
coordinates_are report table t c x m n b terms cols am bm e eb s =
    subst (λ (g : Header). cols ≡ coordinates (read_beside g am bm) (term_at terms n)) (sym t.header)
    (s ∙ (ap (λ z. count_at report.header (module_of report.records b) (vertices_at (terms_in z) n)) e
    ∙ (ap (λ (y : Module). count_at report.header y (vertices_at terms n)) (sym eb) ∙ sym (coordinates_by report.header am.side bm (term_at terms n)))))
