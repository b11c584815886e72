-- Almost split sequences: what the format asks of them and of the certificate that they name, over the whole report; the answer on them, and that over the
-- records up to the claim.
use Rattle.std.proofs.Common.{ℕ, ◌≡◌, ◌≤◌, ◌<◌, ◌+◌, List, length, refl, sym, ap, ◌∙◌, subst, arith}
use Rattle.std.specs.Prelude.{⊤, Option, take}
use Rattle.std.proofs.lemmas.List.{take-take}
use Rattle.fp_linear.specs.Matrix.{PlainMatrix}
use Rattle.linear_algebra.specs.Rows.{IsRow}
use Rattle.linear_algebra.specs.BlockFamilies.{total}
use Rattle.quiver_paths.specs.Quiver.{vertex_count}
use Rattle.path_algebra.specs.declared.Header.{Header}
use Rattle.projectives.specs.CanonicalCover.{vertex_in}
use Rattle.bound_algebra.specs.TypedPaths.{quiver_of}
use Rattle.alg_table.specs.TableView.{TableView}
use Rattle.module_types.specs.declared.Module.{Module}
use Rattle.module_types.specs.declared.Map.{Map}
use Rattle.module_types.specs.declared.TermRows.{TermRows}
use Rattle.module_types.specs.Algebras.{other_side}
use Rattle.module_types.specs.Readings.{dim_at}
use Rattle.module_types.specs.Shapes.{AreMatrices, IsMap}
use Rattle.claim_conditions.specs.declared.Clause.{Clause}
use Rattle.claim_conditions.specs.declared.Clause.TheVariants as clause
use Rattle.claim_conditions.specs.declared.Residue.{Residue}
use Rattle.claim_conditions.specs.Conditions.{IsAnswer}
use Rattle.claim_conditions.specs.LocalConditions.{families_of}
use Rattle.claim_conditions.specs.Modules.{Sides}
use Rattle.claim_conditions.specs.SequenceConditions.{SequenceRows, HaveSequenceSides, sequence_conditions}
use Rattle.claim_conditions.specs.Terms.{vertices_at}
use Rattle.term_rows.specs.SumDims.{sum_dim}
use Rattle.sequence_checks.specs.Room.{sequence_room}
use Rattle.report_types.specs.declared.claims.Claim.{Claim}
use Rattle.report_types.specs.declared.claims.Claim.TheVariants as claim
use Rattle.report_types.specs.declared.claims.Record.{Record}
use Rattle.report_types.specs.declared.reports.Report.{Report}
use Rattle.report_types.specs.Limits.{unknown_limit}
use Rattle.report_types.specs.Numbers.{module_of, map_of, claim_in, claim_of, NamesModule, NamesClaim}
use Rattle.report_types.specs.NamedClaims.{IsHomOf, rows_in, IsResolutionOf, terms_in, IsLocalClaim, IsLocalOf, hom_in, ideal_in}
use Rattle.report_types.specs.ClaimBlocks.{IsClaimBlock, IsLocalBlock, IsResolutionBlock, NamesResolution, IsSequenceBlock, AtVertices, dual_dim}
use Rattle.report_types.specs.WordDimensions.{dim_of, count_at}
use Rattle.report_types.specs.Conditions.{NameSequence}
use Rattle.report_types.specs.Lawful.{IsReport}
use Rattle.report_types.proofs.Fronts.{record_there, named_below, module_in_whole, claim_in_whole}
use Rattle.claim_check.specs.ClaimVerdicts.{IsTableOf}
use Rattle.claim_check.specs.Room.{HasClaimRoom}
use Rattle.claim_check.proofs.Named.{names_module, names_claim, record_lawful}
use Rattle.claim_check.proofs.WhatNumbersSay.{behind_first, named_swap, goes_over}
use Rattle.claim_check.proofs.ByNumbers.{whole_module, whole_map, whole_claim, both_in_whole}
use Rattle.claim_check.proofs.LocalClaims.{local_in_whole}
use Rattle.claim_check.proofs.TranslateClaims.{dual_in_whole, presentation_in_whole, dual_is, matrices_by}

-- a claim on a local module has a form of its own
pub only_local : (c : Claim) → IsLocalClaim c → ((m hom : ℕ) (ideal : PlainMatrix) (power : ℕ) (residue : Residue) → c ≡ claim.Local m hom ideal power residue → ⊥) → ⊥
only_local (claim.Basis words steps rules) is f = is
only_local (claim.Module m) is f = is
only_local (claim.Map g) is f = is
only_local (claim.Hom a b rows) is f = is
only_local (claim.Kernel n g i) is f = is
only_local (claim.Cokernel n g p) is f = is
only_local (claim.Radical n a i) is f = is
only_local (claim.Resolution a n terms) is f = is
only_local (claim.Ext n a b rows c) is f = is
only_local (claim.Local m c ideal power residue) is f = f m c ideal power residue refl
only_local (claim.Decomposition a s g h parts) is f = is
only_local (claim.Translate which n a c rows) is f = is
only_local (claim.AlmostSplit n e a g h c l phi left middle) is f = is

-- ---- the certificate that is named

pub local_named : (report : Report) → IsReport report → (l m hom : ℕ) (ideal : PlainMatrix) (power : ℕ) (residue : Residue) → NamesClaim report.records l
    → claim_of report.records l ≡ claim.Local m hom ideal power residue → IsLocalBlock report.header report.records m hom ideal power
local_named report is l m hom ideal power residue named e =
    let r = record_there report.records l named in
    local_in_whole report.header l report.records m hom ideal power
    (subst (IsClaimBlock report.header (take l report.records)) (sym (ap claim_in r.1) ∙ e) (record_lawful report is l r.0 r.1).claim)

names_more : (j k : ℕ) (rs : List Record) (n : ℕ) → j ≤ k → NamesClaim (take j rs) n → NamesClaim (take k rs) n
names_more j k rs n l is = names_claim j (take k rs) n (subst (λ xs. NamesClaim xs n) (sym (take-take j k rs l)) is)

-- a certificate names a claim before it
hom_before : (report : Report) (rs : List Record) (c : Claim) → IsLocalClaim c → IsClaimBlock report.header rs c → NamesClaim rs (hom_in c)
hom_before report rs (claim.Basis words steps rules) is b = absurd is
hom_before report rs (claim.Module m) is b = absurd is
hom_before report rs (claim.Map g) is b = absurd is
hom_before report rs (claim.Hom x y rows) is b = absurd is
hom_before report rs (claim.Kernel m g i) is b = absurd is
hom_before report rs (claim.Cokernel m g p) is b = absurd is
hom_before report rs (claim.Radical m x i) is b = absurd is
hom_before report rs (claim.Resolution x m terms) is b = absurd is
hom_before report rs (claim.Ext m x y rows c) is b = absurd is
hom_before report rs (claim.Local m c ideal power residue) is b = b.named
hom_before report rs (claim.Decomposition x s g f parts) is b = absurd is
hom_before report rs (claim.Translate which m x c rows) is b = absurd is
hom_before report rs (claim.AlmostSplit m e x g f c l phi left middle) is b = absurd is

module _ (report : Report) (is : IsReport report) (k l : ℕ) (named : NamesClaim (take k report.records) l) (local : IsLocalClaim (claim_of (take k report.records) l)) where
  pub hom_there : NamesClaim (take k report.records) (hom_in (claim_of (take k report.records) l))
  hom_there =
      let r = record_there report.records l (names_claim k report.records l named) in
      let b = named_below k l report.records named in
      let same = claim_in_whole k report.records l named in
      subst (λ z. NamesClaim (take k report.records) (hom_in z)) (sym (same ∙ ap claim_in r.1))
      (names_more l k report.records (hom_in r.0.claim) (omega (arith, b))
      (hom_before report (take l report.records) r.0.claim (subst IsLocalClaim (same ∙ ap claim_in r.1) local) (record_lawful report is l r.0 r.1).claim))

-- ---- over the whole report

module _ (report : Report) (is : IsReport report) (k : ℕ) (long : 1 < length (take k report.records)) where
  middle_in_whole : (e a c : ℕ) (middle : List PlainMatrix) → NamesModule (take k report.records) e → NamesModule (take k report.records) a → NamesResolution report.header (take k report.records) c 1
      → AtVertices report.header (take k report.records) (dim_of report.header (module_of (take k report.records) e)) (λ w. dual_dim report.header (take k report.records) c 1 w + dim_of report.header (module_of (take k report.records) a) w) middle
      → AtVertices report.header report.records (dim_of report.header (module_of report.records e)) (λ w. dual_dim report.header report.records c 1 w + dim_of report.header (module_of report.records a) w) middle
  middle_in_whole e a c middle ne na x s =
      let s1 = subst (λ m. AtVertices report.header report.records (dim_of report.header m) (λ w. dual_dim report.header (take k report.records) c 1 w + dim_of report.header (module_of (take k report.records) a) w) middle) (module_in_whole k report.records e ne) s in
      let s2 = subst (λ m. AtVertices report.header report.records (dim_of report.header (module_of report.records e)) (λ w. dual_dim report.header (take k report.records) c 1 w + dim_of report.header m w) middle) (module_in_whole k report.records a na) s1 in
      subst (λ (d : ℕ → ℕ). AtVertices report.header report.records (dim_of report.header (module_of report.records e)) (λ w. d w + dim_of report.header (module_of report.records a) w) middle) (dual_in_whole report is k c 1 x long 1) s2

  pub sequence_in_whole : (n e a f g c l : ℕ) (phi : List ℕ) (left middle : List PlainMatrix) → IsSequenceBlock report.header (take k report.records) n e a f g c l phi left middle → IsSequenceBlock report.header report.records n e a f g c l phi left middle
  sequence_in_whole n e a f g c l phi left middle x = record {
    first = both_in_whole report.header k report.records n f x.first;
    second = both_in_whole report.header k report.records e g x.second;
    ends = names_module k report.records a x.ends;
    presentation = presentation_in_whole report is k long c x.presentation;
    named = names_claim k report.records l x.named;
    is_local = subst IsLocalClaim (claim_in_whole k report.records l x.named) x.is_local;
    functional =
        subst (λ m. IsRow report.header.field (count_at report.header m (vertices_at (terms_in (claim_of report.records c)) 0)) phi) (module_in_whole k report.records a x.ends)
        (subst (λ z. IsRow report.header.field (count_at report.header (module_of (take k report.records) a) (vertices_at (terms_in z) 0)) phi) (claim_in_whole k report.records c x.presentation.resolution.named) x.functional);
    left_shape =
        subst (λ m. AtVertices report.header report.records (dim_of report.header m) (dual_dim report.header report.records c 1) left) (module_in_whole k report.records n x.first.is_module)
        (subst (λ d. AtVertices report.header report.records (dim_of report.header (module_of (take k report.records) n)) d left) (dual_in_whole report is k c 1 x.presentation.resolution long 1) x.left_shape);
    middle_shape = middle_in_whole e a c middle x.second.is_module x.ends x.presentation.resolution x.middle_shape;
  }

-- ---- what the numbers say

-- the conditions over some records, where the numbers say N
abbrev conditions_by : (N : Type 0) (h : Header) → Sides h → List Record → (n e a f g c l : ℕ) → SequenceRows → Option Clause → Type 0
conditions_by N h T rs n e a f g c l s r =
    IsAnswer (sequence_conditions N h T (module_of rs n) (module_of rs e) (module_of rs a) (map_of rs f).matrices (map_of rs g).matrices
    (terms_in (claim_of rs c)) (rows_in h.field (claim_of rs (hom_in (claim_of rs l)))) (ideal_in h.field (claim_of rs l)) s) r

module _ (rs : List Record) (n e a f g c l : ℕ) where
  -- the module that the terms are of, and those of the endomorphisms
  pub terms_of_end : (of m : ℕ) (terms : List TermRows) → claim_of rs c ≡ claim.Resolution of m terms → NameSequence rs n e a f g c l → of ≡ a
  terms_of_end of m terms ec s = subst (λ d. IsResolutionOf d a) ec s.terms

  pub homs_of_end : (x hom y z power : ℕ) (ideal rows : PlainMatrix) (residue : Residue) → claim_of rs l ≡ claim.Local x hom ideal power residue → claim_of rs hom ≡ claim.Hom y z rows
      → NameSequence rs n e a f g c l → (y ≡ a) × (z ≡ a)
  homs_of_end x hom y z power ideal rows residue el eh s = subst (λ d. IsHomOf d a a) eh (subst (λ d. IsHomOf (claim_of rs (hom_in d)) a a) el s.homs)

-- ---- the answer

-- the answer over equal modules and maps
by_objects : (h : Header) (T : Sides h) (N : Type 0) (fm fn gm gn : Map) (nm nn em en am an : Module) (r : Option Clause) (terms : List TermRows) (basis ideal : PlainMatrix) (s : SequenceRows)
    → fm ≡ fn → gm ≡ gn → nm ≡ nn → em ≡ en → am ≡ an
    → IsAnswer (sequence_conditions N h T nm em am fm.matrices gm.matrices terms basis ideal s) r → IsAnswer (sequence_conditions N h T nn en an fn.matrices gn.matrices terms basis ideal s) r
by_objects h T N fm fn gm gn nm nn em en am an r terms basis ideal s ef eg e1 e2 e3 v =
    subst (λ (d : Map). IsAnswer (sequence_conditions N h T nn en an fn.matrices d.matrices terms basis ideal s) r) eg
    (subst (λ (d : Map). IsAnswer (sequence_conditions N h T nn en an d.matrices gm.matrices terms basis ideal s) r) ef
    (subst (λ d. IsAnswer (sequence_conditions N h T nn en d fm.matrices gm.matrices terms basis ideal s) r) e3
    (subst (λ d. IsAnswer (sequence_conditions N h T nn d am fm.matrices gm.matrices terms basis ideal s) r) e2
    (subst (λ d. IsAnswer (sequence_conditions N h T d em am fm.matrices gm.matrices terms basis ideal s) r) e1 v))))

module _ (h : Header) (T : Sides h) (rs : List Record) (n e a f g c l : ℕ) (s : SequenceRows) where
  abbrev Sides_are : Type 0
  Sides_are = HaveSequenceSides (module_of rs n) (module_of rs e) (module_of rs a)

  pub sequence_answer : (r : Option Clause) (nm em am : Module) (fm gm : Map) → nm ≡ module_of rs n → em ≡ module_of rs e → am ≡ module_of rs a → fm ≡ map_of rs f → gm ≡ map_of rs g
      → (of m : ℕ) (terms : List TermRows) (x hom y z power : ℕ) (ideal rows : PlainMatrix) (residue : Residue) → claim_of rs c ≡ claim.Resolution of m terms
      → claim_of rs l ≡ claim.Local x hom ideal power residue → claim_of rs hom ≡ claim.Hom y z rows → NameSequence rs n e a f g c l
      → IsAnswer (sequence_conditions ⊤ h T nm em am fm.matrices gm.matrices terms rows ideal s) r → conditions_by (NameSequence rs n e a f g c l) h T rs n e a f g c l s r
  sequence_answer r nm em am fm gm en ee ea ef eg of m terms x hom y z power ideal rows residue ec el eh said v =
      let N = NameSequence rs n e a f g c l in
      let v5 = by_objects h T ⊤ fm (map_of rs f) gm (map_of rs g) nm (module_of rs n) em (module_of rs e) am (module_of rs a) r terms rows ideal s ef eg en ee ea v in
      let v6 : IsAnswer (sequence_conditions N h T (module_of rs n) (module_of rs e) (module_of rs a) (map_of rs f).matrices (map_of rs g).matrices terms rows ideal s) r =
      named_swap clause.Objects (behind_first (sequence_conditions ⊤ h T (module_of rs n) (module_of rs e) (module_of rs a) (map_of rs f).matrices (map_of rs g).matrices terms rows ideal s))
      (⊤ × Sides_are) (N × Sides_are) r (λ p. (said, p.1)) (λ p. (tt, p.1)) v5 in
      let v7 = subst (λ d. IsAnswer (sequence_conditions N h T (module_of rs n) (module_of rs e) (module_of rs a) (map_of rs f).matrices (map_of rs g).matrices (terms_in d) rows ideal s) r) (sym ec) v6 in
      let v8 = subst (λ d. IsAnswer (sequence_conditions N h T (module_of rs n) (module_of rs e) (module_of rs a) (map_of rs f).matrices (map_of rs g).matrices (terms_in (claim_of rs c)) (rows_in h.field d) ideal s) r)
      (sym eh) v7 in
      subst (λ d. IsAnswer (sequence_conditions N h T (module_of rs n) (module_of rs e) (module_of rs a) (map_of rs f).matrices (map_of rs g).matrices (terms_in (claim_of rs c))
      (rows_in h.field (claim_of rs (hom_in d))) (ideal_in h.field d) s) r) (sym el) v8

-- ---- over the records up to the claim

module _ (report : Report) (is : IsReport report) (k n e a f g c l : ℕ) (phi : List ℕ) (left middle : List PlainMatrix)
    (x : IsSequenceBlock report.header (take k report.records) n e a f g c l phi left middle) where
  terms_same : claim_of report.records c ≡ claim_of (take k report.records) c
  terms_same = whole_claim k report.records c x.presentation.resolution.named

  local_same : claim_of report.records l ≡ claim_of (take k report.records) l
  local_same = whole_claim k report.records l x.named

  homs_same : claim_of report.records (hom_in (claim_of (take k report.records) l)) ≡ claim_of (take k report.records) (hom_in (claim_of (take k report.records) l))
  homs_same = whole_claim k report.records (hom_in (claim_of (take k report.records) l)) (hom_there report is k l x.named x.is_local)

  said_there : NameSequence report.records n e a f g c l → NameSequence (take k report.records) n e a f g c l
  said_there s = record {
    terms = subst (λ d. IsResolutionOf d a) terms_same s.terms;
    certificate = subst (λ d. IsLocalOf d a) local_same s.certificate;
    homs = subst (λ d. IsHomOf d a a) homs_same (subst (λ d. IsHomOf (claim_of report.records (hom_in d)) a a) local_same s.homs);
    first = goes_over report.records (take k report.records) f n e (whole_map k report.records f x.first.is_map) s.first;
    second = goes_over report.records (take k report.records) g e a (whole_map k report.records g x.second.is_map) s.second;
  }

  said_back : NameSequence (take k report.records) n e a f g c l → NameSequence report.records n e a f g c l
  said_back s = record {
    terms = subst (λ d. IsResolutionOf d a) (sym terms_same) s.terms;
    certificate = subst (λ d. IsLocalOf d a) (sym local_same) s.certificate;
    homs = subst (λ d. IsHomOf (claim_of report.records (hom_in d)) a a) (sym local_same) (subst (λ d. IsHomOf d a a) (sym homs_same) s.homs);
    first = goes_over (take k report.records) report.records f n e (sym (whole_map k report.records f x.first.is_map)) s.first;
    second = goes_over (take k report.records) report.records g e a (sym (whole_map k report.records g x.second.is_map)) s.second;
  }

  pub sequence_at_front : (T : Sides report.header) (s : SequenceRows) (r : Option Clause)
      → conditions_by (NameSequence report.records n e a f g c l) report.header T report.records n e a f g c l s r
      → conditions_by (NameSequence (take k report.records) n e a f g c l) report.header T (take k report.records) n e a f g c l s r
  sequence_at_front T s r v =
      let h = report.header in
      let rs = report.records in
      let front = take k report.records in
      let N = NameSequence front n e a f g c l in
      let v1 = named_swap clause.Objects
      (behind_first (sequence_conditions ⊤ h T (module_of rs n) (module_of rs e) (module_of rs a) (map_of rs f).matrices (map_of rs g).matrices
      (terms_in (claim_of rs c)) (rows_in h.field (claim_of rs (hom_in (claim_of rs l)))) (ideal_in h.field (claim_of rs l)) s))
      (NameSequence rs n e a f g c l × HaveSequenceSides (module_of rs n) (module_of rs e) (module_of rs a)) (N × HaveSequenceSides (module_of rs n) (module_of rs e) (module_of rs a)) r
      (λ p. (said_there p.0, p.1)) (λ p. (said_back p.0, p.1)) v in
      let v2 = subst (λ d. IsAnswer (sequence_conditions N h T (module_of rs n) (module_of rs e) (module_of rs a) (map_of rs f).matrices (map_of rs g).matrices
      (terms_in d) (rows_in h.field (claim_of rs (hom_in (claim_of rs l)))) (ideal_in h.field (claim_of rs l)) s) r) terms_same v1 in
      let v3 = subst (λ d. IsAnswer (sequence_conditions N h T (module_of rs n) (module_of rs e) (module_of rs a) (map_of rs f).matrices (map_of rs g).matrices
      (terms_in (claim_of front c)) (rows_in h.field (claim_of rs (hom_in d))) (ideal_in h.field d) s) r) local_same v2 in
      let v4 = subst (λ d. IsAnswer (sequence_conditions N h T (module_of rs n) (module_of rs e) (module_of rs a) (map_of rs f).matrices (map_of rs g).matrices
      (terms_in (claim_of front c)) (rows_in h.field d) (ideal_in h.field (claim_of front l)) s) r) homs_same v3 in
      by_objects h T N (map_of rs f) (map_of front f) (map_of rs g) (map_of front g) (module_of rs n) (module_of front n) (module_of rs e) (module_of front e) (module_of rs a) (module_of front a) r
      (terms_in (claim_of front c)) (rows_in h.field (claim_of front (hom_in (claim_of front l)))) (ideal_in h.field (claim_of front l)) s
      (whole_map k rs f x.first.is_map) (whole_map k rs g x.second.is_map) (whole_module k rs n x.first.is_module) (whole_module k rs e x.second.is_module) (whole_module k rs a x.ends) v4

-- ---- what the decider asks

-- over the header of the table
module _ (report : Report) (table : TableView) (t : IsTableOf report table) where
  pub map_over : (x y : Module) (ms : List PlainMatrix) → IsMap report.header.field (quiver_of report.header.quiver) x y ms → IsMap table.header.field (quiver_of table.header.quiver) x y ms
  map_over x y ms m = subst (λ (g : Header). IsMap g.field (quiver_of g.quiver) x y ms) (sym t.header) m

  pub field_over : (m : PlainMatrix) → m.field ≡ report.header.field → m.field ≡ table.header.field
  field_over m e = e ∙ ap (λ (g : Header). g.field) (sym t.header)

  pub families_over : (n : ℕ) (m : Module) → n ≡ (families_of report.header m).size → n ≡ (families_of table.header m).size
  families_over n m e = subst (λ (g : Header). n ≡ (families_of g m).size) (sym t.header) e

  pub functional_over : (a c of m : ℕ) (terms : List TermRows) (phi : List ℕ) (am : Module) → am ≡ module_of report.records a → claim_of report.records c ≡ claim.Resolution of m terms
      → IsRow report.header.field (count_at report.header (module_of report.records a) (vertices_at (terms_in (claim_of report.records c)) 0)) phi
      → IsRow table.header.field (total (length (vertices_at terms 0)) (λ j. dim_at (quiver_of table.header.quiver) am.dims (vertex_in (vertices_at terms 0) j))) phi
  functional_over a c of m terms phi am ea ec row =
      subst (λ (g : Header). IsRow g.field (total (length (vertices_at terms 0)) (λ j. dim_at (quiver_of g.quiver) am.dims (vertex_in (vertices_at terms 0) j))) phi) (sym t.header)
      (subst (λ d. IsRow report.header.field (count_at report.header d (vertices_at terms 0)) phi) (sym ea)
      (subst (λ z. IsRow report.header.field (count_at report.header (module_of report.records a) (vertices_at (terms_in z) 0)) phi) ec row))

  pub sequence_bytes : (n e a f g c l : ℕ) (phi : List ℕ) (left middle : List PlainMatrix) (members most : ℕ) (bytes numbers : List ℕ) → members ≤ most → most ≤ unknown_limit
      → HasClaimRoom (claim.AlmostSplit n e a f g c l phi left middle) bytes numbers → sequence_room (length table.words) members ≤ length bytes
  sequence_bytes n e a f g c l phi left middle members most bytes numbers less limit room =
      let few = t.is.few in
      let b : 400896 ≤ length bytes = room.bytes_there in
      omega (arith, few, less, limit, b)

  -- the embedding of the middle, where the resolution is one of module a
  pub middle_over : (e a c of m : ℕ) (terms : List TermRows) (middle : List PlainMatrix) (em am : Module) → em ≡ module_of report.records e → am ≡ module_of report.records a
      → claim_of report.records c ≡ claim.Resolution of m terms → am ≡ module_of report.records of
      → AtVertices report.header report.records (dim_of report.header (module_of report.records e)) (λ w. dual_dim report.header report.records c 1 w + dim_of report.header (module_of report.records a) w) middle
      → AreMatrices table.header.field (vertex_count table.header.quiver) (dim_at (quiver_of table.header.quiver) em.dims)
      (λ w. sum_dim table.words (other_side am.side) (vertices_at terms 1) w + dim_at (quiver_of table.header.quiver) am.dims w) middle
  middle_over e a c of m terms middle em am ee ea ec eo s =
      subst (λ (g : Header). AreMatrices g.field (vertex_count g.quiver) (dim_at (quiver_of g.quiver) em.dims) (λ w. sum_dim table.words (other_side am.side) (vertices_at terms 1) w + dim_at (quiver_of g.quiver) am.dims w) middle)
      (sym t.header)
      (matrices_by report.header.field (vertex_count report.header.quiver) (dim_of report.header (module_of report.records e)) (dim_at (quiver_of report.header.quiver) em.dims)
      (λ w. dual_dim report.header report.records c 1 w + dim_of report.header (module_of report.records a) w)
      (λ w. sum_dim table.words (other_side am.side) (vertices_at terms 1) w + dim_at (quiver_of report.header.quiver) am.dims w) middle
      (λ i. ap (λ (y : Module). dim_at (quiver_of report.header.quiver) y.dims i) (sym ee))
      (λ i. ap (λ z. z + dim_of report.header (module_of report.records a) i) (dual_is report table t c of m terms ec am eo 1 i)
      ∙ ap (λ (y : Module). sum_dim table.words (other_side am.side) (vertices_at terms 1) i + dim_at (quiver_of report.header.quiver) y.dims i) (sym ea)) s)

pub few_generators : (report : Report) (of m : ℕ) (terms : List TermRows) → IsResolutionBlock report.header report.records of m terms → length (vertices_at terms 0) < 4294967296
few_generators report of m terms b = b.few 0 (omega arith)
