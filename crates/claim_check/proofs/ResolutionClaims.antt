-- Resolutions: what the format asks of them, over the whole report, and what their deciders ask.
use Rattle.std.proofs.Common.{ℕ, zero, suc, ◌≡◌, ◌≤◌, ◌<◌, List, length, refl, sym, ap, ◌∙◌, subst, arith}
use Rattle.std.specs.Prelude.{Option, take, slice_index, slice_index_or, []}
use Rattle.linear_algebra.specs.Field.{Gf}
use Rattle.linear_algebra.specs.Rows.{IsRow}
use Rattle.linear_algebra.specs.BlockFamilies.{total}
use Rattle.linear_algebra.proofs.BlockFamilies.{total_grows}
use Rattle.quiver_paths.specs.declared.Path.{Path}
use Rattle.quiver_paths.specs.Quiver.{vertex_count}
use Rattle.path_algebra.specs.declared.Header.{Header}
use Rattle.representations.specs.Quiver.{Quiver}
use Rattle.bound_algebra.specs.TypedPaths.{quiver_of}
use Rattle.alg_table.specs.TableView.{TableView, IsTable}
use Rattle.cover_checks.specs.Room.{IsResolutionRoom}
use Rattle.claim_check.specs.Room.{HasClaimRoom}
use Rattle.module_types.specs.declared.Side.{Side}
use Rattle.module_types.specs.declared.Side.TheVariants.{Right, Left}
use Rattle.module_types.specs.declared.Module.{Module}
use Rattle.module_types.specs.declared.TermRows.{TermRows}
use Rattle.module_types.specs.Shapes.{IsTerm}
use Rattle.module_checks.proofs.Walks.{dim_within}
use Rattle.claim_conditions.specs.declared.Clause.{Clause}
use Rattle.claim_conditions.specs.Conditions.{IsAnswer}
use Rattle.claim_conditions.specs.Modules.{Sides}
use Rattle.claim_conditions.specs.ResolutionConditions.{resolution_conditions}
use Rattle.claim_conditions.specs.Terms.{term_at, vertices_at}
use Rattle.term_rows.specs.SumDims.{sum_dim, covered_dim, AreTerms, IsRoomFor}
use Rattle.resolution_checks.specs.Room.{AreSmall}
use Rattle.report_types.specs.declared.claims.Claim.{Claim}
use Rattle.report_types.specs.declared.claims.Claim.TheVariants as claim
use Rattle.report_types.specs.declared.claims.Record.{Record}
use Rattle.report_types.specs.declared.reports.Report.{Report}
use Rattle.report_types.specs.Limits.{term_limit}
use Rattle.report_types.specs.Numbers.{module_of, claim_in, claim_of, NamesClaim}
use Rattle.report_types.specs.NamedClaims.{HasLength}
use Rattle.report_types.specs.ClaimBlocks.{IsResolutionBlock, IsClaimBlock}
use Rattle.report_types.specs.Lawful.{IsReport, IsModuleBlock, HasItsPlace}
use Rattle.report_types.specs.WordDimensions.{words_in, printed_words, projective_dim, covered_dim as counted_dim}
use Rattle.report_types.proofs.Fronts.{record_there, module_in_whole, claim_in_whole}
use Rattle.claim_check.specs.ClaimVerdicts.{IsTableOf}
use Rattle.claim_check.proofs.Named.{names_module, record_lawful}
use Rattle.claim_check.proofs.ByNumbers.{whole_module}

-- ---- the dimensions of sums of projective modules: as the deciders count them, and as the format does

pub same_sum : (words : List Path) (side : Side) (vertices : List ℕ) (w : ℕ) → sum_dim words side vertices w ≡ projective_dim words side vertices w
same_sum words Right vertices w = refl
same_sum words Left vertices w = refl

pub same_covered : (words : List Path) (h : Header) (m : Module) (terms : List TermRows) (k w : ℕ) → covered_dim words h m terms k w ≡ counted_dim words h m terms k w
same_covered words h m terms zero w = refl
same_covered words h m terms (suc k) w = same_sum words m.side (vertices_at terms k) w

-- a sum at a vertex is at most what all vertices have
pub sum_within : (words : List Path) (side : Side) (vertices : List ℕ) (n most w : ℕ) → total n (projective_dim words side vertices) ≤ most → w < n → sum_dim words side vertices w ≤ most
sum_within words side vertices n most w l b =
    let g = total_grows (projective_dim words side vertices) n w b in
    let e = same_sum words side vertices w in
    omega (arith, g, e, l)

term_by : (q : Gf) (Q : Quiver) (dim other : ℕ → ℕ) (t : TermRows) → ((w : ℕ) → dim w ≡ other w) → IsTerm q Q dim t → IsTerm q Q other t
term_by q Q dim other t e i = record {
  counted = i.counted;
  declared = i.declared;
  each = λ j l. subst (λ n. IsRow q n (slice_index_or t.images j [])) (e (slice_index t.vertices j)) (i.each j l);
}

-- ---- over the whole report, and over the records up to the claim

pub whole_words : (k : ℕ) (rs : List Record) → 1 < length (take k rs) → printed_words (take k rs) ≡ printed_words rs
whole_words k rs l = ap words_in (claim_in_whole k rs 1 (record { from = omega arith; earlier = l }))

pub resolution_in_whole : (h : Header) (k : ℕ) (rs : List Record) (a n : ℕ) (terms : List TermRows) → 1 < length (take k rs) → IsResolutionBlock h (take k rs) a n terms → IsResolutionBlock h rs a n terms
resolution_in_whole h k rs a n terms l x =
    let em = module_in_whole k rs a x.named in
    let ew = whole_words k rs l in
    record {
      named = names_module k rs a x.named;
      short = x.short;
      counted = x.counted;
      few = x.few;
      each = λ j b.
          subst (λ m. IsTerm h.field (quiver_of h.quiver) (counted_dim (printed_words rs) h m terms j) (term_at terms j)) em
          (subst (λ ws. IsTerm h.field (quiver_of h.quiver) (counted_dim ws h (module_of (take k rs) a) terms j) (term_at terms j)) ew (x.each j b));
      small = λ j b.
          subst (λ (m : Module). total (vertex_count h.quiver) (projective_dim (printed_words rs) m.side (vertices_at terms j)) ≤ term_limit) em
          (subst (λ ws. total (vertex_count h.quiver) (projective_dim ws (module_of (take k rs) a).side (vertices_at terms j)) ≤ term_limit) ew (x.small j b));
    }

pub resolution_at_front : (h : Header) (T : Sides h) (k : ℕ) (rs : List Record) (a n : ℕ) (terms : List TermRows) (r : Option Clause) → IsResolutionBlock h (take k rs) a n terms
    → IsAnswer (resolution_conditions h T (module_of rs a) terms n) r → IsAnswer (resolution_conditions h T (module_of (take k rs) a) terms n) r
resolution_at_front h T k rs a n terms r x y = subst (λ m. IsAnswer (resolution_conditions h T m terms n) r) (whole_module k rs a x.named) y

-- ---- a resolution that is named

pub only_resolution : (c : Claim) (n : ℕ) → HasLength c n → ((a m : ℕ) (terms : List TermRows) → c ≡ claim.Resolution a m terms → ⊥) → ⊥
only_resolution (claim.Basis words steps rules) n is f = is
only_resolution (claim.Module m) n is f = is
only_resolution (claim.Map g) n is f = is
only_resolution (claim.Hom a b rows) n is f = is
only_resolution (claim.Kernel m g i) n is f = is
only_resolution (claim.Cokernel m g p) n is f = is
only_resolution (claim.Radical m a i) n is f = is
only_resolution (claim.Resolution a m terms) n is f = f a m terms refl
only_resolution (claim.Ext m a b rows c) n is f = is
only_resolution (claim.Local m c ideal power residue) n is f = is
only_resolution (claim.Decomposition a s g h parts) n is f = is
only_resolution (claim.Translate which m a c rows) n is f = is
only_resolution (claim.AlmostSplit m e a g h c l phi left middle) n is f = is

pub resolution_named : (report : Report) → IsReport report → (c x m : ℕ) (terms : List TermRows) → NamesClaim report.records c → claim_of report.records c ≡ claim.Resolution x m terms
    → IsResolutionBlock report.header report.records x m terms
resolution_named report is c x m terms named e =
    let r = record_there report.records c named in
    let lawful = record_lawful report is c r.0 r.1 in
    let same = sym (ap claim_in r.1) ∙ e in
    resolution_in_whole report.header c report.records x m terms
    (subst (HasItsPlace (take c report.records) r.0) same lawful.place)
    (subst (IsClaimBlock report.header (take c report.records)) same lawful.claim)

-- ---- what deciders ask of terms

module _ (report : Report) (table : TableView) (t : IsTableOf report table) (x m : ℕ) (terms : List TermRows) (b : IsResolutionBlock report.header report.records x m terms) (xm : Module) (e : xm ≡ module_of report.records x) where
  pub are_terms : (n : ℕ) → n ≤ suc m → AreTerms table.words table.header xm terms n
  are_terms n l =
      let c = b.counted in
      subst (λ g. AreTerms table.words g xm terms n) (sym t.header)
      (subst (λ ws. AreTerms ws report.header xm terms n) (sym t.words)
      (subst (λ y. AreTerms (printed_words report.records) report.header y terms n) (sym e) (record {
        counted = omega (arith, c, l);
        each = λ k s.
            term_by report.header.field (quiver_of report.header.quiver) (counted_dim (printed_words report.records) report.header (module_of report.records x) terms k)
            (covered_dim (printed_words report.records) report.header (module_of report.records x) terms k) (term_at terms k)
            (λ w. sym (same_covered (printed_words report.records) report.header (module_of report.records x) terms k w)) (b.each k (omega (arith, s, l)));
      })))

  small_at : (y : Module) → IsModuleBlock report.header y → y ≡ module_of report.records x → (k : ℕ) → k ≤ suc m → IsRoomFor report.header (covered_dim (printed_words report.records) report.header y terms k) 512
  small_at y block same zero l = record { fits = λ w s. let d = dim_within (quiver_of report.header.quiver) y.dims w in let u = block.small in omega (arith, d, u) }
  small_at y block same (suc k) l = record {
    fits = λ w s.
        sum_within (printed_words report.records) y.side (vertices_at terms k) (vertex_count report.header.quiver) 512 w
        (subst (λ (z : Module). total (vertex_count report.header.quiver) (projective_dim (printed_words report.records) z.side (vertices_at terms k)) ≤ 512) (sym same) (b.small k (omega (arith, l)))) s;
  }

  pub are_small : IsModuleBlock report.header xm → (n : ℕ) → n ≤ suc m → AreSmall table.words table.header xm terms n
  are_small block n l =
      subst (λ g. AreSmall table.words g xm terms n) (sym t.header)
      (subst (λ ws. AreSmall ws report.header xm terms n) (sym t.words) (record { fits = λ k s. small_at xm block e k (omega (arith, s, l)) }))

  -- term k, on the side of the module
  pub term_room : (k : ℕ) → k ≤ m → IsRoomFor table.header (sum_dim table.words xm.side (vertices_at terms k)) 512
  term_room k l =
      subst (λ (g : Header). IsRoomFor g (sum_dim table.words xm.side (vertices_at terms k)) 512) (sym t.header)
      (subst (λ ws. IsRoomFor report.header (sum_dim ws xm.side (vertices_at terms k)) 512) (sym t.words) (record {
        fits = λ w s.
            sum_within (printed_words report.records) xm.side (vertices_at terms k) (vertex_count report.header.quiver) 512 w
            (subst (λ (z : Module). total (vertex_count report.header.quiver) (projective_dim (printed_words report.records) z.side (vertices_at terms k)) ≤ 512) (sym e) (b.small k l)) s;
      }))

-- a module of the report, over the header of its table
pub over_header : (report : Report) (table : TableView) → IsTableOf report table → (m : Module) → IsModuleBlock report.header m → IsModuleBlock table.header m
over_header report table t m b = subst (λ h. IsModuleBlock h m) (sym t.header) b

pub resolution_room : (a n : ℕ) (terms : List TermRows) (h : Header) (words : List Path) (bytes numbers : List ℕ) → IsTable h words → HasClaimRoom (claim.Resolution a n terms) bytes numbers
    → IsResolutionRoom (length words) bytes numbers
resolution_room a n terms h words bytes numbers t room =
    let f = t.few in
    let b : 1579008 ≤ length bytes = room.bytes_there in
    let k : 1537 ≤ length numbers = room.numbers_there in
    record { bytes_fit = omega (arith, f, b); numbers_fit = omega (arith, k) }
