-- Refusals of a statement that records show, and these records.
use Rattle.std.specs.Prelude.{ℕ, zero, suc, ◌≡◌, ◌<◌, ◌≤◌, ◌⊎◌, ◌+◌, ◌-◌, nat_eq, not, List, [], ◌∷◌, length, Option, Some}
use Rattle.linear_algebra.specs.BlockFamilies.{total}
use Rattle.linear_algebra.specs.Ranks.{rank}
use Rattle.representations.specs.Submodule.{sub_rep}
use Rattle.projectives.specs.Canonical.{canonical_vertices}
use Rattle.module_types.specs.declared.Module.{Module}
use Rattle.module_types.specs.declared.TermRows.{TermRows}
use Rattle.module_types.specs.Algebras.{algebra_at, sided_words}
use Rattle.module_types.specs.Readings.{read}
use Rattle.module_types.specs.Shapes.{dimension}
use Rattle.module_types.specs.Presentations.{injective_term, nakayama_of, transposed_of}
use Rattle.claim_conditions.specs.Terms.{vertices_at}
use Rattle.claim_conditions.specs.ResolutionConditions.{OfCovered}
use Rattle.claim_conditions.specs.Translates.{presentation_of, transposed_term}
use Rattle.claim_conditions.specs.Locals.{LocalHolds}
use Rattle.script_types.specs.declared.StatementKind.{StatementKind}
use Rattle.script_types.specs.declared.StatementKind.TheVariants.{Resolve, Ext, Transpose, Tau, Taui, Ars}
use Rattle.report_types.specs.declared.claims.Record.{Record}
use Rattle.report_types.specs.declared.reports.Why.{Why}
use Rattle.report_types.specs.declared.reports.Why.TheVariants as why
use Rattle.report_types.specs.Limits.{term_limit}
use Rattle.report_types.specs.NamedClaims.{terms_in}
use Rattle.report_types.specs.Verdicts.{NormalWords, sides_by}
use Rattle.report_types.specs.WordDimensions.{count_at}
use Rattle.script_answers.specs.FirstTests.{first_of, unless, dim_limit, hom_limit, dual_limit_at}
use Rattle.script_answers.specs.Settings.{Setting, number_of, module_of}
use Rattle.script_answers.specs.Refusals.{projectives_dim, injectives_dim, cover_dim, dual_written}
use Rattle.script_answers.specs.Records.{AreLocalRecords, IsResolutionRecord, IsDualResolution, IsDecomposition}

-- the terms that a record prints
abbrev pub terms_of : Record → List TermRows
terms_of r = terms_in r.claim

-- ---- terms

-- The term behind terms 0 to s − 1 of the minimal resolution of m, the projective cover of the kernel of the map before, has this dimension, more than a
-- term may have.
pub record IsLargeTerm (at : Setting) (m : Module) (terms : List TermRows) (s dim : ℕ) : Type 0 where
  pub is : (n : NormalWords at.header) → OfCovered (sided_words m.side (sides_by n)).words (read at.header m) terms s
      (λ U. dim ≡ projectives_dim at m.side (canonical_vertices (sub_rep U)))
  pub large : term_limit < dim

-- A resolution that is to have terms 0 to n has them up to a place before, and the next one is too large.
pub record StopsBefore (at : Setting) (m : Module) (n before : ℕ) (r : Record) (w : Why) : Type 0 where
  pub dim : ℕ
  pub is : w ≡ why.TermLimit (suc before) dim
  pub inside : suc before ≤ n
  pub large : IsLargeTerm at m (terms_of r) (suc before) dim

-- so of module a; of the dual of a module, which is printed with it
pub record StopsAtTerm (at : Setting) (a : ℕ) (m : Module) (n : ℕ) (r : Record) (w : Why) : Type 0 where
  pub before : ℕ
  pub shown : IsResolutionRecord a before r
  pub stops : StopsBefore at m n before r w

pub record DualStopsAtTerm (at : Setting) (dual : Module) (r : Record) (w : Why) : Type 0 where
  pub shown : IsDualResolution at dual zero r
  pub stops : StopsBefore at dual 1 zero r w

-- ---- extensions, over terms 0 to n + 1

-- the homomorphisms from term n to b; then those from the term before
abbrev pub before_limit : Setting → Module → List TermRows → ℕ → Option Why
before_limit at b terms zero = first_of []
before_limit at b terms (suc k) = hom_limit (count_at at.header b (vertices_at terms k))

abbrev pub extension_limit : Setting → Module → List TermRows → ℕ → Option Why
extension_limit at b terms n = first_of (hom_limit (count_at at.header b (vertices_at terms n)) ∷ before_limit at b terms n ∷ [])

-- ---- presentations

-- the injective modules of term 0, and then of term 1
abbrev pub dual_limit : Setting → Module → List TermRows → Option Why
dual_limit at m terms = first_of (dual_limit_at 0 (injectives_dim at m.side (vertices_at terms 0)) ∷ dual_limit_at 1 (injectives_dim at m.side (vertices_at terms 1)) ∷ [])

-- the dimension of the translate: the kernel of the differential under the Nakayama functor; of the transpose: the cokernel of the transposed differential
abbrev pub translate_dim : (at : Setting) (m : Module) → List TermRows → NormalWords at.header → ℕ
translate_dim at m terms n =
    let T = sided_words m.side (sides_by n) in
    let p = presentation_of terms in
    total (algebra_at m.side at.header).quiver.vertices (λ w. (injective_term T p.syzygy).dim w - rank ((nakayama_of T p).at w))

abbrev pub transpose_dim : (at : Setting) (m : Module) → List TermRows → NormalWords at.header → ℕ
transpose_dim at m terms n =
    let T = sided_words m.side (sides_by n) in
    let p = presentation_of terms in
    total (algebra_at m.side at.header).quiver.vertices (λ w. (transposed_term T p.syzygy).dim w - rank ((transposed_of T p).at w))

abbrev pub translate_refused : (at : Setting) (m : Module) → List TermRows → NormalWords at.header → Option Why
translate_refused at m terms n = first_of (dual_limit at m terms ∷ dim_limit (translate_dim at m terms n) ∷ [])

abbrev pub transpose_refused : (at : Setting) (m : Module) → List TermRows → NormalWords at.header → Option Why
transpose_refused at m terms n = first_of (dual_limit at m terms ∷ dim_limit (transpose_dim at m terms n) ∷ [])

-- Of a sequence: term 1 has no generator; the injective modules; the left end, and then the middle, whose dimension is that of both ends.
abbrev pub sequence_refused : (at : Setting) (m : Module) → List TermRows → NormalWords at.header → Option Why
sequence_refused at m terms n = first_of (unless (not (nat_eq (length (vertices_at terms 1)) 0)) why.Projective ∷ dual_limit at m terms
    ∷ dim_limit (translate_dim at m terms n) ∷ dim_limit (translate_dim at m terms n + dimension m.dims) ∷ [])

-- by the normal words, the first refusal is this one
abbrev pub IsRefusal : (at : Setting) → (NormalWords at.header → Option Why) → Why → Type 0
IsRefusal at refused w = (n : NormalWords at.header) → refused n ≡ Some w

-- a resolution of module a of length 1; of the dual of a module, which is printed with it
pub record PresentationShows (at : Setting) (a : ℕ) (r : Record) (refused : List TermRows → NormalWords at.header → Option Why) (w : Why) : Type 0 where
  pub shown : IsResolutionRecord a 1 r
  pub is : IsRefusal at (refused (terms_of r)) w

pub record DualPresentationShows (at : Setting) (dual : Module) (r : Record) (w : Why) : Type 0 where
  pub shown : IsDualResolution at dual 1 r
  pub is : IsRefusal at (transpose_refused at dual (terms_of r)) w

pub record ExtensionStops (at : Setting) (n a : ℕ) (b : Module) (r : Record) (w : Why) : Type 0 where
  pub shown : IsResolutionRecord a (suc n) r
  pub is : extension_limit at b (terms_of r) n ≡ Some w

-- ---- sequences

-- the module is not local, by its decomposition
pub record IsDecomposable (at : Setting) (a : ℕ) (m : Module) (records : List Record) (w : Why) : Type 0 where
  pub is : w ≡ why.Decomposable
  pub shown : IsDecomposition at a m records
  pub not_local : LocalHolds at.header m → ⊥

-- term 0 of its resolution is too large
pub record IsLargeCover (at : Setting) (m : Module) (w : Why) : Type 0 where
  pub is : w ≡ why.TermLimit zero (cover_dim at m)
  pub large : term_limit < cover_dim at m

abbrev pub SequenceShows : Setting → (a : ℕ) → Module → List Record → Why → Type 0
SequenceShows at a m (hom ∷ (loc ∷ [])) w = AreLocalRecords at a m hom loc × IsLargeCover at m w
SequenceShows at a m (hom ∷ (loc ∷ (r ∷ []))) w =
    AreLocalRecords at a m hom loc × (StopsAtTerm at a m 1 r w ⊎ PresentationShows at a r (sequence_refused at m) w)
SequenceShows at a m records w = ⊥

-- ---- the table

abbrev pub ExtensionShows : Setting → (n a : ℕ) → Module → Module → Record → Why → Type 0
ExtensionShows at n a m b r w = StopsAtTerm at a m (suc n) r w ⊎ ExtensionStops at n a b r w

abbrev pub TranslateShows : (at : Setting) → (a : ℕ) → Module → (List TermRows → NormalWords at.header → Option Why) → Record → Why → Type 0
TranslateShows at a m refused r w = StopsAtTerm at a m 1 r w ⊎ PresentationShows at a r refused w

abbrev pub DualShows : Setting → (dual : Module) → Record → Why → Type 0
DualShows at dual r w = DualStopsAtTerm at dual r w ⊎ DualPresentationShows at dual r w

-- The statement is refused for this behind these records, some at least, which show it.
abbrev pub Shows : Setting → StatementKind → List Record → Why → Type 0
Shows at (Resolve a n) (r ∷ []) w = StopsAtTerm at (number_of at a) (module_of at a) n r w
Shows at (Ext n a b) (r ∷ []) w = ExtensionShows at n (number_of at a) (module_of at a) (module_of at b) r w
Shows at (Transpose name a) (r ∷ []) w = TranslateShows at (number_of at a) (module_of at a) (transpose_refused at (module_of at a)) r w
Shows at (Tau name a) (r ∷ []) w = TranslateShows at (number_of at a) (module_of at a) (translate_refused at (module_of at a)) r w
Shows at (Taui name a) (r ∷ []) w = DualShows at (dual_written at.header (module_of at a)) r w
Shows at (Ars a left middle) records w =
    IsDecomposable at (number_of at a) (module_of at a) records w ⊎ SequenceShows at (number_of at a) (module_of at a) records w
Shows at s records w = ⊥
