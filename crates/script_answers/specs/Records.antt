-- Records of statements: what they print, what they claim, and by which numbers they name it.
use Rattle.std.specs.Prelude.{ℕ, ◌≡◌, ◌+◌, List, [], ◌∷◌, ◌++◌, length}
use Rattle.fp_linear.specs.Matrix.{PlainMatrix}
use Rattle.path_algebra.specs.declared.Header.{Header}
use Rattle.projectives.specs.Words.{projective}
use Rattle.projectives.specs.Injective.{injective}
use Rattle.module_types.specs.declared.Side.TheVariants.{Right}
use Rattle.module_types.specs.declared.Module.{Module}
use Rattle.module_types.specs.declared.Map.{Map}
use Rattle.module_types.specs.declared.TermRows.{TermRows}
use Rattle.bound_algebra.specs.TypedPaths.{quiver_of}
use Rattle.module_types.specs.Algebras.{algebra_at}
use Rattle.module_types.specs.Written.{written, simple_at, block_sum_of}
use Rattle.claim_conditions.specs.declared.Residue.{Residue}
use Rattle.claim_conditions.specs.Locals.{LocalHolds}
use Rattle.script_types.specs.declared.Standard.{Standard}
use Rattle.script_types.specs.declared.Standard.TheVariants.{Simple, Projective, Injective}
use Rattle.report_types.specs.declared.claims.Claim.{Claim}
use Rattle.report_types.specs.declared.claims.Claim.TheVariants as claim
use Rattle.report_types.specs.declared.claims.PartClaim.{PartClaim}
use Rattle.report_types.specs.declared.claims.Translation.{Translation}
use Rattle.report_types.specs.declared.claims.Record.{Record}
use Rattle.report_types.specs.Numbers.{modules_of}
use Rattle.report_types.specs.Verdicts.{NormalWords, sides_by}
use Rattle.script_answers.specs.Settings.{Setting}

-- the numbers of the next module, of the next map and of the next claim
abbrev pub next_module : Setting → ℕ
next_module at = length at.modules + 1

abbrev pub next_map : Setting → ℕ
next_map at = length at.maps + 1

abbrev pub next_claim : Setting → ℕ
next_claim at = at.claims + 1

-- ---- what is printed

-- no new object; one new module; one new module, and one new map from a module to a module, named by their numbers
pub record PrintsNothing (r : Record) : Type 0 where
  pub modules : r.modules ≡ []
  pub maps : r.maps ≡ []

pub record PrintsModule (m : Module) (r : Record) : Type 0 where
  pub modules : r.modules ≡ m ∷ []
  pub maps : r.maps ≡ []

abbrev pub IsMapOf : (source target : ℕ) → Map → Type 0
IsMapOf source target f = (f.source ≡ source) × (f.target ≡ target)

pub record PrintsPart (source target : ℕ) (r : Record) : Type 0 where
  pub printed_module : Module
  pub modules : r.modules ≡ printed_module ∷ []
  pub printed_map : Map
  pub maps : r.maps ≡ printed_map ∷ []
  pub goes : IsMapOf source target printed_map

-- ---- what is claimed: of what is found by computing, that there is some

-- a basis of the homomorphisms from module a to module b
pub record ClaimsHom (a b : ℕ) (r : Record) : Type 0 where
  pub rows : PlainMatrix
  pub claims : r.claim ≡ claim.Hom a b rows

-- terms 0 to n of a resolution of module a
pub record ClaimsResolution (a n : ℕ) (r : Record) : Type 0 where
  pub terms : List TermRows
  pub claims : r.claim ≡ claim.Resolution a n terms

-- extensions of degree n of module a by module b, over this resolution
pub record ClaimsExtensions (n a b resolution : ℕ) (r : Record) : Type 0 where
  pub rows : PlainMatrix
  pub claims : r.claim ≡ claim.Ext n a b rows resolution

-- module a is local, by this claim on its endomorphisms
pub record ClaimsLocal (a hom : ℕ) (r : Record) : Type 0 where
  pub ideal : PlainMatrix
  pub power : ℕ
  pub residue : Residue
  pub claims : r.claim ≡ claim.Local a hom ideal power residue

-- module n is a translate, a transpose or an inverse translate of module a, by this resolution
pub record ClaimsTranslate (which : Translation) (n a resolution : ℕ) (r : Record) : Type 0 where
  pub rows : List PlainMatrix
  pub claims : r.claim ≡ claim.Translate which n a resolution rows

-- ---- records

-- the module, as the next one
pub record IsModuleRecord (at : Setting) (m : Module) (r : Record) : Type 0 where
  pub prints : PrintsModule m r
  pub claims : r.claim ≡ claim.Module (next_module at)

-- the simple, the projective or the injective right module at a vertex, by the normal words
abbrev pub standard : {h : Header} → NormalWords h → Standard → ℕ → Module
standard {h} n Simple v = simple_at h.field (quiver_of h.quiver) Right v
standard {h} n Projective v = written Right (projective (sides_by n).words v)
standard {h} n Injective v = written Right (injective (sides_by n) v)

abbrev pub IsStandardRecord : Setting → Standard → ℕ → Record → Type 0
IsStandardRecord at which v r = (n : NormalWords at.header) → IsModuleRecord at (standard n which v) r

-- the map with these matrices from module a to module b, as the next one
pub record IsMapRecord (at : Setting) (a b : ℕ) (matrices : List PlainMatrix) (r : Record) : Type 0 where
  pub modules : r.modules ≡ []
  pub maps : r.maps ≡ record { source = a; target = b; matrices = matrices } ∷ []
  pub claims : r.claim ≡ claim.Map (next_map at)

-- a new module with a new map from it or to it, and a claim on both
pub record IsPartRecord (source target : ℕ) (claimed : Claim) (r : Record) : Type 0 where
  pub prints : PrintsPart source target r
  pub claims : r.claim ≡ claimed

pub record IsHomRecord (a b : ℕ) (r : Record) : Type 0 where
  pub prints : PrintsNothing r
  pub claims : ClaimsHom a b r

pub record IsLocalRecord (a hom : ℕ) (r : Record) : Type 0 where
  pub prints : PrintsNothing r
  pub claims : ClaimsLocal a hom r

-- module a is local, and this is shown: a basis of its endomorphisms, and the claim by it
pub record AreLocalRecords (at : Setting) (a : ℕ) (m : Module) (hom loc : Record) : Type 0 where
  pub is_local : LocalHolds at.header m
  pub homs : IsHomRecord a a hom
  pub local : IsLocalRecord a (next_claim at) loc

pub record IsResolutionRecord (a n : ℕ) (r : Record) : Type 0 where
  pub prints : PrintsNothing r
  pub claims : ClaimsResolution a n r

pub record IsExtensionRecord (n a b resolution : ℕ) (r : Record) : Type 0 where
  pub prints : PrintsNothing r
  pub claims : ClaimsExtensions n a b resolution r

-- A resolution of the dual of a module, which is printed as the next one.
pub record IsDualResolution (at : Setting) (dual : Module) (n : ℕ) (r : Record) : Type 0 where
  pub prints : PrintsModule dual r
  pub claims : ClaimsResolution (next_module at) n r

-- a new module, and that it is a translate of module a
pub record IsTranslateRecord (which : Translation) (n a resolution : ℕ) (r : Record) : Type 0 where
  pub printed_module : Module
  pub prints : PrintsModule printed_module r
  pub claims : ClaimsTranslate which n a resolution r

-- The left end and the middle of a sequence that ends in module a, its maps, and that it is almost split by this resolution and this local claim.
pub record IsSequenceRecord (at : Setting) (a resolution local : ℕ) (r : Record) : Type 0 where
  pub left : Module
  pub middle : Module
  pub modules : r.modules ≡ left ∷ (middle ∷ [])
  pub first : Map
  pub second : Map
  pub maps : r.maps ≡ first ∷ (second ∷ [])
  pub first_goes : IsMapOf (next_module at) (next_module at + 1) first
  pub second_goes : IsMapOf (next_module at + 1) a second
  pub functional : List ℕ
  pub left_rows : List PlainMatrix
  pub middle_rows : List PlainMatrix
  pub claims : r.claim
      ≡ claim.AlmostSplit (next_module at) (next_module at + 1) a (next_map at) (next_map at + 1) resolution local functional left_rows middle_rows

-- ---- decompositions

-- A part behind the records of those before it: a claim on the endomorphisms of the module that it prints, and by it that this is local.
pub record IsPart (at : Setting) (before : List Record) (hom loc : Record) : Type 0 where
  pub part : Module
  pub prints : PrintsModule part hom
  pub homs : let k = next_module at + length (modules_of before) in ClaimsHom k k hom
  pub none : PrintsNothing loc
  pub local : ClaimsLocal (next_module at + length (modules_of before)) (next_claim at + length before) loc

-- The last record: it prints the block sum of the parts that were printed, and the maps from it to module a and back.
pub record IsSumRecord (at : Setting) (a : ℕ) (whole : Module) (parts : List PartClaim) (printed : List Module) (r : Record) : Type 0 where
  pub modules : r.modules ≡ block_sum_of at.header.field (algebra_at whole.side at.header).quiver whole.side printed ∷ []
  pub to : Map
  pub back : Map
  pub maps : r.maps ≡ to ∷ (back ∷ [])
  pub to_goes : IsMapOf (next_module at + length printed) a to
  pub back_goes : IsMapOf a (next_module at + length printed) back
  pub claims : r.claim ≡ claim.Decomposition a (next_module at + length printed) (next_map at) (next_map at + 1) parts

-- The records behind those of some parts: further parts, and the last record.
abbrev pub TakesParts : Setting → ℕ → Module → List Record → List PartClaim → List Record → Type 0
TakesParts at a whole before parts [] = ⊥
TakesParts at a whole before parts (r ∷ []) = IsSumRecord at a whole parts (modules_of before) r
TakesParts at a whole before parts (hom ∷ (loc ∷ rest)) =
    IsPart at before hom loc
    × TakesParts at a whole (before ++ hom ∷ (loc ∷ []))
    (parts ++ record { «module» = next_module at + length (modules_of before); local = next_claim at + length before + 1 } ∷ []) rest

-- all records of a decomposition of module a
abbrev pub IsDecomposition : Setting → ℕ → Module → List Record → Type 0
IsDecomposition at a whole records = TakesParts at a whole [] [] records
