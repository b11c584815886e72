-- The numbers and shapes of a claim, as the format has them: what it names stands before it and is of the kind that the form asks, and its matrices and rows
-- have the shapes that the dimensions, the printed words and the named claims give.
use Rattle.std.specs.Prelude.{ℕ, suc, ◌+◌, ◌≡◌, ◌<◌, ◌≤◌, ◌^◌, List, length, All}
use Rattle.linear_algebra.specs.BlockFamilies.{total}
use Rattle.linear_algebra.specs.Rows.{IsRow}
use Rattle.fp_linear.specs.Matrix.{PlainMatrix}
use Rattle.quiver_paths.specs.Quiver.{vertex_count}
use Rattle.path_algebra.specs.declared.Header.{Header}
use Rattle.bound_algebra.specs.TypedPaths.{quiver_of}
use Rattle.module_types.specs.declared.Side.{Side}
use Rattle.module_types.specs.declared.TermRows.{TermRows}
use Rattle.module_types.specs.Shapes.{HasShape, AreMatrices, IsTerm}
use Rattle.claim_conditions.specs.Terms.{term_at, vertices_at}
use Rattle.report_types.specs.declared.claims.Claim.{Claim}
use Rattle.report_types.specs.declared.claims.Claim.TheVariants as claim
use Rattle.report_types.specs.declared.claims.PartClaim.{PartClaim}
use Rattle.report_types.specs.declared.claims.Translation.{Translation}
use Rattle.report_types.specs.declared.claims.Translation.TheVariants.{Tau, Transpose, Taui}
use Rattle.report_types.specs.declared.claims.Record.{Record}
use Rattle.report_types.specs.Limits.{unknown_limit, term_limit, resolution_limit, power_limit}
use Rattle.report_types.specs.Numbers.{module_of, claim_of, NamesModule, NamesMap, NamesClaim}
use Rattle.report_types.specs.NamedClaims.{IsHomClaim, rows_in, HasLength, resolved_in, terms_in, IsLocalClaim}
use Rattle.report_types.specs.BasisBlocks.{IsBasisBlock}
use Rattle.report_types.specs.WordDimensions.{dim_of, printed_words, projective_dim, injective_dim, covered_dim, unknown_count, count_at}

-- at most so many rows as they are long, with entries in the field
pub record AreRows (h : Header) (width : ℕ) (rows : PlainMatrix) : Type 0 where
  pub shape : HasShape h.field rows.row_count width rows
  pub few : rows.row_count ≤ width

module _ (h : Header) (rs : List Record) where
  -- an earlier resolution of this length
  pub record NamesResolution (c n : ℕ) : Type 0 where
    pub named : NamesClaim rs c
    pub length : HasLength (claim_of rs c) n

  -- a module, and a map
  pub record NamesBoth (m f : ℕ) : Type 0 where
    pub is_module : NamesModule rs m
    pub is_map : NamesMap rs f

  pub record IsHomBlock (a b : ℕ) (rows : PlainMatrix) : Type 0 where
    pub first : NamesModule rs a
    pub second : NamesModule rs b
    pub small : unknown_count h (module_of rs a) (module_of rs b) ≤ unknown_limit
    pub are_rows : AreRows h (unknown_count h (module_of rs a) (module_of rs b)) rows

  -- N, and two maps
  pub record IsKernelBlock (n f i : ℕ) : Type 0 where
    pub objects : NamesBoth n f
    pub is_map : NamesMap rs i

  pub record IsRadicalBlock (n a i : ℕ) : Type 0 where
    pub objects : NamesBoth n i
    pub is_module : NamesModule rs a

  -- terms 0 to n, each with rows for its generators, which have numbers below 2^32, and of dimension at most 512
  pub record IsResolutionBlock (a n : ℕ) (terms : List TermRows) : Type 0 where
    pub named : NamesModule rs a
    pub short : n ≤ resolution_limit
    pub counted : length terms ≡ suc n
    pub few : (k : ℕ) → k ≤ n → length (vertices_at terms k) < 2 ^ 32
    pub each : (k : ℕ) → k ≤ n → IsTerm h.field (quiver_of h.quiver) (covered_dim (printed_words rs) h (module_of rs a) terms k) (term_at terms k)
    pub small : (k : ℕ) → k ≤ n → total (vertex_count h.quiver) (projective_dim (printed_words rs) (module_of rs a).side (vertices_at terms k)) ≤ term_limit

  pub record IsExtensionBlock (n a b : ℕ) (rows : PlainMatrix) (c : ℕ) : Type 0 where
    pub first : NamesModule rs a
    pub second : NamesModule rs b
    pub resolution : NamesResolution c (suc n)
    pub small : count_at h (module_of rs b) (vertices_at (terms_in (claim_of rs c)) n) ≤ unknown_limit
    pub are_rows : AreRows h (count_at h (module_of rs b) (vertices_at (terms_in (claim_of rs c)) n)) rows

  pub record IsLocalBlock (m c : ℕ) (ideal : PlainMatrix) (power : ℕ) : Type 0 where
    pub is_module : NamesModule rs m
    pub named : NamesClaim rs c
    pub homs : IsHomClaim (claim_of rs c)
    pub are_rows : AreRows h (rows_in h.field (claim_of rs c)).row_count ideal
    pub power_from : 1 ≤ power
    pub power_to : power ≤ power_limit

  -- a module, and an earlier local claim
  pub record IsPart (p : PartClaim) : Type 0 where
    pub is_module : NamesModule rs p.module
    pub named : NamesClaim rs p.local
    pub is_local : IsLocalClaim (claim_of rs p.local)

  pub record IsDecompositionBlock (a s f g : ℕ) (parts : List PartClaim) : Type 0 where
    pub whole : NamesBoth a f
    pub sum : NamesBoth s g
    pub each : All IsPart parts

  -- The side of the module that a resolution is of, and the vertices of its term k; the injective modules of that term, which at each vertex have the
  -- dimension of the transposed projective modules. Those of the terms 0 and 1 have dimension at most 512.
  abbrev pub side_of : ℕ → Side
  side_of c = (module_of rs (resolved_in (claim_of rs c))).side

  abbrev pub vertices_of : ℕ → ℕ → List ℕ
  vertices_of c k = vertices_at (terms_in (claim_of rs c)) k

  abbrev pub dual_dim : ℕ → ℕ → ℕ → ℕ
  dual_dim c k = injective_dim (printed_words rs) (side_of c) (vertices_of c k)

  pub record IsPresentation (c : ℕ) : Type 0 where
    pub resolution : NamesResolution c 1
    pub small : (k : ℕ) → k ≤ 1 → total (vertex_count h.quiver) (dual_dim c k) ≤ term_limit

  -- a matrix at each vertex, with rows and columns of these counts
  abbrev pub AtVertices : (rows columns : ℕ → ℕ) → List PlainMatrix → Type 0
  AtVertices rows columns = AreMatrices h.field (vertex_count h.quiver) rows columns

  -- the embedding of a translate, or a projection onto a transpose; and the dual that an inverse translate names
  abbrev pub HasTranslateShape : Translation → (n c : ℕ) → List PlainMatrix → Type 0
  HasTranslateShape Tau n c rows = AtVertices (dim_of h (module_of rs n)) (dual_dim c 1) rows
  HasTranslateShape Transpose n c rows = AtVertices (dual_dim c 1) (dim_of h (module_of rs n)) rows
  HasTranslateShape (Taui b) n c rows = NamesModule rs b × AtVertices (dual_dim c 1) (dim_of h (module_of rs n)) rows

  pub record IsTranslateBlock (which : Translation) (n a c : ℕ) (rows : List PlainMatrix) : Type 0 where
    pub is_module : NamesModule rs n
    pub named : NamesModule rs a
    pub presentation : IsPresentation c
    pub shape : HasTranslateShape which n c rows

  pub record IsSequenceBlock (n e a f g c l : ℕ) (phi : List ℕ) (left middle : List PlainMatrix) : Type 0 where
    pub first : NamesBoth n f
    pub second : NamesBoth e g
    pub ends : NamesModule rs a
    pub presentation : IsPresentation c
    pub named : NamesClaim rs l
    pub is_local : IsLocalClaim (claim_of rs l)
    pub functional : IsRow h.field (count_at h (module_of rs a) (vertices_of c 0)) phi
    pub left_shape : AtVertices (dim_of h (module_of rs n)) (dual_dim c 1) left
    pub middle_shape : AtVertices (dim_of h (module_of rs e)) (λ w. dual_dim c 1 w + dim_of h (module_of rs a) w) middle

  -- a claim, over the records up to its own
  abbrev pub IsClaimBlock : Claim → Type 0
  IsClaimBlock (claim.Basis words steps rules) = IsBasisBlock h words steps rules
  IsClaimBlock (claim.Module m) = NamesModule rs m
  IsClaimBlock (claim.Map f) = NamesMap rs f
  IsClaimBlock (claim.Hom a b rows) = IsHomBlock a b rows
  IsClaimBlock (claim.Kernel n f i) = IsKernelBlock n f i
  IsClaimBlock (claim.Cokernel n f p) = IsKernelBlock n f p
  IsClaimBlock (claim.Radical n a i) = IsRadicalBlock n a i
  IsClaimBlock (claim.Resolution a n terms) = IsResolutionBlock a n terms
  IsClaimBlock (claim.Ext n a b rows c) = IsExtensionBlock n a b rows c
  IsClaimBlock (claim.Local m c ideal power residue) = IsLocalBlock m c ideal power
  IsClaimBlock (claim.Decomposition a s f g parts) = IsDecompositionBlock a s f g parts
  IsClaimBlock (claim.Translate which n a c rows) = IsTranslateBlock which n a c rows
  IsClaimBlock (claim.AlmostSplit n e a f g c l phi left middle) = IsSequenceBlock n e a f g c l phi left middle
