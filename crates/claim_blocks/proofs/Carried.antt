-- The numbers and shapes of a claim do not look at the claim of its own record.
use Rattle.std.proofs.Common.{◌≡◌, ℕ, suc, ◌+◌, ◌<◌, ◌≤◌, List, [], ◌∷◌, ◌++◌, length, refl, sym, ap, ◌∙◌, subst, arith}
use Rattle.std.proofs.lemmas.List.Elements.{All-weaker}
use Rattle.linear_algebra.specs.BlockFamilies.{total}
use Rattle.linear_algebra.specs.Rows.{IsRow}
use Rattle.quiver_paths.proofs.ListLemmas.{length-pushed}
use Rattle.quiver_paths.specs.declared.Path.{Path}
use Rattle.quiver_paths.specs.Quiver.{vertex_count}
use Rattle.fp_linear.specs.Matrix.{PlainMatrix}
use Rattle.path_algebra.specs.declared.Header.{Header}
use Rattle.path_algebra.specs.Derivations.{IsNumber}
use Rattle.bound_algebra.specs.TypedPaths.{quiver_of}
use Rattle.module_types.specs.declared.Map.{Map}
use Rattle.module_types.specs.declared.Module.{Module}
use Rattle.module_types.specs.Shapes.{AreMatrices, IsTerm}
use Rattle.claim_conditions.specs.Terms.{term_at, vertices_at}
use Rattle.report_types.specs.declared.claims.Claim.{Claim}
use Rattle.report_types.specs.declared.claims.Claim.TheVariants as claim
use Rattle.report_types.specs.declared.claims.PartClaim.{PartClaim}
use Rattle.report_types.specs.declared.claims.Record.{Record}
use Rattle.report_types.specs.declared.claims.Translation.{Translation}
use Rattle.report_types.specs.declared.claims.Translation.TheVariants.{Tau, Transpose, Taui}
use Rattle.report_types.specs.ClaimBlocks.{AreRows, NamesResolution, NamesBoth, IsPart, IsPresentation, HasTranslateShape, IsClaimBlock}
use Rattle.report_types.specs.Limits.{unknown_limit, term_limit}
use Rattle.report_types.specs.NamedClaims.{IsHomClaim, HasLength, IsLocalClaim, rows_in, terms_in, resolved_in}
use Rattle.report_types.specs.Numbers.{modules_of, maps_of, numbered, no_module, claim_of, NamesModule, NamesMap, NamesClaim}
use Rattle.report_types.specs.WordDimensions.{dim_of, words_in, printed_words, projective_dim, injective_dim, covered_dim, unknown_count, count_at}
use Rattle.claim_blocks.proofs.ObjectLists.{claim_earlier, same_modules, same_maps}

module _ (h : Header) (before : List Record) (r s : Record) (modules : r.modules ≡ s.modules) (maps : r.maps ≡ s.maps) where
  abbrev pub rs : List Record
  rs = before ++ r ∷ []

  abbrev pub ss : List Record
  ss = before ++ s ∷ []

  M : modules_of rs ≡ modules_of ss
  M = same_modules before r s modules

  F : maps_of rs ≡ maps_of ss
  F = same_maps before r s maps

  long : length rs ≡ suc (length before)
  long = let l = length-pushed before rs r refl in omega (arith, l)

  long_too : length ss ≡ suc (length before)
  long_too = let l = length-pushed before ss s refl in omega (arith, l)

  C : (n : ℕ) → NamesClaim rs n → claim_of rs n ≡ claim_of ss n
  C n is = let e = is.earlier in let l : n ≤ length before = omega (arith, e, long) in claim_earlier before r n l ∙ sym (claim_earlier before s n l)

  W : 0 < length before → printed_words rs ≡ printed_words ss
  W some = ap words_in (claim_earlier before r 1 (omega (arith, some)) ∙ sym (claim_earlier before s 1 (omega (arith, some))))

  module_too : (n : ℕ) → NamesModule rs n → NamesModule ss n
  module_too n is = subst (λ (ms : List Module). IsNumber (length ms) n) M is

  map_too : (n : ℕ) → NamesMap rs n → NamesMap ss n
  map_too n is = subst (λ (fs : List Map). IsNumber (length fs) n) F is

  claim_too : (n : ℕ) → NamesClaim rs n → NamesClaim ss n
  claim_too n is = record { from = is.from; earlier = let e = is.earlier in omega (arith, e, long, long_too) }

  both_too : (m f : ℕ) → NamesBoth h rs m f → NamesBoth h ss m f
  both_too m f is = record { is_module = module_too m is.is_module; is_map = map_too f is.is_map }

  resolution_too : (c n : ℕ) → NamesResolution h rs c n → NamesResolution h ss c n
  resolution_too c n is = record { named = claim_too c is.named; length = subst (λ (k : Claim). HasLength k n) (C c is.named) is.length }

  part_too : (p : PartClaim) → IsPart h rs p → IsPart h ss p
  part_too p is = record { is_module = module_too p.module is.is_module; named = claim_too p.local is.named; is_local = subst IsLocalClaim (C p.local is.named) is.is_local }

  module _ (some : 0 < length before) where
    -- the modules, the words and a claim
    abbrev pub Three : Type 0
    Three = List Module × List Path × Claim

    three : (c : ℕ) → NamesClaim rs c → ◌≡◌ {A = Three} (modules_of rs, printed_words rs, claim_of rs c) (modules_of ss, printed_words ss, claim_of ss c)
    three c is = λ i. (M i, W some i, C c is i)

    abbrev pub dual : Three → ℕ → ℕ → ℕ
    dual t k = injective_dim t.1 (numbered no_module t.0 (resolved_in t.2)).side (vertices_at (terms_in t.2) k)

    presentation_too : (c : ℕ) → IsPresentation h rs c → IsPresentation h ss c
    presentation_too c is = record {
      resolution = resolution_too c 1 is.resolution;
      small = λ k l. subst (λ (t : Three). total (vertex_count h.quiver) (dual t k) ≤ term_limit) (three c is.resolution.named) (is.small k l);
    }

    translate_too : (which : Translation) (n c : ℕ) (rows : List PlainMatrix) → NamesClaim rs c → HasTranslateShape h rs which n c rows → HasTranslateShape h ss which n c rows
    translate_too Tau n c rows named is = subst (λ (t : Three). AreMatrices h.field (vertex_count h.quiver) (dim_of h (numbered no_module t.0 n)) (dual t 1) rows) (three c named) is
    translate_too Transpose n c rows named is = subst (λ (t : Three). AreMatrices h.field (vertex_count h.quiver) (dual t 1) (dim_of h (numbered no_module t.0 n)) rows) (three c named) is
    translate_too (Taui b) n c rows named is = (
      module_too b is.0,
      subst (λ (t : Three). AreMatrices h.field (vertex_count h.quiver) (dual t 1) (dim_of h (numbered no_module t.0 n)) rows) (three c named) is.1,
    )

    abbrev pub Two : Type 0
    Two = List Module × List Path

    two : ◌≡◌ {A = Two} (modules_of rs, printed_words rs) (modules_of ss, printed_words ss)
    two = λ i. (M i, W some i)

    pub block_too : (c : Claim) → IsClaimBlock h rs c → IsClaimBlock h ss c
    block_too (claim.Basis words steps rules) is = is
    block_too (claim.Module m) is = module_too m is
    block_too (claim.Map f) is = map_too f is
    block_too (claim.Hom a b rows) is = record {
      first = module_too a is.first;
      second = module_too b is.second;
      small = subst (λ (ms : List Module). unknown_count h (numbered no_module ms a) (numbered no_module ms b) ≤ unknown_limit) M is.small;
      are_rows = subst (λ (ms : List Module). AreRows h (unknown_count h (numbered no_module ms a) (numbered no_module ms b)) rows) M is.are_rows;
    }
    block_too (claim.Kernel n f i) is = record { objects = both_too n f is.objects; is_map = map_too i is.is_map }
    block_too (claim.Cokernel n f p) is = record { objects = both_too n f is.objects; is_map = map_too p is.is_map }
    block_too (claim.Radical n a i) is = record { objects = both_too n i is.objects; is_module = module_too a is.is_module }
    block_too (claim.Resolution a n terms) is = record {
      named = module_too a is.named;
      short = is.short;
      counted = is.counted;
      few = is.few;
      each = λ k l. subst (λ (t : Two). IsTerm h.field (quiver_of h.quiver) (covered_dim t.1 h (numbered no_module t.0 a) terms k) (term_at terms k)) two (is.each k l);
      small = λ k l. subst (λ (t : Two). total (vertex_count h.quiver) (projective_dim t.1 (numbered no_module t.0 a).side (vertices_at terms k)) ≤ term_limit) two (is.small k l);
    }
    block_too (claim.Ext n a b rows c) is = record {
      first = module_too a is.first;
      second = module_too b is.second;
      resolution = resolution_too c (suc n) is.resolution;
      small = subst (λ (t : Three). count_at h (numbered no_module t.0 b) (vertices_at (terms_in t.2) n) ≤ unknown_limit) (three c is.resolution.named) is.small;
      are_rows = subst (λ (t : Three). AreRows h (count_at h (numbered no_module t.0 b) (vertices_at (terms_in t.2) n)) rows) (three c is.resolution.named) is.are_rows;
    }
    block_too (claim.Local m c ideal power residue) is = record {
      is_module = module_too m is.is_module;
      named = claim_too c is.named;
      homs = subst IsHomClaim (C c is.named) is.homs;
      are_rows = subst (λ (k : Claim). AreRows h (rows_in h.field k).row_count ideal) (C c is.named) is.are_rows;
      power_from = is.power_from;
      power_to = is.power_to;
    }
    block_too (claim.Decomposition a s' f g parts) is = record {
      whole = both_too a f is.whole;
      sum = both_too s' g is.sum;
      each = All-weaker (IsPart h rs) (IsPart h ss) part_too parts is.each;
    }
    block_too (claim.Translate which n a c rows) is = record {
      is_module = module_too n is.is_module;
      named = module_too a is.named;
      presentation = presentation_too c is.presentation;
      shape = translate_too which n c rows is.presentation.resolution.named is.shape;
    }
    block_too (claim.AlmostSplit n e a f g c l phi left middle) is =
        let t = three c is.presentation.resolution.named in
        record {
          first = both_too n f is.first;
          second = both_too e g is.second;
          ends = module_too a is.ends;
          presentation = presentation_too c is.presentation;
          named = claim_too l is.named;
          is_local = subst IsLocalClaim (C l is.named) is.is_local;
          functional = subst (λ (t : Three). IsRow h.field (count_at h (numbered no_module t.0 a) (vertices_at (terms_in t.2) 0)) phi) t is.functional;
          left_shape = subst (λ (t : Three). AreMatrices h.field (vertex_count h.quiver) (dim_of h (numbered no_module t.0 n)) (dual t 1) left) t is.left_shape;
          middle_shape = subst (λ (t : Three). AreMatrices h.field (vertex_count h.quiver) (dim_of h (numbered no_module t.0 e)) (λ w. dual t 1 w + dim_of h (numbered no_module t.0 a) w) middle) t is.middle_shape;
        }
