-- Whether the lines of a claim may follow its first line is decided.
use Rattle.std.specs.Prelude.{slice_index}
use Rattle.std.proofs.Common.{◌≡◌, ℕ, zero, suc, ◌+◌, ◌≤◌, ◌<◌, ◌^◌, List, length, inl, inr, subst, arith}
use Rattle.std.proofs.lemmas.Bool.{cases_eq, cases_lt}
use Rattle.std.proofs.lemmas.List.Elements.{All-from_get_or}
use Rattle.linear_algebra.specs.BlockFamilies.{total}
use Rattle.quiver_paths.specs.Quiver.{vertex_count}
use Rattle.path_algebra.specs.declared.Header.{Header}
use Rattle.deciding.proofs.Deciding.{Decided, both, three, like, below, at_most, of_each}
use Rattle.report_types.specs.declared.claims.Claim.{Claim}
use Rattle.report_types.specs.declared.claims.Claim.TheVariants as claim
use Rattle.report_types.specs.declared.claims.Record.{Record}
use Rattle.report_types.specs.ClaimBlocks.{vertices_of, dual_dim}
use Rattle.report_types.specs.Limits.{unknown_limit, term_limit, resolution_limit}
use Rattle.report_types.specs.NamedClaims.{HasLength, IsHomClaim, IsLocalClaim}
use Rattle.report_types.specs.Numbers.{module_of, claim_of}
use Rattle.report_types.specs.WordDimensions.{dim_of}
use Rattle.claim_lines.specs.declared.heads.Head.{Head}
use Rattle.claim_lines.specs.declared.heads.Head.TheVariants as head
use Rattle.claim_blocks.specs.declared.row_block.Space.{Space}
use Rattle.claim_blocks.specs.declared.row_block.Space.TheVariants as space
use Rattle.claim_blocks.specs.declared.sequence_block.Sequence.{Sequence}
use Rattle.claim_blocks.specs.Blocks.{FitsHead}
use Rattle.claim_blocks.specs.RowBlocks.{width_of, FitsSpace, FitsRows}
use Rattle.claim_blocks.specs.SequenceBlocks.{sequence_of, AreNarrow, FitsSequence}
use Rattle.claim_blocks.specs.VertexBlocks.{FitsPresentation, dual_dims}

length_decided : (c : Claim) (n : ℕ) → Decided (HasLength c n)
length_decided (claim.Resolution a m terms) n = cases_eq m n
length_decided (claim.Basis words steps rules) n = inr (λ x. x)
length_decided (claim.Module m) n = inr (λ x. x)
length_decided (claim.Map f) n = inr (λ x. x)
length_decided (claim.Hom a b rows) n = inr (λ x. x)
length_decided (claim.Kernel m f i) n = inr (λ x. x)
length_decided (claim.Cokernel m f i) n = inr (λ x. x)
length_decided (claim.Radical m a i) n = inr (λ x. x)
length_decided (claim.Ext m a b rows c) n = inr (λ x. x)
length_decided (claim.Local m c ideal power residue) n = inr (λ x. x)
length_decided (claim.Decomposition a s f g parts) n = inr (λ x. x)
length_decided (claim.Translate which m a c rows) n = inr (λ x. x)
length_decided (claim.AlmostSplit m e a f g c l phi left middle) n = inr (λ x. x)

hom_decided : (c : Claim) → Decided (IsHomClaim c)
hom_decided (claim.Hom a b rows) = inl tt
hom_decided (claim.Basis words steps rules) = inr (λ x. x)
hom_decided (claim.Module m) = inr (λ x. x)
hom_decided (claim.Map f) = inr (λ x. x)
hom_decided (claim.Resolution a m terms) = inr (λ x. x)
hom_decided (claim.Kernel m f i) = inr (λ x. x)
hom_decided (claim.Cokernel m f i) = inr (λ x. x)
hom_decided (claim.Radical m a i) = inr (λ x. x)
hom_decided (claim.Ext m a b rows c) = inr (λ x. x)
hom_decided (claim.Local m c ideal power residue) = inr (λ x. x)
hom_decided (claim.Decomposition a s f g parts) = inr (λ x. x)
hom_decided (claim.Translate which m a c rows) = inr (λ x. x)
hom_decided (claim.AlmostSplit m e a f g c l phi left middle) = inr (λ x. x)

pub local_decided : (c : Claim) → Decided (IsLocalClaim c)
local_decided (claim.Local m c ideal power residue) = inl tt
local_decided (claim.Basis words steps rules) = inr (λ x. x)
local_decided (claim.Module m) = inr (λ x. x)
local_decided (claim.Map f) = inr (λ x. x)
local_decided (claim.Hom a b rows) = inr (λ x. x)
local_decided (claim.Resolution a m terms) = inr (λ x. x)
local_decided (claim.Kernel m f i) = inr (λ x. x)
local_decided (claim.Cokernel m f i) = inr (λ x. x)
local_decided (claim.Radical m a i) = inr (λ x. x)
local_decided (claim.Ext m a b rows c) = inr (λ x. x)
local_decided (claim.Decomposition a s f g parts) = inr (λ x. x)
local_decided (claim.Translate which m a c rows) = inr (λ x. x)
local_decided (claim.AlmostSplit m e a f g c l phi left middle) = inr (λ x. x)

-- of all numbers below a number
all_below : (P : ℕ → Type 0) → ((k : ℕ) → Decided (P k)) → (n : ℕ) → Decided ((k : ℕ) → k < n → P k)
all_below P each zero = inl (λ k l. absurd (omega (arith, l)))
all_below P each (suc n) = like (λ g k l. one_more P n k g.0 g.1 l) (λ f. (λ k l. f k (omega (arith, l)), f n (omega arith))) (both (all_below P each n) (each n))
  where
    one_more : (P : ℕ → Type 0) (n k : ℕ) → ((j : ℕ) → j < n → P j) → P n → k < suc n → P k
    one_more P n k before last l = elim (cases_lt k n) [
      | inl less ↦ before k less
      | inr past ↦ subst P (let e : n ≡ k = omega (arith, l, past) in e) last
    ]

-- of both terms of a presentation
of_both : (P : ℕ → Type 0) (k : ℕ) → P 0 → P 1 → k ≤ 1 → P k
of_both P zero first second l = first
of_both P (suc zero) first second l = second
of_both P (suc (suc k)) first second l = absurd (omega (arith, l))

both_decided : (P : ℕ → Type 0) → Decided (P 0) → Decided (P 1) → Decided ((k : ℕ) → k ≤ 1 → P k)
both_decided P first second = like (λ g k l. of_both P k g.0 g.1 l) (λ f. (f 0 (omega arith), f 1 (omega arith))) (both first second)

bytes_decided : (xs : List ℕ) → Decided ((j : ℕ) → j < length xs → slice_index xs j < 256)
bytes_decided xs = like (λ all j l. all j 0 l) (λ f. All-from_get_or (λ x. x < 256) xs 0 f) (of_each (λ x. x < 256) (λ x. below x 256) xs)

module _ (h : Header) (rs : List Record) where
  space_decided : (s : Space) → Decided (FitsSpace rs s)
  space_decided (space.Hom a b) = inl tt
  space_decided (space.Ext n a b c) = length_decided (claim_of rs c) (suc n)

  rows_decided : (s : Space) (count : ℕ) → Decided (FitsRows h rs s count)
  rows_decided s count =
      like (λ g. record { kind = g.0; small = g.1; few = g.2 }) (λ g. (g.kind, g.small, g.few))
      (three (space_decided s) (at_most (width_of h rs s) unknown_limit) (at_most count (width_of h rs s)))

  presentation_decided : (c : ℕ) → Decided (FitsPresentation h rs c)
  presentation_decided c =
      let small = λ (k : ℕ). at_most (total (vertex_count h.quiver) (dual_dim h rs c k)) term_limit in
      let places = λ (k : ℕ). bytes_decided (vertices_of h rs c k) in
      like (λ g. record { of_length = g.0; small = g.1; places = g.2 }) (λ g. (g.of_length, g.small, g.places))
      (three (length_decided (claim_of rs c) 1) (both_decided (λ k. total (vertex_count h.quiver) (dual_dim h rs c k) ≤ term_limit) (small 0) (small 1))
      (both_decided (λ k. (j : ℕ) → j < length (vertices_of h rs c k) → slice_index (vertices_of h rs c k) j < 256) (places 0) (places 1)))

  narrow_decided : (dims : List ℕ) (a : ℕ) → Decided (AreNarrow h rs dims a)
  narrow_decided dims a = all_below (λ w. slice_index dims w + dim_of h (module_of rs a) w < 2 ^ 32) (λ w. below (slice_index dims w + dim_of h (module_of rs a) w) (2 ^ 32)) (vertex_count h.quiver)

  sequence_decided : (s : Sequence) → Decided (FitsSequence h rs s)
  sequence_decided s =
      like (λ g. record { presentation = g.0; is_local = g.1; narrow = g.2 }) (λ g. (g.presentation, g.is_local, g.narrow))
      (three (presentation_decided s.resolution) (local_decided (claim_of rs s.local)) (narrow_decided (dual_dims h rs s.resolution) s.right))

  pub lines_decided : (x : Head) → Decided (FitsHead h rs x)
  lines_decided (head.Hom a b count) = rows_decided (space.Hom a b) count
  lines_decided (head.Ext n a b count c) = rows_decided (space.Ext n a b c) count
  lines_decided (head.Local m c) = hom_decided (claim_of rs c)
  lines_decided head.Basis = inr (λ x. x)
  lines_decided (head.Module m) = inr (λ x. x)
  lines_decided (head.Map f) = inr (λ x. x)
  lines_decided (head.Kernel n f i) = inr (λ x. x)
  lines_decided (head.Cokernel n f p) = inr (λ x. x)
  lines_decided (head.Radical n a i) = inr (λ x. x)
  lines_decided (head.Resolution a n) = at_most n resolution_limit
  lines_decided (head.Decomposition a s f g parts) = inr (λ x. x)
  lines_decided (head.Translate which n a c) = presentation_decided c
  lines_decided (head.AlmostSplit n e a f g c l) = sequence_decided (sequence_of n e a f g c l)
