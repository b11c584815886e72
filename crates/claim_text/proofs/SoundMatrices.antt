-- What has been read of the matrices of a module or a map spells the lines that were read.
use Rattle.std.proofs.Common.{◌≡◌, ℕ, ◌+◌, ◌≤◌, List, [], ◌∷◌, ◌++◌, length, cond, inl, inr, refl, sym, ap, ◌∙◌, subst, arith, append_assoc}
use Rattle.std.proofs.lemmas.Bool.Decides.{eqb_tells}
use Rattle.fp_linear.specs.Matrix.{PlainMatrix}
use Rattle.path_algebra.specs.declared.Header.{Header}
use Rattle.text_lines.specs.Lines.{lines}
use Rattle.module_types.specs.declared.Side.{Side}
use Rattle.module_types.specs.declared.Side.TheVariants.{Right, Left}
use Rattle.module_types.specs.declared.Module.{Module}
use Rattle.module_types.specs.declared.Map.{Map}
use Rattle.module_types.specs.Algebras.{algebra_at}
use Rattle.quiver_paths.specs.Quiver.{vertex_count}
use Rattle.linear_algebra.specs.Field.{Gf}
use Rattle.module_types.specs.Shapes.{AreMatrices, IsModule, dimension, most_dimension}
use Rattle.object_lines.specs.Spelling.{at_line, at_lines}
use Rattle.report_types.specs.declared.claims.Claim.TheVariants as claim
use Rattle.report_types.specs.declared.claims.Record.{Record}
use Rattle.report_types.specs.Lawful.{IsMapBlock}
use Rattle.claim_lines.specs.Items.{counted}
use Rattle.claim_text.specs.declared.part.Owner.{Owner}
use Rattle.claim_text.specs.declared.part.Owner.TheVariants as owner
use Rattle.claim_text.specs.declared.part.Place.TheVariants as place
use Rattle.claim_text.specs.declared.part.Part.{Part}
use Rattle.claim_text.specs.Matrices.{filled}
use Rattle.claim_text.specs.Part.{unclaimed, here, counts_of, count_of, name_of, rows_of, columns_of, closed, at_matrices, fill, with_matrix}
use Rattle.claim_text.specs.Steps.{FitsMatrix, item_line}
use Rattle.claim_text.proofs.ObjectLists.{map_block_same, same_modules, modules_count, maps_count}
use Rattle.claim_text.proofs.MatrixBlocks.{push_matrix, push_filled, at_lines-filled, at_lines-push}
use Rattle.claim_text.proofs.Reached.{Lines}
use Rattle.claim_text.proofs.SoundObjects.{base_lines, with_modules, Base, sound_module, lines_module, sound_map, lines_map}
use Rattle.claim_text.proofs.SoundPlaces.{FitsOwner, item_of, AmongMatrices, SoundAt, Sound}

module_block : (h : Header) (side : Side) (dims : List ℕ) (matrices : List PlainMatrix) (rs : List Record) → length dims ≡ vertex_count h.quiver → dimension dims ≤ most_dimension
    → AreMatrices h.field (count_of h (owner.Module side)) (rows_of h dims rs (owner.Module side)) (columns_of h dims rs (owner.Module side)) matrices
    → IsModule h.field (algebra_at side h).quiver record { side = side; dims = dims; matrices = matrices }
module_block h Right dims matrices rs counted small are = record { counted = counted; small = small; matrices = are }
module_block h Left dims matrices rs counted small are = record { counted = counted; small = small; matrices = are }

sound_closed : (p : Part) (o : Owner) (ls : Lines) → AmongMatrices p o ls → length p.matrices ≡ count_of p.front.header o → Sound (closed (record p { place = place.Between }) o) ls
unfolding SoundAt
sound_closed p (owner.Module side) ls s whole =
    let h = p.front.header in
    let m : Module = record { side = side; dims = p.dims; matrices = p.matrices } in
    let count = modules_count p.records (unclaimed p) in
    let room = s.fits.room in
    let are = subst (λ n. AreMatrices h.field n (rows_of h p.dims (here p) (owner.Module side)) (columns_of h p.dims (here p) (owner.Module side)) p.matrices) whole s.are in
    record {
      base = sound_module h p.records p.modules p.maps m s.base s.fits.no_map (omega (arith, room, count)) (module_block h side p.dims p.matrices (here p) s.fits.counted s.fits.small are);
      lines = s.lines ∙ lines_module h p.records p.modules p.maps m ((counts_of p).modules + 1) s.fits.no_map (ap (λ n. n + 1) count);
    }
sound_closed p (owner.Map a b) ls s whole =
    let h = p.front.header in
    let f : Map = record { source = a; target = b; matrices = p.matrices } in
    let count = maps_count p.records (unclaimed p) in
    let room = s.fits.room in
    let are = subst (λ n. AreMatrices h.field n (rows_of h p.dims (here p) (owner.Map a b)) (columns_of h p.dims (here p) (owner.Map a b)) p.matrices) whole s.are in
    let block : IsMapBlock h (here p) f = record { source = s.fits.named_source; target = s.fits.named_target; matrices = are } in
    record {
      base = sound_map h p.records p.modules p.maps f s.base (omega (arith, room, count))
          (map_block_same h (here p) (with_modules p.records p.modules) f (same_modules p.records (unclaimed p) record { line = 0; modules = p.modules; maps = []; claim = claim.Module 0 } refl) block);
      lines = s.lines ∙ lines_map h p.records p.modules p.maps f ((counts_of p).maps + 1) (ap (λ n. n + 1) count);
    }

sound_matrices : (p : Part) (o : Owner) (ls : Lines) → AmongMatrices p o ls → Sound (at_matrices p o) ls
unfolding SoundAt
sound_matrices p o ls s = elim (eqb_tells (length p.matrices) (count_of p.front.header o)) [
  | inl same ↦ subst (λ b. Sound (cond b (closed (record p { place = place.Between }) o) (record p { place = place.Matrices o })) ls) (sym same.0) (sound_closed p o ls s same.1)
  | inr other ↦ subst (λ b. Sound (cond b (closed (record p { place = place.Between }) o) (record p { place = place.Matrices o })) ls) (sym other.0) (again p o ls s)
]
  where
    again : (p : Part) (o : Owner) (ls : Lines) → AmongMatrices p o ls → AmongMatrices (record p { place = place.Matrices o }) o ls
    again p (owner.Module side) ls s = record { base = s.base; fits = record { behind_basis = s.fits.behind_basis; no_map = s.fits.no_map; room = s.fits.room; counted = s.fits.counted; small = s.fits.small }; are = s.are; lines = s.lines }
    again p (owner.Map a b) ls s = record { base = s.base; fits = record { behind_basis = s.fits.behind_basis; few_modules = s.fits.few_modules; room = s.fits.room; named_source = s.fits.named_source; named_target = s.fits.named_target }; are = s.are; lines = s.lines }

with_matrices : (p : Part) (o : Owner) (ls : Lines) (ms : List PlainMatrix) → Base p.front.header p.records p.modules p.maps → FitsOwner p o
    → AreMatrices p.front.header.field (length ms) (rows_of p.front.header p.dims (here p) o) (columns_of p.front.header p.dims (here p) o) ms
    → ls ≡ (base_lines p.front.header p.records p.modules p.maps ++ item_line p (item_of p o) ∷ []) ++ at_lines (name_of p.front.header.quiver o) 0 ms → AmongMatrices (record p { matrices = ms }) o ls
with_matrices p (owner.Module side) ls ms base fits are lines =
    record { base = base; fits = record { behind_basis = fits.behind_basis; no_map = fits.no_map; room = fits.room; counted = fits.counted; small = fits.small }; are = are; lines = lines }
with_matrices p (owner.Map a b) ls ms base fits are lines =
    record { base = base; fits = record { behind_basis = fits.behind_basis; few_modules = fits.few_modules; room = fits.room; named_source = fits.named_source; named_target = fits.named_target }; are = are; lines = lines }

-- with the matrices without entries that come next
pub sound_fill : (p : Part) (o : Owner) (ls : Lines) (ms : List PlainMatrix) → Base p.front.header p.records p.modules p.maps → FitsOwner p o
    → AreMatrices p.front.header.field (length ms) (rows_of p.front.header p.dims (here p) o) (columns_of p.front.header p.dims (here p) o) ms
    → ls ≡ (base_lines p.front.header p.records p.modules p.maps ++ item_line p (item_of p o) ∷ []) ++ at_lines (name_of p.front.header.quiver o) 0 ms → Sound (fill (record p { matrices = ms }) o) ls
unfolding SoundAt
sound_fill p o ls ms base fits are lines =
    let h = p.front.header in
    let R = rows_of h p.dims (here p) o in
    let C = columns_of h p.dims (here p) o in
    let all = filled h.field R C (count_of h o) ms in
    sound_matrices (record p { matrices = all }) o ls
    (with_matrices p o ls all base fits (push_filled h.field R C (count_of h o) ms are)
    (lines ∙ ap (λ l. (base_lines h p.records p.modules p.maps ++ item_line p (item_of p o) ∷ []) ++ l) (sym (at_lines-filled (name_of h.quiver o) h.field R C (count_of h o) 0 ms))))

pub no_matrices : (q : Gf) (rows columns : ℕ → ℕ) → AreMatrices q 0 rows columns []
no_matrices q rows columns = record { counted = refl; each = λ i a l. absurd (omega (arith, l)) }

pub sound_matrix : (p : Part) (o : Owner) (ls : Lines) (m : PlainMatrix) → AmongMatrices p o ls → FitsMatrix p o m → Sound (with_matrix p o m) (ls ++ at_line (name_of p.front.header.quiver o (length p.matrices)) m ∷ [])
unfolding SoundAt
sound_matrix p o ls m s fits =
    let h = p.front.header in
    let R = rows_of h p.dims (here p) o in
    let C = columns_of h p.dims (here p) o in
    let front = base_lines h p.records p.modules p.maps ++ item_line p (item_of p o) ∷ [] in
    let line = at_line (name_of h.quiver o (length p.matrices)) m in
    sound_fill p o (ls ++ line ∷ []) (p.matrices ++ m ∷ []) s.base s.fits (push_matrix h.field R C p.matrices m s.are fits.shape)
    (ap (λ l. l ++ line ∷ []) s.lines
    ∙ (append_assoc front (at_lines (name_of h.quiver o) 0 p.matrices) (line ∷ [])
    ∙ ap (λ l. front ++ l) (sym (at_lines-push (name_of h.quiver o) p.matrices m fits.entries))))
