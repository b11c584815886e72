-- Entries behind which a module and a map are put, and what is left where they are cut again.
use Rattle.std.proofs.Common.{ℕ, zero, suc, inl, inr, ◌≡◌, ◌<◌, ◌≤◌, ◌+◌, List, [], ◌∷◌, ◌++◌, length, sym, ap, ap₂, ◌∙◌, arith, subst, length-append}
use Rattle.std.proofs.Math.Seq.{get_or-append_seam}
use Rattle.std.proofs.lemmas.List.{take_all, take-append-le}
use Rattle.std.proofs.lemmas.Bool.{cases_lt}
use Rattle.fp_linear.specs.Matrix.{PlainMatrix}
use Rattle.path_algebra.specs.declared.Header.{Header}
use Rattle.module_types.specs.declared.Module.{Module}
use Rattle.module_types.specs.declared.Map.{Map}
use Rattle.module_types.specs.declared.Side.{Side}
use Rattle.module_types.specs.Algebras.{algebra_at}
use Rattle.module_types.specs.Shapes.{IsModule, dimension}
use Rattle.module_types.specs.Written.{block_sum, dual_of}
use Rattle.module_types.proofs.BlockSums.{block_sum-shape, block_sum-side, block_sum_over}
use Rattle.module_types.proofs.Duals.{dual_of-shape, dual_of-side, dual_over, quiver_across}
use Rattle.bound_algebra.specs.BoundAlgebra.{bound_algebra}
use Rattle.module_faults.specs.ModuleFaults.{IsSmallModule}
use Rattle.module_faults.specs.MapFaults.{IsSmallMap}
use Rattle.rep_arena.specs.Entries.{Entries, NamesModule, module_at, no_module, with_module, IsMapAmong}
use Rattle.rep_arena.specs.Marks.{heights_of, Fits, cut_at}
use Rattle.rep_arena.proofs.Numbered.{numbered-front, number_more}
use Rattle.module_operations.specs.Summands.{AreSummands}
use Rattle.linear_algebra.specs.BlockFamilies.{total}
use Rattle.linear_algebra.specs.Field.{Gf}
use Rattle.representations.specs.Quiver.{Quiver}
use Rattle.rep_arena.specs.Entries.{map_at, AreLawful}
use Rattle.rep_arena.proofs.Lawful.{small_module}
use Rattle.module_operations.specs.Computed.{IsKernelBy, IsCokernelBy, IsImageBy, IsRadicalBy, IsTopBy}
use Rattle.mod_ops.specs.Results.{Adds, AddsKernel, AddsCokernel, AddsImage, AddsRadical, AddsTop, source_of, target_of}
use Rattle.mod_ops.specs.Results.{inclusion_of, projection_of}

one_more : {X : Type 0} (xs : List X) (x : X) → length (xs ++ x ∷ []) ≡ suc (length xs)
one_more xs x = let e = length-append xs (x ∷ []) in omega (arith, e)

module _ (e : Entries) (m : Module) where
  -- The new module has the number behind the last.
  new_names : NamesModule (with_module e m) (suc (length e.modules))
  new_names = let c = one_more e.modules m in record { from = omega arith; to = omega (arith, c) }

  new_at : module_at (with_module e m) (suc (length e.modules)) ≡ m
  new_at = get_or-append_seam e.modules m [] no_module

  old_names : (n : ℕ) → NamesModule e n → NamesModule (with_module e m) n
  old_names n h = let c = one_more e.modules m in number_more (length e.modules) (length (e.modules ++ m ∷ [])) n (omega (arith, c)) h

  old_at : (n : ℕ) → NamesModule e n → module_at (with_module e m) n ≡ module_at e n
  old_at n h = numbered-front no_module e.modules (m ∷ []) n h.to

  pub among_inclusion : (target : ℕ) (matrices : List PlainMatrix) → NamesModule e target → IsSmallMap e.header m (module_at e target) matrices → IsMapAmong (with_module e m) (inclusion_of e target matrices)
  among_inclusion target matrices h s = record {
    source = new_names;
    target = old_names target h;
    small = subst (λ (a : Module). IsSmallMap e.header a (module_at (with_module e m) target) matrices) (sym new_at) (subst (λ (b : Module). IsSmallMap e.header m b matrices) (sym (old_at target h)) s);
  }

  pub among_projection : (source : ℕ) (matrices : List PlainMatrix) → NamesModule e source → IsSmallMap e.header (module_at e source) m matrices → IsMapAmong (with_module e m) (projection_of e source matrices)
  among_projection source matrices h s = record {
    source = old_names source h;
    target = new_names;
    small = subst (λ (a : Module). IsSmallMap e.header a (module_at (with_module e m) (suc (length e.modules))) matrices) (sym (old_at source h)) (subst (λ (b : Module). IsSmallMap e.header (module_at e source) b matrices) (sym new_at) s);
  }

  -- Cut where it was, it is as it was.
  pub fits_back : Fits e (heights_of e) → Fits (with_module e m) (heights_of e)
  fits_back f = let c = one_more e.modules m in record { modules = omega (arith, c); maps = f.maps; sources = f.sources; targets = f.targets }

  pub cut_back : cut_at (with_module e m) (heights_of e) ≡ e
  cut_back = λ i. record {
    header = e.header;
    modules = (take-append-le (length e.modules) e.modules (m ∷ []) (omega arith) ∙ take_all (length e.modules) e.modules (omega arith)) i;
    maps = take_all (length e.maps) e.maps (omega arith) i;
  }

-- A sum and a dual are modules.
pub summands : (h : Header) (a b : Module) → IsSmallModule h a → IsSmallModule h b → a.side ≡ b.side → dimension a.dims + dimension b.dims ≤ 256 → AreSummands h.field (algebra_at a.side h).quiver a b
summands h a b s t e few = record { side = e; first = s.shape; second = subst (λ (s : Side). IsModule h.field (algebra_at s h).quiver b) (sym e) t.shape; small = few }

pub small_sum : (h : Header) (a b : Module) → IsSmallModule h a → IsSmallModule h b → a.side ≡ b.side → dimension a.dims + dimension b.dims ≤ 256 → IsSmallModule h (block_sum h.field (algebra_at a.side h).quiver a b)
small_sum h a b s t e few =
    let S = summands h a b s t e few in
    let Q = (algebra_at a.side h).quiver in
    record {
      shape = subst (λ (s : Side). IsModule h.field (algebra_at s h).quiver (block_sum h.field Q a b)) (sym (block_sum-side h.field Q a b)) (block_sum-shape h.field Q a b S.first S.second few);
      over = block_sum_over h a b e s.over t.over;
    }

pub small_dual : (h : Header) (a : Module) → IsSmallModule h a → IsSmallModule h (dual_of h.field (algebra_at a.side h).quiver a)
small_dual h a s =
    let Q = (algebra_at a.side h).quiver in
    record {
      shape = subst (λ (s : Side). IsModule h.field (algebra_at s h).quiver (dual_of h.field Q a)) (sym (dual_of-side h.field Q a))
          (subst (λ Q'. IsModule h.field Q' (dual_of h.field Q a)) (sym (quiver_across a.side (bound_algebra h))) (dual_of-shape h.field Q a s.shape));
      over = dual_over h a s.over;
    }

-- The first terms of a sum add to no more than all.
pub total_front : (f : ℕ → ℕ) (k n : ℕ) → k ≤ n → total k f ≤ total n f
total_front f k zero l = let e : k ≡ zero = omega arith in subst (λ (k : ℕ). total k f ≤ total zero f) (sym e) (omega arith)
total_front f k (suc n) l = elim (cases_lt k (suc n)) [
  | inl o ↦ let r = total_front f k n (omega arith) in omega arith
  | inr o ↦ let e : k ≡ suc n = omega arith in subst (λ (k : ℕ). total k f ≤ total (suc n) f) (sym e) (omega arith)
]

pub total_step : (f : ℕ → ℕ) (k n : ℕ) → k < n → total k f + f k ≤ total n f
total_step f k n l = total_front f (suc k) n (omega arith)

-- The dual and the sum that are computed.
pub dual_lawful : (h : Header) (a whole d : Module) → whole ≡ a → IsSmallModule h a → ((q : Gf) (Q : Quiver) → IsModule q Q whole → d ≡ dual_of q Q whole) → IsSmallModule h d
dual_lawful h a whole d e s known =
    let w : IsSmallModule h whole = subst (IsSmallModule h) (sym e) s in
    subst (IsSmallModule h) (sym (known h.field (algebra_at whole.side h).quiver w.shape)) (small_dual h whole w)

module _ (h : Header) (a b first second : Module) (ea : first ≡ a) (eb : second ≡ b) (s : IsSmallModule h a) (t : IsSmallModule h b) (same : a.side ≡ b.side) (few : dimension a.dims + dimension b.dims ≤ 256) where
  pub summands_there : AreSummands h.field (algebra_at a.side h).quiver first second
  summands_there = subst (λ (x : Module). AreSummands h.field (algebra_at a.side h).quiver x second) (sym ea) (subst (AreSummands h.field (algebra_at a.side h).quiver a) (sym eb) (summands h a b s t same few))

  pub sum_lawful : (m : Module) → ((q : Gf) (Q : Quiver) → AreSummands q Q first second → m ≡ block_sum q Q first second) → IsSmallModule h m
  sum_lawful m known =
      subst (IsSmallModule h) (sym (known h.field (algebra_at a.side h).quiver summands_there ∙ ap₂ (λ (x y : Module). block_sum h.field (algebra_at a.side h).quiver x y) ea eb)) (small_sum h a b s t same few)

-- What is found is what was added.
module _ (e after : Entries) (f id map_id : ℕ) (h : Header) (F : Map) (n : Module) (i : List PlainMatrix) (eh : h ≡ e.header) (eF : F ≡ map_at e f) (lawful : AreLawful e) (among : IsMapAmong e (map_at e f)) where
  pub kernel_added : (a : Module) (at : ℕ) → at ≡ (map_at e f).source → a ≡ module_at e at → ((b : Module) → IsSmallModule h b → IsSmallMap h a b F.matrices → IsKernelBy h a b n F.matrices i) → Adds e after n (inclusion_of e at i) id map_id
      → AddsKernel e after f id map_id
  kernel_added a at es ea known added = record {
    found = n;
    matrices = i;
    is = subst (λ (h : Header). IsSmallModule h (target_of e f) → IsSmallMap h (source_of e f) (target_of e f) (map_at e f).matrices → IsKernelBy h (source_of e f) (target_of e f) n (map_at e f).matrices i) eh
        (subst (λ (a : Module). IsSmallModule h (target_of e f) → IsSmallMap h a (target_of e f) (map_at e f).matrices → IsKernelBy h a (target_of e f) n (map_at e f).matrices i) (ea ∙ ap (module_at e) es)
        (subst (λ (F : Map). IsSmallModule h (target_of e f) → IsSmallMap h a (target_of e f) F.matrices → IsKernelBy h a (target_of e f) n F.matrices i) eF (known (target_of e f))))
        (small_module e (map_at e f).target lawful among.target) among.small;
    added = subst (λ (t : ℕ). Adds e after n (inclusion_of e t i) id map_id) es added;
  }

  pub image_added : (b : Module) (at : ℕ) → at ≡ (map_at e f).target → b ≡ module_at e at → ((a : Module) → IsSmallModule h a → IsSmallMap h a b F.matrices → IsImageBy h a b n F.matrices i) → Adds e after n (inclusion_of e at i) id map_id
      → AddsImage e after f id map_id
  image_added b at es ea known added = record {
    found = n;
    matrices = i;
    is = subst (λ (h : Header). IsSmallModule h (source_of e f) → IsSmallMap h (source_of e f) (target_of e f) (map_at e f).matrices → IsImageBy h (source_of e f) (target_of e f) n (map_at e f).matrices i) eh
        (subst (λ (b : Module). IsSmallModule h (source_of e f) → IsSmallMap h (source_of e f) b (map_at e f).matrices → IsImageBy h (source_of e f) b n (map_at e f).matrices i) (ea ∙ ap (module_at e) es)
        (subst (λ (F : Map). IsSmallModule h (source_of e f) → IsSmallMap h (source_of e f) b F.matrices → IsImageBy h (source_of e f) b n F.matrices i) eF (known (source_of e f))))
        (small_module e (map_at e f).source lawful among.source) among.small;
    added = subst (λ (t : ℕ). Adds e after n (inclusion_of e t i) id map_id) es added;
  }

  pub cokernel_added : (b : Module) (at : ℕ) → at ≡ (map_at e f).target → b ≡ module_at e at → ((a : Module) → IsSmallModule h a → IsSmallMap h a b F.matrices → IsCokernelBy h a b n F.matrices i) → Adds e after n (projection_of e at i) id map_id
      → AddsCokernel e after f id map_id
  cokernel_added b at es ea known added = record {
    found = n;
    matrices = i;
    is = subst (λ (h : Header). IsSmallModule h (source_of e f) → IsSmallMap h (source_of e f) (target_of e f) (map_at e f).matrices → IsCokernelBy h (source_of e f) (target_of e f) n (map_at e f).matrices i) eh
        (subst (λ (b : Module). IsSmallModule h (source_of e f) → IsSmallMap h (source_of e f) b (map_at e f).matrices → IsCokernelBy h (source_of e f) b n (map_at e f).matrices i) (ea ∙ ap (module_at e) es)
        (subst (λ (F : Map). IsSmallModule h (source_of e f) → IsSmallMap h (source_of e f) b F.matrices → IsCokernelBy h (source_of e f) b n F.matrices i) eF (known (source_of e f))))
        (small_module e (map_at e f).source lawful among.source) among.small;
    added = subst (λ (t : ℕ). Adds e after n (projection_of e t i) id map_id) es added;
  }

module _ (e after : Entries) (at id map_id : ℕ) (h : Header) (a n : Module) (i : List PlainMatrix) (eh : h ≡ e.header) (ea : a ≡ module_at e at) where
  pub radical_added : IsRadicalBy h a n i → Adds e after n (inclusion_of e at i) id map_id → AddsRadical e after at id map_id
  radical_added known added = record {
    found = n;
    matrices = i;
    is = subst (λ (h : Header). IsRadicalBy h (module_at e at) n i) eh (subst (λ (a : Module). IsRadicalBy h a n i) ea known);
    added = added;
  }

  pub top_added : IsTopBy h a n i → Adds e after n (projection_of e at i) id map_id → AddsTop e after at id map_id
  top_added known added = record {
    found = n;
    matrices = i;
    is = subst (λ (h : Header). IsTopBy h (module_at e at) n i) eh (subst (λ (a : Module). IsTopBy h a n i) ea known);
    added = added;
  }
