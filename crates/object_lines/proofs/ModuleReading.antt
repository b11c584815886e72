-- First lines of modules and of terms: what their readers conclude.
use Rattle.std.proofs.Common.{◌≡◌, ℕ, ◌+◌, ◌<◌, ◌≤◌, ◌^◌, zero, suc, List, [], ◌∷◌, ◌++◌, map, length, get_or, slice_index, codes, decimal, sym, ap, ◌∙◌, subst, inl, inr, arith, lit<}
use Rattle.std.proofs.lemmas.Bool.{cases_lt}
use Rattle.std.proofs.lemmas.List.{get_or_default}
use Rattle.linear_algebra.specs.BlockFamilies.{total}
use Rattle.quiver_paths.specs.Quiver.{vertex_count}
use Rattle.path_algebra.specs.declared.Header.{Header}
use Rattle.module_types.specs.Shapes.{dimension, most_dimension}
use Rattle.header_text.specs.Spelling.{vertex_name}
use Rattle.header_text.proofs.Uniqueness.{decimal_one}
use Rattle.object_lines.specs.declared.objects.ModuleHead.{ModuleHead}
use Rattle.object_lines.specs.Spelling.{side_word, numbers_form}
use Rattle.object_lines.specs.Reading.{Takes, BeginsOtherwise, IsAtMost, IsVertex}
use Rattle.object_lines.specs.Items.{AreNumbers, FitsModule, head_line, FitsTerm}
use Rattle.object_lines.proofs.Taking.{cons_head, cons_tail, one_list, from_none, not_all, taken_all}

-- ---- dimensions

pub total_rises : (f : ℕ → ℕ) (i j : ℕ) → i ≤ j → total i f ≤ total j f
total_rises f i zero h = let e : i ≡ 0 = omega arith in omega (arith, ap (λ k. total k f) e)
total_rises f i (suc j) h = elim (cases_lt i (suc j)) [
  | inl less ↦ omega (arith, total_rises f i j (omega arith))
  | inr most ↦ let e : i ≡ suc j = omega arith in omega (arith, ap (λ k. total k f) e)
]

part_small : (dims : List ℕ) (i : ℕ) → i < length dims → slice_index dims i ≤ dimension dims
part_small dims i h = omega (arith, total_rises (slice_index dims) (suc i) (length dims) (omega arith))

-- where a dimension is greater than what the first ones leave of the largest, the sum is greater
pub sum_large : (dims : List ℕ) (i left : ℕ) → i < length dims → total i (slice_index dims) + left ≡ 256 → left < slice_index dims i → dimension dims ≤ most_dimension → ⊥
sum_large dims i left h e l small = absurd (omega (arith, total_rises (slice_index dims) (suc i) (length dims) (omega arith)))

pub numbers_of_fits : (h : Header) (m : ModuleHead) (count : ℕ) → count ≡ vertex_count h.quiver → FitsModule h m → AreNumbers 256 count m.dims
numbers_of_fits h m count e fits = record {
  counted = fits.counted ∙ sym e;
  small = λ i d inside.
      let same : get_or m.dims i d ≡ get_or m.dims i 0 = get_or_default m.dims i d 0 inside in
      let small = fits.small in
      omega (arith, part_small m.dims i inside);
}

at_most_below : (m n : ℕ) → m ≤ 256 → n ≤ 256 → decimal m ≡ decimal n → m ≡ n
at_most_below m n a b e = let big : 256 < 2 ^ 64 = lit< tt in decimal_one m n (omega arith) (omega arith) e

pub one_dims : (count : ℕ) (xs ys : List ℕ) → AreNumbers 256 count xs → AreNumbers 256 count ys → numbers_form xs ≡ numbers_form ys → xs ≡ ys
one_dims count xs ys a b e = one_list decimal (IsAtMost 256) at_most_below xs ys a.small b.small e

-- what stands behind the word and the number
pub behind_both : (w d : List ℕ) (tokens rest less : List (List ℕ)) → tokens ≡ w ∷ d ∷ rest → tokens ≡ w ∷ d ∷ less → rest ≡ less
behind_both w d tokens rest less a b = cons_tail _ _ _ _ (cons_tail _ _ _ _ (sym a ∙ b))

-- a head whose dimensions are too large
pub too_large_head : (h : Header) (k count : ℕ) (tokens rest : List (List ℕ)) (head : ModuleHead) → count ≡ vertex_count h.quiver → tokens ≡ codes "module" ∷ decimal k ∷ rest → AreNumbers 256 count head.dims
    → rest ≡ side_word head.side ∷ numbers_form head.dims → (dimension head.dims ≤ most_dimension → ⊥) → (x : ModuleHead) → FitsModule h x → tokens ≡ head_line k x → ⊥
too_large_head h k count tokens rest head n front are spelled large x fits e =
    let same = one_dims count x.dims head.dims (numbers_of_fits h x count n fits) are
    (cons_tail _ _ _ _ (sym (behind_both (codes "module") (decimal k) tokens rest (side_word x.side ∷ numbers_form x.dims) front e) ∙ spelled)) in
    large (subst (λ l. dimension l ≤ most_dimension) same fits.small)

-- ---- terms

pub same_count : (m n : ℕ) (tokens xs ys : List (List ℕ)) → m < 2 ^ 64 → n < 2 ^ 64 → tokens ≡ decimal m ∷ xs → tokens ≡ decimal n ∷ ys → m ≡ n
same_count m n tokens xs ys a b e f = decimal_one m n a b (cons_head _ _ _ _ (sym e ∙ f))

pub no_vertices : (h : Header) (count : ℕ) (tokens rest : List (List ℕ)) → count < 2 ^ 64 → tokens ≡ decimal count ∷ rest → BeginsOtherwise (vertex_name h.quiver) (IsVertex h.quiver) count rest
    → (x : List ℕ) → FitsTerm h x → tokens ≡ decimal (length x) ∷ map (vertex_name h.quiver) x → ⊥
no_vertices h count tokens rest small front other x fits e =
    from_none (vertex_name h.quiver) (IsVertex h.quiver) count rest other x (sym (same_count count (length x) tokens rest _ small fits.few front e)) fits.places (cons_tail _ _ _ _ (sym front ∙ e))

pub more_vertices : (h : Header) (count : ℕ) (old new : List ℕ) (tokens rest less : List (List ℕ)) → count < 2 ^ 64 → tokens ≡ decimal count ∷ rest → (less ≡ [] → ⊥)
    → Takes (vertex_name h.quiver) (IsVertex h.quiver) count old new rest less → (x : List ℕ) → FitsTerm h x → tokens ≡ decimal (length x) ∷ map (vertex_name h.quiver) x → ⊥
more_vertices h count old new tokens rest less small front some t x fits e =
    not_all (vertex_name h.quiver) (IsVertex h.quiver) count old new rest less some t x (sym (same_count count (length x) tokens rest _ small fits.few front e)) (cons_tail _ _ _ _ (sym front ∙ e))

pub are_vertices : (h : Header) (count : ℕ) (old new : List ℕ) (tokens rest less : List (List ℕ)) → count < 2 ^ 64 → tokens ≡ decimal count ∷ rest → less ≡ [] → old ≡ []
    → Takes (vertex_name h.quiver) (IsVertex h.quiver) count old new rest less → FitsTerm h new × (tokens ≡ decimal (length new) ∷ map (vertex_name h.quiver) new)
are_vertices h count old new tokens rest less small front none nothing t =
    let same : new ≡ t.taken = t.behind ∙ ap (λ l. l ++ t.taken) nothing in
    let counted : count ≡ length new = sym t.counted ∙ ap length (sym same) in (
      record { few = omega arith; places = subst (λ l. (i : ℕ) (d : ℕ) → i < length l → IsVertex h.quiver (get_or l i d)) (sym same) t.all },
      front ∙ (ap (λ l. decimal count ∷ l) (taken_all (vertex_name h.quiver) (IsVertex h.quiver) count old new rest less none t) ∙ (ap (λ l. decimal count ∷ map (vertex_name h.quiver) l) (sym same) ∙ ap (λ n. decimal n ∷ map (vertex_name h.quiver) new) counted)),
    )
