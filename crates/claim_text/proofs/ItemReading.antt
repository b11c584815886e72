-- What stands between whole objects and claims, by its first word.
use Rattle.std.specs.Prelude.{nat_eq, Bool, MatchBool}
use Rattle.std.specs.Cmp.Lexicographic.{pointwise}
use Rattle.std.proofs.Common.{◌≡◌, ℕ, ◌+◌, ◌<◌, ◌^◌, true, false, List, [], length, get_or, codes, None, refl, sym, ap, ◌∙◌, subst, true≢false, arith}
use Rattle.header_text.specs.Part.{MayEnd as HeaderMayEnd}
use Rattle.header_text.specs.Reading.{Reads}
use Rattle.object_lines.specs.declared.objects.ModuleHead.{ModuleHead}
use Rattle.object_lines.specs.Items.{head_line}
use Rattle.object_lines.specs.Spelling.{map_line}
use Rattle.report_types.specs.Numbers.{modules_of, maps_of}
use Rattle.report_types.specs.declared.reports.End.TheVariants.{Done, Refused}
use Rattle.claim_lines.specs.declared.heads.Head.{Head}
use Rattle.claim_lines.specs.Spelling.{claim_line, end_line}
use Rattle.claim_lines.specs.Items.{FitsClaim}
use Rattle.claim_lines.proofs.DecidedClaims.{one_claim}
use Rattle.claim_text.specs.declared.part.Part.{Part}
use Rattle.claim_text.specs.declared.part.Item.TheVariants as item
use Rattle.claim_text.specs.Part.{unclaimed, counts_of, with_item}
use Rattle.claim_text.proofs.ObjectLists.{modules_count, maps_count}
use Rattle.claim_text.specs.Steps.{Takes, TakesFirst, FitsItem, item_line, FitsModule, FitsMap, FitsHead, FitsKind, FitsLast}

-- different words
other : (a b : List ℕ) (ts us : List (List ℕ)) → pointwise nat_eq a a ≡ true → pointwise nat_eq a b ≡ false → get_or ts 0 [] ≡ a → get_or us 0 [] ≡ b → ts ≡ us → ⊥
other a b ts us same differs f g e =
    true≢false (sym same ∙ (ap (pointwise nat_eq a) (sym f ∙ (ap (λ l. get_or l 0 []) e ∙ g)) ∙ differs))

module _ (p : Part) (ts : List (List ℕ)) where
  pub no_module_item : get_or ts 0 [] ≡ codes "module" → Reads (λ (m : ModuleHead). FitsModule p m.side m.dims) (head_line ((counts_of p).modules + 1)) ts None → Reads (FitsItem p) (item_line p) ts None
  no_module_item w none (item.Module s ds) fits e = none record { side = s; dims = ds } fits e
  no_module_item w none (item.Map s t) fits e = other (codes "module") (codes "map") ts _ refl refl w refl e
  no_module_item w none (item.Claim l x) fits e = other (codes "module") (codes "claim") ts _ refl refl w refl e
  no_module_item w none (item.End Done) fits e = other (codes "module") (codes "end") ts _ refl refl w refl e
  no_module_item w none (item.End (Refused l y)) fits e = other (codes "module") (codes "refused") ts _ refl refl w refl e

  pub no_map_item : get_or ts 0 [] ≡ codes "map" → Reads (λ (x : ℕ × ℕ). FitsMap p x.0 x.1) (λ (x : ℕ × ℕ). map_line ((counts_of p).maps + 1) x.0 x.1) ts None → Reads (FitsItem p) (item_line p) ts None
  no_map_item w none (item.Module s ds) fits e = other (codes "map") (codes "module") ts _ refl refl w refl e
  no_map_item w none (item.Map s t) fits e = none (s, t) fits e
  no_map_item w none (item.Claim l x) fits e = other (codes "map") (codes "claim") ts _ refl refl w refl e
  no_map_item w none (item.End Done) fits e = other (codes "map") (codes "end") ts _ refl refl w refl e
  no_map_item w none (item.End (Refused l y)) fits e = other (codes "map") (codes "refused") ts _ refl refl w refl e

  pub no_claim_item : get_or ts 0 [] ≡ codes "claim" → Reads (λ (x : ℕ × Head). FitsHead p x.0 x.1) (λ (x : ℕ × Head). claim_line (length p.records + 1) x.0 x.1) ts None → Reads (FitsItem p) (item_line p) ts None
  no_claim_item w none (item.Module s ds) fits e = other (codes "claim") (codes "module") ts _ refl refl w refl e
  no_claim_item w none (item.Map s t) fits e = other (codes "claim") (codes "map") ts _ refl refl w refl e
  no_claim_item w none (item.Claim l x) fits e = none (l, x) fits e
  no_claim_item w none (item.End Done) fits e = other (codes "claim") (codes "end") ts _ refl refl w refl e
  no_claim_item w none (item.End (Refused l y)) fits e = other (codes "claim") (codes "refused") ts _ refl refl w refl e

  pub no_last_item : (get_or ts 0 [] ≡ codes "module" → ⊥) → (get_or ts 0 [] ≡ codes "map" → ⊥) → (get_or ts 0 [] ≡ codes "claim" → ⊥)
      → Reads (FitsLast p) (end_line p.front.header (length p.records)) ts None → Reads (FitsItem p) (item_line p) ts None
  no_last_item a b c none (item.Module s ds) fits e = a (ap (λ l. get_or l 0 []) e)
  no_last_item a b c none (item.Map s t) fits e = b (ap (λ l. get_or l 0 []) e)
  no_last_item a b c none (item.Claim l x) fits e = c (ap (λ l. get_or l 0 []) e)
  no_last_item a b c none (item.End x) fits e = none x fits e

  -- a claim that was read and may not stand here
  pub no_other_claim : (earlier modules maps line : ℕ) (x : Head) → modules ≡ (counts_of p).modules → maps ≡ (counts_of p).maps → earlier ≡ length p.records → modules < 2 ^ 32 → maps < 2 ^ 32
      → FitsClaim earlier record { modules = modules; maps = maps } (line, x) → ts ≡ claim_line (earlier + 1) line x → (FitsKind p x → ⊥)
      → Reads (λ (y : ℕ × Head). FitsHead p y.0 y.1) (λ (y : ℕ × Head). claim_line (length p.records + 1) y.0 y.1) ts None
  no_other_claim earlier modules maps line x em en ee m n fits e bad y other_fits f =
      let here : FitsClaim (length p.records) (counts_of p) (line, x) =
      subst (λ k. FitsClaim k (counts_of p) (line, x)) ee (subst (λ k. FitsClaim earlier record { modules = k; maps = (counts_of p).maps } (line, x)) em (subst (λ k. FitsClaim earlier record { modules = modules; maps = k } (line, x)) en fits)) in
      let same : y ≡ (line, x) = one_claim (length p.records) (counts_of p) other_fits.few_modules other_fits.few_maps (length p.records + 1) y (line, x) other_fits.claim here
      (sym f ∙ (e ∙ ap (λ k. claim_line (k + 1) line x) ee)) in
      bad (subst (λ (z : ℕ × Head). FitsKind p z.1) same other_fits.kind)

-- the objects of a claim's record have their numbers
pub counted_modules : (p : Part) → (counts_of p).modules < 2 ^ 32 → length (modules_of p.records) + length p.modules < 2 ^ 32
counted_modules p few = let e = modules_count p.records (unclaimed p) in omega (arith, few, e)

pub counted_maps : (p : Part) → (counts_of p).maps < 2 ^ 32 → length (maps_of p.records) + length p.maps < 2 ^ 32
counted_maps p few = let e = maps_count p.records (unclaimed p) in omega (arith, few, e)

pub room_modules : (p : Part) (line : ℕ) (x : Head) → FitsHead p line x → length (modules_of p.records) + length p.modules < 2 ^ 32
room_modules p line x fits = counted_modules p fits.few_modules

pub room_maps : (p : Part) (line : ℕ) (x : Head) → FitsHead p line x → length (maps_of p.records) + length p.maps < 2 ^ 32
room_maps p line x fits = counted_maps p fits.few_maps

-- the first line behind a header that may end
pub first_taken : (p : Part) (ts : List (List ℕ)) (next : Part) (b : Bool) → HeaderMayEnd p.front
    → MatchBool b (Takes (FitsItem p) (item_line p) (with_item p) ts next) ((n : Part) → Takes (FitsItem p) (item_line p) (with_item p) ts n → ⊥)
    → MatchBool b (TakesFirst p ts next) ((n : Part) → TakesFirst p ts n → ⊥)
first_taken p ts next true ends t = record { ends = ends; first = t }
first_taken p ts next false ends none = λ n t. none n t.first
