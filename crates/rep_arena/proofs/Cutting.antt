-- Lists that are cut at a mark, and lists of what is kept behind it.
use Rattle.std.proofs.Common.{ℕ, zero, suc, ◌<◌, ◌≤◌, ◌≡◌, ◌≢◌, ◌+◌, ◌-◌, ◌^◌, ◌⊎◌, List, [], ◌∷◌, ◌++◌, length, take, map, get_or, nat_eq, eq-eqb, ne_eqb, eqb-true, inl, inr, refl, sym, ap, ap₂, ◌∙◌, arith, subst, append_assoc}
use Rattle.std.specs.Prelude.{All, AllPairs, Contains, nat_le}
use Rattle.std.proofs.lemmas.Bool.{cases_lt, cases_eq, le-leb, lt-leb, cond-true, cond-false}
use Rattle.std.proofs.lemmas.List.{length_push, length-take-le, length-append, length-map, take-append-le, take_all, get_or-map}
use Rattle.std.proofs.lemmas.List.Elements.{All-take, All-map, All-append, All-weaker, All-get_or, All-contains}
use Rattle.std.proofs.lemmas.Map.Made.{IsDistinct-from_AllPairs}
use Rattle.std.proofs.lemmas.Map.Steps.{length-le_from_distinct_below}
use Rattle.std.proofs.lemmas.Map.Views.{Contains-from_any}
use Rattle.std.proofs.lemmas.Bool.Decides.{Decides-eqb}
use Rattle.std.proofs.Math.Seq.{take-append-add}
use Rattle.path_algebra.specs.Derivations.{IsNumber}
use Rattle.quiver_paths.proofs.ListLemmas.{AllPairs-map, AllPairs-members, Contains-cons_cases, Contains-nil}
use Rattle.module_types.specs.declared.Module.{Module}
use Rattle.module_types.specs.declared.Map.{Map}
use Rattle.module_faults.specs.ModuleFaults.{IsSmallModule}
use Rattle.rep_arena.specs.Entries.{Entries, numbered, no_module, module_at, map_at, NamesModule, NamesMap, IsMapAmong, AreLawful, with_module, with_map}
use Rattle.rep_arena.specs.declared.marks.RepId.{RepId}
use Rattle.rep_arena.specs.declared.marks.MapId.{MapId}
use Rattle.rep_arena.specs.Marks.{module_numbers, map_numbers, Heights, heights_of, Fits, cut_at, place_of, new_number, renumbered, MayKeep, kept}
use Rattle.rep_arena.proofs.Numbered.{numbered-front, numbered-behind, numbered-take}
use Rattle.rep_arena.proofs.Stored.{stored_more}
use Rattle.rep_arena.proofs.Lawful.{small_module, map_among, among_moved, among_more}

-- the front of two lists, one behind the other
pub take-parts : {X : Type 0} (n : ℕ) (xs ys : List X) → take n (xs ++ ys) ≡ take n xs ++ take (n - length xs) ys
take-parts n xs ys = elim (cases_lt n (length xs)) [
  | inl l ↦ take-append-le n xs ys (omega arith) ∙ (let z : n - length xs ≡ zero = omega arith in sym ((λ i. take n xs ++ take (z i) ys) ∙ nil (take n xs)))
  | inr g ↦
      (let e : length xs + (n - length xs) ≡ n = omega arith in ap (λ n. take n (xs ++ ys)) (sym e) ∙ take-append-add xs ys (n - length xs))
      ∙ ap (λ zs. zs ++ take (n - length xs) ys) (sym (take_all n xs g))
]
  where
    nil : {X : Type 0} (xs : List X) → xs ++ [] ≡ xs
    nil [] = refl
    nil (x ∷ xs) = ap (λ ys. x ∷ ys) (nil xs)

pub fits_all : (e : Entries) → AreLawful e → Fits e (heights_of e)
fits_all e a = record {
  modules = omega arith;
  maps = omega arith;
  sources = All-take (λ (f : Map). f.source ≤ length e.modules) (length e.maps) e.maps (All-weaker (IsMapAmong e) (λ (f : Map). f.source ≤ length e.modules) (λ f i. i.source.to) e.maps a.maps);
  targets = All-take (λ (f : Map). f.target ≤ length e.modules) (length e.maps) e.maps (All-weaker (IsMapAmong e) (λ (f : Map). f.target ≤ length e.modules) (λ f i. i.target.to) e.maps a.maps);
}

-- a mark that fits does so once there is an entry more
pub fits-more_module : (e : Entries) (m : Module) (mark : Heights) → Fits e mark → Fits (with_module e m) mark
fits-more_module e m mark fits = record { modules = let l = length_push e.modules m in omega (arith, fits.modules); maps = fits.maps; sources = fits.sources; targets = fits.targets }

pub fits-more_map : (e : Entries) (f : Map) (mark : Heights) → Fits e mark → Fits (with_map e f) mark
fits-more_map e f mark fits = record {
  modules = fits.modules;
  maps = let l = length_push e.maps f in omega (arith, fits.maps);
  sources = subst (All (λ (g : Map). g.source ≤ mark.modules)) (sym same) fits.sources;
  targets = subst (All (λ (g : Map). g.target ≤ mark.modules)) (sym same) fits.targets;
}
  where
    same : take mark.maps (e.maps ++ f ∷ []) ≡ take mark.maps e.maps
    same = take-append-le mark.maps e.maps (f ∷ []) fits.maps

-- A map below a mark that fits is one among the modules below it.
module _ (e : Entries) (mark : Heights) (a : AreLawful e) (fits : Fits e mark) where
  front_length : length (take mark.modules e.modules) ≡ mark.modules
  front_length = length-take-le mark.modules e.modules fits.modules

  maps_length : length (take mark.maps e.maps) ≡ mark.maps
  maps_length = length-take-le mark.maps e.maps fits.maps

  among_front : (gs : List Map) (f : Map) → f.source ≤ mark.modules → f.target ≤ mark.modules → IsMapAmong e f → IsMapAmong (record { header = e.header; modules = take mark.modules e.modules; maps = gs }) f
  among_front gs f s t i = among_moved e.header e.modules (take mark.modules e.modules) e.maps gs f f refl
      (record { from = i.source.from; to = omega (arith, front_length) }) (record { from = i.target.from; to = omega (arith, front_length) })
      (numbered-take no_module e.modules mark.modules f.source s) (numbered-take no_module e.modules mark.modules f.target t) i

  pub fronts_among : (gs : List Map) → All (IsMapAmong (record { header = e.header; modules = take mark.modules e.modules; maps = gs })) (take mark.maps e.maps)
  fronts_among gs k d l = among_front gs (get_or (take mark.maps e.maps) k d) (fits.sources k d l) (fits.targets k d l) (All-take (IsMapAmong e) mark.maps e.maps a.maps k d l)

  pub lawful_cut : AreLawful (cut_at e mark)
  lawful_cut = record {
    allowed = a.allowed;
    modules = All-take (IsSmallModule e.header) mark.modules e.modules a.modules;
    maps = fronts_among (take mark.maps e.maps);
    few_modules = let l = front_length in omega (arith, a.few_modules, fits.modules);
    few_maps = let l = maps_length in omega (arith, a.few_maps, fits.maps);
  }

-- the numbers of a list of numbers of modules, and of maps
pub module_number : (ids : List RepId) (k : ℕ) → get_or (module_numbers ids) k zero ≡ (get_or ids k (record { number = zero })).number
module_number [] k = refl
module_number (x ∷ ids) zero = refl
module_number (x ∷ ids) (suc k) = module_number ids k

pub map_number : (ids : List MapId) (k : ℕ) → get_or (map_numbers ids) k zero ≡ (get_or ids k (record { number = zero })).number
map_number [] k = refl
map_number (x ∷ ids) zero = refl
map_number (x ∷ ids) (suc k) = map_number ids k

-- the first place of a number in a list
pub place_of-first : (n : ℕ) (xs : List ℕ) (k : ℕ) → k < length xs → get_or xs k zero ≡ n → ((i : ℕ) → i < k → get_or xs i zero ≡ n → ⊥) → place_of n xs ≡ k
place_of-first n [] k l e first = absurd (omega arith)
place_of-first n (x ∷ xs) zero l e first = cond-true (nat_eq x n) zero (suc (place_of n xs)) (eq-eqb x n e)
place_of-first n (x ∷ xs) (suc k) l e first =
    cond-false (nat_eq x n) zero (suc (place_of n xs)) (ne_eqb x n (first zero (omega arith)))
    ∙ ap suc (place_of-first n xs k (omega arith) e (λ i b. first (suc i) (omega arith)))

pub new_number-front : (below n : ℕ) (ids : List ℕ) → n ≤ below → new_number below ids n ≡ n
new_number-front below n ids l = cond-true (nat_le n below) n (below + suc (place_of n ids)) (le-leb n below l)

pub new_number-behind : (below n : ℕ) (ids : List ℕ) → below < n → new_number below ids n ≡ below + suc (place_of n ids)
new_number-behind below n ids l = cond-false (nat_le n below) n (below + suc (place_of n ids)) (lt-leb n below l)

pub new_number-found : (below n : ℕ) (ids : List RepId) (k : ℕ) → below < n → k < length ids → (get_or ids k (record { number = zero })).number ≡ n
    → ((i : ℕ) → i < k → get_or (module_numbers ids) i zero ≡ n → ⊥) → below + k + 1 ≡ new_number below (module_numbers ids) n
new_number-found below n ids k l b e first =
    let p = place_of-first n (module_numbers ids) k (let c = length-map ids (λ (id : RepId). id.number) in omega arith) (module_number ids k ∙ e) first in
    (omega arith) ∙ sym (new_number-behind below n (module_numbers ids) l)

-- where a number of a list stands in it
pub place_in : (n : ℕ) (xs : List ℕ) → Contains xs n → (place_of n xs < length xs) × (get_or xs (place_of n xs) zero ≡ n)
place_in n [] c = absurd (Contains-nil n c)
place_in n (x ∷ xs) c = elim (cases_eq x n) [
  | inl e ↦
      let p : place_of n (x ∷ xs) ≡ zero = cond-true (nat_eq x n) zero (suc (place_of n xs)) (eq-eqb x n e) in
      (omega arith, ap (λ k. get_or (x ∷ xs) k zero) p ∙ e)
  | inr d ↦
      let p : place_of n (x ∷ xs) ≡ suc (place_of n xs) = cond-false (nat_eq x n) zero (suc (place_of n xs)) (ne_eqb x n d) in
      let r = place_in n xs (elim (Contains-cons_cases x xs n c) [ inl e ↦ absurd (d e) | inr m ↦ m ]) in
      (let l = r.0 in omega arith, ap (λ k. get_or (x ∷ xs) k zero) p ∙ r.1)
]

-- Numbers past a mark and up to a last one, each once, are not more than these.
pub few_behind : (mark last : ℕ) (ids : List ℕ) → mark ≤ last → All (IsNumber last) ids → All (λ n. mark < n) ids → AllPairs (λ (a b : ℕ). a ≢ b) ids → mark + length ids ≤ last
few_behind mark last ids inside a b d =
    let shifted = map (λ n. n - suc mark) ids in
    let few = length-le_from_distinct_below shifted (last - mark)
    (IsDistinct-from_AllPairs Decides-eqb shifted (AllPairs-map (λ (a b : ℕ). a ≢ b) (λ n. n - suc mark) ids (AllPairs-members (λ (a b : ℕ). a ≢ b) (λ (a b : ℕ). (a - suc mark) ≢ (b - suc mark)) ids (λ x y m n d e. d (let p = All-contains (λ n. mark < n) ids x b m in let r = All-contains (λ n. mark < n) ids y b n in omega arith)) d)))
    (λ q h. let c = Contains-from_any (λ x y e. eqb-true x y e) q shifted h in All-contains (λ n. n < last - mark) shifted q
    (All-map (λ n. n < last - mark) (λ n. n - suc mark) ids (λ k d l. let p = a k d l in let r = b k d l in let t = p.to in omega arith)) c) in
    (let c = length-map ids (λ n. n - suc mark) in omega arith)

-- a number that is none of the first ones is none of the list
pub found_in : (n : ℕ) (ids : List RepId) (k : ℕ) → length ids ≤ k → Contains (module_numbers ids) n → ((i : ℕ) → i < k → get_or (module_numbers ids) i zero ≡ n → ⊥) → ⊥
found_in n ids k past m first =
    let p = place_in n (module_numbers ids) m in
    first (place_of n (module_numbers ids)) (let c = length-map ids (λ (id : RepId). id.number) in let l = p.0 in omega arith) p.1

-- the fronts of two lists that were cut one by one
pub cut_lists : {X : Type 0} (n k l : ℕ) (xs ys xs' ys' : List X) → xs' ≡ take n xs → ys' ≡ take k ys → k ≡ n - l → l ≡ length xs → xs' ++ ys' ≡ take n (xs ++ ys)
cut_lists n k l xs ys xs' ys' e f g h = (λ i. e i ++ (f ∙ ap (λ j. take j ys) (g ∙ ap (λ l. n - l) h)) i) ∙ sym (take-parts n xs ys)

-- What is left where both lists are cut at a mark: `e` are the entries as their parts say, `was` as they were seen.
module _ (e was : Entries) (mark seen : Heights) (same : e ≡ was) (marked : mark ≡ seen) (ms : List Module) (fs : List Map) (m : ms ≡ take mark.modules e.modules) (f : fs ≡ take mark.maps e.maps) where
  pub cut_is : record { header = e.header; modules = ms; maps = fs } ≡ cut_at was seen
  cut_is = (λ i. record { header = e.header; modules = m i; maps = f i }) ∙ (λ i. cut_at (same i) (marked i))

  pub cut_lawful : AreLawful e → Fits was seen → AreLawful (record { header = e.header; modules = ms; maps = fs })
  cut_lawful a fits = subst AreLawful (sym cut_is) (lawful_cut was seen (subst AreLawful same a) fits)

-- what holds of each number of a list, at a place of it
pub all_at : (P : ℕ → Type 0) (ids : List MapId) (k : ℕ) → k < length ids → All P (map_numbers ids) → P (get_or ids k (record { number = zero })).number
all_at P ids k l a = subst P (map_number ids k) (All-get_or P (map_numbers ids) k zero (let c = length-map ids (λ (id : MapId). id.number) in omega arith) a)

pub names_number : (last : ℕ) (ids : List RepId) (k : ℕ) → k < length ids → All (IsNumber last) (module_numbers ids) → IsNumber last (get_or ids k (record { number = zero })).number
names_number last ids k l a = subst (IsNumber last) (module_number ids k) (All-get_or (IsNumber last) (module_numbers ids) k zero (let c = length-map ids (λ (id : RepId). id.number) in omega arith) a)

pub names_map_number : (last : ℕ) (ids : List MapId) (k : ℕ) → k < length ids → All (IsNumber last) (map_numbers ids) → IsNumber last (get_or ids k (record { number = zero })).number
names_map_number last ids k l a = all_at (IsNumber last) ids k l a

-- one more of the entries that are kept
more_of : {X : Type 0} (f : ℕ → X) (numbers : List ℕ) (k n : ℕ) (before all new : List X) (x : X) → k < length numbers → all ≡ before ++ take k (map f numbers) → get_or numbers k zero ≡ n → x ≡ f n → new ≡ all ++ x ∷ []
    → new ≡ before ++ take (k + 1) (map f numbers)
more_of f numbers k n before all new x l a e s m =
    stored_more before (map f numbers) all new k x x (let c = length-map numbers f in omega arith) a (s ∙ ap f (sym e) ∙ sym (get_or-map f numbers k zero x l)) refl m

pub kept_more : {X : Type 0} (f : ℕ → X) (ids : List RepId) (k : ℕ) (before all new : List X) (x : X) → k < length ids → all ≡ before ++ take k (map f (module_numbers ids)) → x ≡ f (get_or ids k (record { number = zero })).number
    → new ≡ all ++ x ∷ [] → new ≡ before ++ take (k + 1) (map f (module_numbers ids))
kept_more f ids k before all new x l a s m = more_of f (module_numbers ids) k _ before all new x (let c = length-map ids (λ (id : RepId). id.number) in omega arith) a (module_number ids k) s m

pub kept_map_more : {X : Type 0} (f : ℕ → X) (ids : List MapId) (k : ℕ) (before all new : List X) (x : X) → k < length ids → all ≡ before ++ take k (map f (map_numbers ids)) → x ≡ f (get_or ids k (record { number = zero })).number
    → new ≡ all ++ x ∷ [] → new ≡ before ++ take (k + 1) (map f (map_numbers ids))
kept_map_more f ids k before all new x l a s m = more_of f (map_numbers ids) k _ before all new x (let c = length-map ids (λ (id : MapId). id.number) in omega arith) a (map_number ids k) s m

-- What is kept behind a mark.
module _ (e : Entries) (mark : Heights) (ids numbers : List ℕ) (a : AreLawful e) (may : MayKeep e mark ids numbers) where
  kept_modules : List Module
  kept_modules = take mark.modules e.modules ++ map (module_at e) ids

  modules_length : length (take mark.modules e.modules ++ map (module_at e) ids) ≡ mark.modules + length ids
  modules_length = length-append (take mark.modules e.modules) (map (module_at e) ids) ∙ ap₂ (λ m n. m + n) (front_length e mark a may.fits) (length-map ids (module_at e))

  pub few_kept : mark.modules + length ids ≤ length e.modules
  few_kept = few_behind mark.modules (length e.modules) ids may.fits.modules may.module_names may.modules_behind may.modules_once

  -- a module that stays, under its new number
  stays : (n : ℕ) → NamesModule e n → (n ≤ mark.modules) ⊎ Contains ids n
      → IsNumber (length (take mark.modules e.modules ++ map (module_at e) ids)) (new_number mark.modules ids n) × (numbered no_module (take mark.modules e.modules ++ map (module_at e) ids) (new_number mark.modules ids n) ≡ module_at e n)
  stays n i where_is = elim (cases_lt mark.modules n) [
    | inr l ↦ in_front l
    | inl g ↦ elim where_is [
      | inl l ↦ in_front l
      | inr m ↦ behind_it g m
    ]
  ]
    where
      in_front : n ≤ mark.modules → IsNumber (length (take mark.modules e.modules ++ map (module_at e) ids)) (new_number mark.modules ids n) × (numbered no_module (take mark.modules e.modules ++ map (module_at e) ids) (new_number mark.modules ids n) ≡ module_at e n)
      in_front l =
          let same = new_number-front mark.modules n ids l in
          let long = modules_length in
          let front = front_length e mark a may.fits in (
            record { from = (let f = i.from in omega arith); to = omega arith },
            ap (numbered no_module (take mark.modules e.modules ++ map (module_at e) ids)) same ∙ numbered-front no_module (take mark.modules e.modules) (map (module_at e) ids) n (omega arith)
                ∙ numbered-take no_module e.modules mark.modules n l,
          )

      behind_it : mark.modules < n → Contains ids n → IsNumber (length (take mark.modules e.modules ++ map (module_at e) ids)) (new_number mark.modules ids n) × (numbered no_module (take mark.modules e.modules ++ map (module_at e) ids) (new_number mark.modules ids n) ≡ module_at e n)
      behind_it g m =
          let same = new_number-behind mark.modules n ids g in
          let long = modules_length in
          let front = front_length e mark a may.fits in
          let found = place_in n ids m in
          let below = found.0 in
          let at : mark.modules + suc (place_of n ids) - length (take mark.modules e.modules) ≡ suc (place_of n ids) = omega arith in (
            record { from = omega arith; to = omega arith },
            ap (numbered no_module (take mark.modules e.modules ++ map (module_at e) ids)) same
                ∙ numbered-behind no_module (take mark.modules e.modules) (map (module_at e) ids) (mark.modules + suc (place_of n ids)) (omega arith)
                ∙ ap (numbered no_module (map (module_at e) ids)) at ∙ get_or-map (module_at e) ids (place_of n ids) zero no_module below ∙ ap (module_at e) found.1,
          )

  kept_among : (gs : List Map) (n : ℕ) → NamesMap e n → ((map_at e n).source ≤ mark.modules) ⊎ Contains ids (map_at e n).source → ((map_at e n).target ≤ mark.modules) ⊎ Contains ids (map_at e n).target
      → IsMapAmong (record { header = e.header; modules = take mark.modules e.modules ++ map (module_at e) ids; maps = gs }) (renumbered mark.modules ids (map_at e n))
  kept_among gs n i s t =
      let among = map_among e n a i in
      let source = stays (map_at e n).source among.source s in
      let target = stays (map_at e n).target among.target t in
      among_moved e.header e.modules (take mark.modules e.modules ++ map (module_at e) ids) e.maps gs (map_at e n) (renumbered mark.modules ids (map_at e n)) refl source.0 target.0 source.1 target.1 among

  kept_lists : (gs : List Map) → All (IsMapAmong (record { header = e.header; modules = take mark.modules e.modules ++ map (module_at e) ids; maps = gs })) (kept e mark ids numbers).maps
  kept_lists gs =
      All-append (IsMapAmong (record { header = e.header; modules = take mark.modules e.modules ++ map (module_at e) ids; maps = gs })) (take mark.maps e.maps) (map (λ n. renumbered mark.modules ids (map_at e n)) numbers)
      (All-weaker (IsMapAmong (record { header = e.header; modules = take mark.modules e.modules; maps = gs })) (IsMapAmong (record { header = e.header; modules = take mark.modules e.modules ++ map (module_at e) ids; maps = gs }))
      (λ f. among_more e.header (take mark.modules e.modules) (map (module_at e) ids) gs gs f) (take mark.maps e.maps) (fronts_among e mark a may.fits gs))
      (All-map (IsMapAmong (record { header = e.header; modules = take mark.modules e.modules ++ map (module_at e) ids; maps = gs })) (λ n. renumbered mark.modules ids (map_at e n)) numbers
      (λ k d l. kept_among gs (get_or numbers k d) (may.map_names k d l) (may.sources k d l) (may.targets k d l)))

  pub lawful_kept : AreLawful (kept e mark ids numbers)
  lawful_kept = record {
    allowed = a.allowed;
    modules = All-append (IsSmallModule e.header) (take mark.modules e.modules) (map (module_at e) ids) (All-take (IsSmallModule e.header) mark.modules e.modules a.modules)
        (All-map (IsSmallModule e.header) (module_at e) ids (λ k d l. small_module e (get_or ids k d) a (may.module_names k d l)));
    maps = kept_lists (kept e mark ids numbers).maps;
    few_modules = let few = few_kept in let long = modules_length in omega (arith, a.few_modules);
    few_maps =
        let few = few_behind mark.maps (length e.maps) numbers may.fits.maps may.map_names may.maps_behind may.maps_once in
        let long = length-append (take mark.maps e.maps) (map (λ n. renumbered mark.modules ids (map_at e n)) numbers) in
        let front = maps_length e mark a may.fits in
        let back = length-map numbers (λ n. renumbered mark.modules ids (map_at e n)) in
        omega (arith, a.few_maps);
  }

-- The same where the lists were put together from their parts: `e` are the entries as their parts say, `was` as they were seen.
module _ (e was : Entries) (mark seen : Heights) (same : e ≡ was) (marked : mark ≡ seen) (ids numbers : List ℕ) (ms : List Module) (fs : List Map) (m : ms ≡ (kept e mark ids numbers).modules) (f : fs ≡ (kept e mark ids numbers).maps) where
  pub kept_is : record { header = e.header; modules = ms; maps = fs } ≡ kept was seen ids numbers
  kept_is = (λ i. record { header = e.header; modules = m i; maps = f i }) ∙ (λ i. kept (same i) (marked i) ids numbers)

  pub kept_lawful : AreLawful e → MayKeep was seen ids numbers → AreLawful (record { header = e.header; modules = ms; maps = fs })
  kept_lawful a may = subst AreLawful (sym kept_is) (lawful_kept was seen ids numbers (subst AreLawful same a) may)

-- the two parts of a list of what is kept
pub kept_parts : {X : Type 0} (n k l : ℕ) (xs ys xs' ys' zs : List X) → xs' ≡ take n xs → ys' ≡ take k ys ++ zs → k ≡ n - l → l ≡ length xs → xs' ++ ys' ≡ take n (xs ++ ys) ++ zs
kept_parts n k l xs ys xs' ys' zs e f g h = ap (λ ws. xs' ++ ws) f ∙ sym (append_assoc xs' (take k ys) zs) ∙ ap (λ ws. ws ++ zs) (cut_lists n k l xs ys xs' (take k ys) e refl g h)

pub room_kept : (was : Entries) (seen : Heights) (ids : List RepId) (numbers : List ℕ) (n : ℕ) → AreLawful was → MayKeep was seen (module_numbers ids) numbers → n ≡ seen.modules → n + length ids < 2 ^ 32 - 1
room_kept was seen ids numbers n a may e = let few = few_kept was seen (module_numbers ids) numbers a may in let c = length-map ids (λ (id : RepId). id.number) in omega (arith, a.few_modules)
