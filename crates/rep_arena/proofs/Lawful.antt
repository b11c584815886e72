-- Lists of entries stay lawful where an entry is added.
use Rattle.std.proofs.Common.{ℕ, ◌<◌, ◌≤◌, ◌≡◌, ◌-◌, ◌^◌, List, [], ◌∷◌, ◌++◌, length, refl, sym, ap, ◌∙◌, arith, subst, append_assoc}
use Rattle.std.proofs.lemmas.List.{length_push}
use Rattle.std.proofs.lemmas.List.Elements.{All-nil, All-push, All-weaker}
use Rattle.path_algebra.specs.declared.Header.{Header}
use Rattle.path_algebra.specs.Allowed.{IsAllowed}
use Rattle.path_algebra.specs.Derivations.{IsNumber}
use Rattle.module_types.specs.declared.Module.{Module}
use Rattle.module_types.specs.declared.Map.{Map}
use Rattle.module_faults.specs.ModuleFaults.{IsSmallModule}
use Rattle.module_faults.specs.MapFaults.{IsSmallMap}
use Rattle.rep_arena.specs.Entries.{Entries, no_entries, numbered, no_module, no_map, module_at, map_at, NamesModule, NamesMap, IsMapAmong, AreLawful, with_module, with_map}
use Rattle.rep_arena.proofs.Numbered.{numbered-front, All-numbered, number_more}

pub small_module : (e : Entries) (n : ℕ) → AreLawful e → NamesModule e n → IsSmallModule e.header (module_at e n)
small_module e n a i = All-numbered no_module (IsSmallModule e.header) e.modules n a.modules i

pub map_among : (e : Entries) (n : ℕ) → AreLawful e → NamesMap e n → IsMapAmong e (map_at e n)
map_among e n a i = All-numbered no_map (IsMapAmong e) e.maps n a.maps i

pub lawful_none : (h : Header) → IsAllowed h → AreLawful (no_entries h)
lawful_none h ok = record { allowed = ok; modules = All-nil (IsSmallModule h); maps = All-nil (IsMapAmong (no_entries h)); few_modules = omega arith; few_maps = omega arith }

-- The same matrices between the same modules, which have other numbers among others.
pub among_moved : (h : Header) (ms ns : List Module) (fs gs : List Map) (f g : Map) → g.matrices ≡ f.matrices → IsNumber (length ns) g.source → IsNumber (length ns) g.target
    → numbered no_module ns g.source ≡ numbered no_module ms f.source → numbered no_module ns g.target ≡ numbered no_module ms f.target
    → IsMapAmong (record { header = h; modules = ms; maps = fs }) f → IsMapAmong (record { header = h; modules = ns; maps = gs }) g
among_moved h ms ns fs gs f g e i j s t a = record {
  source = i;
  target = j;
  small = subst (IsSmallMap h (numbered no_module ns g.source) (numbered no_module ns g.target)) (sym e)
      (subst (λ (m : Module). IsSmallMap h m (numbered no_module ns g.target) f.matrices) (sym s) (subst (λ (m : Module). IsSmallMap h (numbered no_module ms f.source) m f.matrices) (sym t) a.small));
}

-- A map among some modules is one among more.
pub among_more : (h : Header) (ms ns : List Module) (fs gs : List Map) (f : Map) → IsMapAmong (record { header = h; modules = ms; maps = fs }) f → IsMapAmong (record { header = h; modules = ms ++ ns; maps = gs }) f
among_more h ms ns fs gs f a =
    among_moved h ms (ms ++ ns) fs gs f f refl (number_more (length ms) (length (ms ++ ns)) f.source (longer ms ns) a.source) (number_more (length ms) (length (ms ++ ns)) f.target (longer ms ns) a.target)
    (numbered-front no_module ms ns f.source a.source.to) (numbered-front no_module ms ns f.target a.target.to) a
  where
    longer : (xs ys : List Module) → length xs ≤ length (xs ++ ys)
    longer [] ys = omega arith
    longer (x ∷ xs) ys = let l = longer xs ys in omega arith

pub lawful_module : (e : Entries) (m : Module) → AreLawful e → IsSmallModule e.header m → length e.modules < 2 ^ 32 - 2 → AreLawful (with_module e m)
lawful_module e m a s few = record {
  allowed = a.allowed;
  modules = All-push (IsSmallModule e.header) e.modules m a.modules s;
  maps = All-weaker (IsMapAmong e) (IsMapAmong (with_module e m)) (λ f. among_more e.header e.modules (m ∷ []) e.maps e.maps f) e.maps a.maps;
  few_modules = let l = length_push e.modules m in omega arith;
  few_maps = a.few_maps;
}

pub lawful_map : (e : Entries) (f : Map) → AreLawful e → IsMapAmong e f → length e.maps < 2 ^ 32 - 2 → AreLawful (with_map e f)
lawful_map e f a i few = record {
  allowed = a.allowed;
  modules = a.modules;
  maps = All-push (IsMapAmong (with_map e f)) e.maps f (All-weaker (IsMapAmong e) (IsMapAmong (with_map e f)) (λ g. moved g) e.maps a.maps) (moved f i);
  few_modules = a.few_modules;
  few_maps = let l = length_push e.maps f in omega arith;
}
  where
    moved : (g : Map) → IsMapAmong e g → IsMapAmong (with_map e f) g
    moved g b = record { source = b.source; target = b.target; small = b.small }

-- The same where the list of modules, or of maps, stands in two parts.
pub module_added : (h g : Header) (old new more : List Module) (fs : List Map) (m x : Module) → AreLawful (record { header = h; modules = old ++ new; maps = fs }) → g ≡ h → IsSmallModule g m → length (old ++ new) < 2 ^ 32 - 2
    → more ≡ new ++ x ∷ [] → x ≡ m → AreLawful (record { header = h; modules = old ++ more; maps = fs })
module_added h g old new more fs m x a e s few n same =
    subst (λ (ms : List Module). AreLawful (record { header = h; modules = ms; maps = fs })) (sym (ap (λ zs. old ++ zs) (n ∙ ap (λ (y : Module). new ++ y ∷ []) same) ∙ sym (append_assoc old new (m ∷ []))))
    (lawful_module (record { header = h; modules = old ++ new; maps = fs }) m a (subst (λ (k : Header). IsSmallModule k m) e s) few)

pub map_added : (h : Header) (ms : List Module) (old new more : List Map) (f x : Map) → AreLawful (record { header = h; modules = ms; maps = old ++ new }) → IsMapAmong (record { header = h; modules = ms; maps = old ++ new }) f → length (old ++ new) < 2 ^ 32 - 2
    → more ≡ new ++ x ∷ [] → x ≡ f → AreLawful (record { header = h; modules = ms; maps = old ++ more })
map_added h ms old new more f x a i few n same =
    subst (λ (fs : List Map). AreLawful (record { header = h; modules = ms; maps = fs })) (sym (ap (λ zs. old ++ zs) (n ∙ ap (λ (y : Map). new ++ y ∷ []) same) ∙ sym (append_assoc old new (f ∷ []))))
    (lawful_map (record { header = h; modules = ms; maps = old ++ new }) f a i few)

-- A map that was checked between copies of the modules that it names; `e` are the entries as their parts say, `was` as they were seen.
pub among_checked : (e was : Entries) (f : Map) (a b : Module) (h : Header) → e ≡ was → NamesModule was f.source → NamesModule was f.target → a ≡ module_at was f.source → b ≡ module_at was f.target → h ≡ was.header
    → IsSmallMap h a b f.matrices → IsMapAmong e f
among_checked e was f a b h same s t x y k small =
    subst (λ (z : Entries). IsMapAmong z f) (sym same)
    (record {
      source = s;
      target = t;
      small = subst (λ (h : Header). IsSmallMap h (module_at was f.source) (module_at was f.target) f.matrices) k
          (subst (λ (m : Module). IsSmallMap h m (module_at was f.target) f.matrices) x (subst (λ (m : Module). IsSmallMap h a m f.matrices) y small));
    })
