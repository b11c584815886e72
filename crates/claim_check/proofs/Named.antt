-- What the format asks of the modules and maps that claims name, over the whole report.
use Rattle.std.proofs.Common.{ℕ, suc, ◌≡◌, ◌+◌, ◌<◌, List, length, get_or, Some, None, inl, inr, refl, sym, ap, ◌∙◌, subst, arith, length-append}
use Rattle.std.specs.Prelude.{All, take, drop, map}
use Rattle.std.proofs.lemmas.Bool.{cases_lt}
use Rattle.std.proofs.lemmas.List.{take-append-drop, take-take, length-take, get_or_default}
use Rattle.std.proofs.lemmas.List.Elements.{All-weaker}
use Rattle.path_algebra.specs.declared.Header.{Header}
use Rattle.bound_algebra.specs.TypedPaths.{quiver_of}
use Rattle.module_types.specs.declared.Module.{Module}
use Rattle.module_types.specs.declared.Map.{Map}
use Rattle.module_types.specs.declared.Side.{Side}
use Rattle.module_types.specs.Algebras.{algebra_at}
use Rattle.module_types.specs.Shapes.{IsMap}
use Rattle.module_checks.proofs.VertexMatrices.{map_beside}
use Rattle.claim_conditions.specs.declared.Clause.TheVariants as clause
use Rattle.claim_conditions.specs.Conditions.{IsAnswer}
use Rattle.claim_conditions.specs.Modules.{ModuleHolds, MapHolds, PrintedMap, object_conditions}
use Rattle.report_types.specs.declared.claims.Record.{Record}
use Rattle.report_types.specs.declared.reports.Report.{Report}
use Rattle.report_types.specs.Numbers.{modules_of, maps_of, module_of, map_of, record_of, printed, no_module, no_map, NamesModule, NamesMap, NamesClaim}
use Rattle.report_types.specs.Holding.{IsHomomorphism}
use Rattle.report_types.specs.Lawful.{IsModuleBlock, IsMapBlock, IsRecord, MayBeRecord, IsReport}
use Rattle.report_types.proofs.Fronts.{modules_append, maps_append, numbered_all, all_modules, all_maps, front_record, module_in_whole, all_map, all_of_map}

-- what is named over the first records is named over all
pub names_module : (k : ℕ) (rs : List Record) (n : ℕ) → NamesModule (take k rs) n → NamesModule rs n
names_module k rs n is =
    let e = ap (λ x. length (modules_of x)) (take-append-drop k rs) in
    let s = ap length (modules_append (take k rs) (drop k rs)) in
    let c = length-append (modules_of (take k rs)) (modules_of (drop k rs)) in
    record { from = is.from; to = let t = is.to in omega (arith, e, s, c, t) }

pub names_map : (k : ℕ) (rs : List Record) (n : ℕ) → NamesMap (take k rs) n → NamesMap rs n
names_map k rs n is =
    let e = ap (λ x. length (maps_of x)) (take-append-drop k rs) in
    let s = ap length (maps_append (take k rs) (drop k rs)) in
    let c = length-append (maps_of (take k rs)) (maps_of (drop k rs)) in
    record { from = is.from; to = let t = is.to in omega (arith, e, s, c, t) }

pub names_claim : (k : ℕ) (rs : List Record) (n : ℕ) → NamesClaim (take k rs) n → NamesClaim rs n
names_claim k rs n is = record { from = is.from; earlier = let l = is.earlier in let e = length-take k rs in omega (arith, l, e) }

-- a map of the first records is one of all
pub map_block_in_whole : (h : Header) (k : ℕ) (rs : List Record) (f : Map) → IsMapBlock h (take k rs) f → IsMapBlock h rs f
map_block_in_whole h k rs f b = record {
  source = names_module k rs f.source b.source;
  target = names_module k rs f.target b.target;
  matrices =
      subst (λ x. IsMap h.field (quiver_of h.quiver) x (module_of rs f.target) f.matrices) (module_in_whole k rs f.source b.source)
      (subst (λ y. IsMap h.field (quiver_of h.quiver) (module_of (take k rs) f.source) y f.matrices) (module_in_whole k rs f.target b.target) b.matrices);
}

module _ (report : Report) (is : IsReport report) where
  pub record_lawful : (k : ℕ) (r : Record) → record_of report.records k ≡ Some r → IsRecord report.header (take k report.records) r
  record_lawful k r e = subst (MayBeRecord report.header (take k report.records)) e (is.each k)

  pub record_modules : (k : ℕ) (r : Record) → record_of report.records k ≡ Some r → All (IsModuleBlock report.header) r.modules
  record_modules k r e = (record_lawful k r e).modules

  pub record_maps : (k : ℕ) (r : Record) → record_of report.records k ≡ Some r → All (IsMapBlock report.header report.records) r.maps
  record_maps k r e =
      All-weaker (IsMapBlock report.header (take k report.records)) (IsMapBlock report.header report.records)
      (λ f b. map_block_in_whole report.header k report.records f b) r.maps (record_lawful k r e).maps

  pub module_lawful : (n : ℕ) → NamesModule report.records n → IsModuleBlock report.header (module_of report.records n)
  module_lawful n b =
      numbered_all (IsModuleBlock report.header) no_module (modules_of report.records) n b
      (all_modules (IsModuleBlock report.header) report.records (λ i r e. record_modules (suc i) r e))

  pub map_lawful : (n : ℕ) → NamesMap report.records n → IsMapBlock report.header report.records (map_of report.records n)
  map_lawful n b =
      numbered_all (IsMapBlock report.header report.records) no_map (maps_of report.records) n b
      (all_maps (IsMapBlock report.header report.records) report.records (λ i r e. record_maps (suc i) r e))

  pub module_there : (n : ℕ) (x : Module) → NamesModule report.records n → x ≡ module_of report.records n → IsModuleBlock report.header x
  module_there n x b same = subst (IsModuleBlock report.header) (sym same) (module_lawful n b)

-- the matrices of a map, on the side of a module
pub map_shapes : (h : Header) (rs : List Record) (f : Map) (side : Side) (x y : Module) → IsMapBlock h rs f → x ≡ module_of rs f.source → y ≡ module_of rs f.target
    → IsMap h.field (algebra_at side h).quiver x y f.matrices
map_shapes h rs f side x y b p r =
    map_beside h side x y f.matrices
    (subst (λ m. IsMap h.field (quiver_of h.quiver) m y f.matrices) (sym p)
    (subst (λ m. IsMap h.field (quiver_of h.quiver) (module_of rs f.source) m f.matrices) (sym r) b.matrices))

pub map_there : (h : Header) (rs : List Record) (f : Map) (x y : Module) → IsMapBlock h rs f → x ≡ module_of rs f.source → y ≡ module_of rs f.target
    → IsMap h.field (quiver_of h.quiver) x y f.matrices
map_there h rs f x y b p r =
    subst (λ m. IsMap h.field (quiver_of h.quiver) m y f.matrices) (sym p)
    (subst (λ m. IsMap h.field (quiver_of h.quiver) (module_of rs f.source) m f.matrices) (sym r) b.matrices)

-- all items hold, place by place
abbrev pub AllBelow : {X : Type 0} → (X → Type 0) → List X → ℕ → Type 0
AllBelow {X} P xs n = (i : ℕ) (d : X) → i < n → P (get_or xs i d)

pub all_more : {X : Type 0} (P : X → Type 0) (xs : List X) (n : ℕ) (x : X) → AllBelow P xs n → n < length xs → x ≡ get_or xs n x → P x → AllBelow P xs (n + 1)
all_more P xs n x below inside is holds i d l = elim (cases_lt i n) [
  | inl less ↦ below i d less
  | inr more ↦ let e : n ≡ i = omega (arith, l, more) in subst (λ k. P (get_or xs k d)) e (subst P (is ∙ get_or_default xs n x d inside) holds)
]

-- the objects of a record
module _ (h : Header) (rs : List Record) (modules : List Module) (maps : List Map) where
  pub not_modules : ¬ All (ModuleHolds h) modules → IsAnswer (object_conditions h modules (map (printed rs) maps)) (Some clause.Relations)
  not_modules fails = (0, (refl, fails))

  pub not_maps : All (ModuleHolds h) modules → ¬ All (IsHomomorphism h rs) maps → IsAnswer (object_conditions h modules (map (printed rs) maps)) (Some clause.Commutes)
  not_maps a fails = (1, (a, (refl, λ b. fails (all_of_map (λ (f : PrintedMap). MapHolds h f.source f.target f.matrices) (printed rs) maps b))))

  pub all_objects : All (ModuleHolds h) modules → All (IsHomomorphism h rs) maps → IsAnswer (object_conditions h modules (map (printed rs) maps)) None
  all_objects a b = (a, (all_map (λ (f : PrintedMap). MapHolds h f.source f.target f.matrices) (printed rs) maps b, tt))

-- over the first records
module _ (report : Report) (is : IsReport report) where
  pub map_at_front : (k n : ℕ) → NamesMap (take k report.records) n → IsMapBlock report.header (take k report.records) (map_of (take k report.records) n)
  map_at_front k n b =
      let h = report.header in
      let front = take k report.records in
      numbered_all (IsMapBlock h front) no_map (maps_of front) n b
      (all_maps (IsMapBlock h front) front (λ i r e.
      let s = front_record k report.records i r e in
      All-weaker (IsMapBlock h (take (suc i) report.records)) (IsMapBlock h front)
      (λ f x. map_block_in_whole h (suc i) front f (subst (λ fr. IsMapBlock h fr f) (sym (take-take (suc i) k report.records s.0)) x)) r.maps
      (record_lawful report is (suc i) r s.1).maps))
