-- Modules and claims by number, of some records and of one behind them whose claim is not known.
use Rattle.std.proofs.Common.{◌≡◌, ℕ, All, subst, zero, suc, ◌+◌, ◌<◌, ◌≤◌, List, [], ◌++◌, length, get_or, inl, inr, refl, sym, ap, ◌∙◌, arith}
use Rattle.std.proofs.lemmas.Bool.{cases_lt, cases_eq}
use Rattle.std.proofs.lemmas.List.{get_or_past}
use Rattle.path_algebra.specs.Derivations.{IsNumber}
use Rattle.module_types.specs.declared.Map.{Map}
use Rattle.module_types.specs.declared.Module.{Module}
use Rattle.module_types.specs.Shapes.{dimension, most_dimension}
use Rattle.quiver_paths.proofs.ListLemmas.{length-pushed}
use Rattle.report_types.specs.declared.claims.Claim.{Claim}
use Rattle.report_types.specs.declared.claims.Claim.TheVariants as claim
use Rattle.report_types.specs.declared.claims.Record.{Record}
use Rattle.report_types.specs.Numbers.{modules_of, module_of, numbered, no_module, claim_of, claim_in, NamesModule}
use Rattle.claim_blocks.specs.Setting.{with_unclaimed}
use Rattle.claim_blocks.specs.Blocks.{AreSmall}
use Rattle.claim_blocks.proofs.Numbered.{numbered_left, numbered_past, numbered_right}
use Rattle.claim_blocks.proofs.ObjectLists.{modules_push, modules_count, claim_earlier, get-last, get-past}

module _ (before : List Record) (modules : List Module) (maps : List Map) where
  abbrev pub unclaimed : Record
  unclaimed = record { line = 0; modules = modules; maps = maps; claim = claim.Module 0 }

  abbrev pub here : List Record
  here = with_unclaimed before modules maps

  modules_here : modules_of here ≡ modules_of before ++ modules
  modules_here = modules_push before unclaimed

  pub module_before : (n : ℕ) (m : Module) → NamesModule before n → m ≡ module_of before n → m ≡ module_of here n
  module_before n m is e = e ∙ (numbered_left no_module (modules_of before) modules n is ∙ ap (λ ms. numbered no_module ms n) (sym modules_here))

  pub module_zero : (n : ℕ) → (NamesModule before n → ⊥) → n ≤ length (modules_of before) → module_of here n ≡ no_module
  module_zero zero not l = refl
  module_zero (suc i) not l = absurd (not record { from = omega arith; to = l })

  pub module_past : (n : ℕ) → length (modules_of before) + length modules < n → module_of here n ≡ no_module
  module_past n l = sym (numbered_past no_module (modules_of here) n (let e = modules_count before unclaimed in omega (arith, l, e)))

  pub module_here : (n : ℕ) (m e : Module) (j : ℕ) → n ≡ suc (length (modules_of before) + j) → j < length modules → m ≡ get_or modules j e → m ≡ module_of here n
  module_here n m e j is l at = at ∙ (numbered_right no_module e (modules_of before) modules n j is l ∙ ap (λ ms. numbered no_module ms n) (sym modules_here))

  pub claim_before : (n : ℕ) (c : Claim) → IsNumber (length before) n → c ≡ claim_of before n → c ≡ claim_of here n
  claim_before n c is e = e ∙ sym (claim_earlier before unclaimed n is.to)

  pub claim_none : (n : ℕ) → (IsNumber (length before) n → ⊥) → claim_of here n ≡ claim.Module 0
  claim_none zero not = refl
  claim_none (suc i) not = elim (cases_eq i (length before)) [
    | inl last ↦ ap (λ k. claim_of here (suc k)) last ∙ ap claim_in (get-last before unclaimed [])
    | inr other ↦ elim (cases_lt (length before) i) [
      | inl past ↦ ap claim_in (get-past here i (let long = length-pushed before here unclaimed refl in omega (arith, past, long)))
      | inr inside ↦ absurd (not record { from = omega arith; to = (let l : suc i ≤ length before = omega (arith, inside, other) in l) })
    ]
  ]

-- the modules of some records have at most the largest dimension, whatever number one asks for
pub small_modules : (rs : List Record) → All (λ (m : Module). dimension m.dims ≤ most_dimension) (modules_of rs) → AreSmall rs
small_modules rs all zero = omega arith
small_modules rs all (suc i) = elim (cases_lt i (length (modules_of rs))) [
  | inl inside ↦ all i no_module inside
  | inr past ↦ subst (λ (m : Module). dimension m.dims ≤ most_dimension) (sym (get_or_past (modules_of rs) i no_module (omega (arith, past)))) (omega arith)
]
