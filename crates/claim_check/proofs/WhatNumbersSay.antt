-- A condition on what the numbers of a claim say, in the place of another one.
use Rattle.std.proofs.Common.{ℕ, zero, suc, ◌≡◌, List, [], ◌∷◌, Some, None, refl, sym, ap, ◌∙◌}
use Rattle.std.specs.Prelude.{⊤, Option}
use Rattle.module_types.specs.declared.Map.{Map}
use Rattle.claim_conditions.specs.declared.Clause.{Clause}
use Rattle.claim_conditions.specs.Conditions.{Condition, ◌asks◌, FailsAt, IsAnswer}
use Rattle.report_types.specs.declared.claims.Record.{Record}
use Rattle.report_types.specs.Numbers.{map_of}
use Rattle.report_types.specs.Conditions.{Goes}

fails_for : (name : Clause) (cs : List Condition) (P : Type 0) (w : Clause) → P → (k : ℕ) → FailsAt ((name asks ⊤) ∷ cs) w k → FailsAt ((name asks P) ∷ cs) w k
fails_for name cs P w p zero f = absurd (f.1 tt)
fails_for name cs P w p (suc k) f = (p, f.1)

-- where it is so, the answer is that of the conditions without it
pub named_for : (name : Clause) (cs : List Condition) (P : Type 0) (r : Option Clause) → P → IsAnswer ((name asks ⊤) ∷ cs) r → IsAnswer ((name asks P) ∷ cs) r
named_for name cs P None p a = (p, a.1)
named_for name cs P (Some w) p a = (a.0, fails_for name cs P w p a.0 a.1)

-- the conditions behind the first
abbrev pub behind_first : List Condition → List Condition
behind_first [] = []
behind_first (c ∷ cs) = cs

-- where it is not, it is the first that fails
pub not_named : (name : Clause) (cs : List Condition) (P : Type 0) → (P → ⊥) → IsAnswer ((name asks P) ∷ cs) (Some name)
not_named name cs P f = (0, (refl, f))

-- two propositions of which each gives the other
swap_fails : (name : Clause) (cs : List Condition) (P Q : Type 0) (w : Clause) → (P → Q) → (Q → P) → (k : ℕ) → FailsAt ((name asks P) ∷ cs) w k → FailsAt ((name asks Q) ∷ cs) w k
swap_fails name cs P Q w there back zero f = (f.0, λ q. f.1 (back q))
swap_fails name cs P Q w there back (suc k) f = (there f.0, f.1)

pub named_swap : (name : Clause) (cs : List Condition) (P Q : Type 0) (r : Option Clause) → (P → Q) → (Q → P) → IsAnswer ((name asks P) ∷ cs) r → IsAnswer ((name asks Q) ∷ cs) r
named_swap name cs P Q None there back a = (there a.0, a.1)
named_swap name cs P Q (Some w) there back a = (a.0, swap_fails name cs P Q w there back a.0 a.1)

-- a map by its number, among other records
pub goes_over : (rs ss : List Record) (i a b : ℕ) → map_of rs i ≡ map_of ss i → Goes rs i a b → Goes ss i a b
goes_over rs ss i a b e g = record { source = ap (λ (m : Map). m.source) (sym e) ∙ g.source; target = ap (λ (m : Map). m.target) (sym e) ∙ g.target }
