-- Lines that are read one behind the other.
use Rattle.std.proofs.Common.{◌≡◌, ℕ, List, [], ◌∷◌, ◌++◌, ap, subst}
use Rattle.claim_blocks.specs.Leading.{Leads}

-- no line, and one line more in front
pub leads_none : {Part : Type 0} (Step : Part → List (List ℕ) → Part → Type 0) (p q : Part) → q ≡ p → Leads Step p [] q
leads_none Step p q e = e

pub leads_append : {Part : Type 0} (Step : Part → List (List ℕ) → Part → Type 0) (p q r : Part) (ls ms : List (List (List ℕ))) → Leads Step p ls q → Leads Step q ms r → Leads Step p (ls ++ ms) r
leads_append Step p q r [] ms a b = subst (λ x. Leads Step x ms r) a b
leads_append Step p q r (l ∷ ls) ms a b = (a.0, a.1, leads_append Step a.0 q r ls ms a.2 b)

-- what has been read stands in something larger
pub leads_within : {Part Whole : Type 0} (Step : Part → List (List ℕ) → Part → Type 0) (Step_within : Whole → List (List ℕ) → Whole → Type 0) (within : Part → Whole)
    → ((p q : Part) (l : List (List ℕ)) → Step p l q → Step_within (within p) l (within q)) → (p q : Part) (ls : List (List (List ℕ))) → Leads Step p ls q → Leads Step_within (within p) ls (within q)
leads_within Step Step_within within each p q [] a = ap within a
leads_within Step Step_within within each p q (l ∷ ls) a = (within a.0, each p a.0 l a.1, leads_within Step Step_within within each a.0 q ls a.2)
