-- Lines that are read one behind the other.
use Rattle.std.specs.Prelude.{ℕ, ◌≡◌, List, [], ◌∷◌}

-- the lines lead from what has been read to what is read with them
abbrev pub Leads : {Part : Type 0} → (Part → List (List ℕ) → Part → Type 0) → Part → List (List (List ℕ)) → Part → Type 0
Leads Step part [] last = last ≡ part
Leads {Part} Step part (line ∷ rest) last = (next : Part) × Step part line next × Leads Step next rest last
