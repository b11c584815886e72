-- The texts of one line.
use Rattle.std.specs.Prelude.{ℕ, ◌∷◌, [], List, codes, decimal}
use Rattle.text_lines.specs.Strict.{strict_line}
use Rattle.claim_conditions.specs.declared.Clause.{Clause}
use Rattle.claim_conditions.specs.declared.Clause.TheVariants as clause

-- the name of a condition
abbrev pub clause_name : Clause → List ℕ
clause_name clause.Relations = codes "relations"
clause_name clause.Commutes = codes "commutes"
clause_name clause.Step = codes "step"
clause_name clause.Rule = codes "rule"
clause_name clause.Reduced = codes "reduced"
clause_name clause.Words = codes "words"
clause_name clause.Action = codes "action"
clause_name clause.Objects = codes "objects"
clause_name clause.Homs = codes "homs"
clause_name clause.All = codes "all"
clause_name clause.Zero = codes "zero"
clause_name clause.Complex = codes "complex"
clause_name clause.Exact = codes "exact"
clause_name clause.Minimal = codes "minimal"
clause_name clause.Choice = codes "choice"
clause_name clause.Cocycles = codes "cocycles"
clause_name clause.Nonzero = codes "nonzero"
clause_name clause.Ideal = codes "ideal"
clause_name clause.Power = codes "power"
clause_name clause.Residue = codes "residue"
clause_name clause.Order = codes "order"
clause_name clause.Sum = codes "sum"
clause_name clause.Inverse = codes "inverse"
clause_name clause.Inside = codes "inside"
clause_name clause.Nonprojective = codes "nonprojective"
clause_name clause.Functional = codes "functional"
clause_name clause.Left = codes "left"
clause_name clause.Middle = codes "middle"
clause_name clause.Maps = codes "maps"

-- the conditions hold of all claims, so many
abbrev pub holds_text : ℕ → List ℕ
holds_text claims = strict_line (codes "holds" ∷ decimal claims ∷ [])

-- this claim is the first that fails, and this the first of its conditions
abbrev pub rejected_text : ℕ → Clause → List ℕ
rejected_text claim which = strict_line (codes "rejected" ∷ decimal claim ∷ clause_name which ∷ [])

-- this line is the first bad one
abbrev pub bad_text : ℕ → List ℕ
bad_text line = strict_line (codes "badtext" ∷ decimal line ∷ [])

abbrev pub too_long_text : List ℕ
too_long_text = codes "toolong\n"

abbrev pub usage_text : List ℕ
usage_text = codes "usage: quiv run|check [--workers K] | quiv gen --seed S --size N\n"
