-- What a claim that another one names is, and what it prints. Where it is of another kind, it prints nothing.
use Rattle.std.specs.Prelude.{ℕ, zero, ⊤, ◌≡◌, List, []}
use Rattle.linear_algebra.specs.Field.{Gf}
use Rattle.fp_linear.specs.Matrix.{PlainMatrix, plain}
use Rattle.module_types.specs.declared.TermRows.{TermRows}
use Rattle.report_types.specs.declared.claims.Claim.{Claim}
use Rattle.report_types.specs.declared.claims.Claim.TheVariants as claim

-- a Hom claim, of a with b, and its rows
abbrev pub IsHomClaim : Claim → Type 0
IsHomClaim (claim.Hom a b rows) = ⊤
IsHomClaim c = ⊥

abbrev pub IsHomOf : Claim → ℕ → ℕ → Type 0
IsHomOf (claim.Hom x y rows) a b = (x ≡ a) × (y ≡ b)
IsHomOf c a b = ⊥

abbrev pub rows_in : Gf → Claim → PlainMatrix
rows_in q (claim.Hom a b rows) = rows
rows_in q c = plain q zero zero []

-- a resolution of length n, of a, the number of its module, and its terms
abbrev pub HasLength : Claim → ℕ → Type 0
HasLength (claim.Resolution a m terms) n = m ≡ n
HasLength c n = ⊥

abbrev pub IsResolutionOf : Claim → ℕ → Type 0
IsResolutionOf (claim.Resolution b n terms) a = b ≡ a
IsResolutionOf c a = ⊥

abbrev pub resolved_in : Claim → ℕ
resolved_in (claim.Resolution a n terms) = a
resolved_in c = zero

abbrev pub terms_in : Claim → List TermRows
terms_in (claim.Resolution a n terms) = terms
terms_in c = []

-- a local claim, of m, the Hom claim that it names, and its ideal
abbrev pub IsLocalClaim : Claim → Type 0
IsLocalClaim (claim.Local m hom ideal power residue) = ⊤
IsLocalClaim c = ⊥

abbrev pub IsLocalOf : Claim → ℕ → Type 0
IsLocalOf (claim.Local n hom ideal power residue) m = n ≡ m
IsLocalOf c m = ⊥

abbrev pub hom_in : Claim → ℕ
hom_in (claim.Local m hom ideal power residue) = hom
hom_in c = zero

abbrev pub ideal_in : Gf → Claim → PlainMatrix
ideal_in q (claim.Local m hom ideal power residue) = ideal
ideal_in q c = plain q zero zero []
