-- The matrices without entries that are added one by one.
use Rattle.std.specs.Prelude.{ℕ, ◌≡◌, length}
use Rattle.claim_text.specs.declared.part.Owner.{Owner}
use Rattle.claim_text.specs.declared.part.Part.{Part}
use Rattle.claim_text.specs.Matrices.{filled}
use Rattle.claim_text.specs.Part.{here, count_of, rows_of, columns_of}

-- with the matrices without entries that come next
abbrev pub with_empties : Part → Owner → Part
with_empties p o =
    let h = p.front.header in
    record p { matrices = filled h.field (rows_of h p.dims (here p) o) (columns_of h p.dims (here p) o) (count_of h o) p.matrices }

-- so many matrices of an object stand there, of so many, and those that are still to be added are among the ones from the start
pub record Filling (o : Owner) (first now : Part) (i count : ℕ) : Type 0 where
  pub same : with_empties now o ≡ with_empties first o
  pub reached : length now.matrices ≡ i
  pub count_is : count_of now.front.header o ≡ count
