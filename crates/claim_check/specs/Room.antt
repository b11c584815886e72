-- The room that claims are checked in: bytes, and numbers of 32 bits.
use Rattle.std.specs.Prelude.{ℕ, ◌≤◌, List, length, All}
use Rattle.report_types.specs.declared.claims.Claim.{Claim}
use Rattle.report_types.specs.declared.claims.Claim.TheVariants.{Basis, Module, Map, Hom, Kernel, Cokernel, Radical, Resolution, Ext, Local, Decomposition, Translate, AlmostSplit}
use Rattle.report_types.specs.declared.claims.Record.{Record}

-- The modules of a record: twice as many rows as a module of dimension 256 has unknowns, twice, and one more.
abbrev pub object_bytes : ℕ
object_bytes = 262656

abbrev pub object_numbers : ℕ
object_numbers = 513

-- A claim, by its kind. Bases of homomorphisms: the equations between as many unknowns as the format lets
-- through. Local modules: what is asked of families of as many numbers.
abbrev pub claim_bytes : Claim → ℕ
claim_bytes (Basis words steps rules) = 0
claim_bytes (Module m) = 0
claim_bytes (Map f) = 0
claim_bytes (Hom a b rows) = 2098176
claim_bytes (Kernel n f i) = 65536
claim_bytes (Cokernel n f p) = 65536
claim_bytes (Radical n a i) = 131328
claim_bytes (Resolution a n terms) = 1579008
claim_bytes (Ext n a b rows c) = 1312512
claim_bytes (Local m c ideal power residue) = 4200448
claim_bytes (Decomposition a s f g parts) = 0
claim_bytes (Translate which n a c rows) = 267264
claim_bytes (AlmostSplit n e a f g c l phi left middle) = 400896

abbrev pub claim_numbers : Claim → ℕ
claim_numbers (Basis words steps rules) = 0
claim_numbers (Module m) = 0
claim_numbers (Map f) = 0
claim_numbers (Hom a b rows) = 2049
claim_numbers (Kernel n f i) = 256
claim_numbers (Cokernel n f p) = 256
claim_numbers (Radical n a i) = 513
claim_numbers (Resolution a n terms) = 1537
claim_numbers (Ext n a b rows c) = 1025
claim_numbers (Local m c ideal power residue) = 4608
claim_numbers (Decomposition a s f g parts) = 32
claim_numbers (Translate which n a c rows) = 512
claim_numbers (AlmostSplit n e a f g c l phi left middle) = 512

-- enough for objects; for a claim
pub record HasObjectRoom (bytes numbers : List ℕ) : Type 0 where
  pub bytes_there : object_bytes ≤ length bytes
  pub numbers_there : object_numbers ≤ length numbers

pub record HasClaimRoom (c : Claim) (bytes numbers : List ℕ) : Type 0 where
  pub bytes_there : claim_bytes c ≤ length bytes
  pub numbers_there : claim_numbers c ≤ length numbers

-- enough for the objects of these records, and for each of their claims
pub record HasRoom (records : List Record) (bytes numbers : List ℕ) : Type 0 where
  pub objects : HasObjectRoom bytes numbers
  pub claims : All (λ (r : Record). HasClaimRoom r.claim bytes numbers) records
