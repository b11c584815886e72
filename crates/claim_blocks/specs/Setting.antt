-- What the lines behind the first line of a claim are read over.
use Rattle.std.specs.Prelude.{List, [], ◌∷◌, ◌++◌}
use Rattle.path_algebra.specs.declared.Header.{Header}
use Rattle.module_types.specs.declared.Map.{Map}
use Rattle.module_types.specs.declared.Module.{Module}
use Rattle.report_types.specs.declared.claims.Claim.TheVariants as claim
use Rattle.report_types.specs.declared.claims.Record.{Record}

-- the header, and the records up to that of the claim, of which only the objects are known
pub record Setting : Type 0 where
  pub header : Header
  pub records : List Record

-- some records, and one with these objects and a claim of which nothing is known
abbrev pub with_unclaimed : List Record → List Module → List Map → List Record
with_unclaimed before modules maps = before ++ record { line = 0; modules = modules; maps = maps; claim = claim.Module 0 } ∷ []
