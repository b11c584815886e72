-- The dimension of the minimal projective cover of a module, counted by words, and the limit on it. (Assem, Simson, Skowroński, volume 1, chapter I, 5.)
use Rattle.std.specs.Prelude.{ℕ, ⊤, ◌≡◌, ◌<◌, List}
use Rattle.quiver_paths.specs.declared.Path.{Path}
use Rattle.path_algebra.specs.declared.Header.{Header}
use Rattle.projectives.specs.Canonical.{canonical_vertices}
use Rattle.module_types.specs.declared.Module.{Module}
use Rattle.module_types.specs.Readings.{read}
use Rattle.standard_modules.specs.StandardModules.{projectives_dim}
use Rattle.proj_cover.specs.declared.CoverError.{CoverError}
use Rattle.proj_cover.specs.declared.CoverError.TheVariants.{TermLimit, NoMemory}

abbrev pub cover_dim : Header → List Path → Module → ℕ
cover_dim h words m = projectives_dim h words m.side (canonical_vertices (read h m))

-- the largest dimension of a term
abbrev pub most_term : ℕ
most_term = 512

-- The cover is too large, or memory ran out.
abbrev pub IsCoverError : ℕ → CoverError → Type 0
IsCoverError dim (TermLimit d) = (d ≡ dim) × (most_term < dim)
IsCoverError dim NoMemory = ⊤
