use Rattle.std.proofs.Common.{◌≡◌}
use Rattle.projectives.specs.Canonical.{free_places}
use Rattle.module_types.specs.Readings.{read}
use Rattle.proj_cover.specs.CanonicalTerms.{term_of}
use Rattle.proj_cover.proofs.generators.canonical_term.Given as goal

abbrev pub invariant-loop-w : goal.invariant-loop-w
invariant-loop-w l = l.term ≡ term_of (read l.fn.header l.fn.m) (free_places (read l.fn.header l.fn.m) l.w)
