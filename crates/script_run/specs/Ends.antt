-- How a run ends behind the record of its basis.
use Rattle.std.specs.Prelude.{◌≡◌, List, [], ◌∷◌}
use Rattle.script_types.specs.declared.Statement.{Statement}
use Rattle.report_types.specs.declared.reports.End.{End}
use Rattle.report_types.specs.declared.reports.End.TheVariants.{Done, Refused}
use Rattle.report_types.specs.declared.reports.Why.TheVariants.{NotBuilt}

-- done where there is no statement; else the first is refused, since none is built
abbrev pub EndsBehindBasis : List Statement → End → Type 0
EndsBehindBasis [] e = e ≡ Done
EndsBehindBasis (s ∷ left) e = e ≡ Refused s.line NotBuilt
