use Rattle.std.proofs.Common.{List, refl, ap}
use Rattle.quiver_paths.specs.declared.Path.{Path}
use Rattle.report_types.specs.declared.claims.Claim.TheVariants.{Basis}
use Rattle.script_run.proofs.BasisRecords.{right_record_of}
use Rattle.script_run.proofs.basis.basis_record.Goals as goal

pub returns : goal.returns
returns c =
    right_record_of c.args.script.now _ c.args.reduced.table.words c.args.reduced.steps c.args.reduced.rules c.requires.lawful c.requires.few c.requires.claim c.requires.holds
    c.requires.few_steps c.requires.few_rules refl c.new.ensures c.new-2.ensures (ap (λ (ws : List Path). Basis ws c.args.reduced.steps c.args.reduced.rules) c.in_ok-words.ensures)
