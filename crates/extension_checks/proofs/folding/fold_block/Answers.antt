use Rattle.std.proofs.Common.{sym, subst}
use Rattle.fp_linear.specs.Slices.{AreElements}
use Rattle.path_algebra.specs.declared.Header.{Header}
use Rattle.module_checks.specs.Commuting.{AsksMore}
use Rattle.extension_checks.specs.Asking.{AreTaken, MeetsLines}
use Rattle.extension_checks.proofs.folding.fold_block.Goals as goal

pub fold_lines-requires-clause-taken : goal.fold_lines-requires-clause-taken
fold_lines-requires-clause-taken c = subst (λ (g : Header). AreTaken g.field c.args.unknowns 1025 c.args.used c.args.entries.now) (sym c.header.ensures.header) c.requires.taken

pub fold_lines-requires-clause-elements : goal.fold_lines-requires-clause-elements
fold_lines-requires-clause-elements c = subst (λ (g : Header). AreElements g.field c.args.block.now) (sym c.header.ensures.header) c.requires.elements

pub returns-clause-taken : goal.returns-clause-taken
returns-clause-taken c = subst (λ (g : Header). AreTaken g.field c.args.unknowns 1025 c.fold_lines.result c.fold_lines.new.entries) c.header.ensures.header c.fold_lines.ensures.taken

pub returns-clause-more : goal.returns-clause-more
returns-clause-more c =
    subst (λ (g : Header). AsksMore g.field c.args.unknowns 1025 c.args.entries.now c.fold_lines.new.entries (MeetsLines g.field c.args.unknowns c.args.block.now c.args.count)) c.header.ensures.header c.fold_lines.ensures.more
