use Rattle.std.proofs.Common.{◌≡◌, true, false, refl}
use Rattle.claim_lines.proofs.PathReading.{trivial_reads, long_reads, at_and_rest, take_all}
use Rattle.claim_lines.proofs.paths.any_path.Goals as goal

pub returns-then-begins_with_at : goal.returns-then-begins_with_at
returns-then-begins_with_at c =
    trivial_reads c.args.quiver.now c.requires c.args.token.now _ (at_and_rest c.args.token.now _ (c.if-begins_with_at.ensures.0 refl) (take_all c.args.token.now)) c.trivial_path.result c.trivial_path.ensures

pub returns : goal.returns
returns c =
    long_reads c.args.quiver.now c.requires c.args.token.now (λ e. let f : false ≡ true = c.if-begins_with_at.ensures.1 e in cc) c.in_ok-path.path c.in_ok-path.ensures
