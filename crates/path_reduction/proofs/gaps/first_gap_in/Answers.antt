use Rattle.std.proofs.Common.{◌≡◌, arith, refl, ◌+◌}
use Rattle.std.proofs.lemmas.List.Elements.{same_from_all_zip}
use Rattle.quiver_paths.proofs.PathLemmas.{same_path}
use Rattle.path_reduction.proofs.Closing.{gap_from, closes_more, closes_all_from}
use Rattle.path_reduction.proofs.gaps.first_gap_in.Goals as goal

pub returns-in-Some : goal.returns-in-Some
returns-in-Some c =
    let p = c.args.path.now in
    let copy : c.in_ok-path.path ≡ p = same_path _ _ c.in_ok-path.ensures.cases.0 c.in_ok-path.ensures.cases.1.0 (same_from_all_zip _ _ _ c.in_ok-path.ensures.cases.1.1 (λ x y e. e)) in
    gap_from c.args.header.now c.args.rules.now p c.in_ok-path.path c.loop-at.at c.in-Some.rule (c.in-Some.rule + 1) c.requires.path c.requires.short copy refl (rw c.in-Some.is at c.in_ok-rule.ensures) c.loop-at.invariant

pub loop-at-preserved : goal.loop-at-preserved
loop-at-preserved c = closes_more c.args.header.now c.args.rules.now c.args.path.now c.loop-at.at c.loop-at.invariant (rw c.in_default.is at c.in_ok-rule.ensures)

pub returns : goal.returns
returns c becomes red = closes_all_from c.args.header.now c.args.rules.now becomes c.args.path.now c.requires.tidy
    (λ rule m n l s. c.loop-at.invariant becomes red rule m n (omega (arith, l, c.loop-at-test.false)) s)
