use Rattle.std.proofs.Common.{◌≡◌, true, false, arith}
use Rattle.claim_lines.proofs.PathReading.{no_other_word}
use Rattle.claim_lines.proofs.paths.read_word.Goals as goal

pub returns-then-len-header : goal.returns-then-len-header
returns-then-len-header c =
    let known = rw c.in-Some.is at c.in_ok-path.ensures in
    let first = rw c.if-not-take_word.false at c.take_word.ensures in
    no_other_word c.args.header.now c.requires c.args.words.now c.args.tokens c.take_word.new.self c.in-Some.path first known.0 known.1 (λ fits. let short = fits.short.short in absurd (omega (arith, c.if-len-header.true, c.len.ensures)))

pub returns-then-not-lack : goal.returns-then-not-lack
returns-then-not-lack c =
    let known = rw c.in-Some.is at c.in_ok-path.ensures in
    let first = rw c.if-not-take_word.false at c.take_word.ensures in
    no_other_word c.args.header.now c.requires c.args.words.now c.args.tokens c.take_word.new.self c.in-Some.path first known.0 known.1
    (λ fits. let g : false ≡ true = c.if-not-lack.ensures.1 fits.new in cc)
