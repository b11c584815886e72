use Rattle.std.proofs.Common.{◌≡◌, ◌<◌, ◌^◌, true, false, sym, ◌∙◌, arith, lit<}
use Rattle.header_text.proofs.Uniqueness.{decimal_one}
use Rattle.claim_lines.proofs.NumberReading.{head_is}
use Rattle.claim_lines.proofs.ends.only_this.Goals as goal

pub returns-then-n-claims : goal.returns-then-n-claims
returns-then-n-claims c = (
  λ f. let g : false ≡ true = f in cc,
  λ e.
      let big : 2 ^ 32 < 2 ^ 64 = lit< tt in
      let fits = c.ranges.claims.fits in
      let most = c.in-Some.ensures.0 in
      absurd (c.if-n-claims.true (decimal_one c.in-Some.n c.args.claims (omega arith) (omega arith) (head_is _ _ _ _ (sym c.in-Some.ensures.1 ∙ e)))),
)
