use Rattle.std.proofs.Common.{◌≡◌, ◌≢◌, refl, subst}
use Rattle.std.specs.Prelude.{MatchOption}
use Rattle.linear_algebra.specs.Field.{Gf, order}
use Rattle.header_text.proofs.FormLemmas.{field_of_number}
use Rattle.header_text.proofs.arguments.only_field.Goals as goal

pub returns : goal.returns
returns c = field_of_number c.args.tokens c.in-Some.q c.of.result c.in-Some.ensures.0 c.in-Some.ensures.1 (subst (λ q. MatchOption c.of.result ((f : Gf) → order f ≢ q) (λ f. order f ≡ q)) refl c.of.ensures)
