use Rattle.std.proofs.Common.{inl, inr, sym}
use Rattle.std.proofs.lemmas.Bool.{cases_Bool}
use Rattle.path_algebra.specs.Elements.{runs_between, middle}
use Rattle.path_algebra.proofs.Between.{composite-middle, middle-start, middle-end}
use Rattle.path_algebra.proofs.ElementLemmas.{product-composite, product-long, product-outside}
use Rattle.path_algebra.proofs.laws.product_at.Goals as goal

pub returns-clause-there : goal.returns-clause-there
returns-clause-there c t u x v m a b l = product-composite t u x v m a b l

pub returns-clause-long : goal.returns-clause-long
returns-clause-long c t u x v p l = product-long t u x v p l

pub returns-clause-elsewhere : goal.returns-clause-elsewhere
returns-clause-elsewhere c t u x v p n = elim (cases_Bool (runs_between u v p)) [
  | inl r ↦ absurd (n (middle u v p) (middle-start u v p) (middle-end u v p) (sym (composite-middle u v p r)))
  | inr r ↦ product-outside t u x v p r
]
