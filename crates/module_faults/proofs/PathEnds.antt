-- Where the path of a list of arrows begins and ends.
use Rattle.std.proofs.Common.{ℕ, ◌<◌, ◌≡◌, List, length, get_or, sym, ap, ◌∙◌, subst}
use Rattle.std.proofs.lemmas.List.{get_or_default}
use Rattle.quiver_paths.specs.declared.Quiver.{Quiver}
use Rattle.quiver_paths.specs.declared.Arrow.{Arrow}
use Rattle.quiver_paths.specs.Quiver.{arrow_count, source, target}
use Rattle.quiver_paths.proofs.QuiverLemmas.{source_is, target_is}

module _ (Q : Quiver) (xs : List ℕ) (k a : ℕ) (x : Arrow) (l : k < length xs) (e : a ≡ get_or xs k a) (below : get_or xs k 0 < arrow_count Q) (read : x ≡ get_or Q.arrows a x) where
  same : a ≡ get_or xs k 0
  same = e ∙ get_or_default xs k a 0 l

  inside : a < arrow_count Q
  inside = subst (λ a. a < arrow_count Q) (sym same) below

  pub source_read : x.from ≡ source Q (get_or xs k 0)
  source_read = ap (λ (x : Arrow). x.from) read ∙ sym (source_is Q a x inside) ∙ ap (source Q) same

  pub target_read : x.to ≡ target Q (get_or xs k 0)
  target_read = ap (λ (x : Arrow). x.to) read ∙ sym (target_is Q a x inside) ∙ ap (target Q) same
