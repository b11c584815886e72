-- The list of all short paths, turned round, is the list of columns.
use Rattle.std.proofs.Common.{◌≡◌, ◌<◌, ◌-◌, List, length, get_or, reverse, sym, ap, ◌∙◌, subst, arith}
use Rattle.std.specs.Prelude.{Contains}
use Rattle.std.proofs.lemmas.List.{get_or-reverse, length-reverse}
use Rattle.quiver_paths.specs.declared.Path.{Path}
use Rattle.quiver_paths.specs.PathOrder.{IsSmaller}
use Rattle.quiver_paths.specs.PathList.{ListsPathsBelow}
use Rattle.path_algebra.specs.declared.Header.{Header}
use Rattle.path_algebra.proofs.Columns.{AreColumns}

Contains-reverse : (ps : List Path) (p : Path) → Contains ps p → Contains (reverse ps) p
Contains-reverse ps p c =
    let inside : length ps - 1 - c.0 < length ps = omega (arith, c.1) in
    let place : length ps - 1 - (length ps - 1 - c.0) ≡ c.0 = omega (arith, c.1) in
    (length ps - 1 - c.0, rw (length-reverse ps) inside, get_or-reverse ps _ p inside ∙ (ap (λ k. get_or ps k p) place ∙ c.2))

Contains-from_reverse : (ps : List Path) (p : Path) → Contains (reverse ps) p → Contains ps p
Contains-from_reverse ps p c =
    let inside : c.0 < length ps = subst (λ n. c.0 < n) (length-reverse ps) c.1 in
    (length ps - 1 - c.0, omega arith, sym (get_or-reverse ps c.0 p inside) ∙ c.2)

pub columns_from_paths : (h : Header) (ps : List Path) → ListsPathsBelow h.quiver h.bound ps → AreColumns h (reverse ps)
columns_from_paths h ps l = record {
  descending = λ i j d b k.
      let e : length (reverse ps) ≡ length ps = length-reverse ps in
      let far : j < length ps = omega arith in
      let near : i < length ps = omega arith in
      subst (λ y. IsSmaller y (get_or (reverse ps) i d)) (sym (get_or-reverse ps j d far))
      (subst (IsSmaller (get_or ps (length ps - 1 - j) d)) (sym (get_or-reverse ps i d near)) (l.ascending _ _ d (omega arith) (omega arith)));
  all = λ p s. Contains-reverse ps p (l.all p s.path s.short);
  only = λ p c. let s = l.only p (Contains-from_reverse ps p c) in record { path = s.0; short = s.1 };
}
