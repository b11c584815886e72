-- The first path of a length that does not act as zero, arrow by arrow.
use Rattle.std.proofs.Common.{ℕ, zero, suc, ◌<◌, ◌≡◌, ◌+◌, ◌⊎◌, List, [], ◌∷◌, ◌++◌, length, get_or, inl, inr, refl, sym, ap, ◌∙◌, subst, arith, append_assoc}
use Rattle.std.proofs.lemmas.List.{append-nil, length-append, get_or_at}
use Rattle.linear_algebra.specs.Field.{Gf}
use Rattle.linear_algebra.specs.Matrix.{zeros}
use Rattle.quiver_paths.specs.declared.Quiver.{Quiver}
use Rattle.quiver_paths.specs.declared.Path.{Path}
use Rattle.quiver_paths.specs.Quiver.{vertex_count, arrow_count, source, target, HasEnds}
use Rattle.quiver_paths.specs.Path.{Leads, IsPath}
use Rattle.quiver_paths.specs.PathOrder.{IsSmaller, DiffersBelow, ComesBefore, shorter, by_arrows, by_start}
use Rattle.quiver_paths.proofs.PathOrderLemmas.{ComesBefore-from_smaller}
use Rattle.path_algebra.proofs.ReductionExists.{cases_leads}
use Rattle.representations.specs.Quiver.{Path as TypedPath}
use Rattle.representations.specs.Rep.{Rep, along}
use Rattle.bound_algebra.specs.TypedPaths.{quiver_of, arrows_of, path_of}
use Rattle.bound_algebra.specs.PathMatrices.{path_matrix}
use Rattle.bound_algebra.proofs.TypedPaths.{leads_or_zero, length-arrows_of, arrows_of-path_of}
use Rattle.bound_algebra.proofs.PathMatrices.{path_matrix-typed}
use Rattle.module_checks.specs.PathImages.{LongPathsActAsZero}
use Rattle.module_checks.proofs.RelationRows.{arrows_below}
use Rattle.module_faults.proofs.Stopping.{AreStopped}

-- a list that differs below from a longer one
differs_push : (zs xs : List ℕ) (a : ℕ) → DiffersBelow zs (xs ++ a ∷ []) → DiffersBelow zs xs ⊎ ((b : ℕ) × (rest : List ℕ) × (b < a) × (zs ≡ xs ++ b ∷ rest))
differs_push [] [] a d = absurd d
differs_push [] (x ∷ xs) a d = absurd d
differs_push (z ∷ zs) [] a (inl l) = inr (z, zs, l, refl)
differs_push (z ∷ []) [] a (inr d) = absurd d.1
differs_push (z ∷ (y ∷ ys)) [] a (inr d) = absurd d.1
differs_push (z ∷ zs) (x ∷ xs) a (inl l) = inl (inl l)
differs_push (z ∷ zs) (x ∷ xs) a (inr d) = elim (differs_push zs xs a d.1) [
  | inl e ↦ inl (inr (d.0, e))
  | inr r ↦ inr (r.0, r.1, r.2, (λ i. d.0 i ∷ r.3 i))
]

module _ {q : Gf} (Q : Quiver) (Y : Rep q (quiver_of Q)) where
  -- where each arrow leads to zero, so do all
  pub stopped_all : (xs : List ℕ) (j : ℕ) → ((a : ℕ) → a < arrow_count Q → AreStopped Y (xs ++ a ∷ []) j) → AreStopped Y xs (suc j)
  stopped_all xs j h = record { zero = go }
    where
      go : {v z : ℕ} (p : TypedPath (quiver_of Q) v z) (ys : List ℕ) → arrows_of p ≡ xs ++ ys → length ys ≡ suc j → along Y p ≡ zeros q (Y.dim v) (Y.dim z)
      go p [] e l = absurd (omega arith)
      go {v} {z} p (a ∷ ys) e l = elim (leads_or_zero Q p) [
        | inr none ↦ none q Y
        | inl leads ↦
            let at : get_or (xs ++ a ∷ ys) (length xs) 0 ≡ a = get_or_at xs a ys 0 (length xs) refl in
            let below = arrows_below Q v (xs ++ a ∷ ys) z (subst (λ zs. Leads Q v zs z) e leads) (length xs) (let n = length-append xs (a ∷ ys) in omega arith) in
            (h a (omega (arith, at, below))).zero p ys (e ∙ sym (append_assoc xs (a ∷ []) ys)) (omega arith)
      ]

  pub long_paths_stop : (t : ℕ) → AreStopped Y [] t → LongPathsActAsZero Y t
  long_paths_stop t h = record { zero = λ p e. h.zero p (arrows_of p) refl (length-arrows_of p ∙ e) }

  -- all paths of t arrows that differ below from these arrows act as zero
  pub record AreSmallerZero (t : ℕ) (xs : List ℕ) : Type 0 where
    pub each : (zs : List ℕ) → length zs ≡ t → DiffersBelow zs xs → {v z : ℕ} (p : TypedPath (quiver_of Q) v z) → arrows_of p ≡ zs → along Y p ≡ zeros q (Y.dim v) (Y.dim z)

  pub smaller_none : (t : ℕ) → AreSmallerZero t []
  smaller_none t = record { each = λ zs l d. absurd (nothing zs d) }
    where
      nothing : (zs : List ℕ) → DiffersBelow zs [] → ⊥
      nothing [] d = d
      nothing (z ∷ zs) d = d

  pub smaller_more : (t j a : ℕ) (xs : List ℕ) → length xs + suc j ≡ t → ((b : ℕ) → b < a → AreStopped Y (xs ++ b ∷ []) j) → AreSmallerZero t xs → AreSmallerZero t (xs ++ a ∷ [])
  smaller_more t j a xs size stopped h = record {
    each = λ zs l d p e. elim (differs_push zs xs a d) [
      | inl before ↦ h.each zs l before p e
      | inr here ↦
          (stopped here.0 here.2).zero p here.1 (e ∙ here.3 ∙ sym (append_assoc xs (here.0 ∷ []) here.1))
          (let m = ap length here.3 in let n = length-append xs (here.0 ∷ here.1) in omega arith)
    ];
  }

-- where arrows begin and end
first_source : (Q : Quiver) (u : ℕ) (xs : List ℕ) (w : ℕ) → 0 < length xs → Leads Q u xs w → source Q (get_or xs 0 0) ≡ u
first_source Q u [] w l h = absurd (omega arith)
first_source Q u (a ∷ xs) w l h = h.1

last_target : (Q : Quiver) (u : ℕ) (xs : List ℕ) (w k : ℕ) → length xs ≡ suc k → Leads Q u xs w → target Q (get_or xs k 0) ≡ w
last_target Q u [] w k l h = absurd (omega arith)
last_target Q u (a ∷ []) w zero l h = h.2
last_target Q u (a ∷ []) w (suc k) l h = absurd (omega arith)
last_target Q u (a ∷ (b ∷ xs)) w zero l h = absurd (omega arith)
last_target Q u (a ∷ (b ∷ xs)) w (suc k) l h = last_target Q (target Q a) (b ∷ xs) w k (omega arith) h.2

-- The path of these arrows, which do not act as zero, is the first of t arrows that does not.
module _ {q : Gf} (Q : Quiver) (ends : HasEnds Q) (Y : Rep q (quiver_of Q)) (k : ℕ) (xs : List ℕ) (long : length xs ≡ suc k) (alive : AreStopped Y xs 0 → ⊥) (u w : ℕ)
    (starts : u ≡ source Q (get_or xs 0 0)) (finishes : w ≡ target Q (get_or xs k 0)) where
  abbrev pub found : Path
  found = record { start = u; end = w; arrows = xs }

  -- a path of these arrows has these ends
  the_ends : {v z : ℕ} → Leads Q v xs z → (u ≡ v) × (w ≡ z)
  the_ends {v} {z} l = (starts ∙ first_source Q v xs z (omega arith) l, finishes ∙ last_target Q v xs z k long l)

  whole : {v z : ℕ} (p : TypedPath (quiver_of Q) v z) (ys : List ℕ) → arrows_of p ≡ xs ++ ys → length ys ≡ 0 → arrows_of p ≡ xs
  whole p [] e l = e ∙ append-nil xs
  whole p (y ∷ ys) e l = absurd (omega arith)

  leads : Leads Q u xs w
  leads = elim (cases_leads Q u xs w) [
    | inl l ↦ l
    | inr d ↦ absurd (alive (record {
      zero = λ {v} {z} p ys e l. elim (leads_or_zero Q p) [
        | inr none ↦ none q Y
        | inl is ↦
            let same : Leads Q v xs z = subst (λ zs. Leads Q v zs z) (whole p ys e l) is in
            let es = the_ends same in
            absurd (d (subst (λ u. Leads Q u xs w) (sym es.0) (subst (Leads Q v xs) (sym es.1) same)))
      ];
    }))
  ]

  pub first_is_path : IsPath Q found
  first_is_path = record { starts = subst (λ v. v < vertex_count Q) (sym starts) (ends.sources (get_or xs 0 0) (arrows_below Q u xs w leads 0 (omega arith))); leads = leads }

  pub first_not_zero : path_matrix Q Y u w found ≡ zeros q (Y.dim u) (Y.dim w) → ⊥
  first_not_zero e = alive (record {
    zero = λ {v} {z} p ys f l. elim (leads_or_zero Q p) [
      | inr none ↦ none q Y
      | inl is ↦
          let arrows : arrows_of p ≡ xs = whole p ys f l in
          let same : Leads Q v xs z = subst (λ zs. Leads Q v zs z) arrows is in
          let es = the_ends same in
          sym (path_matrix-typed Q Y p found (record { starts = es.0; ends = es.1; leads = same }) arrows)
          ∙ subst (λ v. path_matrix Q Y v z found ≡ zeros q (Y.dim v) (Y.dim z)) es.0 (subst (λ z. path_matrix Q Y u z found ≡ zeros q (Y.dim u) (Y.dim z)) es.1 e)
    ];
  })

  pub first_of_all : AreSmallerZero Q Y (suc k) xs → (r : Path) → IsPath Q r → length r.arrows ≡ suc k → IsSmaller r found → path_matrix Q Y r.start r.end r ≡ zeros q (Y.dim r.start) (Y.dim r.end)
  first_of_all smaller r is l below =
      let t : TypedPath (quiver_of Q) r.start r.end = path_of Q r.start r.arrows r.end is.leads in
      let same : arrows_of t ≡ r.arrows = arrows_of-path_of Q r.start r.arrows r.end is.leads in
      path_matrix-typed Q Y t r (record { starts = refl; ends = refl; leads = is.leads }) same
      ∙ smaller.each r.arrows l (differs (ComesBefore-from_smaller r found below)) t same
    where
      differs : ComesBefore r found → DiffersBelow r.arrows xs
      differs (shorter less) = absurd (omega arith)
      differs (by_arrows same d) = d
      differs (by_start same less) =
          let at = first_source Q r.start xs r.end (omega arith) (subst (λ zs. Leads Q r.start zs r.end) same is.leads) in
          absurd (omega (arith, at, starts))
