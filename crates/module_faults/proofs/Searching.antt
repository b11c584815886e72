-- What the search for the first path has found so far.
use Rattle.std.proofs.Common.{ℕ, suc, ◌<◌, ◌≤◌, ◌≡◌, ◌+◌, ◌*◌, ◌-◌, ◌⊎◌, List, [], ◌∷◌, ◌++◌, length, inl, inr, refl, sym, ap, ◌∙◌, subst, arith}
use Rattle.std.specs.Prelude.{slice_index, slice_index_or}
use Rattle.std.proofs.lemmas.Bool.{cases_lt}
use Rattle.std.proofs.lemmas.List.{length_push, get_or_push, get_or_append_left}
use Rattle.linear_algebra.specs.Field.{Gf}
use Rattle.linear_algebra.specs.BlockFamilies.{total}
use Rattle.fp_linear.specs.Matrix.{PlainMatrix}
use Rattle.fp_linear.specs.Slices.{AreElements}
use Rattle.fp_linear.specs.Meeting.{IsClearFrom}
use Rattle.quiver_paths.specs.declared.Quiver.{Quiver}
use Rattle.quiver_paths.specs.Quiver.{arrow_count, source, target}
use Rattle.quiver_paths.specs.declared.Path.{Path}
use Rattle.path_algebra.specs.declared.Header.{Header}
use Rattle.path_algebra.specs.Allowed.{IsAllowed}
use Rattle.representations.specs.Rep.{Rep}
use Rattle.representations.specs.Dual.{dual}
use Rattle.bound_algebra.specs.TypedPaths.{quiver_of}
use Rattle.module_types.specs.declared.Side.TheVariants.{Right}
use Rattle.module_types.specs.declared.Module.{Module}
use Rattle.module_types.specs.Readings.{rep_of}
use Rattle.module_checks.specs.PathImages.{HoldPaths, LongPathsActAsZero}
use Rattle.module_faults.specs.PathActions.{IsFirstAlong}
use Rattle.module_faults.specs.Levels.{IsLevel, AskImage, IsStoppedAt}
use Rattle.module_faults.proofs.Stopping.{AreStopped}
use Rattle.module_faults.proofs.PrefixRows.{HoldPrefix, prefix_none, prefix_more}
use Rattle.module_faults.proofs.FirstPaths.{AreSmallerZero, smaller_none, smaller_more, stopped_all, long_paths_stop, first_is_path, first_not_zero, first_of_all}
use Rattle.module_faults.proofs.StoppedRows.{stopped_front, front_stopped}

-- Of a right module: these arrows begin the first path of t arrows that does not act as zero, if there is one.
pub record IsFront {q : Gf} (Q : Quiver) (Y : Rep q (quiver_of Q)) (t n m count : ℕ) (xs : List ℕ) (s : List ℕ) : Type 0 where
  pub few : count ≤ m
  pub elements : AreElements q s
  pub clear : IsClearFrom (count * n) s
  pub arrows : (k : ℕ) → k < length xs → slice_index xs k < arrow_count Q
  pub held : HoldPrefix Y xs n m s
  pub smaller : AreSmallerZero Q Y t xs
  pub alive : (xs ≡ []) ⊎ (AreStopped Y xs (t - length xs) → ⊥)

module _ {q : Gf} (Q : Quiver) (Y : Rep q (quiver_of Q)) (t n m count : ℕ) (xs s : List ℕ) where
  pub front_none : xs ≡ [] → count ≤ m → AreElements q s → IsClearFrom (count * n) s → HoldPaths Y 0 n m s → IsFront Q Y t n m count xs s
  front_none e few el c held = subst (λ xs. IsFront Q Y t n m count xs s) (sym e) (record {
    few = few;
    elements = el;
    clear = c;
    arrows = λ k l. absurd (omega arith);
    held = prefix_none Y n m s held;
    smaller = smaller_none Q Y t;
    alive = inl refl;
  })

-- the level that stands at a place of a list
pub level_here : {q : Gf} (Q : Quiver) (Y : Rep q (quiver_of Q)) (j d n : ℕ) (levels : List PlainMatrix) (L : PlainMatrix) → ((a : PlainMatrix) → IsLevel (dual Y) j d (slice_index_or levels j a)) → n ≡ d → L ≡ slice_index_or levels j L → IsLevel (dual Y) j n L
level_here Q Y j d n levels L each e f = subst (λ n. IsLevel (dual Y) j n L) (sym e) (subst (IsLevel (dual Y) j d) (sym f) (each L))

module _ {q : Gf} (Q : Quiver) (Y : Rep q (quiver_of Q)) (t n m count : ℕ) (xs s : List ℕ) (front : IsFront Q Y t n m count xs s) (j : ℕ) (rest : length xs + suc j ≡ t) (L : PlainMatrix) (level : IsLevel (dual Y) j n L) where
  -- no arrow goes on
  pub none_goes_on : ((a : ℕ) → a < arrow_count Q → IsStoppedAt Y n count s L a) → LongPathsActAsZero Y t
  none_goes_on h =
      let stopped : AreStopped Y xs (suc j) = stopped_all Q Y xs j (λ a l. stopped_front Y xs n m count j a s L front.few front.clear front.elements front.held level (h a l)) in
      elim front.alive [
        | inl none ↦
            let long : suc j ≡ t = (let e = ap length none in omega arith) in
            long_paths_stop Q Y t (subst (λ ys. AreStopped Y ys t) none (subst (AreStopped Y xs) long stopped))
        | inr lives ↦ absurd (let left : suc j ≡ t - length xs = omega arith in lives (subst (AreStopped Y xs) left stopped))
      ]

  -- the first arrow that goes on
  pub goes_on : (a used : ℕ) (new copy xs' : List ℕ) → n ≡ total (quiver_of Q).vertices Y.dim → a < arrow_count Q → ((b : ℕ) → b < a → IsStoppedAt Y n count s L b) → (IsStoppedAt Y n count s L a → ⊥) → used ≤ m → IsClearFrom (used * n) new
      → AskImage Y n m count a s new → AreElements q new → copy ≡ new → xs' ≡ xs ++ a ∷ [] → IsFront Q Y t n m used xs' copy
  goes_on a used new copy xs' size l before lives u c asked el e g =
      subst (λ ys. IsFront Q Y t n m used ys copy) (sym g) (subst (IsFront Q Y t n m used (xs ++ a ∷ [])) (sym e) (record {
        few = u;
        elements = el;
        clear = c;
        arrows = λ k b. elim (cases_lt k (length xs)) [
          | inl d ↦ subst (λ i. i < arrow_count Q) (sym (get_or_append_left xs (a ∷ []) 0 k d)) (front.arrows k d)
          | inr past ↦ (let at : k ≡ length xs = (let m = length_push xs a in omega arith) in subst (λ i. i < arrow_count Q) (sym (get_or_push xs a 0 k (sym at))) l)
        ];
        held = prefix_more Y xs n m count a s new size front.few front.held front.clear asked;
        smaller = smaller_more Q Y t j a xs rest (λ b d. stopped_front Y xs n m count j b s L front.few front.clear front.elements front.held level (before b d)) front.smaller;
        alive = inr (λ stopped. lives (front_stopped Y xs n m count j a s L front.few front.clear front.elements front.held level
            (let left : t - length (xs ++ a ∷ []) ≡ j = (let m = length_push xs a in omega arith) in subst (AreStopped Y (xs ++ a ∷ [])) left stopped)));
      }))

-- The arrows that lead to the end of the search are those of the first path.
module _ (h : Header) (ok : IsAllowed h) (m : Module) (k n rows count : ℕ) (xs s : List ℕ) (front : IsFront h.quiver (rep_of h.field (quiver_of h.quiver) m) h.bound n rows count xs s) (bound : h.bound ≡ suc k) (long : length xs ≡ suc k) where
  abbrev X : Rep h.field (quiver_of h.quiver)
  X = rep_of h.field (quiver_of h.quiver) m

  left_alive : AreStopped X xs 0 → ⊥
  left_alive stopped = elim front.alive [
    | inl none ↦ (let e = ap length none in absurd (omega arith))
    | inr lives ↦ lives (let none : 0 ≡ h.bound - length xs = omega arith in subst (AreStopped X xs) none stopped)
  ]

  pub found_path : (p : Path) → p.start ≡ source h.quiver (slice_index xs 0) → p.end ≡ target h.quiver (slice_index xs k) → p.arrows ≡ xs → IsFirstAlong Right h X p
  found_path p starts finishes arrows = subst (IsFirstAlong Right h X) (λ i. record { start = p.start; end = p.end; arrows = sym arrows i }) (record {
    path = first_is_path h.quiver ok.quiver.ends X k xs long left_alive p.start p.end starts finishes;
    long = long ∙ sym bound;
    not_zero = first_not_zero h.quiver ok.quiver.ends X k xs long left_alive p.start p.end starts finishes;
    first = λ r is l below. first_of_all h.quiver ok.quiver.ends X k xs long left_alive p.start p.end starts finishes (subst (λ t. AreSmallerZero h.quiver X t xs) bound front.smaller) r is (l ∙ bound) below;
  })
