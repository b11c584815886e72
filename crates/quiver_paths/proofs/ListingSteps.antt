-- The steps of listing paths, over plain lists.
use Rattle.std.proofs.Common.{ℕ, suc, ◌+◌, ◌-◌, ◌≡◌, ◌<◌, ◌≤◌, List, [], ◌∷◌, ◌++◌, length, take, drop, map, filter, get_or, eqb, true, false, cond, refl, sym, ap, ◌∙◌, arith, append_assoc, length-drop}
use Rattle.std.specs.List.{flat_map, range_with_len}
use Rattle.std.proofs.lemmas.List.{append-nil, map-append, take_more, get_or-drop, drop-append-le, take_at, drop_at, get_or_append_left, get_or_default}
use Rattle.std.proofs.lemmas.List.Elements.{filter-append}
use Rattle.std.proofs.lemmas.List.Concat.{flat_map-append}
use Rattle.std.proofs.lemmas.List.FromFn.{map-range_with_len_more}
use Rattle.std.proofs.lemmas.Bool.{eq-eqb, ne_eqb}
use Rattle.quiver_paths.specs.declared.Quiver.{Quiver}
use Rattle.quiver_paths.specs.declared.Path.{Path}
use Rattle.quiver_paths.specs.Quiver.{vertex_count, arrow_count, target}
use Rattle.quiver_paths.specs.Path.{concat, arrow_path, trivial_path}
use Rattle.quiver_paths.specs.PathList.{behind_arrow, paths_of_length, paths_below}
use Rattle.quiver_paths.proofs.PathListLemmas.{paths_of_length-zero, paths_of_length-suc, paths_below-zero, paths_below-suc}

-- ---- behind one arrow

-- the paths from b to i of a list
abbrev pub between : List Path → ℕ → ℕ → List Path
between ps b i = take (i - b) (drop b ps)

between-more : (ps : List Path) (b i : ℕ) (d : Path) → b ≤ i → i < length ps → between ps b (i + 1) ≡ between ps b i ++ get_or ps i d ∷ []
between-more ps b i d le l =
    let n : i + 1 - b ≡ (i - b) + 1 = omega arith in
    let m : b + (i - b) ≡ i = omega arith in
    let in' : i - b < length (drop b ps) = omega (arith, length-drop b ps) in
    ap (λ k. take k (drop b ps)) n
    ∙ take_more (drop b ps) (i - b) d in'
    ∙ ap (λ x. between ps b i ++ x ∷ []) (get_or-drop b ps (i - b) d ∙ ap (λ k. get_or ps k d) m)

behind_arrow-append : (Q : Quiver) (ps qs : List Path) (a : ℕ) → behind_arrow Q (ps ++ qs) a ≡ behind_arrow Q ps a ++ behind_arrow Q qs a
behind_arrow-append Q ps qs a =
    ap (map (concat (arrow_path Q a))) (filter-append (λ p. eqb p.start (target Q a)) ps qs)
    ∙ map-append (concat (arrow_path Q a)) (filter (λ p. eqb p.start (target Q a)) ps) (filter (λ p. eqb p.start (target Q a)) qs)

behind_arrow-met : (Q : Quiver) (p : Path) (a : ℕ) → eqb p.start (target Q a) ≡ true → behind_arrow Q (p ∷ []) a ≡ concat (arrow_path Q a) p ∷ []
behind_arrow-met Q p a h = ap (λ b. map (concat (arrow_path Q a)) (cond b (p ∷ []) [])) h

behind_arrow-missed : (Q : Quiver) (p : Path) (a : ℕ) → eqb p.start (target Q a) ≡ false → behind_arrow Q (p ∷ []) a ≡ []
behind_arrow-missed Q p a h = ap (λ b. map (concat (arrow_path Q a)) (cond b (p ∷ []) [])) h

-- one path more, which the arrow meets
pub behind_met : (Q : Quiver) (ps : List Path) (b i a : ℕ) (d : Path) → b ≤ i → i < length ps → eqb (get_or ps i d).start (target Q a) ≡ true → behind_arrow Q (between ps b (i + 1)) a ≡ behind_arrow Q (between ps b i) a ++ concat (arrow_path Q a) (get_or ps i d) ∷ []
behind_met Q ps b i a d le l h =
    ap (λ xs. behind_arrow Q xs a) (between-more ps b i d le l)
    ∙ behind_arrow-append Q (between ps b i) (get_or ps i d ∷ []) a
    ∙ ap (λ xs. behind_arrow Q (between ps b i) a ++ xs) (behind_arrow-met Q (get_or ps i d) a h)

-- and one that it does not meet
pub behind_missed : (Q : Quiver) (ps : List Path) (b i a : ℕ) (d : Path) → b ≤ i → i < length ps → eqb (get_or ps i d).start (target Q a) ≡ false → behind_arrow Q (between ps b (i + 1)) a ≡ behind_arrow Q (between ps b i) a
behind_missed Q ps b i a d le l h =
    ap (λ xs. behind_arrow Q xs a) (between-more ps b i d le l)
    ∙ behind_arrow-append Q (between ps b i) (get_or ps i d ∷ []) a
    ∙ ap (λ xs. behind_arrow Q (between ps b i) a ++ xs) (behind_arrow-missed Q (get_or ps i d) a h)
    ∙ append-nil (behind_arrow Q (between ps b i) a)

-- a step of the loop over the paths: one that the arrow meets is added, one that it does not meet is not
pub push_met : (Q : Quiver) (old items new : List Path) (b i a : ℕ) (x longer : Path) → items ≡ old ++ behind_arrow Q (between old b i) a → b ≤ i → i < length old → x ≡ get_or items i x → x.start ≡ target Q a → longer ≡ concat (arrow_path Q a) x → new ≡ items ++ longer ∷ [] → new ≡ old ++ behind_arrow Q (between old b (i + 1)) a
push_met Q old items new b i a x longer is le l read meets joined pushed =
    let here : get_or old i x ≡ x = sym (read ∙ ap (λ xs. get_or xs i x) is ∙ get_or_append_left old (behind_arrow Q (between old b i) a) x i l) in
    let more : behind_arrow Q (between old b (i + 1)) a ≡ behind_arrow Q (between old b i) a ++ longer ∷ [] =
    behind_met Q old b i a x le l (eq-eqb (get_or old i x).start (target Q a) (ap (λ (p : Path). p.start) here ∙ meets))
    ∙ ap (λ p. behind_arrow Q (between old b i) a ++ p ∷ []) (ap (concat (arrow_path Q a)) here ∙ sym joined) in
    pushed
    ∙ ap (λ xs. xs ++ longer ∷ []) is
    ∙ append_assoc old (behind_arrow Q (between old b i) a) (longer ∷ [])
    ∙ ap (λ xs. old ++ xs) (sym more)

pub pass_missed : (Q : Quiver) (old items : List Path) (b i a : ℕ) (x : Path) → items ≡ old ++ behind_arrow Q (between old b i) a → b ≤ i → i < length old → x ≡ get_or items i x → (x.start ≡ target Q a → ⊥) → items ≡ old ++ behind_arrow Q (between old b (i + 1)) a
pass_missed Q old items b i a x is le l read misses =
    let here : get_or old i x ≡ x = sym (read ∙ ap (λ xs. get_or xs i x) is ∙ get_or_append_left old (behind_arrow Q (between old b i) a) x i l) in
    is ∙ ap (λ xs. old ++ xs) (sym (behind_missed Q old b i a x le l (ne_eqb (get_or old i x).start (target Q a) (λ e. misses (sym (ap (λ (p : Path). p.start) here) ∙ e)))))

pub between-none : (ps : List Path) (b : ℕ) → between ps b b ≡ []
between-none ps b = let none : b - b ≡ 0 = omega arith in ap (λ k. take k (drop b ps)) none

-- two reads at one place give one path
pub same_read : (ps : List Path) (i : ℕ) (x y : Path) → i < length ps → x ≡ get_or ps i x → y ≡ get_or ps i y → x ≡ y
same_read ps i x y l rx ry = rx ∙ get_or_default ps i x y l ∙ sym ry

-- ---- behind each arrow

-- what stood in a list before it grew
pub between-old : (old more : List Path) (b : ℕ) → b ≤ length old → between (old ++ more) b (length old) ≡ drop b old
between-old old more b le =
    let cut : drop b (old ++ more) ≡ drop b old ++ more = drop-append-le b old more le in
    ap (take (length old - b)) cut ∙ take_at (drop b old) more (length old - b) (length-drop b old)

range-more : (n : ℕ) → range_with_len 0 (n + 1) ≡ range_with_len 0 n ++ n ∷ []
range-more n = sym (map-same (range_with_len 0 (n + 1))) ∙ map-range_with_len_more (λ (k : ℕ). k) 0 n n (omega arith) ∙ ap (λ xs. xs ++ n ∷ []) (map-same (range_with_len 0 n))
  where
    map-same : (xs : List ℕ) → map (λ (k : ℕ). k) xs ≡ xs
    map-same [] = refl
    map-same (x ∷ xs) = ap (λ ys. x ∷ ys) (map-same xs)

pub flat_map-range_more : (f : ℕ → List Path) (n : ℕ) → flat_map f (range_with_len 0 (n + 1)) ≡ flat_map f (range_with_len 0 n) ++ f n
flat_map-range_more f n =
    ap (flat_map f) (range-more n)
    ∙ flat_map-append f (range_with_len 0 n) (n ∷ [])
    ∙ ap (λ xs. flat_map f (range_with_len 0 n) ++ xs) (append-nil (f n))

pub map-range_more : (f : ℕ → Path) (n : ℕ) → map f (range_with_len 0 (n + 1)) ≡ map f (range_with_len 0 n) ++ f n ∷ []
map-range_more f n = map-range_with_len_more f 0 n n (omega arith)

-- a step of the loop over the arrows
pub behind_each_more : (Q : Quiver) (old items new : List Path) (b n a : ℕ) → n ≡ length old → b ≤ length old → items ≡ old ++ flat_map (behind_arrow Q (drop b old)) (range_with_len 0 a) → new ≡ items ++ behind_arrow Q (between items b n) a → new ≡ old ++ flat_map (behind_arrow Q (drop b old)) (range_with_len 0 (a + 1))
behind_each_more Q old items new b n a long le is added =
    let so_far = flat_map (behind_arrow Q (drop b old)) (range_with_len 0 a) in
    let level : between items b n ≡ drop b old =
    (λ i. between (is i) b (long i)) ∙ between-old old so_far b le in
    added
    ∙ (λ i. is i ++ behind_arrow Q (level i) a)
    ∙ append_assoc old so_far (behind_arrow Q (drop b old) a)
    ∙ ap (λ xs. old ++ xs) (sym (flat_map-range_more (behind_arrow Q (drop b old)) a))

-- a level more
pub level_more : (Q : Quiver) (ps new : List Path) (b k : ℕ) → ps ≡ paths_below Q (suc k) → b ≡ length (paths_below Q k) → new ≡ ps ++ flat_map (behind_arrow Q (drop b ps)) (range_with_len 0 (arrow_count Q)) → new ≡ paths_below Q (suc (suc k))
level_more Q ps new b k is begin added =
    let level : drop b ps ≡ paths_of_length Q k =
    (λ i. drop (begin i) ((is ∙ paths_below-suc Q k) i)) ∙ drop_at (paths_below Q k) (paths_of_length Q k) (length (paths_below Q k)) refl in
    added
    ∙ (λ i. is i ++ flat_map (behind_arrow Q (level i)) (range_with_len 0 (arrow_count Q)))
    ∙ ap (λ xs. paths_below Q (suc k) ++ xs) (sym (paths_of_length-suc Q k))
    ∙ sym (paths_below-suc Q (suc k))

pub first_level : (Q : Quiver) → map trivial_path (range_with_len 0 (vertex_count Q)) ≡ paths_below Q 1
first_level Q = sym (ap (λ ps. ps ++ paths_of_length Q 0) (paths_below-zero Q) ∙ paths_of_length-zero Q) ∙ sym (paths_below-suc Q 0)
