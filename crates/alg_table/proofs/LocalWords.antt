-- Words that are judged one by one are all paths without a tip.
use Rattle.std.proofs.Common.{ℕ, zero, suc, ◌≡◌, ◌<◌, ◌≤◌, ◌-◌, ◌⊎◌, inl, inr, List, [], ◌∷◌, ◌++◌, length, take, get_or, refl, sym, ap, ap₂, ◌∙◌, subst, arith, length-append}
use Rattle.std.specs.Prelude.{Contains, All, MatchBool}
use mathlib.Core.Bool.{Bool, true, false}
use Rattle.std.specs.Ordering.{ordering_then, nat_cmp}
use Rattle.std.specs.declared.cmp.Ordering.TheVariants.{Less, Equal, Greater}
use Rattle.std.proofs.lemmas.Bool.{cases_lt}
use Rattle.std.proofs.lemmas.List.{get_or_default, take_all, take-take, take_at, length-take-le}
use Rattle.std.proofs.lemmas.List.Elements.{All-contains}
use Rattle.quiver_paths.specs.declared.Path.{Path}
use Rattle.quiver_paths.specs.declared.Quiver.{Quiver}
use Rattle.quiver_paths.specs.Path.{IsPath, path_length, IsFactor, concat, trivial_path, arrow_path}
use Rattle.quiver_paths.specs.PathOrder.{path_cmp, IsAscending}
use Rattle.quiver_paths.specs.PathParts.{IsThenArrow}
use Rattle.quiver_paths.specs.Quiver.{source}
use Rattle.quiver_paths.proofs.PathLemmas.{IsPath-same, IsPath-trivial, IsPath-arrow, IsPath-concat, IsFactor-trans, IsFactor-arrows, length-factor, trivial_from_length, ends_with_arrow, length-then_arrow, path_length-concat}
use Rattle.quiver_paths.proofs.PathOrderLemmas.{path_cmp-Equal}
use Rattle.path_algebra.specs.declared.Header.{Header}
use Rattle.path_algebra.specs.declared.rules.Rule.{Rule}
use Rattle.path_algebra.specs.Allowed.{IsAllowed}
use Rattle.path_algebra.specs.Words.{IsShortPath}
use Rattle.path_algebra.specs.Reduction.{HasNoTip}
use Rattle.path_algebra.specs.BasisClauses.{WordsHold}
use Rattle.path_algebra.specs.Occurring.{arrows_cmp, AreLongTips, EndsInTip, HasTip}
use Rattle.alg_table.specs.WordChecks.{IsWordAt, HasTrivialWords, IsGrown, GoesOn, GoesOnBy, IsClosed, IsWellPlaced}
use Rattle.path_algebra.proofs.Occurrences.{cases_occurrence}
use Rattle.path_algebra.proofs.Places.{place-less, place-greater}
use Rattle.path_algebra.proofs.TipPlaces.{path_cmp-by_arrows}
use Rattle.path_algebra.proofs.TipFactors.{FoundTip, found_at_end, factor_found, ends_from, in_front, no_tip_if, tip_refuses}

-- ---- the search among the words

pub word_cmp : (x p : Path) (start : ℕ) (arrows : List ℕ) → p.start ≡ start → p.arrows ≡ arrows → path_cmp x p ≡ ordering_then (arrows_cmp x.arrows arrows) (nat_cmp x.start start)
word_cmp x p start arrows s a = path_cmp-by_arrows x p ∙ ap₂ (λ xs v. ordering_then (arrows_cmp x.arrows xs) (nat_cmp x.start v)) a s

-- the word at place m is x, and that at place k has this start and these arrows
pub record WordsStand (words : List Path) (start : ℕ) (arrows : List ℕ) (m k : ℕ) (x d : Path) : Type 0 where
  pub ascending : IsAscending words
  pub first_inside : m < length words
  pub second_inside : k < length words
  pub first : x ≡ get_or words m x
  pub starts : (get_or words k d).start ≡ start
  pub same : (get_or words k d).arrows ≡ arrows

pub word-less : (words : List Path) (start : ℕ) (arrows : List ℕ) (m k : ℕ) (x d : Path) → WordsStand words start arrows m k x d
    → ordering_then (arrows_cmp x.arrows arrows) (nat_cmp x.start start) ≡ Less → m < k
word-less words start arrows m k x d s e = place-less words m k x (get_or words k d) s.ascending s.first_inside s.second_inside s.first
    (get_or_default words k (get_or words k d) d s.second_inside) (word_cmp x (get_or words k d) start arrows s.starts s.same ∙ e)

pub word-greater : (words : List Path) (start : ℕ) (arrows : List ℕ) (m k : ℕ) (x d : Path) → WordsStand words start arrows m k x d
    → ordering_then (arrows_cmp x.arrows arrows) (nat_cmp x.start start) ≡ Greater → k < m
word-greater words start arrows m k x d s e = place-greater words m k x (get_or words k d) s.ascending s.first_inside s.second_inside s.first
    (get_or_default words k (get_or words k d) d s.second_inside) (word_cmp x (get_or words k d) start arrows s.starts s.same ∙ e)

pub word-equal : (words : List Path) (start : ℕ) (arrows : List ℕ) (m : ℕ) (x : Path) → m < length words → x ≡ get_or words m x
    → ordering_then (arrows_cmp x.arrows arrows) (nat_cmp x.start start) ≡ Equal → IsWordAt words start arrows
word-equal words start arrows m x l e o =
    let p : Path = record { start = start; end = 0; arrows = arrows } in
    let same = path_cmp-Equal x p (word_cmp x p start arrows refl refl ∙ o) in
    record { word = x; listed = (m, l, sym e); starts = same.1; same = same.0 }

-- ---- the words and the paths

module _ (h : Header) (words : List Path) (rules : List Rule) (ok : IsAllowed h) (long : AreLongTips h rules) (paths : All (IsPath h.quiver) words) where
  abbrev Q : Quiver
  Q = h.quiver

  word_path : (w : Path) → Contains words w → IsPath Q w
  word_path w m = All-contains (IsPath Q) words w paths m

  -- a path is the word with its start and its arrows
  word_is : (p : Path) → IsPath Q p → IsWordAt words p.start p.arrows → Contains words p
  word_is p hp w = subst (Contains words) (IsPath-same Q w.word p (word_path w.word w.listed) hp w.starts w.same) w.listed

  word_at : (p : Path) → Contains words p → IsWordAt words p.start p.arrows
  word_at p m = record { word = p; listed = m; starts = refl; same = refl }

  -- what ends in a tip has one
  ends_refuses : (p : Path) → IsPath Q p → EndsInTip rules p.arrows → HasNoTip h rules p → ⊥
  ends_refuses p hp e n = let f : FoundTip rules p.arrows = found_at_end rules p.arrows e in n f.rule f.stands.listed (factor_found h rules p long hp f)

  front_factor : (p front : Path) (a : ℕ) → IsThenArrow Q p front a → IsFactor Q front p
  front_factor p front a t = record {
    before = trivial_path front.start;
    behind = arrow_path Q a;
    before_is = IsPath-trivial Q front.start t.front_is.starts;
    behind_is = IsPath-arrow Q a long.ends t.arrow_is;
    meets_before = refl;
    meets_behind = t.meets;
    whole = sym t.whole;
  }

  factor_no_tip : (f p : Path) → IsFactor Q f p → HasNoTip h rules p → HasNoTip h rules f
  factor_no_tip f p i n rule m g = n rule m (IsFactor-trans Q rule.tip f p g i)

  -- a path shorter than a tip has none
  short_no_tip : (p : Path) → path_length p < 2 → HasNoTip h rules p
  short_no_tip p l rule m f = omega (arith, l, length-factor Q rule.tip p f, All-contains (λ (r : Rule). 2 ≤ path_length r.tip) rules rule long.long m)

  -- ---- from the words one by one

  module _ (trivial : HasTrivialWords h words) (placed : (w : Path) → Contains words w → IsWellPlaced h words rules w) where
    all_of_length : (n : ℕ) (p : Path) → path_length p ≡ n → IsShortPath h p → HasNoTip h rules p → Contains words p
    all_of_length zero p e s n =
        word_is p s.path (subst (λ (r : Path). IsWordAt words p.start r.arrows) (sym (trivial_from_length Q p s.path e)) (trivial p.start s.path.starts))
    all_of_length (suc k) p e s n =
        let t = ends_with_arrow Q p long.ends s.path (omega arith) in
        let front : Path = t.0 in
        let is : IsThenArrow Q p front t.1 = t.2 in
        let count = length-then_arrow Q p front t.1 is in
        let short = s.short in
        let listed : Contains words front = all_of_length k front (omega arith) (record { path = is.front_is; short = omega arith }) (factor_no_tip front p (front_factor p front t.1 is) n) in
        elim ((placed front listed).closed.arrows (omega arith) t.1 is.arrow_is is.meets) [
          | inl w ↦ word_is p s.path (subst (λ (r : Path). IsWordAt words r.start r.arrows) is.whole w)
          | inr w ↦ absurd (ends_refuses p s.path (subst (λ (r : Path). EndsInTip rules r.arrows) is.whole w) n)
        ]

    no_tip_within : (p : Path) (k : ℕ) → path_length p ≡ suc k → (EndsInTip rules p.arrows → ⊥) → (w : Path) → IsPath Q w → HasNoTip h rules w → w.arrows ≡ take k p.arrows → HasNoTip h rules p
    no_tip_within p k e ends w hw n same = no_tip_if h rules p long (λ t. elim (cases_lt k t.place) [
      | inl l ↦ ends (subst (EndsInTip rules) (take_all t.place p.arrows (omega arith)) t.ends)
      | inr l ↦ tip_refuses h rules w long hw (record {
        place = t.place;
        inside = (let c = ap length same in let d = length-take-le k p.arrows (omega arith) in omega arith);
        ends = subst (EndsInTip rules) (sym (ap (take t.place) same ∙ take-take t.place k p.arrows l)) t.ends;
      }) n
    ])

    only_of_length : (n : ℕ) (p : Path) → path_length p ≡ n → Contains words p → IsShortPath h p × HasNoTip h rules p
    only_of_length zero p e m = (record { path = word_path p m; short = (let b = ok.bound_from in omega arith) }, short_no_tip p (omega arith))
    only_of_length (suc k) p e m =
        let g : IsGrown h words rules p = (placed p m).grown in
        let w : IsWordAt words p.start (take (path_length p - 1) p.arrows) = g.front (omega arith) in
        let same : w.word.arrows ≡ take k p.arrows = w.same ∙ ap (λ i. take i p.arrows) (let q : path_length p - 1 ≡ k = omega arith in q) in
        let count : path_length w.word ≡ k = ap length same ∙ length-take-le k p.arrows (omega arith) in (
          record { path = word_path p m; short = g.short (omega arith) },
          no_tip_within p k e (g.ends (omega arith)) w.word (word_path w.word w.listed) (only_of_length k w.word count w.listed).1 same,
        )

    pub words_hold_from : IsAscending words → WordsHold h words rules
    words_hold_from ascending = record { ascending = ascending; all = λ p s n. all_of_length (path_length p) p refl s n; only = λ p m. only_of_length (path_length p) p refl m }

  -- ---- to the words one by one

  module _ (holds : WordsHold h words rules) where
    pub trivial_words : HasTrivialWords h words
    trivial_words v l =
        let b = ok.bound_from in
        word_at (trivial_path v) (holds.all (trivial_path v) (record { path = IsPath-trivial Q v l; short = omega arith }) (short_no_tip (trivial_path v) (omega arith)))

    front_word : (w : Path) → Contains words w → 0 < path_length w → IsWordAt words w.start (take (path_length w - 1) w.arrows)
    front_word w m l =
        let t = ends_with_arrow Q w long.ends (word_path w m) l in
        let is : IsThenArrow Q w t.0 t.1 = t.2 in
        let known = holds.only w m in
        let count = length-then_arrow Q w t.0 t.1 is in
        let short = known.0.short in
        let arrows : t.0.arrows ++ t.1 ∷ [] ≡ w.arrows = ap (λ (x : Path). x.arrows) is.whole in
        record {
          word = t.0;
          listed = holds.all t.0 (record { path = is.front_is; short = omega arith }) (factor_no_tip t.0 w (front_factor w t.0 t.1 is) known.1);
          starts = ap (λ (x : Path). x.start) is.whole;
          same = sym (ap (take (path_length w - 1)) (sym arrows) ∙ take_at t.0.arrows (t.1 ∷ []) (path_length w - 1) (omega arith));
        }

    grown_word : (w : Path) → Contains words w → IsGrown h words rules w
    grown_word w m = record {
      short = λ l. (holds.only w m).0.short;
      front = front_word w m;
      ends = λ l e. ends_refuses w (word_path w m) e (holds.only w m).1;
    }

    -- a path of which the front has no tip ends in one or has none
    ends_or_none : (w p : Path) (a : ℕ) → IsPath Q w → HasNoTip h rules w → IsPath Q p → p.arrows ≡ w.arrows ++ a ∷ [] → EndsInTip rules p.arrows ⊎ HasNoTip h rules p
    ends_or_none w p a hw n hp same = elim (cases_occurrence h rules long.ends long.paths p hp) [
      | inr none ↦ inr none
      | inl o ↦
          let f : IsFactor Q o.rule.tip p = record { before = o.before; behind = o.behind; before_is = o.before_is; behind_is = o.behind_is; meets_before = o.meets_before; meets_behind = o.meets_behind; whole = o.whole } in
          inl (by o.rule o.listed f f.behind.arrows refl)
    ]
      where
        some : (rule : Rule) → Contains rules rule → 0 < path_length rule.tip
        some rule m = let l = All-contains (λ (r : Rule). 2 ≤ path_length r.tip) rules rule long.long m in omega arith

        fronts : take (length p.arrows - 1) p.arrows ≡ w.arrows
        fronts = ap (take (length p.arrows - 1)) same ∙ take_at w.arrows (a ∷ []) (length p.arrows - 1) (let e = ap length same ∙ length-append w.arrows (a ∷ []) in omega arith)

        by : (rule : Rule) → Contains rules rule → (f : IsFactor Q rule.tip p) (vs : List ℕ) → f.behind.arrows ≡ vs → EndsInTip rules p.arrows
        by rule m f [] e = ends_from rules rule p.arrows f.before.arrows (some rule m)
            (record { listed = m; whole = IsFactor-arrows Q rule.tip p f ∙ ap (λ xs. f.before.arrows ++ (rule.tip.arrows ++ xs)) e })
        by rule m f (v ∷ vs) e = absurd (tip_refuses h rules w long hw (subst (HasTip rules) fronts (in_front rules rule p.arrows f.before.arrows v vs (some rule m)
            (record { listed = m; whole = IsFactor-arrows Q rule.tip p f ∙ ap (λ xs. f.before.arrows ++ (rule.tip.arrows ++ xs)) e }))) n)

    closed_word : (w : Path) → Contains words w → IsClosed h words rules w
    closed_word w m = record {
      arrows = λ l a b meets.
          let p : Path = concat w (arrow_path Q a) in
          let hp : IsPath Q p = IsPath-concat Q w (arrow_path Q a) (word_path w m) (IsPath-arrow Q a long.ends b) meets in
          elim (ends_or_none w p a (word_path w m) (holds.only w m).1 hp refl) [
            | inl e ↦ inr e
            | inr n ↦ inl (word_at p (holds.all p (record { path = hp; short = (let k = path_length-concat w (arrow_path Q a) in omega arith) }) n))
          ];
    }

    pub well_placed : (w : Path) → Contains words w → IsWellPlaced h words rules w
    well_placed w m = record { grown = grown_word w m; closed = closed_word w m }

-- ---- as the code goes

pub goes_on_if_met : (h : Header) (words : List Path) (rules : List Rule) (w : Path) (a : ℕ) (arrows : List ℕ) (b : Bool) → w.end ≡ source h.quiver a → arrows ≡ w.arrows ++ a ∷ []
    → MatchBool b (GoesOn words rules w.start arrows) (GoesOn words rules w.start arrows → ⊥) → MatchBool b (GoesOnBy h words rules w a) (GoesOnBy h words rules w a → ⊥)
goes_on_if_met h words rules w a arrows true m e g = λ _. subst (GoesOn words rules w.start) e g
goes_on_if_met h words rules w a arrows false m e g = λ by. g (subst (GoesOn words rules w.start) (sym e) (by m))

pub placed_members : (h : Header) (words : List Path) (rules : List Rule) → ((k : ℕ) (d : Path) → k < length words → IsWellPlaced h words rules (get_or words k d)) → (w : Path) → Contains words w
    → IsWellPlaced h words rules w
placed_members h words rules each w m = subst (IsWellPlaced h words rules) m.2 (each m.0 w m.1)
