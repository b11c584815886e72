-- The product of a word with an arrow that is no word ends with a tip, and its row is the sum of what the terms of the tail make of the word before it.
use Rattle.std.proofs.Common.{ℕ, ◌≡◌, ◌≢◌, ◌<◌, ◌≤◌, ◌+◌, ◌*◌, ◌-◌, inl, inr, List, [], ◌∷◌, ◌++◌, length, take, drop, get_or, Bool, true, false, ◌&&◌, eqb, if◌then◌else◌, refl, sym, ap, ap₂, ◌∙◌, subst, arith, length-append}
use Rattle.std.specs.Prelude.{Contains}
use mathlib.Core.Path.{fun_ext}
use Rattle.std.proofs.lemmas.Bool.{cases_lt, cases_eq, cases_Bool, cond-true, cond-false, and_parts, and_from, eqb-true, eq-eqb}
use Rattle.std.proofs.lemmas.List.{append_assoc, append-nil, take_at, drop_at, get_or_default}
use Rattle.std.proofs.lemmas.List.Elements.{All-contains}
use Rattle.linear_algebra.specs.Field.{mul}
use Rattle.linear_algebra.specs.FieldLaws.{zero_mul, mul_zero}
use Rattle.linear_algebra.specs.Sums.{sum_to, sum-same}
use Rattle.linear_algebra.specs.Rows.{unit}
use Rattle.linear_algebra.proofs.Rows.{list_of-is}
use Rattle.quiver_paths.specs.declared.Quiver.{Quiver}
use Rattle.quiver_paths.specs.declared.Path.{Path}
use Rattle.quiver_paths.specs.Quiver.{HasEnds, arrow_count, source}
use Rattle.quiver_paths.specs.Path.{IsPath, Leads, path_length, Meets, concat, trivial_path, arrow_path, IsFactor}
use Rattle.quiver_paths.specs.PathOrder.{IsSmaller}
use Rattle.quiver_paths.proofs.PathLemmas.{IsPath-concat, IsPath-arrow, IsPath-trivial, IsPath-end, IsPath-same, same_path, path_length-concat, concat_assoc, concat-trivial_left, concat-trivial_right, IsFactor-trans, cut, cut_once, ends_with_arrow, trivial_from_length}
use Rattle.quiver_paths.proofs.PathOrderLemmas.{IsSmaller-from_shorter, IsSmaller-trans, IsSmaller-concat_right, IsSmaller-concat_left, cases_path, cases_smaller, length_of_smaller}
use Rattle.path_algebra.specs.declared.Term.{Term}
use Rattle.path_algebra.specs.declared.Header.{Header}
use Rattle.path_algebra.specs.declared.rules.Rule.{Rule}
use Rattle.word_products.specs.declared.sparse.Entry.{Entry}
use Rattle.path_algebra.specs.Elements.{sum_over, path_element}
use Rattle.path_algebra.specs.Rows.{path_at, row_of}
use Rattle.path_algebra.specs.Reduction.{FirstOccurrence, IsReduction, sum_between, act_arrow}
use Rattle.word_products.specs.SparseRows.{entry_at, acted_by, acted_along, counts, acted_terms}
use Rattle.word_products.specs.WordProducts.{product_with, AreProductRows, CanAct, EndsWithArrows, front_before, IsNewProduct}
use Rattle.path_algebra.proofs.SumsOver.{sum_over-same}
use Rattle.path_algebra.proofs.Columns.{length-row_of, get_or-row_of}
use Rattle.path_algebra.proofs.Occurrences.{cases_occurrence}
use Rattle.path_algebra.proofs.Reducing.{tail_term, becomes-greater}
use Rattle.path_algebra.proofs.Independent.{AreActedOn}
use Rattle.path_algebra.proofs.ArrowsBehind.{arrow_behind}
use Rattle.word_products.proofs.SparseActs.{acted_to-at, length-acted_to}
use Rattle.word_products.proofs.TermSums.{acted_terms-at, length-acted_terms, DoesCount, counts-true, counts-from}
use Rattle.word_products.proofs.WordRows.{word_listed, word_at, product_before, same_start, sum_to-over, unit-row, are_rules, acted_on, short_word, length-with}

-- a path that ends with the arrows of a tip is a path and then the tip
pub ends_with_tip : (Q : Quiver) → HasEnds Q → (tip p : Path) → IsPath Q tip → IsPath Q p → 0 < path_length tip → EndsWithArrows tip p
    → IsPath Q (front_before p tip) × (concat (front_before p tip) tip ≡ p)
ends_with_tip Q e tip p ht hp l w =
    let k : ℕ = path_length p - path_length tip in
    let s = cut Q p k e hp (omega arith) in
    let arrows : s.0.arrows ++ s.1.arrows ≡ p.arrows = ap (λ (x : Path). x.arrows) s.2.whole in
    let fronts : s.0.arrows ≡ take k p.arrows = sym (take_at s.0.arrows s.1.arrows k s.2.front_length) ∙ ap (take k) arrows in
    let rests : s.1.arrows ≡ tip.arrows = sym (drop_at s.0.arrows s.1.arrows k s.2.front_length) ∙ ap (drop k) arrows ∙ w.last in
    let starts : s.1.start ≡ tip.start = same_start Q s.1 tip [] [] s.2.rest_is ht (omega (arith, ap length rests, l)) l (ap (λ x. x ++ []) rests) in
    let rest : s.1 ≡ tip = IsPath-same Q s.1 tip s.2.rest_is ht starts rests in
    let front : s.0 ≡ front_before p tip = same_path s.0 (front_before p tip) (ap (λ (x : Path). x.start) s.2.whole) (s.2.meets ∙ starts) fronts in
    (subst (IsPath Q) front s.2.front_is, sym (ap₂ concat front rest) ∙ s.2.whole)

-- a factor of a path that has something behind it is a factor of the path without its last arrow
factor_in_front : (Q : Quiver) → HasEnds Q → (f w : Path) (a : ℕ) → IsPath Q f → IsPath Q w → a < arrow_count Q → w.end ≡ source Q a
    → (i : IsFactor Q f (concat w (arrow_path Q a))) → 0 < path_length i.behind → IsFactor Q f w
factor_in_front Q e f w a hf hw la m i l =
    let s = ends_with_arrow Q i.behind e i.behind_is l in
    let meets : Meets f s.0 = i.meets_behind ∙ sym (ap (λ (x : Path). x.start) s.2.whole) in
    let inner_is : IsPath Q (concat f s.0) = IsPath-concat Q f s.0 hf s.2.front_is meets in
    let whole : concat (concat i.before (concat f s.0)) (arrow_path Q s.1) ≡ concat w (arrow_path Q a) =
    concat_assoc i.before (concat f s.0) (arrow_path Q s.1) ∙ ap (concat i.before) (concat_assoc f s.0 (arrow_path Q s.1) ∙ ap (concat f) s.2.whole) ∙ sym i.whole in
    let lengths : path_length (concat i.before (concat f s.0)) ≡ path_length w =
    omega (arith, ap path_length whole, length-with (concat i.before (concat f s.0)) Q s.1, length-with w Q a) in
    let same = (cut_once Q (concat w (arrow_path Q a)) (path_length w) (concat i.before (concat f s.0)) (arrow_path Q s.1) w (arrow_path Q a)
    (record { front_is = IsPath-concat Q i.before (concat f s.0) i.before_is inner_is i.meets_before; rest_is = IsPath-arrow Q s.1 e s.2.arrow_is; meets = s.2.meets; whole = whole; front_length = lengths })
    (record { front_is = hw; rest_is = IsPath-arrow Q a e la; meets = m; whole = refl; front_length = refl })).0 in
    record { before = i.before; behind = s.0; before_is = i.before_is; behind_is = s.2.front_is; meets_before = i.meets_before; meets_behind = meets; whole = sym same }

-- a front of a word is a word
pub can_front : (h : Header) (words : List Path) (rules : List Rule) → CanAct h words rules → (u v : Path) → IsPath h.quiver u → IsPath h.quiver v → Meets u v → Contains words (concat u v) → Contains words u
can_front h words rules can u v hu hv e m =
    let is = can.word.only (concat u v) m in
    can.word.all u (record { path = hu; short = omega (arith, is.0.short, path_length-concat u v) }) (λ rule c f. is.1 rule c
    (IsFactor-trans h.quiver rule.tip u (concat u v) f (record {
      before = trivial_path u.start;
      behind = v;
      before_is = IsPath-trivial h.quiver u.start hu.starts;
      behind_is = hv;
      meets_before = refl;
      meets_behind = e;
      whole = sym (concat-trivial_left (concat u v));
    })))

-- what an arrow makes of a row, where the products are known of the words at which it is not zero
pub act_by_rows : (h : Header) (words : List Path) (becomes : Path → Path → ℕ) (rows : List (List Entry)) → AreProductRows h words becomes rows → (b : ℕ) → b < arrow_count h.quiver
    → (x : Path → ℕ) → ((j : ℕ) → j < length words → x (path_at words j) ≢ 0 → j * arrow_count h.quiver + b < length rows)
    → acted_by h.field rows (arrow_count h.quiver) b (row_of words x) ≡ row_of words (act_arrow h becomes words b x)
unfolding row_of act_arrow product_with
act_by_rows h words becomes rows known b lb x s = list_of-is (length words) _ (acted_by h.field rows n b row) 0 (length-acted_to h.field rows n b row (length row) ∙ length-row_of words x) at
  where
    n : ℕ
    n = arrow_count h.quiver

    row : List ℕ
    row = row_of words x

    value : ℕ → Path → ℕ
    value j w = mul h.field (x w) (product_with h becomes w b (path_at words j))

    chosen : (t : Bool) (c m : ℕ) → mul h.field c (if t then m else 0) ≡ (if t then mul h.field c m else 0)
    chosen true c m = refl
    chosen false c m = mul_zero h.field c

    at : (j : ℕ) → j < length words → get_or (acted_by h.field rows n b row) j 0 ≡ act_arrow h becomes words b x (path_at words j)
    at j l = acted_to-at h.field rows n b row (length row) j (subst (λ m. j < m) (sym (length-row_of words x)) l)
        ∙ ap (λ m. sum_to h.field m (λ i. mul h.field (get_or row i 0) (entry_at h.field (get_or rows (i * n + b) []) j))) (length-row_of words x)
        ∙ sum-same h.field (length words) _ (λ i. value j (path_at words i)) (λ i k. ap (λ c. mul h.field c (entry_at h.field (get_or rows (i * n + b) []) j)) (get_or-row_of words x i k)
        ∙ elim (cases_eq (x (path_at words i)) 0) [
          | inl z ↦ ap (λ c. mul h.field c (entry_at h.field (get_or rows (i * n + b) []) j)) z ∙ zero_mul h.field _ ∙ sym (ap (λ c. mul h.field c (product_with h becomes (path_at words i) b (path_at words j))) z ∙ zero_mul h.field _)
          | inr d ↦ ap (mul h.field (x (path_at words i))) ((known.row i b k lb (s i k d)).value j l)
        ])
        ∙ sum_to-over h.field words (value j)
        ∙ sum_over-same h.field words _ _ (λ w m. chosen (eqb w.end (source h.quiver b)) (x w) (becomes (concat w (arrow_path h.quiver b)) (path_at words j)))

module _ (h : Header) (words : List Path) (rules : List Rule) (can : CanAct h words rules) where
  tip_is : (rule : Rule) → Contains rules rule → IsPath h.quiver rule.tip
  tip_is rule m = All-contains (λ (x : Rule). IsPath h.quiver x.tip) rules rule can.tips m

  module _ (i a : ℕ) (p : Path) (n : IsNewProduct h words i a p) where
    new_is : IsPath h.quiver p
    new_is = subst (IsPath h.quiver) (sym n.is)
        (IsPath-concat h.quiver (path_at words i) (arrow_path h.quiver a) (short_word h words rules can i n.place).path (IsPath-arrow h.quiver a can.allowed.quiver.ends n.arrow) n.meets)

    -- no tip ends before the last arrow
    ends_last : (rule : Rule) → Contains rules rule → (f : IsFactor h.quiver rule.tip p) → path_length f.behind ≤ 0
    ends_last rule m f = elim (cases_lt 0 (path_length f.behind)) [
      | inr l ↦ l
      | inl l ↦ absurd (inside (subst (λ x. (f : IsFactor h.quiver rule.tip x) → 0 < path_length f.behind → ⊥) (sym n.is)
          (λ g k. (can.word.only (path_at words i) (word_listed words i n.place)).1 rule m
          (factor_in_front h.quiver can.allowed.quiver.ends rule.tip (path_at words i) a (tip_is rule m) (short_word h words rules can i n.place).path n.arrow n.meets g k)) f l))
    ]
      where
        inside : ⊥ → ⊥
        inside x = x

    front_in_words : (u v : Path) → IsPath h.quiver u → IsPath h.quiver v → Meets u v → Contains words (concat u v) → Contains words u
    front_in_words u v hu hv e m = can_front h words rules can u v hu hv e m

    -- it ends with a tip
    pub has_ending : (k : ℕ) × (k < length rules) × ((d : Rule) → EndsWithArrows (get_or rules k d).tip p)
    has_ending = elim (cases_occurrence h rules can.allowed.quiver.ends can.tips p new_is) [
      | inr none ↦ absurd (n.new (can.word.all p (record { path = new_is; short = n.short }) none))
      | inl o ↦
          let short : path_length o.behind ≤ 0 = ends_last o.rule o.listed (record { before = o.before; behind = o.behind; before_is = o.before_is; behind_is = o.behind_is; meets_before = o.meets_before; meets_behind = o.meets_behind; whole = o.whole }) in
          let behind : o.behind ≡ trivial_path o.behind.start = trivial_from_length h.quiver o.behind o.behind_is (omega (arith, short)) in
          let whole : p ≡ concat o.before o.rule.tip = o.whole ∙ ap (λ v. concat o.before (concat o.rule.tip v)) (behind ∙ ap trivial_path (sym o.meets_behind)) ∙ ap (concat o.before) (concat-trivial_right o.rule.tip) in
          (o.listed.0, o.listed.1, λ d. subst (λ (x : Rule). EndsWithArrows x.tip p) (sym (get_or_default rules o.listed.0 d o.rule o.listed.1 ∙ o.listed.2)) (ending o.before o.rule.tip whole))
    ]
      where
        ending : (u tip : Path) → p ≡ concat u tip → EndsWithArrows tip p
        ending u tip e =
            let lengths : path_length p ≡ path_length u + path_length tip = ap path_length e ∙ path_length-concat u tip in
            record {
              fits = omega (arith, lengths);
              last = ap₂ drop (back lengths) (ap (λ (x : Path). x.arrows) e) ∙ drop_at u.arrows tip.arrows (path_length u) refl;
            }
          where
            back : path_length p ≡ path_length u + path_length tip → path_length p - path_length tip ≡ path_length u
            back l = omega (arith, l)

    module _ (rule : Rule) (m : Contains rules rule) (w : EndsWithArrows rule.tip p) where
      split : IsPath h.quiver (front_before p rule.tip) × (concat (front_before p rule.tip) rule.tip ≡ p)
      split = ends_with_tip h.quiver can.allowed.quiver.ends rule.tip p (tip_is rule m) new_is (omega (arith, can.tips_long rule m)) w

      occurrence : FirstOccurrence h rules p
      occurrence = record {
        rule = rule;
        before = front_before p rule.tip;
        behind = trivial_path rule.tip.end;
        listed = m;
        before_is = split.0;
        behind_is = IsPath-trivial h.quiver rule.tip.end (IsPath-end h.quiver rule.tip can.allowed.quiver.ends (tip_is rule m));
        meets_before = refl;
        meets_behind = refl;
        whole = sym (ap (concat (front_before p rule.tip)) (concat-trivial_right rule.tip) ∙ split.1);
        first = λ other c f. ends_last other c f;
      }

      -- what is before the tip is a word
      pub front_listed : Contains words (front_before p rule.tip)
      front_listed =
          let Q = h.quiver in
          let count : ℕ = path_length p - path_length rule.tip in
          let c = cut Q p (path_length (path_at words i)) can.allowed.quiver.ends new_is (omega (arith, ap path_length n.is, length-with (path_at words i) Q a)) in
          let t = ends_with_arrow Q rule.tip can.allowed.quiver.ends (tip_is rule m) (omega (arith, can.tips_long rule m)) in
          let meets : Meets (front_before p rule.tip) t.0 = ap (λ (x : Path). x.start) (sym t.2.whole) in
          let long : IsPath Q (concat (front_before p rule.tip) t.0) = IsPath-concat Q (front_before p rule.tip) t.0 split.0 t.2.front_is meets in
          let whole : concat (concat (front_before p rule.tip) t.0) (arrow_path Q t.1) ≡ concat (path_at words i) (arrow_path Q a) =
          concat_assoc (front_before p rule.tip) t.0 (arrow_path Q t.1) ∙ ap (concat (front_before p rule.tip)) t.2.whole ∙ split.1 ∙ n.is in
          let same : concat (front_before p rule.tip) t.0 ≡ path_at words i = (cut_once Q (concat (path_at words i) (arrow_path Q a)) (path_length (path_at words i))
          (concat (front_before p rule.tip) t.0) (arrow_path Q t.1) (path_at words i) (arrow_path Q a)
          (record {
            front_is = long;
            rest_is = IsPath-arrow Q t.1 can.allowed.quiver.ends t.2.arrow_is;
            meets = t.2.meets;
            whole = whole;
            front_length = omega (arith, ap path_length whole, length-with (concat (front_before p rule.tip) t.0) Q t.1, length-with (path_at words i) Q a);
          })
          (record {
            front_is = (short_word h words rules can i n.place).path;
            rest_is = IsPath-arrow Q a can.allowed.quiver.ends n.arrow;
            meets = n.meets;
            whole = refl;
            front_length = refl;
          })).0 in
          front_in_words (front_before p rule.tip) t.0 split.0 t.2.front_is meets (subst (Contains words) (sym same) (word_listed words i n.place))

      -- the row of the word before the tip, acted on by the terms of the tail, is the row of what the path becomes
      module _ (becomes : Path → Path → ℕ) (red : IsReduction h rules becomes) (rows : List (List Entry)) (known : AreProductRows h words becomes rows)
          (count : length rows ≡ i * arrow_count h.quiver + a) where
        k : AreActedOn h words rules becomes
        k = acted_on h words rules can becomes red

        -- an arrow on a row, where the products are known
        acts-row : (b : ℕ) → b < arrow_count h.quiver → (x : Path → ℕ) → ((j : ℕ) → j < length words → x (path_at words j) ≢ 0 → j * arrow_count h.quiver + b < length rows)
            → acted_by h.field rows (arrow_count h.quiver) b (row_of words x) ≡ row_of words (act_arrow h becomes words b x)
        acts-row b lb x s = act_by_rows h words becomes rows known b lb x s

        -- the word is not trivial, since tips are not arrows
        not_trivial : 0 < path_length (path_at words i)
        not_trivial = omega (arith, can.tips_long rule m, w.fits, ap path_length n.is, length-with (path_at words i) h.quiver a)

        before_here : (j b : ℕ) → j < length words → b < arrow_count h.quiver → IsSmaller (concat (path_at words j) (arrow_path h.quiver b)) p → j * arrow_count h.quiver + b < length rows
        before_here j b lj lb s = subst (λ x. j * arrow_count h.quiver + b < x) (sym count)
            (product_before h.quiver words can.word.ascending i j a b n.place lj lb (short_word h words rules can i n.place).path (short_word h words rules can j lj).path not_trivial
            (subst (IsSmaller (concat (path_at words j) (arrow_path h.quiver b))) n.is s))

        -- arrows behind a path, so long as it stays smaller
        along_rows : (xs : List ℕ) (r : Path) (v : ℕ) → IsPath h.quiver r → Leads h.quiver r.end xs v → IsSmaller (record { start = r.start; end = v; arrows = r.arrows ++ xs }) p
            → acted_along h.field rows (arrow_count h.quiver) xs (row_of words (becomes r)) ≡ row_of words (becomes (record { start = r.start; end = v; arrows = r.arrows ++ xs }))
        unfolding acted_along
        along_rows [] r v hr l s = ap (λ x. row_of words (becomes x)) (same_path r (record { start = r.start; end = v; arrows = r.arrows ++ [] }) refl l (sym (append-nil r.arrows)))
        along_rows (b ∷ xs) r v hr l s =
            let y : Path = concat r (arrow_path h.quiver b) in
            let whole : Path = record { start = r.start; end = v; arrows = r.arrows ++ b ∷ xs } in
            let same : record { start = y.start; end = v; arrows = y.arrows ++ xs } ≡ whole = same_path _ _ refl refl (append_assoc r.arrows (b ∷ []) xs) in
            let y_less : IsSmaller y p = front_less xs r v b l whole refl s in
            let short : path_length r + 1 < h.bound = omega (arith, n.short, length_of_smaller y p y_less, length-with r h.quiver b) in
            ap (acted_along h.field rows (arrow_count h.quiver) xs) (acts-row b l.0 (becomes r) (support r b hr l.0 y_less) ∙ ap (row_of words) (arrow_behind h words rules becomes k b l.0 r hr (sym l.1) short))
            ∙ along_rows xs y v (IsPath-concat h.quiver r (arrow_path h.quiver b) hr (IsPath-arrow h.quiver b can.allowed.quiver.ends l.0) (sym l.1)) l.2 (subst (λ x. IsSmaller x p) (sym same) s)
            ∙ ap (λ x. row_of words (becomes x)) same
          where
            front_less : (xs : List ℕ) (r : Path) (v b : ℕ) → Leads h.quiver r.end (b ∷ xs) v → (whole : Path) → whole ≡ record { start = r.start; end = v; arrows = r.arrows ++ b ∷ xs } → IsSmaller whole p
                → IsSmaller (concat r (arrow_path h.quiver b)) p
            front_less [] r v b l whole e s = subst (λ x. IsSmaller x p) (e ∙ sym (same_path (concat r (arrow_path h.quiver b)) (record { start = r.start; end = v; arrows = r.arrows ++ b ∷ [] }) refl l.2 refl)) s
            front_less (c ∷ xs) r v b l whole e s = IsSmaller-trans (concat r (arrow_path h.quiver b)) whole p
                (IsSmaller-from_shorter (concat r (arrow_path h.quiver b)) whole (omega (arith, ap path_length e, length-append r.arrows (b ∷ c ∷ xs), length-with r h.quiver b))) s

            support : (r : Path) (b : ℕ) → IsPath h.quiver r → b < arrow_count h.quiver → IsSmaller (concat r (arrow_path h.quiver b)) p
                → (j : ℕ) → j < length words → becomes r (path_at words j) ≢ 0 → j * arrow_count h.quiver + b < length rows
            support r b hr lb s j lj z = before_here j b lj lb (elim (cases_path (path_at words j) r) [
              | inl e ↦ subst (λ x. IsSmaller (concat x (arrow_path h.quiver b)) p) (sym e) s
              | inr d ↦ elim (cases_smaller (path_at words j) r) [
                | inl less ↦ IsSmaller-trans (concat (path_at words j) (arrow_path h.quiver b)) (concat r (arrow_path h.quiver b)) p (IsSmaller-concat_right (path_at words j) r (arrow_path h.quiver b) less) s
                | inr g ↦ absurd (z (becomes-greater h rules (are_rules h words rules can) becomes red r hr (path_at words j) d g))
              ]
            ])

        -- one term
        term_part : (t : Term) → Contains rule.tail.terms t → (row : List ℕ) → row ≡ row_of words (becomes (front_before p rule.tip)) → (j : ℕ) → j < length words
            → (if counts h.bound rule.tip t then mul h.field t.coef (get_or (acted_along h.field rows (arrow_count h.quiver) t.path.arrows row) j 0) else 0)
            ≡ (if eqb (front_before p rule.tip).end t.path.start && eqb t.path.end rule.tip.end then mul h.field t.coef (becomes (concat (front_before p rule.tip) (concat t.path (trivial_path rule.tip.end))) (path_at words j)) else 0)
        term_part t c row e j l =
            let u : Path = front_before p rule.tip in
            let is = tail_term h rules (are_rules h words rules can) rule m t c in
            elim (cases_Bool (counts h.bound rule.tip t)) [
              | inl yes1 ↦
                  let d : DoesCount h.bound rule.tip t = counts-true h.bound rule.tip t yes1 in
                  let less : IsSmaller (concat u t.path) p = subst (IsSmaller (concat u t.path)) split.1 (IsSmaller-concat_left u t.path rule.tip (sym d.starts) refl is.smaller) in
                  let leads : Leads h.quiver u.end t.path.arrows t.path.end = subst (λ x. Leads h.quiver x t.path.arrows t.path.end) d.starts is.short.path.leads in
                  let along : acted_along h.field rows (arrow_count h.quiver) t.path.arrows row ≡ row_of words (becomes (concat u t.path)) =
                  ap (acted_along h.field rows (arrow_count h.quiver) t.path.arrows) e ∙ along_rows t.path.arrows u t.path.end split.0 leads less in
                  let behind : concat t.path (trivial_path rule.tip.end) ≡ t.path = ap (λ x. concat t.path (trivial_path x)) (sym d.ends) ∙ concat-trivial_right t.path in
                  cond-true _ _ 0 yes1
                  ∙ ap (mul h.field t.coef) (ap (λ x. get_or x j 0) along ∙ get_or-row_of words (becomes (concat u t.path)) j l ∙ ap (λ x. becomes (concat u x) (path_at words j)) (sym behind))
                  ∙ sym (cond-true _ _ 0 (and_from _ _ (eq-eqb _ _ (sym d.starts)) (eq-eqb _ _ d.ends)))
              | inr no1 ↦ cond-false _ _ 0 no1 ∙ sym (cond-false _ _ 0 (apart t is.short.short no1))
            ]
          where
            differ : false ≡ true → ⊥
            differ e = cc

            apart : (t : Term) → path_length t.path < h.bound → counts h.bound rule.tip t ≡ false → (eqb rule.tip.start t.path.start && eqb t.path.end rule.tip.end) ≡ false
            apart t s no1 = elim (cases_Bool (eqb rule.tip.start t.path.start && eqb t.path.end rule.tip.end)) [
              | inr f ↦ f
              | inl g ↦
                  let parts = and_parts (eqb rule.tip.start t.path.start) (eqb t.path.end rule.tip.end) g in
                  absurd (differ (sym no1 ∙ counts-from h.bound rule.tip t (record { short = s; starts = sym (eqb-true _ _ parts.0); ends = eqb-true _ _ parts.1 })))
            ]

        pub tail_row : (place : ℕ) → place < length words → get_or words place (front_before p rule.tip) ≡ front_before p rule.tip
            → acted_terms h.field rows (arrow_count h.quiver) h.bound rule.tip rule.tail.terms (unit (length words) place) ≡ row_of words (becomes p)
        unfolding row_of sum_between sum_over occurrence
        tail_row place l e =
            let u : Path = front_before p rule.tip in
            let at : path_at words place ≡ u = word_at words place u l e in
            let is = can.word.only u front_listed in
            let row : unit (length words) place ≡ row_of words (becomes u) =
            unit-row h.bound words can.word.ascending place l (subst (λ x. path_length x < h.bound) (sym at) is.0.short)
            ∙ ap (λ x. row_of words (path_element h.bound x)) at ∙ ap (row_of words) (fun_ext (λ r. sym (red.stays u is.0 is.1 r))) in
            let width : length (unit (length words) place) ≡ length words = ap length row ∙ length-row_of words (becomes u) in
            list_of-is (length words) _ (acted_terms h.field rows (arrow_count h.quiver) h.bound rule.tip rule.tail.terms (unit (length words) place)) 0
            (length-acted_terms h.field rows (arrow_count h.quiver) h.bound rule.tip rule.tail.terms (unit (length words) place) ∙ width)
            (λ j b. acted_terms-at h.field rows (arrow_count h.quiver) h.bound rule.tip rule.tail.terms (unit (length words) place) j (subst (λ x. j < x) (sym width) b)
            ∙ sum_over-same h.field rule.tail.terms _ _ (λ t c. term_part t c (unit (length words) place) row j b)
            ∙ sym (red.rewritten p (record { path = new_is; short = n.short }) occurrence (path_at words j)))
