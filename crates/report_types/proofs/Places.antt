-- Objects of records found by their numbers.
use Rattle.std.proofs.Common.{◌≡◌, ℕ, ◌+◌, ◌<◌, ◌≤◌, zero, suc, List, [], ◌∷◌, ◌++◌, take, drop, length, get_or, refl, sym, ap, ◌∙◌, inl, inr, subst, ◌⊎◌, arith, append_assoc, append-nil, add-one}
use Rattle.std.proofs.lemmas.Bool.{cases_lt}
use Rattle.std.proofs.lemmas.List.{take_more, take-append-drop, take-append-le, length-append, length-take-le, get_or_append_left, get_or-append-add, get_or_default, get_or-take, get_or_at}
use Rattle.std.proofs.Math.Seq.{take-length}
use Rattle.std.specs.List.Sorted.{IsNonDecreasing}
use Rattle.path_algebra.specs.Derivations.{IsNumber}
use Rattle.report_types.specs.declared.claims.Record.{Record}
use Rattle.report_types.specs.Numbers.{numbered}
use Rattle.report_types.specs.Places.{AreReached, reached, IsPlace}

module _ {X : Type 0} (items : Record → List X) (of : List Record → List X) (none : of [] ≡ []) (more : (r : Record) (rs : List Record) → of (r ∷ rs) ≡ items r ++ of rs) where
  of-append : (xs ys : List Record) → of (xs ++ ys) ≡ of xs ++ of ys
  of-append [] ys = ap (λ l. l ++ of ys) (sym none)
  of-append (x ∷ xs) ys =
      more x (xs ++ ys) ∙ (ap (λ l. items x ++ l) (of-append xs ys) ∙ (sym (append_assoc (items x) (of xs) (of ys)) ∙ ap (λ l. l ++ of ys) (sym (more x xs))))

  of-one : (r : Record) → of (r ∷ []) ≡ items r
  of-one r = more r [] ∙ (ap (λ l. items r ++ l) none ∙ append-nil (items r))

  -- one record more
  pub of-push : (rs : List Record) (r : Record) → of (rs ++ r ∷ []) ≡ of rs ++ items r
  of-push rs r = of-append rs (r ∷ []) ∙ ap (λ l. of rs ++ l) (of-one r)

  of-take : (rs : List Record) (i : ℕ) (d : Record) → i < length rs → of (take (i + 1) rs) ≡ of (take i rs) ++ items (get_or rs i d)
  of-take rs i d h = ap of (take_more rs i d h) ∙ of-push (take i rs) (get_or rs i d)

  of-whole : (rs : List Record) (i : ℕ) → of rs ≡ of (take i rs) ++ of (drop i rs)
  of-whole rs i = ap of (sym (take-append-drop i rs)) ∙ of-append (take i rs) (drop i rs)

  -- the numbers before a record, and up to it
  pub reached_is : (rs : List Record) (ends : List ℕ) (i : ℕ) → AreReached of rs ends → i ≤ length rs → reached ends i ≡ length (of (take i rs))
  reached_is rs ends zero are h = ap length (sym none)
  reached_is rs ends (suc i) are h = are.each i (omega arith) ∙ ap (λ k. length (of (take k rs))) (add-one i)

  take_take : (rs : List Record) (i j : ℕ) → i ≤ j → take i (take j rs) ≡ take i rs
  take_take rs zero j h = refl
  take_take rs (suc i) zero h = absurd (omega arith)
  take_take [] (suc i) (suc j) h = refl
  take_take (r ∷ rs) (suc i) (suc j) h = ap (λ l. r ∷ l) (take_take rs i j (omega arith))

  rise : (rs : List Record) (i j : ℕ) → i ≤ j → length (of (take i rs)) ≤ length (of (take j rs))
  rise rs i j h =
      let cut : of (take j rs) ≡ of (take i rs) ++ of (drop i (take j rs)) = of-whole (take j rs) i ∙ ap (λ l. of l ++ of (drop i (take j rs))) (take_take rs i j h) in
      omega (arith, ap length cut, length-append (of (take i rs)) (of (drop i (take j rs))))

  end_is : (rs : List Record) (ends : List ℕ) (i d : ℕ) → AreReached of rs ends → i < length rs → get_or ends i d ≡ length (of (take (i + 1) rs))
  end_is rs ends i d are h = let enough = are.enough in get_or_default ends i d 0 (omega arith) ∙ are.each i h

  -- the numbers of the records alone, and these with other ones behind
  pub with_more : (rs : List Record) (ends more : List ℕ) → AreReached of rs ends → AreReached of rs (take (length rs) ends ++ more)
  with_more rs ends more are =
      let size : length (take (length rs) ends) ≡ length rs = length-take-le (length rs) ends are.enough in
      record {
        enough = omega (arith, length-append (take (length rs) ends) more);
        each = λ i h. get_or_append_left (take (length rs) ends) more 0 i (omega arith) ∙ (get_or-take (length rs) ends i 0 h ∙ are.each i h);
      }

  pub alone : (rs : List Record) (ends : List ℕ) → AreReached of rs ends → AreReached of rs (take (length rs) ends)
  alone rs ends are = subst (AreReached of rs) (append-nil (take (length rs) ends)) (with_more rs ends [] are)

  pub ends_rise : (rs : List Record) (ends : List ℕ) → AreReached of rs ends → IsNonDecreasing (take (length rs) ends)
  ends_rise rs ends are = λ i j d le lt.
      let size : length (take (length rs) ends) ≡ length rs = length-take-le (length rs) ends are.enough in
      let a : get_or (take (length rs) ends) i d ≡ length (of (take (i + 1) rs)) = end_is rs (take (length rs) ends) i d (alone rs ends are) (omega arith) in
      let b : get_or (take (length rs) ends) j d ≡ length (of (take (j + 1) rs)) = end_is rs (take (length rs) ends) j d (alone rs ends are) (omega arith) in
      omega (arith, rise rs (i + 1) (j + 1) (omega arith))

  pub whole_reached : (rs : List Record) (ends : List ℕ) → AreReached of rs ends → reached ends (length rs) ≡ length (of rs)
  whole_reached rs ends are = reached_is rs ends (length rs) are (omega arith) ∙ ap (λ l. length (of l)) (take-length rs)

  -- one record more
  pub one_more : (rs : List Record) (ends : List ℕ) (r : Record) (m : ℕ) → AreReached of rs ends → m ≡ length (of rs) + length (items r)
      → AreReached of (rs ++ r ∷ []) (take (length rs) ends ++ m ∷ [])
  one_more rs ends r m are e =
      let size : length (take (length rs) ends) ≡ length rs = length-take-le (length rs) ends are.enough in
      record {
        enough = omega (arith, length-append (take (length rs) ends) (m ∷ []), length-append rs (r ∷ []));
        each = λ i h. elim (cases_lt i (length rs)) [
          | inl inside ↦ (with_more rs ends (m ∷ []) are).each i inside ∙ ap (λ l. length (of l)) (sym (take-append-le (i + 1) rs (r ∷ []) (omega arith)))
          | inr last ↦
              let at' : i ≡ length rs = omega (arith, length-append rs (r ∷ [])) in
              get_or_at (take (length rs) ends) m [] 0 i (omega arith)
              ∙ (e ∙ (sym (length-append (of rs) (items r)) ∙ (ap length (sym (of-push rs r))
              ∙ ap (λ l. length (of l)) (sym (take-length (rs ++ r ∷ [])) ∙ ap (λ k. take k (rs ++ r ∷ [])) (omega (arith, length-append rs (r ∷ [])))))))
        ];
      }

  -- object j of record i
  pub object_at : (rs : List Record) (i j : ℕ) (d : Record) (e : X) → i < length rs → j < length (items (get_or rs i d))
      → get_or (of rs) (length (of (take i rs)) + j) e ≡ get_or (items (get_or rs i d)) j e
  object_at rs i j d e h k =
      ap (λ l. get_or l (length (of (take i rs)) + j) e) (of-whole rs (i + 1) ∙ ap (λ l. l ++ of (drop (i + 1) rs)) (of-take rs i d h))
      ∙ (get_or_append_left (of (take i rs) ++ items (get_or rs i d)) (of (drop (i + 1) rs)) e (length (of (take i rs)) + j) (omega (arith, length-append (of (take i rs)) (items (get_or rs i d))))
      ∙ get_or-append-add (of (take i rs)) (items (get_or rs i d)) j e)

  -- what was found by its number
  pub found_inside : (rs : List Record) (ends : List ℕ) (n i j : ℕ) → length ends ≡ length rs → IsPlace ends n i j → i < length rs
  found_inside rs ends n i j size place = let inside = place.inside in omega arith

  pub found_within : (rs : List Record) (ends : List ℕ) (n i j : ℕ) (d : Record) → AreReached of rs ends → length ends ≡ length rs → IsPlace ends n i j → j < length (items (get_or rs i d))
  found_within rs ends n i j d are size place =
      let inside = found_inside rs ends n i j size place in
      let before = reached_is rs ends i are (omega arith) in
      let upto = are.each i inside in
      let behind = place.behind in
      let within = place.within in
      omega (arith, ap length (of-take rs i d inside), length-append (of (take i rs)) (items (get_or rs i d)))

  pub found_number : (rs : List Record) (ends : List ℕ) (n i j : ℕ) → AreReached of rs ends → length ends ≡ length rs → IsPlace ends n i j → IsNumber (length (of rs)) n
  found_number rs ends n i j are size place =
      let inside = found_inside rs ends n i j size place in
      let behind = place.behind in
      let within = place.within in
      let upto = are.each i inside in
      record { from = omega arith; to = omega (arith, rise rs (i + 1) (length rs) (omega arith), ap (λ l. length (of l)) (take-length rs)) }

  pub found_is : (rs : List Record) (ends : List ℕ) (n i j : ℕ) (d : Record) (e : X) → AreReached of rs ends → length ends ≡ length rs → IsPlace ends n i j
      → get_or (items (get_or rs i d)) j e ≡ numbered e (of rs) n
  found_is rs ends n i j d e are size place =
      let inside = found_inside rs ends n i j size place in
      let before = reached_is rs ends i are (omega arith) in
      let behind = place.behind in
      let at' : suc (length (of (take i rs)) + j) ≡ n = omega arith in
      sym (object_at rs i j d e inside (found_within rs ends n i j d are size place)) ∙ ap (numbered e (of rs)) at'

  pub not_found : (rs : List Record) (ends : List ℕ) (n : ℕ) → AreReached of rs ends → length ends ≡ length rs → (n ≡ 0) ⊎ ((k : ℕ) → k < length ends → get_or ends k 0 < n) → IsNumber (length (of rs)) n → ⊥
  not_found rs ends n are size (inl zero_is) is = let from = is.from in absurd (omega arith)
  not_found rs ends n are size (inr less) is = last (length rs) (whole_reached rs ends are) (omega arith)
    where
      last : (k : ℕ) → reached ends k ≡ length (of rs) → k ≤ length ends → ⊥
      last zero e h = let from = is.from in let to = is.to in absurd (omega arith)
      last (suc k) e h = let to = is.to in absurd (omega (arith, less k (omega arith)))

  -- the same as the code has it: over the numbers of the records alone
  pub cut_rises : (rs : List Record) (ends xs : List ℕ) (len : ℕ) → AreReached of rs ends → len ≡ length rs → xs ≡ ends → IsNonDecreasing (take len xs)
  cut_rises rs ends xs len are e f = rw (e, f) (ends_rise rs ends are)

  cut_are : (rs : List Record) (ends xs : List ℕ) (len : ℕ) → AreReached of rs ends → len ≡ length rs → xs ≡ ends → AreReached of rs (take len xs)
  cut_are rs ends xs len are e f = rw (e, f) (alone rs ends are)

  cut_size : (rs : List Record) (ends xs : List ℕ) (len : ℕ) → AreReached of rs ends → len ≡ length rs → xs ≡ ends → length (take len xs) ≡ length rs
  cut_size rs ends xs len are e f = rw (e, f) (length-take-le (length rs) ends are.enough)

  pub nothing_found : (rs : List Record) (ends xs : List ℕ) (len n : ℕ) → AreReached of rs ends → len ≡ length rs → xs ≡ ends
      → (n ≡ 0) ⊎ ((k : ℕ) → k < length (take len xs) → get_or (take len xs) k 0 < n) → IsNumber (length (of rs)) n → ⊥
  nothing_found rs ends xs len n are e f none is = not_found rs (take len xs) n (cut_are rs ends xs len are e f) (cut_size rs ends xs len are e f) none is

  pub some_found : (rs : List Record) (ends xs : List ℕ) (len n i j : ℕ) (r : Record) → AreReached of rs ends → len ≡ length rs → xs ≡ ends → IsPlace (take len xs) n i j
      → r ≡ get_or rs i r → j < length (items r)
  some_found rs ends xs len n i j r are e f place at' =
      let inside = found_within rs (take len xs) n i j r (cut_are rs ends xs len are e f) (cut_size rs ends xs len are e f) place in
      omega (arith, ap (λ q. length (items q)) at')

  pub by_number : (rs : List Record) (ends xs : List ℕ) (len n i j : ℕ) (r : Record) (x missing : X) → AreReached of rs ends → len ≡ length rs → xs ≡ ends → IsPlace (take len xs) n i j
      → r ≡ get_or rs i r → x ≡ get_or (items r) j x → IsNumber (length (of rs)) n × (x ≡ numbered missing (of rs) n)
  by_number rs ends xs len n i j r x missing are e f place at' is =
      let are' = cut_are rs ends xs len are e f in
      let size = cut_size rs ends xs len are e f in (
        found_number rs (take len xs) n i j are' size place,
        is ∙ (get_or_default (items r) j x missing (some_found rs ends xs len n i j r are e f place at') ∙ (ap (λ q. get_or (items q) j missing) at' ∙ found_is rs (take len xs) n i j r missing are' size place)),
      )

  pub pushed : (rs rs' : List Record) (ends ends' : List ℕ) (r : Record) (count more' : ℕ) → AreReached of rs ends → count ≡ length rs → more' ≡ length (items r) → rs' ≡ rs ++ r ∷ []
      → ends' ≡ take count ends ++ (reached ends count + more') ∷ [] → AreReached of rs' ends'
  pushed rs rs' ends ends' r count more' are c m e f =
      rw (e, f, c) (one_more rs ends r (reached ends (length rs) + more') are (omega (arith, whole_reached rs ends are)))

  -- where nothing was added to the records, the numbers that stand behind theirs do not count
  pub kept : (rs rs' : List Record) (ends ends' more' : List ℕ) (count : ℕ) → AreReached of rs ends → count ≡ length rs → rs' ≡ rs → ends' ≡ take count ends ++ more' → AreReached of rs' ends'
  kept rs rs' ends ends' more' count are c e f = rw (e, f, c) (with_more rs ends more' are)
