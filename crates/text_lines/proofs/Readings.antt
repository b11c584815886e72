-- Laws of reading line by line.
use Rattle.std.proofs.Common.{◌≡◌, ℕ, ◌+◌, List, [], ◌∷◌, ◌++◌, length, suc, ◌⊎◌, inl, inr, refl, sym, ap, ◌∙◌, subst, arith}
use Rattle.text_lines.specs.Reading.{Reads, ReadsWhole, IsStuck, IsFirstBad, IsDetermined}

cons_head : (x y : List ℕ) (xs ys : List (List ℕ)) → x ∷ xs ≡ y ∷ ys → x ≡ y
cons_head x y xs ys same = cc

cons_tail : (x y : List ℕ) (xs ys : List (List ℕ)) → x ∷ xs ≡ y ∷ ys → xs ≡ ys
cons_tail x y xs ys same = cc

module _ {Part : Type 0} (Step : Part → List ℕ → Part → Type 0) where
  pub Reads-append : (p q r : Part) (xs ys : List (List ℕ)) → Reads Step p xs q → Reads Step q ys r → Reads Step p (xs ++ ys) r
  Reads-append p q r [] ys a b = subst (λ m. Reads Step m ys r) a b
  Reads-append p q r (x ∷ xs) ys a b = (a.0, a.1, Reads-append a.0 q r xs ys a.2 b)

  -- one line more
  pub Reads-push : (p q r : Part) (xs : List (List ℕ)) (x : List ℕ) → Reads Step p xs q → Step q x r → Reads Step p (xs ++ x ∷ []) r
  Reads-push p q r xs x a b = Reads-append p q r xs (x ∷ []) a (r, b, refl)

  pub reads_one : IsDetermined Step → (p q r : Part) (text : List (List ℕ)) → Reads Step p text q → Reads Step p text r → q ≡ r
  reads_one one p q r [] a b = a ∙ sym b
  reads_one one p q r (x ∷ xs) a b = reads_one one b.0 q r xs (subst (λ m. Reads Step m xs q) (one p x a.0 b.0 a.1 b.1) a.2) b.2

-- something goes on to some part, or to none
abbrev pub Goes : {Part : Type 0} → (Part → Type 0) → Type 0
Goes {Part} To = ((q : Part) × To q) ⊎ ((q : Part) → To q → ⊥)

module _ {Part : Type 0} (Step : Part → List ℕ → Part → Type 0) (MayEnd : Part → Type 0) where
  -- Lines that are read whole and lines that get stuck after a front of them are not the same.
  stuck_not_whole : IsDetermined Step → (p q m : Part) (front rest : List (List ℕ)) → Reads Step p (front ++ rest) q → MayEnd q → Reads Step p front m → IsStuck Step MayEnd m rest → ⊥
  stuck_not_whole one p q m [] [] reads ends front stuck = stuck (subst MayEnd (reads ∙ sym front) ends)
  stuck_not_whole one p q m [] (x ∷ rest) reads ends front stuck = stuck reads.0 (subst (λ s. Step s x reads.0) (sym front) reads.1)
  stuck_not_whole one p q m (x ∷ xs) rest reads ends front stuck =
      stuck_not_whole one front.0 q m xs rest (subst (λ s. Reads Step s (xs ++ rest) q) (one p x reads.0 front.0 reads.1 front.1) reads.2) ends front.2 stuck

  pub whole_not_bad : IsDetermined Step → (p q : Part) (text : List (List ℕ)) (k : ℕ) → ReadsWhole Step MayEnd p text q → IsFirstBad Step MayEnd p text k → ⊥
  whole_not_bad one p q text k whole bad =
      stuck_not_whole one p q bad.reached bad.front bad.rest (subst (λ l. Reads Step p l q) bad.split whole.reads) whole.ends bad.reads bad.stuck

  not_stuck : (p q : Part) (x : List ℕ) (rest : List (List ℕ)) → Step p x q → IsStuck Step MayEnd p (x ∷ rest) → ⊥
  not_stuck p q x rest step stuck = stuck q step

  same_front : IsDetermined Step → (p m n : Part) (xs us ys vs : List (List ℕ)) → xs ++ us ≡ ys ++ vs → Reads Step p xs m → IsStuck Step MayEnd m us → Reads Step p ys n → IsStuck Step MayEnd n vs → length xs ≡ length ys
  same_front one p m n [] us [] vs same a s b t = refl
  same_front one p m n [] us (y ∷ ys) vs same a s b t =
      absurd (not_stuck m b.0 y (ys ++ vs) (subst (λ r. Step r y b.0) (sym a) b.1) (subst (IsStuck Step MayEnd m) same s))
  same_front one p m n (x ∷ xs) us [] vs same a s b t =
      absurd (not_stuck n a.0 x (xs ++ us) (subst (λ r. Step r x a.0) (sym b) a.1) (subst (IsStuck Step MayEnd n) (sym same) t))
  same_front one p m n (x ∷ xs) us (y ∷ ys) vs same a s b t =
      let next : a.0 ≡ b.0 = one p y a.0 b.0 (subst (λ l. Step p l a.0) (cons_head x y (xs ++ us) (ys ++ vs) same) a.1) b.1 in
      ap suc (same_front one b.0 m n xs us ys vs (cons_tail x y (xs ++ us) (ys ++ vs) same) (subst (λ r. Reads Step r xs m) next a.2) s b.2 t)

  pub one_bad : IsDetermined Step → (p : Part) (text : List (List ℕ)) (j k : ℕ) → IsFirstBad Step MayEnd p text j → IsFirstBad Step MayEnd p text k → j ≡ k
  one_bad one p text j k a b =
      let same = same_front one p a.reached b.reached a.front a.rest b.front b.rest (sym a.split ∙ b.split) a.reads a.stuck b.reads b.stuck in
      omega (arith, same, a.number, b.number)

  -- a first bad line behind a line that was read
  behind_line : (p q : Part) (x : List ℕ) (xs : List (List ℕ)) (k : ℕ) → Step p x q → IsFirstBad Step MayEnd q xs k → IsFirstBad Step MayEnd p (x ∷ xs) (k + 1)
  behind_line p q x xs k step bad = record {
    front = x ∷ bad.front;
    rest = bad.rest;
    reached = bad.reached;
    split = ap (λ ys. x ∷ ys) bad.split;
    reads = (q, step, bad.reads);
    stuck = bad.stuck;
    number = omega (arith, bad.number);
  }

  whole_behind : (p q r : Part) (x : List ℕ) (xs : List (List ℕ)) → Step p x q → ReadsWhole Step MayEnd q xs r → ReadsWhole Step MayEnd p (x ∷ xs) r
  whole_behind p q r x xs step whole = record { reads = (q, step, whole.reads); ends = whole.ends }

  -- the lines are read whole, or one of them is the first bad one
  abbrev pub ReadOrBad : Part → List (List ℕ) → Type 0
  ReadOrBad p text = ((q : Part) × ReadsWhole Step MayEnd p text q) ⊎ ((k : ℕ) × IsFirstBad Step MayEnd p text k)

  pub no_lines_read_or_bad : (p : Part) → MayEnd p ⊎ (MayEnd p → ⊥) → ReadOrBad p []
  no_lines_read_or_bad p (inl ends) = inl (p, record { reads = refl; ends = ends })
  no_lines_read_or_bad p (inr early) = inr (1, record { front = []; rest = []; reached = p; split = refl; reads = refl; stuck = early; number = refl })

  pub lines_read_or_bad : (p : Part) (x : List ℕ) (xs : List (List ℕ)) → Goes (Step p x) → ((q : Part) → Step p x q → ReadOrBad q xs) → ReadOrBad p (x ∷ xs)
  lines_read_or_bad p x xs (inr stuck) rest = inr (1, record { front = []; rest = x ∷ xs; reached = p; split = refl; reads = refl; stuck = stuck; number = refl })
  lines_read_or_bad p x xs (inl go) rest =
      elim (rest go.0 go.1) [
        | inl whole ↦ inl (whole.0, whole_behind p go.0 whole.0 x xs go.1 whole.1)
        | inr bad ↦ inr (bad.0 + 1, behind_line p go.0 x xs bad.0 go.1 bad.1)
      ]
