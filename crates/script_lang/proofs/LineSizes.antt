-- How many bytes the statements of a text take.
use Rattle.std.proofs.Common.{◌≡◌, ℕ, ◌+◌, ◌-◌, ◌*◌, ◌<◌, ◌≤◌, suc, eqb, List, [], ◌∷◌, ◌++◌, length, take, filter, get_or, cond, Bool, true, false, Some, All, refl, sym, ap, ◌∙◌, subst, arith}
use Rattle.std.specs.Prelude.{IfSome}
use Rattle.std.specs.declared.option.Option.{Option}
use Rattle.std.specs.List.{slice_split, onto_first, list_all}
use Rattle.std.proofs.lemmas.List.{length-append, length-take-le}
use Rattle.std.proofs.lemmas.List.Elements.{filter_passes, All-weaker}
use Rattle.std.proofs.lemmas.Option.{cond_some}
use Rattle.text_lines.specs.Parts.{parts}
use Rattle.text_lines.specs.Lines.{lines}
use Rattle.text_lines.specs.Script.{is_blank, is_plain, is_some_word, words, without_last, script_bytes, uncommented, script_tokens}
use Rattle.text_lines.specs.Reading.{Reads}
use Rattle.path_algebra.specs.declared.Header.{Header}
use Rattle.script_types.specs.declared.AtLine.{AtLine}
use Rattle.script_types.specs.declared.Statement.{Statement}
use Rattle.script_lang.specs.declared.line.Line.{Line}
use Rattle.script_lang.specs.declared.line.Line.TheVariants as line
use Rattle.script_lang.specs.declared.part.Place.{Place}
use Rattle.script_lang.specs.declared.part.Place.TheVariants.{Start, Vertices, Arrows, Relations, Body, Block}
use Rattle.script_lang.specs.declared.part.Part.{Part}
use Rattle.script_lang.specs.Lines.{line_in}
use Rattle.script_lang.specs.Parts.{after, opens, closed, place_with}
use Rattle.script_lang.specs.Scripts.{counted, TokenStep, Step}
use Rattle.script_lang.proofs.StatementSizes.{IsLong}
use Rattle.script_lang.proofs.LineRanges.{IsLine, IsWritten, line_fits}

-- ---- tokens

-- the bytes of the tokens, and one more for each
abbrev pub size : List (List ℕ) → ℕ
size [] = 0
size (t ∷ ts) = length t + 1 + size ts

size-onto_first : (b n : ℕ) (ps : List (List ℕ)) → size ps ≡ n + 1 → size (onto_first b ps) ≡ n + 2
size-onto_first b n [] e = absurd (omega (arith, e))
size-onto_first b n (p ∷ ps) e = omega (arith, e)

size-slice_split : (p : ℕ → Bool) (bytes : List ℕ) → size (slice_split p bytes) ≡ length bytes + 1
size-slice_split p [] = refl
size-slice_split p (b ∷ bytes) = by_test (p b) (size-slice_split p bytes) ∙ add_two (length bytes)
  where
    by_test : (t : Bool) → size (slice_split p bytes) ≡ length bytes + 1 → size (cond t ([] ∷ slice_split p bytes) (onto_first b (slice_split p bytes))) ≡ length bytes + 2
    by_test true e = omega (arith, e)
    by_test false e = size-onto_first b (length bytes) (slice_split p bytes) e

    add_two : (n : ℕ) → n + 2 ≡ suc n + 1
    add_two n = omega arith

size-filter : (p : List ℕ → Bool) (ts : List (List ℕ)) → size (filter p ts) ≤ size ts
size-filter p [] = omega arith
size-filter p (t ∷ ts) = by_test (p t) (size-filter p ts)
  where
    by_test : (b : Bool) → size (filter p ts) ≤ size ts → size (cond b (t ∷ filter p ts) (filter p ts)) ≤ size (t ∷ ts)
    by_test true e = omega (arith, e)
    by_test false e = omega (arith, e)

size-words : (bytes : List ℕ) → size (words bytes) ≤ length bytes + 1
size-words bytes =
    let a = size-filter is_some_word (slice_split is_blank bytes) in
    let b = size-slice_split is_blank bytes in omega (arith, a, b)

first_size : (ps : List (List ℕ)) → length (get_or ps 0 []) ≤ size ps - 1
first_size [] = omega arith
first_size (p ∷ ps) = omega arith

length-uncommented : (bytes : List ℕ) → length (uncommented bytes) ≤ length bytes
length-uncommented bytes =
    let a = first_size (parts 35 bytes) in
    let b = size-slice_split (λ c. eqb c 35) bytes in omega (arith, a, b)

some_bytes : (w : List ℕ) → is_some_word w ≡ true → 0 < length w
some_bytes [] h = cc
some_bytes (b ∷ w) h = omega arith

-- the tokens of a line fit into it, and none is empty
record AreIn (l : List ℕ) (ts : List (List ℕ)) : Type 0 where
  pub fit : size ts ≤ length (script_bytes l) + 1
  pub some : All (λ t. 0 < length t) ts

tokens_in : (l : List ℕ) (ts : List (List ℕ)) → script_tokens l ≡ Some ts → AreIn l ts
tokens_in l ts lexed =
    let code = uncommented (script_bytes l) in
    let same = (cond_some (list_all is_plain code) (words code) ts lexed).1 in
    let a = size-words code in
    let b = length-uncommented (script_bytes l) in
    record {
      fit = subst (λ us. size us ≤ length (script_bytes l) + 1) same (omega (arith, a, b));
      some = subst (All (λ t. 0 < length t)) same (All-weaker (λ t. is_some_word t ≡ true) (λ t. 0 < length t) some_bytes (words code) (filter_passes is_some_word (slice_split is_blank code)));
    }

-- ---- lines

-- a line's bytes with one line feed
abbrev own : List ℕ → ℕ
own [] = 1
own (b ∷ []) = cond (eqb b 10) 1 2
own (b ∷ c ∷ l) = 1 + own (c ∷ l)

abbrev last_of : List ℕ → ℕ
last_of l = get_or l (length l - 1) 0

last-cons : (b c : ℕ) (l : List ℕ) → last_of (b ∷ c ∷ l) ≡ last_of (c ∷ l)
last-cons b c l =
    let e : length (b ∷ c ∷ l) - 1 ≡ suc (length l) = omega arith in
    let f : length (c ∷ l) - 1 ≡ length l = omega arith in
    ap (λ i. get_or (b ∷ c ∷ l) i 0) e ∙ sym (ap (λ i. get_or (c ∷ l) i 0) f)

own_is : (l : List ℕ) → own l ≡ cond (eqb (last_of l) 10) (length l) (length l + 1)
own_is [] = refl
own_is (b ∷ []) = refl
own_is (b ∷ c ∷ l) = ap (λ n. 1 + n) (own_is (c ∷ l)) ∙ by_test (eqb (last_of (c ∷ l)) 10) ∙ ap (λ x. cond (eqb x 10) (length (b ∷ c ∷ l)) (length (b ∷ c ∷ l) + 1)) (sym (last-cons b c l))
  where
    by_test : (t : Bool) → 1 + cond t (length (c ∷ l)) (length (c ∷ l) + 1) ≡ cond t (length (b ∷ c ∷ l)) (length (b ∷ c ∷ l) + 1)
    by_test true = omega arith
    by_test false = omega arith

length-without_last : (c : ℕ) (bytes : List ℕ) → length (without_last c bytes) ≤ length bytes
length-without_last c bytes = by_test (eqb (get_or bytes (length bytes - 1) 0) c)
  where
    by_test : (t : Bool) → length (cond t (take (length bytes - 1) bytes) bytes) ≤ length bytes
    by_test true = let e = length-take-le (length bytes - 1) bytes (omega arith) in omega (arith, e)
    by_test false = omega arith

script_bytes_own : (l : List ℕ) → length (script_bytes l) + 1 ≤ own l
script_bytes_own [] = omega arith
script_bytes_own (b ∷ m) = subst (λ n. length (script_bytes (b ∷ m)) + 1 ≤ n) (sym (own_is (b ∷ m))) (by_test (eqb (last_of (b ∷ m)) 10))
  where
    by_test : (t : Bool) → length (cond t (without_last 13 (take (length (b ∷ m) - 1) (b ∷ m))) (b ∷ m)) + 1 ≤ cond t (length (b ∷ m)) (length (b ∷ m) + 1)
    by_test true =
        let e = length-without_last 13 (take (length (b ∷ m) - 1) (b ∷ m)) in
        let f = length-take-le (length (b ∷ m) - 1) (b ∷ m) (omega arith) in
        omega (arith, e, f)
    by_test false = omega arith

-- the bytes of the lines, each with one line feed and without its carriage return
abbrev pub total : List (List ℕ) → ℕ
total [] = 0
total (l ∷ ls) = length (script_bytes l) + 1 + total ls

abbrev owns : List (List ℕ) → ℕ
owns [] = 0
owns (l ∷ ls) = own l + owns ls

total_owns : (ls : List (List ℕ)) → total ls ≤ owns ls
total_owns [] = omega arith
total_owns (l ∷ ls) = let a = script_bytes_own l in let b = total_owns ls in omega (arith, a, b)

own_one : (b : ℕ) → own (b ∷ []) ≤ 2
own_one b = by_test (eqb b 10)
  where
    by_test : (t : Bool) → cond t 1 2 ≤ 2
    by_test true = omega arith
    by_test false = omega arith

own_feed : (b : ℕ) → eqb b 10 ≡ true → own (b ∷ []) ≤ 1
own_feed b feed = subst (λ t. cond {A = ℕ} t 1 2 ≤ 1) (sym feed) (omega arith)

own_more : (b : ℕ) (l : List ℕ) → own (b ∷ l) ≤ own l + 1
own_more b [] = own_one b
own_more b (c ∷ l) = omega arith

owns-onto_first : (b n : ℕ) (ls : List (List ℕ)) → owns ls ≤ n + 1 → owns (onto_first b ls) ≤ n + 2
owns-onto_first b n [] e = let a = own_one b in omega (arith, a)
owns-onto_first b n (l ∷ ls) e = let a = own_more b l in omega (arith, a, e)

owns-lines : (text : List ℕ) → owns (lines text) ≤ length text + 1
owns-lines [] = omega arith
owns-lines (b ∷ text) = le_by (length text) _ (by_test (eqb b 10) refl (owns-lines text))
  where
    by_test : (t : Bool) → eqb b 10 ≡ t → owns (lines text) ≤ length text + 1 → owns (cond t ((b ∷ []) ∷ lines text) (onto_first b (lines text))) ≤ length text + 2
    by_test true feed e =
        let a = own_feed b feed in
        omega (arith, a, e)
    by_test false plain e = owns-onto_first b (length text) (lines text) e

    le_by : (n m : ℕ) → m ≤ n + 2 → m ≤ suc n + 1
    le_by n m h = omega (arith, h)

pub total-lines : (text : List ℕ) → total (lines text) ≤ length text + 1
total-lines text = let a = total_owns (lines text) in let b = owns-lines text in omega (arith, a, b)

length-onto_first : (b n : ℕ) (ls : List (List ℕ)) → length ls ≤ n → length (onto_first b ls) ≤ n + 1
length-onto_first b n [] e = omega arith
length-onto_first b n (l ∷ ls) e = omega (arith, e)

pub length-lines : (text : List ℕ) → length (lines text) ≤ length text
length-lines [] = omega arith
length-lines (b ∷ text) = le_by (length text) _ (by_test (eqb b 10) (length-lines text))
  where
    by_test : (t : Bool) → length (lines text) ≤ length text → length (cond t ((b ∷ []) ∷ lines text) (onto_first b (lines text))) ≤ length text + 1
    by_test true e = omega (arith, e)
    by_test false e = length-onto_first b (length text) (lines text) e

    le_by : (n m : ℕ) → m ≤ n + 1 → m ≤ suc n
    le_by n m h = omega (arith, h)

-- ---- steps

-- the statements read so far, with the one that is open
abbrev pub count : Part → ℕ
count p = length p.statements + length (closed p.place)

length-closed_with : (x : Place) (l : AtLine) → length (closed (place_with x l)) ≡ length (closed x)
length-closed_with Start l = refl
length-closed_with Vertices l = refl
length-closed_with Arrows l = refl
length-closed_with Relations l = refl
length-closed_with Body l = refl
length-closed_with (Block s) l = refl

abbrev extra : Line → ℕ
extra (line.Statement k) = 1
extra other = 0

count_statement : (p : Part) (s : Statement) (b : Bool) → count (cond b (record p { place = Block s }) (record p { statements = p.statements ++ s ∷ [] })) ≤ count p + 1
count_statement p s true = omega arith
count_statement p s false = let e = length-append p.statements (s ∷ []) in omega (arith, e)

count_after : (p : Part) (l : Line) → count (after p l) ≤ count p + extra l
count_after p (line.Field f) = omega arith
count_after p (line.Vertex n) = omega arith
count_after p (line.Arrow n v w) = omega arith
count_after p (line.Bound t) = omega arith
count_after p (line.Relation r) = omega arith
count_after p line.Basis = omega arith
count_after p (line.Statement k) = count_statement p (record { line = p.lines; kind = k }) (opens k)
count_after p (line.At l) = let e = length-closed_with p.place l in omega (arith, e)
count_after p line.End = let e = length-append p.statements (closed p.place) in omega (arith, e)

-- a statement has eight bytes with the line feed, since no token is empty
long_size : (word : List ℕ) (args : List (List ℕ)) → All (λ t. 0 < length t) (word ∷ args) → IsLong word args → 8 ≤ size (word ∷ args)
long_size word [] some long = let l = long.1 in absurd (omega (arith, l))
long_size word (a ∷ []) some long = let l = long.1 in absurd (omega (arith, l))
long_size word (a ∷ b ∷ more) some long =
    let i : 0 < length a = some 1 [] (omega arith) in
    let j : 0 < length b = some 2 [] (omega arith) in
    let l = long.0 in
    omega (arith, i, j, l)

if_some : {X : Type 0} (r : Option X) (x : X) (P : X → Type 0) → r ≡ Some x → IfSome r P → P x
if_some r x P is h = subst (λ o. IfSome o P) is h

extra_size : (h : Header) (word : List ℕ) (args : List (List ℕ)) (l : Line) → All (λ t. 0 < length t) (word ∷ args) → IsLine (IsWritten h.field word args) h.field l → 8 * extra l ≤ size (word ∷ args)
extra_size h word args (line.Statement k) some is = long_size word args some is.1
extra_size h word args (line.Field f) some is = omega arith
extra_size h word args (line.Vertex n) some is = omega arith
extra_size h word args (line.Arrow n v w) some is = omega arith
extra_size h word args (line.Bound t) some is = omega arith
extra_size h word args (line.Relation r) some is = omega arith
extra_size h word args line.Basis some is = omega arith
extra_size h word args (line.At l) some is = omega arith
extra_size h word args line.End some is = omega arith

count_tokens : (p q : Part) (ts : List (List ℕ)) → All (λ t. 0 < length t) ts → TokenStep p ts q → 8 * count q ≤ 8 * count p + size ts
count_tokens p q [] some step = let e = ap count step in omega (arith, e)
count_tokens p q (word ∷ args) some step =
    let e = ap count step.leads in
    let a = count_after (counted p) step.line in
    let b = extra_size p.header word args step.line some (if_some (line_in p.header word args) step.line _ step.reads (line_fits p.header word args)) in
    omega (arith, e, a, b)

count_step : (p q : Part) (l : List ℕ) → Step p l q → 8 * count q ≤ 8 * count p + (length (script_bytes l) + 1)
count_step p q l step =
    let are = tokens_in l step.tokens step.lexed in
    let a = count_tokens p q step.tokens are.some step.step in
    let b = are.fit in
    omega (arith, a, b)

pub count_reads : (p q : Part) (ls : List (List ℕ)) → Reads Step p ls q → 8 * count q ≤ 8 * count p + total ls
count_reads p q [] reads = let e = ap count reads in omega (arith, e)
count_reads p q (l ∷ ls) reads =
    let a = count_step p reads.0 l reads.1 in
    let b = count_reads reads.0 q ls reads.2 in
    omega (arith, a, b)
