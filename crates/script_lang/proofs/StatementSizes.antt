-- How long the lines of statements are.
use Rattle.std.proofs.Common.{◌≡◌, ℕ, ◌≤◌, List, [], ◌∷◌, length, cond, true, Some, None, codes, ap, arith}
use Rattle.std.specs.Prelude.{IfSome}
use Rattle.std.specs.declared.option.Option.{Option}
use Rattle.std.proofs.lemmas.Slice.Eq.{bytes_eq-Decides}
use Rattle.script_types.specs.declared.StatementKind.{StatementKind}
use Rattle.script_lang.specs.Tokens.{is_word, name_in}
use Rattle.script_lang.specs.Statements.{NameReference, unary_in, unary_from, plain_in, rep_kind, rep_in}
use Rattle.script_lang.proofs.TokenRanges.{either_way}

-- a statement takes a word of three bytes and two more tokens
abbrev pub IsLong : List ℕ → List (List ℕ) → Type 0
IsLong word args = (3 ≤ length word) × (2 ≤ length args)

constant : {X : Type 0} (r : Option X) (P : Type 0) → P → IfSome r (λ _. P)
constant None P p = tt
constant (Some x) P p = p

word_length : (word known : List ℕ) → is_word word known ≡ true → length word ≡ length known
word_length word known h = ap length ((bytes_eq-Decides word known).0 h)

-- a test for a word of three bytes or more
step_word : (word known : List ℕ) (args : List (List ℕ)) (r s : Option StatementKind) → 3 ≤ length known → 2 ≤ length args
    → IfSome s (λ _. IsLong word args) → IfSome (cond (is_word word known) r s) (λ _. IsLong word args)
step_word word known args r s long two rest = either_way (is_word word known) (λ _. IsLong word args) r s
    (λ h. let e = word_length word known h in constant r (IsLong word args) (omega (arith, e), two)) (λ _. rest)

unary_long : (word : List ℕ) (args : List (List ℕ)) (r : Option NameReference) → 2 ≤ length args → IfSome (unary_from word r) (λ _. IsLong word args)
unary_long word args None two = tt
unary_long word args (Some x) two =
    step_word word (codes "kernel") args _ _ (omega arith) two
    (step_word word (codes "cokernel") args _ _ (omega arith) two
    (step_word word (codes "radical") args _ _ (omega arith) two
    (step_word word (codes "dual") args _ _ (omega arith) two
    (step_word word (codes "transpose") args _ _ (omega arith) two
    (step_word word (codes "tau") args _ _ (omega arith) two
    (step_word word (codes "taui") args _ _ (omega arith) two tt))))))

skip_word : {X : Type 0} (word known : List ℕ) (P : X → Type 0) (s : Option X) → IfSome s P → IfSome (cond (is_word word known) None s) P
skip_word word known P s rest = either_way (is_word word known) P None s (λ _. tt) (λ _. rest)

-- with fewer than two arguments no statement is read
none_long : (word : List ℕ) (args : List (List ℕ)) (P : StatementKind → Type 0) → IfSome (plain_in word []) P
none_long word args P =
    skip_word word (codes "std") P _ (skip_word word (codes "sum") P _ (skip_word word (codes "map") P _ (skip_word word (codes "hom") P _
    (skip_word word (codes "resolve") P _ (skip_word word (codes "ext") P _ (skip_word word (codes "decompose") P _ (skip_word word (codes "ars") P _ tt)))))))

one_long : (word a : List ℕ) (P : StatementKind → Type 0) → IfSome (plain_in word (a ∷ [])) P
one_long word a P =
    skip_word word (codes "std") P _ (skip_word word (codes "sum") P _ (skip_word word (codes "map") P _ (skip_word word (codes "hom") P _
    (skip_word word (codes "resolve") P _ (skip_word word (codes "ext") P _ (skip_word word (codes "decompose") P _ (skip_word word (codes "ars") P _ tt)))))))

pub plain_long : (word : List ℕ) (args : List (List ℕ)) → IfSome (plain_in word args) (λ _. IsLong word args)
plain_long word [] = none_long word [] (λ _. IsLong word [])
plain_long word (a ∷ []) = one_long word a (λ _. IsLong word (a ∷ []))
plain_long word (a ∷ b ∷ more) =
    let args = a ∷ b ∷ more in
    let two : 2 ≤ length args = omega arith in
    step_word word (codes "std") args _ _ (omega arith) two
    (step_word word (codes "sum") args _ _ (omega arith) two
    (step_word word (codes "map") args _ _ (omega arith) two
    (step_word word (codes "hom") args _ _ (omega arith) two
    (step_word word (codes "resolve") args _ _ (omega arith) two
    (step_word word (codes "ext") args _ _ (omega arith) two
    (step_word word (codes "decompose") args _ _ (omega arith) two
    (step_word word (codes "ars") args _ _ (omega arith) two
    (unary_long word args (unary_in args) two))))))))

rep_none : (r : Option (List ℕ)) (P : StatementKind → Type 0) → IfSome (rep_kind r (Some [])) P
rep_none None P = tt
rep_none (Some n) P = tt

pub rep_long : (word : List ℕ) (args : List (List ℕ)) → is_word word (codes "rep") ≡ true → IfSome (rep_in args) (λ _. IsLong word args)
rep_long word [] h = tt
rep_long word (n ∷ []) h = rep_none (name_in n) (λ _. IsLong word (n ∷ []))
rep_long word (n ∷ d ∷ more) h = let e = word_length word (codes "rep") h in constant (rep_in (n ∷ d ∷ more)) (IsLong word (n ∷ d ∷ more)) (omega (arith, e), omega arith)
