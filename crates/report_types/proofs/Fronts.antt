-- What the first records of a report say of modules, maps and claims, more records say too.
use Rattle.std.proofs.Common.{ℕ, zero, suc, ◌≡◌, ◌<◌, ◌≤◌, List, [], ◌∷◌, ◌++◌, length, Some, None, refl, sym, ap, ◌∙◌, arith}
use Rattle.std.specs.Prelude.{All, take, drop, map, slice_get}
use Rattle.std.proofs.lemmas.List.{get_or_append_left, take-append-drop, take-take, append_assoc, length-take}
use Rattle.std.proofs.lemmas.List.Elements.{All-nil, All-cons, All-head, All-tail, All-append}
use Rattle.path_algebra.specs.Derivations.{IsNumber}
use Rattle.module_types.specs.declared.Module.{Module}
use Rattle.module_types.specs.declared.Map.{Map}
use Rattle.report_types.specs.declared.claims.Record.{Record}
use Rattle.report_types.specs.Numbers.{modules_of, maps_of, numbered, no_module, no_map, module_of, map_of, record_of, claim_in, claim_of, NamesModule, NamesMap, NamesClaim}

pub modules_append : (r s : List Record) → modules_of (r ++ s) ≡ modules_of r ++ modules_of s
modules_append [] s = refl
modules_append (x ∷ r) s = ap (λ ms. x.modules ++ ms) (modules_append r s) ∙ sym (append_assoc x.modules (modules_of r) (modules_of s))

pub maps_append : (r s : List Record) → maps_of (r ++ s) ≡ maps_of r ++ maps_of s
maps_append [] s = refl
maps_append (x ∷ r) s = ap (λ ms. x.maps ++ ms) (maps_append r s) ∙ sym (append_assoc x.maps (maps_of r) (maps_of s))

numbered-append : {X : Type 0} (d : X) (xs ys : List X) (n : ℕ) → IsNumber (length xs) n → numbered d (xs ++ ys) n ≡ numbered d xs n
numbered-append d xs ys zero is = absurd (let l = is.from in omega (arith, l))
numbered-append d xs ys (suc i) is = get_or_append_left xs ys d i (let l = is.to in omega (arith, l))

pub numbered_all : {X : Type 0} (P : X → Type 0) (d : X) (xs : List X) (n : ℕ) → IsNumber (length xs) n → All P xs → P (numbered d xs n)
numbered_all P d xs zero is a = absurd (let l = is.from in omega (arith, l))
numbered_all P d xs (suc i) is a = a i d (let l = is.to in omega (arith, l))

pub module_append : (rs more : List Record) (n : ℕ) → NamesModule rs n → module_of (rs ++ more) n ≡ module_of rs n
module_append rs more n is = ap (λ ms. numbered no_module ms n) (modules_append rs more) ∙ numbered-append no_module (modules_of rs) (modules_of more) n is

pub map_append : (rs more : List Record) (n : ℕ) → NamesMap rs n → map_of (rs ++ more) n ≡ map_of rs n
map_append rs more n is = ap (λ ms. numbered no_map ms n) (maps_append rs more) ∙ numbered-append no_map (maps_of rs) (maps_of more) n is

-- of the first j records, and of the first k
front_splits : (j k : ℕ) (rs : List Record) → j ≤ k → take k rs ≡ take j rs ++ drop j (take k rs)
front_splits j k rs l = sym (take-append-drop j (take k rs)) ∙ ap (λ x. x ++ drop j (take k rs)) (take-take j k rs l)

pub same_module : (j k : ℕ) (rs : List Record) (n : ℕ) → j ≤ k → NamesModule (take j rs) n → module_of (take j rs) n ≡ module_of (take k rs) n
same_module j k rs n l is = sym (ap (λ x. module_of x n) (front_splits j k rs l) ∙ module_append (take j rs) (drop j (take k rs)) n is)

get-front : {X : Type 0} (k : ℕ) (xs : List X) (i : ℕ) → i < k → slice_get (take k xs) i ≡ slice_get xs i
get-front zero xs i l = absurd (omega (arith, l))
get-front (suc k) [] i l = refl
get-front (suc k) (x ∷ xs) zero l = refl
get-front (suc k) (x ∷ xs) (suc i) l = get-front k xs i (omega (arith, l))

pub record_front : (k c : ℕ) (rs : List Record) → c ≤ k → record_of (take k rs) c ≡ record_of rs c
record_front k zero rs l = refl
record_front k (suc i) rs l = get-front k rs i (omega (arith, l))

pub get_there : {X : Type 0} (xs : List X) (i : ℕ) → i < length xs → (x : X) × (slice_get xs i ≡ Some x)
get_there [] i l = absurd (omega (arith, l))
get_there (x ∷ xs) zero l = (x, refl)
get_there (x ∷ xs) (suc i) l = get_there xs i (omega (arith, l))

pub record_there : (rs : List Record) (c : ℕ) → NamesClaim rs c → (r : Record) × (record_of rs c ≡ Some r)
record_there rs zero n = absurd (let l = n.from in omega (arith, l))
record_there rs (suc i) n = get_there rs i (let l = n.earlier in omega (arith, l))

pub named_below : (k c : ℕ) (rs : List Record) → NamesClaim (take k rs) c → c < k
named_below k c rs n = let l = n.earlier in let e = length-take k rs in omega (arith, l, e)

-- what holds of the objects of each record
pub all_modules : (P : Module → Type 0) (rs : List Record) → ((i : ℕ) (r : Record) → slice_get rs i ≡ Some r → All P r.modules) → All P (modules_of rs)
all_modules P [] f = All-nil P
all_modules P (r ∷ rest) f = All-append P r.modules (modules_of rest) (f zero r refl) (all_modules P rest (λ i s e. f (suc i) s e))

pub all_maps : (P : Map → Type 0) (rs : List Record) → ((i : ℕ) (r : Record) → slice_get rs i ≡ Some r → All P r.maps) → All P (maps_of rs)
all_maps P [] f = All-nil P
all_maps P (r ∷ rest) f = All-append P r.maps (maps_of rest) (f zero r refl) (all_maps P rest (λ i s e. f (suc i) s e))

pub get_below : {X : Type 0} (xs : List X) (i : ℕ) (x : X) → slice_get xs i ≡ Some x → i < length xs
get_below [] i x e = absurd (none_some x e)
  where
    none_some : {X : Type 0} (x : X) → None ≡ Some x → ⊥
    none_some x same = cc
get_below (y ∷ xs) zero x e = omega arith
get_below (y ∷ xs) (suc i) x e = let l = get_below xs i x e in omega (arith, l)

pub front_record : (k : ℕ) (rs : List Record) (i : ℕ) (r : Record) → slice_get (take k rs) i ≡ Some r → (suc i ≤ k) × (record_of rs (suc i) ≡ Some r)
front_record k rs i r e =
    let l = get_below (take k rs) i r e in
    let n = length-take k rs in
    let b : suc i ≤ k = omega (arith, l, n) in
    (b, sym (get-front k rs i b) ∙ e)

pub all_map : {X Y : Type 0} (P : Y → Type 0) (f : X → Y) (xs : List X) → All (λ (x : X). P (f x)) xs → All P (map f xs)
all_map P f [] a = All-nil P
all_map P f (x ∷ xs) a = All-cons P (f x) (map f xs) (All-head (λ x. P (f x)) x xs a) (all_map P f xs (All-tail (λ x. P (f x)) x xs a))

pub all_of_map : {X Y : Type 0} (P : Y → Type 0) (f : X → Y) (xs : List X) → All P (map f xs) → All (λ (x : X). P (f x)) xs
all_of_map P f [] a = All-nil (λ x. P (f x))
all_of_map P f (x ∷ xs) a = All-cons (λ x. P (f x)) x xs (All-head P (f x) (map f xs) a) (all_of_map P f xs (All-tail P (f x) (map f xs) a))

-- in the whole report
pub module_in_whole : (k : ℕ) (rs : List Record) (n : ℕ) → NamesModule (take k rs) n → module_of (take k rs) n ≡ module_of rs n
module_in_whole k rs n is = sym (module_append (take k rs) (drop k rs) n is) ∙ ap (λ x. module_of x n) (take-append-drop k rs)

pub map_in_whole : (k : ℕ) (rs : List Record) (n : ℕ) → NamesMap (take k rs) n → map_of (take k rs) n ≡ map_of rs n
map_in_whole k rs n is = sym (map_append (take k rs) (drop k rs) n is) ∙ ap (λ x. map_of x n) (take-append-drop k rs)

pub claim_in_whole : (k : ℕ) (rs : List Record) (n : ℕ) → NamesClaim (take k rs) n → claim_of (take k rs) n ≡ claim_of rs n
claim_in_whole k rs n is = ap claim_in (record_front k n rs (let l = named_below k n rs is in omega (arith, l)))
