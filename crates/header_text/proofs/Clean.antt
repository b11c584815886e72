-- Bytes that names, numerals and spellings lack.
use Rattle.std.proofs.Common.{◌≡◌, ℕ, ◌<◌, ◌≤◌, ◌^◌, Bool, true, false, List, [], ◌∷◌, ◌++◌, map, length, get_or, cond, eqb, decimal, inl, inr, refl, sym, ap, ◌∙◌, subst, arith, lit≤}
use Rattle.std.specs.Prelude.{All}
use Rattle.std.specs.List.{list_all}
use Rattle.std.specs.Str.Parse.{AllDigits}
use Rattle.std.specs.Char.{digit_value}
use Rattle.std.proofs.lemmas.Bool.{eqb-true, false_from_ne_true, cases_lt}
use Rattle.std.proofs.lemmas.List.Sums.{AllPass-from_list_all}
use Rattle.std.proofs.lemmas.List.Elements.{All-nil, All-cons, All-head, All-tail, All-append, All-weaker, All-get_or, All-map}
use Rattle.quiver_paths.specs.declared.Arrow.{Arrow}
use Rattle.quiver_paths.specs.declared.Quiver.{Quiver}
use Rattle.quiver_paths.specs.Name.{IsName, is_name_byte}
use Rattle.path_algebra.specs.Allowed.{IsArrowName}
use Rattle.text_lines.specs.Parts.{joined, Lacks}
use Rattle.text_lines.proofs.Cutting.{eqb_same}
use Rattle.text_lines.proofs.Digits.{decimal_is_written}
use Rattle.header_text.specs.Spelling.{vertex_name, arrow_name, path_text_from, coefficient_text, plus_each, plus_between}
use Rattle.header_text.specs.Named.{IsNamed}
use Rattle.header_text.proofs.Names.{vertex_name-within, vertex_name-past, arrow_name-within, arrow_name-past}

name_byte_differs : (c b : ℕ) → is_name_byte c ≡ false → is_name_byte b ≡ true → eqb b c ≡ true → true ≡ false
name_byte_differs c b no_name name same = sym name ∙ (ap is_name_byte (eqb-true b c same) ∙ no_name)

bool_clash : true ≡ false → ⊥
bool_clash e = cc

pub name_lacks : (c : ℕ) → is_name_byte c ≡ false → (text : List ℕ) → IsName text → Lacks c text
name_lacks c h text name =
    All-weaker (λ b. is_name_byte b ≡ true) (λ b. eqb b c ≡ false) (λ b e. false_from_ne_true (eqb b c) (λ s. bool_clash (name_byte_differs c b h e s))) text name.spelled

digits_lack : (c : ℕ) → 10 ≤ digit_value c → (ds : List ℕ) → AllDigits 10 ds → Lacks c ds
digits_lack c h [] all = All-nil (λ b. eqb b c ≡ false)
digits_lack c h (d ∷ ds) all =
    All-cons (λ b. eqb b c ≡ false) d ds (false_from_ne_true (eqb d c) (λ e. let same = ap digit_value (eqb-true d c e) in let low = all.0 in omega arith)) (digits_lack c h ds all.1)

pub decimal_lacks : (c : ℕ) → 10 ≤ digit_value c → (n : ℕ) → n < 2 ^ 64 → Lacks c (decimal n)
decimal_lacks c h n fits = digits_lack c h (decimal n) (decimal_is_written n fits).digits

lacks_nil : (c : ℕ) → Lacks c []
lacks_nil c = All-nil (λ b. eqb b c ≡ false)

pub lacks_cons : (c b : ℕ) (bytes : List ℕ) → eqb b c ≡ false → Lacks c bytes → Lacks c (b ∷ bytes)
lacks_cons c b bytes e all = All-cons (λ x. eqb x c ≡ false) b bytes e all

pub lacks_append : (c : ℕ) (xs ys : List ℕ) → Lacks c xs → Lacks c ys → Lacks c (xs ++ ys)
lacks_append c xs ys a b = All-append (λ x. eqb x c ≡ false) xs ys a b

lacks_head : (c b : ℕ) (bytes : List ℕ) → Lacks c (b ∷ bytes) → eqb b c ≡ false
lacks_head c b bytes all = All-head (λ x. eqb x c ≡ false) b bytes all

lacks_tail : (c b : ℕ) (bytes : List ℕ) → Lacks c (b ∷ bytes) → Lacks c bytes
lacks_tail c b bytes all = All-tail (λ x. eqb x c ≡ false) b bytes all

-- what lacks a byte does not have it
pub not_lacks : (c : ℕ) (xs ys : List ℕ) → Lacks c (xs ++ c ∷ ys) → ⊥
not_lacks c [] ys all = bool_clash (sym (eqb_same c) ∙ lacks_head c c ys all)
not_lacks c (x ∷ xs) ys all = not_lacks c xs ys (lacks_tail c x (xs ++ c ∷ ys) all)

cons_parts : (x y : ℕ) (xs ys : List ℕ) → x ∷ xs ≡ y ∷ ys → (x ≡ y) × (xs ≡ ys)
cons_parts x y xs ys e = (cc, cc)

-- there is one cut at a byte that the front lacks
pub one_cut : (c : ℕ) (xs us ys vs : List ℕ) → Lacks c xs → Lacks c us → xs ++ c ∷ ys ≡ us ++ c ∷ vs → (xs ≡ us) × (ys ≡ vs)
one_cut c [] [] ys vs a b e = (refl, (cons_parts c c ys vs e).1)
one_cut c [] (u ∷ us) ys vs a b e =
    absurd (bool_clash (sym (eqb_same c) ∙ subst (λ z. eqb z c ≡ false) (sym (cons_parts c u ys (us ++ c ∷ vs) e).0) (lacks_head c u us b)))
one_cut c (x ∷ xs) [] ys vs a b e =
    absurd (bool_clash (sym (eqb_same c) ∙ subst (λ z. eqb z c ≡ false) (cons_parts x c (xs ++ c ∷ ys) vs e).0 (lacks_head c x xs a)))
one_cut c (x ∷ xs) (u ∷ us) ys vs a b e =
    let both = cons_parts x u (xs ++ c ∷ ys) (us ++ c ∷ vs) e in
    let rest = one_cut c xs us ys vs (lacks_tail c x xs a) (lacks_tail c u us b) both.1 in
    (let h = both.0 in let t = rest.0 in cc, rest.1)

pub joined_lacks : (c j : ℕ) → eqb j c ≡ false → (pieces : List (List ℕ)) → All (Lacks c) pieces → Lacks c (joined j pieces)
joined_lacks c j h [] all = lacks_nil c
joined_lacks c j h (x ∷ []) all = All-head (Lacks c) x [] all
joined_lacks c j h (x ∷ y ∷ xs) all =
    lacks_append c x (j ∷ joined j (y ∷ xs)) (All-head (Lacks c) x (y ∷ xs) all)
    (lacks_cons c j (joined j (y ∷ xs)) h (joined_lacks c j h (y ∷ xs) (All-tail (Lacks c) x (y ∷ xs) all)))

plus_each_lacks : (c : ℕ) → eqb 43 c ≡ false → (pieces : List (List ℕ)) → All (Lacks c) pieces → All (Lacks c) (plus_each pieces)
plus_each_lacks c h [] all = All-nil (Lacks c)
plus_each_lacks c h (t ∷ ts) all =
    All-cons (Lacks c) (43 ∷ []) (t ∷ plus_each ts) (lacks_cons c 43 [] h (lacks_nil c))
    (All-cons (Lacks c) t (plus_each ts) (All-head (Lacks c) t ts all) (plus_each_lacks c h ts (All-tail (Lacks c) t ts all)))

pub plus_between_lacks : (c : ℕ) → eqb 43 c ≡ false → (pieces : List (List ℕ)) → All (Lacks c) pieces → All (Lacks c) (plus_between pieces)
plus_between_lacks c h [] all = All-nil (Lacks c)
plus_between_lacks c h (t ∷ ts) all = All-cons (Lacks c) t (plus_each ts) (All-head (Lacks c) t ts all) (plus_each_lacks c h ts (All-tail (Lacks c) t ts all))

pub vertex_name_lacks : (c : ℕ) → is_name_byte c ≡ false → (Q : Quiver) → IsNamed Q → (v : ℕ) → Lacks c (vertex_name Q v)
vertex_name_lacks c h Q named v =
    elim (cases_lt v (length Q.vertices)) [
      | inl inside ↦ subst (Lacks c) (sym (vertex_name-within Q v [] inside)) (name_lacks c h _ (All-get_or IsName Q.vertices v [] inside named.vertex_names))
      | inr past ↦ subst (Lacks c) (sym (vertex_name-past Q v past)) (lacks_nil c)
    ]

pub no_arrow : Arrow
no_arrow = record { name = []; from = 0; to = 0 }

pub arrow_name_lacks : (c : ℕ) → is_name_byte c ≡ false → (Q : Quiver) → IsNamed Q → (a : ℕ) → Lacks c (arrow_name Q a)
arrow_name_lacks c h Q named a =
    elim (cases_lt a (length Q.arrows)) [
      | inl inside ↦ subst (Lacks c) (sym (arrow_name-within Q a no_arrow inside)) (name_lacks c h _ (All-get_or (λ (x : Arrow). IsArrowName x.name) Q.arrows a no_arrow inside named.arrow_names).name)
      | inr past ↦ subst (Lacks c) (sym (arrow_name-past Q a past)) (lacks_nil c)
    ]

pub arrow_names_lack : (c : ℕ) → is_name_byte c ≡ false → (Q : Quiver) → IsNamed Q → (arrows : List ℕ) → All (Lacks c) (map (arrow_name Q) arrows)
arrow_names_lack c h Q named arrows = All-map (Lacks c) (arrow_name Q) arrows (λ k d l. arrow_name_lacks c h Q named (get_or arrows k d))

pub path_lacks : (c : ℕ) → is_name_byte c ≡ false → eqb 46 c ≡ false → eqb 64 c ≡ false → (Q : Quiver) → IsNamed Q → (v : ℕ) (arrows : List ℕ) → Lacks c (path_text_from Q v arrows)
unfolding path_text_from
path_lacks c h dot at Q named v [] = lacks_cons c 64 (vertex_name Q v) at (vertex_name_lacks c h Q named v)
path_lacks c h dot at Q named v (a ∷ arrows) = joined_lacks c 46 dot (map (arrow_name Q) (a ∷ arrows)) (arrow_names_lack c h Q named (a ∷ arrows))

-- a byte that stands in no token
pub record IsOutside (c : ℕ) : Type 0 where
  pub name : is_name_byte c ≡ false
  pub digit : 10 ≤ digit_value c
  pub dot : eqb 46 c ≡ false
  pub at_sign : eqb 64 c ≡ false
  pub star : eqb 42 c ≡ false
  pub plus : eqb 43 c ≡ false

pub space_outside : IsOutside 32
space_outside = record { name = refl; digit = lit≤ tt; dot = refl; at_sign = refl; star = refl; plus = refl }

pub feed_outside : IsOutside 10
feed_outside = record { name = refl; digit = lit≤ tt; dot = refl; at_sign = refl; star = refl; plus = refl }

coefficient_lacks_by : (c : ℕ) → eqb 42 c ≡ false → (n : ℕ) → Lacks c (decimal n) → (b : Bool) → Lacks c (cond b [] (decimal n ++ 42 ∷ []))
coefficient_lacks_by c star n h true = lacks_nil c
coefficient_lacks_by c star n h false = lacks_append c (decimal n) (42 ∷ []) h (lacks_cons c 42 [] star (lacks_nil c))

pub coefficient_lacks : (c : ℕ) → IsOutside c → (n : ℕ) → n < 2 ^ 64 → Lacks c (coefficient_text n)
coefficient_lacks c out n h = coefficient_lacks_by c out.star n (decimal_lacks c out.digit n h) (eqb n 1)

test_false : (t : Bool) → cond t false true ≡ true → t ≡ false
test_false true e = sym e
test_false false e = refl

-- a test of each byte
pub lacks_by_test : (c : ℕ) (bytes : List ℕ) → list_all (λ b. cond (eqb b c) false true) bytes ≡ true → Lacks c bytes
lacks_by_test c bytes e =
    All-weaker (λ b. cond (eqb b c) false true ≡ true) (λ b. eqb b c ≡ false) (λ b. test_false (eqb b c)) bytes (AllPass-from_list_all (λ b. cond (eqb b c) false true) bytes e)
