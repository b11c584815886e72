-- Objects and records by their numbers, where records are added one by one.
use Rattle.std.proofs.Common.{◌≡◌, ℕ, zero, suc, ◌+◌, ◌<◌, ◌≤◌, List, [], ◌∷◌, ◌++◌, length, Some, None, inl, inr, refl, sym, ap, ◌∙◌, subst, arith, append_assoc, append-nil}
use Rattle.std.specs.Prelude.{take, slice_get}
use Rattle.std.proofs.lemmas.Bool.{cases_lt}
use Rattle.std.proofs.lemmas.List.{length-append, take-append-le}
use Rattle.std.proofs.Math.Seq.{take-length}
use Rattle.quiver_paths.proofs.ListLemmas.{length-pushed}
use Rattle.path_algebra.specs.declared.Header.{Header}
use Rattle.path_algebra.specs.Derivations.{IsNumber}
use Rattle.bound_algebra.specs.TypedPaths.{quiver_of}
use Rattle.module_types.specs.declared.Map.{Map}
use Rattle.module_types.specs.Shapes.{IsMap}
use Rattle.report_types.specs.declared.claims.Record.{Record}
use Rattle.report_types.specs.Numbers.{modules_of, maps_of, numbered, no_module, record_of, claim_in, claim_of}
use Rattle.report_types.specs.Lawful.{IsMapBlock, IsRecord, MayBeRecord}

pub modules_push : (rs : List Record) (r : Record) → modules_of (rs ++ r ∷ []) ≡ modules_of rs ++ r.modules
modules_push [] r = append-nil r.modules
modules_push (x ∷ rs) r = ap (λ ms. x.modules ++ ms) (modules_push rs r) ∙ sym (append_assoc x.modules (modules_of rs) r.modules)

pub maps_push : (rs : List Record) (r : Record) → maps_of (rs ++ r ∷ []) ≡ maps_of rs ++ r.maps
maps_push [] r = append-nil r.maps
maps_push (x ∷ rs) r = ap (λ fs. x.maps ++ fs) (maps_push rs r) ∙ sym (append_assoc x.maps (maps_of rs) r.maps)

pub modules_count : (rs : List Record) (r : Record) → length (modules_of (rs ++ r ∷ [])) ≡ length (modules_of rs) + length r.modules
modules_count rs r = ap length (modules_push rs r) ∙ length-append (modules_of rs) r.modules

pub maps_count : (rs : List Record) (r : Record) → length (maps_of (rs ++ r ∷ [])) ≡ length (maps_of rs) + length r.maps
maps_count rs r = ap length (maps_push rs r) ∙ length-append (maps_of rs) r.maps

-- records with the same modules
pub map_block_same : (h : Header) (rs ss : List Record) (f : Map) → modules_of rs ≡ modules_of ss → IsMapBlock h rs f → IsMapBlock h ss f
map_block_same h rs ss f e is = record {
  source = subst (λ ms. IsNumber (length ms) f.source) e is.source;
  target = subst (λ ms. IsNumber (length ms) f.target) e is.target;
  matrices = subst (λ ms. IsMap h.field (quiver_of h.quiver) (numbered no_module ms f.source) (numbered no_module ms f.target) f.matrices) e is.matrices;
}

pub same_modules : (rs : List Record) (r s : Record) → r.modules ≡ s.modules → modules_of (rs ++ r ∷ []) ≡ modules_of (rs ++ s ∷ [])
same_modules rs r s e = modules_push rs r ∙ (ap (λ ms. modules_of rs ++ ms) e ∙ sym (modules_push rs s))

pub same_maps : (rs : List Record) (r s : Record) → r.maps ≡ s.maps → maps_of (rs ++ r ∷ []) ≡ maps_of (rs ++ s ∷ [])
same_maps rs r s e = maps_push rs r ∙ (ap (λ ms. maps_of rs ++ ms) e ∙ sym (maps_push rs s))

pub get-left : {X : Type 0} (xs ys : List X) (i : ℕ) → i < length xs → slice_get (xs ++ ys) i ≡ slice_get xs i
get-left [] ys i l = absurd (omega (arith, l))
get-left (x ∷ xs) ys zero l = refl
get-left (x ∷ xs) ys (suc i) l = get-left xs ys i (omega (arith, l))

pub get-last : {X : Type 0} (xs : List X) (x : X) (ys : List X) → slice_get (xs ++ x ∷ ys) (length xs) ≡ Some x
get-last [] x ys = refl
get-last (y ∷ xs) x ys = get-last xs x ys

pub get-past : {X : Type 0} (xs : List X) (i : ℕ) → length xs ≤ i → slice_get xs i ≡ None
get-past [] i l = refl
get-past (x ∷ xs) zero l = absurd (omega (arith, l))
get-past (x ∷ xs) (suc i) l = get-past xs i (omega (arith, l))

-- an earlier claim
pub claim_earlier : (rs : List Record) (r : Record) (n : ℕ) → n ≤ length rs → claim_of (rs ++ r ∷ []) n ≡ claim_of rs n
claim_earlier rs r zero l = refl
claim_earlier rs r (suc i) l = ap claim_in (get-left rs (r ∷ []) i (omega (arith, l)))

-- one record more
pub each_push : (h : Header) (rs : List Record) (r : Record) → ((k : ℕ) → MayBeRecord h (take k rs) (record_of rs k)) → IsRecord h (rs ++ r ∷ []) r
    → (k : ℕ) → MayBeRecord h (take k (rs ++ r ∷ [])) (record_of (rs ++ r ∷ []) k)
each_push h rs r each is zero = tt
each_push h rs r each is (suc i) =
    let all = rs ++ r ∷ [] in
    let long : length all ≡ length rs + 1 = length-pushed rs all r refl in
    elim (cases_lt i (length rs)) [
      | inl inside ↦
          subst (λ o. MayBeRecord h (take (suc i) all) o) (sym (get-left rs (r ∷ []) i inside))
          (subst (λ l. MayBeRecord h l (slice_get rs i)) (sym (take-append-le (suc i) rs (r ∷ []) (omega (arith, inside)))) (each (suc i)))
      | inr past ↦ elim (cases_lt (length rs) i) [
        | inl beyond ↦ subst (λ o. MayBeRecord h (take (suc i) all) o) (sym (get-past all i (omega (arith, beyond, long)))) tt
        | inr not_beyond ↦
            let e : length rs ≡ i = omega (arith, past, not_beyond) in
            let n : length all ≡ suc i = omega (arith, e, long) in
            subst (λ o. MayBeRecord h (take (suc i) all) o) (sym (ap (slice_get all) (sym e) ∙ get-last rs r []))
            (subst (λ l. IsRecord h l r) (sym (ap (λ m. take m all) (sym n) ∙ take-length all)) is)
      ]
    ]

-- the record behind some of a report
pub record_behind : (h : Header) (done : List Record) (r : Record) (rest : List Record) → ((k : ℕ) → MayBeRecord h (take k (done ++ r ∷ rest)) (record_of (done ++ r ∷ rest) k)) → IsRecord h (done ++ r ∷ []) r
record_behind h done r rest each =
    let all = done ++ r ∷ rest in
    let long : length (done ++ r ∷ []) ≡ length done + 1 = length-pushed done (done ++ r ∷ []) r refl in
    let front : take (suc (length done)) all ≡ done ++ r ∷ [] =
    ap (take (suc (length done))) (sym (append_assoc done (r ∷ []) rest))
    ∙ (take-append-le (suc (length done)) (done ++ r ∷ []) rest (omega (arith, long))
    ∙ (ap (λ n. take n (done ++ r ∷ [])) (let m : suc (length done) ≡ length (done ++ r ∷ []) = omega (arith, long) in m) ∙ take-length (done ++ r ∷ []))) in
    subst (λ l. IsRecord h l r) front (subst (λ o. MayBeRecord h (take (suc (length done)) all) o) (get-last done r rest) (each (suc (length done))))

pub modules_append : (xs ys : List Record) → modules_of (xs ++ ys) ≡ modules_of xs ++ modules_of ys
modules_append [] ys = refl
modules_append (x ∷ xs) ys = ap (λ ms. x.modules ++ ms) (modules_append xs ys) ∙ sym (append_assoc x.modules (modules_of xs) (modules_of ys))

pub maps_append : (xs ys : List Record) → maps_of (xs ++ ys) ≡ maps_of xs ++ maps_of ys
maps_append [] ys = refl
maps_append (x ∷ xs) ys = ap (λ ms. x.maps ++ ms) (maps_append xs ys) ∙ sym (append_assoc x.maps (maps_of xs) (maps_of ys))
