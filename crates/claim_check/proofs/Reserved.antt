-- Room that was reserved, and its parts.
use Rattle.std.proofs.Common.{ℕ, zero, suc, ◌≡◌, ◌≤◌, List, [], ◌∷◌, length, get_or, Some, None, ap, subst, sym, arith}
use Rattle.std.proofs.lemmas.List.{length-replicate}
use Rattle.std.proofs.lemmas.List.Elements.{All-head, All-tail}
use Rattle.std.specs.Prelude.{replicate, All, slice_get}
use Rattle.report_types.specs.declared.claims.Claim.{Claim}
use Rattle.report_types.specs.declared.claims.Record.{Record}
use Rattle.report_types.specs.Numbers.{record_of}
use Rattle.claim_check.specs.Room.{object_bytes, object_numbers, claim_bytes, claim_numbers, HasClaimRoom, HasRoom}

long : (n : ℕ) (xs : List ℕ) → xs ≡ replicate n 0 → length xs ≡ n
long n xs e = let l = ap length e in let r = length-replicate {A = ℕ} n 0 in omega (arith, l, r)

room_in : (c : Claim) (b n : ℕ) (bytes numbers : List ℕ) → length bytes ≡ b → length numbers ≡ n → claim_bytes c ≤ b → claim_numbers c ≤ n → HasClaimRoom c bytes numbers
room_in c b n bytes numbers lb ln cb cn = record { bytes_there = subst (λ x. claim_bytes c ≤ x) (sym lb) cb; numbers_there = subst (λ x. claim_numbers c ≤ x) (sym ln) cn }

pub reserved : (records : List Record) (b n : ℕ) (bytes numbers : List ℕ) → object_bytes ≤ b → All (λ (r : Record). claim_bytes r.claim ≤ b) records → object_numbers ≤ n
    → All (λ (r : Record). claim_numbers r.claim ≤ n) records → numbers ≡ replicate n 0 → bytes ≡ replicate b 0 → HasRoom records bytes numbers
reserved records b n bytes numbers ob cb on cn en eb =
    let lb = long b bytes eb in
    let ln = long n numbers en in
    record {
      objects = record { bytes_there = subst (λ x. object_bytes ≤ x) (sym lb) ob; numbers_there = subst (λ x. object_numbers ≤ x) (sym ln) on };
      claims = λ i d l. room_in (get_or records i d).claim b n bytes numbers lb ln (cb i d l) (cn i d l);
    }

-- what is so of all records is so of the one with this number
item_of_all : (P : Record → Type 0) (rs : List Record) (i : ℕ) (r : Record) → slice_get rs i ≡ Some r → All P rs → P r
item_of_all P [] i r e a = absurd (none_some r e)
  where
    none_some : (r : Record) → None ≡ Some r → ⊥
    none_some r same = cc
item_of_all P (x ∷ xs) zero r e a = subst P (some_is x r e) (All-head P x xs a)
  where
    some_is : (x r : Record) → Some x ≡ Some r → x ≡ r
    some_is x r same = cc
item_of_all P (x ∷ xs) (suc i) r e a = item_of_all P xs i r e (All-tail P x xs a)

pub room_of_claim : (rs : List Record) (k : ℕ) (r : Record) (bytes numbers : List ℕ) → record_of rs k ≡ Some r → HasRoom rs bytes numbers → HasClaimRoom r.claim bytes numbers
room_of_claim rs zero r bytes numbers e h = absurd (none_some r e)
  where
    none_some : (r : Record) → None ≡ Some r → ⊥
    none_some r same = cc
room_of_claim rs (suc i) r bytes numbers e h = item_of_all (λ (x : Record). HasClaimRoom x.claim bytes numbers) rs i r e h.claims
