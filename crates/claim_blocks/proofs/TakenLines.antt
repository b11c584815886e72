-- One line more: what the readers of a line give.
use Rattle.std.proofs.Common.{◌≡◌, ℕ, List, Some, None, inl, inr, refl, sym, ap, ◌∙◌}
use Rattle.text_lines.proofs.Readings.{Goes}
use Rattle.header_text.specs.Reading.{Reads}
use Rattle.deciding.proofs.Deciding.{Decided}
use Rattle.claim_blocks.specs.Taking.{Takes}

module _ {X Part : Type 0} (Fits : X → Type 0) (spell : X → List (List ℕ)) (taken : X → Part) where
  -- what was read leads to what is read with it
  pub takes : (tokens : List (List ℕ)) (x : X) (next : Part) → Reads Fits spell tokens (Some x) → ((y z : X) → Fits y → Fits z → spell y ≡ spell z → y ≡ z) → next ≡ taken x
      → Takes Fits spell taken tokens next
  takes tokens x next reads one leads = record { item = x; fits = reads.0; spelled = reads.1; only = λ y is e. one y x is reads.0 (sym e ∙ reads.1); leads = leads }

  -- nothing was read, and nothing may follow
  pub takes_none : (tokens : List (List ℕ)) → Reads Fits spell tokens None → (next : Part) → Takes Fits spell taken tokens next → ⊥
  takes_none tokens none next t = none t.item t.fits t.spelled

  -- what fits leads on by its own line
  pub takes_own : (x : X) → Fits x → ((y z : X) → Fits y → Fits z → spell y ≡ spell z → y ≡ z) → Takes Fits spell taken (spell x) (taken x)
  takes_own x is one = record { item = x; fits = is; spelled = refl; only = λ y also e. one y x also is (sym e); leads = refl }

  -- tokens lead to one thing
  pub takes_one : (tokens : List (List ℕ)) (q r : Part) → Takes Fits spell taken tokens q → Takes Fits spell taken tokens r → q ≡ r
  takes_one tokens q r a b = a.leads ∙ ap taken (b.only a.item a.fits a.spelled) ∙ sym b.leads

  -- whether tokens lead on is decided
  pub takes_go : (tokens : List (List ℕ)) → ((y z : X) → Fits y → Fits z → spell y ≡ spell z → y ≡ z) → Decided ((x : X) × (Fits x × (tokens ≡ spell x))) → Goes (Takes Fits spell taken tokens)
  takes_go tokens one (inl h) = inl (taken h.0, takes tokens h.0 (taken h.0) h.1 one refl)
  takes_go tokens one (inr none) = inr (λ q t. none (t.item, (t.fits, t.spelled)))

-- what is read of a part is read of what the part stands in
module _ {X Part Whole : Type 0} (Fits : X → Type 0) (spell : X → List (List ℕ)) (taken : X → Part) (within : Part → Whole) (tokens : List (List ℕ)) where
  pub takes_within : (next : Part) → Takes Fits spell taken tokens next → Takes Fits spell (λ x. within (taken x)) tokens (within next)
  takes_within next t = record { item = t.item; fits = t.fits; spelled = t.spelled; only = t.only; leads = ap within t.leads }

  pub takes_not_within : ((next : Part) → Takes Fits spell taken tokens next → ⊥) → (next : Whole) → Takes Fits spell (λ x. within (taken x)) tokens next → ⊥
  takes_not_within none next t = none (taken t.item) record { item = t.item; fits = t.fits; spelled = t.spelled; only = t.only; leads = refl }
