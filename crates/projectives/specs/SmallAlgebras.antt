-- Two small algebras with their words: one loop whose cube is zero, and the Kronecker quiver. (Assem, Simson, Skowroński, volume 1, chapter II, 1.)
use Rattle.std.specs.Prelude.{ℕ, zero, suc, ◌<◌, ◌≤◌, ◌≡◌, refl}
use Rattle.std.proofs.Common.{not-suc-le-zero, arith}
use Rattle.linear_algebra.specs.Field.{Gf}
use Rattle.linear_algebra.specs.Matrix.{Mat, zeros, made, delta}
use Rattle.linear_algebra.specs.Parts.{unit}
use Rattle.representations.specs.Quiver.{Quiver, Path, trivial, then, Relation, BoundQuiver}
use Rattle.projectives.specs.Words.{Words}

-- The relation without terms.
abbrev pub no_relation : {Q : Quiver} → Relation Q
no_relation = record { from = zero; to = zero; terms = zero; coefficient = λ i. zero; path = λ i. trivial }

-- One vertex, and one loop x at it, with x³ = 0. What is no arrow is a loop at a number that is no vertex.
abbrev pub loop_quiver : Quiver
loop_quiver = record { vertices = 1; arrows = 1; source = λ a. a; target = λ a. a; source_past = λ a h. h; target_past = λ a h. h }

abbrev pub loop_algebra : BoundQuiver
loop_algebra = record { quiver = loop_quiver; relations = zero; relation = λ i. no_relation; bound = 3 }

-- The words 1, x, x²; each goes to the next one, and the last to zero.
abbrev pub loop_count : ℕ → ℕ → ℕ
loop_count zero zero = 3
loop_count zero (suc w) = zero
loop_count (suc v) w = zero

abbrev pub loop_power : ℕ → Path loop_quiver zero zero
loop_power zero = trivial
loop_power (suc i) = then zero (loop_power i)

abbrev pub loop_word : (v w i : ℕ) → i < loop_count v w → Path loop_quiver v w
loop_word zero zero i h = loop_power i
loop_word zero (suc w) i h = absurd (not-suc-le-zero h)
loop_word (suc v) w i h = absurd (not-suc-le-zero h)

abbrev pub loop_act : (q : Gf) (v a : ℕ) → Mat q (loop_count v a) (loop_count v a)
loop_act q zero zero = made q 3 3 (λ i j. delta (suc i) j)
loop_act q zero (suc a) = zeros q zero zero
loop_act q (suc v) a = zeros q zero zero

pub loop_past : (v w : ℕ) → 1 ≤ w → loop_count v w ≡ zero
loop_past zero zero h = absurd (not-suc-le-zero h)
loop_past zero (suc w) h = refl
loop_past (suc v) w h = refl

abbrev pub loop_words : (q : Gf) → Words q loop_quiver
loop_words q = record { count = loop_count; word = loop_word; act = loop_act q; past = loop_past }

-- Two vertices, and two arrows from the first to the second. What is no arrow is a loop at a number that is no vertex.
abbrev pub kronecker_source : ℕ → ℕ
kronecker_source zero = zero
kronecker_source (suc zero) = zero
kronecker_source (suc (suc a)) = suc (suc a)

abbrev pub kronecker_target : ℕ → ℕ
kronecker_target zero = 1
kronecker_target (suc zero) = 1
kronecker_target (suc (suc a)) = suc (suc a)

pub kronecker_source_past : (a : ℕ) → 2 ≤ a → 2 ≤ kronecker_source a
kronecker_source_past zero h = absurd (omega arith)
kronecker_source_past (suc zero) h = absurd (omega arith)
kronecker_source_past (suc (suc a)) h = h

pub kronecker_target_past : (a : ℕ) → 2 ≤ a → 2 ≤ kronecker_target a
kronecker_target_past zero h = absurd (omega arith)
kronecker_target_past (suc zero) h = absurd (omega arith)
kronecker_target_past (suc (suc a)) h = h

abbrev pub kronecker_quiver : Quiver
kronecker_quiver = record {
  vertices = 2;
  arrows = 2;
  source = kronecker_source;
  target = kronecker_target;
  source_past = kronecker_source_past;
  target_past = kronecker_target_past;
}

abbrev pub kronecker_algebra : BoundQuiver
kronecker_algebra = record { quiver = kronecker_quiver; relations = zero; relation = λ i. no_relation; bound = 2 }

-- The trivial words at the two vertices, and the two arrows.
abbrev pub kronecker_count : ℕ → ℕ → ℕ
kronecker_count zero zero = 1
kronecker_count zero (suc zero) = 2
kronecker_count zero (suc (suc w)) = zero
kronecker_count (suc zero) zero = zero
kronecker_count (suc zero) (suc zero) = 1
kronecker_count (suc zero) (suc (suc w)) = zero
kronecker_count (suc (suc v)) w = zero

abbrev pub kronecker_arrow : (i : ℕ) → i < 2 → Path kronecker_quiver zero 1
kronecker_arrow zero h = then zero trivial
kronecker_arrow (suc zero) h = then 1 trivial
kronecker_arrow (suc (suc i)) h = absurd (omega arith)

abbrev pub kronecker_word : (v w i : ℕ) → i < kronecker_count v w → Path kronecker_quiver v w
kronecker_word zero zero i h = trivial
kronecker_word zero (suc zero) i h = kronecker_arrow i h
kronecker_word zero (suc (suc w)) i h = absurd (not-suc-le-zero h)
kronecker_word (suc zero) zero i h = absurd (not-suc-le-zero h)
kronecker_word (suc zero) (suc zero) i h = trivial
kronecker_word (suc zero) (suc (suc w)) i h = absurd (not-suc-le-zero h)
kronecker_word (suc (suc v)) w i h = absurd (not-suc-le-zero h)

abbrev pub kronecker_act : (q : Gf) (v a : ℕ) → Mat q (kronecker_count v (kronecker_source a)) (kronecker_count v (kronecker_target a))
kronecker_act q zero zero = unit q 2 zero
kronecker_act q zero (suc zero) = unit q 2 1
kronecker_act q zero (suc (suc a)) = zeros q zero zero
kronecker_act q (suc zero) zero = zeros q zero 1
kronecker_act q (suc zero) (suc zero) = zeros q zero 1
kronecker_act q (suc zero) (suc (suc a)) = zeros q zero zero
kronecker_act q (suc (suc v)) a = zeros q zero zero

pub kronecker_past : (v w : ℕ) → 2 ≤ w → kronecker_count v w ≡ zero
kronecker_past v zero h = absurd (omega arith)
kronecker_past v (suc zero) h = absurd (omega arith)
kronecker_past zero (suc (suc w)) h = refl
kronecker_past (suc zero) (suc (suc w)) h = refl
kronecker_past (suc (suc v)) (suc (suc w)) h = refl

abbrev pub kronecker_words : (q : Gf) → Words q kronecker_quiver
kronecker_words q = record { count = kronecker_count; word = kronecker_word; act = kronecker_act q; past = kronecker_past }
