use Rattle.std.proofs.Common.{ℕ, ◌≡◌, ◌≤◌, ◌+◌, ◌-◌, ◌*◌, ◌∙◌, refl, arith, length}
use Rattle.linear_algebra.specs.Matrix.{◌·◌}
use Rattle.local_checks.specs.Standing.{standing}
use Rattle.local_checks.proofs.Places.{lent_length}
use Rattle.local_checks.proofs.Images.{added_sum, added_elements, taken_elements, lent_count, rows_room, rows_few}
use Rattle.local_checks.proofs.powers.add_images.Goals as goal

pub reduce_rows-requires-clause-elements : goal.reduce_rows-requires-clause-elements
reduce_rows-requires-clause-elements c =
    let n : ℕ = c.args.size in let i : ℕ = c.args.rank in let m : ℕ = c.args.count in
    let k : ℕ = i * n + m * n - i * n in
    let room : i * n + m * n ≤ length c.args.next.now = rows_room n i m (length c.args.next.now) c.requires.rank c.requires.few c.requires.shape in
    let size : length c.write_images.new.out ≡ m * n = c.write_images.auto.out ∙ lent_length c.args.next.now (i * n) k (omega (arith, room)) ∙ omega arith in
    taken_elements c.args.field n i m k (i * n + m * n) c.args.next.now c.write_images.new.out room c.requires.elements c.write_images.ensures.elements size (omega arith) refl

pub returns-clause-elements : goal.returns-clause-elements
returns-clause-elements c =
    let n : ℕ = c.args.size in let i : ℕ = c.args.rank in let m : ℕ = c.args.count in
    let k : ℕ = i * n + m * n - i * n in
    let room : i * n + m * n ≤ length c.args.next.now = rows_room n i m (length c.args.next.now) c.requires.rank c.requires.few c.requires.shape in
    let size : length c.write_images.new.out ≡ m * n = c.write_images.auto.out ∙ lent_length c.args.next.now (i * n) k (omega (arith, room)) ∙ omega arith in
    added_elements c.args.field n i m k c.args.next.now c.write_images.new.out c.reduce_rows.new.entries c.reduce_rows.new.pivots (standing c.args.field m n c.args.rows.now · standing c.args.field n n c.args.block.now) c.reduce_rows.result
    room c.requires.elements c.write_images.ensures.elements c.reduce_rows.ensures.elements size (omega arith) c.write_images.ensures.images (i * n + m * n)

pub returns-clause-rank : goal.returns-clause-rank
returns-clause-rank c = rows_few _ c.reduce_rows.new.entries c.reduce_rows.new.pivots c.reduce_rows.result c.reduce_rows.ensures.space

pub returns-clause-sum : goal.returns-clause-sum
returns-clause-sum c =
    let n : ℕ = c.args.size in let i : ℕ = c.args.rank in let m : ℕ = c.args.count in
    let k : ℕ = i * n + m * n - i * n in
    let images = standing c.args.field m n c.args.rows.now · standing c.args.field n n c.args.block.now in
    let room : i * n + m * n ≤ length c.args.next.now = rows_room n i m (length c.args.next.now) c.requires.rank c.requires.few c.requires.shape in
    let size : length c.write_images.new.out ≡ m * n = c.write_images.auto.out ∙ lent_length c.args.next.now (i * n) k (omega (arith, room)) ∙ omega arith in
    added_sum c.args.field n i m k c.args.next.now c.write_images.new.out c.reduce_rows.new.entries c.reduce_rows.new.pivots images c.reduce_rows.result
    room c.requires.elements c.write_images.ensures.elements c.reduce_rows.ensures.elements size (omega arith) c.write_images.ensures.images (i * n + m * n) refl
    (c.reduce_rows.auto.entries ∙ lent_count c.args.field n i m k c.args.next.now c.write_images.new.out c.reduce_rows.new.entries c.reduce_rows.new.pivots images c.reduce_rows.result
    room c.requires.elements c.write_images.ensures.elements c.reduce_rows.ensures.elements size (omega arith) c.write_images.ensures.images (i * n + m * n) refl) c.reduce_rows.ensures.space
