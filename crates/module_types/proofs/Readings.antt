-- The entries of what is printed: within the dimensions the printed numbers modulo the order of the field, and zero outside.
use Rattle.std.proofs.Common.{ℕ, zero, ◌≡◌, ◌<◌, ◌≤◌, ◌⊎◌, ◌%◌, List, inl, inr}
use Rattle.linear_algebra.specs.Field.{Gf, order}
use Rattle.linear_algebra.specs.Matrix.{Mat}
use Rattle.linear_algebra.specs.Rows.{entry}
use Rattle.linear_algebra.proofs.Typed.{as_mat-at}
use Rattle.fp_linear.specs.Matrix.{PlainMatrix}
use Rattle.representations.specs.Quiver.{Quiver}
use Rattle.representations.specs.Rep.{Rep}
use Rattle.module_types.specs.declared.Module.{Module}
use Rattle.module_types.specs.Readings.{dim_at, rows_at, rep_of, family_of}

pub outside : {q : Gf} {m n : ℕ} (a : Mat q m n) (i j : ℕ) → (m ≤ i) ⊎ (n ≤ j) → a.at i j ≡ zero
outside a i j (inl h) = a.fits.below i j h
outside a i j (inr h) = a.fits.right i j h

pub rep_of-entry : (q : Gf) (Q : Quiver) (m : Module) (a i j : ℕ) → i < dim_at Q m.dims (Q.source a) → j < dim_at Q m.dims (Q.target a)
    → ((rep_of q Q m).mat a).at i j ≡ entry (rows_at m.matrices a) i j % order q
rep_of-entry q Q m a i j l n = as_mat-at q (dim_at Q m.dims (Q.source a)) (dim_at Q m.dims (Q.target a)) (rows_at m.matrices a) i j l n

pub family_of-entry : {q : Gf} {Q : Quiver} (X Y : Rep q Q) (matrices : List PlainMatrix) (v i j : ℕ) → i < X.dim v → j < Y.dim v
    → (family_of X Y matrices v).at i j ≡ entry (rows_at matrices v) i j % order q
family_of-entry {q} X Y matrices v i j l n = as_mat-at q (X.dim v) (Y.dim v) (rows_at matrices v) i j l n
