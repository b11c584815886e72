-- What the operations answer: a module over the header with its shape, a map with its shapes, and that in the canonical form it is the kernel, the
-- cokernel, the image, the radical or the top. (Assem, Simson, Skowroński, volume 1, chapter I, 3, and III, 1 and 2.)
use Rattle.std.specs.Prelude.{List}
use Rattle.fp_linear.specs.Matrix.{PlainMatrix}
use Rattle.path_algebra.specs.declared.Header.{Header}
use Rattle.module_types.specs.declared.Module.{Module}
use Rattle.module_types.specs.Readings.{read, read_beside}
use Rattle.claim_conditions.specs.Families.{AreReduced, AreCoReduced}
use Rattle.claim_conditions.specs.Kernels.{KernelHolds, CokernelHolds}
use Rattle.claim_conditions.specs.Radicals.{RadicalHolds}
use Rattle.module_faults.specs.ModuleFaults.{IsSmallModule}
use Rattle.module_faults.specs.MapFaults.{IsSmallMap}
use Rattle.module_operations.specs.Images.{ImageHolds, TopHolds}

pub record IsKernelBy (h : Header) (a b n : Module) (f i : List PlainMatrix) : Type 0 where
  pub small : IsSmallModule h n
  pub matrices : IsSmallMap h n a i
  pub holds : KernelHolds h n a b f i
  pub reduced : AreReduced (read_beside h a n) (read h a) holds.inclusion.at

pub record IsCokernelBy (h : Header) (a b n : Module) (f p : List PlainMatrix) : Type 0 where
  pub small : IsSmallModule h n
  pub matrices : IsSmallMap h b n p
  pub holds : CokernelHolds h n a b f p
  pub coreduced : AreCoReduced (read_beside h a b) (read_beside h a n) holds.projection.at

pub record IsImageBy (h : Header) (a b n : Module) (f i : List PlainMatrix) : Type 0 where
  pub small : IsSmallModule h n
  pub matrices : IsSmallMap h n b i
  pub holds : ImageHolds h n a b f i
  pub reduced : AreReduced (read_beside h b n) (read h b) holds.inclusion.at

pub record IsRadicalBy (h : Header) (a n : Module) (i : List PlainMatrix) : Type 0 where
  pub small : IsSmallModule h n
  pub matrices : IsSmallMap h n a i
  pub holds : RadicalHolds h n a i
  pub reduced : AreReduced (read_beside h a n) (read h a) holds.inclusion.at

pub record IsTopBy (h : Header) (a n : Module) (p : List PlainMatrix) : Type 0 where
  pub small : IsSmallModule h n
  pub matrices : IsSmallMap h a n p
  pub holds : TopHolds h n a p
  pub coreduced : AreCoReduced (read h a) (read_beside h a n) holds.projection.at
