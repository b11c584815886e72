-- The conditions on a decomposition, and what is decided.
use Rattle.std.proofs.Common.{◌≡◌, List, [], length}
use Rattle.std.proofs.lemmas.List.Elements.{All-get_or, All-from_get_or}
use Rattle.fp_linear.specs.Matrix.{PlainMatrix}
use Rattle.path_algebra.specs.declared.Header.{Header}
use Rattle.bound_algebra.specs.TypedPaths.{quiver_of}
use Rattle.module_types.specs.declared.Module.{Module}
use Rattle.module_types.specs.declared.Side.TheVariants.{Right}
use Rattle.module_types.specs.Readings.{read, read_beside}
use Rattle.module_types.specs.Shapes.{IsMap}
use Rattle.claim_conditions.specs.Decompositions.{HaveSideOf}
use Rattle.claim_conditions.specs.DecompositionConditions.{AreInverse}
use Rattle.module_checks.specs.VertexMatrices.{HaveProducts, AreUnitProducts}
use Rattle.module_checks.proofs.VertexMatrices.{have_products, compose_to_one, one_of_composed}
use Rattle.map_checks.specs.PartLists.{HaveSide}
use Rattle.map_checks.proofs.KernelTests.{beside}

abbrev no_module : Module
no_module = record { side = Right; dims = []; matrices = [] }

pub sides_yes : (a s : Module) (parts : List Module) → s.side ≡ a.side → HaveSide a.side parts (length parts) → HaveSideOf a s parts
sides_yes a s parts e h = record { whole = e; each = All-from_get_or (λ (m : Module). m.side ≡ a.side) parts no_module (λ i l. h.each i no_module l) }

pub sides_no : (a s : Module) (parts : List Module) → HaveSideOf a s parts → HaveSide a.side parts (length parts)
sides_no a s parts h = record { each = λ i m l. All-get_or (λ (m : Module). m.side ≡ a.side) parts i m l h.each }

module _ (h : Header) (a s : Module) (to back : List PlainMatrix) (T : IsMap h.field (quiver_of h.quiver) s a to) (B : IsMap h.field (quiver_of h.quiver) a s back) where
  pub units_there : HaveProducts h.field to back
  units_there = have_products (read_beside h a s) (read h a) (read_beside h a s) to back (beside h a s a to T) (beside h a a s back B)

  pub units_again : HaveProducts h.field back to
  units_again = have_products (read h a) (read_beside h a s) (read h a) back to (beside h a a s back B) (beside h a s a to T)

  pub inverse_yes : AreUnitProducts h.field (length to) to back → AreUnitProducts h.field (length back) back to → AreInverse h a s to back
  inverse_yes x y = record {
    there = compose_to_one (read_beside h a s) (read h a) to back (beside h a s a to T) (beside h a a s back B) x;
    again = compose_to_one (read h a) (read_beside h a s) back to (beside h a a s back B) (beside h a s a to T) y;
  }

  pub inverse_first : AreInverse h a s to back → AreUnitProducts h.field (length to) to back
  inverse_first i = one_of_composed (read_beside h a s) (read h a) to back (beside h a s a to T) (beside h a a s back B) i.there

  pub inverse_second : AreInverse h a s to back → AreUnitProducts h.field (length back) back to
  inverse_second i = one_of_composed (read h a) (read_beside h a s) back to (beside h a a s back B) (beside h a s a to T) i.again
