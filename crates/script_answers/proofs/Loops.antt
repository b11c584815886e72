-- A module of dimension 1 over one loop x: the path x.x acts by the square of its entry.
use Rattle.std.proofs.Common.{ℕ, ◌≡◌, ◌<◌, List, [], ◌∷◌, Option, Some, None, cond, nat_eq, refl, ap, ap₂, ◌∙◌, true, false, arith}
use Rattle.std.specs.Prelude.{not, position}
use Rattle.linear_algebra.specs.Field as field
use Rattle.linear_algebra.specs.Field.{f2}
use Rattle.linear_algebra.specs.Matrix.{Mat, ◌·◌, made, one, delta}
use Rattle.linear_algebra.specs.Rows.{entry, list_of}
use Rattle.linear_algebra.specs.Sums.{sum_to}
use Rattle.linear_algebra.specs.Typed.{as_mat}
use Rattle.fp_linear.specs.Matrix.{plain}
use Rattle.quiver_paths.specs.Quiver.{source, target}
use Rattle.quiver_paths.specs.PathList.{paths_of_length}
use Rattle.path_algebra.specs.declared.Relation.{Relation}
use Rattle.path_algebra.specs.Elements.{sum_over}
use Rattle.representations.specs.Quiver.{Path as TypedPath, trivial, then}
use Rattle.representations.specs.Rep.{Rep as Representation, along}
use Rattle.bound_algebra.specs.TypedPaths.{quiver_of, Runs, arrows_of}
use Rattle.bound_algebra.specs.PathMatrices.{path_matrix}
use Rattle.bound_algebra.proofs.PathMatrices.{path_matrix-typed}
use Rattle.module_types.specs.declared.Side.TheVariants.{Right}
use Rattle.module_types.specs.Readings.{dim_at, rep_of}
use Rattle.script_types.specs.declared.StatementKind.TheVariants.{Rep}
use Rattle.report_types.specs.declared.reports.Why.{Why}
use Rattle.report_types.specs.declared.reports.Why.TheVariants as why
use Rattle.script_answers.specs.FirstTests.{first_of}
use Rattle.script_answers.specs.ZeroTests.{relation_is_zero, relation_fails, relations_hold, bound_fails, bound_holds}
use Rattle.script_answers.specs.Refusals.{early}
use Rattle.script_answers.specs.SmallSettings.{loop_quiver, loop_header, with_loop, path_xx, relation_xx, relation_xxx, arrow_x, name_N, line_at}

abbrev loop_rep : ℕ → Representation f2 (quiver_of loop_quiver)
loop_rep x = rep_of f2 (quiver_of loop_quiver) (record { side = Right; dims = 1 ∷ []; matrices = plain f2 1 1 ((x ∷ []) ∷ []) ∷ [] })

unfoldable loops : TypedPath (quiver_of loop_quiver) 0 0
unfolding source target
loops = then 0 (then 0 trivial)

loops_are : arrows_of loops ≡ path_xx.arrows
unfolding loops
loops_are = refl

below : 0 < 1
below = omega arith

loops_run : Runs loop_quiver 0 0 path_xx
unfolding source target
loops_run = record { starts = refl; ends = refl; leads = (below, refl, (below, refl, refl)) }

as_loops : (x : ℕ) → path_matrix loop_quiver (loop_rep x) 0 0 path_xx ≡ along (loop_rep x) loops
as_loops x = path_matrix-typed loop_quiver (loop_rep x) loops path_xx loops_run loops_are

loops_one : (along (loop_rep 1) loops).at 0 0 ≡ 1
unfolding loops along dim_at source target as_mat made entry list_of one delta ◌·◌ sum_to field.add field.number field.plus field.polynomial field.coefficients field.mul field.remainder field.times field.multiple field.front field.top
loops_one = refl

loops_zero : (along (loop_rep 0) loops).at 0 0 ≡ 0
unfolding loops along dim_at source target as_mat made entry list_of one delta ◌·◌ sum_to field.add field.number field.plus field.polynomial field.coefficients field.mul field.remainder field.times field.multiple field.front field.top
loops_zero = refl

entry_one : (path_matrix loop_quiver (loop_rep 1) 0 0 path_xx).at 0 0 ≡ 1
entry_one = ap (λ (m : Mat f2 _ _). m.at 0 0) (as_loops 1) ∙ loops_one

entry_zero : (path_matrix loop_quiver (loop_rep 0) 0 0 path_xx).at 0 0 ≡ 0
entry_zero = ap (λ (m : Mat f2 _ _). m.at 0 0) (as_loops 0) ∙ loops_zero

-- the tests by the entry of the path
abbrev bound_by : ℕ → Option Why
bound_by e = first_of (first_of (bound_fails (cond (not (nat_eq e 0)) (Some path_xx) None) ∷ []) ∷ [])

pub bound_one : early (with_loop 2 []) (Rep name_N (1 ∷ []) (line_at arrow_x 1 ∷ [])) ≡ Some (why.BoundFails path_xx)
unfolding dim_at source target list_of paths_of_length
bound_one = ap bound_by entry_one

pub bound_zero : early (with_loop 2 []) (Rep name_N (1 ∷ []) (line_at arrow_x 0 ∷ [])) ≡ None
unfolding dim_at source target list_of paths_of_length
bound_zero = ap bound_by entry_zero

pub long_terms : early (with_loop 2 (relation_xx ∷ [])) (Rep name_N (1 ∷ []) (line_at arrow_x 1 ∷ [])) ≡ Some (why.BoundFails path_xx)
unfolding dim_at source target list_of paths_of_length sum_over field.add field.number field.plus field.polynomial field.coefficients
long_terms = ap bound_by entry_one

-- x.x.x is as long as the bound, and x.x is not zero
abbrev relations : List Relation
relations = relation_xxx ∷ relation_xx ∷ []

long_is_zero : relation_is_zero (loop_header 3 relations) (loop_rep 1) relation_xxx ≡ true
unfolding dim_at sum_over field.add field.number field.plus field.polynomial field.coefficients
long_is_zero = refl

one_is_not : nat_eq (field.add f2 (field.mul f2 1 1) 0) 0 ≡ false
unfolding field.add field.number field.plus field.polynomial field.coefficients field.mul field.remainder field.times field.multiple field.front field.top
one_is_not = refl

short_is_not : relation_is_zero (loop_header 3 relations) (loop_rep 1) relation_xx ≡ false
unfolding dim_at sum_over
short_is_not = ap (λ e. nat_eq (field.add f2 (field.mul f2 1 e) 0) 0) entry_one ∙ one_is_not

second_fails : relations_hold (loop_header 3 relations) (loop_rep 1) ≡ Some (why.RelationFails 2)
second_fails = ap₂ (λ a b. relation_fails (position not (a ∷ b ∷ []))) long_is_zero short_is_not

pub relation_one : early (with_loop 3 (relation_xxx ∷ relation_xx ∷ [])) (Rep name_N (1 ∷ []) (line_at arrow_x 1 ∷ [])) ≡ Some (why.RelationFails 2)
unfolding dim_at source target list_of
relation_one = ap (λ w. first_of (first_of (w ∷ bound_holds (loop_header 3 relations) (loop_rep 1) ∷ []) ∷ [])) second_fails
