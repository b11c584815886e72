-- What the five conditions make of the words.
use Rattle.std.proofs.Common.{List}
use Rattle.quiver_paths.specs.declared.Path.{Path}
use Rattle.path_algebra.specs.declared.Header.{Header}
use Rattle.path_algebra.specs.declared.rules.Rule.{Rule}
use Rattle.path_algebra.specs.declared.rules.Step.{Step}
use Rattle.path_algebra.specs.Allowed.{IsAllowed}
use Rattle.path_algebra.specs.BasisClauses.{IsBasisClaim, ActionHolds, MeetsClauses}
use Rattle.path_algebra.proofs.ClausesSuffice.{are_sound, words_are_normal, words_are_basis}
use Rattle.alg_table.specs.FirstClauses.{MeetsFirstClauses}
use Rattle.word_products.specs.WordProducts.{CanAct}
use Rattle.word_products.specs.SparseRows.{SparseView}
use Rattle.word_products.specs.Vanishing.{AreAllProducts}
use Rattle.alg_table.specs.TableView.{IsTable, AreTableRows}
use Rattle.alg_table.proofs.CanActFrom.{can_act}
use Rattle.alg_table.proofs.FormRows.{right_products}
use Rattle.alg_table.proofs.FormsByRows.{form_by_rows}

module _ (h : Header) (words : List Path) (steps : List Step) (rules : List Rule) (ok : IsAllowed h) (claim : IsBasisClaim h words steps rules) (first : MeetsFirstClauses h words steps rules) where
  pub acting : CanAct h words rules
  acting = can_act h words steps rules ok claim first.step first.rule first.reduced first.word

  pub all_clauses : ActionHolds h words rules → MeetsClauses h words steps rules
  all_clauses action = record {
    step = first.step;
    rule = first.rule;
    reduced = first.reduced;
    word = first.word;
    action = action;
  }

  pub checked_table : ActionHolds h words rules → IsTable h words
  checked_table action =
      let sound = are_sound h words steps rules ok claim (all_clauses action) in
      record {
        allowed = ok;
        few = claim.few;
        normal = words_are_normal h words rules sound;
        basis = words_are_basis h words rules sound;
      }

  pub checked_rows : ActionHolds h words rules → (rows : SparseView) → AreAllProducts h words rules rows → AreTableRows h words rows
  checked_rows action rows all =
      let sound = are_sound h words steps rules ok claim (all_clauses action) in
      record {
        field_is = all.field_is;
        width_is = all.width_is;
        products = right_products h words rules sound acting rows.rows all.known all.count;
        forms = form_by_rows h words rules sound acting rows.rows all.known all.count;
      }
