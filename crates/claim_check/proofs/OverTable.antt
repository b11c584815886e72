-- The words of a table in the place of any normal words of the header: an allowed header has one list of them.
use Rattle.std.proofs.Common.{◌≡◌, List, subst}
use Rattle.quiver_paths.specs.declared.Path.{Path}
use Rattle.quiver_paths.specs.PathOrder.{IsSmaller}
use Rattle.quiver_paths.proofs.PathOrderLemmas.{IsSmaller-irreflexive, IsSmaller-asymmetric}
use Rattle.quiver_paths.proofs.ListLemmas.{ascending_once}
use Rattle.path_algebra.specs.declared.Header.{Header}
use Rattle.path_algebra.specs.Words.{AreNormalWords}
use Rattle.alg_table.specs.TableView.{TableView, IsTable}
use Rattle.bound_tables.specs.TableSides.{table_sides}
use Rattle.claim_conditions.specs.Modules.{Sides}
use Rattle.report_types.specs.Verdicts.{NormalWords, sides_by}

-- two lists of the normal words are one
pub one_list : (h : Header) (v w : List Path) → AreNormalWords h v → AreNormalWords h w → v ≡ w
one_list h v w a b =
    ascending_once IsSmaller IsSmaller-irreflexive IsSmaller-asymmetric v w a.ascending b.ascending (λ p c. b.all p (a.only p c)) (λ p c. a.all p (b.only p c))

-- what holds over each way to see that the words of a table are those of the header
same_words : (h : Header) (words : List Path) (n : NormalWords h) (P : Sides h → Type 0) → IsTable h words → ((t : IsTable h words) → P (table_sides h words t)) → P (sides_by n)
same_words h words n P held f =
    let e = one_list h n.words words n.normal held.normal in
    subst (λ ws. IsTable h ws → ((t : IsTable h ws) → P (table_sides h ws t)) → P (sides_by n)) e
    (λ t g. g (record { allowed = n.allowed; few = t.few; normal = n.normal; basis = t.basis })) held f

pub over_table : (h : Header) (table : TableView) → table.header ≡ h → IsTable table.header table.words → (P : (h : Header) → Sides h → Type 0)
    → ((t : IsTable table.header table.words) → P table.header (table_sides table.header table.words t)) → (n : NormalWords h) → P h (sides_by n)
over_table h table e held P f = subst (λ g. (n : NormalWords g) → P g (sides_by n)) e (λ n. same_words table.header table.words n (P table.header) held f)
