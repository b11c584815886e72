-- The products of all relations as one list of rows: so the quotient of each allowed header is known, however its rows are found.
use Rattle.std.proofs.Common.{ℕ, zero, suc, ◌≡◌, ◌<◌, ◌≤◌, ◌+◌, List, [], ◌∷◌, ◌++◌, length, get_or, reverse, take, map, sym, ap, ◌∙◌, subst, arith}
use Rattle.std.specs.Prelude.{Contains}
use Rattle.std.specs.List.{flat_map}
use Rattle.std.proofs.Math.Seq.{take-length}
use Rattle.linear_algebra.proofs.Typed.{IsGrid-from}
use Rattle.path_algebra.specs.Elements.{product_between}
use Rattle.std.proofs.lemmas.List.{take_more, get_or_default}
use Rattle.std.proofs.lemmas.List.Elements.{Contains-get_or}
use Rattle.linear_algebra.specs.Field.{order}
use Rattle.linear_algebra.specs.Rows.{IsGrid, IsInSpan, entry}
use Rattle.linear_algebra.proofs.Rows.{IsInSpan-row}
use Rattle.linear_algebra.proofs.RowFormUnique.{HasReducedRows, reduced_rows}
use Rattle.quiver_paths.specs.declared.Path.{Path}
use Rattle.quiver_paths.specs.PathList.{ListsPathsBelow, paths_below}
use Rattle.quiver_paths.proofs.ListLemmas.{Contains-map, Contains-from_map, Contains-flat_map, Contains-from_flat_map}
use Rattle.quiver_paths.proofs.PathListLemmas.{lists_paths_below}
use Rattle.path_algebra.specs.declared.Header.{Header}
use Rattle.path_algebra.specs.declared.Relation.{Relation}
use Rattle.path_algebra.specs.Ideals.{relation_element}
use Rattle.path_algebra.specs.Words.{IsShortPath, AreNormalWords, IsBasis}
use Rattle.path_algebra.specs.Allowed.{IsAllowed}
use Rattle.path_algebra.proofs.IdealLemmas.{IsInIdeal-product}
use Rattle.path_algebra.proofs.Columns.{HasElement}
use Rattle.path_algebra.proofs.ColumnList.{columns_from_paths}
use Rattle.path_algebra.proofs.Collecting.{product_row, AreInIdeal, HasProducts, AreInIdeal-none, AreInIdeal-push, complete_rows, IsRow-product_row}
use Rattle.path_algebra.proofs.Quotient.{IsReducedIdeal, normal_words_basis}

first_rows : (h : Header) (columns : List Path) (rows : List (List ℕ)) → ((i : ℕ) → i < length rows → HasElement h columns (get_or rows i [])) → (k : ℕ) → k ≤ length rows
    → AreInIdeal h columns (take k rows)
first_rows h columns rows e zero l = AreInIdeal-none h columns
first_rows h columns rows e (suc k) l = subst (λ m. AreInIdeal h columns (take m rows)) (let w : k + 1 ≡ suc k = omega arith in w) (more (e k (omega arith)) (first_rows h columns rows e k (omega arith)))
  where
    more : HasElement h columns (get_or rows k []) → AreInIdeal h columns (take k rows) → AreInIdeal h columns (take (k + 1) rows)
    more x before = subst (AreInIdeal h columns) (ap (λ r. take k rows ++ r ∷ []) x.row ∙ sym (take_more rows k [] (omega arith)))
        (AreInIdeal-push h columns (take k rows) x.element x.in_ideal before)

-- rows each of which is the row of a member of the ideal
pub all_in_ideal : (h : Header) (columns : List Path) (rows : List (List ℕ)) → ((i : ℕ) → i < length rows → HasElement h columns (get_or rows i [])) → AreInIdeal h columns rows
all_in_ideal h columns rows e = subst (AreInIdeal h columns) (take-length rows) (first_rows h columns rows e (length rows) (omega arith))

-- the rows of u r v for one relation and one u, for one relation, and for all relations
rows_after : Header → List Path → Relation → Path → List (List ℕ)
rows_after h ps r u = map (λ v. product_row h (reverse ps) u r v) ps

rows_with : Header → List Path → Relation → List (List ℕ)
rows_with h ps r = flat_map (rows_after h ps r) ps

all_rows : Header → List Path → List (List ℕ)
all_rows h ps = flat_map (rows_with h ps) h.relations

-- what a row among them is
record IsProductRow (h : Header) (ps : List Path) (x : List ℕ) : Type 0 where
  left : Path
  relation : Relation
  right : Path
  left_listed : Contains ps left
  relation_written : Contains h.relations relation
  right_listed : Contains ps right
  is : product_row h (reverse ps) left relation right ≡ x

product_rows : (h : Header) (ps : List Path) (x : List ℕ) → Contains (all_rows h ps) x → IsProductRow h ps x
unfolding all_rows rows_with rows_after
product_rows h ps x c =
    let r = Contains-from_flat_map (rows_with h ps) h.relations x c in
    let u = Contains-from_flat_map (rows_after h ps r.0) ps x r.2 in
    let v = Contains-from_map (λ w. product_row h (reverse ps) u.0 r.0 w) ps x u.2 in
    record { left = u.0; relation = r.0; right = v.0; left_listed = u.1; relation_written = r.1; right_listed = v.1; is = v.2 }

row_listed : (h : Header) (ps : List Path) (u v : Path) (r : Relation) → Contains ps u → Contains h.relations r → Contains ps v → Contains (all_rows h ps) (product_row h (reverse ps) u r v)
unfolding all_rows rows_with rows_after
row_listed h ps u v r a b c = Contains-flat_map (rows_with h ps) h.relations r _ b (Contains-flat_map (rows_after h ps r) ps u _ a (Contains-map (λ w. product_row h (reverse ps) u r w) ps v c))

short_of : (h : Header) (ps : List Path) → ListsPathsBelow h.quiver h.bound ps → (p : Path) → Contains ps p → IsShortPath h p
short_of h ps l p c = let s = l.only p c in record { path = s.0; short = s.1 }

row_at : (h : Header) (ps : List Path) (i : ℕ) → i < length (all_rows h ps) → IsProductRow h ps (get_or (all_rows h ps) i [])
row_at h ps i l = product_rows h ps _ (Contains-get_or (all_rows h ps) i [] l)

all_rows-grid : (h : Header) (ps : List Path) → IsGrid h.field (length (all_rows h ps)) (length (reverse ps)) (all_rows h ps)
unfolding entry
all_rows-grid h ps = IsGrid-from h.field _ (length (reverse ps)) (all_rows h ps) (λ i. length (all_rows h ps))
    (λ i l. let r = row_at h ps i l in ap length (sym r.is) ∙ (IsRow-product_row h (reverse ps) r.left r.relation r.right).count)
    (λ i j l k. let r = row_at h ps i l in subst (λ x. get_or x j 0 < order h.field) r.is ((IsRow-product_row h (reverse ps) r.left r.relation r.right).small j))

row_in_span : (h : Header) (ps : List Path) (k : ℕ) (d : List ℕ) → k < length (all_rows h ps) → IsInSpan h.field (length (reverse ps)) (all_rows h ps) (get_or (all_rows h ps) k d)
row_in_span h ps k d l = subst (IsInSpan h.field (length (reverse ps)) (all_rows h ps)) (get_or_default (all_rows h ps) k [] d l)
    (IsInSpan-row h.field (length (all_rows h ps)) (length (reverse ps)) (all_rows h ps) k (all_rows-grid h ps) l)

-- The ideal of an allowed header, as rows over all short paths in reduced row form.
pub record IdealRows (h : Header) (ps : List Path) : Type 0 where
  pub rows : List (List ℕ)
  pub are : IsReducedIdeal h (reverse ps) rows

pub ideal_rows : (h : Header) (ps : List Path) → IsAllowed h → ListsPathsBelow h.quiver h.bound ps → IdealRows h ps
ideal_rows h ps ok l = record {
  rows = form.list;
  are = record {
    allowed = ok;
    columns_are = columns_from_paths h ps l;
    grid = subst (λ k. IsGrid h.field k (length (reverse ps)) form.list) (sym form.grid.count) form.grid;
    reduced = form.reduced;
    represents = record {
      sound = λ x b. sound.elements x (form.span.back x b);
      complete = λ x m. form.span.forth _ (complete_rows h (reverse ps) (all_rows h ps) products x m);
    };
  };
}
  where
    form : HasReducedRows h.field (length (reverse ps)) (all_rows h ps)
    form = reduced_rows h.field (length (all_rows h ps)) (length (reverse ps)) (all_rows h ps) (all_rows-grid h ps)

    sound : AreInIdeal h (reverse ps) (all_rows h ps)
    sound = all_in_ideal h (reverse ps) (all_rows h ps) (λ i b. let r = row_at h ps i b in record {
      element = product_between h.bound r.left (relation_element h r.relation) r.right;
      in_ideal = IsInIdeal-product h r.left r.right r.relation (short_of h ps l r.left r.left_listed).path r.relation_written (short_of h ps l r.right r.right_listed).path;
      row = r.is;
    })

    products : HasProducts h (reverse ps) (all_rows h ps)
    products = record {
      products = λ u r v s w t.
          let c = row_listed h ps u v r (l.all u s.path s.short) w (l.all v t.path t.short) in
          subst (IsInSpan h.field (length (reverse ps)) (all_rows h ps)) (c.2) (row_in_span h ps c.0 (product_row h (reverse ps) u r v) c.1);
    }

-- The normal words of an allowed header are a basis of its quotient.
pub normal_words_are_basis : (h : Header) → IsAllowed h → (words : List Path) → AreNormalWords h words → IsBasis h words
normal_words_are_basis h ok words w =
    let ps = paths_below h.quiver h.bound in
    let r = ideal_rows h ps ok (lists_paths_below h.quiver ok.quiver.ends h.bound) in
    normal_words_basis h (reverse ps) r.rows r.are words w
