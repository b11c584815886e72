-- Overlaps of two paths are paths.
use Rattle.std.proofs.Common.{ℕ, ◌≡◌, ◌<◌, ◌+◌, ◌-◌, List, ◌++◌, length, take, drop, false, not, inl, inr, sym, ap, ap₂, ◌∙◌, subst, arith, length-append}
use Rattle.std.specs.Cmp.Lexicographic.{pointwise, bytes_decides}
use Rattle.std.specs.Prelude.{nat_eq}
use Rattle.std.proofs.lemmas.Bool.{cases_Bool}
use Rattle.std.proofs.lemmas.List.{take-append-drop, length-drop, take_rest}
use Rattle.quiver_paths.specs.declared.Path.{Path}
use Rattle.quiver_paths.specs.Path.{Leads, path_length}
use Rattle.quiver_paths.proofs.PathLemmas.{Leads-append, Leads-between, Leads-start, Leads-one}
use Rattle.path_algebra.specs.declared.Header.{Header}
use Rattle.path_algebra.specs.Words.{IsShortPath}
use Rattle.path_basis.specs.Completing.{IsObstruction}

-- the first path, and then what the second has behind the arrows that are common
pub overlap_is_obstruction : (h : Header) (first second : Path) (cut common rank end : ℕ) (arrows : List ℕ) → IsShortPath h first → IsShortPath h second → cut < path_length first → common ≡ path_length first - cut
    → path_length second - common < h.bound - path_length first → drop cut first.arrows ≡ take common second.arrows → arrows ≡ first.arrows ++ drop common second.arrows → end ≡ length arrows
    → IsObstruction h (record { rank = rank; end = end; path = record { start = first.start; end = second.end; arrows = arrows } })
overlap_is_obstruction h first second cut common rank end arrows hp hq inside count short same whole at =
    let Q = h.quiver in
    let shared : 0 < length (take common second.arrows) = (let l = ap length same in let k = length-drop cut first.arrows in omega arith) in
    let left = Leads-between Q first.start (take cut first.arrows) (drop cut first.arrows) first.end
    (subst (λ (xs : List ℕ). Leads Q first.start xs first.end) (sym (take-append-drop cut first.arrows)) hp.path.leads) in
    let right = Leads-between Q second.start (take common second.arrows) (drop common second.arrows) second.end
    (subst (λ (xs : List ℕ). Leads Q second.start xs second.end) (sym (take-append-drop common second.arrows)) hq.path.leads) in
    let along : Leads Q left.0 (take common second.arrows) first.end = subst (λ (xs : List ℕ). Leads Q left.0 xs first.end) same left.2 in
    let starts : left.0 ≡ second.start = Leads-start Q left.0 second.start (take common second.arrows) first.end right.0 shared along right.1 in
    let ends : right.0 ≡ first.end = Leads-one Q second.start (take common second.arrows) right.0 first.end right.1 (subst (λ k. Leads Q k (take common second.arrows) first.end) starts along) in
    let lengths : length arrows ≡ path_length first + (path_length second - common) =
    (let e = ap length whole ∙ length-append first.arrows (drop common second.arrows) in let d = length-drop common second.arrows in omega arith) in
    record {
      path = record {
        starts = hp.path.starts;
        leads = subst (λ (xs : List ℕ). Leads Q first.start xs second.end) (sym whole)
            (Leads-append Q first.start first.arrows first.end (drop common second.arrows) second.end hp.path.leads (subst (λ k. Leads Q k (drop common second.arrows) second.end) ends right.2));
      };
      short = omega (arith, lengths, short);
      inside = omega (arith, at);
    }

-- slices that the test finds equal
pub shared_from_test : (first second xs ys : List ℕ) (cut : ℕ) → xs ≡ first → ys ≡ second
    → false ≡ not (pointwise nat_eq (take (length xs - cut) (drop cut xs)) (take (length xs - cut) ys)) → drop cut first ≡ take (length first - cut) second
shared_from_test first second xs ys cut e f test = elim (cases_Bool (pointwise nat_eq (take (length xs - cut) (drop cut xs)) (take (length xs - cut) ys))) [
  | inl t ↦
      ap (drop cut) (sym e) ∙ sym (take_rest xs cut) ∙ (bytes_decides (take (length xs - cut) (drop cut xs)) (take (length xs - cut) ys)).0 t
      ∙ ap₂ (λ n zs. take (n - cut) zs) (ap length e) f
  | inr t ↦ absurd (let g = test ∙ ap not t in cc)
]

pub overlap_arrows : (first second xs ys front all arrows : List ℕ) (cut : ℕ) → xs ≡ first → ys ≡ second → front ≡ xs
    → all ≡ front ++ take (length ys - (length xs - cut)) (drop (length xs - cut) ys) → arrows ≡ all → arrows ≡ first ++ drop (length first - cut) second
overlap_arrows first second xs ys front all arrows cut e f g whole is =
    is ∙ whole ∙ ap₂ (λ a b. a ++ b) (g ∙ e) (take_rest ys (length xs - cut) ∙ ap₂ (λ n zs. drop (n - cut) zs) (ap length e) f)
