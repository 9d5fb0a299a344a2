-- Single nodes, and those after them.
use Rattle.std.proofs.Common.{◌≡◌, ℕ, Bool, true, false, cond, List, [], ◌∷◌, ◌++◌, refl, sym, ap, ◌∙◌, subst, append_assoc}
use Rattle.std.specs.Prelude.{IsTrue, ◌↔◌, bytes_eq, Option, drop}
use Rattle.std.proofs.lemmas.Bool.{false≢true}
use Rattle.std.proofs.lemmas.Slice.Eq.{bytes_eq-Decides}
use Rattle.std.proofs.lemmas.List.{append-nil}
use Rattle.rn_value.specs.Grammar.{IsNumeral}
use Rattle.rn_value.specs.Text.{numeral}
use Rattle.rn_value.proofs.Numerals.{IsNumeral-numeral, numeral_only}
use Rattle.rn_model.specs.declared.system.System.{System}
use Rattle.rn_lines.specs.LineText.{LineSaid}
use Rattle.rn_lines.specs.NodeText.{NodeSaid}
use Rattle.rn_record_reader.specs.Paths.{children}
use Rattle.rn_record_reader.specs.Nodes.{is_step, Placed, Stop, nodes_from, with_node, placed_at, count_called}
use Rattle.rn_record_reader.specs.link.NodesAhead.{with_nodes}
use Rattle.rn_record_reader.specs.declared.role.Role.{Role}

-- a test of a step's digits
pub step_is : (step : ℕ) (digits : List ℕ) (b : Bool) → (IsTrue b ↔ IsNumeral step digits) →
    b ≡ is_step step digits
step_is step digits true is =
    let spelled : IsNumeral step digits = is.0 refl in
    sym ((bytes_eq-Decides digits (numeral step)).1 (numeral_only spelled))
step_is step digits false is = by (bytes_eq digits (numeral step)) (bytes_eq-Decides digits (numeral step)).0
  where
    by : (e : Bool) → (e ≡ true → digits ≡ numeral step) → false ≡ e
    by false same = refl
    by true same = absurd (false≢true (is.1 (subst (IsNumeral step) (sym (same refl)) (IsNumeral-numeral step))))

-- One more node is read.
module _ (system : System) (role : Role) (xs : List Placed) (before : List (List ℕ)) (path : List ℕ)
    (lines : List (Option LineSaid)) (all : List Placed × Stop) where
  nodes_here : before ≡ path ∷ drop 1 before → (read : List Placed × Stop) →
      nodes_from system role (path ∷ drop 1 before) lines ≡ read →
      with_nodes xs (nodes_from system role before lines) ≡ all → with_nodes xs read ≡ all
  nodes_here due read is so_far =
      ap (with_nodes xs) (sym is)
      ∙ ap (λ ps. with_nodes xs (nodes_from system role ps lines)) (sym due)
      ∙ so_far

  pub node_on : (after : List (List ℕ)) (ys : List Placed) (x : Placed) (n : NodeSaid) (count : ℕ)
      (rest : List (Option LineSaid)) → before ≡ path ∷ drop 1 before →
      nodes_from system role (path ∷ drop 1 before) lines
      ≡ with_node (placed_at system path n)
      (nodes_from system role (children path (count_called system n) ++ drop 1 before) rest) →
      x ≡ placed_at system path n → count ≡ count_called system n →
      after ≡ children path count ++ drop 1 before → ys ≡ xs ++ x ∷ [] →
      with_nodes xs (nodes_from system role before lines) ≡ all →
      with_nodes ys (nodes_from system role after rest) ≡ all
  node_on after ys x n count rest due step is counted next more so_far =
      let read : List Placed × Stop = nodes_from system role (children path (count_called system n) ++ drop 1 before) rest in
      ap (λ ps. with_nodes ys (nodes_from system role ps rest)) next
      ∙ ap (λ k. with_nodes ys (nodes_from system role (children path k ++ drop 1 before) rest)) counted
      ∙ ap (λ zs. with_nodes zs read) more
      ∙ ap (λ zs. (zs, read.1)) (append_assoc xs (x ∷ []) read.0)
      ∙ ap (λ y. with_nodes xs (with_node y read)) is
      ∙ nodes_here due (with_node (placed_at system path n) read) step so_far

  pub node_stops : (s t : Stop) → before ≡ path ∷ drop 1 before →
      nodes_from system role (path ∷ drop 1 before) lines ≡ ([], s) → t ≡ s →
      with_nodes xs (nodes_from system role before lines) ≡ all → (xs, t) ≡ all
  node_stops s t due step is so_far =
      ap (λ t. (xs, t)) is ∙ ap (λ ys. (ys, s)) (sym (append-nil xs))
      ∙ nodes_here due ([], s) step so_far

pub paths_due : (done : Bool) (path : List ℕ) (later : List (List ℕ)) → done ≡ false →
    cond done [] (path ∷ later) ≡ path ∷ drop 1 (cond done [] (path ∷ later))
paths_due done path later h = rw h refl
