-- Looks at the flexible arcs of a node.
use Rattle.std.proofs.Common.{◌≡◌, ℕ, ◌≤◌, List, Bool, [], sym, ap, ◌∙◌, subst}
use Rattle.std.specs.Prelude.{◌↔◌, Some, IsTrue, slice_get, unwrap_or, option_map}
use Rattle.std.specs.List.Sorted.{IsPermutation}
use Rattle.std.proofs.lemmas.List.Sorted.{sum_by-IsPermutation}
use Rattle.rn_choices.specs.declared.next.Next.TheVariants.{Stuck}
use Rattle.rn_value.specs.declared.value.Value.{Value}
use Rattle.rn_model.specs.declared.system.ArcKind.TheVariants.{FlexInput}
use Rattle.rn_model.specs.declared.system.NetArc.{NetArc}
use Rattle.rn_model.specs.declared.system.Transition.{Transition}
use Rattle.rn_model.specs.Demands.{elements}
use Rattle.rn_model.specs.Lists.{same_value, count_of, IsWithin}
use Rattle.rn_model.specs.Markings.{tokens}
use Rattle.rn_model.proofs.ValueLists.{one_if}
use Rattle.rn_growing.specs.declared.decision.Head.{Head}
use Rattle.rn_growing.specs.Grown.{Grown}
use Rattle.rn_growing.proofs.Growth.{at_in}
use Rattle.rn_search.specs.Missing.{IsKnown}
use Rattle.rn_search.specs.Points.{tokens_of}
use Rattle.rn_search.specs.Sought.{Sought}
use Rattle.rn_search.proofs.Takes.{known_lists_are_there}
use Rattle.rn_looking.specs.Branches.{IsLookedAt}
use Rattle.rn_looking.specs.Forced.{IsKnownValue}
use Rattle.rn_looking.specs.Looks.{GoesOn}
use Rattle.rn_looking.proofs.LookedAt.{some, node_is, entered, known_by, vars_searched}
use Rattle.rn_looking.proofs.VarsOfForms.{flexible_searched}

-- The order of values doesn't matter for whether they are within others.
pub in_any_order : (values taken sorted given held : List Value) → taken ≡ values →
    IsPermutation taken sorted → given ≡ sorted → (told : Bool) →
    (IsTrue told ↔ IsWithin given held) → IsTrue told ↔ IsWithin values held
in_any_order values taken sorted given held from moved into told within = (
  λ is v. subst (λ n. n ≤ count_of v held) (sym (same v)) (within.0 is v),
  λ all. within.1 (λ v. subst (λ n. n ≤ count_of v held) (same v) (all v)),
)
  where
    stays : (v : Value) → count_of v taken ≡ count_of v sorted
    stays v = sym (sum_by-IsPermutation (λ w. one_if (same_value v w)) taken sorted moved)

    same : (v : Value) → count_of v values ≡ count_of v given
    same v = ap (count_of v) (sym from) ∙ stays v ∙ ap (count_of v) (sym into)

-- Where the list of one is known, and its place lacks an element of that, nothing leads on.
pub lacking_is_stuck : (sought : Sought) (g : Grown) (node : ℕ) (head : Head) (t : Transition) →
    IsLookedAt sought g node head t → (k : ℕ) (x : NetArc) (v : Value) →
    slice_get t.arcs k ≡ Some x → x.kind ≡ FlexInput → IsKnownValue g head x.inscription v →
    ¬ IsWithin (elements v) (tokens sought.marking head.inst x.place) →
    GoesOn sought g.decisions Stuck
lacking_is_stuck sought g node head t looked k x v at kind (env, knows, is) lacking b leads =
    let known : IsKnown sought.system g.decisions head x.inscription env =
    subst (λ h. IsKnown sought.system g.decisions h x.inscription env)
    (node_is sought g node head t looked)
    (known_by sought g node head t looked x.inscription env
    (vars_searched sought g node head t looked x.inscription
    (flexible_searched t x (at_in t.arcs k x at) kind)) knows) in
    let there = subst (λ u. slice_get u.arcs k ≡ Some x) looked.transition at in
    let held : tokens_of sought head k ≡ tokens sought.marking head.inst x.place =
    ap (λ o. unwrap_or (option_map
    (λ (y : NetArc). tokens sought.marking head.inst y.place) o) []) there in
    lacking (subst (IsWithin (elements v)) held
    (known_lists_are_there sought g.decisions b head k x v env leads looked.branch.sound.turns
    (some sought g node head t looked) (entered sought g node head t looked) there kind known is))
