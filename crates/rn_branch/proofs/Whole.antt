-- What is made at the end of a branch is whole: nothing is left, and it starts at the start.
use Rattle.std.proofs.Common.{◌≡◌, ℕ, zero, suc, ◌+◌, ◌<◌, true, List, [], ◌∷◌}
use Rattle.std.proofs.Common.{length}
use Rattle.std.proofs.Common.{get_or, refl, sym, ap, ◌∙◌, subst, arith}
use Rattle.std.specs.Prelude.{Some, None, slice_get, Contains, All, find, nat_eq}
use Rattle.std.specs.List.{AllAdjacentBelow}
use Rattle.std.specs.Cmp.Lexicographic.{pointwise, slice_cmp}
use Rattle.std.specs.Ordering.{nat_cmp}
use Rattle.std.specs.declared.cmp.Ordering.TheVariants.{Less}
use Rattle.rn_model.specs.declared.binding.Node.{Node}
use Rattle.rn_model.specs.declared.binding.Binding.{Binding}
use Rattle.rn_model.specs.Bindings.{node_at}
use Rattle.rn_model.specs.Good.{Good}
use Rattle.rn_choices.specs.Leading.{NoneLeads}
use Rattle.rn_growing.specs.declared.decision.Decision.{Decision}
use Rattle.rn_growing.specs.declared.decision.Decision.TheVariants.{Entered}
use Rattle.rn_growing.specs.Decisions.{transition_in}
use Rattle.rn_growing.specs.Equations.{IsForced}
use Rattle.rn_growing.specs.Grown.{Grown}
use Rattle.rn_growing.specs.Turns.{IsEntered, MayCome, AreInTurn}
use Rattle.rn_search.specs.Sought.{Sought, StartsAt, Leads}
use Rattle.rn_search.specs.Points.{node_on}
use Rattle.rn_search.specs.Ending.{IsMadeOf}
use Rattle.rn_search.specs.Solving.{IsWhole}
use Rattle.rn_search.proofs.Ends.{leading_forces}
use Rattle.rn_looking.specs.Branches.{IsBranchOf}
use Rattle.rn_branch.specs.GoingOn.{IsAtEnd}
use Rattle.rn_branch.specs.Making.{AreAllForced}
use Rattle.rn_branch.proofs.Pushing.{first_enters}

-- Of nodes that ascend by path, the one on the empty path is the first.
abbrev Before : Node → Node → Type 0
Before x y = slice_cmp nat_cmp x.path y.path ≡ Less

abbrev Ascend : List Node → Type 0
Ascend nodes = AllAdjacentBelow Before nodes (length nodes)

none_below_start : (p q : List ℕ) → q ≡ [] → slice_cmp nat_cmp p q ≡ Less → ⊥
none_below_start [] [] e less = let no : ⊥ = cc in no
none_below_start (i ∷ p) [] e less = let no : ⊥ = cc in no
none_below_start p (j ∷ q) e less = let no : ⊥ = cc in no

-- there is none before it, since that would be below it
not_later : (xs : List Node) (x : Node) (k : ℕ) (y : Node) → Ascend (x ∷ xs) → k < length xs →
    get_or xs k y ≡ y → y.path ≡ [] → ⊥
not_later (z ∷ zs) x zero y up h e empty =
    none_below_start x.path y.path empty (subst (Before x) e (up 0 y (omega arith)))
not_later (z ∷ zs) x (suc k) y up h e empty =
    not_later zs z k y
    (λ j d h. let next : suc j + 1 ≡ suc (j + 1) = omega arith in
    subst (λ n. Before (get_or (z ∷ zs) j d) (get_or (x ∷ z ∷ zs) n d)) next
    (up (suc j) d (omega (arith, h))))
    (omega (arith, h)) e empty
not_later [] x k y up h e empty = let no : ⊥ = omega (arith, h) in no

first_is_start : (b : Binding) (node : Node) → Ascend b.nodes → Contains b.nodes node →
    node.path ≡ [] → node_at b [] ≡ Some node
first_is_start b node up there empty = by b.nodes up there
  where
    by : (nodes : List Node) → Ascend nodes → Contains nodes node →
        find (λ n. pointwise nat_eq n.path []) nodes ≡ Some node
    by [] up (k, h, e) = absurd (let no : ⊥ = omega (arith, h) in no)
    by (x ∷ xs) up (zero, h, e) =
        let path : x.path ≡ [] = ap (λ n. n.path) e ∙ empty in
        let tied : pointwise nat_eq x.path [] ≡ true =
        subst (λ p. pointwise nat_eq p [] ≡ true) (sym path) refl in
        rw tied (ap Some e)
    by (x ∷ xs) up (suc k, h, e) =
        absurd (not_later xs x k node up (omega (arith, h)) e empty)

-- the start was entered first
start_entered : (sought : Sought) (ds : List Decision) → AreInTurn sought.system ds →
    0 < length ds → ((d : Decision) → slice_get ds 0 ≡ Some d → node_on d ≡ sought.start) →
    IsEntered ds sought.start × (sought.start.path ≡ [])
start_entered sought [] turns some starts = absurd (let no : ⊥ = omega (arith, some) in no)
start_entered sought (d ∷ ds) turns some starts =
    let may = turns.came 0 d refl in
    let enters = first_enters sought.system d may in
    let start : enters.0 ≡ sought.start = ap node_on (sym enters.1) ∙ starts d refl in
    let empty : MayCome sought.system [] (Entered enters.0 None) =
    subst (MayCome sought.system []) enters.1 may in (
      (None, (0, omega arith, enters.1 ∙ ap (λ h. Entered h None) start)),
      ap (λ h. h.path) (sym start) ∙ empty.1,
    )

module _ (sought : Sought) (g : Grown) (branch : IsBranchOf sought g)
    (ends : IsAtEnd sought g) where
  starts_there : (b : Binding) → IsMadeOf sought.system g.decisions b → StartsAt b sought.start
  starts_there b made =
      let start = start_entered sought g.decisions branch.sound.turns ends.0 branch.start in
      let n = made.nodes sought.start start.0 in (
        n.0,
        first_is_start b n.0 made.ascending n.1 (ap (λ h. h.path) (sym n.2) ∙ start.1),
        sym n.2,
      )

  pub is_whole : Good sought.system → (b : Binding) → IsMadeOf sought.system g.decisions b →
      IsWhole sought g.decisions b
  is_whole good b made = record {
    good = good;
    sound = branch.sound;
    some = ends.0;
    solvable = branch.solvable;
    done = ends.1;
    made = made;
    starts = starts_there b made;
  }

  -- where a variable isn't forced, nothing leads on
  pub unforced : ¬ AreAllForced g → NoneLeads (Leads sought) g.decisions
  unforced never b leads =
      never (λ head entered.
      subst (λ s. All (λ x. IsForced s g.decisions (λ a. Some (a.var head.path x)))
      (transition_in s head).vars) (sym branch.system)
      (leading_forces sought g.decisions b branch.sound.turns ends.0 ends.1 leads head entered))
