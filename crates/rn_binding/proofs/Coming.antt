-- One more decision, on an item of a binding that follows those before.
use Rattle.std.proofs.Common.{◌≡◌, Bool, true, false, List, [], ◌∷◌, ◌++◌}
use Rattle.std.proofs.Common.{length-append, sym, subst, arith}
use Rattle.std.specs.Prelude.{Contains}
use Rattle.std.proofs.lemmas.List.Elements.{Contains-append_left}
use Rattle.rn_model.specs.declared.system.System.{System}
use Rattle.rn_model.specs.declared.binding.Binding.{Binding}
use Rattle.rn_model.specs.Derivation.{Item, items_of}
use Rattle.rn_model.proofs.OwnValues.{own_values_satisfy}
use Rattle.rn_growing.specs.declared.decision.Decision.{Decision}
use Rattle.rn_growing.specs.Decisions.{IsOn, AreOn}
use Rattle.rn_growing.specs.Equations.{IsSolvable}
use Rattle.rn_growing.specs.Grown.{Grown, IsNew, Tries, with_decision}
use Rattle.rn_growing.specs.Turns.{MayCome, AreInTurn}
use Rattle.rn_growing.proofs.Growth.{turns_more, contains_last}
use Rattle.rn_growing.proofs.Followers.{equations, decision_in, follows_on}
use Rattle.rn_binding.specs.link.Passing.{IsGiven, IsFollowed, BringsItem}

-- The decision may come and is new, and where it was tried the item is in or out, and the binding
-- follows.
abbrev pub Comes : System → Binding → Grown → Decision → Item → Type 0
Comes system b g d item =
    MayCome g.system g.decisions d × IsNew g.decisions d
    × ((now : Grown) (yes : Bool) → Tries g d now yes →
    BringsItem system b g item now yes × IsFollowed system b now)

module _ (system : System) (b : Binding) (given : IsGiven system b) (g : Grown)
    (same : g.system ≡ system) (items : List Item) (on : AreOn system b g.decisions items)
    (turns : AreInTurn system g.decisions) (d : Decision) (item : Item)
    (own : Contains (items_of system b) item) (is : IsOn system d item)
    (may : MayCome system g.decisions d) (new : IsNew g.decisions d) where
  abbrev after : List Decision
  after = g.decisions ++ d ∷ []

  abbrev items_after : List Item
  items_after = items ++ item ∷ []

  on_after : AreOn system b after items_after
  on_after = follows_on system b g.decisions items d item on own is

  turns_after : AreInTurn system after
  turns_after = turns_more system g.decisions d turns may new

  -- the binding's own values solve it
  solvable : IsSolvable system after
  solvable =
      let values = own_values_satisfy system b given.depth given.shape given.agrees in (
        values.0,
        (equations system b given.depth given.shape after items_after on_after turns_after values.0).0
            (λ it there. values.1.items it
            (decision_in system b after items_after on_after it there).2.0),
      )

  followed_after : IsFollowed system b (with_decision g d)
  followed_after = record {
    same = same;
    follows = (items_after, on_after);
    turns = turns_after;
    some = omega (arith, length-append g.decisions (d ∷ []));
  }

  -- and so it is taken
  pub tried : (now : Grown) (yes : Bool) → Tries g d now yes →
      BringsItem system b g item now yes × IsFollowed system b now
  tried now true t = (
    (
      λ e there. subst (λ n. Contains n.decisions e) (sym t.0)
          (Contains-append_left g.decisions (d ∷ []) e there),
      (d, subst (λ n. Contains n.decisions d) (sym t.0) (contains_last g.decisions d), is),
    ),
    subst (IsFollowed system b) (sym t.0) followed_after,
  )
  tried now false t =
      absurd (t.1 (subst (λ s. IsSolvable s after) (sym same) solvable))
