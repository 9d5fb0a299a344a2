-- What the calls of a branch promise, by what it holds.
use Rattle.std.proofs.Common.{◌≡◌, ℕ, ◌<◌, ◌≤◌, Bool, true, false, List, [], ◌∷◌, ◌++◌, length, take}
use Rattle.std.proofs.Common.{sym, ap, ◌∙◌, subst}
use Rattle.std.specs.Prelude.{Result, Option, Some, None, IfOk, IsTrue, ◌↔◌}
use Rattle.std.proofs.lemmas.Result.{IfOk-weaker}
use Rattle.rn_choices.specs.Leading.{Says, NoneLeads, IsOnly}
use Rattle.rn_choices.specs.declared.next.Next.{Next}
use Rattle.rn_choices.specs.declared.next.Next.TheVariants.{Done, Stuck, Forced}
use Rattle.rn_model.specs.declared.binding.Binding.{Binding}
use Rattle.rn_model.specs.Good.{Good}
use Rattle.rn_growing.specs.declared.decision.Decision.{Decision}
use Rattle.rn_growing.specs.Grown.{Grown, Tries, IsNew, first_decisions}
use Rattle.rn_growing.specs.Turns.{MayCome}
use Rattle.rn_search.specs.declared.point.Point.{Point}
use Rattle.rn_search.specs.declared.point.Point.TheVariants as P
use Rattle.rn_search.specs.Sought.{Sought, Leads}
use Rattle.rn_search.specs.Points.{offered, offers}
use Rattle.rn_search.specs.Missing.{MayStart}
use Rattle.rn_search.specs.Allowing.{Allows}
use Rattle.rn_search.specs.Ending.{IsMadeOf}
use Rattle.rn_search.specs.Room.{room}
use Rattle.rn_search.specs.Solving.{Passes}
use Rattle.rn_search.specs.Standing.{MayBeMade}
use Rattle.rn_search.proofs.Solved.{whole_is_only}
use Rattle.rn_looking.specs.Branches.{IsBranchOf}
use Rattle.rn_branch.specs.GoingOn.{IsAtEnd, AreHeadsIn}
use Rattle.rn_looking.specs.Looks.{Looked}
use Rattle.rn_looking.specs.Things.{IsOfEntries}
use Rattle.rn_looking.specs.declared.look.Look.{Look}
use Rattle.rn_looking.specs.declared.look.Look.TheVariants as L
use Rattle.rn_branch.proofs.GoingOn.{all_are_done, begins, goes_on, waits_in_vain}
use Rattle.rn_branch.proofs.Pushing.{heads_in, none_offered, stands_after, pushed_after}
use Rattle.rn_branch.proofs.Pushing.{room_after, kept_after, none_after, stands_before}
use Rattle.rn_branch.proofs.Whole.{is_whole}

-- What a branch holds is seen as itself.
module _ (sought : Sought) (inside self : Grown) (view : inside ≡ self)
    (stands : IsBranchOf sought self) where
  pub branch_inside : IsBranchOf sought inside
  branch_inside = subst (IsBranchOf sought) (sym view) stands

  abbrev SaysOf : Next Point → Type 0
  SaysOf next = Says (Leads sought) (offers sought) (Allows sought) (IsAtEnd sought self)
      self.decisions next

  abbrev LookedAll : Look → Type 0
  LookedAll look = Looked sought inside.decisions
      (IsOfEntries inside.decisions (length inside.decisions)) look

  -- How it goes on: with the start first,
  pub next_first : MayStart sought.system sought.marking sought.start →
      length inside.decisions ≡ 0 → SaysOf (Forced P.Start)
  next_first may none =
      begins sought self.decisions (IsAtEnd sought self) may
      (ap (λ g. length g.decisions) (sym view) ∙ none)

  -- and then by what was looked at.
  pub next_done : 0 < length inside.decisions → LookedAll L.Done → SaysOf Done
  next_done some looked =
      subst (IsAtEnd sought) view (some, all_are_done sought.system inside.decisions looked)

  pub next_stuck : 0 < length inside.decisions → LookedAll L.Waits → SaysOf Stuck
  next_stuck some looked =
      subst (λ g. NoneLeads (Leads sought) g.decisions) view
      (waits_in_vain sought inside.decisions branch_inside.sound.turns some looked.0 looked.1)

  pub next_goes : (next : Next Point) (count : ℕ) → LookedAll (L.Goes next count) → SaysOf next
  next_goes next count looked =
      subst (λ g. Says (Leads sought) (offers sought) (Allows sought) (IsAtEnd sought self)
      g.decisions next) view (goes_on sought inside.decisions (IsAtEnd sought self) next looked)

  -- What is made at the end.
  module _ (ends : IsAtEnd sought self) where
    pub ends_inside : IsAtEnd sought inside
    ends_inside = subst (IsAtEnd sought) (sym view) ends

    abbrev OnlyOf : Option Binding → Type 0
    OnlyOf found = IsOnly (Leads sought self.decisions) found

    pub none_made : ((b : Binding) → ¬ Leads sought inside.decisions b) → OnlyOf None
    none_made never = subst (λ g. NoneLeads (Leads sought) g.decisions) view never

    module _ (good : Good sought.system) (b : Binding)
        (made : IsMadeOf sought.system inside.decisions b) (yes : Bool)
        (passes : IsTrue yes ↔ Passes sought b) where
      only : (Passes sought b → IsOnly (Leads sought inside.decisions) (Some b))
          × (¬ Passes sought b → IsOnly (Leads sought inside.decisions) None)
      only =
          whole_is_only sought inside.decisions b
          (is_whole sought inside branch_inside ends_inside good b made)

      pub none_passes : yes ≡ false → OnlyOf None
      none_passes fails =
          subst (λ g. IsOnly (Leads sought g.decisions) None) view
          (only.1 (λ p. let is = passes.1 p in let never : ⊥ = cc in never))

      pub this_passes : yes ≡ true → (found : Binding) → found ≡ b → OnlyOf (Some found)
      this_passes is found same =
          subst (λ c. OnlyOf (Some c)) (sym same)
          (subst (λ g. IsOnly (Leads sought g.decisions) (Some b)) view
          (only.0 (passes.0 is)))

  -- Decisions that are made,
  module _ (ds : List Decision) (are : ds ≡ inside.decisions)
      (start : MayStart sought.system sought.marking sought.start) where
    pub push_heads : AreHeadsIn sought ds
    push_heads =
        subst (AreHeadsIn sought) (sym are)
        (heads_in sought inside.decisions start branch_inside.sound)

    module _ (point : Point) (a : ℕ) (allows : Allows sought self.decisions point a)
        (told : Option Decision) (is : told ≡ offered sought ds point a) where
      offered_inside : offered sought inside.decisions point a ≡ told
      offered_inside = ap (λ es. offered sought es point a) (sym are) ∙ sym is

      abbrev NoneLeadBy : Type 0
      NoneLeadBy =
          NoneLeads (Leads sought)
          (self.decisions ++ offers sought self.decisions point a ∷ [])

      pub push_none : told ≡ None → NoneLeadBy
      push_none none =
          subst (λ g. NoneLeads (Leads sought)
          (g.decisions ++ offers sought g.decisions point a ∷ [])) view
          (none_offered sought inside branch_inside point a (offered_inside ∙ none))

      module _ (d : Decision) (some : told ≡ Some d) where
        it_is : offered sought inside.decisions point a ≡ Some d
        it_is = offered_inside ∙ some

        made_inside : MayBeMade sought.system sought.marking sought.depth inside.decisions d
        made_inside =
            subst (λ g. Allows sought g.decisions point a) (sym view) allows d it_is

        pub push_comes : MayCome inside.system inside.decisions d
        push_comes =
            subst (λ s. MayCome s inside.decisions d) (sym branch_inside.system) made_inside.may

        pub push_fresh : IsNew inside.decisions d
        push_fresh = made_inside.fresh

        module _ {E : Type 0} (result : Result Bool E) (new : Grown)
            (tries : IfOk result (λ yes. Tries inside d new yes)) where
          pub push_stands : IfOk result (λ _. IsBranchOf sought new)
          push_stands =
              IfOk-weaker result (λ yes. Tries inside d new yes) (λ _. IsBranchOf sought new)
              (λ yes t. stands_after sought inside branch_inside point a d it_is made_inside new
              yes t) tries

          pub push_is : IfOk result (λ yes. IsTrue yes → new.decisions
              ≡ self.decisions ++ offers sought self.decisions point a ∷ [])
          push_is =
              subst (λ g. IfOk result (λ yes. IsTrue yes → new.decisions
              ≡ g.decisions ++ offers sought g.decisions point a ∷ [])) view
              (IfOk-weaker result (λ yes. Tries inside d new yes) (λ yes. IsTrue yes →
              new.decisions
              ≡ inside.decisions ++ offers sought inside.decisions point a ∷ [])
              (λ yes t. pushed_after sought inside branch_inside point a d it_is made_inside new
              yes t) tries)

          pub push_room : IfOk result (λ yes. IsTrue yes →
              room sought.system sought.depth new.decisions
              < room sought.system sought.depth self.decisions)
          push_room =
              subst (λ g. IfOk result (λ yes. IsTrue yes →
              room sought.system sought.depth new.decisions
              < room sought.system sought.depth g.decisions)) view
              (IfOk-weaker result (λ yes. Tries inside d new yes) (λ yes. IsTrue yes →
              room sought.system sought.depth new.decisions
              < room sought.system sought.depth inside.decisions)
              (λ yes t. room_after sought inside branch_inside point a d it_is made_inside new
              yes t) tries)

          pub push_kept : IfOk result
              (λ _. take (length self.decisions) new.decisions ≡ self.decisions)
          push_kept =
              subst (λ g. IfOk result
              (λ _. take (length g.decisions) new.decisions ≡ g.decisions)) view
              (IfOk-weaker result (λ yes. Tries inside d new yes)
              (λ _. take (length inside.decisions) new.decisions ≡ inside.decisions)
              (λ yes t. kept_after sought inside branch_inside point a d it_is made_inside new
              yes t) tries)

          pub push_never : IfOk result (λ yes. yes ≡ false → NoneLeadBy)
          push_never =
              subst (λ g. IfOk result (λ yes. yes ≡ false → NoneLeads (Leads sought)
              (g.decisions ++ offers sought g.decisions point a ∷ []))) view
              (IfOk-weaker result (λ yes. Tries inside d new yes) (λ yes. yes ≡ false →
              NoneLeads (Leads sought)
              (inside.decisions ++ offers sought inside.decisions point a ∷ []))
              (λ yes t. none_after sought inside branch_inside point a d it_is made_inside new
              yes t) tries)

  -- and taken back.
  module _ (n : ℕ) (new : Grown) (back : new ≡ first_decisions n inside) where
    pub undo_stands : n ≤ length self.decisions → IsBranchOf sought new
    undo_stands within =
        subst (IsBranchOf sought) (sym back)
        (stands_before sought inside n
        (subst (λ g. n ≤ length g.decisions) (sym view) within) branch_inside)

    pub undo_is : new.decisions ≡ take n self.decisions
    undo_is = ap (λ g. g.decisions) back ∙ ap (λ g. take n g.decisions) view
