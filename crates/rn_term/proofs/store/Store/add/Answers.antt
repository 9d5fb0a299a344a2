use Rattle.std.proofs.Common.{◌≡◌, List, ℕ, ◌++◌, ◌∷◌, [], length, sym, subst, ◌∙◌, ap}
use Rattle.rn_term.specs.declared.term.Term.TheVariants as T
use Rattle.rn_term.specs.declared.store.TheConstants.{NO_LIST}
use Rattle.rn_term.specs.Stores.{IsBuiltBelow}
use Rattle.rn_term.specs.Assignments.{HasListTail}
use Rattle.rn_term.specs.link.Kept.{AreLowered, IsLowAlong, last_cons, or_cons}
use Rattle.rn_term.proofs.KeepingLemmas.{kept_term}
use Rattle.rn_term.proofs.store.Store.add.Goals as goal

pub invariant_of-self-2 : goal.invariant_of-self-2
invariant_of-self-2 c =
    rw (
      c.in_ok-push-2.ensures.items,
      c.in_ok-push-3.ensures.items,
      c.in_ok-push-4.ensures.items,
      c.in_ok-push-5.ensures.items,
      c.in_ok-reserve.ensures.items,
      c.in_ok-reserve-2.ensures.items,
      c.in_ok-reserve-3.ensures.items,
      c.in_ok-reserve-5.ensures.items,
    )
    (kept_term c.self.inside.terms.items c.self.inside.links.items c.self.inside.lists.items
    c.self.inside.floors.items c.self.inside.flags.items c.self.inside.levels.items
    c.self.inside.notes.items c.args.term
    c.last_with-last.result c.lower_for.new.floors.items NO_LIST
    c.is_built_of_flagged-flag.result c.self.invariant
    (c.last_with-last.ensures ∙ ap
    (λ s. or_cons c.args.term (length s.terms) (last_cons s.terms (length s.terms)))
    (sym c.self.view_is))
    (subst (λ s. IsBuiltBelow (length s.terms) c.args.term) (sym c.self.view_is) c.requires.built)
    (subst (λ s. HasListTail s c.args.term) (sym c.self.view_is) c.requires.list)
    (subst (λ xs. AreLowered xs c.lower_for.new.floors.items)
    (c.in_ok-push.ensures.items ∙ ap (λ xs. xs ++ NO_LIST ∷ []) c.in_ok-reserve-4.ensures.items)
    c.lower_for.ensures.lowered)
    (subst (λ ts. (ids : List ℕ) (tail : ℕ) → c.args.term ≡ T.Cons ids tail →
    IsLowAlong c.self.inside.notes.items tail (length ts) c.lower_for.new.floors.items)
    c.in_ok-reserve.ensures.items c.lower_for.ensures.along)
    c.is_built_of_flagged-flag.ensures.flagged)
