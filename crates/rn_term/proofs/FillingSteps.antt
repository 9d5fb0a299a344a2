-- Values for a store's ids, found step by step from values for its free variables.
use Rattle.std.proofs.Common.{◌≡◌, ℕ, zero, suc, List, [], ◌∷◌, ◌++◌, refl, map}
use Rattle.std.proofs.Common.{◌∙◌, ap}
use Rattle.std.specs.Prelude.{Option, Some, None}
use Rattle.std.specs.List.{Contains}
use Rattle.std.proofs.lemmas.List.Elements.{Contains-append_left, Contains-push}
use Rattle.rn_value.specs.declared.value.Value.{Value}
use Rattle.rn_value.specs.declared.value.Value.TheVariants as Value
use Rattle.rn_term.specs.declared.term.Term.{Term}
use Rattle.rn_term.specs.declared.term.Term.TheVariants as T
use Rattle.rn_term.specs.Stores.{State, term_at, link_of}
use Rattle.rn_term.specs.Occurring.{parts_of}
use Rattle.rn_term.specs.Forcing.{items_of}
use Rattle.rn_term.proofs.Parts.{same_over}
use Rattle.rn_term.proofs.Ranks.{IsWithin}

-- the elements of a value that is a list
pub items_of-list : (vs : List Value) → items_of (Value.List vs) ≡ vs
items_of-list vs = rw (Value.outs-List vs)

-- the value of an id, from those of other ids, its own where it is free, its link and its term
abbrev pub built_value : (ℕ → Value) → Value → Option ℕ → Term → Value
built_value g v (Some to) t = g to
built_value g v None T.Free = v
built_value g v None (T.Atom w) = w
built_value g v None (T.Tuple ids) = Value.Tuple (map g ids)
built_value g v None (T.List ids) = Value.List (map g ids)
built_value g v None (T.Cons ids tail) = Value.List (map g ids ++ items_of (g tail))

-- the value of an id after so many steps
abbrev pub fill : State → (ℕ → Value) → ℕ → ℕ → Value
fill s f zero id = Value.Tuple []
fill s f (suc n) id = built_value (fill s f n) (f id) (link_of s.notes id) (term_at s id)

-- the value of an id changes only where that of a part or of what it was bound to does
same_built : (g h : ℕ → Value) (v : Value) (o : Option ℕ) (t : Term) →
    ((p : ℕ) → Contains (parts_of t) p → g p ≡ h p) →
    ((to : ℕ) → o ≡ Some to → g to ≡ h to) → built_value g v o t ≡ built_value h v o t
same_built g h v (Some to) t parts bound = bound to refl
same_built g h v None T.Free parts bound = refl
same_built g h v None (T.Atom w) parts bound = refl
same_built g h v None (T.Tuple ids) parts bound =
    ap (λ vs. Value.Tuple vs) (same_over g h ids parts)
same_built g h v None (T.List ids) parts bound =
    ap (λ vs. Value.List vs) (same_over g h ids parts)
same_built g h v None (T.Cons ids tail) parts bound =
    ap (λ vs. Value.List (vs ++ items_of (g tail)))
    (same_over g h ids (λ p is. parts p (Contains-append_left ids (tail ∷ []) p is)))
    ∙ ap (λ w. Value.List (map h ids ++ items_of w)) (parts tail (Contains-push ids tail))

-- an id that is within so many steps keeps its value in the next
pub fill_settles : (s : State) (f : ℕ → Value) (n id : ℕ) → IsWithin s n id →
    fill s f (suc n) id ≡ fill s f n id
fill_settles s f zero id within = absurd within
fill_settles s f (suc n) id within =
    same_built (fill s f (suc n)) (fill s f n) (f id) (link_of s.notes id) (term_at s id)
    (λ p is. fill_settles s f n p (within.0 p is))
    (λ to is. fill_settles s f n to (within.1 to is))
