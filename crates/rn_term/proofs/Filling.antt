-- Assignments that give the free variables values of one's choice.
use Rattle.std.proofs.Common.{◌≡◌, ◌<◌, ℕ, List, [], ◌∷◌, ◌++◌, refl, arith, length, map}
use Rattle.std.proofs.Common.{sym, ◌∙◌, ap, subst}
use Rattle.std.specs.Prelude.{Option, Some, None}
use Rattle.std.specs.List.{Contains, range_with_len}
use Rattle.std.proofs.lemmas.List.Elements.{Contains-append_left, Contains-push}
use Rattle.std.proofs.lemmas.List.FromFn.{length-map-range_with_len, get_or-map-range_with_len}
use Rattle.rn_value.specs.declared.value.Value.{Value}
use Rattle.rn_value.specs.declared.value.Value.TheVariants as Value
use Rattle.rn_term.specs.declared.term.Term.{Term}
use Rattle.rn_term.specs.declared.term.Term.TheVariants as T
use Rattle.rn_term.specs.Stores.{State, term_at, link_of, Leads}
use Rattle.rn_term.specs.Assignments.{value_at, HasValue, Satisfies, Keeps}
use Rattle.rn_term.specs.Occurring.{parts_of, IsFree}
use Rattle.rn_term.specs.Forcing.{IsList, MayBeList, items_of}
use Rattle.rn_term.proofs.AssignmentLemmas.{link_within}
use Rattle.rn_term.proofs.FillingSteps.{items_of-list, built_value, fill, fill_settles}
use Rattle.rn_term.proofs.Parts.{same_over}
use Rattle.rn_term.proofs.ListsAlongLinks.{HasItsKind, FollowsKinds, satisfying_follows}
use Rattle.rn_term.proofs.ListsAlongLinks.{list_along_links}
use Rattle.rn_term.proofs.Occurrences.{part_within}
use Rattle.rn_term.proofs.Ranks.{all_within}

-- free variables at which lists end get lists
abbrev pub FitsTails : State → (ℕ → Value) → Type 0
FitsTails s f = (id : ℕ) (ids : List ℕ) (tail var : ℕ) → term_at s id ≡ T.Cons ids tail →
    Leads s.notes tail var → IsFree s var → IsList (f var)

-- the value of an id after as many steps as there are terms
chosen : State → (ℕ → Value) → ℕ → Value
chosen s f id = fill s f (length s.terms) id

-- it is built of those of other ids
chosen_is_built : (s : State) (f : ℕ → Value) → Keeps s → (id : ℕ) → id < length s.terms →
    chosen s f id ≡ built_value (chosen s f) (f id) (link_of s.notes id) (term_at s id)
unfolding chosen
chosen_is_built s f keeps id within =
    sym (fill_settles s f (length s.terms) id (all_within s keeps id within))

chosen_at : (s : State) (f : ℕ → Value) → Keeps s → (id : ℕ) (o : Option ℕ) (t : Term) →
    id < length s.terms → link_of s.notes id ≡ o → term_at s id ≡ t →
    chosen s f id ≡ built_value (chosen s f) (f id) o t
chosen_at s f keeps id o t within link is =
    chosen_is_built s f keeps id within
    ∙ ap (λ l. built_value (chosen s f) (f id) l (term_at s id)) link
    ∙ ap (λ u. built_value (chosen s f) (f id) o u) is

-- so atoms have their values, and lists are lists
kind_of_built : (g : ℕ → Value) (v : Value) (t : Term) → HasItsKind t (built_value g v None t)
kind_of_built g v T.Free = tt
kind_of_built g v (T.Atom w) = refl
kind_of_built g v (T.Tuple ids) = tt
kind_of_built g v (T.List ids) = (map g ids, refl)
kind_of_built g v (T.Cons ids tail) = (map g ids ++ items_of (g tail), refl)

chosen_follows : (s : State) (f : ℕ → Value) → Keeps s → FollowsKinds s (chosen s f)
chosen_follows s f keeps = record {
  kinds = λ id within unbound.
      subst (HasItsKind (term_at s id))
      (sym (chosen_at s f keeps id None (term_at s id) within unbound refl))
      (kind_of_built (chosen s f) (f id) (term_at s id));
  links = λ id to is.
      chosen_at s f keeps id (Some to) (term_at s id) (link_within s keeps id to is).0 is refl;
}

-- the assignment of these values
chosen_values : State → (ℕ → Value) → List Value
chosen_values s f = map (chosen s f) (range_with_len 0 (length s.terms))

each_chosen : (s : State) (f : ℕ → Value) → length (chosen_values s f) ≡ length s.terms
unfolding chosen_values
each_chosen s f = length-map-range_with_len (chosen s f) 0 (length s.terms)

chosen_value : (s : State) (f : ℕ → Value) (id : ℕ) → id < length s.terms →
    value_at (chosen_values s f) id ≡ chosen s f id
unfolding chosen_values
chosen_value s f id within =
    get_or-map-range_with_len (chosen s f) 0 (length s.terms) id id (Value.Tuple []) within
    (omega arith)

-- A value built of an assignment's values is one that the term has under it, where bound ids are
-- variables, and the tail of a `Cons` has a list.
built_has_value : (vs : List Value) (g : ℕ → Value) (v : Value) (o : Option ℕ) (t : Term) →
    ((p : ℕ) → Contains (parts_of t) p → g p ≡ value_at vs p) →
    ((to : ℕ) → o ≡ Some to → t ≡ T.Free) →
    ((ids : List ℕ) (tail : ℕ) → t ≡ T.Cons ids tail → IsList (g tail)) →
    HasValue vs t (built_value g v o t)
built_has_value vs g v (Some to) t parts variable lists =
    subst (λ u. HasValue vs u (g to)) (sym (variable to refl)) tt
built_has_value vs g v None T.Free parts variable lists = tt
built_has_value vs g v None (T.Atom w) parts variable lists = refl
built_has_value vs g v None (T.Tuple ids) parts variable lists =
    ap (λ xs. Value.Tuple xs) (same_over g (value_at vs) ids parts)
built_has_value vs g v None (T.List ids) parts variable lists =
    ap (λ xs. Value.List xs) (same_over g (value_at vs) ids parts)
built_has_value vs g v None (T.Cons ids tail) parts variable lists =
    let end = lists ids tail refl in (
      end.0,
      sym (parts tail (Contains-push ids tail)) ∙ end.1,
      ap (λ xs. Value.List (xs ++ items_of (g tail))) (same_over g (value_at vs) ids
          (λ p is. parts p (Contains-append_left ids (tail ∷ []) p is)))
          ∙ ap (λ rest. Value.List (map (value_at vs) ids ++ rest))
          (ap items_of end.1 ∙ items_of-list end.0),
    )

-- the tail of a `Cons` gets a list
chosen_tail : (s : State) (f : ℕ → Value) → Keeps s → FitsTails s f →
    (id : ℕ) (ids : List ℕ) (tail : ℕ) → id < length s.terms → term_at s id ≡ T.Cons ids tail →
    IsList (chosen s f tail)
chosen_tail s f keeps fits id ids tail within is =
    let ws = keeps.satisfied.0 in
    let sat = keeps.satisfied.1 in
    let at : tail < length s.terms = part_within s keeps id tail
    (subst (λ t. Contains (parts_of t) tail) (sym is) (Contains-push ids tail)) in
    let said : HasValue ws (T.Cons ids tail) (value_at ws id) =
    subst (λ t. HasValue ws t (value_at ws id)) is (sat.terms id within) in
    list_along_links s (chosen s f) ws (length s.terms) tail keeps (chosen_follows s f keeps) sat
    (all_within s keeps tail at) at (said.0, said.1)
    (λ var leads free.
    let list = fits id ids tail var is leads free in
    (list.0, chosen_at s f keeps var None T.Free free.within free.unbound free.variable ∙ list.1))

chosen_satisfies : (s : State) (f : ℕ → Value) → Keeps s → FitsTails s f →
    Satisfies s (chosen_values s f)
chosen_satisfies s f keeps fits = record {
  each = each_chosen s f;
  terms = λ id within.
      subst (HasValue (chosen_values s f) (term_at s id))
      (sym (chosen_value s f id within ∙ chosen_is_built s f keeps id within))
      (built_has_value (chosen_values s f) (chosen s f) (f id) (link_of s.notes id) (term_at s id)
      (λ p is. sym (chosen_value s f p (part_within s keeps id p is)))
      (λ to is. (link_within s keeps id to is).2)
      (λ ids tail is. chosen_tail s f keeps fits id ids tail within is));
  links = λ id to is.
      let both = link_within s keeps id to is in
      chosen_value s f id both.0 ∙ (chosen_follows s f keeps).links id to is
      ∙ sym (chosen_value s f to both.1);
}

-- some assignment gives the free variables these values, if those at which lists end get lists
pub filled : (s : State) (f : ℕ → Value) → Keeps s → FitsTails s f →
    (vs : List Value) × Satisfies s vs ×
    ((var : ℕ) → IsFree s var → value_at vs var ≡ f var)
filled s f keeps fits = (
  chosen_values s f,
  chosen_satisfies s f keeps fits,
  λ var free. chosen_value s f var free.within
      ∙ chosen_at s f keeps var None T.Free free.within free.unbound free.variable,
)

-- an id that may be a list has one if the free variable to which it leads, if any, has a list
pub stays_list : (s : State) (id : ℕ) (vs : List Value) → Keeps s → id < length s.terms →
    MayBeList s id → Satisfies s vs →
    ((var : ℕ) → Leads s.notes id var → IsFree s var → IsList (value_at vs var)) →
    IsList (value_at vs id)
stays_list s id vs keeps within may sat lists =
    list_along_links s (value_at vs) may.0 (length s.terms) id keeps
    (satisfying_follows s vs sat) may.1 (all_within s keeps id within) within may.2 lists
