-- What free variables allow.
use Rattle.std.proofs.Common.{◌≡◌, ◌≢◌, ⊎_elim, ◌<◌, ℕ, List, [], ◌∷◌, refl, length, sym}
use Rattle.std.proofs.Common.{◌∙◌, ap, subst}
use Rattle.std.specs.Prelude.{if◌then◌else◌, nat_eq, pos}
use Rattle.std.proofs.lemmas.Bool.{cases_lt}
use Rattle.std.proofs.lemmas.Bool.Decides.{eqb_tells}
use Rattle.std.proofs.lemmas.List.{get_or_past}
use Rattle.rn_value.specs.declared.value.Value.{Value}
use Rattle.rn_value.specs.declared.value.Value.TheVariants as Value
use Rattle.rn_term.specs.declared.term.Term.TheVariants as T
use Rattle.rn_term.specs.Stores.{State, term_at, Leads}
use Rattle.rn_term.specs.Assignments.{value_at, HasValue, Satisfies, MayBeOne, Keeps}
use Rattle.rn_term.specs.Occurring.{Occurs, IsFree, HasFree}
use Rattle.rn_term.specs.Forcing.{IsForced, IsList, IsAlwaysList, MayBeList}
use Rattle.rn_term.proofs.Agreement.{leads-same, agree, equal_occurring}
use Rattle.rn_term.proofs.Filling.{FitsTails, filled, stays_list}
use Rattle.rn_value.proofs.Variants.{same_parts_of_lists}

-- all free variables may have one list
pub all_lists : (s : State) (items : List Value) → Keeps s →
    (vs : List Value) × Satisfies s vs ×
    ((var : ℕ) → IsFree s var → value_at vs var ≡ Value.List items)
all_lists s items keeps =
    filled s (λ var. Value.List items) keeps (λ id ids tail var is leads free. (items, refl))

-- a term with a free variable isn't forced: `{}` and `{0}` for all free variables tell
pub free_is_not_forced : (s : State) → Keeps s → (id : ℕ) → id < length s.terms →
    HasFree s id → (v : Value) → IsForced s id v → ⊥
free_is_not_forced s keeps id within free v forced =
    let none = all_lists s [] keeps in
    let one = all_lists s (Value.Int (pos 0) ∷ []) keeps in
    let same : value_at none.0 free.0 ≡ value_at one.0 free.0 =
    equal_occurring s none.0 one.0 keeps none.1 one.1 free.0 id within free.2
    (forced none.0 none.1 ∙ sym (forced one.0 one.1)) in
    let alike : [] ≡ Value.Int (pos 0) ∷ [] = same_parts_of_lists [] (Value.Int (pos 0) ∷ [])
    (sym (none.2 free.0 free.1) ∙ same ∙ one.2 free.0 free.1) in
    cc

-- a value for one variable, and `{}` for the others
abbrev one_value : ℕ → Value → ℕ → Value
one_value var v id = if nat_eq id var then v else Value.List []

one_value-here : (var : ℕ) (v : Value) (id : ℕ) → id ≡ var → one_value var v id ≡ v
one_value-here var v id same = ⊎_elim
    (λ e. ap (λ b. if b then v else Value.List []) e.0)
    (λ e. absurd (e.1 same))
    (eqb_tells id var)

one_value-other : (var : ℕ) (v : Value) (id : ℕ) → id ≢ var → one_value var v id ≡ Value.List []
one_value-other var v id other = ⊎_elim
    (λ e. absurd (other e.1))
    (λ e. ap (λ b. if b then v else Value.List []) e.0)
    (eqb_tells id var)

-- it fits where it is a list, or no list ends at the variable
one_value_fits : (s : State) (var : ℕ) (v : Value) →
    ((id : ℕ) (ids : List ℕ) (tail : ℕ) → term_at s id ≡ T.Cons ids tail →
    Leads s.notes tail var → IsList v) →
    FitsTails s (one_value var v)
one_value_fits s var v list id ids tail other is leads free = ⊎_elim
    (λ e.
    let found = list id ids tail is (subst (Leads s.notes tail) e.1 leads) in
    (found.0, one_value-here var v other e.1 ∙ found.1))
    (λ e. ([], one_value-other var v other e.1))
    (eqb_tells other var)

-- a free variable at which no list ends may be other than a list
pub free_is_no_list : (s : State) → Keeps s → (var : ℕ) → IsFree s var →
    ((id : ℕ) (ids : List ℕ) (tail : ℕ) → term_at s id ≡ T.Cons ids tail →
    Leads s.notes tail var → ⊥) →
    (vs : List Value) × Satisfies s vs × (value_at vs var ≡ Value.Tuple [])
free_is_no_list s keeps var free none =
    let some = filled s (one_value var (Value.Tuple [])) keeps
    (one_value_fits s var (Value.Tuple [])
    (λ id ids tail is leads. absurd (none id ids tail is leads))) in
    (some.0, some.1, some.2 var free ∙ one_value-here var (Value.Tuple []) var refl)

-- what isn't a variable is a term of the store
pub cons_within : (s : State) (id : ℕ) (ids : List ℕ) (tail : ℕ) → term_at s id ≡ T.Cons ids tail →
    id < length s.terms
cons_within s id ids tail is = ⊎_elim
    (λ small. small)
    (λ past.
    let free : term_at s id ≡ T.Free = get_or_past s.terms id T.Free past in
    let no : ⊥ = cc (free, is) in absurd no)
    (cases_lt id (length s.terms))

-- an id at which a list ends is always a list
end_is_list : (s : State) (id : ℕ) (ids : List ℕ) (tail end : ℕ) →
    term_at s id ≡ T.Cons ids tail → Leads s.notes tail end → IsAlwaysList s end
end_is_list s id ids tail end is leads vs sat =
    let said : HasValue vs (T.Cons ids tail) (value_at vs id) =
    subst (λ t. HasValue vs t (value_at vs id)) is
    (sat.terms id (cons_within s id ids tail is)) in
    (said.0, sym (leads-same s vs tail end sat leads) ∙ said.1)

-- A free variable may be one with a term in which it doesn't occur. Where it is always a list, that
-- may be a list.
pub free_may_be : (s : State) → Keeps s → (var to : ℕ) → IsFree s var → to < length s.terms →
    (Occurs s var to → ⊥) → (IsAlwaysList s var → MayBeList s to) → MayBeOne s var to
free_may_be s keeps var to free within apart list =
    let all = all_lists s [] keeps in
    let v = value_at all.0 to in
    let some = filled s (one_value var v) keeps (one_value_fits s var v
    (λ id ids tail is leads. stays_list s to all.0 keeps within
    (list (end_is_list s id ids tail var is leads)) all.1
    (λ end ends there. ([], all.2 end there)))) in
    let same : value_at some.0 to ≡ v = agree s some.0 all.0 keeps some.1 all.1 to within
    (λ other there occurs. some.2 other there
    ∙ one_value-other var v other (λ e. apart (subst (λ x. Occurs s x to) e occurs))
    ∙ sym (all.2 other there)) in
    (some.0, some.1, some.2 var free ∙ one_value-here var v var refl ∙ sym same)

-- two free variables may be one
pub free_agree : (s : State) → Keeps s → (var to : ℕ) → IsFree s var → IsFree s to →
    MayBeOne s var to
free_agree s keeps var to free other =
    let all = all_lists s [] keeps in
    (all.0, all.1, all.2 var free ∙ sym (all.2 to other))
