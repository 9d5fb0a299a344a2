-- What is returned of a variable.
use Rattle.std.specs.Prelude.{Bool, true, false, IsTrue, is_some}
use Rattle.std.proofs.Common.{◌<◌, length}
use Rattle.std.proofs.Common.{◌≡◌, ℕ, List, [], refl, sym, ap, ◌∙◌, subst, pos}
use Rattle.std.proofs.lemmas.Option.{same_Some}
use Rattle.std.specs.Prelude.{Option, Some, None, Result, Ok, Err, IfOk, ◌↔◌}
use Rattle.std.specs.Option.{option_map_or}
use Rattle.rn_value.specs.declared.value.Value.{Value}
use Rattle.rn_value.specs.declared.value.Value.TheVariants as Value
use Rattle.rn_term.specs.declared.term.Term.TheVariants as T
use Rattle.rn_term.specs.Stores.{State, Leads, link_of, term_at}
use Rattle.rn_term.proofs.FreeVariables.{free_is_not_forced}
use Rattle.rn_term.proofs.GroundingLemmas.{atom_is_forced, free_at_end}
use Rattle.rn_term.specs.Assignments.{Keeps, value_at}
use Rattle.rn_term.specs.Forcing.{IsForced}
use Rattle.rn_model.specs.declared.system.System.{System}
use Rattle.rn_model.specs.Derivation.{Assignment}
use Rattle.rn_model.specs.Evaluation.{int_of}
use Rattle.rn_model.proofs.EvaluationLemmas.{int_of-Int}
use Rattle.rn_growing.specs.declared.decision.Decision.{Decision}
use Rattle.rn_growing.specs.Equations.{IsForcedTo, IsForced as IsDecided}
use Rattle.rn_growing.specs.link.Layouts.{Layout, asked, id_of, AreRead}
use Rattle.rn_growing.specs.link.Laid.{LaidState, IsGiven}
use Rattle.rn_growing.specs.declared.slot.Unknown.{Unknown}
use Rattle.rn_growing.specs.declared.slot.Unknown.TheVariants.{Var, Hole}
use Rattle.rn_growing.specs.link.Grown.{Says}
use Rattle.rn_growing.proofs.SameUnknowns.{as_site, site_of-is}

-- the unknowns' values by an assignment of a store, and another value for those without an id
pub assigned : Layout → List Value → Value → Assignment
assigned l vs w = record {
  var = λ path x. option_map_or (value_at vs) (l path (Var x)) w;
  hole = λ path site way. option_map_or (value_at vs) (l path (Hole (as_site site) way)) w;
}

assigned_is : (l : Layout) (vs : List Value) (w : Value) (path : List ℕ) (u : Unknown) →
    asked (assigned l vs w) path u ≡ option_map_or (value_at vs) (l path u) w
unfolding assigned
assigned_is l vs w path (Var x) = refl
assigned_is l vs w path (Hole site way) =
    ap (λ s. option_map_or (value_at vs) (l path (Hole s way)) w) (site_of-is site)

pub assigned_reads : (l : Layout) (vs : List Value) (w : Value) → AreRead l (assigned l vs w) vs
assigned_reads l vs w path u id at = assigned_is l vs w path u
    ∙ ap (λ o. option_map_or (value_at vs) o w) at

assigned_other : (l : Layout) (vs : List Value) (w : Value) (path : List ℕ) (u : Unknown) →
    l path u ≡ None → asked (assigned l vs w) path u ≡ w
assigned_other l vs w path u none = assigned_is l vs w path u
    ∙ ap (λ o. option_map_or (value_at vs) o w) none

forced_given : (laid : LaidState) (path : List ℕ) (u : Unknown) (id : ℕ) (v : Value) →
    id_of laid.slots path u ≡ Some id → IsForced laid.store id v ↔ IsGiven laid path u v
forced_given laid path u id v at = (
  λ forced a given. given.2 path u id at ∙ forced given.0 given.1,
  λ all vs sat.
      let l = id_of laid.slots in
      sym (assigned_reads l vs (Value.Tuple []) path u id at)
      ∙ all (assigned l vs (Value.Tuple [])) (vs, sat, assigned_reads l vs (Value.Tuple [])),
)

not_an_int : Value.Tuple [] ≡ Value.Int (pos 0) → ⊥
not_an_int e =
    let same : int_of (Value.Tuple []) ≡ Some (pos 0) = ap int_of e ∙ int_of-Int (pos 0) in
    let none : int_of (Value.Tuple []) ≡ None = rw (Value.outs-Tuple []) in
    let no : ⊥ = cc in no

never_given : (laid : LaidState) (path : List ℕ) (u : Unknown) (v : Value) → Keeps laid.store →
    id_of laid.slots path u ≡ None → IsGiven laid path u v → ⊥
never_given laid path u v keeps none all =
    let l = id_of laid.slots in
    let vs = keeps.satisfied.0 in
    let value : (w : Value) → w ≡ v = λ w. sym (assigned_other l vs w path u none)
    ∙ all (assigned l vs w) (vs, keeps.satisfied.1, assigned_reads l vs w) in
    not_an_int (value (Value.Tuple []) ∙ sym (value (Value.Int (pos 0))))

-- the answers of the calls
pub given_some : {E : Type 0} (result : Result (Option Value) E) (s : State) (laid : LaidState)
    (path : List ℕ) (u : Unknown) (id : ℕ) → s ≡ laid.store → id_of laid.slots path u ≡ Some id →
    IfOk result (λ told. (v : Value) → (told ≡ Some v) ↔ IsForced s id v) →
    IfOk result (λ told. (v : Value) → (told ≡ Some v) ↔ IsGiven laid path u v)
given_some (Err e) s laid path u id is at told = tt
given_some (Ok o) s laid path u id is at told = λ v.
    let forced = subst (λ t. (o ≡ Some v) ↔ IsForced t id v) is (told v) in
    let given = forced_given laid path u id v at in
    (λ e. given.0 (forced.0 e), λ all. forced.1 (given.1 all))

pub given_none : (laid : LaidState) (path : List ℕ) (u : Unknown) (v : Value) → Keeps laid.store →
    id_of laid.slots path u ≡ None → (None ≡ Some v) ↔ IsGiven laid path u v
given_none laid path u v keeps none =
    (λ e. absurd (let no : ⊥ = cc in no), λ all. absurd (never_given laid path u v keeps none all))

-- whether all assignments given give an unknown one value
pub given_never : (laid : LaidState) (path : List ℕ) (u : Unknown) → Keeps laid.store →
    id_of laid.slots path u ≡ None → IsTrue false ↔ ((v : Value) × IsGiven laid path u v)
given_never laid path u keeps none = (
  λ e. absurd (let no : ⊥ = cc in no),
  λ (v, all). absurd (never_given laid path u v keeps none all),
)

pub given_free : (laid : LaidState) (path : List ℕ) (u : Unknown) (id end : ℕ) →
    Keeps laid.store → id < length laid.store.terms → id_of laid.slots path u ≡ Some id →
    Leads laid.store.notes id end → end < length laid.store.terms →
    T.Free ≡ term_at laid.store end → link_of laid.store.notes end ≡ None →
    IsTrue false ↔ ((v : Value) × IsGiven laid path u v)
given_free laid path u id end keeps within at leads end_in is unbound = (
  λ e. absurd (let no : ⊥ = cc in no),
  λ (v, all). absurd
      (free_is_not_forced laid.store keeps id within
      (free_at_end laid.store id end leads end_in is unbound) v
      ((forced_given laid path u id v at).1 all)),
)

pub given_atom : (laid : LaidState) (path : List ℕ) (u : Unknown) (id end : ℕ) (w : Value) →
    id_of laid.slots path u ≡ Some id → Leads laid.store.notes id end →
    end < length laid.store.terms → T.Atom w ≡ term_at laid.store end →
    IsTrue true ↔ ((v : Value) × IsGiven laid path u v)
given_atom laid path u id end w at leads end_in is = (
  λ e. (
    w,
    (forced_given laid path u id w at).0
        (atom_is_forced laid.store id end w w leads end_in is refl),
  ),
  λ all. refl,
)

pub given_ground : (laid : LaidState) (path : List ℕ) (u : Unknown) (id : ℕ) (o : Option Value) →
    id_of laid.slots path u ≡ Some id →
    ((v : Value) → (o ≡ Some v) ↔ IsForced laid.store id v) →
    IsTrue (is_some o) ↔ ((v : Value) × IsGiven laid path u v)
given_ground laid path u id None at told = (
  λ e. absurd (let no : ⊥ = cc in no),
  λ (v, all).
      let some : None ≡ Some v = (told v).1 ((forced_given laid path u id v at).1 all) in
      absurd (let no : ⊥ = cc in no),
)
given_ground laid path u id (Some w) at told = (
  λ e. (w, (forced_given laid path u id w at).0 ((told w).0 refl)),
  λ all. refl,
)

pub forced_answer : {E : Type 0} (result : Result (Option Value) E) (system : System)
    (laid : LaidState) (ds : List Decision) (path : List ℕ) (u : Unknown) → Says system laid ds →
    IfOk result (λ told. (v : Value) → (told ≡ Some v) ↔ IsGiven laid path u v) →
    IfOk result (λ told. (v : Value) →
    (told ≡ Some v) ↔ IsForcedTo system ds (λ a. Some (asked a path u)) v)
forced_answer (Err e) system laid ds path u says told = tt
forced_answer (Ok o) system laid ds path u says told = λ v. (
  λ e a solves. ap Some ((told v).0 e a ((says.exact a).0 solves)),
  λ forced. (told v).1
      (λ a given. same_Some (asked a path u) v (forced a ((says.exact a).1 given))),
)

pub forced_told : {E : Type 0} (result : Result Bool E) (system : System) (laid : LaidState)
    (ds : List Decision) (path : List ℕ) (u : Unknown) → Says system laid ds →
    IfOk result (λ told. IsTrue told ↔ ((v : Value) × IsGiven laid path u v)) →
    IfOk result (λ told. IsTrue told ↔ IsDecided system ds (λ a. Some (asked a path u)))
forced_told (Err e) system laid ds path u says told = tt
forced_told (Ok yes_or_no) system laid ds path u says told = (
  λ e.
      let given = told.0 e in
      (given.0, λ a solves. ap Some (given.1 a ((says.exact a).0 solves))),
  λ forced. told.1 (
    forced.0,
    λ a given. same_Some (asked a path u) forced.0 (forced.1 a ((says.exact a).1 given)),
  ),
)
