-- What equations bring that come in one after another.
use Rattle.std.proofs.Common.{◌≡◌, ◌≤◌, ◌<◌, ◌+◌, ◌⊎◌, ℕ, Bool, true, false, List, [], length}
use Rattle.std.proofs.Common.{take, refl, sym, ap, ◌∙◌, subst, inl, inr, arith}
use Rattle.std.specs.Prelude.{Option, Some, None, Result, Ok, Err, IfOk, ◌↔◌, slice_get}
use Rattle.std.proofs.lemmas.Option.{same_Some, slice_get_within}
use Rattle.std.proofs.lemmas.List.{take-take, take_all}
use Rattle.rn_value.specs.declared.value.InstRef.TheVariants.{New}
use Rattle.rn_value.specs.declared.value.Value.{Value}
use Rattle.rn_term.specs.Assignments.{Satisfies}
use Rattle.rn_unify.proofs.EarlierMarks.{grown}
use Rattle.rn_model.specs.declared.expr.Expr.{Expr}
use Rattle.rn_model.specs.declared.system.System.{System}
use Rattle.rn_model.specs.declared.system.Transition.{Transition}
use Rattle.rn_model.specs.declared.system.NetArc.{NetArc}
use Rattle.rn_model.specs.declared.system.Creation.{Creation}
use Rattle.rn_model.specs.declared.system.Downlink.{Downlink}
use Rattle.rn_model.specs.Lists.{HaveOneValue}
use Rattle.rn_model.specs.Systems.{uplink_args}
use Rattle.rn_model.specs.Derivation.{Assignment, left, right, uplink_arg, downlink_arg, arc}
use Rattle.rn_growing.specs.declared.decision.Head.{Head}
use Rattle.rn_growing.specs.declared.decision.Caller.{Caller}
use Rattle.rn_growing.specs.declared.decision.Decision.TheVariants.{Found}
use Rattle.rn_growing.specs.Decisions.{transition_in}
use Rattle.rn_growing.specs.Equations.{Brings, EntryBrings, read_at}
use Rattle.rn_growing.specs.link.Entering.{EqualityHolds, CreationHolds, ArgHolds, AllBelow, AllHold}
use Rattle.rn_growing.specs.link.Entering.{ArgsHold}
use Rattle.rn_growing.specs.link.Layouts.{id_of, IsLaidIn, IsReadAs}
use Rattle.rn_growing.specs.link.Building.{GetsValue}
use Rattle.rn_growing.specs.link.Laid.{LaidState, Adds, Grows, Builds, NeverHas, Equates}
use Rattle.rn_growing.specs.link.Grown.{BringsIn}
use Rattle.rn_growing.proofs.LaidSteps.{goes_back-same, brings_alike, read_later, two_terms}

-- what was laid grew from itself
pub grows_not : (laid : LaidState) → Grows laid laid
grows_not laid =
    record {
      store = λ m within. refl;
      slots =
          take_all (length laid.slots) laid.slots (omega arith);
    }

-- an equation that always holds
pub brings_nothing : (laid : LaidState) (equation : Assignment → Type 0) →
    ((a : Assignment) → equation a) → Adds laid equation laid
brings_nothing laid equation always = record {
  back = goes_back-same laid;
  exact = λ a. (λ given. (given, always a), λ both. both.0);
}

-- two equations one after the other
pub then_brings : (old mid new : LaidState) (first second both : Assignment → Type 0) (told : Bool)
    → Adds old first mid → Grows old mid → BringsIn mid second new told →
    ((a : Assignment) → both a ↔ (first a × second a)) → BringsIn old both new told
then_brings old mid new first second both true adds more brings is = record {
  back = λ vs sat.
      let low = (grown old.store mid.store more.store).not_later.0 in
      subst (Satisfies old.store)
      (take-take (length old.store.terms) (length mid.store.terms) vs low)
      (adds.back (take (length mid.store.terms) vs) (brings.back vs sat));
  exact = λ a. (
    λ given.
        let late = (brings.exact a).0 given in
        let early = (adds.exact a).0 late.0 in
        (early.0, (is a).1 (early.1, late.1)),
    λ held.
        let each = (is a).0 held.1 in
        (brings.exact a).1 ((adds.exact a).1 (held.0, each.0), each.1),
  );
}
then_brings old mid new first second both false adds more brings is =
    λ a given held. let each = (is a).0 held in brings a ((adds.exact a).1 (given, each.0)) each.1

pub then_brings_answer : {E : Type 0} (result : Result Bool E) (old mid new : LaidState)
    (first second both : Assignment → Type 0) → Adds old first mid → Grows old mid →
    IfOk result (λ told. BringsIn mid second new told) →
    ((a : Assignment) → both a ↔ (first a × second a)) →
    IfOk result (λ told. BringsIn old both new told)
then_brings_answer (Err e) old mid new first second both adds more brings is = tt
then_brings_answer (Ok told) old mid new first second both adds more brings is =
    then_brings old mid new first second both told adds more brings is

-- an equation that never holds, as part of another
pub never_part : (old new : LaidState) (part whole : Assignment → Type 0) →
    BringsIn old part new false → ((a : Assignment) → whole a → part a) →
    BringsIn old whole new false
never_part old new part whole never is a given held = never a given (is a held)

nat_split : (k n : ℕ) → (k < n) ⊎ (n ≤ k)
nat_split k n = grind arith

-- equations by their indices
module _ (holds : Assignment → ℕ → Type 0) where
  pub none_below : (laid : LaidState) → Adds laid (AllBelow holds 0) laid × Grows laid laid
  none_below laid = (
    brings_nothing laid (AllBelow holds 0)
        (λ a k h. absurd (let no : ⊥ = omega (arith, h) in no)),
    grows_not laid,
  )

  at_end : (a : Assignment) (i k : ℕ) → AllBelow holds i a → holds a i → k < i + 1 → holds a k
  at_end a i k below here less = elim (nat_split k i) [
    | inl before ↦ below k before
    | inr last ↦ let same : i ≡ k = omega (arith, last, less) in subst (holds a) same here
  ]

  pub one_more : (a : Assignment) (i : ℕ) →
      AllBelow holds (i + 1) a ↔ (AllBelow holds i a × holds a i)
  one_more a i = (
    λ all. ((λ k h. all k (omega (arith, h))), all i (omega arith)),
    λ both k h. at_end a i k both.0 both.1 h,
  )

  pub brings_more : (old mid new : LaidState) (i : ℕ) → Adds old (AllBelow holds i) mid →
      Grows old mid → BringsIn mid (λ a. holds a i) new true →
      Adds old (AllBelow holds (i + 1)) new
  brings_more old mid new i adds more brings =
      then_brings old mid new (AllBelow holds i) (λ a. holds a i) (AllBelow holds (i + 1)) true
      adds more brings (λ a. one_more a i)

  pub brings_never : (old mid new : LaidState) (i : ℕ) → Adds old (AllBelow holds i) mid →
      BringsIn mid (λ a. holds a i) new false → BringsIn old (AllHold holds) new false
  brings_never old mid new i adds never a given all =
      never a ((adds.exact a).1 (given, (λ k h. all k))) (all i)

  pub brings_all : (old new : LaidState) (n : ℕ) → Adds old (AllBelow holds n) new →
      ((a : Assignment) (k : ℕ) → n ≤ k → holds a k) → Adds old (AllHold holds) new
  brings_all old new n adds past = brings_alike old new (AllBelow holds n) (AllHold holds) true
      (λ a. (
        λ below k. elim (nat_split k n) [ inl h ↦ below k h | inr h ↦ past a k h ],
        λ all k
            h. all k,
      )) adds

past_end : {A : Type 0} (xs : List A) (n k : ℕ) (x : A) → length xs ≤ n → n ≤ k →
    slice_get xs k ≡ Some x → ⊥
past_end xs n k x long late at = let within = slice_get_within xs k x at in let no : ⊥ =
    omega (arith, long, late, within) in no

-- equalities
module _ (head : Head) (equalities : List (Expr × Expr)) where
  pub equality_is : (i : ℕ) (e : Expr × Expr) → slice_get equalities i ≡ Some e →
      (a : Assignment) →
      HaveOneValue (read_at a head (left i) e.0) (read_at a head (right i) e.1) ↔ EqualityHolds
      head equalities a i
  equality_is i e there a = (
    λ one f at. subst
        (λ x. HaveOneValue (read_at a head (left i) x.0) (read_at a head (right i) x.1))
        (same_Some e f (sym there ∙ at)) one,
    λ all. all e there,
  )

  pub equalities_past : (n : ℕ) → length equalities ≤ n → (a : Assignment) (k : ℕ) → n ≤ k →
      EqualityHolds head equalities a k
  equalities_past n long a k late e at = absurd (past_end equalities n k e long late at)

-- creations
module _ (head : Head) (creations : List Creation) where
  pub creation_is : (j : ℕ) (c : Creation) → slice_get creations j ≡ Some c → (a : Assignment) →
      (Some (a.var head.path c.var) ≡ Some (Value.Inst (New head.path j))) ↔ CreationHolds head
      creations a j
  creation_is j c there a = (
    λ one d at. subst (λ x. a.var head.path x.var ≡ Value.Inst (New head.path j))
        (same_Some c d (sym there ∙ at))
        (same_Some (a.var head.path c.var) (Value.Inst (New head.path j)) one),
    λ all. ap Some (all c there),
  )

  pub creations_past : (n : ℕ) → length creations ≤ n → (a : Assignment) (k : ℕ) → n ≤ k →
      CreationHolds head creations a k
  creations_past n long a k late c at = absurd (past_end creations n k c long late at)

-- arguments
module _ (from : Caller) (args : List Expr) (head : Head) (others : List Expr) where
  pub arg_is : (k : ℕ) (e f : Expr) → slice_get args k ≡ Some e → slice_get others k ≡ Some f →
      (a : Assignment) →
      HaveOneValue (read_at a from.head (downlink_arg from.downlink k) e)
      (read_at a head (uplink_arg k) f) ↔ ArgHolds from args head others a k
  arg_is k e f there here a = (
    λ one x y at along.
        subst (λ z. HaveOneValue (read_at a from.head (downlink_arg from.downlink k) x)
        (read_at a head (uplink_arg k) z)) (same_Some f y (sym here ∙ along))
        (subst (λ z. HaveOneValue (read_at a from.head (downlink_arg from.downlink k) z)
        (read_at a head (uplink_arg k) f)) (same_Some e x (sym there ∙ at)) one),
    λ all. all e f there here,
  )

  pub args_past : (n : ℕ) → length args ≤ n → (a : Assignment) (k : ℕ) → n ≤ k →
      ArgHolds from args head others a k
  args_past n long a k late e f at along = absurd (past_end args n k e long late at)

  pub others_past : (n : ℕ) → length others ≤ n → (a : Assignment) (k : ℕ) → n ≤ k →
      ArgHolds from args head others a k
  others_past n long a k late e f at along = absurd (past_end others n k f long late along)

-- the entry of a node
module _ (system : System) (head : Head) (caller : Option Caller) (t : Transition)
    (is : transition_in system head ≡ t) where
  pub entry_is : (a : Assignment) → EntryBrings system a head caller ↔
      ((AllHold (EqualityHolds head t.equalities) a × AllHold (CreationHolds head t.creations) a) ×
      ArgsHold system head caller a)
  entry_is a = (
    λ brings. (
      (
        subst (λ u. AllHold (EqualityHolds head u.equalities) a) is brings.equalities,
        subst (λ u. AllHold (CreationHolds head u.creations) a) is brings.creations,
      ),
      λ from downlink named at k e f he hf. brings.args from downlink named at k e f he hf,
    ),
    λ all. record {
      equalities = subst (λ u. AllHold (EqualityHolds head u.equalities) a) (sym is) all.0.0;
      creations = subst (λ u. AllHold (CreationHolds head u.creations) a) (sym is) all.0.1;
      args = λ from downlink named at k e f he hf. all.1 from downlink named at k e f he hf;
    },
  )

none_there : {A : Type 0} (k : ℕ) (x : A) → slice_get [] k ≡ Some x → ⊥
none_there k x at = let no : ⊥ = cc in no

-- the arguments of a call
module _ (system : System) (head : Head) (from : Caller) where
  pub call_is : (downlink : Downlink) →
      slice_get (transition_in system from.head).downlinks from.downlink ≡ Some downlink →
      (a : Assignment) →
      AllHold (ArgHolds from downlink.args head (uplink_args (transition_in system head))) a ↔
      ArgsHold system head (Some from) a
  call_is downlink there a = (
    λ all other d named at.
        let same : from ≡ other = same_Some from other named in
        let here : slice_get (transition_in system from.head).downlinks from.downlink ≡ Some d =
        subst (λ o. slice_get (transition_in system o.head).downlinks o.downlink ≡ Some d)
        (sym same) at in
        subst (λ o. AllHold (ArgHolds o d.args head (uplink_args (transition_in system head))) a)
        same
        (subst (λ e. AllHold (ArgHolds from e.args head (uplink_args (transition_in system head)))
        a) (same_Some downlink d (sym there ∙ here)) all),
    λ held. held from downlink refl there,
  )

-- the inscription of an arc has the value that it finds
pub found_is : (system : System) (head : Head) (k : ℕ) (v : Value) (x : NetArc) →
    slice_get (transition_in system head).arcs k ≡ Some x → (a : Assignment) →
    (read_at a head (arc k) x.inscription ≡ Some v) ↔ Brings system a (Found head k v)
found_is system head k v x there a = (
  λ one other at. subst (λ y. read_at a head (arc k) y.inscription ≡ Some v)
      (same_Some x other (sym there ∙ at)) one,
  λ brings. brings x there,
)

pub found_nothing : (system : System) (head : Head) (k : ℕ) (v : Value) →
    slice_get (transition_in system head).arcs k ≡ None → (a : Assignment) →
    Brings system a (Found head k v)
found_nothing system head k v none a x at = absurd (let no : ⊥ = cc in no)

equates_brings : (mid new : LaidState) (p q : ℕ) (told : Bool) → Equates mid p q new told →
    (first second : Assignment → Option Value) → IsReadAs mid.store (id_of mid.slots) first p →
    IsReadAs mid.store (id_of mid.slots) second q →
    BringsIn mid (λ a. HaveOneValue (first a) (second a)) new told
equates_brings mid new p q true equates first second is_p is_q = equates first second is_p is_q
equates_brings mid new p q false equates first second is_p is_q = equates first second is_p is_q

-- an id gets a value
pub gets_answer : {E : Type 0} (result : Result Bool E) (old mid new : LaidState) (id atom : ℕ)
    (v : Value) → IsLaidIn (id_of old.slots) old.store → id < length old.store.terms →
    Builds old (λ a. Some v) mid atom → Grows old mid →
    IfOk result (λ told. Equates mid id atom new told) →
    IfOk result (λ told. GetsValue old id v new told)
gets_answer (Err e) old mid new id atom v laid within builds more equates = tt
gets_answer (Ok told) old mid new id atom v laid within builds more equates = λ term is.
    then_brings old mid new (λ a. (w : Value) × (Some v ≡ Some w))
    (λ a. HaveOneValue (term a) (Some v)) (λ a. term a ≡ Some v) told builds.adds more
    (equates_brings mid new id atom told equates term (λ a. Some v)
    (read_later old mid term id laid more.slots builds.adds.back within is) builds.reads)
    (λ a. (λ e. ((v, refl), (v, e, refl)), λ both. both.1.1 ∙ sym both.1.2))

-- a term that was built gets a value
pub then_gets : (old mid new : LaidState) (term : Assignment → Option Value) (id : ℕ) (v : Value)
    (told : Bool) → Builds old term mid id → Grows old mid → GetsValue mid id v new told →
    BringsIn old (λ a. term a ≡ Some v) new told
then_gets old mid new term id v told builds more gets =
    then_brings old mid new (λ a. (w : Value) × (term a ≡ Some w)) (λ a. term a ≡ Some v)
    (λ a. term a ≡ Some v) told builds.adds more (gets term builds.reads)
    (λ a. (λ e. ((v, e), e), λ both. both.1))

pub then_gets_answer : {E : Type 0} (result : Result Bool E) (old mid new : LaidState)
    (term : Assignment → Option Value) (id : ℕ) (v : Value) (equation : Assignment → Type 0) →
    Builds old term mid id → Grows old mid → ((a : Assignment) → (term a ≡ Some v) ↔ equation a) →
    IfOk result (λ told. GetsValue mid id v new told) →
    IfOk result (λ told. BringsIn old equation new told)
then_gets_answer (Err e) old mid new term id v equation builds more is gets = tt
then_gets_answer (Ok told) old mid new term id v equation builds more is gets =
    brings_alike old new (λ a. term a ≡ Some v) equation told is
    (then_gets old mid new term id v told builds more gets)

-- two terms that were built one after the other have one value
pub two_terms_answer : {E : Type 0} (result : Result Bool E) (start first second end : LaidState)
    (one other : Assignment → Option Value) (p q : ℕ) → Builds start one first p →
    Grows start first → Builds first other second q → Grows first second →
    IfOk result (λ told. Equates second p q end told) →
    IfOk result (λ told. BringsIn start (λ a. HaveOneValue (one a) (other a)) end told)
two_terms_answer (Err e) start first second end one other p q builds more then_builds still
    equates = tt
two_terms_answer (Ok told) start first second end one other p q builds more then_builds still
    equates =
    two_terms start first second end one other p q builds more then_builds still told equates

pub no_first : (start new : LaidState) (one other : Assignment → Option Value) →
    NeverHas start one → BringsIn start (λ a. HaveOneValue (one a) (other a)) new false
no_first start new one other never a given held =
    let none : one a ≡ None = never a given in
    let some = held.1 in
    let no : ⊥ = cc in no

pub no_second : (start first new : LaidState) (one other : Assignment → Option Value) (p : ℕ) →
    Builds start one first p → NeverHas first other →
    BringsIn start (λ a. HaveOneValue (one a) (other a)) new false
no_second start first new one other p builds never a given held =
    let none : other a ≡ None = never a ((builds.adds.exact a).1 (given, (held.0, held.1))) in
    let some = held.2 in
    let no : ⊥ = cc in no

pub alike_answer : {E : Type 0} (result : Result Bool E) (old new : LaidState)
    (equation other : Assignment → Type 0) → ((a : Assignment) → equation a ↔ other a) →
    IfOk result (λ told. BringsIn old equation new told) →
    IfOk result (λ told. BringsIn old other new told)
alike_answer (Err e) old new equation other alike brings = tt
alike_answer (Ok told) old new equation other alike brings =
    brings_alike old new equation other told alike brings
