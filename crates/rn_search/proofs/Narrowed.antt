-- Tokens that an arc may find, by what is known of its inscription, or of what a guard asks to be the
-- same.
use Rattle.std.proofs.Common.{◌≡◌, ℕ, ◌+◌, List, [], ◌∷◌, map, sym, ap, ◌∙◌, subst, arith}
use Rattle.std.proofs.Common.{inl, inr}
use Rattle.std.specs.Prelude.{Some, option_map, slice_get, Contains}
use Rattle.std.proofs.lemmas.List.Elements.{All-contains}
use Rattle.rn_value.specs.declared.value.Value.{Value}
use Rattle.rn_value.specs.declared.value.Value.TheVariants as Value
use Rattle.rn_model.specs.declared.expr.Expr.{Expr}
use Rattle.rn_model.specs.declared.expr.Expr.TheVariants as Expr
use Rattle.rn_model.specs.declared.system.NetArc.{NetArc}
use Rattle.rn_model.specs.declared.binding.Node.{Node}
use Rattle.rn_model.specs.declared.binding.Binding.{Binding}
use Rattle.rn_model.specs.Systems.{transition_of}
use Rattle.rn_model.specs.Agreement.{NodeAgrees}
use Rattle.rn_model.specs.Evaluation.{Env, worth, worths, IsTrueUnder}
use Rattle.rn_model.specs.Bindings.{env_of}
use Rattle.rn_model.specs.Derivation.{Item, entry, found, computed}
use Rattle.rn_model.proofs.EvaluationLemmas.{worth-Tuple}
use Rattle.rn_growing.specs.declared.decision.Decision.{Decision}
use Rattle.rn_growing.specs.declared.decision.Decision.TheVariants.{Found}
use Rattle.rn_growing.specs.Decisions.{head_of, transition_in}
use Rattle.rn_growing.proofs.Followers.{On}
use Rattle.rn_growing.proofs.Growth.{some_equal}
use Rattle.rn_growing.proofs.SoundItems.{items_sound}
use Rattle.rn_search.specs.declared.point.Point.TheVariants as P
use Rattle.rn_search.specs.Sought.{Sought, Leads}
use Rattle.rn_search.specs.Points.{node_of, tokens_of, first_token, offered, offers}
use Rattle.rn_search.specs.Missing.{IsKnown}
use Rattle.rn_search.specs.Narrowing.{FindsBy, KnownTokenIsIt, KnownFirstPart, EquatedTokenIsIt}
use Rattle.rn_search.proofs.TrueParts.{sides_same}
use Rattle.rn_search.proofs.Following.{last_on, is_decision, fewer_lead}
use Rattle.rn_search.proofs.Alternatives.{from_map, from_and_then, first_is}
use Rattle.rn_search.proofs.Known.{known_is_so}

-- The token is the value of the inscription under a node of the binding.
record IsFoundBy (sought : Sought) (ds : List Decision) (node k : ℕ) (x : NetArc) (a : ℕ)
    (b : Binding) : Type 0 where
  value : Value
  token : slice_get (tokens_of sought (node_of sought ds node) k) a ≡ Some value
  its : Node
  there : Contains b.nodes its
  head : node_of sought ds node ≡ head_of its
  read : worth x.inscription (env_of sought.system its) ≡ Some value

by_item : (sought : Sought) (ds : List Decision) (node k : ℕ) (x : NetArc) (a : ℕ) (b : Binding)
    (v : Value) (item : Item) →
    slice_get (tokens_of sought (node_of sought ds node) k) a ≡ Some v →
    slice_get (transition_in sought.system (node_of sought ds node)).arcs k ≡ Some x →
    On sought.system b (Found (node_of sought ds node) k v) item →
    IsFoundBy sought ds node k x a b
by_item sought ds node k x a b v (found n j y) token arc on =
    let system = sought.system in
    let sound = items_sound system b (found n j y) on.0 in
    let at : slice_get (transition_of system n).arcs j ≡ Some x =
    ap (slice_get (transition_of system n).arcs) (sym on.1.1)
    ∙ ap (λ h. slice_get (transition_in system h).arcs k) (sym on.1.0) ∙ arc in
    let arcs : y ≡ x = some_equal y x (sym sound.1 ∙ at) in
    record {
      value = v;
      token = token;
      its = n;
      there = sound.0;
      head = on.1.0;
      read = subst (λ z. worth z.inscription (env_of system n) ≡ Some v) arcs on.1.2;
    }
by_item sought ds node k x a b v (entry n) token arc on = absurd on.1
by_item sought ds node k x a b v (computed n s hole) token arc on = absurd on.1

found_by : (sought : Sought) (ds : List Decision) (node k : ℕ) (x : NetArc) (a : ℕ) (b : Binding) →
    FindsBy sought ds node k x a b → IsFoundBy sought ds node k x a b
found_by sought ds node k x a b finds =
    let system = sought.system in
    let head = node_of sought ds node in
    let leads = finds.leads in
    let last = last_on system b ds leads.follows.0 (offers sought ds (P.Token node k 0) a)
    leads.follows.1 in
    let d = is_decision system b sought.depth leads.enabled.shape
    (offered sought ds (P.Token node k 0) a) last.0 last.1 in
    let v = from_map (λ v. Found head k v) (first_token (tokens_of sought head k) (0 + a)) d.0
    d.1 in
    let first = first_is (tokens_of sought head k) (0 + a) v.0 v.1 in
    let place : 0 + a ≡ a = omega arith in
    by_item sought ds node k x a b v.0 last.0
    (subst (λ i. slice_get (tokens_of sought head k) i ≡ Some v.0) place first.0) finds.arc
    (subst (λ e. On system b e last.0) (sym v.2) d.2)

-- what is known of an expression of the node
known_there : (sought : Sought) (ds : List Decision) (node k : ℕ) (x : NetArc) (a : ℕ) (b :
    Binding)
    (finds : FindsBy sought ds node k x a b) (e : Expr) (env : Env) →
    IsKnown sought.system ds (node_of sought ds node) e env →
    (by : IsFoundBy sought ds node k x a b) → worth e env ≡ worth e (env_of sought.system by.its)
known_there sought ds node k x a b finds e env known by =
    let before : Leads sought ds b =
    fewer_lead sought ds (offers sought ds (P.Token node k 0) a ∷ []) b finds.leads in
    known_is_so sought ds b by.its e env before finds.turns finds.some by.there
    (subst (λ h. IsKnown sought.system ds h e env) by.head known)

-- where the inscription is known, the token is its value
pub known_token_is_it : KnownTokenIsIt
known_token_is_it sought ds node k x a b env finds known =
    let by = found_by sought ds node k x a b finds in
    let same = known_there sought ds node k x a b finds x.inscription env known by in
    by.token ∙ sym by.read ∙ sym same

-- the parts of a tuple that has a value, of which the first has one
first_part : (e : Expr) (es : List Expr) (env : Env) (v w : Value) → worth e env ≡ Some v →
    worth (Expr.Tuple (e ∷ es)) env ≡ Some w → (rest : List Value) × (Value.Tuple (v ∷ rest) ≡ w)
first_part e es env v w is whole =
    let all = from_map (λ vs. Value.Tuple vs) (worths (map worth (e ∷ es)) env) w
    (sym (worth-Tuple (e ∷ es) env) ∙ whole) in
    let first = from_and_then (λ u. option_map (λ us. u ∷ us) (worths (map worth es) env))
    (worth e env) all.0 all.1 in
    let same : first.0 ≡ v = some_equal first.0 v (sym first.1 ∙ is) in
    let rest = from_map (λ us. first.0 ∷ us) (worths (map worth es) env) all.0 first.2 in (
      rest.0,
      ap (λ u. Value.Tuple (u ∷ rest.0)) (sym same) ∙ ap (λ us. Value.Tuple us) rest.2 ∙ all.2,
    )

-- where the first part of a tuple is known, the token is a tuple that begins with it
pub known_first_part : KnownFirstPart
known_first_part sought ds node k x a b env e es v finds tuple known is =
    let by = found_by sought ds node k x a b finds in
    let same = known_there sought ds node k x a b finds e env known by in
    let own = env_of sought.system by.its in
    let whole : worth (Expr.Tuple (e ∷ es)) own ≡ Some by.value =
    ap (λ i. worth i own) (sym tuple) ∙ by.read in
    let part = first_part e es own v by.value (sym same ∙ is) whole in
    (part.0, by.token ∙ ap Some (sym part.1))

-- where a guard asks that the token is the same as what is known, it is that
pub equated_token_is_it : EquatedTokenIsIt
equated_token_is_it sought ds node k x a b env guard e finds there equates known =
    let system = sought.system in
    let by = found_by sought ds node k x a b finds in
    let own = env_of system by.its in
    let agrees : NodeAgrees system by.its =
    All-contains (NodeAgrees system) b.nodes by.its finds.leads.enabled.agrees.nodes by.there in
    let its_guard : Contains (transition_of system by.its).guards guard =
    subst (λ h. Contains (transition_in system h).guards guard) by.head there in
    let holds = All-contains (IsTrueUnder own) (transition_of system by.its).guards guard
    agrees.guards its_guard in
    let sides = elim equates as (λ _. worth x.inscription own ≡ worth e own) [
      | inl left ↦ sides_same guard x.inscription e own left holds
      | inr right ↦ sym (sides_same guard e x.inscription own right holds)
    ] in
    let same = known_there sought ds node k x a b finds e env known by in
    by.token ∙ sym by.read ∙ sides ∙ sym same
