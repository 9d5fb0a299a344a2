-- A binding that is made of what decisions say follows them.
use Rattle.std.proofs.Common.{◌≡◌, ℕ, ◌⊎◌, Bool, true, false, List, [], ◌∷◌, refl}
use Rattle.std.proofs.Common.{sym, ap, ◌∙◌, subst, inl, inr, arith}
use Rattle.std.specs.Prelude.{Option, Some, slice_get, Contains, zip, nat_eq, if◌then◌else◌}
use Rattle.std.proofs.lemmas.Bool.{eqb-true}
use Rattle.std.proofs.lemmas.List.Elements.{All-contains, All-contains_itself, recursion_from_All}
use Rattle.std.proofs.lemmas.Option.{slice_get-get_or}
use Rattle.rn_value.specs.declared.value.Value.{Value}
use Rattle.rn_value.specs.declared.value.Value.TheVariants as Value
use Rattle.rn_model.specs.declared.expr.Expr.{Expr}
use Rattle.rn_model.specs.declared.system.System.{System}
use Rattle.rn_model.specs.declared.system.ArcKind.{ArcKind}
use Rattle.rn_model.specs.declared.system.ArcKind.TheVariants.{Input, Output, Test, Reserve}
use Rattle.rn_model.specs.declared.system.ArcKind.TheVariants.{FlexInput, FlexOutput, Inhibit}
use Rattle.rn_model.specs.declared.system.ArcKind.TheVariants.{Clear}
use Rattle.rn_model.specs.declared.system.NetArc.{NetArc}
use Rattle.rn_model.specs.declared.binding.Node.{Node}
use Rattle.rn_model.specs.declared.binding.Binding.{Binding}
use Rattle.rn_model.specs.Lists.{value_beside}
use Rattle.rn_model.specs.Systems.{net_at, transition_of, vars_in, var_kind_in}
use Rattle.rn_model.specs.Evaluation.{Env, worth}
use Rattle.rn_model.specs.Bindings.{Shape, IsNodeOf, env_of}
use Rattle.rn_model.specs.Agreement.{Agrees}
use Rattle.rn_model.specs.Good.{Good, IsGoodArc}
use Rattle.rn_model.specs.ExpressionLaws.{ReadSame}
use Rattle.rn_model.specs.Derivation.{Assignment, Unknowns, Hole, holes_in, sites_of, Item, entry}
use Rattle.rn_model.specs.Derivation.{found, computed, finds_values, finds_token, arc}
use Rattle.rn_model.specs.Derivation as D
use Rattle.rn_model.proofs.AskedValues.{later}
use Rattle.rn_model.proofs.DerivationLemmas.{holes_in-Var}
use Rattle.rn_model.proofs.EachElement.{each_weaker, at_place}
use Rattle.rn_model.proofs.ItemsOfNodes.{entry_is_item}
use Rattle.rn_model.proofs.MarkingsOfRuns.{good_transition}
use Rattle.rn_model.proofs.OwnValues.{own_values_satisfy}
use Rattle.rn_model.proofs.ReadingLemmas.{Sees, Fills, term_value-worth}
use Rattle.rn_model.proofs.ValuesLookUp.{values_look_up}
use Rattle.rn_growing.specs.declared.decision.Site.{Site}
use Rattle.rn_growing.specs.declared.decision.Head.{Head}
use Rattle.rn_growing.specs.declared.decision.Decision.{Decision}
use Rattle.rn_growing.specs.declared.decision.Decision.TheVariants.{Entered, Found, Computed}
use Rattle.rn_growing.specs.Decisions.{head_of, site_of, transition_in, Follows}
use Rattle.rn_growing.specs.Equations.{Solves, read_at}
use Rattle.rn_growing.specs.Turns.{IsEntered, IsHole, AreInTurn, SameThing}
use Rattle.rn_growing.proofs.Followers.{On, same_node}
use Rattle.rn_growing.proofs.Growth.{some_equal}
use Rattle.rn_growing.proofs.SameUnknowns.{as_site, as_site-is}
use Rattle.rn_growing.proofs.SoundItems.{one_hole}
use Rattle.rn_search.specs.Missing.{IsKnown}
use Rattle.rn_search.specs.Ending.{AreDone, IsRight, AreRight, IsMadeOf, MadeFollows}
use Rattle.rn_search.proofs.Items.{found_is_item, computed_is_item, inscription_stands}
use Rattle.rn_search.proofs.Made.{entered_later}
use Rattle.std.proofs.Common.{◌++◌}
use Rattle.std.proofs.lemmas.List.Elements.{Contains-append_left}

-- what has a value beside it is among the numbers
beside_or : (x y : ℕ) (w v : Value) (rest : Option Value) (xs : List ℕ) (same : Bool) →
    nat_eq y x ≡ same → (if same then Some w else rest) ≡ Some v →
    (rest ≡ Some v → Contains xs x) → Contains (y ∷ xs) x
beside_or x y w v rest xs true e is others = (0, omega arith, eqb-true y x e)
beside_or x y w v rest xs false e is others = later y x xs (others is)

beside_in : (xs : List ℕ) (vs : List Value) (x : ℕ) (v : Value) →
    value_beside (zip xs vs) x ≡ Some v → Contains xs x
beside_in [] [] x v e = absurd (let no : ⊥ = cc in no)
beside_in [] (w ∷ vs) x v e = absurd (let no : ⊥ = cc in no)
beside_in (y ∷ xs) [] x v e = absurd (let no : ⊥ = cc in no)
beside_in (y ∷ xs) (w ∷ vs) x v e =
    beside_or x y w v (value_beside (zip xs vs) x) xs (nat_eq y x) refl e (beside_in xs vs x v)

-- the operator applications in the inscription of an arc stand at its site, but for a clear arc
token_or_clear : (kind : ArcKind) → finds_values kind ≡ true →
    (finds_token kind ≡ true) ⊎ (kind ≡ Clear)
token_or_clear Input e = inl refl
token_or_clear Test e = inl refl
token_or_clear Reserve e = inl refl
token_or_clear Clear e = inr refl
token_or_clear Output e = absurd (let no : ⊥ = cc in no)
token_or_clear FlexInput e = absurd (let no : ⊥ = cc in no)
token_or_clear FlexOutput e = absurd (let no : ⊥ = cc in no)
token_or_clear Inhibit e = absurd (let no : ⊥ = cc in no)

module _ (system : System) (ds : List Decision) (b : Binding) (depth : ℕ) (good : Good system)
    (turns : AreInTurn system ds) (done : AreDone system ds) (right_values : AreRight system ds)
    (a : Assignment) (solves : Solves system ds a) (shape : Shape system b depth)
    (agrees : Agrees system b) (made : IsMadeOf system ds b) where
  -- the unknowns of what an arc of a node finds
  abbrev unknowns : Node → ℕ → Unknowns
  unknowns node k =
      record { this = node.inst; var = a.var node.path; hole = a.hole node.path (arc k) }

  -- a node's own values are those that are forced
  own_is : (node : Node) (x : ℕ) (v : Value) → Contains b.nodes node →
      value_beside (env_of system node).pairs x ≡ Some v → a.var node.path x ≡ v
  own_is node x v there is =
      let var = beside_in (transition_of system node).vars node.values x v is in
      let w = made.values node x there var in
      some_equal (a.var node.path x) v (w.2 a solves ∙ sym w.1 ∙ is)

  -- what is known of an expression's variables is so
  known : (node : Node) (e : Expr) (env : Env) → Contains b.nodes node →
      IsKnown system ds (head_of node) e env → worth e env ≡ worth e (env_of system node)
  known node e env there is =
      let same : ReadSame e env (env_of system node) = record {
        this = is.this;
        vars = λ x occurs.
            let v = is.forced x occurs in
            let w = made.values node x there
            (All-contains (Contains (transition_of system node).vars) (vars_in e) x is.vars occurs)
            in v.1 ∙ sym (v.2 a solves) ∙ w.2 a solves ∙ sym w.1;
        step = inr is.step;
      } in
      values_look_up e env (env_of system node) same

  is_entered : (head : Head) (site : Site) (way : List ℕ) (v : Value) →
      Contains ds (Computed head site way v) → IsEntered ds head
  is_entered head site way v (k, h, e) =
      let d : Decision = Computed head site way v in
      entered_later ds k head (turns.came k d (slice_get-get_or ds k d h ∙ ap Some e)).0 h

  -- the value that was computed for an operator application of a node
  is_computed : (node : Node) (site : D.Site) (e : Expr) (hole : Hole) → Contains b.nodes node →
      Contains (sites_of (transition_of system node)) (site, e) → Contains (holes_in e) hole →
      (d : Decision) → Contains ds d →
      SameThing (Computed (head_of node) (as_site site) hole.way (Value.Tuple [])) d →
      worth hole.form (env_of system node) ≡ Some (a.hole node.path site hole.way)
  is_computed node site e hole there stands in_e (Computed other at along u) inside same =
      let t = transition_of system node in
      let its = right_values (Computed other at along u) inside in
      let entered = is_entered other at along u inside in
      let n = made.nodes other entered in
      let nodes : n.0 ≡ node = same_node system b depth shape n.0 node n.1 there
      (sym (ap (λ h. h.path) n.2) ∙ sym same.0) in
      let heads : other ≡ head_of node = n.2 ∙ ap head_of nodes in
      let sites : site_of at ≡ site = sym same.1 ∙ as_site-is site in
      let is : IsHole system (head_of node) site its.0 =
      subst (λ h. IsHole system h site its.0) heads
      (subst (λ s. IsHole system other s its.0) sites its.2) in
      let forms : its.0 ≡ hole = one_hole t site is.0 e its.0 hole is.1 is.2 stands in_e
      (its.1 ∙ sym same.2) in
      let value = its.3 in
      let known_here : IsKnown system ds (head_of node) its.0.form value.0 =
      subst (λ h. IsKnown system ds h its.0.form value.0) heads value.1 in
      let read = sym (known node its.0.form value.0 there known_here) ∙ value.2 in
      let brought : a.hole node.path site hole.way ≡ u =
      ap (λ p. a.hole p site hole.way) same.0 ∙ ap (λ s. a.hole other.path s hole.way) (sym sites)
      ∙ ap (a.hole other.path (site_of at)) same.2 ∙ solves (Computed other at along u) inside in
      subst (λ h. worth h.form (env_of system node) ≡ Some u) forms read ∙ ap Some (sym brought)
  is_computed node site e hole there stands in_e (Entered other from) inside same = absurd same
  is_computed node site e hole there stands in_e (Found other j w) inside same = absurd same

  -- the operator applications in what an arc finds have their values
  fills_token : (node : Node) (k : ℕ) (x : NetArc) → Contains b.nodes node →
      IsEntered ds (head_of node) → slice_get (transition_of system node).arcs k ≡ Some x →
      finds_token x.kind ≡ true →
      Fills (env_of system node) (unknowns node k) (holes_in x.inscription)
  fills_token node k x there entered at finds =
      let e = x.inscription in
      let stands = inscription_stands (transition_of system node) k x at finds in
      each_weaker (Contains (holes_in e))
      (λ hole. (v : Value) → worth hole.form (env_of system node) ≡ Some v →
      a.hole node.path (arc k) hole.way ≡ v)
      (λ hole is v value.
      let d = done (Computed (head_of node) (as_site (arc k)) hole.way (Value.Tuple []))
      (entered, (hole, refl, (e, stands, is))) in
      some_equal (a.hole node.path (arc k) hole.way) v
      (sym (is_computed node (arc k) e hole there stands is d.0 d.1 d.2) ∙ value))
      (holes_in e) (recursion_from_All (Contains (holes_in e)) (holes_in e)
      (All-contains_itself (holes_in e)))

  fills_clear : (node : Node) (k : ℕ) (x : NetArc) → Contains b.nodes node →
      slice_get (transition_of system node).arcs k ≡ Some x → x.kind ≡ Clear →
      Fills (env_of system node) (unknowns node k) (holes_in x.inscription)
  fills_clear node k x there at clear =
      let of : IsNodeOf system node =
      All-contains (IsNodeOf system) b.nodes node shape.nodes there in
      let t = good_transition system node.net node.transition good of.net of.transition in
      let net = net_at system node.net in
      let fine = at_place (IsGoodArc net (var_kind_in net)) (transition_of system node).arcs k x
      t.kinds.arcs at in
      let var = fine.clears clear in
      let none : holes_in x.inscription ≡ [] = ap holes_in var.1 ∙ holes_in-Var var.0 in
      subst (Fills (env_of system node) (unknowns node k)) (sym none) tt

  reads : (node : Node) (k : ℕ) (x : NetArc) (v : Value) → Contains b.nodes node →
      IsEntered ds (head_of node) → slice_get (transition_of system node).arcs k ≡ Some x →
      finds_values x.kind ≡ true → worth x.inscription (env_of system node) ≡ Some v →
      read_at a (head_of node) (arc k) x.inscription ≡ Some v
  reads node k x v there entered at finds value =
      let sees : Sees (env_of system node) (unknowns node k) =
      record { this = refl; step = refl; var = λ y w is. own_is node y w there is } in
      let fills = elim (token_or_clear x.kind finds) as
      (λ _. Fills (env_of system node) (unknowns node k) (holes_in x.inscription)) [
        | inl token ↦ fills_token node k x there entered at token
        | inr clear ↦ fills_clear node k x there at clear
      ] in
      term_value-worth x.inscription (env_of system node) (unknowns node k) sees fills v value

  -- each decision is on an item of the binding
  abbrev IsOnItem : Decision → Type 0
  IsOnItem d = (item : Item) × On system b d item

  found_on : (head : Head) (k : ℕ) (v : Value) → Contains ds (Found head k v) →
      IsOnItem (Found head k v)
  found_on head k v inside =
      let d : Decision = Found head k v in
      let may = turns.came inside.0 d (slice_get-get_or ds inside.0 d inside.1 ∙ ap Some
      inside.2) in
      let entered = entered_later ds inside.0 head may.0 inside.1 in
      let n = made.nodes head entered in
      let x = may.1.0 in
      let at : slice_get (transition_of system n.0).arcs k ≡ Some x =
      subst (λ h. slice_get (transition_in system h).arcs k ≡ Some x) n.2 may.1.1 in
      let own = found_is_item system b n.0 n.1 k x at may.1.2 in
      let holds = (own_values_satisfy system b depth shape agrees).1.items (found n.0 k x) own in
      let read = reads n.0 k x holds.0 n.1 (subst (IsEntered ds) n.2 entered) at may.1.2 holds.2 in
      let brought : read_at a (head_of n.0) (arc k) x.inscription ≡ Some v =
      subst (λ h. read_at a h (arc k) x.inscription ≡ Some v) n.2 (solves d inside x may.1.1) in
      (found n.0 k x, (own, (n.2, refl, holds.2 ∙ sym read ∙ brought)))

  computed_on : (head : Head) (site : Site) (way : List ℕ) (v : Value) →
      Contains ds (Computed head site way v) → IsOnItem (Computed head site way v)
  computed_on head site way v inside =
      let n = made.nodes head (is_entered head site way v inside) in
      let its = right_values (Computed head site way v) inside in
      let hole = its.0 in
      let is : IsHole system (head_of n.0) (site_of site) hole =
      subst (λ h. IsHole system h (site_of site) hole) n.2 its.2 in
      let own = computed_is_item system b n.0 n.1 (site_of site) is.0 hole is.1 is.2 in
      let value = its.3 in
      let known_here : IsKnown system ds (head_of n.0) hole.form value.0 =
      subst (λ h. IsKnown system ds h hole.form value.0) n.2 value.1 in (
        computed n.0 (site_of site) hole,
        (
          own,
          (n.2, refl, sym its.1, sym (known n.0 hole.form value.0 n.1 known_here) ∙ value.2),
        ),
      )

  on_item : (d : Decision) → Contains ds d → IsOnItem d
  on_item (Entered head caller) inside =
      let n = made.nodes head (caller, inside) in
      (entry n.0, (entry_is_item system b n.0 n.1, n.2))
  on_item (Found head k v) inside = found_on head k v inside
  on_item (Computed head site way v) inside = computed_on head site way v inside

follow_all : (system : System) (b : Binding) (ds : List Decision) →
    ((d : Decision) → Contains ds d → (item : Item) × On system b d item) → Follows system b ds
follow_all system b [] each = ([], tt)
follow_all system b (d ∷ ds) each =
    let first = each d (0, omega arith, refl) in
    let rest = follow_all system b ds (λ e there. each e (later d e ds there)) in
    (first.0 ∷ rest.0, (first.1, rest.1))

pub made_follows : MadeFollows
made_follows system ds b depth good turns done right_values (a, solves) shape agrees made =
    follow_all system b ds
    (on_item system ds b depth good turns done right_values a solves shape agrees made)

known_by_more : (system : System) (ds more : List Decision) (head : Head) (e : Expr)
    (env : Env) → IsKnown system ds head e env → IsKnown system (ds ++ more) head e env
known_by_more system ds more head e env known = record {
  this = known.this;
  step = known.step;
  vars = known.vars;
  forced = λ x occurs.
      let v = known.forced x occurs in
      (v.0, v.1, λ a solves. v.2 a (λ e there. solves e (Contains-append_left ds more e there)));
}

-- a value that is right is so by more decisions as well
pub right_by_more : (system : System) (ds more : List Decision) (d : Decision) →
    IsRight system ds d → IsRight system (ds ++ more) d
right_by_more system ds more (Computed head site way v) is =
    let value = is.3 in
    let known = known_by_more system ds more head is.0.form value.0 value.1 in
    (is.0, is.1, is.2, (value.0, known, value.2))
right_by_more system ds more (Entered head caller) is = tt
right_by_more system ds more (Found head k v) is = tt
