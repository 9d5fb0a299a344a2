-- The binding of one node of a translated transition has its shape, agrees and is derived.
use Rattle.std.proofs.Common.{◌≡◌, ℕ, zero, suc, ◌+◌, ◌≤◌, inl, inr, Bool, true, false, cond, List, [], ◌∷◌, ◌++◌, map, length, refl, sym, ap, ◌∙◌, subst, arith, append-nil}
use Rattle.std.specs.Prelude.{Some, None, ◌≢◌, All, Contains, unwrap_or, option_map, slice_get, nat_lt, filter, flat_map, replicate}
use Rattle.std.specs.List.{AllZip, list_all, enumerate_from}
use Rattle.std.specs.Option.{option_map_or}
use Rattle.std.proofs.lemmas.List.Elements.{All-nil, All-cons, All-head, All-tail, All-map, All-weaker, All-contains_itself}
use Rattle.std.proofs.lemmas.Option.{slice_get-map, slice_get_within}
use Rattle.rn_value.specs.Kinds.{HasKind, kind_step, value_has_kind}
use Rattle.rn_value.specs.declared.value.InstRef.TheVariants.{Old}
use Rattle.rn_value.specs.declared.value.Kind.{Kind, out-Kind}
use Rattle.rn_value.specs.declared.value.Kind.TheVariants as Kind
use Rattle.rn_value.specs.declared.value.Value.{Value, fold_out-Value}
use Rattle.rn_value.specs.declared.value.Value.TheVariants as Value
use Rattle.rn_model.specs.declared.expr.Expr.{Expr}
use Rattle.rn_model.specs.declared.expr.Expr.TheVariants as Expr
use Rattle.rn_model.specs.declared.system.ArcKind.TheVariants.{Inhibit}
use Rattle.rn_model.specs.declared.system.NetArc.{NetArc}
use Rattle.rn_model.specs.declared.system.Downlink.{Downlink}
use Rattle.rn_model.specs.declared.system.Transition.{Transition}
use Rattle.rn_model.specs.declared.system.System.{System}
use Rattle.rn_model.specs.declared.binding.Node.{Node}
use Rattle.rn_model.specs.Systems.{transition_at, transition_of, empty_transition, unkinded, var_kind}
use Rattle.rn_model.specs.Evaluation.{Env, worth, IsTrueUnder}
use Rattle.rn_model.specs.Lists.{HaveOneValue}
use Rattle.rn_model.specs.Bindings.{Shape, IsNodeOf, IsOfCreation, IsCalled, env_of}
use Rattle.rn_model.specs.Firing.{creations_of}
use Rattle.rn_model.specs.Agreement.{Agrees, NodeAgrees, ArcAgrees, HasValueOf, HaveKindsOf, inscribed_kind}
use Rattle.rn_model.specs.Derivation.{Item, entry, found, computed, items_of, node_items, sites_of, computed_at, holes_in, finds_token, finds_values, arcs_that, arc, Site, InBy, Derived, IsVarForced}
use Rattle.rn_model.proofs.DerivationLemmas.{holes_in-Tuple}
use Rattle.rn_model.proofs.KindRules.{value_has_kind-Tuple}
use Rattle.rn_weighted.specs.declared.weighted.Weighted.{Weighted}
use Rattle.rn_weighted.specs.declared.weighted.WPlace.{WPlace}
use Rattle.rn_weighted.specs.declared.weighted.WTransition.{WTransition}
use Rattle.rn_weighted.specs.declared.weighted.WArc.{WArc}
use Rattle.rn_weighted.specs.Weighted.{IsWArc}
use Rattle.rn_translated.specs.TranslatedSystem.{black, blacks, flexible, net_arc, net_place, net_transition, translated_system, occurrence}
use Rattle.rn_translated.proofs.ArcDemands.{by_kind, token, worth_token, worth_tokens, formed, above_one}

-- no transition of the system has downlinks
none_linked : (ts : List WTransition) (t : ℕ) →
    (unwrap_or (slice_get (map net_transition ts) t) empty_transition).downlinks ≡ []
none_linked [] t = refl
none_linked (wt ∷ ts) zero = refl
none_linked (wt ∷ ts) (suc t) = none_linked ts t

pub no_downlinks : (net : Weighted) (n t : ℕ) →
    (transition_at (translated_system net) n t).downlinks ≡ []
no_downlinks net zero t = none_linked net.transitions t
no_downlinks net (suc n) t = refl

-- nothing is at an index of what is empty
pub nowhere : {A B : Type 0} (xs : List A) (k : ℕ) (x : A) → xs ≡ [] → slice_get xs k ≡ Some x → B
nowhere xs k x none at =
    let here : slice_get [] k ≡ Some x = subst (λ ys. slice_get ys k ≡ Some x) none at in
    let no : ⊥ = cc in absurd no

-- kinds
black_kind : HasKind black (Kind.Tuple [])
black_kind = value_has_kind-Tuple [] []

list_kind : (vs : List Value) (kind : Kind) →
    value_has_kind (Value.List vs) (Kind.List kind) ≡ list_all (λ fits. fits kind) (map value_has_kind vs)
list_kind vs kind =
    ap (λ f. f (Kind.List kind)) (fold_out-Value (Kind → Bool) (λ v k. kind_step v (out-Kind k)) (Value.List vs))
    ∙ rw (Value.outs-List vs, Kind.outs-List kind) refl

all_black : (n : ℕ) →
    list_all (λ fits. fits (Kind.Tuple [])) (map value_has_kind (blacks n)) ≡ true
all_black zero = refl
all_black (suc n) = rw (black_kind, all_black n) refl

blacks_kind : (n : ℕ) → HasKind (Value.List (blacks n)) (Kind.List (Kind.Tuple []))
blacks_kind n = list_kind (blacks n) (Kind.Tuple []) ∙ all_black n

place_black : (ps : List WPlace) (p : ℕ) →
    option_map_or (λ place. place.kind) (slice_get (map net_place ps) p) unkinded ≡ Kind.Tuple []
place_black [] p = refl
place_black (place ∷ ps) zero = refl
place_black (place ∷ ps) (suc p) = place_black ps p

-- the inscription of an arc has a value of its kind
module _ (env : Env) (places : ℕ) where
  abbrev HasItsValue : NetArc → Type 0
  HasItsValue a = HasValueOf env a.inscription (inscribed_kind a.kind (Kind.Tuple []))

  form_has_value : (a : WArc) (more : Bool) → IsWArc places a → nat_lt 1 a.weight ≡ more →
      HasItsValue (formed a more)
  form_has_value a true is e =
      by_kind
      (λ kind. kind ≢ Inhibit → HasValueOf env (Expr.List (replicate a.weight token))
      (inscribed_kind (flexible kind) (Kind.Tuple [])))
      a.kind is.kind
      (λ no. (Value.List (blacks a.weight), worth_tokens a.weight env, blacks_kind a.weight))
      (λ no. (Value.List (blacks a.weight), worth_tokens a.weight env, blacks_kind a.weight))
      (λ no. absurd (no refl))
      (λ inhibit. above_one a.weight e (is.inhibits inhibit))
  form_has_value a false is e =
      by_kind (λ kind. HasValueOf env token (inscribed_kind kind (Kind.Tuple []))) a.kind is.kind
      (black, worth_token env, black_kind)
      (black, worth_token env, black_kind)
      (black, worth_token env, black_kind)

  pub arc_has_value : (a : WArc) → IsWArc places a → HasItsValue (net_arc a)
  arc_has_value a is = form_has_value a (nat_lt 1 a.weight) is refl

-- operator applications
no_holes : holes_in token ≡ []
no_holes = holes_in-Tuple []

finds_form : (a : WArc) (places : ℕ) → IsWArc places a → (more : Bool) →
    nat_lt 1 a.weight ≡ more → finds_token (formed a more).kind ≡ true →
    holes_in (formed a more).inscription ≡ []
finds_form a places is true e finds =
    by_kind
    (λ kind. kind ≢ Inhibit → finds_token (flexible kind) ≡ true →
    holes_in (Expr.List (replicate a.weight token)) ≡ [])
    a.kind is.kind
    (λ no f. let none : ⊥ = cc in absurd none)
    (λ no f. let none : ⊥ = cc in absurd none)
    (λ no f. absurd (no refl))
    (λ inhibit. above_one a.weight e (is.inhibits inhibit)) finds
finds_form a places is false e finds = no_holes

module _ (node : Node) (places : ℕ) where
  abbrev site_of : ℕ × NetArc → Site × Expr
  site_of e = (arc e.0, e.1.inscription)

  abbrev kept : Bool → ℕ × NetArc → List (ℕ × NetArc) → List (ℕ × NetArc)
  kept keep e others = cond keep (e ∷ others) others

  kept_no_holes : (keep : Bool) (e : ℕ × NetArc) (others : List (ℕ × NetArc)) →
      (keep ≡ true → holes_in e.1.inscription ≡ []) →
      flat_map (computed_at node) (map site_of others) ≡ [] →
      flat_map (computed_at node) (map site_of (kept keep e others)) ≡ []
  kept_no_holes false e others none rest = rest
  kept_no_holes true e others none rest =
      ap (λ hs. map (computed node (arc e.0)) hs ++ flat_map (computed_at node) (map site_of others)) (none refl) ∙ rest

  none_computed : (arcs : List WArc) (k : ℕ) → All (IsWArc places) arcs →
      flat_map (computed_at node)
      (map site_of (filter (λ e. finds_token e.1.kind) (enumerate_from k (map net_arc arcs)))) ≡ []
  none_computed [] k are = refl
  none_computed (a ∷ arcs) k are =
      let is = All-head (IsWArc places) a arcs are in
      kept_no_holes (finds_token (net_arc a).kind) (k, net_arc a)
      (filter (λ e. finds_token e.1.kind) (enumerate_from (k + 1) (map net_arc arcs)))
      (λ finds. finds_form a places is (nat_lt 1 a.weight) refl finds)
      (none_computed arcs (k + 1) (All-tail (IsWArc places) a arcs are))

-- A transition of a net, by its number.
module _ (net : Weighted) (t : ℕ) (wt : WTransition) (is : slice_get net.transitions t ≡ Some wt)
    (arcs : All (IsWArc (length net.places)) wt.arcs) where
  abbrev pub sys : System
  sys = translated_system net

  abbrev pub node : Node
  node = record { path = []; inst = Old 1; net = 0; transition = t; values = [] }

  pub got : slice_get (map net_transition net.transitions) t ≡ Some (net_transition wt)
  got = slice_get-map net_transition net.transitions t ∙ ap (option_map net_transition) is

  pub transition_is : transition_of sys node ≡ net_transition wt
  transition_is = ap (λ o. unwrap_or o empty_transition) got

  -- what holds with the translated transition holds with that of the node
  pub by_transition : (P : Transition → Type 0) → P (net_transition wt) →
      P (transition_of sys node)
  by_transition P holds = subst P (sym transition_is) holds

  -- the occurrence makes no instance
  pub none_made : creations_of sys (occurrence t) ≡ []
  none_made =
      ap
      (λ tr. map (λ c. record { path = node.path; index = c.0; net = c.1.net })
      (enumerate_from 0 tr.creations) ++ [])
      transition_is

  no_calls : {A : Type 0} (caller : Node) (i : ℕ) (d : Downlink) →
      slice_get (transition_of sys caller).downlinks i ≡ Some d → A
  no_calls caller i d e =
      nowhere (transition_of sys caller).downlinks i d
      (no_downlinks net caller.net caller.transition) e

  pub shape : (depth : ℕ) → Shape sys (occurrence t) depth
  shape depth = record {
    ascending = λ k d h. let no : ⊥ = omega (arith, h) in absurd no;
    start = (node, refl, record { exists = (1, refl); uplink = ap (λ tr. tr.uplink) transition_is });
    nodes = All-cons (IsNodeOf sys) node []
        (record {
          net = omega arith;
          transition = slice_get_within (map net_transition net.transitions) t (net_transition wt) got;
          values = ap (λ tr. length tr.vars) (sym transition_is);
        })
        (All-nil (IsNodeOf sys));
    children = λ caller i d h e. no_calls caller i d e;
    called = All-cons (λ n. n.path ≢ [] → IsCalled sys (occurrence t) n) node []
        (λ no. absurd (no refl)) (All-nil (λ n. n.path ≢ [] → IsCalled sys (occurrence t) n));
    deep = All-cons (λ n. length n.path ≤ depth) node [] (omega arith)
        (All-nil (λ n. length n.path ≤ depth));
    many = omega arith;
    created = All-cons (IsOfCreation sys (occurrence t)) node []
        (λ path j e. let no : ⊥ = cc in absurd no) (All-nil (IsOfCreation sys (occurrence t)));
  }

  agrees_at : (a : WArc) → IsWArc (length net.places) a → ArcAgrees sys node (net_arc a)
  agrees_at a is_arc asked =
      subst
      (λ kind. HasValueOf (env_of sys node) (net_arc a).inscription
      (inscribed_kind (net_arc a).kind kind))
      (sym (place_black net.places (net_arc a).place))
      (arc_has_value (env_of sys node) (length net.places) a is_arc)

  arcs_agree : All (ArcAgrees sys node) (transition_of sys node).arcs
  arcs_agree =
      by_transition (λ tr. All (ArcAgrees sys node) tr.arcs)
      (All-map (ArcAgrees sys node) net_arc wt.arcs
      (All-weaker (IsWArc (length net.places)) (λ a. ArcAgrees sys node (net_arc a))
      agrees_at wt.arcs arcs))

  node_agrees : NodeAgrees sys node
  node_agrees = record {
    kinds = by_transition
        (λ tr. AllZip (λ x v. HasKind v (var_kind sys 0 x)) tr.vars []) tt;
    equalities = by_transition
        (λ tr. All
        (λ e. HaveOneValue (worth e.0 (env_of sys node)) (worth e.1 (env_of sys node)))
        tr.equalities) (All-nil _);
    creations = λ j c e.
        nowhere (transition_of sys node).creations j c (ap (λ tr. tr.creations) transition_is) e;
    guards = by_transition (λ tr. All (IsTrueUnder (env_of sys node)) tr.guards) (All-nil _);
    arcs = arcs_agree;
    downlinks = by_transition
        (λ tr. All (λ d. HaveKindsOf sys (env_of sys node) d.channel d.args) tr.downlinks)
        (All-nil _);
    uplink = λ u e.
        let none : None ≡ Some u = sym (ap (λ tr. tr.uplink) transition_is) ∙ e in
        let no : ⊥ = cc in absurd no;
  }

  pub agrees : Agrees sys (occurrence t)
  agrees = record {
    nodes = All-cons (NodeAgrees sys) node [] node_agrees (All-nil (NodeAgrees sys));
    calls = λ caller i d n c. no_calls caller i d c.downlink_there;
  }

  abbrev founds : List (ℕ × NetArc) → List Item
  founds xs = map (λ e. found node e.0 e.1) xs

  abbrev finding : List (ℕ × NetArc)
  finding = arcs_that finds_values (net_transition wt)

  items_are : items_of sys (occurrence t) ≡ entry node ∷ founds finding
  items_are =
      append-nil (node_items sys node)
      ∙ ap
      (λ tr. entry node
      ∷ founds (arcs_that finds_values tr) ++ flat_map (computed_at node) (sites_of tr))
      transition_is
      ∙ ap (λ hs. entry node ∷ founds finding ++ hs)
      (none_computed node (length net.places) wt.arcs 0 arcs)
      ∙ append-nil (entry node ∷ founds finding)

  start_by : (k : ℕ) → InBy sys (occurrence t) k (entry node)
  start_by zero = (node, (0, omega arith, refl), refl, refl)
  start_by (suc k) = inl (start_by k)

  each_found : (k : ℕ) (xs : List (ℕ × NetArc)) →
      All (Contains (items_of sys (occurrence t))) (founds xs) →
      All (InBy sys (occurrence t) (suc k)) (founds xs)
  each_found k [] there = All-nil (InBy sys (occurrence t) (suc k))
  each_found k (e ∷ xs) there =
      let Has = Contains (items_of sys (occurrence t)) in
      All-cons (InBy sys (occurrence t) (suc k)) (found node e.0 e.1) (founds xs)
      (inr (All-head Has (found node e.0 e.1) (founds xs) there, start_by k))
      (each_found k xs (All-tail Has (found node e.0 e.1) (founds xs) there))

  abbrev AllForced : Node → Type 0
  AllForced n =
      All
      (IsVarForced sys (occurrence t)
      (InBy sys (occurrence t) (length (items_of sys (occurrence t)))) n)
      (transition_of sys n).vars

  pub derived : Derived sys (occurrence t)
  derived =
      let items = items_of sys (occurrence t) in
      let there : All (Contains items) (entry node ∷ founds finding) =
      subst (λ xs. All (Contains items) xs) items_are (All-contains_itself items) in
      let count = length (founds finding) in
      record {
        all_in = subst (λ xs. All (InBy sys (occurrence t) (length xs)) xs) (sym items_are)
            (All-cons (InBy sys (occurrence t) (suc count)) (entry node) (founds finding)
            (start_by (suc count))
            (each_found count finding
            (All-tail (Contains items) (entry node) (founds finding) there)));
        forced = All-cons AllForced node []
            (by_transition
            (λ tr. All
            (IsVarForced sys (occurrence t)
            (InBy sys (occurrence t) (length (items_of sys (occurrence t)))) node) tr.vars)
            (All-nil _))
            (All-nil AllForced);
      }
