-- The instances in a binding that is enabled pass each test that the start's passes, that those the
-- binding makes pass, and that goes on from instances to what their tokens name.
use Rattle.std.proofs.Common.{◌≡◌, ℕ, zero, suc, Bool, true, List, [], ◌∷◌, ◌++◌, map, length, refl, sym, ap, ◌∙◌, subst, inl, inr, arith}
use Rattle.std.specs.Prelude.{Option, Some, Contains, All, option_map, slice_get}
use Rattle.std.specs.List.{list_all}
use Rattle.std.proofs.lemmas.List.Elements.{All-contains}
use Rattle.std.proofs.lemmas.Option.{same_Some}
use Rattle.rn_items.proofs.Bools.{true_both}
use Rattle.rn_value.specs.Kinds.{HasKind}
use Rattle.rn_value.specs.declared.value.Kind.TheVariants as Kind
use Rattle.rn_value.specs.declared.value.InstRef.{InstRef}
use Rattle.rn_value.specs.declared.value.InstRef.TheVariants.{Old, New}
use Rattle.rn_value.specs.declared.value.Value.{Value}
use Rattle.rn_model.specs.declared.expr.Expr.{Expr}
use Rattle.rn_model.specs.declared.system.System.{System}
use Rattle.rn_model.specs.declared.system.NetArc.{NetArc}
use Rattle.rn_model.specs.declared.system.Creation.{Creation}
use Rattle.rn_model.specs.declared.system.Downlink.{Downlink}
use Rattle.rn_model.specs.declared.binding.Node.{Node}
use Rattle.rn_model.specs.declared.binding.Binding.{Binding}
use Rattle.rn_model.specs.Good.{Good}
use Rattle.rn_model.specs.Lists.{HaveOneValue, value_beside}
use Rattle.rn_model.specs.Systems.{transition_of, place_kind}
use Rattle.rn_model.specs.Evaluation.{worth}
use Rattle.rn_model.specs.Bindings.{IsNodeOf, env_of, node_at, Calls}
use Rattle.rn_model.specs.Agreement.{ArcAgrees, NodeAgrees, inscribed_kind}
use Rattle.rn_model.specs.Demands.{elements}
use Rattle.rn_model.specs.Markings.{Marking, tokens, tokens_at}
use Rattle.rn_model.specs.Enabling.{Enabled}
use Rattle.rn_model.specs.Derivation.{Site, left, right, uplink_arg, target, downlink_arg, arc, Assignment, Item, entry, found, computed, finds_values, items_of, EntryHolds, Holds, Satisfies, InBy, IsVarForced, MayEnter, term_value_at}
use Rattle.rn_model.specs.DerivationLaws.{AreOwnValues}
use Rattle.rn_model.proofs.EachElement.{at_place}
use Rattle.rn_model.proofs.EnablingLemmas.{not_in_nil}
use Rattle.rn_model.proofs.NodesByPath.{node_at-path}
use Rattle.rn_model.proofs.MarkingsStay.{from_strict}
use Rattle.rn_model.proofs.MarkingsOfRuns.{good_transition}
use Rattle.rn_model.proofs.OwnValues.{own_values_satisfy, not_awaiting}
use Rattle.rn_model.proofs.AskedValues.{got_contained, is_found}
use Rattle.rn_model.proofs.HoleValues.{instance_is_read, list_of_kind}
use Rattle.rn_model.proofs.ItemsOfNodes.{item_is_of_node, entry_is_item, each_beside}
use Rattle.rn_model.proofs.ReplacedValues.{replaced, replaced-Int, replaced-Inst}
use Rattle.rn_model.proofs.ReplacedReadings.{term_value-replaced}
use Rattle.rn_model.proofs.PassingInstances.{only, only-List, only-Inst, kept, kept_plain, kept_passing, only_is_kept, kept_is_only}

not_last : (p : List ℕ) (i : ℕ) → [] ≡ p ++ i ∷ [] → ⊥
not_last [] i e = let no : ⊥ = cc in no
not_last (j ∷ p) i e = let no : ⊥ = cc in no

same_prefix : (p q : List ℕ) (i j : ℕ) → p ++ i ∷ [] ≡ q ++ j ∷ [] → p ≡ q
same_prefix [] [] i j e = refl
same_prefix [] (k ∷ q) i j e = let rest : [] ≡ q ++ j ∷ [] = cc in absurd (not_last q j rest)
same_prefix (k ∷ p) [] i j e = let rest : [] ≡ p ++ i ∷ [] = cc in absurd (not_last p i rest)
same_prefix (k ∷ p) (l ∷ q) i j e =
    let rest : p ++ i ∷ [] ≡ q ++ j ∷ [] = cc in
    let first : k ≡ l = cc in
    let prefix : p ≡ q = same_prefix p q i j rest in
    cc

pub same_entry : (x y : Node) → entry x ≡ entry y → x ≡ y
same_entry x y e = cc

all_pass : (good : InstRef → Bool) (vs : List Value) → ((v : Value) → Contains vs v → only good v ≡ true) → list_all (λ p. p) (map (only good) vs) ≡ true
all_pass good [] f = refl
all_pass good (v ∷ vs) f = true_both (only good v) (list_all (λ p. p) (map (only good) vs)) (f v (0, omega arith, refl)) (all_pass good vs (λ w there. f w (suc there.0, omega (arith, there.1), there.2)))

-- the start's instance and all that are made pass, and tokens of one that passes hold such alone
pub record PassesOn (system : System) (m : Marking) (b : Binding) (good : InstRef → Bool) : Type 0 where
  pub start : (node : Node) → Contains b.nodes node → node.path ≡ [] → good node.inst ≡ true
  pub made : (node : Node) (j : ℕ) (c : Creation) → Contains b.nodes node → slice_get (transition_of system node).creations j ≡ Some c → good (New node.path j) ≡ true
  pub tokens : (n place : ℕ) (v : Value) → good (Old n) ≡ true → Contains (tokens_at m n place) v → only good v ≡ true

module _ (system : System) (m : Marking) (b : Binding) (good : InstRef → Bool) (depth : ℕ) (enabled : Enabled system m b depth) (passes : PassesOn system m b good) where
  abbrev rep : Value → Value
  rep = replaced (kept good)

  token_passes : (inst : InstRef) (place : ℕ) (v : Value) → good inst ≡ true → Contains (tokens m inst place) v → only good v ≡ true
  token_passes (Old n) place v g there = passes.tokens n place v g there
  token_passes (New path j) place v g there = absurd (not_in_nil v there)

  -- what an arc of a node on a passing instance finds passes
  found_passes : (node : Node) (k : ℕ) (x : NetArc) (v : Value) → Contains b.nodes node → good node.inst ≡ true → slice_get (transition_of system node).arcs k ≡ Some x → finds_values x.kind ≡ true → worth x.inscription (env_of system node) ≡ Some v → only good v ≡ true
  found_passes node k x v there g here finds is =
      let arc = got_contained (transition_of system node).arcs k x here in
      elim (is_found system b m node x v there arc is (enabled.fits.places node.inst x.place) finds) as (λ _. only good v ≡ true) [
        | inl token ↦ token_passes node.inst x.place v g token
        | inr list ↦
            let agrees : NodeAgrees system node = All-contains (NodeAgrees system) b.nodes node enabled.agrees.nodes there in
            let valued = at_place (ArcAgrees system node) (transition_of system node).arcs k x agrees.arcs here (not_awaiting (transition_of system node) x x.kind refl finds) in
            let same : valued.0 ≡ v = same_Some valued.0 v (sym valued.1 ∙ is) in
            let kind : HasKind v (inscribed_kind x.kind (place_kind system node.net x.place)) = subst (λ w. HasKind w (inscribed_kind x.kind (place_kind system node.net x.place))) same valued.2 in
            let listed : HasKind v (Kind.List (place_kind system node.net x.place)) = subst (λ k. HasKind v (inscribed_kind k (place_kind system node.net x.place))) list.0 kind in
            let all : list_all (λ p. p) (map (only good) (elements v)) ≡ true = all_pass good (elements v) (λ w has. token_passes node.inst x.place w g (subst (λ vs. Contains vs w) list.1 has)) in
            ap (only good) (sym (list_of_kind v (place_kind system node.net x.place) listed)) ∙ only-List good (elements v) ∙ all
      ]

  module _ (own : Assignment) (is_own : AreOwnValues system b own) where
    -- the own values with each instance that doesn't pass replaced
    abbrev other : Assignment
    other = record { var = λ path x. rep (own.var path x); hole = λ path site way. rep (own.hole path site way) }

    read_other : (node : Node) (site : Site) (e : Expr) → good node.inst ≡ true → term_value_at other node site e ≡ option_map rep (term_value_at own node site e)
    read_other node site e g = term_value-replaced (kept good) (kept_plain good) e (record { this = node.inst; var = own.var node.path; hole = own.hole node.path site }) (kept_passing good node.inst g)

    both_other : (x y u w : Option Value) → u ≡ option_map rep x → w ≡ option_map rep y → HaveOneValue x y → HaveOneValue u w
    both_other x y u w e f (v, p, q) = (rep v, e ∙ ap (option_map rep) p, f ∙ ap (option_map rep) q)

    entry_holds : (node : Node) → Contains b.nodes node → good node.inst ≡ true → ((caller : Node) (i : ℕ) (d : Downlink) → Calls system b caller i d node → good caller.inst ≡ true) → EntryHolds system b own node → EntryHolds system b other node
    entry_holds node there g callers h = record {
      equalities = λ k e here. both_other (term_value_at own node (left k) e.0) (term_value_at own node (right k) e.1) (term_value_at other node (left k) e.0) (term_value_at other node (right k) e.1)
          (read_other node (left k) e.0 g) (read_other node (right k) e.1 g) (h.equalities k e here);
      creations = λ j c here. ap rep (h.creations j c here) ∙ replaced-Inst (kept good) (New node.path j) ∙ kept_passing good (New node.path j) (passes.made node j c there here);
      args = λ caller i d calls k e f here answered.
          both_other (term_value_at own caller (downlink_arg i k) e) (term_value_at own node (uplink_arg k) f) (term_value_at other caller (downlink_arg i k) e) (term_value_at other node (uplink_arg k) f)
          (read_other caller (downlink_arg i k) e (callers caller i d calls)) (read_other node (uplink_arg k) f g) (h.args caller i d calls k e f here answered);
    }

    pub record Reached (n : ℕ) : Type 0 where
      pub satisfies : Satisfies system b (InBy system b n) other
      pub entered : (node : Node) → InBy system b n (entry node) → good node.inst ≡ true

    -- a child whose target is forced stands on a passing instance
    child_passes : (n : ℕ) → Reached n → (node : Node) → MayEnter system b (InBy system b n) (entry node) → good node.inst ≡ true
    child_passes n reached node (caller, i, d, calls, came, forced) =
        let g : good caller.inst ≡ true = reached.entered caller came in
        let read : term_value_at own caller (target i) d.target ≡ Some (Value.Inst node.inst) =
        instance_is_read d.target (env_of system caller) (record { this = caller.inst; var = own.var caller.path; hole = own.hole caller.path (target i) }) node.inst
        (record { this = refl; step = refl; var = λ x v e. is_own.values caller x v calls.caller_there e }) (enabled.agrees.calls caller i d node calls).target in
        let same : Some (rep (Value.Inst node.inst)) ≡ Some (Value.Inst node.inst) =
        sym (read_other caller (target i) d.target g ∙ ap (option_map rep) read) ∙ forced.1 other reached.satisfies ∙ sym (forced.1 own (is_own.rounds n)) ∙ read in
        sym (only-Inst good node.inst) ∙ kept_is_only good (Value.Inst node.inst) (same_Some (rep (Value.Inst node.inst)) (Value.Inst node.inst) same)

    -- a node has one caller
    one_caller : (node caller also : Node) (i j : ℕ) (d e : Downlink) → Calls system b caller i d node → Calls system b also j e node → caller ≡ also
    one_caller node caller also i j d e calls calls_too =
        let path : caller.path ≡ also.path = same_prefix caller.path also.path i j (sym calls.path ∙ calls_too.path) in
        same_Some caller also (sym (node_at-path system b depth caller enabled.shape calls.caller_there) ∙ ap (node_at b) path ∙ node_at-path system b depth also enabled.shape calls_too.caller_there)

    new_holds : (n : ℕ) → Reached n → (item : Item) → Contains (items_of system b) item → MayEnter system b (InBy system b n) item → Holds system b other item
    new_holds n reached (entry node) there may =
        entry_holds node (item_is_of_node system b (entry node) there) (child_passes n reached node may)
        (λ caller i d calls. subst (λ c. good c.inst ≡ true) (one_caller node may.0 caller may.1 i may.2 d may.3 calls) (reached.entered may.0 may.4)) (is_own.items (entry node) there)
    new_holds n reached (found node k x) there may =
        let of = item_is_of_node system b (found node k x) there in
        let g : good node.inst ≡ true = reached.entered node may in
        let h = is_own.items (found node k x) there in
        let passing : only good h.0 ≡ true = found_passes node k x h.0 of.0 g of.1 of.2 h.2 in
        (h.0, read_other node (arc k) x.inscription g ∙ ap (option_map rep) h.1 ∙ ap Some (only_is_kept good h.0 passing), h.2)
    new_holds n reached (computed node site hole) there may =
        let of = item_is_of_node system b (computed node site hole) there in
        let h = is_own.items (computed node site hole) there in
        let int = of.1 (env_of system node) (own.hole node.path site hole.way) h in
        let fixed : rep (own.hole node.path site hole.way) ≡ own.hole node.path site hole.way = ap rep int.1 ∙ replaced-Int (kept good) int.0 ∙ sym int.1 in
        h ∙ ap Some (sym fixed)

    at_start : Reached 0
    at_start = record {
      satisfies = λ item in_it.
          subst (Holds system b other) (sym in_it.3)
          (entry_holds in_it.0 in_it.1 (passes.start in_it.0 in_it.1 in_it.2) (λ caller i d calls. absurd (not_last caller.path i (sym in_it.2 ∙ calls.path))) (is_own.items (entry in_it.0) (entry_is_item system b in_it.0 in_it.1)));
      entered = λ node in_it. subst (λ s. good s.inst ≡ true) (sym (same_entry node in_it.0 in_it.3)) (passes.start in_it.0 in_it.1 in_it.2);
    }

    after_one : (n : ℕ) → Reached n → Reached (suc n)
    after_one n reached = record {
      satisfies = λ item in_it. elim in_it as (λ _. Holds system b other item) [
        | inl before ↦ reached.satisfies item before
        | inr new ↦ new_holds n reached item new.0 new.1
      ];
      entered = λ node in_it. elim in_it as (λ _. good node.inst ≡ true) [
        | inl before ↦ reached.entered node before
        | inr new ↦ child_passes n reached node new.1
      ];
    }

    reached_after : (n : ℕ) → Reached n
    reached_after zero = at_start
    reached_after (suc n) = after_one n (reached_after n)

    abbrev rounds : ℕ
    rounds = length (items_of system b)

    inst_passes_of : (node : Node) → Contains b.nodes node → good node.inst ≡ true
    inst_passes_of node there = (reached_after rounds).entered node (All-contains (InBy system b rounds) (items_of system b) (entry node) enabled.derived.all_in (entry_is_item system b node there))

    var_passes : (node : Node) (x : ℕ) (v : Value) → Contains b.nodes node → Contains (transition_of system node).vars x → value_beside (env_of system node).pairs x ≡ Some v → only good v ≡ true
    var_passes node x v there var is =
        let In = InBy system b rounds in
        let forced : IsVarForced system b In node x = All-contains (IsVarForced system b In node) (transition_of system node).vars x
        (All-contains (λ node. All (IsVarForced system b In node) (transition_of system node).vars) b.nodes node enabled.derived.forced there) var in
        let value : own.var node.path x ≡ v = is_own.values node x v there is in
        let same : Some (rep (own.var node.path x)) ≡ Some (own.var node.path x) = forced.1 other (reached_after rounds).satisfies ∙ sym (forced.1 own (is_own.rounds rounds)) in
        kept_is_only good v (subst (λ w. rep w ≡ w) value (same_Some (rep (own.var node.path x)) (own.var node.path x) same))

  -- each node of the binding stands on an instance that passes
  pub inst_passes : (node : Node) → Contains b.nodes node → good node.inst ≡ true
  inst_passes node there = let own = own_values_satisfy system b depth enabled.shape enabled.agrees in inst_passes_of own.0 own.1 node there

  -- in a good system the values of its variables hold passing instances alone
  pub value_passes : Good system → (node : Node) (v : Value) → Contains b.nodes node → Contains node.values v → only good v ≡ true
  value_passes is_good node v there has =
      let own = own_values_satisfy system b depth enabled.shape enabled.agrees in
      let of : IsNodeOf system node = All-contains (IsNodeOf system) b.nodes node enabled.shape.nodes there in
      let t = good_transition system node.net node.transition is_good of.net of.transition in
      let beside = each_beside (transition_of system node).vars node.values v (from_strict (transition_of system node).vars t.its_vars.ascending) of.values has in
      var_passes own.0 own.1 node beside.0 v there beside.1 beside.2
