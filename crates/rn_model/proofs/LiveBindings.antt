-- The existing instances in a binding that is enabled are live.
use Rattle.std.proofs.Common.{◌≡◌, ℕ, zero, suc, ◌<◌, Bool, true, List, [], ◌∷◌, length, refl, sym, ap, ◌∙◌, inl, inr, arith}
use Rattle.std.specs.Prelude.{Some, None, Contains, IsTrue, is_none, slice_get, unwrap_or, option_map}
use Rattle.std.proofs.lemmas.List.Elements.{All-contains}
use Rattle.std.proofs.lemmas.Option.{same_Some}
use Rattle.rn_value.specs.declared.value.InstRef.{InstRef}
use Rattle.rn_value.specs.declared.value.InstRef.TheVariants.{Old, New}
use Rattle.rn_value.specs.declared.value.Value.{Value}
use Rattle.rn_model.specs.declared.system.System.{System}
use Rattle.rn_model.specs.declared.binding.Node.{Node}
use Rattle.rn_model.specs.declared.binding.Binding.{Binding}
use Rattle.rn_model.specs.Systems.{may_start, net_at, transition_of, empty_transition}
use Rattle.rn_model.specs.Markings.{Marking, net_of, tokens_at}
use Rattle.rn_model.specs.Bindings.{IsNodeOf, node_at}
use Rattle.rn_model.specs.Enabling.{Enabled}
use Rattle.rn_model.specs.Liveness.{IsLive, starts, held}
use Rattle.rn_model.specs.SoundTokens.{HasSoundTokens}
use Rattle.rn_model.specs.LivenessLaws.{EnabledNameLive}
use Rattle.rn_model.proofs.NodesByPath.{node_at-path}
use Rattle.rn_model.proofs.LiveByRounds.{DecidesLive, live_decided, got_any}
use Rattle.rn_model.proofs.PassingInstances.{only, only_mentions, names_passing}
use Rattle.rn_model.proofs.DerivedInstances.{PassesOn, inst_passes, value_passes}

-- what is live is there
pub live_is_there : (system : System) (m : Marking) (n : ℕ) → IsLive system m n → (net : ℕ) × (net_of m n ≡ Some net)
live_is_there system m n (starts {net = net} there may) = (net, there)
live_is_there system m n (held place live contained named there) = (there.0.net, ap (option_map (λ i. i.net)) there.1)

-- existing instances that are live, and all new ones
abbrev pub live_or_new : (ℕ → Bool) → InstRef → Bool
live_or_new live (Old n) = live n
live_or_new live (New path j) = true

at_number : {X : Type 0} (xs : List X) (k : ℕ) (d : X) → k < length xs → slice_get xs k ≡ Some (unwrap_or (slice_get xs k) d)
at_number [] k d h = absurd (let no : ⊥ = omega (arith, h) in no)
at_number (x ∷ xs) zero d h = refl
at_number (x ∷ xs) (suc k) d h = at_number xs k d (omega (arith, h))

module _ (system : System) (m : Marking) (b : Binding) (depth : ℕ) (sound : HasSoundTokens system m) (enabled : Enabled system m b depth) where
  -- the start stands on a live instance
  pub start_is_live : (node : Node) (n : ℕ) → Contains b.nodes node → node.path ≡ [] → node.inst ≡ Old n → IsLive system m n
  start_is_live node n there path is =
      let start = enabled.shape.start in
      let same : node ≡ start.0 = same_Some node start.0 (sym (node_at-path system b depth node enabled.shape there) ∙ ap (node_at b) path ∙ start.1) in
      let of : IsNodeOf system node = All-contains (IsNodeOf system) b.nodes node enabled.shape.nodes there in
      let uplink : (transition_of system node).uplink ≡ None = ap (λ s. (transition_of system s).uplink) same ∙ start.2.uplink in
      let transitions = (net_at system node.net).transitions in
      let may : IsTrue (may_start system node.net) = got_any (λ t. is_none t.uplink) transitions node.transition (transition_of system node) (at_number transitions node.transition empty_transition of.transition) (ap is_none uplink) in
      starts {net = node.net} (All-contains (λ node. (n : ℕ) → node.inst ≡ Old n → net_of m n ≡ Some node.net) b.nodes node enabled.fits.there there n is) may

  module _ (live : ℕ → Bool) (decides : DecidesLive system m live) where
    start_passes : (node : Node) → Contains b.nodes node → node.path ≡ [] → live_or_new live node.inst ≡ true
    start_passes node there path =
        let start = enabled.shape.start in
        let same : node ≡ start.0 = same_Some node start.0 (sym (node_at-path system b depth node enabled.shape there) ∙ ap (node_at b) path ∙ start.1) in
        let is : node.inst ≡ Old start.2.exists.0 = ap (λ s. s.inst) same ∙ start.2.exists.1 in
        ap (live_or_new live) is ∙ decides.whole start.2.exists.0 (start_is_live node start.2.exists.0 there path is)

    tokens_pass : (n place : ℕ) (v : Value) → live n ≡ true → Contains (tokens_at m n place) v → only (live_or_new live) v ≡ true
    tokens_pass n place v lives has =
        let lives_n = decides.sound n lives in
        let there = live_is_there system m n lives_n in
        let token = sound n there.0 place v there.1 has in
        names_passing (live_or_new live) v (record { old = λ k named. decides.whole k (held place lives_n has named (token.there k named)); new = λ path j news. refl })

    pub live_pass_on : PassesOn system m b (live_or_new live)
    live_pass_on = record { start = start_passes; made = λ node j c there here. refl; tokens = tokens_pass }

-- each node that stands on an existing instance stands on a live one
pub nodes_stand_on_live : (system : System) (m : Marking) (b : Binding) (depth : ℕ) → HasSoundTokens system m → Enabled system m b depth → (node : Node) (n : ℕ) → Contains b.nodes node → node.inst ≡ Old n → IsLive system m n
nodes_stand_on_live system m b depth sound enabled node n there is =
    let live = live_decided system m in
    let passes = live_pass_on system m b depth sound enabled live.0 live.1 in
    live.1.sound n (sym (ap (live_or_new live.0) is) ∙ inst_passes system m b (live_or_new live.0) depth enabled passes node there)

pub enabled_name_live : EnabledNameLive
enabled_name_live system m b depth good sound enabled node n there (inl is) = nodes_stand_on_live system m b depth sound enabled node n there is
enabled_name_live system m b depth good sound enabled node n there (inr (v, has, mentioned)) =
    let live = live_decided system m in
    let passes = live_pass_on system m b depth sound enabled live.0 live.1 in
    live.1.sound n (only_mentions (live_or_new live.0) v (value_passes system m b (live_or_new live.0) depth enabled passes good node v there has) n mentioned)
