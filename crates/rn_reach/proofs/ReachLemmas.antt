-- Enabled bindings stay within the instances that their start reaches.
use Rattle.std.proofs.Common.{◌≡◌, ℕ, true, Bool, [], refl, sym, ap, ◌∙◌, subst}
use Rattle.std.specs.Prelude.{Contains, slice_get, unwrap_or, option_and_then}
use Rattle.std.proofs.lemmas.Option.{same_Some}
use Rattle.rn_value.specs.declared.value.Value.{Value}
use Rattle.rn_model.specs.declared.system.System.{System}
use Rattle.rn_model.specs.declared.binding.Node.{Node}
use Rattle.rn_model.specs.declared.binding.Binding.{Binding}
use Rattle.rn_model.specs.Markings.{Marking, tokens_at}
use Rattle.rn_model.specs.Bindings.{node_at}
use Rattle.rn_model.specs.Enabling.{Enabled}
use Rattle.rn_model.proofs.NodesByPath.{node_at-path}
use Rattle.rn_model.proofs.LiveBindings.{live_or_new}
use Rattle.rn_model.proofs.OwnInstances.{looks_at_its_own}
use Rattle.rn_model.proofs.PassingInstances.{only, names_passing}
use Rattle.rn_model.proofs.DerivedInstances.{PassesOn, inst_passes}
use Rattle.rn_reach.specs.Reach.{Reach, itself, further, StartsIn, IsSameInReach}
use Rattle.rn_reach.specs.Laws.{BindingsStayInReach, ReachIsTheSame, ReachDecides}
use Rattle.rn_reach.proofs.ReachDecided.{DecidesReach, reach_decided}

module _ (system : System) (m : Marking) (b : Binding) (depth n : ℕ) (enabled : Enabled system m b depth) (start : StartsIn b n) (reaches : ℕ → Bool) (decides : DecidesReach m n reaches) where
  start_passes : (node : Node) → Contains b.nodes node → node.path ≡ [] → live_or_new reaches node.inst ≡ true
  start_passes node there path =
      let same : node ≡ start.0 = same_Some node start.0 (sym (node_at-path system b depth node enabled.shape there) ∙ ap (node_at b) path ∙ start.1) in
      ap (λ s. live_or_new reaches s.inst) same ∙ ap (live_or_new reaches) start.2 ∙ decides.whole n itself

  tokens_pass : (h place : ℕ) (v : Value) → reaches h ≡ true → Contains (tokens_at m h place) v → only (live_or_new reaches) v ≡ true
  tokens_pass h place v reached has =
      names_passing (live_or_new reaches) v (record {
        old = λ k occurs. decides.whole k (further (decides.sound h reached) (record { place = place; token = v; there = has; occurs = occurs }));
        new = λ path j news. refl;
      })

  reached_pass_on : PassesOn system m b (live_or_new reaches)
  reached_pass_on = record { start = start_passes; made = λ node j c there here. refl; tokens = tokens_pass }

pub bindings_stay_in_reach : BindingsStayInReach
bindings_stay_in_reach system m b depth n enabled start node k there is =
    let decided = reach_decided m n in
    let passes = reached_pass_on system m b depth n enabled start decided.0 decided.1 in
    decided.1.sound k (sym (ap (live_or_new decided.0) is) ∙ inst_passes system m b (live_or_new decided.0) depth enabled passes node there)

-- Two markings with the same at all that an instance reaches in the first.
module _ (m other : Marking) (n : ℕ) (same : IsSameInReach m other n) where
  same_tokens : (h place : ℕ) → Reach m n h → tokens_at other h place ≡ tokens_at m h place
  same_tokens h place reach = ap (λ o. unwrap_or (option_and_then (λ i. slice_get i.places place) o) []) (same h reach)

  reached_in_other : (k : ℕ) → Reach m n k → Reach other n k
  reached_in_other k itself = itself
  reached_in_other k (further {holder = h} reach refers) =
      further (reached_in_other h reach) (record {
        place = refers.place;
        token = refers.token;
        there = subst (λ vs. Contains vs refers.token) (sym (same_tokens h refers.place reach)) refers.there;
        occurs = refers.occurs;
      })

  reached_in_first : (k : ℕ) → Reach other n k → Reach m n k
  reached_in_first k itself = itself
  reached_in_first k (further {holder = h} reach refers) =
      let before = reached_in_first h reach in
      further before (record {
        place = refers.place;
        token = refers.token;
        there = subst (λ vs. Contains vs refers.token) (same_tokens h refers.place before) refers.there;
        occurs = refers.occurs;
      })

pub reach_is_the_same : ReachIsTheSame
reach_is_the_same m other n same k = (reached_in_other m other n same k, reached_in_first m other n same k)

-- where an instance's reach is the same, the same bindings that start in it are enabled
pub reach_decides : ReachDecides
reach_decides system m other b depth n same start = (
  λ e. looks_at_its_own system m other b depth (λ node k there is. same k (bindings_stay_in_reach system m b depth n e start node k there is)) e,
  λ e. looks_at_its_own system other m b depth (λ node k there is. sym (same k (reached_in_first m other n same k (bindings_stay_in_reach system other b depth n e start node k there is)))) e,
)
