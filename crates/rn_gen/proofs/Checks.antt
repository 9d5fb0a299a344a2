-- No rule is broken in the plain form of the workload text, whatever the spots of its tokens.
use Rattle.std.proofs.Common.{◌≡◌, ℤ, pos, true, not, List, [], ◌∷◌, ◌++◌, map, refl, ap, Some, codes, flat_map}
use Rattle.rn_model.specs.declared.expr.OpKind.TheVariants.{Add, Sub}
use Rattle.rn_model.specs.declared.expr.CompareKind.TheVariants.{Less, Greater}
use Rattle.rn_model.specs.declared.system.ArcKind.TheVariants.{Input, Output}
use Rattle.rn_notation.specs.declared.token.Spot.{Spot}
use Rattle.rn_notation.specs.declared.token.Token.{Token}
use Rattle.rn_inscript.specs.Expressions.{joined}
use Rattle.rn_net.specs.declared.kinds.PKindForm.TheVariants as K
use Rattle.rn_net.specs.Kinds.{kind_at}
use Rattle.rn_declared.specs.declared.pattern.Pattern.TheVariants as Pattern
use Rattle.rn_declared.specs.Patterns.{pattern_of}
use Rattle.rn_rules.specs.Transitions.{Scope, transition_faults, channel_faults, uplink_faults, downlink_faults}
use Rattle.rn_declared.specs.Channels.{channels_faults}
use Rattle.rn_rules.specs.Systems.{scope_of, net_faults, system_faults, text_start}
use Rattle.rn_declared.specs.Names.{same_name, declared_faults}
use Rattle.rn_declared.specs.Declarations.{kind_faults, place_faults}
use Rattle.rn_declared.specs.Faults.{broken_if, past_limit}
use Rattle.rn_declared.specs.declared.fault.Fault.{Fault}
use Rattle.rn_declared.specs.declared.fault.Rule.TheVariants as Rule
use Rattle.rn_model.specs.Limits.{most_vars, most_places, most_transitions, most_nets, most_channels}
use Rattle.std.specs.List.{list_any}
use Rattle.rn_gen.proofs.Streams.{past}
use Rattle.rn_gen.proofs.Forms.{Stream, var_at, int_at, named_at, go_channel, done_channel, int_place, net_place, make, step, finish, go_on, be_done, main, worker, workload_form}
use Rattle.rn_gen.proofs.Rules.{none_both, none_of_three, pattern_int, pattern_net, no_int_faults, no_net_faults, int_place_fine, net_place_fine, seen_var, seen_int, seen_op, int_arc, net_arc, guard_fine, creation_fine, target_fine, int_call, bare_call}

-- transitions of `main`
make_fine : (scope : Scope) (at : Stream) →
    scope.pattern_of_var (codes "n") ≡ Some Pattern.Int →
    scope.pattern_of_var (codes "w") ≡ Some Pattern.Net →
    scope.pattern_of_place (codes "c") ≡ Some Pattern.Int →
    scope.pattern_of_place (codes "busy") ≡ Some Pattern.Net →
    scope.is_net (codes "worker") ≡ true → transition_faults scope (make at) ≡ []
unfolding make
make_fine scope at n_int w_net c_int busy_net worker =
    let n_6 = seen_var scope (at 6) (codes "n") Pattern.Int n_int in
    let n_9 = seen_var scope (at 9) (codes "n") Pattern.Int n_int in
    let n_21 = seen_var scope (at 21) (codes "n") Pattern.Int n_int in
    let w_28 = seen_var scope (at 28) (codes "w") Pattern.Net w_net in
    let less = seen_op scope Sub (at 21).spot (at 21).spot (at 23).spot (var_at (at 21) (codes "n"))
    (int_at (at 23) 1) n_21 (seen_int scope (at 23) 1) in
    rw (
      int_arc Input (scope.pattern_of_place (codes "c")) (named_at (at 4) (codes "c"))
          (var_at (at 6) (codes "n")) scope (at 6).spot refl refl c_int n_6,
      guard_fine Greater (var_at (at 9) (codes "n")) (int_at (at 11) 0) scope (at 9).spot (at 11).spot
          refl n_9 (seen_int scope (at 11) 0),
      creation_fine scope (named_at (at 13) (codes "w")) (named_at (at 16) (codes "worker"))
          (scope.is_net (codes "worker")) w_net worker,
      int_arc Output (scope.pattern_of_place (codes "c")) (named_at (at 19) (codes "c"))
          (joined Sub (var_at (at 21) (codes "n")) (int_at (at 23) 1)) scope (at 21).spot refl refl
          c_int less,
      net_arc Output (scope.pattern_of_place (codes "busy")) (named_at (at 26) (codes "busy"))
          (var_at (at 28) (codes "w")) scope (at 28).spot refl refl busy_net w_28,
    ) refl

step_fine : (scope : Scope) (at : Stream) →
    scope.pattern_of_var (codes "w") ≡ Some Pattern.Net →
    scope.pattern_of_var (codes "k") ≡ Some Pattern.Int →
    scope.pattern_of_place (codes "busy") ≡ Some Pattern.Net →
    scope.channel (codes "go") 1 ≡ Some (Pattern.Int ∷ []) → transition_faults scope (step at) ≡ []
unfolding step channel_faults downlink_faults
step_fine scope at w_net k_int busy_net go =
    let w_6 = seen_var scope (at 6) (codes "w") Pattern.Net w_net in
    let w_8 = seen_var scope (at 8) (codes "w") Pattern.Net w_net in
    let k_12 = seen_var scope (at 12) (codes "k") Pattern.Int k_int in
    let w_18 = seen_var scope (at 18) (codes "w") Pattern.Net w_net in
    rw (
      net_arc Input (scope.pattern_of_place (codes "busy")) (named_at (at 4) (codes "busy"))
          (var_at (at 6) (codes "w")) scope (at 6).spot refl refl busy_net w_6,
      target_fine scope (var_at (at 8) (codes "w")) (at 8).spot w_8,
      int_call (scope.channel (codes "go") 1) (named_at (at 10) (codes "go")) scope
          (var_at (at 12) (codes "k")) (at 12).spot go k_12,
      net_arc Output (scope.pattern_of_place (codes "busy")) (named_at (at 16) (codes "busy"))
          (var_at (at 18) (codes "w")) scope (at 18).spot refl refl busy_net w_18,
    ) refl

finish_fine : (scope : Scope) (at : Stream) →
    scope.pattern_of_var (codes "w") ≡ Some Pattern.Net →
    scope.pattern_of_place (codes "busy") ≡ Some Pattern.Net →
    scope.channel (codes "done") 0 ≡ Some [] → transition_faults scope (finish at) ≡ []
unfolding finish channel_faults downlink_faults
finish_fine scope at w_net busy_net done =
    let w_6 = seen_var scope (at 6) (codes "w") Pattern.Net w_net in
    let w_8 = seen_var scope (at 8) (codes "w") Pattern.Net w_net in
    rw (
      net_arc Input (scope.pattern_of_place (codes "busy")) (named_at (at 4) (codes "busy"))
          (var_at (at 6) (codes "w")) scope (at 6).spot refl refl busy_net w_6,
      target_fine scope (var_at (at 8) (codes "w")) (at 8).spot w_8,
      bare_call (scope.channel (codes "done") 0) (named_at (at 10) (codes "done")) done,
    ) refl

-- transitions of `worker`
go_on_fine : (scope : Scope) (at : Stream) →
    scope.pattern_of_var (codes "k") ≡ Some Pattern.Int →
    scope.pattern_of_place (codes "s") ≡ Some Pattern.Int →
    scope.channel (codes "go") 1 ≡ Some (Pattern.Int ∷ []) → transition_faults scope (go_on at) ≡ []
unfolding go_on channel_faults uplink_faults
go_on_fine scope at k_int s_int go =
    let k_6 = seen_var scope (at 6) (codes "k") Pattern.Int k_int in
    let k_12 = seen_var scope (at 12) (codes "k") Pattern.Int k_int in
    let k_15 = seen_var scope (at 15) (codes "k") Pattern.Int k_int in
    let k_22 = seen_var scope (at 22) (codes "k") Pattern.Int k_int in
    let more = seen_op scope Add (at 22).spot (at 22).spot (at 24).spot (var_at (at 22) (codes "k"))
    (int_at (at 24) 1) k_22 (seen_int scope (at 24) 1) in
    rw (
      int_call (scope.channel (codes "go") 1) (named_at (at 4) (codes "go")) scope
          (var_at (at 6) (codes "k")) (at 6).spot go k_6,
      int_arc Input (scope.pattern_of_place (codes "s")) (named_at (at 10) (codes "s"))
          (var_at (at 12) (codes "k")) scope (at 12).spot refl refl s_int k_12,
      guard_fine Less (var_at (at 15) (codes "k")) (int_at (at 17) 3) scope (at 15).spot (at 17).spot
          refl k_15 (seen_int scope (at 17) 3),
      int_arc Output (scope.pattern_of_place (codes "s")) (named_at (at 20) (codes "s"))
          (joined Add (var_at (at 22) (codes "k")) (int_at (at 24) 1)) scope (at 22).spot refl refl
          s_int more,
    ) refl

be_done_fine : (scope : Scope) (at : Stream) →
    scope.pattern_of_place (codes "s") ≡ Some Pattern.Int →
    scope.channel (codes "done") 0 ≡ Some [] → transition_faults scope (be_done at) ≡ []
unfolding be_done channel_faults uplink_faults
be_done_fine scope at s_int done =
    rw (
      bare_call (scope.channel (codes "done") 0) (named_at (at 4) (codes "done")) done,
      int_arc Input (scope.pattern_of_place (codes "s")) (named_at (at 9) (codes "s"))
          (int_at (at 11) 3) scope (at 11).spot refl refl s_int (seen_int scope (at 11) 3),
    ) refl

-- what is known in a net, where its first two variables are whole numbers and its third is a net
known_int : (s : Spot) → Some (pattern_of (kind_at s K.Int)) ≡ Some Pattern.Int
known_int s = ap Some (pattern_int s)

known_net : (s : Spot) → Some (pattern_of (kind_at s K.Net)) ≡ Some Pattern.Net
known_net s = ap Some (pattern_net s)

known_go : (s : Spot) → Some (pattern_of (kind_at s K.Int) ∷ []) ≡ Some (Pattern.Int ∷ [])
known_go s = ap (λ p. Some (p ∷ [])) (pattern_int s)

main_transitions : (z : ℤ) (at : Stream) →
    flat_map (transition_faults (scope_of (workload_form z at) (main z (past 11 at))))
    (make (past 41 at) ∷ step (past 72 at) ∷ finish (past 93 at) ∷ []) ≡ []
unfolding workload_form main worker go_channel done_channel
main_transitions z at =
    let scope = scope_of (workload_form z at) (main z (past 11 at)) in
    let w = known_net (at 27).spot in
    let busy = known_net (at 39).spot in
    none_of_three (transition_faults scope (make (past 41 at)))
    (transition_faults scope (step (past 72 at))) (transition_faults scope (finish (past 93 at)))
    (make_fine scope (past 41 at) (known_int (at 17).spot) w (known_int (at 32).spot) busy refl)
    (step_fine scope (past 72 at) w (known_int (at 22).spot) busy (known_go (at 3).spot))
    (finish_fine scope (past 93 at) w busy refl)

worker_transitions : (z : ℤ) (at : Stream) →
    flat_map (transition_faults (scope_of (workload_form z at) (worker (past 109 at))))
    (go_on (past 124 at) ∷ be_done (past 151 at) ∷ []) ≡ []
unfolding workload_form main worker go_channel done_channel
worker_transitions z at =
    let scope = scope_of (workload_form z at) (worker (past 109 at)) in
    let s = known_int (at 120).spot in
    none_of_three [] (transition_faults scope (go_on (past 124 at)))
    (transition_faults scope (be_done (past 151 at))) refl
    (go_on_fine scope (past 124 at) (known_int (at 115).spot) s (known_go (at 3).spot))
    (be_done_fine scope (past 151 at) s refl)

-- nets
six : (a b c d e f : List Fault) → a ≡ [] → b ≡ [] → c ≡ [] → d ≡ [] → e ≡ [] → f ≡ [] →
    a ++ b ++ c ++ d ++ e ++ f ≡ []
six a b c d e f n o p q r s = rw (n, o, p, q, r, s) refl

main_fine : (z : ℤ) (at : Stream) →
    net_faults (workload_form z at) (main z (past 11 at)) ≡ []
unfolding main make step finish
main_fine z at =
    let net = main z (past 11 at) in
    let int = λ (t : Token). kind_at t.spot K.Int in
    let place = int_place (codes "c") z (past 29 at) in
    let other = net_place (codes "busy") (past 36 at) in
    six (declared_faults most_vars (map (λ v. v.name) net.vars))
    (flat_map (λ v. kind_faults v.kind) net.vars)
    (declared_faults most_places (map (λ p. p.name) net.places)) (flat_map place_faults net.places)
    (declared_faults most_transitions (map (λ t. t.name) net.transitions))
    (flat_map (transition_faults (scope_of (workload_form z at) net)) net.transitions)
    refl
    (none_of_three (kind_faults (int (at 17))) (kind_faults (int (at 22)))
    (kind_faults (kind_at (at 27).spot K.Net)) (no_int_faults (at 17).spot)
    (no_int_faults (at 22).spot) (no_net_faults (at 27).spot))
    refl
    (none_of_three [] (place_faults place) (place_faults other) refl
    (int_place_fine (codes "c") z (past 29 at)) (net_place_fine (codes "busy") (past 36 at)))
    refl (main_transitions z at)

worker_fine : (z : ℤ) (at : Stream) →
    net_faults (workload_form z at) (worker (past 109 at)) ≡ []
unfolding worker go_on be_done
worker_fine z at =
    let net = worker (past 109 at) in
    let int = kind_at (at 115).spot K.Int in
    let place = int_place (codes "s") (pos 0) (past 117 at) in
    six (declared_faults most_vars (map (λ v. v.name) net.vars))
    (flat_map (λ v. kind_faults v.kind) net.vars)
    (declared_faults most_places (map (λ p. p.name) net.places)) (flat_map place_faults net.places)
    (declared_faults most_transitions (map (λ t. t.name) net.transitions))
    (flat_map (transition_faults (scope_of (workload_form z at) net)) net.transitions)
    refl (none_both (kind_faults int) [] (no_int_faults (at 115).spot) refl)
    refl (none_both (place_faults place) [] (int_place_fine (codes "s") (pos 0) (past 117 at)) refl)
    refl (worker_transitions z at)

channels_fine : (at : Stream) →
    channels_faults [] (go_channel at ∷ done_channel (past 6 at) ∷ []) ≡ []
unfolding go_channel done_channel
channels_fine at =
    let faults = kind_faults (kind_at (at 3).spot K.Int) in
    none_both (faults ++ [] ++ []) []
    (none_both (faults ++ []) [] (none_both faults [] (no_int_faults (at 3).spot) refl) refl) refl

pub nothing_broken : (z : ℤ) (at : Stream) → system_faults (workload_form z at) ≡ []
unfolding workload_form main worker go_channel done_channel
nothing_broken z at =
    let plain = workload_form z at in
    six [] (broken_if (not (list_any (λ net. same_name net.name.text (codes "main")) plain.nets))
    Rule.Main text_start)
    (channels_faults [] plain.channels)
    (past_limit most_channels (map (λ c. c.name.spot) plain.channels))
    (declared_faults most_nets (map (λ n. n.name) plain.nets)) (flat_map (net_faults plain) plain.nets)
    refl refl (channels_fine at) refl refl
    (none_of_three [] (net_faults plain (main z (past 11 at)))
    (net_faults plain (worker (past 109 at))) refl (main_fine z at) (worker_fine z at))
