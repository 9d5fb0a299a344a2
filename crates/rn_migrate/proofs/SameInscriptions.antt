-- What is broken in the inscriptions of a transition doesn't depend on spots, but for the spots that
-- are reported.
use Rattle.std.proofs.Common.{◌≡◌, ℕ, ◌&&◌, Bool, false, not, List, [], ◌∷◌, ◌++◌, length, map, refl, ap, ◌∙◌}
use Rattle.std.specs.Prelude.{flat_map, nat_lt, Option, Some, None, option_map, is_none, is_some, if◌then◌else◌}
use Rattle.std.specs.Option.{option_map_or}
use Rattle.std.proofs.lemmas.List.{length-map}
use Rattle.rn_notation.specs.declared.token.Spot.{Spot}
use Rattle.rn_model.specs.Limits.{most_inscriptions}
use Rattle.rn_model.specs.Systems.{is_output}
use Rattle.rn_model.specs.declared.system.ArcKind.{ArcKind}
use Rattle.rn_inscript.specs.declared.exprs.PExpr.{PExpr, PExpr-F, fold_out-PExpr, out-PExpr, out-roll-PExpr}
use Rattle.rn_inscript.specs.declared.exprs.PForm.{PForm, fold-PForm, roll-PForm}
use Rattle.rn_inscript.specs.declared.inscriptions.PName.{PName}
use Rattle.rn_inscript.specs.declared.inscriptions.PInscribed.{PInscribed}
use Rattle.rn_inscript.specs.declared.inscriptions.PInscribed.TheVariants as I
use Rattle.rn_inscript.specs.declared.inscriptions.PInscription.{PInscription}
use Rattle.rn_net.specs.declared.plain.PTransition.{PTransition}
use Rattle.rn_declared.specs.declared.fault.Rule.TheVariants as Rule
use Rattle.rn_declared.specs.declared.pattern.Pattern.{Pattern}
use Rattle.rn_declared.specs.declared.pattern.Pattern.TheVariants as Pattern
use Rattle.rn_declared.specs.Faults.{broken, broken_if, past_limit}
use Rattle.rn_declared.specs.Names.{number_among}
use Rattle.rn_rules.specs.Expressions.{Where, Seen, misfit, variable_faults, seen_of}
use Rattle.rn_rules.specs.Arcs.{asked_of, is_clear, is_variable, inscribed_faults, arc_faults}
use Rattle.rn_rules.specs.Counted.{is_flex_output, holds_name, counted_faults}
use Rattle.rn_rules.specs.Calls.{misfits, channel_call_faults, call_faults, target_faults, is_no_net, creation_faults}
use Rattle.rn_rules.specs.Actions.{set_name, set_faults, value_faults}
use Rattle.rn_rules.specs.Transitions.{Scope, Progress, in_action, in_output, elsewhere, set_action_faults, channel_faults, uplink_faults, downlink_faults, inscription_faults, after, inscriptions_faults, at_first, transition_faults}
use Rattle.rn_print.specs.SameButSpots.{first_spot, name_unplaced, expr_unplaced, expr_moved, inscribed_unplaced, inscription_unplaced, transition_unplaced}
use Rattle.rn_migrate.proofs.MovedFaults.{all_moved, joined_kept, both, flat, if_so, if_same, limit_of}
use Rattle.rn_migrate.proofs.SameExpressions.{seen_moved, misfit_moved, variable_moved, seen_moved_to, holds_kept, variable_kept, sides_moved_to, condition_moved}

-- arcs
asked_moved : (kind : ArcKind) (place : Option Pattern) (a : Seen) →
    option_map_or (λ pattern. misfit (seen_moved a) (asked_of kind pattern)) place []
    ≡ all_moved (option_map_or (λ pattern. misfit a (asked_of kind pattern)) place [])
asked_moved kind None a = refl
asked_moved kind (Some pattern) a = misfit_moved a (asked_of kind pattern)

inscribed_moved : (kind : ArcKind) (place : Option Pattern) (e : PExpr) (at : Where) →
    inscribed_faults kind place (expr_unplaced e) at ≡ all_moved (inscribed_faults kind place e at)
unfolding inscribed_faults
inscribed_moved kind place e at =
    let a = seen_of e at in
    let asked = option_map_or (λ pattern. misfit a (asked_of kind pattern)) place [] in
    let asked2 = option_map_or (λ pattern. misfit (seen_moved a) (asked_of kind pattern)) place [] in
    let wrong = is_clear kind && not (is_variable e) in
    let wrong2 = is_clear kind && not (is_variable (expr_unplaced e)) in
    ap (λ (s : Seen). s.faults
    ++ option_map_or (λ pattern. misfit s (asked_of kind pattern)) place []
    ++ broken_if wrong2 Rule.Inscription s.spot) (seen_moved_to e at)
    ∙ both (a.faults ++ asked) (broken_if wrong Rule.Inscription a.spot)
    (all_moved a.faults ++ asked2) (broken_if wrong2 Rule.Inscription first_spot)
    (both a.faults asked (all_moved a.faults) asked2 refl (asked_moved kind place a))
    (if_same wrong wrong2 Rule.Inscription a.spot
    (ap (λ b. is_clear kind && not b) (variable_kept e)))

arc_moved : (kind : ArcKind) (place : Option Pattern) (name : PName) (e : Option PExpr) (at : Where) →
    arc_faults kind place (name_unplaced name) (option_map expr_unplaced e) at
    ≡ all_moved (arc_faults kind place name e at)
arc_moved kind place name None at =
    both (broken_if (is_none place) Rule.Known name.spot) (broken Rule.Inscription name.spot ∷ [])
    (broken_if (is_none place) Rule.Known first_spot) (broken Rule.Inscription first_spot ∷ [])
    (if_so (is_none place) Rule.Known name.spot) refl
arc_moved kind place name (Some e) at =
    both (broken_if (is_none place) Rule.Known name.spot) (inscribed_faults kind place e at)
    (broken_if (is_none place) Rule.Known first_spot) (inscribed_faults kind place (expr_unplaced e) at)
    (if_so (is_none place) Rule.Known name.spot) (inscribed_moved kind place e at)

abbrev bare_form : PForm → PForm
bare_form = fold-PForm PForm PExpr roll-PForm expr_moved

spot_moved : (e : PExpr) → (expr_unplaced e).spot ≡ first_spot
spot_moved e =
    ap (λ (x : PExpr). x.spot) (fold_out-PExpr PForm PExpr roll-PForm expr_moved e)
    ∙ ap (λ (x : PExpr-F PForm PExpr). x.spot)
    (out-roll-PExpr (record { form = bare_form (out-PExpr e).form; spot = first_spot }))

counted_moved : (kind : ArcKind) (capped : Bool) (e : Option PExpr) (acts : List ℕ → Bool) →
    counted_faults kind capped (option_map expr_unplaced e) acts
    ≡ all_moved (counted_faults kind capped e acts)
counted_moved kind capped None acts = refl
counted_moved kind capped (Some e) acts =
    let wrong = is_flex_output kind && capped && holds_name e acts in
    let wrong2 = is_flex_output kind && capped && holds_name (expr_unplaced e) acts in
    ap (broken_if wrong2 Rule.Counted) (spot_moved e)
    ∙ if_same wrong wrong2 Rule.Counted e.spot
    (ap (λ holds. is_flex_output kind && capped && holds acts) (holds_kept e))

-- calls
misfits_moved : (es : List Seen) (patterns : List Pattern) →
    misfits (map seen_moved es) patterns ≡ all_moved (misfits es patterns)
misfits_moved [] patterns = refl
misfits_moved (e ∷ es) [] = refl
misfits_moved (e ∷ es) (pattern ∷ patterns) =
    both (misfit e pattern) (misfits es patterns) (misfit (seen_moved e) pattern)
    (misfits (map seen_moved es) patterns) (misfit_moved e pattern) (misfits_moved es patterns)

channel_call_moved : (patterns : Option (List Pattern)) (name : PName) (args : List Seen) →
    channel_call_faults patterns (name_unplaced name) (map seen_moved args)
    ≡ all_moved (channel_call_faults patterns name args)
channel_call_moved None name args = refl
channel_call_moved (Some patterns) name args = misfits_moved args patterns

call_moved : (patterns : Option (List Pattern)) (name : PName) (args : List Seen) →
    call_faults patterns (name_unplaced name) (map seen_moved args)
    ≡ all_moved (call_faults patterns name args)
unfolding call_faults
call_moved patterns name args =
    both (flat_map (λ (e : Seen). e.faults) args) (channel_call_faults patterns name args)
    (flat_map (λ (e : Seen). e.faults) (map seen_moved args))
    (channel_call_faults patterns (name_unplaced name) (map seen_moved args))
    (flat (λ (e : Seen). e.faults) (λ (e : Seen). e.faults) seen_moved args (λ e. refl))
    (channel_call_moved patterns name args)

args_seen : (place : Where) (args : List PExpr) →
    map (λ seen. seen place) (map seen_of (map expr_unplaced args))
    ≡ map seen_moved (map (λ seen. seen place) (map seen_of args))
args_seen place [] = refl
args_seen place (e ∷ es) =
    ap (λ s. s ∷ map (λ seen. seen place) (map seen_of (map expr_unplaced es))) (seen_moved_to e place)
    ∙ ap (λ ss. seen_moved (seen_of e place) ∷ ss) (args_seen place es)

channel_moved : (scope : Scope) (p : Progress) (channel : PName) (args : List PExpr) →
    channel_faults scope p (name_unplaced channel) (map expr_unplaced args)
    ≡ all_moved (channel_faults scope p channel args)
unfolding channel_faults
channel_moved scope p channel args =
    let place = elsewhere scope p in
    let patterns = scope.channel channel.text (length args) in
    ap (λ n. call_faults (scope.channel channel.text n) (name_unplaced channel)
    (map (λ seen. seen place) (map seen_of (map expr_unplaced args)))) (length-map args expr_unplaced)
    ∙ ap (call_faults patterns (name_unplaced channel)) (args_seen place args)
    ∙ call_moved patterns channel (map (λ seen. seen place) (map seen_of args))

uplink_moved : (scope : Scope) (p : Progress) (s : Spot) (channel : PName) (args : List PExpr) →
    uplink_faults scope p first_spot (name_unplaced channel) (map expr_unplaced args)
    ≡ all_moved (uplink_faults scope p s channel args)
unfolding uplink_faults
uplink_moved scope p s channel args =
    both (broken_if p.called Rule.Uplink s) (channel_faults scope p channel args)
    (broken_if p.called Rule.Uplink first_spot)
    (channel_faults scope p (name_unplaced channel) (map expr_unplaced args))
    (if_so p.called Rule.Uplink s) (channel_moved scope p channel args)

target_moved : (target : Seen) → target_faults (seen_moved target) ≡ all_moved (target_faults target)
unfolding target_faults
target_moved target =
    both target.faults (misfit target Pattern.Net) (all_moved target.faults)
    (misfit (seen_moved target) Pattern.Net) refl (misfit_moved target Pattern.Net)

downlink_moved : (scope : Scope) (p : Progress) (target : PExpr) (channel : PName)
    (args : List PExpr) →
    downlink_faults scope p (expr_unplaced target) (name_unplaced channel) (map expr_unplaced args)
    ≡ all_moved (downlink_faults scope p target channel args)
unfolding downlink_faults
downlink_moved scope p target channel args =
    let seen = seen_of target (elsewhere scope p) in
    let seen2 = seen_of (expr_unplaced target) (elsewhere scope p) in
    both (target_faults seen) (channel_faults scope p channel args) (target_faults seen2)
    (channel_faults scope p (name_unplaced channel) (map expr_unplaced args))
    (ap target_faults (seen_moved_to target (elsewhere scope p)) ∙ target_moved seen)
    (channel_moved scope p channel args)

creation_moved : (at : Where) (var net : PName) (declared : Bool) →
    creation_faults at (name_unplaced var) (name_unplaced net) declared
    ≡ all_moved (creation_faults at var net declared)
creation_moved at var net declared =
    let variable = variable_faults at var.text var.spot in
    let variable2 = variable_faults at var.text first_spot in
    let no = is_no_net (at.pattern_of_var var.text) in
    both (variable ++ broken_if no Rule.Creation var.spot) (broken_if (not declared) Rule.Known net.spot)
    (variable2 ++ broken_if no Rule.Creation first_spot) (broken_if (not declared) Rule.Known first_spot)
    (both variable (broken_if no Rule.Creation var.spot) variable2 (broken_if no Rule.Creation first_spot)
    (variable_moved at var.text var.spot) (if_so no Rule.Creation var.spot))
    (if_so (not declared) Rule.Known net.spot)

-- actions
set_moved : (pattern : Option Pattern) (number : Option ℕ) (past : ℕ) (var : PName) →
    set_faults pattern number past (name_unplaced var) ≡ all_moved (set_faults pattern number past var)
set_moved pattern number past var =
    let unknown = is_none pattern in
    let again = option_map_or (λ n. nat_lt n past) number false in
    both (broken_if unknown Rule.Known var.spot) (broken_if again Rule.Actions var.spot)
    (broken_if unknown Rule.Known first_spot) (broken_if again Rule.Actions first_spot)
    (if_so unknown Rule.Known var.spot) (if_so again Rule.Actions var.spot)

given_moved : (pattern : Option Pattern) (value : Seen) →
    option_map_or (λ p. misfit (seen_moved value) p) pattern []
    ≡ all_moved (option_map_or (λ p. misfit value p) pattern [])
given_moved None value = refl
given_moved (Some pattern) value = misfit_moved value pattern

value_moved : (pattern : Option Pattern) (value : Seen) →
    value_faults pattern (seen_moved value) ≡ all_moved (value_faults pattern value)
unfolding value_faults
value_moved pattern value =
    both value.faults (option_map_or (λ p. misfit value p) pattern []) (all_moved value.faults)
    (option_map_or (λ p. misfit (seen_moved value) p) pattern []) refl (given_moved pattern value)

set_action_moved : (scope : Scope) (p : Progress) (var : PName) (e : PExpr) →
    set_action_faults scope p (name_unplaced var) (expr_unplaced e)
    ≡ all_moved (set_action_faults scope p var e)
unfolding set_action_faults
set_action_moved scope p var e =
    let pattern = scope.pattern_of_var var.text in
    let at = in_action scope p in
    both (set_faults pattern (p.setter var.text) p.past var) (value_faults pattern (seen_of e at))
    (set_faults pattern (p.setter var.text) p.past (name_unplaced var))
    (value_faults pattern (seen_of (expr_unplaced e) at))
    (set_moved pattern (p.setter var.text) p.past var)
    (ap (value_faults pattern) (seen_moved_to e at) ∙ value_moved pattern (seen_of e at))

-- inscriptions
inscription_moved : (scope : Scope) (p : Progress) (i : PInscription) (form : PInscribed) →
    inscription_faults scope p (inscription_unplaced i) (inscribed_unplaced form)
    ≡ all_moved (inscription_faults scope p i form)
inscription_moved scope p i (I.Arc kind place e) =
    let at = if is_output kind then in_output scope p else elsewhere scope p in
    let pattern = scope.pattern_of_place place.text in
    let acts : List ℕ → Bool = λ name. is_some (p.setter name) in
    both (arc_faults kind pattern place e at) (counted_faults kind (scope.has_capacity place.text) e acts)
    (arc_faults kind pattern (name_unplaced place) (option_map expr_unplaced e) at)
    (counted_faults kind (scope.has_capacity place.text) (option_map expr_unplaced e) acts)
    (arc_moved kind pattern place e at)
    (counted_moved kind (scope.has_capacity place.text) e acts)
inscription_moved scope p i (I.Guard cond) = condition_moved cond (elsewhere scope p)
inscription_moved scope p i (I.Print e) =
    ap (λ (s : Seen). s.faults) (seen_moved_to e (in_action scope p))
inscription_moved scope p i (I.Set var e) = set_action_moved scope p var e
inscription_moved scope p i (I.Uplink channel args) = uplink_moved scope p i.spot channel args
inscription_moved scope p i (I.New var net) =
    creation_moved (elsewhere scope p) var net (scope.is_net net.text)
inscription_moved scope p i (I.Downlink target channel args) = downlink_moved scope p target channel args
inscription_moved scope p i (I.Equality a b) = sides_moved_to a b (elsewhere scope p)

set_kept : (form : PInscribed) → set_name (inscribed_unplaced form) ≡ set_name form
set_kept (I.Arc kind place e) = refl
set_kept (I.Guard cond) = refl
set_kept (I.Print e) = refl
set_kept (I.Set var e) = refl
set_kept (I.Uplink channel args) = refl
set_kept (I.New var net) = refl
set_kept (I.Downlink target channel args) = refl
set_kept (I.Equality a b) = refl

after_kept : (p : Progress) (form : PInscribed) → after p (inscribed_unplaced form) ≡ after p form
after_kept p (I.Arc kind place e) = refl
after_kept p (I.Guard cond) = refl
after_kept p (I.Print e) = refl
after_kept p (I.Set var e) = refl
after_kept p (I.Uplink channel args) = refl
after_kept p (I.New var net) = refl
after_kept p (I.Downlink target channel args) = refl
after_kept p (I.Equality a b) = refl

inscriptions_moved : (scope : Scope) (p : Progress) (items : List PInscription) →
    inscriptions_faults scope p (map inscription_unplaced items)
    ≡ all_moved (inscriptions_faults scope p items)
inscriptions_moved scope p [] = refl
inscriptions_moved scope p (i ∷ items) =
    let next = after p i.form in
    ap (λ q. inscription_faults scope p (inscription_unplaced i) (inscribed_unplaced i.form)
    ++ inscriptions_faults scope q (map inscription_unplaced items)) (after_kept p i.form)
    ∙ both (inscription_faults scope p i i.form) (inscriptions_faults scope next items)
    (inscription_faults scope p (inscription_unplaced i) (inscribed_unplaced i.form))
    (inscriptions_faults scope next (map inscription_unplaced items))
    (inscription_moved scope p i i.form) (inscriptions_moved scope next items)

abbrev first_made : List (List ℕ) → Progress
first_made names =
    record { setter = number_among names; past = 0; sets = length names; called = false }

first_kept : (items : List PInscription) → at_first (map inscription_unplaced items) ≡ at_first items
first_kept items =
    ap first_made
    (joined_kept (λ (i : PInscription). set_name i.form) inscription_unplaced items (λ i. set_kept i.form))

pub transition_moved : (scope : Scope) (t : PTransition) →
    transition_faults scope (transition_unplaced t) ≡ all_moved (transition_faults scope t)
transition_moved scope t =
    let items = t.inscriptions in
    let items2 = map inscription_unplaced items in
    let spots : List PInscription → List Spot = map (λ (i : PInscription). i.spot) in
    ap (λ p. inscriptions_faults scope p items2 ++ past_limit most_inscriptions (spots items2))
    (first_kept items)
    ∙ both (inscriptions_faults scope (at_first items) items) (past_limit most_inscriptions (spots items))
    (inscriptions_faults scope (at_first items) items2) (past_limit most_inscriptions (spots items2))
    (inscriptions_moved scope (at_first items) items)
    (limit_of most_inscriptions (λ (i : PInscription). i.spot) (λ (i : PInscription). i.spot)
    inscription_unplaced items (λ i. refl))
