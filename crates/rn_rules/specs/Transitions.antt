-- Transitions: what is broken in their inscriptions.
use Rattle.std.specs.Prelude.{ℕ, ◌+◌, Bool, true, false, ◌||◌, List, [], ◌∷◌, ◌++◌, length, map}
use Rattle.std.specs.Prelude.{Option, is_some, if◌then◌else◌}
use Rattle.rn_notation.specs.declared.token.Spot.{Spot}
use Rattle.rn_inscript.specs.declared.exprs.PExpr.{PExpr}
use Rattle.rn_inscript.specs.declared.inscriptions.PName.{PName}
use Rattle.rn_inscript.specs.declared.inscriptions.PInscribed.{PInscribed}
use Rattle.rn_inscript.specs.declared.inscriptions.PInscribed.TheVariants as I
use Rattle.rn_inscript.specs.declared.inscriptions.PInscription.{PInscription}
use Rattle.rn_net.specs.declared.plain.PTransition.{PTransition}
use Rattle.rn_model.specs.Limits.{most_inscriptions}
use Rattle.rn_model.specs.Systems.{is_output}
use Rattle.rn_declared.specs.declared.fault.Rule.TheVariants as Rule
use Rattle.rn_declared.specs.declared.fault.Fault.{Fault}
use Rattle.rn_declared.specs.declared.pattern.Pattern.{Pattern}
use Rattle.rn_declared.specs.Faults.{broken_if, past_limit}
use Rattle.rn_declared.specs.Names.{number_among}
use Rattle.rn_rules.specs.Expressions.{Where, seen_of}
use Rattle.rn_rules.specs.Conditions.{condition_faults, sides_faults}
use Rattle.rn_rules.specs.Arcs.{arc_faults}
use Rattle.rn_rules.specs.Counted.{counted_faults}
use Rattle.rn_rules.specs.Calls.{call_faults, target_faults, creation_faults}
use Rattle.rn_rules.specs.Actions.{set_name, set_names, is_set_by, set_faults, value_faults}

-- what is declared, by names: the patterns of the net's variables and places, whether a place has a
-- capacity, whether there is a net of a name, and the patterns of the arguments of a channel with
-- so many
pub record Scope : Type 0 where
  pub pattern_of_var : List ℕ → Option Pattern
  pub pattern_of_place : List ℕ → Option Pattern
  pub has_capacity : List ℕ → Bool
  pub is_net : List ℕ → Bool
  pub channel : List ℕ → ℕ → Option (List Pattern)

-- where in a transition an inscription stands: the number of the first action that sets a variable,
-- how many actions set one before the inscription, how many in the whole transition, and whether
-- there is an uplink before
pub record Progress : Type 0 where
  pub setter : List ℕ → Option ℕ
  pub past : ℕ
  pub sets : ℕ
  pub called : Bool

-- where an expression stands in an action, to which action variables are known that were set before
abbrev pub in_action : Scope → Progress → Where
in_action scope p = record {
  pattern_of_var = scope.pattern_of_var;
  may_stand = λ name. is_set_by (p.setter name) p.past;
  step_may = true;
}

-- in an output, to which all action variables are known
abbrev pub in_output : Scope → Progress → Where
in_output scope p = record {
  pattern_of_var = scope.pattern_of_var;
  may_stand = λ name. is_set_by (p.setter name) p.sets;
  step_may = false;
}

-- and elsewhere, where none may stand
abbrev pub elsewhere : Scope → Progress → Where
elsewhere scope p = record {
  pattern_of_var = scope.pattern_of_var;
  may_stand = λ name. is_set_by (p.setter name) 0;
  step_may = false;
}

-- what is broken in an action that sets a variable
unfoldable pub set_action_faults : Scope → Progress → PName → PExpr → List Fault
set_action_faults scope p var e =
    set_faults (scope.pattern_of_var var.text) (p.setter var.text) p.past var
    ++ value_faults (scope.pattern_of_var var.text) (seen_of e (in_action scope p))

-- what is broken in a call of a channel
unfoldable pub channel_faults : Scope → Progress → PName → List PExpr → List Fault
channel_faults scope p channel args =
    call_faults (scope.channel channel.text (length args)) channel
    (map (λ seen. seen (elsewhere scope p)) (map seen_of args))

-- what is broken in an uplink, of which a transition has at most one
unfoldable pub uplink_faults : Scope → Progress → Spot → PName → List PExpr → List Fault
uplink_faults scope p spot channel args =
    broken_if p.called Rule.Uplink spot ++ channel_faults scope p channel args

-- what is broken in a downlink
unfoldable pub downlink_faults : Scope → Progress → PExpr → PName → List PExpr → List Fault
downlink_faults scope p target channel args =
    target_faults (seen_of target (elsewhere scope p)) ++ channel_faults scope p channel args

-- what is broken in one inscription
abbrev pub inscription_faults : Scope → Progress → PInscription → PInscribed → List Fault
inscription_faults scope p i (I.Arc kind place e) =
    arc_faults kind (scope.pattern_of_place place.text) place e
    (if is_output kind then in_output scope p else elsewhere scope p)
    ++ counted_faults kind (scope.has_capacity place.text) e (λ name. is_some (p.setter name))
inscription_faults scope p i (I.Guard cond) = condition_faults cond (elsewhere scope p)
inscription_faults scope p i (I.Print e) = (seen_of e (in_action scope p)).faults
inscription_faults scope p i (I.Set var e) = set_action_faults scope p var e
inscription_faults scope p i (I.Uplink channel args) = uplink_faults scope p i.spot channel args
inscription_faults scope p i (I.New var net) =
    creation_faults (elsewhere scope p) var net (scope.is_net net.text)
inscription_faults scope p i (I.Downlink target channel args) =
    downlink_faults scope p target channel args
inscription_faults scope p i (I.Equality a b) =
    sides_faults (seen_of a (elsewhere scope p)) (seen_of b (elsewhere scope p))

-- whether an inscription is an uplink
abbrev pub is_uplink : PInscribed → Bool
is_uplink (I.Uplink channel args) = true
is_uplink _ = false

-- where the next inscription stands
abbrev pub after : Progress → PInscribed → Progress
after p form = record {
  setter = p.setter;
  past = p.past + length (set_name form);
  sets = p.sets;
  called = p.called || is_uplink form;
}

-- what is broken in inscriptions, the first of which stands here
abbrev pub inscriptions_faults : Scope → Progress → List PInscription → List Fault
inscriptions_faults scope p [] = []
inscriptions_faults scope p (i ∷ is) =
    inscription_faults scope p i i.form ++ inscriptions_faults scope (after p i.form) is

-- where the first inscription of a transition stands
abbrev pub at_first : List PInscription → Progress
at_first inscriptions = record {
  setter = number_among (set_names inscriptions);
  past = 0;
  sets = length (set_names inscriptions);
  called = false;
}

-- what is broken in the inscriptions of a transition, of which there aren't too many
abbrev pub transition_faults : Scope → PTransition → List Fault
transition_faults scope t =
    inscriptions_faults scope (at_first t.inscriptions) t.inscriptions
    ++ past_limit most_inscriptions (map (λ i. i.spot) t.inscriptions)
