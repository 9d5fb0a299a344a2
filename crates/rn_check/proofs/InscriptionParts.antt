-- Where nothing is broken in an inscription, nothing is in its parts.
use Rattle.std.proofs.Common.{◌≡◌, List, [], ◌∷◌, length, map, refl, sym, ap, ◌∙◌}
use Rattle.rn_notation.specs.declared.token.Spot.{Spot}
use Rattle.rn_inscript.specs.declared.exprs.PExpr.{PExpr}
use Rattle.rn_inscript.specs.declared.inscriptions.PName.{PName}
use Rattle.rn_declared.specs.declared.fault.Rule.TheVariants as Rule
use Rattle.rn_declared.specs.Faults.{broken_if}
use Rattle.rn_rules.specs.Expressions.{Where, seen_of}
use Rattle.rn_rules.specs.Calls.{call_faults, target_faults}
use Rattle.rn_rules.specs.Actions.{set_faults, value_faults}
use Rattle.rn_rules.specs.Transitions.{Scope, Progress, in_action, elsewhere, set_action_faults}
use Rattle.rn_rules.specs.Transitions.{channel_faults, uplink_faults, downlink_faults}
use Rattle.rn_declared.proofs.Faultless.{both_nil}

seens_are : (at : Where) (args : List PExpr) →
    map (λ seen. seen at) (map seen_of args) ≡ map (λ e. seen_of e at) args
seens_are at [] = refl
seens_are at (e ∷ es) = ap (λ s. seen_of e at ∷ s) (seens_are at es)

module _ (scope : Scope) (p : Progress) where
  pub set_parts : (var : PName) (e : PExpr) → set_action_faults scope p var e ≡ [] →
      (set_faults (scope.pattern_of_var var.text) (p.setter var.text) p.past var ≡ [])
      × (value_faults (scope.pattern_of_var var.text) (seen_of e (in_action scope p)) ≡ [])
  unfolding set_action_faults
  set_parts var e none =
      both_nil (set_faults (scope.pattern_of_var var.text) (p.setter var.text) p.past var)
      (value_faults (scope.pattern_of_var var.text) (seen_of e (in_action scope p))) none

  call_part : (channel : PName) (args : List PExpr) → channel_faults scope p channel args ≡ [] →
      call_faults (scope.channel channel.text (length args)) channel
      (map (λ e. seen_of e (elsewhere scope p)) args) ≡ []
  unfolding channel_faults
  call_part channel args none =
      sym (ap (call_faults (scope.channel channel.text (length args)) channel)
      (seens_are (elsewhere scope p) args)) ∙ none

  pub uplink_part : (spot : Spot) (channel : PName) (args : List PExpr) →
      uplink_faults scope p spot channel args ≡ [] →
      call_faults (scope.channel channel.text (length args)) channel
      (map (λ e. seen_of e (elsewhere scope p)) args) ≡ []
  unfolding uplink_faults
  uplink_part spot channel args none =
      call_part channel args
      (both_nil (broken_if p.called Rule.Uplink spot) (channel_faults scope p channel args) none).1

  pub downlink_parts : (target : PExpr) (channel : PName) (args : List PExpr) →
      downlink_faults scope p target channel args ≡ [] →
      (target_faults (seen_of target (elsewhere scope p)) ≡ [])
      × (call_faults (scope.channel channel.text (length args)) channel
      (map (λ e. seen_of e (elsewhere scope p)) args) ≡ [])
  unfolding downlink_faults
  downlink_parts target channel args none =
      let both = both_nil (target_faults (seen_of target (elsewhere scope p)))
      (channel_faults scope p channel args) none in
      (both.0, call_part channel args both.1)
