-- Where a binding agrees, what its arcs find and what is computed meet no value of a wrong kind.
use Rattle.std.proofs.Common.{◌≡◌, ℕ}
use Rattle.std.specs.Prelude.{Contains}
use Rattle.std.proofs.lemmas.List.Elements.{All-contains}
use Rattle.rn_model.specs.declared.system.System.{System}
use Rattle.rn_model.specs.declared.system.NetArc.{NetArc}
use Rattle.rn_model.specs.declared.binding.Node.{Node}
use Rattle.rn_model.specs.declared.binding.Binding.{Binding}
use Rattle.rn_model.specs.Agreement.{NodeAgrees}
use Rattle.rn_model.specs.Bindings.{IsNodeOf, env_of}
use Rattle.rn_model.specs.Derivation.{Site, Hole, found, computed, items_of}
use Rattle.rn_model.specs.ExpressionLaws.{HaveKinds, OperandsAreFit}
use Rattle.rn_model.specs.Systems.{net_at, transition_of, var_kind}
use Rattle.rn_model.proofs.AgreeingValues.{agreeing_operands_are_fit, beside_kind}
use Rattle.rn_model.proofs.HoleKinds.{hole_has}
use Rattle.rn_model.proofs.MarkingsOfRuns.{good_transition}
use Rattle.rn_model.proofs.OperandKinds.{operands_fit}
use Rattle.rn_calc.proofs.FitByKinds.{in_arcs}
use Rattle.rn_growing.proofs.Growth.{at_in}
use Rattle.rn_growing.proofs.SoundItems.{items_sound}
use Rattle.rn_binding.specs.link.Passing.{IsGiven}

module _ (system : System) (b : Binding) (given : IsGiven system b) (node : Node) where
  -- the operands in the inscription of an arc that finds something
  pub found_fits : (k : ℕ) (x : NetArc) → Contains (items_of system b) (found node k x) →
      OperandsAreFit (env_of system node) x.inscription
  found_fits k x own =
      let sound = items_sound system b (found node k x) own in
      let t = transition_of system node in
      agreeing_operands_are_fit system b given.depth node x.inscription given.good given.shape
      given.agrees sound.0 (in_arcs t x (at_in t.arcs k x sound.1))

  -- and those in an operator application
  pub computed_fits : (site : Site) (hole : Hole) →
      Contains (items_of system b) (computed node site hole) →
      OperandsAreFit (env_of system node) hole.form
  computed_fits site hole own =
      let sound = items_sound system b (computed node site hole) own in
      let t = transition_of system node in
      let kinds = var_kind system node.net in
      let of = All-contains (IsNodeOf system) b.nodes node given.shape.nodes sound.0 in
      let agrees = All-contains (NodeAgrees system) b.nodes node given.agrees.nodes sound.0 in
      let have : HaveKinds kinds (env_of system node) =
      beside_kind kinds t.vars node.values agrees.kinds in
      let well =
      (good_transition system node.net node.transition given.good of.net of.transition).kinds in
      let at = sound.1 in
      operands_fit kinds (env_of system node) have hole.form
      (hole_has system (net_at system node.net) kinds t well site at.0 hole at.1 at.2)
