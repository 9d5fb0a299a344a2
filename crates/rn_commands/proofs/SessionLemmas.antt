-- What a session comes to.
use Rattle.std.proofs.Common.{ℕ, List, refl, inl, inr}
use Rattle.rn_model.specs.declared.system.System.{System}
use Rattle.rn_model.specs.declared.log.Options.{Options}
use Rattle.rn_served.specs.Entries.{nothing}
use Rattle.rn_served.specs.Lines.{lines_of}
use Rattle.rn_served.specs.Served.{Served}
use Rattle.rn_answering.specs.declared.stopped.Stopped.{Stopped}
use Rattle.rn_answering.specs.declared.stopped.Stopped.TheVariants.{Refused, ReadFault, NoMemory}
use Rattle.rn_answering.specs.Refusing.{Stops, done}
use Rattle.rn_answering.specs.NetTexts.{Accepted, RefusesNet}
use Rattle.rn_commands.specs.Parts.{HasParts}
use Rattle.rn_commands.specs.Stepping.{SessionComesTo}

module _ (options : Options) (bytes net rest : List ℕ) (parts : HasParts bytes net rest) where
  -- a refusal of the net text
  pub net_stops_session : (s : Stopped) → Stops (RefusesNet net) s →
      Stops (SessionComesTo options bytes) s
  net_stops_session (Refused a) refuses = (net, rest, parts, inl refuses)
  net_stops_session ReadFault refuses = refuses
  net_stops_session (NoMemory _) refuses = tt

  -- all lines are answered
  pub session_done : (system : System) → Accepted net system → (text : List ℕ) →
      Served system options (lines_of rest) nothing text → SessionComesTo options bytes (done text)
  session_done system accepted text served =
      (net, rest, parts, inr (system, accepted, (text, served, refl)))
