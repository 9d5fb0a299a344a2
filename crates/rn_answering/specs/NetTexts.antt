-- Net texts: which are accepted, and by which line the others are refused.
use Rattle.std.specs.Prelude.{ℕ, ◌≡◌, List, [], codes}
use Rattle.rn_notation.specs.declared.token.Spot.{Spot}
use Rattle.rn_model.specs.declared.system.System.{System}
use Rattle.rn_net.specs.declared.plain.Plain.{Plain}
use Rattle.rn_net.specs.declared.refusal.Refusal.{Refusal}
use Rattle.rn_net.specs.declared.refusal.Refusal.TheVariants.{P1, P2, P3, P4, P5, P6, P7}
use Rattle.rn_net.specs.declared.refusal.Refusal.TheVariants as R
use Rattle.rn_net.specs.Texts.{Spells}
use Rattle.rn_net.specs.Refusals.{IsRefused}
use Rattle.rn_declared.specs.declared.fault.Rule.{Rule}
use Rattle.rn_declared.specs.declared.fault.CheckFault.{CheckFault}
use Rattle.rn_declared.specs.declared.fault.CheckFault.TheVariants.{C1, C2, C3, C4, C5, C6}
use Rattle.rn_declared.specs.declared.fault.CheckFault.TheVariants.{C7, C8, C9, C10, C11, C12, C13}
use Rattle.rn_declared.specs.declared.fault.CheckFault.TheVariants as C
use Rattle.rn_declared.specs.Faults.{report_of}
use Rattle.rn_check.specs.Checked.{Checked}
use Rattle.rn_rules.specs.Broken.{BreaksFirst}
use Rattle.rn_answering.specs.declared.answer.Answer.{Answer}
use Rattle.rn_answering.specs.declared.status.TheConstants.{NET_REFUSED}
use Rattle.rn_answering.specs.Lines.{spot_line}
use Rattle.rn_answering.specs.Refusing.{refusal}

-- The bytes are a net text, of this system: they spell a plain form in which no rule is broken, and
-- the system is that form with numbers in place of names.
pub record Accepted (bytes : List ℕ) (system : System) : Type 0 where
  pub plain : Plain
  pub spelled : Spells bytes plain
  pub checked : Checked plain system

-- the same with the notation in which the text is
abbrev pub AcceptedIn : ℕ → List ℕ → System → Type 0
AcceptedIn notation bytes system =
    (accepted : Accepted bytes system) × (accepted.plain.notation ≡ notation)

-- the line of bytes that spell no system; want of memory is no reason, and has no line
abbrev pub text_line : Refusal → List ℕ
text_line (P1 spot) = spot_line (codes "P1") spot
text_line (P2 spot) = spot_line (codes "P2") spot
text_line (P3 spot) = spot_line (codes "P3") spot
text_line (P4 spot) = spot_line (codes "P4") spot
text_line (P5 spot) = spot_line (codes "P5") spot
text_line (P6 spot) = spot_line (codes "P6") spot
text_line (P7 spot) = spot_line (codes "P7") spot
text_line (R.NoMemory _) = []

-- the line of a plain form in which a rule is broken; want of memory is no reason, and has no line
abbrev pub check_line : CheckFault → List ℕ
check_line (C1 spot) = spot_line (codes "C1") spot
check_line (C2 spot) = spot_line (codes "C2") spot
check_line (C3 spot) = spot_line (codes "C3") spot
check_line (C4 spot) = spot_line (codes "C4") spot
check_line (C5 spot) = spot_line (codes "C5") spot
check_line (C6 spot) = spot_line (codes "C6") spot
check_line (C7 spot) = spot_line (codes "C7") spot
check_line (C8 spot) = spot_line (codes "C8") spot
check_line (C9 spot) = spot_line (codes "C9") spot
check_line (C10 spot) = spot_line (codes "C10") spot
check_line (C11 spot) = spot_line (codes "C11") spot
check_line (C12 spot) = spot_line (codes "C12") spot
check_line (C13 spot) = spot_line (codes "C13") spot
check_line (C.NoMemory _) = []

-- The bytes are no net text, by this line: they spell no system, for this reason; or they spell one
-- in which this rule is the first that is broken, at this spot.
pub data IsRefusedBy (bytes : List ℕ) : List ℕ → Type 0 where
  unspelled : (why : Refusal) → IsRefused bytes why → IsRefusedBy bytes (text_line why)
  broken : (plain : Plain) (rule : Rule) (spot : Spot) → Spells bytes plain →
      BreaksFirst plain rule spot → IsRefusedBy bytes (check_line (report_of rule spot))

-- these bytes are no net text
abbrev pub IsNoNetText : List ℕ → Type 0
IsNoNetText bytes = (line : List ℕ) × IsRefusedBy bytes line

-- the answer where the net text is refused
abbrev pub RefusesNet : List ℕ → Answer → Type 0
RefusesNet bytes a = (line : List ℕ) × IsRefusedBy bytes line × (a ≡ refusal NET_REFUSED line)

-- the same where a rule is broken in the plain form
abbrev pub RefusesPlain : Plain → Answer → Type 0
RefusesPlain plain a = (rule : Rule) × (spot : Spot) × BreaksFirst plain rule spot
    × (a ≡ refusal NET_REFUSED (check_line (report_of rule spot)))
