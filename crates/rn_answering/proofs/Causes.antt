-- A refusal has its cause.
use Rattle.std.proofs.Common.{◌≡◌, ◌∙◌, ◌⊎◌, ◌++◌, ℕ, List, Option, codes, inl, refl, ap, arith}
use Rattle.rn_items.specs.Memory.{no_memory}
use Rattle.rn_notation.specs.declared.token.Spot.{Spot}
use Rattle.rn_net.specs.declared.plain.Plain.{Plain}
use Rattle.rn_net.specs.declared.refusal.Refusal.{Refusal}
use Rattle.rn_net.specs.declared.refusal.Refusal.TheVariants.{P1, P2, P3, P4, P5, P6, P7}
use Rattle.rn_net.specs.declared.refusal.Refusal.TheVariants as R
use Rattle.rn_net.specs.Refusals.{IsReason}
use Rattle.rn_net.specs.Texts.{Spells}
use Rattle.rn_declared.specs.declared.fault.Rule.{Rule}
use Rattle.rn_declared.specs.declared.fault.Rule.TheVariants as Rule
use Rattle.rn_declared.specs.declared.fault.CheckFault.{CheckFault}
use Rattle.rn_declared.specs.declared.fault.CheckFault.TheVariants.{C1, C2, C3, C4, C5, C6}
use Rattle.rn_declared.specs.declared.fault.CheckFault.TheVariants.{C7, C8, C9, C10, C11, C12, C13}
use Rattle.rn_declared.specs.declared.fault.CheckFault.TheVariants as C
use Rattle.rn_declared.specs.Faults.{report_of}
use Rattle.rn_rules.specs.Broken.{BreaksFirst}
use Rattle.rn_answering.specs.declared.answer.Answer.{Answer}
use Rattle.rn_answering.specs.declared.stopped.Stopped.{Stopped}
use Rattle.rn_answering.specs.declared.stopped.Stopped.TheVariants.{Refused, ReadFault, NoMemory}
use Rattle.rn_answering.specs.declared.status.TheConstants.{NET_REFUSED}
use Rattle.rn_value.proofs.Numerals.{numeral_digit}
use Rattle.rn_answering.specs.Input.{IsTooLong, IsUnread}
use Rattle.rn_answering.specs.Lines.{spot_line}
use Rattle.rn_answering.specs.Refusing.{Stops, refusal}
use Rattle.rn_answering.specs.NetTexts.{IsRefusedBy, RefusesNet, RefusesPlain, text_line, check_line}

-- a text that spells no system is refused by the line of its reason
pub text_refused : (bytes : List ℕ) (why : Refusal) (s : Stopped) → IsReason bytes why → (why ≡ R.NoMemory no_memory → s ≡ NoMemory no_memory) → Stops (λ a. a ≡ refusal NET_REFUSED (text_line why)) s → Stops (RefusesNet bytes) s
text_refused bytes (P1 spot) (Refused a) reason memory is = (text_line (P1 spot), IsRefusedBy.unspelled (P1 spot) reason, is)
text_refused bytes (P2 spot) (Refused a) reason memory is = (text_line (P2 spot), IsRefusedBy.unspelled (P2 spot) reason, is)
text_refused bytes (P3 spot) (Refused a) reason memory is = (text_line (P3 spot), IsRefusedBy.unspelled (P3 spot) reason, is)
text_refused bytes (P4 spot) (Refused a) reason memory is = (text_line (P4 spot), IsRefusedBy.unspelled (P4 spot) reason, is)
text_refused bytes (P5 spot) (Refused a) reason memory is = (text_line (P5 spot), IsRefusedBy.unspelled (P5 spot) reason, is)
text_refused bytes (P6 spot) (Refused a) reason memory is = (text_line (P6 spot), IsRefusedBy.unspelled (P6 spot) reason, is)
text_refused bytes (P7 spot) (Refused a) reason memory is = (text_line (P7 spot), IsRefusedBy.unspelled (P7 spot) reason, is)
text_refused bytes (R.NoMemory _) (Refused a) reason memory is = let no : Refused a ≡ NoMemory no_memory = memory refl in absurd cc
text_refused bytes why ReadFault reason memory is = is
text_refused bytes why (NoMemory _) reason memory is = tt

-- a plain form in which a rule is broken is refused by the line of the first
pub plain_refused : (plain : Plain) (fault : CheckFault) (s : Stopped) → ((rule : Rule) (spot : Spot) → fault ≡ report_of rule spot → BreaksFirst plain rule spot) → (fault ≡ C.NoMemory no_memory → s ≡ NoMemory no_memory) → Stops (λ a. a ≡ refusal NET_REFUSED (check_line fault)) s → Stops (RefusesPlain plain) s
plain_refused plain (C1 spot) (Refused a) breaks memory is = (Rule.Known, spot, breaks Rule.Known spot refl, is)
plain_refused plain (C2 spot) (Refused a) breaks memory is = (Rule.Once, spot, breaks Rule.Once spot refl, is)
plain_refused plain (C3 spot) (Refused a) breaks memory is = (Rule.Main, spot, breaks Rule.Main spot refl, is)
plain_refused plain (C4 spot) (Refused a) breaks memory is = (Rule.Kinds, spot, breaks Rule.Kinds spot refl, is)
plain_refused plain (C5 spot) (Refused a) breaks memory is = (Rule.Uplink, spot, breaks Rule.Uplink spot refl, is)
plain_refused plain (C6 spot) (Refused a) breaks memory is = (Rule.Actions, spot, breaks Rule.Actions spot refl, is)
plain_refused plain (C7 spot) (Refused a) breaks memory is = (Rule.Inscription, spot, breaks Rule.Inscription spot refl, is)
plain_refused plain (C8 spot) (Refused a) breaks memory is = (Rule.Channel, spot, breaks Rule.Channel spot refl, is)
plain_refused plain (C9 spot) (Refused a) breaks memory is = (Rule.Limit, spot, breaks Rule.Limit spot refl, is)
plain_refused plain (C10 spot) (Refused a) breaks memory is = (Rule.Creation, spot, breaks Rule.Creation spot refl, is)
plain_refused plain (C11 spot) (Refused a) breaks memory is = (Rule.Comparison, spot, breaks Rule.Comparison spot refl, is)
plain_refused plain (C12 spot) (Refused a) breaks memory is = (Rule.Capacity, spot, breaks Rule.Capacity spot refl, is)
plain_refused plain (C13 spot) (Refused a) breaks memory is = (Rule.Counted, spot, breaks Rule.Counted spot refl, is)
plain_refused plain (C.NoMemory _) (Refused a) breaks memory is = let no : Refused a ≡ NoMemory no_memory = memory refl in absurd cc
plain_refused plain fault ReadFault breaks memory is = is
plain_refused plain fault (NoMemory _) breaks memory is = tt

-- a text whose plain form is refused is refused
pub net_refused : (bytes : List ℕ) (plain : Plain) (s : Stopped) → Spells bytes plain → Stops (RefusesPlain plain) s → Stops (RefusesNet bytes) s
net_refused bytes plain (Refused a) spells (rule, spot, breaks, is) = (check_line (report_of rule spot), IsRefusedBy.broken plain rule spot spells breaks, is)
net_refused bytes plain ReadFault spells is = is
net_refused bytes plain (NoMemory _) spells is = tt

-- the same where a command may come to something else besides
pub net_refused_or : (Q : Answer → Type 0) (bytes : List ℕ) (plain : Plain) (s : Stopped) → Spells bytes plain → Stops (RefusesPlain plain) s → Stops (λ a. RefusesNet bytes a ⊎ Q a) s
net_refused_or Q bytes plain (Refused a) spells is = inl (net_refused bytes plain (Refused a) spells is)
net_refused_or Q bytes plain ReadFault spells is = is
net_refused_or Q bytes plain (NoMemory _) spells is = tt

-- the line of an input that is too long
pub too_long_refused : (limit : ℕ) (left : Option (List ℕ)) (faults faults_after : ℕ) (s : Stopped) → IsTooLong limit left → Stops (λ a. a ≡ refusal NET_REFUSED (spot_line (codes "P6") (record { line = 1; column = 1 }))) s → IsUnread limit left faults faults_after s
too_long_refused limit left faults faults_after (Refused a) long is =
    (long, is ∙ ap (λ digits. refusal NET_REFUSED (codes "P6" ++ codes " " ++ digits ++ codes ":" ++ digits ++ codes "\n")) (numeral_digit 1 (omega arith)))
too_long_refused limit left faults faults_after ReadFault long is = absurd is
too_long_refused limit left faults faults_after (NoMemory _) long is = tt

pub ruleset refusals = (text_refused, plain_refused, net_refused, net_refused_or)
