-- What a command takes of its input.
use Rattle.std.specs.Prelude.{ℕ, ◌≡◌, ◌<◌, List, length, codes, Option, Some, None, IfSome, ⊤}
use Rattle.rn_notation.specs.Limits.{longest_net_text, longest_text}
use Rattle.rn_outside.specs.Faults.{Rose}
use Rattle.rn_words.specs.declared.command.Command.{Command}
use Rattle.rn_words.specs.declared.command.Command.TheVariants.{Gen, GenSeeded, Replay, Session, Moves, Migrate}
use Rattle.rn_answering.specs.declared.answer.Answer.{Answer}
use Rattle.rn_answering.specs.declared.stopped.Stopped.{Stopped}
use Rattle.rn_answering.specs.declared.stopped.Stopped.TheVariants.{Refused, ReadFault, NoMemory}
use Rattle.rn_answering.specs.declared.status.TheConstants.{NET_REFUSED}
use Rattle.rn_answering.specs.Refusing.{refusal}

-- how many bytes a command reads at most, if it reads
abbrev pub longest_input : Command → Option ℕ
longest_input (Gen n options) = None
longest_input (GenSeeded n options seed) = None
longest_input (Replay options) = Some longest_text
longest_input (Session options) = Some longest_text
longest_input (Moves options) = Some longest_text
longest_input Migrate = Some longest_text
longest_input _ = Some longest_net_text

-- the answer where the input is too long
abbrev pub too_long : Answer
too_long = refusal NET_REFUSED (codes "P6 1:1\n")

-- more bytes are left than may be, where they are known
abbrev pub IsTooLong : ℕ → Option (List ℕ) → Type 0
IsTooLong limit left = IfSome left (λ bytes. limit < length bytes)

-- why input isn't read: it is too long, a read failed, or memory ran out
abbrev pub IsUnread : ℕ → Option (List ℕ) → ℕ → ℕ → Stopped → Type 0
IsUnread limit left faults faults_after (Refused a) = IsTooLong limit left × (a ≡ too_long)
IsUnread limit left faults faults_after ReadFault = Rose faults faults_after
IsUnread limit left faults faults_after (NoMemory _) = ⊤
