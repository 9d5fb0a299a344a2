-- What a read line says, without where it lies in memory.
use Rattle.std.specs.Prelude.{map}
use Rattle.rn_lines.specs.LineText.{LeadSaid, Token, Held, LineSaid}
use Rattle.rn_lines.specs.link.NodeSeen.{node}
use Rattle.rn_lines.specs.link.Said.{said}
use Rattle.rn_lines.specs.declared.lines.Lead.{Lead}
use Rattle.rn_lines.specs.declared.lines.ReadToken.{ReadToken}
use Rattle.rn_lines.specs.declared.items.ReadItem.{ReadItem}
use Rattle.rn_lines.specs.declared.lines.Line.{Line}
use Rattle.rn_lines.specs.declared.lines.Line.TheVariants.{Fires, Calls, Prints, Ends, WouldFire, WouldCall, Holds}

-- how a line of a firing begins
abbrev pub lead : Lead → LeadSaid
lead l = record { step = l.step.now; worker = l.worker }

-- a value
abbrev pub token : ReadToken → Token
token t = record { value = t.value; named = map said t.mentions.items }

-- a value in a mark
abbrev pub item : ReadItem → Held
item i = record { token = token i.token; times = i.times.now }

-- a line
abbrev pub line : Line → LineSaid
line (Fires l n) = LineSaid.fires (lead l) (node n)
line (Calls l n) = LineSaid.calls (lead l) (node n)
line (Prints l t) = LineSaid.prints (lead l) (token t)
line (Ends e) = LineSaid.ends e
line (WouldFire n) = LineSaid.would_fire (node n)
line (WouldCall n) = LineSaid.would_call (node n)
line (Holds m) = LineSaid.holds (said m.inst) m.place.now (map item m.items.items)
