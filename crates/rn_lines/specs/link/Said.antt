-- What a reader's answers say, without where it lies in memory.
use Rattle.std.specs.Prelude.{map}
use Rattle.rn_lines.specs.ValueText.{Said, Seen}
use Rattle.rn_lines.specs.declared.instances.Mention.{Mention}
use Rattle.rn_lines.specs.declared.values.ReadValue.{ReadValue}

-- the instance that is named
abbrev pub said : Mention → Said
said m = record { name = m.name.now; number = m.number }

-- the value, the instances that are named, and the bytes after it
abbrev pub seen : ReadValue → Seen
seen r = record { value = r.value; named = map said r.mentions.items; rest = r.rest.now }
