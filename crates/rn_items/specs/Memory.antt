-- What contracts see of an answer that there was no memory.
use Rattle.rn_items.specs.declared.memory.NoMemory.{NoMemory}

-- the one value of its type
abbrev pub no_memory : NoMemory
no_memory = record { refused = tt }
