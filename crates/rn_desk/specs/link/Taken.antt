-- A turn as clauses see it.
use Rattle.rn_desk.specs.declared.desk.Turn.{Turn}

-- the state that was taken out
abbrev pub state_of : {S : Type 0} → Turn S → S
state_of t = t.state

-- the turn with another state
abbrev pub with_state : {S : Type 0} → Turn S → S → Turn S
with_state t w = record t { state = w }
