use Rattle.std.proofs.Common.{◌≡◌, ◌++◌, length}
use Rattle.renew_rows.specs.Spelling.{spelled}
use Rattle.renew_rows.proofs.spelling.spell.Given as goal

-- what is appended so far and what the rest spells make up what the text spells
abbrev pub invariant-loop-rest : goal.invariant-loop-rest
invariant-loop-rest l =
    l.into.items ++ spelled l.sign l.rest ≡ l.initial.into.items ++ spelled l.sign l.text

abbrev pub decreases-loop-rest : goal.decreases-loop-rest
decreases-loop-rest l = length l.rest
