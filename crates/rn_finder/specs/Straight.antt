-- What a search comes to that makes no choice.
use Rattle.std.specs.Prelude.{[], ⊤}
use Rattle.rn_choices.specs.Leading.{IsOnly}
use Rattle.rn_search.specs.Sought.{Sought, Leads}
use Rattle.rn_finder.specs.declared.straight.Straight.{Straight}
use Rattle.rn_finder.specs.declared.straight.Straight.TheVariants.{Ended, Choice}

-- it ends with the only binding that is looked for, or with none where there is none
abbrev pub EndsSo : Sought → Straight → Type 0
EndsSo sought (Ended found) = IsOnly (Leads sought []) found
EndsSo sought Choice = ⊤
