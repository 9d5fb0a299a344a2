-- How a search ends that may cost only so much.
use Rattle.rn_choices.specs.declared.within.Cut.{Cut}
use Rattle.rn_choices.specs.declared.within.Cut.TheVariants.{Halt, Spent}

-- it was cut off, or ended for one of these reasons
abbrev pub CutBy : {H : Type 0} → (H → Type 0) → Cut H → Type 0
CutBy halts (Halt h) = halts h
CutBy halts Spent = Unit {0}
