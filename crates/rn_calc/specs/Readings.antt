-- Values that are lent or made.
use Rattle.rn_value.specs.declared.value.Value.{Value}
use Rattle.rn_calc.specs.declared.reading.Reading.{Reading}
use Rattle.rn_calc.specs.declared.reading.Reading.TheVariants.{Lent, Made}

-- the value itself
abbrev pub seen : Reading → Value
seen (Lent v) = v.now
seen (Made v) = v
