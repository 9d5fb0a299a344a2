-- What the code says of a bad line. It connects the code with the definitions, and states no rule.
use Rattle.rn_record_reader.specs.Called.{BadAt}
use Rattle.rn_record_reader.specs.declared.called.BadLine.{BadLine}

-- a bad line
abbrev pub bad_at : BadLine → BadAt
bad_at b = record { before = b.before; refusal = b.refusal }
