-- What the code says of a firing. It connects the code with the definitions, and states no rule.
use Rattle.std.specs.Prelude.{◌≡◌, ℕ, List}
use Rattle.rn_record_reader.specs.Lines.{lines_in}
use Rattle.rn_record_reader.specs.link.CalledAhead.{bad_at}
use Rattle.rn_record_reader.specs.Firings.{FiringRead as Read}
use Rattle.rn_record_reader.specs.declared.firings.FiringRead.{FiringRead}
use Rattle.rn_record_reader.specs.declared.firings.FiringRead.TheVariants.{Fired, Broken}

-- this is what is read of a firing, after which the instances made have these nets
abbrev pub ReadsFiring : Read → List ℕ → FiringRead → Type 0
ReadsFiring read made (Fired entry count rest) =
    read ≡ Read.fired entry made count (lines_in rest.now)
ReadsFiring read made (Broken b) = read ≡ Read.broken (bad_at b)
