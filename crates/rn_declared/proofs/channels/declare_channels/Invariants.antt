-- The tables have the channels so far, and the patterns are theirs; what was reported, and is to be
-- reported of those that are left, is all.
use Rattle.std.proofs.Common.{◌≡◌, List, ℕ, [], map, take, drop}
use Rattle.rn_declared.specs.Faults.{first_from}
use Rattle.rn_declared.specs.Patterns.{pattern_of}
use Rattle.rn_declared.specs.Channels.{channel_from, channels_faults}
use Rattle.rn_declared.specs.link.Tables.{number_in_tables}
use Rattle.rn_declared.proofs.channels.declare_channels.Given as goal

abbrev pub invariant-loop-i : goal.invariant-loop-i
invariant-loop-i l = record {
  found : (name : List ℕ) (count : ℕ) →
      number_in_tables l.tables name count ≡ channel_from 0 (take l.i l.channels) name count;
  patterns : l.patterns ≡ map (λ c. map pattern_of c.kinds) (take l.i l.channels);
  told : first_from l.first.fault (channels_faults (take l.i l.channels) (drop l.i l.channels))
      ≡ first_from l.initial.first.fault (channels_faults [] l.channels);
}
