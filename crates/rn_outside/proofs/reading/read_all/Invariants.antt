use Rattle.std.proofs.Common.{◌≡◌, ◌+◌, ◌-◌, ◌≤◌, vec_len}
use Rattle.rn_outside.specs.Bytes.{Gives}
use Rattle.rn_outside.proofs.reading.read_all.Given as goal

-- the source gave the bytes so far, at least one in each read
abbrev pub invariant-pieces : goal.invariant-pieces
invariant-pieces g l =
    let source = g.S.Source in
    record {
      within : vec_len l.bytes ≤ l.limit;
      gives : Gives (source.left l.initial.source) l.bytes.items (source.left l.source);
      no_fault : source.faults l.source ≡ source.faults l.initial.source;
      reads : source.reads l.source ≤ source.reads l.initial.source + vec_len l.bytes;
    }

abbrev pub decreases-pieces : goal.decreases-pieces
decreases-pieces g l = l.limit + 1 - vec_len l.bytes
