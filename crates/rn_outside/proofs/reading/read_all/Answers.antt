use Rattle.std.proofs.Common.{◌+◌, take, rules}
use Rattle.std.proofs.lemmas.List.{length-take-le}
use Rattle.rn_outside.proofs.ByteLemmas.{GivesAtMost-from_two}
use Rattle.rn_outside.proofs.reading.read_all.Goals as goal

pub returns-then-n-room-clause-taken : goal.returns-then-n-room-clause-taken
returns-then-n-room-clause-taken g c =
    GivesAtMost-from_two _ c.pieces.bytes.items _ (take c.in-Ok.n c.read.new.buf) _ (c.args.limit + 1) c.pieces.invariant.gives c.in-Ok.ensures.gives
    (let taken = length-take-le c.in-Ok.n c.read.new.buf c.in-Ok.ensures.within in search (rules, taken))

pub returns-in_err-extend_from_slice-clause-taken : goal.returns-in_err-extend_from_slice-clause-taken
returns-in_err-extend_from_slice-clause-taken g c =
    GivesAtMost-from_two _ c.pieces.bytes.items _ (take c.in-Ok.n c.read.new.buf) _ (c.args.limit + 1) c.pieces.invariant.gives c.in-Ok.ensures.gives
    (let taken = length-take-le c.in-Ok.n c.read.new.buf c.in-Ok.ensures.within in search (rules, taken))
