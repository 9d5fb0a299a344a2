use Rattle.std.proofs.Common.{◌≡◌, take, map}
use Rattle.rn_table.proofs.chunk.copy_all.Given as goal

abbrev pub invariant-loop-pointer : goal.invariant-loop-pointer
invariant-loop-pointer g l = map (λ p. p.value) l.copies.items ≡ map (λ p. p.value) (take l.pointer-index l.pointer-items)
