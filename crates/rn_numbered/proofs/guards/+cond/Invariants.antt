-- What is made is that of the comparisons, and of the lists, so far.
use Rattle.std.proofs.Common.{◌≡◌, map, take}
use Rattle.rn_numbered.specs.link.Parts.{simple_of}
use Rattle.rn_numbered.specs.Numbered.{number_in}
use Rattle.rn_numbered.proofs.guards.+cond.Given as goal

abbrev pub invariant-simples_of-loop-simple : goal.invariant-simples_of-loop-simple
invariant-simples_of-loop-simple l =
    l.made.items
    ≡ map (λ numbered. numbered (number_in l.vars)) (map simple_of (take l.simple-index l.simples))

abbrev pub invariant-cond_of-loop-simples : goal.invariant-cond_of-loop-simples
invariant-cond_of-loop-simples l =
    l.any.items
    ≡ map (map (λ numbered. numbered (number_in l.vars)))
    (map (map simple_of) (take l.simples-index l.simples-items))
