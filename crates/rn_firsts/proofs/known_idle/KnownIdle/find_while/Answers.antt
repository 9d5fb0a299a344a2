use Rattle.rn_firsts.proofs.known_idle.KnownIdle.find_while.Goals as goal

pub search-requires-clause-known : goal.search-requires-clause-known
search-requires-clause-known g c =
    c.turn_to.ensures c.args.system.now c.args.depth c.requires.changed
