-- The numbers of the kinds are their indices among those of the text.
use Rattle.rn_rules.proofs.nets.see_system.Given as goal

abbrev pub ghosts-see_numbered : goal.ghosts-see_numbered
ghosts-see_numbered a = record { patterns = a.kinds.now.patterns }
