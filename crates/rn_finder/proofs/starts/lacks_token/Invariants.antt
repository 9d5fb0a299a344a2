use Rattle.std.proofs.Common.{◌≡◌, drop}
use Rattle.std.specs.List.{list_any}
use Rattle.rn_finder.specs.Starting.{is_starved}
use Rattle.rn_finder.proofs.starts.lacks_token.Given as goal

-- none of the arcs so far is starved
abbrev pub invariant-loop-arc : goal.invariant-loop-arc
invariant-loop-arc l =
    list_any (is_starved l.inst) (drop l.arc-index l.arcs) ≡ list_any (is_starved l.inst) l.arcs
