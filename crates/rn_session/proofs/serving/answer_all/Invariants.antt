-- Where the lines to come are answered, all are.
use Rattle.std.proofs.Common.{◌≡◌, ◌++◌, ℕ, List, length}
use Rattle.rn_served.specs.Lines.{lines_of}
use Rattle.rn_served.specs.Served.{Served}
use Rattle.rn_session.specs.link.Serving.{ServesAll, names_at}
use Rattle.rn_session.specs.Sessions.{so_far}
use Rattle.rn_session.proofs.serving.answer_all.Given as goal

abbrev pub invariant-loop-line : goal.invariant-loop-line
invariant-loop-line l = record {
  named : l.names ≡ names_at l.session;
  so : (text : List ℕ) →
      Served l.session.setup.system l.session.setup.options (lines_of l.rest) (so_far l.session) text →
      ServesAll l.initial.session l.lines l.initial.out.items (l.out.items ++ text);
}

abbrev pub decreases-loop-line : goal.decreases-loop-line
decreases-loop-line l = length l.rest
