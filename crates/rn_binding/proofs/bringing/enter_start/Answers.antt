-- The start is the first decision.
use Rattle.std.proofs.Common.{◌∙◌, ap, sym}
use Rattle.std.specs.Option.{option_copied}
use Rattle.rn_binding.proofs.EnteringNodes.{start_comes}
use Rattle.rn_binding.proofs.bringing.enter_start.Goals as goal

pub enter-requires-clause-may_come : goal.enter-requires-clause-may_come
enter-requires-clause-may_come c =
    (start_comes c.args.subject.system.now c.args.subject.binding.now c.requires.given c.args.growing.now
    c.requires.empty c.in-Some.start.now (sym c.headed_on.ensures.node ∙ ap option_copied c.in-Some.is)
    c.in-Some.ensures.there c.in_ok-head.head (c.in_ok-head.ensures ∙ c.head.ensures)).0

pub enter-requires-clause-fresh : goal.enter-requires-clause-fresh
enter-requires-clause-fresh c =
    (start_comes c.args.subject.system.now c.args.subject.binding.now c.requires.given c.args.growing.now
    c.requires.empty c.in-Some.start.now (sym c.headed_on.ensures.node ∙ ap option_copied c.in-Some.is)
    c.in-Some.ensures.there c.in_ok-head.head (c.in_ok-head.ensures ∙ c.head.ensures)).1

pub returns-in_ok-_entered : goal.returns-in_ok-_entered
returns-in_ok-_entered c =
    (start_comes c.args.subject.system.now c.args.subject.binding.now c.requires.given c.args.growing.now
    c.requires.empty c.in-Some.start.now (sym c.headed_on.ensures.node ∙ ap option_copied c.in-Some.is)
    c.in-Some.ensures.there c.in_ok-head.head (c.in_ok-head.ensures ∙ c.head.ensures)).2 c.enter.new.self
    c.in_ok-_entered._entered c.in_ok-_entered.ensures.tries
