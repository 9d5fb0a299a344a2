-- A table differs from itself in no instance.
use Rattle.std.proofs.Common.{◌∙◌, refl, sym, ap, subst}
use Rattle.rn_model.specs.declared.system.System.{System}
use Rattle.rn_search.specs.Problems.{HasFitTokens}
use Rattle.rn_channel.specs.link.Uplinks.{AreUplinksOf}
use Rattle.rn_reach.specs.Reach.{DifferAtMostIn}
use Rattle.rn_table.specs.Tables.{Kept, IsTableOf}
use Rattle.rn_incr.specs.Lists.{AreListsOf}
use Rattle.rn_incr.proofs.RunningLemmas.{fit_tokens}
use Rattle.rn_incr_tests.proofs.touched.touched.Goals as goal

pub refresh-requires-clause-own : goal.refresh-requires-clause-own
refresh-requires-clause-own c =
    subst (λ (x : System). AreUplinksOf x c.args.uplinks.now) (sym c.system.ensures.system)
    c.requires.own

pub refresh-requires-clause-table : goal.refresh-requires-clause-table
refresh-requires-clause-table c =
    subst (λ (x : System). IsTableOf x c.table.result.now) (sym c.system.ensures.system)
    c.table.ensures.of_system

pub refresh-requires-clause-tokens : goal.refresh-requires-clause-tokens
refresh-requires-clause-tokens c =
    let s = c.args.state.now in
    subst (λ (t : Kept). HasFitTokens c.system.result.now t.marking) (sym c.table.ensures.table)
    (subst (λ (x : System). HasFitTokens x s.table.marking) (sym c.system.ensures.system)
    (fit_tokens s c.length-length.ensures.state))

pub refresh-requires-clause-lists : goal.refresh-requires-clause-lists
refresh-requires-clause-lists c =
    subst (λ (x : System). AreListsOf x c.args.lists.now) (sym c.system.ensures.system)
    c.requires.lists

pub refresh-requires-clause-changed : goal.refresh-requires-clause-changed
refresh-requires-clause-changed c =
    subst (DifferAtMostIn c.args.changed.now c.args.lists.now.marking)
    (c.requires.at ∙ sym (ap (λ (t : Kept). t.marking) c.table.ensures.table))
    (λ k not. refl)

pub returns-clause-lists : goal.returns-clause-lists
returns-clause-lists c =
    subst (λ (x : System). AreListsOf x c.refresh.new.self) c.system.ensures.system
    c.in_ok-refresh.ensures.lists
