-- What may have changed is what the state lists.
use Rattle.std.proofs.Common.{sym, ap, ◌∙◌, subst, take}
use Rattle.rn_channel.specs.link.Uplinks.{AreUplinksOf}
use Rattle.rn_model.specs.declared.system.System.{System}
use Rattle.rn_model.specs.Markings.{Marking}
use Rattle.rn_model.specs.Runs.{end_of}
use Rattle.rn_reach.specs.Reach.{DifferAtMostIn}
use Rattle.rn_search.specs.Problems.{HasFitTokens}
use Rattle.rn_table.specs.Tables.{Kept, IsTableOf}
use Rattle.rn_fire.specs.States.{State, end_marking}
use Rattle.rn_incr.specs.Lists.{AreListsOf}
use Rattle.rn_incr.proofs.RunningLemmas.{fit_tokens}
use Rattle.rn_incr.proofs.running.follow.Goals as goal

pub refresh-requires-clause-own : goal.refresh-requires-clause-own
refresh-requires-clause-own c =
    subst (λ (x : System). AreUplinksOf x c.args.uplinks.now)
    (sym (c.system.ensures.system ∙ ap (λ (x : State). x.setup.system) c.base-base.ensures.state))
    c.requires.own

pub refresh-requires-clause-table : goal.refresh-requires-clause-table
refresh-requires-clause-table c =
    subst (λ (x : System). IsTableOf x c.table.result.now) (sym c.system.ensures.system)
    c.table.ensures.of_system

pub refresh-requires-clause-tokens : goal.refresh-requires-clause-tokens
refresh-requires-clause-tokens c =
    let s = c.base-base.result.now in
    subst (λ (t : Kept). HasFitTokens c.system.result.now t.marking) (sym c.table.ensures.table)
    (subst (λ (x : System). HasFitTokens x s.table.marking) (sym c.system.ensures.system)
    (fit_tokens s c.length-length.ensures.state))

pub refresh-requires-clause-lists : goal.refresh-requires-clause-lists
refresh-requires-clause-lists c =
    subst (λ (x : System). AreListsOf x c.args.lists.now)
    (sym (c.system.ensures.system ∙ ap (λ (x : State). x.setup.system) c.base-base.ensures.state))
    c.requires.lists

pub refresh-requires-clause-changed : goal.refresh-requires-clause-changed
refresh-requires-clause-changed c =
    let s = c.args.state.now in
    let changed = c.as_slice.result.now in
    let before : Marking = end_of s.setup.system (take c.args.seen s.fired) in
    let end_is =
    ap (λ (t : Kept). t.marking) c.table.ensures.table
    ∙ ap (λ (x : State). x.table.marking) c.base-base.ensures.state ∙ c.requires.whole in
    subst (λ (m : Marking). DifferAtMostIn changed m c.table.result.now.marking) (sym c.requires.at)
    (subst (DifferAtMostIn changed before) (sym end_is)
    (subst (λ ks. DifferAtMostIn ks before (end_marking s)) (sym c.as_slice.ensures.value)
    c.in_ok-changed.ensures.differ))

pub returns : goal.returns
returns c =
    let s = c.args.state.now in
    record {
      whole = c.requires.whole;
      at =
          c.in_ok-refresh.ensures.at.0 ∙ ap (λ (t : Kept). t.marking) c.table.ensures.table
          ∙ ap (λ (x : State). x.table.marking) c.base-base.ensures.state ∙ c.requires.whole;
      depth = c.in_ok-refresh.ensures.at.1 ∙ c.requires.depth;
      lists =
          subst (λ (x : System). AreListsOf x c.refresh.new.self)
          (c.system.ensures.system ∙ ap (λ (x : State). x.setup.system) c.base-base.ensures.state)
          c.in_ok-refresh.ensures.lists;
    }
