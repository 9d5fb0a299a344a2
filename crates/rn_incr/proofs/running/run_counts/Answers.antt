-- The run from its start to its end.
use Rattle.std.proofs.Common.{◌++◌, ◌∷◌, [], sym, ap, ◌∙◌, subst}
use Rattle.rn_channel.specs.link.Uplinks.{AreUplinksOf}
use Rattle.rn_model.specs.declared.system.System.{System}
use Rattle.rn_search.specs.Problems.{HasFitTokens}
use Rattle.rn_table.specs.Tables.{Kept, IsTableOf}
use Rattle.rn_fire.specs.States.{State}
use Rattle.rn_incr.specs.Counts.{AreCounts, IsCounted}
use Rattle.rn_incr.specs.Lists.{AreListsOf}
use Rattle.rn_incr.proofs.RunningLemmas.{fit_tokens, is_counted, starts_counted, starts_followed}
use Rattle.rn_incr.proofs.running.run_counts.Goals as goal

pub open_lists-requires-clause-table : goal.open_lists-requires-clause-table
open_lists-requires-clause-table c =
    subst (λ (x : System). IsTableOf x c.table.result.now) (sym c.system-system.ensures.system)
    c.table.ensures.of_system

pub open_lists-requires-clause-tokens : goal.open_lists-requires-clause-tokens
open_lists-requires-clause-tokens c =
    let s = c.base-base.result.now in
    subst (λ (t : Kept). HasFitTokens c.system-system.result.now t.marking)
    (sym c.table.ensures.table)
    (subst (λ (x : System). HasFitTokens x s.table.marking) (sym c.system-system.ensures.system)
    (fit_tokens s c.length-length.ensures.state))

pub go_on-requires : goal.go_on-requires
go_on-requires c =
    let s = c.in_ok-state.state in
    let is = c.in_ok-state.ensures.state in
    let of =
    c.system-system.ensures.system ∙ ap (λ (x : State). x.setup.system) c.base-base.ensures.state in
    let lists = c.in_ok-lists.lists in
    let n = c.count.result in
    let own = subst (λ (x : System). AreListsOf x lists) of c.in_ok-lists.ensures.lists in
    let followed =
    starts_followed c.args.system.value c.args.options s is c.in_ok-state.ensures.table lists
    (c.in_ok-lists.ensures.at.0 ∙ ap (λ (t : Kept). t.marking) c.table.ensures.table
    ∙ ap (λ (x : State). x.table.marking) c.base-base.ensures.state)
    c.in_ok-lists.ensures.at.1 own in
    record {
      own = subst (λ (x : System). AreUplinksOf x c.in_ok-uplinks.uplinks) of c.in_ok-uplinks.ensures;
      steps = sym (ap (λ (x : State). x.setup.options.steps) is);
      going = ap (λ (x : State). x.ended) is;
      begins = ap (λ (x : State). x.fired) is;
      followed = followed;
      counts =
          subst (AreCounts s.setup.system s.setup.options.depth [])
          (sym (c.in_ok-push.ensures.items ∙ ap (λ ks. ks ++ n ∷ []) c.new-counts.ensures.items))
          (starts_counted c.args.system.value c.args.options s is c.in_ok-state.ensures.table lists
          n followed (c.count.ensures s.setup.system own));
    }

pub returns : goal.returns
returns c =
    let s = c.in_ok-state.state in
    let after = c.go_on.new.state in
    let on = c.in_ok-go_on.ensures in
    let final = c.end_steps.new.self in
    subst (λ (x : State). IsCounted c.args.system.value c.args.options x c.from_vec-counts.result)
    (sym c.into_state-state.ensures.state)
    (subst (IsCounted c.args.system.value c.args.options final) (sym c.from_vec-counts.ensures)
    (is_counted c.args.system.value c.args.options s after final c.end_steps.result
    c.go_on.new.counts.items (ap (λ (x : State). x.setup) c.in_ok-state.ensures.state) on.setup
    on.reason on.all on.counts c.end_steps.ensures c.into_state-state.ensures.least))
