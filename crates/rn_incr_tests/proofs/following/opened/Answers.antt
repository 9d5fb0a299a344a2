-- The table of a state has tokens that fit.
use Rattle.std.proofs.Common.{sym, ap, ◌∙◌, subst}
use Rattle.rn_channel.specs.link.Uplinks.{AreUplinksOf}
use Rattle.rn_model.specs.declared.system.System.{System}
use Rattle.rn_search.specs.Problems.{HasFitTokens}
use Rattle.rn_table.specs.Tables.{Kept, IsTableOf}
use Rattle.rn_fire.specs.States.{State}
use Rattle.rn_incr.proofs.RunningLemmas.{fit_tokens}
use Rattle.rn_incr_tests.proofs.following.opened.Goals as goal

pub open_lists-requires-clause-own : goal.open_lists-requires-clause-own
open_lists-requires-clause-own c =
    subst (λ (x : System). AreUplinksOf x c.args.uplinks.now)
    (sym (c.system.ensures.system ∙ ap (λ (x : State). x.setup.system) c.base-base.ensures.state))
    c.requires

pub open_lists-requires-clause-table : goal.open_lists-requires-clause-table
open_lists-requires-clause-table c =
    subst (λ (x : System). IsTableOf x c.table.result.now) (sym c.system.ensures.system)
    c.table.ensures.of_system

pub open_lists-requires-clause-tokens : goal.open_lists-requires-clause-tokens
open_lists-requires-clause-tokens c =
    let s = c.base-base.result.now in
    subst (λ (t : Kept). HasFitTokens c.system.result.now t.marking) (sym c.table.ensures.table)
    (subst (λ (x : System). HasFitTokens x s.table.marking) (sym c.system.ensures.system)
    (fit_tokens s c.length-length.ensures.state))
