-- After a firing the lists are those of the firings before it.
use Rattle.std.proofs.Common.{sym, ap, ◌∙◌, subst, length}
use Rattle.rn_channel.specs.link.Uplinks.{AreUplinksOf}
use Rattle.rn_model.specs.Markings.{Marking}
use Rattle.rn_table.specs.Tables.{Kept}
use Rattle.rn_fire.specs.declared.setup.Setup.{Setup}
use Rattle.rn_fire.specs.States.{State, logged}
use Rattle.rn_incr.specs.link.Following.{Advances}
use Rattle.rn_incr.specs.Lists.{AreListsOf}
use Rattle.rn_incr.proofs.RunningLemmas.{all_seen, end_before, same_setup, still_whole, within_it}
use Rattle.rn_incr.proofs.running.step.Goals as goal

pub follow-requires : goal.follow-requires
follow-requires c =
    let s = c.args.state.now in
    let new = c.fire_first.new.state in
    let seen = c.length-seen.result in
    let fires = subst (λ yes. Advances s yes new) c.if-not-fired.false c.in_ok-fired.ensures in
    let count =
    c.length-seen.ensures.length
    ∙ ap (λ (x : State). length (logged x)) c.base-base.ensures.state in
    let all = all_seen s seen c.requires.going count in
    let setup = same_setup s new fires.0 fires.1 in
    let before = end_before s new fires.0 fires.1 seen all in
    let followed = c.requires.followed in
    record {
      own =
          subst (λ (x : Setup). AreUplinksOf x.system c.args.uplinks.now) (sym setup)
          c.requires.own;
      seen = within_it s new fires.0 fires.1 seen all;
      next =
          c.next-next.ensures.number ∙ ap (λ (t : Kept). t.marking.next) c.table.ensures.table
          ∙ ap (λ (x : State). x.table.marking.next) c.base-base.ensures.state
          ∙ ap (λ (m : Marking). m.next) (followed.whole ∙ sym before);
      whole = still_whole s new fires.0 fires.1 followed.whole;
      at = followed.at ∙ sym before;
      depth = followed.depth ∙ sym (ap (λ (x : Setup). x.options.depth) setup);
      lists =
          subst (λ (x : Setup). AreListsOf x.system c.args.lists.now) (sym setup) followed.lists;
    }

pub returns : goal.returns
returns c =
    let s = c.args.state.now in
    let new = c.fire_first.new.state in
    let fires = subst (λ yes. Advances s yes new) c.if-not-fired.false c.in_ok-fired.ensures in
    (fires.0, fires.1, c.in_ok-follow.ensures)

pub returns-then-not-fired : goal.returns-then-not-fired
returns-then-not-fired c =
    subst (λ yes. Advances c.args.state.now yes c.fire_first.new.state) c.if-not-fired.true
    c.in_ok-fired.ensures
