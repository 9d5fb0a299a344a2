-- What was found after the entries that were seen fits the state, and what is seen then is shown.
use Rattle.std.proofs.Common.{◌≡◌, ◌≤◌, ap, length, sym, ◌∙◌, subst}
use Rattle.std.specs.Prelude.{IfSome}
use Rattle.rn_desk.specs.Entries.{StartsWith}
use Rattle.rn_desk.specs.Passes.{fixed_of, seen}
use Rattle.rn_fire.specs.declared.setup.Setup.{Setup}
use Rattle.rn_fire.specs.States.{State, IsState, logged}
use Rattle.rn_worker.specs.link.Seen.{IsSightOf}
use Rattle.rn_worker.specs.link.Views.{ChangedSince, next_after}
use Rattle.rn_worker.proofs.SeenStates.{kept_setup}
use Rattle.rn_worker.proofs.LaterViews.{changed_between, few_after, next_is, show_views}
use Rattle.rn_desk.proofs.Histories.{StartsWith-append}
use Rattle.rn_least_workers.proofs.LeastSeen.{fits}
use Rattle.rn_worker.proofs.OwnEntries.{adds_by, begins_by, mine_by}
use Rattle.rn_worker.proofs.SeenEntries.{had_seen}
use Rattle.rn_least_workers.proofs.acting.act.Goals as goal

pub act_on-done-requires-clause-plan : goal.act_on-done-requires-clause-plan
act_on-done-requires-clause-plan g c =
    let t : State = c.state-state.result.now in
    let es = seen c.args.pass.now in
    let setup : Setup = fixed_of (λ s. s.setup) c.args.team.desk.now in
    let begins : StartsWith (logged t) es = subst (λ s. StartsWith (logged s) es) (sym c.state-state.ensures.value) c.take-turn.ensures.entries in
    let same : t.setup ≡ setup = ap (λ s. s.setup) c.state-state.ensures.value ∙ c.take-turn.ensures.fixed in
    let is : IsState t = subst IsState c.base.ensures.state c.length-length.ensures.state in
    fits t is es begins c.requires.going setup same c.args.round.looked c.requires.looked c.args.plan.now c.requires.knows

pub view_below-view-requires-clause-looked : goal.view_below-view-requires-clause-looked
view_below-view-requires-clause-looked g c =
    let t : State = c.state-state.result.now in
    let es = seen c.args.pass.now in
    let setup : Setup = fixed_of (λ s. s.setup) c.args.team.desk.now in
    let begins : StartsWith (logged t) es = subst (λ s. StartsWith (logged s) es) (sym c.state-state.ensures.value) c.take-turn.ensures.entries in
    let same : t.setup ≡ setup = ap (λ s. s.setup) c.state-state.ensures.value ∙ c.take-turn.ensures.fixed in
    subst (λ (s : State). c.args.round.looked ≤ length s.fired) (sym c.base-2.ensures.state)
    (few_after t c.act_on-done.new.state c.args.round.worker c.act_on-done.result.fired setup es begins
    c.requires.going same c.act_on-done.ensures.added c.args.round.looked c.requires.looked)

pub view_below-view-requires-clause-next : goal.view_below-view-requires-clause-next
view_below-view-requires-clause-next g c =
    let t : State = c.state-state.result.now in
    let es = seen c.args.pass.now in
    let setup : Setup = fixed_of (λ s. s.setup) c.args.team.desk.now in
    let begins : StartsWith (logged t) es = subst (λ s. StartsWith (logged s) es) (sym c.state-state.ensures.value) c.take-turn.ensures.entries in
    let same : t.setup ≡ setup = ap (λ s. s.setup) c.state-state.ensures.value ∙ c.take-turn.ensures.fixed in
    subst (λ (s : State). c.args.round.next ≡ next_after s c.args.round.looked) (sym c.base-2.ensures.state)
    (next_is t c.act_on-done.new.state c.args.round.worker c.act_on-done.result.fired setup es begins
    c.requires.going same c.act_on-done.ensures.added c.args.round.looked c.requires.looked c.args.round.next
    c.requires.next)

pub returns-clause-some : goal.returns-clause-some
returns-clause-some g c =
    let t : State = c.state-state.result.now in
    let after : State = c.act_on-done.new.state in
    let setup : Setup = fixed_of (λ s. s.setup) c.args.team.desk.now in
    let began : t.setup ≡ setup = ap (λ s. s.setup) c.state-state.ensures.value ∙ c.take-turn.ensures.fixed in
    let same : after.setup ≡ setup = kept_setup c.args.round.worker c.act_on-done.result.fired t after c.act_on-done.ensures.added ∙ began in
    show_views c.view_below-view.result after setup (seen c.give.new.pass)
    (subst (λ (s : State). IfSome c.view_below-view.result (λ v. IsSightOf s v.sight))
    c.base-2.ensures.state c.view_below-view.ensures.some)
    same c.give.ensures.seen

pub returns-clause-changed : goal.returns-clause-changed
returns-clause-changed g c =
    let t : State = c.state-state.result.now in
    let es = seen c.args.pass.now in
    let setup : Setup = fixed_of (λ s. s.setup) c.args.team.desk.now in
    let begins : StartsWith (logged t) es = subst (λ s. StartsWith (logged s) es) (sym c.state-state.ensures.value) c.take-turn.ensures.entries in
    let same : t.setup ≡ setup = ap (λ s. s.setup) c.state-state.ensures.value ∙ c.take-turn.ensures.fixed in
    changed_between t c.act_on-done.new.state c.args.round.worker c.act_on-done.result.fired setup es
    begins c.requires.going same c.act_on-done.ensures.added c.args.round.looked c.requires.looked
    (seen c.give.new.pass) c.give.ensures.seen c.view_below-view.result
    (subst (λ (s : State). IfSome c.view_below-view.result (λ v. IfSome v.changed (λ changed.
    ChangedSince s c.args.round.looked changed.items)))
    c.base-2.ensures.state c.view_below-view.ensures.changed)

pub returns-clause-mine : goal.returns-clause-mine
returns-clause-mine g c =
    let t : State = c.state-state.result.now in
    mine_by c.args.round.worker t c.act_on-done.new.state c.act_on-done.result.fired
    c.act_on-done.ensures.added c.requires.worker.0 _
    (c.take-turn.ensures.number ∙ c.requires.number) _ _ _ _
    (c.take-turn.ensures.seen ∙ ap logged (sym c.state-state.ensures.value))
    c.take-turn.ensures.mine c.give.ensures.mine

pub returns-clause-entries : goal.returns-clause-entries
returns-clause-entries g c =
    let t : State = c.state-state.result.now in
    let es = seen c.args.pass.now in
    let begins : StartsWith (logged t) es = subst (λ s. StartsWith (logged s) es) (sym c.state-state.ensures.value) c.take-turn.ensures.entries in
    let more = begins_by c.args.round.worker t c.act_on-done.new.state c.act_on-done.result.fired c.act_on-done.ensures.added in
    subst (λ xs. StartsWith xs es) (sym (c.give.ensures.seen ∙ more.1))
    (StartsWith-append (logged t) es more.0 begins)

pub give-requires-clause-entries : goal.give-requires-clause-entries
give-requires-clause-entries g c =
    let t : State = c.state-state.result.now in
    adds_by c.args.round.worker t c.act_on-done.new.state c.act_on-done.result.fired
    c.act_on-done.ensures.added _ (c.take-turn.ensures.number ∙ c.requires.number) _
    (c.take-turn.ensures.seen ∙ ap logged (sym c.state-state.ensures.value))

pub act_on-done-requires-clause-seen : goal.act_on-done-requires-clause-seen
act_on-done-requires-clause-seen g c =
    let t : State = c.state-state.result.now in
    let es = seen c.args.pass.now in
    let begins : StartsWith (logged t) es = subst (λ s. StartsWith (logged s) es) (sym c.state-state.ensures.value) c.take-turn.ensures.entries in
    subst (λ n. n ≤ length t.fired) (sym c.requires.looked) (had_seen t es begins c.requires.going)
