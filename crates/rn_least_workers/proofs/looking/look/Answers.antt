-- What was seen is where the entries seen then begin.
use Rattle.std.proofs.Common.{◌≡◌, false, ap, sym, ◌∙◌, subst}
use Rattle.rn_desk.specs.Entries.{StartsWith}
use Rattle.rn_desk.specs.Passes.{seen}
use Rattle.rn_desk.proofs.Histories.{StartsWith-append}
use Rattle.rn_fire.specs.States.{State, logged}
use Rattle.rn_worker.proofs.OwnEntries.{begins_by}
use Rattle.rn_least_workers.proofs.looking.look.Goals as goal

pub returns-in-None-clause-entries : goal.returns-in-None-clause-entries
returns-in-None-clause-entries g c =
    let t : State = c.state.result.now in
    let es = seen c.args.pass.now in
    let begins : StartsWith (logged t) es = subst (λ s. StartsWith (logged s) es) (sym c.state.ensures.value) c.take-turn.ensures.entries in
    let more = begins_by 0 t c.sight_of-sight.new.state false c.sight_of-sight.ensures.kept in
    subst (λ xs. StartsWith xs es) (sym (c.give.ensures.seen ∙ more.1))
    (StartsWith-append (logged t) es more.0 begins)
