use Rattle.std.proofs.Common.{◌<◌, ◌≤◌, ◌-◌, ℕ, [], ◌∙◌, length, take, drop, ap, subst}
use Rattle.rn_fire.specs.link.Changed.{EntryHasNodeOn, Gets, OneHas}
use Rattle.rn_fire.specs.States.{State}
use Rattle.rn_fire.proofs.ChangedLemmas.{differ_in_changed, just_changed, rest_whole}
use Rattle.rn_fire.proofs.state.SimState.changed_since.Goals as goal

pub returns : goal.returns
returns c =
    let s : State = c.args.self.now in
    let seen = c.args.seen in
    let next = c.args.next in
    let within = c.requires.seen in
    let first = c.requires.next in
    let es = c.entries.result.now in
    let some = c.put_entries.new.changed.items in
    let changed = c.put_numbers.new.changed.items in
    let stood =
    subst (λ ks. Gets (OneHas EntryHasNodeOn (take (length es - seen) (drop seen es))) ks some)
    c.new-changed.ensures.items c.in_ok-put_entries.ensures in
    let old =
    subst (λ rest. Gets (OneHas EntryHasNodeOn rest) [] some)
    (rest_whole seen es ∙ ap (drop seen) c.entries.ensures.entries) stood in
    let new =
    subst (λ (k : ℕ). Gets (λ n. (next ≤ n) × (n < k)) some changed)
    (c.next.ensures.number ∙ c.table.ensures.stands.next) c.in_ok-put_numbers.ensures in
    let is = c.length-length.ensures.state in
    record {
      just = just_changed s.setup.system s.fired s.ended seen next within first some changed old new;
      differ = differ_in_changed s.setup.system s.fired s.ended seen next within first some changed
          old new s.setup.options.depth is.good is.log.run;
    }
