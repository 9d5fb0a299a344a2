-- The change may come, and the log and the table then go on together.
use Rattle.std.proofs.Common.{ap, sym, subst, ◌∙◌, ◌++◌, length, suc, ◌<◌, arith}
use Rattle.std.proofs.lemmas.List.{length-map}
use Rattle.rn_model.specs.Firing.{creations_of}
use Rattle.rn_model.specs.declared.log.Entry.TheVariants.{Fire}
use Rattle.rn_table.specs.Changes.{MayCome, changed}
use Rattle.rn_table.specs.Tables.{IsTableOf}
use Rattle.rn_fire.specs.Commits.{HasFired, IsEnabledNow}
use Rattle.rn_fire.specs.link.Outcomes.{FiresBy}
use Rattle.rn_fire.specs.link.States.{KeepsRun, state_of}
use Rattle.rn_fire.specs.declared.setup.Setup.{Setup}
use Rattle.rn_fire.proofs.FiringLemmas.{has_fired, keeps_fired, may_come}
use Rattle.rn_fire.proofs.NetLemmas.{made_are, nets_follow}
use Rattle.rn_fire.proofs.state.SimState.add.Goals as goal

pub apply-requires : goal.apply-requires
apply-requires c =
    let setup : Setup = record { system = c.self.inside.system.value; options = c.self.inside.options } in
    let b = c.args.binding in
    let change = c.args.change.now in
    let going = ap (λ s. s.ended) c.self.view_is ∙ c.requires.going in
    let enabled = subst (λ s. IsEnabledNow s b) (sym c.self.view_is) c.requires.enabled in
    let by = subst (λ s. FiresBy s.setup.system b s.table.marking.next (suc (length s.fired)) c.args.outs change) (sym c.self.view_is) c.requires.fires in
    subst (λ s. MayCome s change c.self.inside.table.marking) (sym c.deref.ensures)
    (may_come setup c.self.inside.entries.items _ c.self.inside.table c.self.invariant.run going c.args.worker b c.args.outs change enabled by)

pub next_after-next-requires : goal.next_after-next-requires
next_after-next-requires c =
    let setup : Setup = record { system = c.self.inside.system.value; options = c.self.inside.options } in
    let b = c.args.binding in
    let change = c.args.change.now in
    let by = subst (λ s. FiresBy s.setup.system b s.table.marking.next (suc (length s.fired)) c.args.outs change) (sym c.self.view_is) c.requires.fires in
    let low = by.low in
    let made = ap length by.of.made ∙ length-map (creations_of setup.system b) (λ c. c.net) in
    let number = c.next.ensures.number in
    let count = c.len.ensures in
    omega (arith, low, made, number, count)

pub invariant_of-self-2 : goal.invariant_of-self-2
invariant_of-self-2 c =
    let setup : Setup = record { system = c.self.inside.system.value; options = c.self.inside.options } in
    let b = c.args.binding in
    let change = c.args.change.now in
    let table = c.self.inside.table in
    let after = c.apply.new.self in
    let going = ap (λ s. s.ended) c.self.view_is ∙ c.requires.going in
    let enabled = subst (λ s. IsEnabledNow s b) (sym c.self.view_is) c.requires.enabled in
    let by = subst (λ s. FiresBy s.setup.system b s.table.marking.next (suc (length s.fired)) c.args.outs change) (sym c.self.view_is) c.requires.fires in
    let came = c.in_ok-apply.ensures.marking ∙ ap (λ s. changed s change table.marking) c.deref.ensures in
    let of = subst (λ s. IsTableOf s table → IsTableOf s after) c.deref.ensures c.in_ok-apply.ensures.of_system c.self.invariant.run.state.of_system in
    let below = subst (λ s. length s.fired < s.setup.options.steps) (sym c.self.view_is) c.requires.below in
    let longer = c.add_nets.ensures ∙ ap (λ made. c.reserve.new.self.items ++ made) c.as_slice.ensures
    ∙ ap (λ nets. nets ++ change.made) c.reserve.ensures.items in
    record {
      run = subst (λ room. KeepsRun setup c.push_reserved.new.self.items room after) (sym c.push_reserved.ensures.capacity)
          (keeps_fired setup c.self.inside.entries.items _ table c.self.invariant.run going c.args.worker b c.args.outs change enabled by
          after came of c.push_reserved.new.self.items c.push_reserved.ensures.items below c.requires.worker);
      nets = nets_follow setup.system c.self.inside.entries.items c.push_reserved.new.self.items (Fire c.args.worker b c.args.outs)
          c.self.inside.nets.items c.add_nets.new.nets.items change.made c.self.invariant.nets c.push_reserved.ensures.items longer
          (by.of.made ∙ made_are setup.system b);
      live =
          let next = ap (λ m. m.next) came in
          let asked = c.next_after-next.ensures in
          let number = c.next.ensures.number in
          let count = c.len.ensures in
          let room = c.in_ok-reserve-2.ensures.room in
          record {
            room = omega (arith, next, asked, number, count, room);
            of_system = c.reserve-2.ensures.starting ∙ c.self.invariant.live.of_system;
          };
    }

pub returns-clause-ok : goal.returns-clause-ok
returns-clause-ok c =
    let setup : Setup = record { system = c.self.inside.system.value; options = c.self.inside.options } in
    let b = c.args.binding in
    let change = c.args.change.now in
    let table = c.self.inside.table in
    let after = c.apply.new.self in
    let going = ap (λ s. s.ended) c.self.view_is ∙ c.requires.going in
    let enabled = subst (λ s. IsEnabledNow s b) (sym c.self.view_is) c.requires.enabled in
    let by = subst (λ s. FiresBy s.setup.system b s.table.marking.next (suc (length s.fired)) c.args.outs change) (sym c.self.view_is) c.requires.fires in
    let came = c.in_ok-apply.ensures.marking ∙ ap (λ s. changed s change table.marking) c.deref.ensures in
    let of = subst (λ s. IsTableOf s table → IsTableOf s after) c.deref.ensures c.in_ok-apply.ensures.of_system c.self.invariant.run.state.of_system in
    let below = subst (λ s. length s.fired < s.setup.options.steps) (sym c.self.view_is) c.requires.below in
    subst (λ s. HasFired s (record { worker = c.args.worker; binding = b; outs = c.args.outs }) (state_of setup c.push_reserved.new.self.items after)) c.self.view_is
    (has_fired setup c.self.inside.entries.items _ table c.self.invariant.run going c.args.worker b c.args.outs change enabled by
    after came of c.push_reserved.new.self.items c.push_reserved.ensures.items below c.requires.worker)
