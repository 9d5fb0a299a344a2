-- The first entries are kept, and the room for all.
use Rattle.std.proofs.Common.{◌≤◌, ◌-◌, length, take, sym, ap, ◌∙◌, subst, arith}
use Rattle.std.specs.Prelude.{None, vec_capacity}
use Rattle.rn_model.specs.Liveness.{Stands}
use Rattle.rn_model.specs.Runs.{end_of}
use Rattle.rn_table.specs.Tables.{IsTableOf}
use Rattle.rn_fire.specs.declared.setup.Setup.{Setup}
use Rattle.rn_fire.specs.Nets.{nets_of_entries}
use Rattle.rn_fire.specs.States.{State}
use Rattle.rn_fire.specs.link.States.{KeepsRun, state_of}
use Rattle.rn_fire.proofs.RewindingLemmas.{goes_back, keeps_first, keeps_first_nets, keeps_first_room, some_made}
use Rattle.rn_fire.proofs.state.SimState.rewind.Goals as goal

pub invariant_of-self : goal.invariant_of-self
invariant_of-self c =
    let setup : Setup = record { system = c.self.inside.system.value; options = c.self.inside.options } in
    let entries = c.self.inside.entries.items in
    let room = vec_capacity c.self.inside.entries in
    let table = c.args.table in
    let within = subst (λ s. c.args.count ≤ length s.fired) (sym c.self.view_is) c.requires.firings in
    let stands = subst (λ s. Stands s.setup.system table.marking (end_of s.setup.system (take c.args.count s.fired)))
    (sym c.self.view_is) c.requires.stands in
    let of = subst (λ s. IsTableOf s.setup.system table) (sym c.self.view_is) c.requires.of_system in
    let first = keeps_first setup entries room c.self.inside.table table c.self.invariant.run c.args.count within stands of in
    let some = some_made setup entries room c.self.inside.table table c.self.invariant.run c.args.count within stands in
    let number = c.next.ensures.number in
    let made = keeps_first_nets setup entries room c.self.inside.table table c.self.invariant.run c.args.count within stands
    c.self.inside.nets.items c.self.invariant.nets (c.next.result - 1) (omega (arith, number, some)) in
    record {
      run = subst (λ es. KeepsRun setup es (vec_capacity c.truncate-2.new.self) table) (sym c.truncate-2.ensures.items)
          (subst (λ r. KeepsRun setup (take c.args.count entries) r table) (sym c.truncate-2.ensures.capacity) first);
      nets = c.truncate.ensures.items ∙ made
          ∙ ap (nets_of_entries setup.system) (sym c.truncate-2.ensures.items);
      live = keeps_first_room setup entries room c.self.inside.table table c.self.invariant.run c.args.count within stands
          c.self.inside.live c.self.invariant.live;
    }

pub returns : goal.returns
returns c =
    let setup : Setup = record { system = c.self.inside.system.value; options = c.self.inside.options } in
    let entries = c.self.inside.entries.items in
    let table = c.args.table in
    let within = subst (λ s. c.args.count ≤ length s.fired) (sym c.self.view_is) c.requires.firings in
    ap (λ es. state_of setup es table) c.truncate-2.ensures.items
    ∙ goes_back setup entries (vec_capacity c.self.inside.entries) c.self.inside.table table c.self.invariant.run c.args.count within
    ∙ ap (λ (s : State). let x : State = record { setup = s.setup; fired = take c.args.count s.fired; ended = None; table = table } in x)
    c.self.view_is
