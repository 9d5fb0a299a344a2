-- The table does without instances that aren't live.
use Rattle.std.proofs.Common.{ℕ, sym, subst}
use Rattle.std.specs.Prelude.{Contains}
use Rattle.rn_model.specs.Liveness.{IsLive}
use Rattle.rn_fire.specs.Parts.{HoldsLive}
use Rattle.rn_fire.specs.States.{end_marking}
use Rattle.rn_fire.specs.link.States.{state_of}
use Rattle.rn_fire.specs.declared.setup.Setup.{Setup}
use Rattle.rn_fire.proofs.DroppingLemmas.{still_stands}
use Rattle.rn_fire.proofs.state.SimState.sweep.Goals as goal

pub invariant_of-self : goal.invariant_of-self
invariant_of-self c =
    let setup : Setup = record { system = c.self.inside.system.value; options = c.self.inside.options } in
    let table = c.self.inside.table in
    let after = c.remove_all.new.self in
    let came = c.remove_all.ensures in
    let s = state_of setup c.self.inside.entries.items table in
    let k = c.self.invariant.run in
    let dead = subst (λ s. (n : ℕ) → Contains c.args.numbers.now n → ¬ IsLive s.setup.system (end_marking s) n) (sym c.self.view_is) c.requires in
    record {
      run = record {
        state = record {
          good = k.state.good;
          limits = k.state.limits;
          log = k.state.log;
          stands = still_stands setup.system table after (end_marking s) c.args.numbers.now came.next came.instances k.state.stands dead;
          of_system = came.of_system setup.system k.state.of_system;
        };
        whole = k.whole;
        enough = k.enough;
      };
      nets = c.self.invariant.nets;
      live = subst (λ n. HoldsLive setup.system n c.self.inside.live) (sym came.next) c.self.invariant.live;
    }
