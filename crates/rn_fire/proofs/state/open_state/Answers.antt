-- The initial marking stands for itself.
use Rattle.std.proofs.Common.{ℕ, ◌<◌, ap, sym, subst, ◌∙◌, arith, [], ◌∷◌, length}
use Rattle.std.specs.Prelude.{◌^◌, None}
use Rattle.rn_model.specs.declared.system.System.{System}
use Rattle.rn_model.specs.Liveness.{Stands}
use Rattle.rn_model.specs.Markings.{initial_marking}
use Rattle.rn_model.specs.Systems.{main_net}
use Rattle.rn_model.proofs.MarkingsOfRuns.{initial_is_marking}
use Rattle.rn_model.proofs.StandingTables.{markings_stand_for_themselves}
use Rattle.rn_table.specs.Tables.{IsTableOf}
use Rattle.rn_fire.specs.Nets.{nets_of_entries}
use Rattle.rn_fire.specs.Parts.{HoldsLive}
use Rattle.rn_fire.specs.declared.setup.Setup.{Setup}
use Rattle.rn_fire.proofs.StateLemmas.{keeps}
use Rattle.rn_fire.proofs.state.open_state.Goals as goal

pub new-requires : goal.new-requires
new-requires c = subst (λ (s : System). length s.nets < 2 ^ 32) (sym c.deref.ensures) (omega (arith, c.requires.good.few_nets))

pub invariant_of-result : goal.invariant_of-result
invariant_of-result c =
    let system = c.args.system.value in
    let setup : Setup = record { system = system; options = c.args.options } in
    let table = c.in_ok-table.table in
    let marking = c.in_ok-table.ensures.marking ∙ ap initial_marking c.deref.ensures in
    let room = c.in_ok-entries.ensures.capacity in
    record {
      run = keeps setup c.in_ok-entries.entries.items _ table [] None c.in_ok-entries.ensures.items
          (record {
            good = c.requires.good;
            limits = c.requires.limits;
            log = record { run = tt; steps = omega arith; ends = tt };
            stands = subst (λ m. Stands system m (initial_marking system)) (sym marking)
                (markings_stand_for_themselves system (initial_marking system) (initial_is_marking system c.requires.good));
            of_system = subst (λ s. IsTableOf s table) c.deref.ensures c.in_ok-table.ensures.of_system;
          })
          (omega (arith, room));
      nets = c.in_ok-nets.ensures ∙ ap (λ s. main_net s ∷ []) c.deref-2.ensures
          ∙ sym (ap (nets_of_entries system) c.in_ok-entries.ensures.items);
      live = subst (λ s. HoldsLive s table.marking.next c.in_ok-live.live) c.deref-3.ensures
          (subst (λ (n : ℕ). HoldsLive c.deref-3.result.now n c.in_ok-live.live) c.next.ensures.number c.in_ok-live.ensures);
    }
