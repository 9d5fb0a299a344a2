use Rattle.std.proofs.Common.{◌≡◌, take}
use Rattle.std.specs.Prelude.{filter}
use Rattle.rn_model.specs.declared.system.System.{System}
use Rattle.rn_table.specs.Staying.{stays}
use Rattle.rn_table.specs.Tables.{IsTableOf}
use Rattle.rn_table.proofs.table.Table.remove_all.Given as goal

abbrev pub invariant-loop-number : goal.invariant-loop-number
invariant-loop-number l = record {
  next : l.self.marking.next ≡ l.initial.self.marking.next;
  instances : l.self.marking.instances ≡ filter (λ i. stays (take l.number-index l.numbers) i.number) l.initial.self.marking.instances;
  starting : l.self.starting ≡ filter (stays (take l.number-index l.numbers)) l.initial.self.starting;
  of_system : (system : System) → IsTableOf system l.initial.self → IsTableOf system l.self;
}
