-- The text is the workload's, which isn't refused.
use Rattle.std.proofs.Common.{◌∙◌, subst}
use Rattle.rn_answering.specs.NetTexts.{RefusesNet}
use Rattle.rn_answering.specs.Refusing.{Stops}
use Rattle.rn_commands.proofs.AcceptedWorkloads.{stops_by_memory}
use Rattle.rn_commands.proofs.workload.workload_system.Goals as goal

pub out_of_memory-requires : goal.out_of_memory-requires
out_of_memory-requires c =
    let text = c.as_slice.ensures.value ∙ c.in_ok-text.ensures in
    let stopped = c.in-Err.stopped in
    stops_by_memory c.workload_laws.ensures.not_refused c.args.copies c.requires.copies.1 stopped
    (subst (λ bytes. Stops (RefusesNet bytes) stopped) text c.in-Err.ensures.refused)
