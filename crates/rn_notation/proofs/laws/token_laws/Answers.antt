use Rattle.rn_notation.proofs.OneReading.{one_reading, one_fault, no_fault}
use Rattle.rn_notation.proofs.laws.token_laws.Goals as goal

pub returns : goal.returns
returns c = record { one_reading = one_reading; one_fault = one_fault; no_both = no_fault }
