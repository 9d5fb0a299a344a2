-- What was reported is that of the tokens so far.
use Rattle.std.proofs.Common.{◌≡◌, take}
use Rattle.std.specs.Prelude.{flat_map}
use Rattle.rn_declared.specs.Faults.{first_from}
use Rattle.rn_declared.specs.Declarations.{token_faults}
use Rattle.rn_declared.proofs.places.see_tokens.Given as goal

abbrev pub invariant-loop-token : goal.invariant-loop-token
invariant-loop-token l =
    l.first.fault
    ≡ first_from l.initial.first.fault (flat_map (token_faults l.pattern) (take l.token-index l.tokens))
