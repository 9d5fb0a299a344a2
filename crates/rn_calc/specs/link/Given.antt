-- What an expression is read under, as the calls are given it.
use Rattle.std.specs.Prelude.{Some}
use Rattle.rn_calc.specs.declared.given.Given.{Given}
use Rattle.rn_model.specs.Evaluation.{Env}

-- the instance, the number of the firing, and the values of the variables
abbrev pub env_given : Given → Env
env_given given = record { this = given.this; step = Some given.step; pairs = given.pairs }
