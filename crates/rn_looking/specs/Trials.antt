-- Guards that are known but for one variable, which is tried at a token.
use Rattle.std.specs.Prelude.{ℕ, None, ◌∷◌, List}
use Rattle.rn_value.specs.declared.value.Kind.{Kind}
use Rattle.rn_value.specs.declared.value.Value.{Value}
use Rattle.rn_model.specs.Evaluation.{Env}
use Rattle.rn_model.specs.Good.{comparisons_in}
use Rattle.rn_looking.specs.declared.narrowed.OpenGuard.{OpenGuard}
use Rattle.rn_looking.specs.declared.trial.Trial.{Trial}
use Rattle.rn_looking.specs.NodeKinds.{AreOfKinds, Compare}

-- how a guard is read where its variable is the token
abbrev pub trial_env : Trial → Env
trial_env t =
    record { this = t.this.now; step = None; pairs = (t.var, t.token.now) ∷ t.others.now }

-- where its variable is this token, it compares what it may
abbrev pub IsOpenTo : OpenGuard → Value → Type 0
IsOpenTo o v = (kinds : ℕ → Kind) × Compare kinds (comparisons_in o.guard.now)
    × AreOfKinds kinds ((o.var, v) ∷ o.others.items)
