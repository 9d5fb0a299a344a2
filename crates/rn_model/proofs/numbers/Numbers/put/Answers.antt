use Rattle.std.proofs.Common.{◌∙◌, ap, cond}
use Rattle.std.specs.Prelude.{Some}
use Rattle.rn_model.specs.Numbers.{number_in}
use Rattle.rn_model.proofs.CreationNumbers.{same_creation}
use Rattle.rn_model.proofs.numbers.Numbers.put.Goals as goal

pub returns : goal.returns
returns c = λ path j.
    c.in_ok-insert.ensures.updates.0 (record { path = path; index = j })
    ∙ ap (λ b. cond b (Some c.args.number) (number_in c.args.self.now path j))
    (same_creation c.args.made path j)
