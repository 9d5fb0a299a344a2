use Rattle.rn_commands.proofs.laws.gen_laws.Goals as goal

pub returns : goal.returns
returns c = λ copies few.
    let is = c.workload_laws.ensures.accepted copies few in
    (is.1, record { plain = is.0; spelled = is.2; checked = is.3 })
