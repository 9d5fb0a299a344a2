-- By the decision that makes it.
use Rattle.std.proofs.Common.{subst}
use Rattle.std.specs.Prelude.{Some, None}
use Rattle.rn_looking.specs.Calling.{IsMaker}
use Rattle.rn_looking.proofs.Makers.{kept_is, made_is, unmade_is}
use Rattle.rn_looking.proofs.calls.called_on.Goals as goal

pub returns-in-Old : goal.returns-in-Old
returns-in-Old c =
    kept_is c.args.system.now c.args.decisions.now c.args.inst.now c.in-Old.number c.in-Old.is

pub returns-in-Some : goal.returns-in-Some
returns-in-Some c =
    made_is c.args.system.now c.args.decisions.now c.args.inst.now c.in-New.path c.in-New.j
    c.in-Some.k c.in-New.is
    (subst (λ p. IsMaker c.args.system.now c.args.decisions.now p c.in-New.j (Some c.in-Some.k))
    c.as_slice.ensures c.in-Some.ensures)

pub returns-in-None : goal.returns-in-None
returns-in-None c =
    unmade_is c.args.system.now c.args.decisions.now c.args.inst.now c.in-New.path c.in-New.j
    c.in-New.is
    (subst (λ p. IsMaker c.args.system.now c.args.decisions.now p c.in-New.j None)
    c.as_slice.ensures c.in-None.ensures)
