use Rattle.std.proofs.Common.{sym, subst}
use Rattle.std.specs.Prelude.{IfOk}
use Rattle.rn_growing.specs.Equations.{Brings}
use Rattle.rn_growing.specs.link.Grown.{BringsIn}
use Rattle.rn_growing.proofs.bringing.bring.Goals as goal

pub returns-in-Entered-clause-brings : goal.returns-in-Entered-clause-brings
returns-in-Entered-clause-brings c =
    subst (λ d. IfOk c.bring_entry.result
    (λ told. BringsIn c.args.laid.now (λ a. Brings c.args.system.now a d)
    c.bring_entry.new.laid told)) (sym c.in-Entered.is) c.bring_entry.ensures.brings

pub returns-in-Found-clause-brings : goal.returns-in-Found-clause-brings
returns-in-Found-clause-brings c =
    subst (λ d. IfOk c.bring_found.result
    (λ told. BringsIn c.args.laid.now (λ a. Brings c.args.system.now a d)
    c.bring_found.new.laid told)) (sym c.in-Found.is) c.bring_found.ensures.brings

pub returns-in-Computed-clause-brings : goal.returns-in-Computed-clause-brings
returns-in-Computed-clause-brings c =
    subst (λ d. IfOk c.bring_computed.result
    (λ told. BringsIn c.args.laid.now (λ a. Brings c.args.system.now a d)
    c.bring_computed.new.laid told)) (sym c.in-Computed.is) c.bring_computed.ensures.brings
