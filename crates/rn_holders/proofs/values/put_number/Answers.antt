use Rattle.std.proofs.Common.{sym, subst}
use Rattle.std.specs.Prelude.{nat_eq}
use Rattle.rn_holders.specs.link.Puts.{Puts}
use Rattle.rn_holders.proofs.PutLemmas.{one}
use Rattle.rn_holders.proofs.values.put_number.Goals as goal

pub returns : goal.returns
returns c =
    subst (Puts (nat_eq c.args.number) c.args.numbers.now.items) (sym c.in_ok-push.ensures.items)
    (one c.args.number c.args.numbers.now.items)
