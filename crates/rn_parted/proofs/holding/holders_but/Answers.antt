use Rattle.std.proofs.Common.{sym, subst}
use Rattle.std.specs.Prelude.{Contains}
use Rattle.rn_holders.specs.Holders.{HaveTheseHolders}
use Rattle.rn_parted.proofs.ShareLemmas.{other_holders}
use Rattle.rn_parted.proofs.holding.holders_but.Goals as goal

pub returns : goal.returns
returns c =
    let m = c.args.table.now.marking in
    let holders = c.hold_all.new.holders.items in
    let others = c.in_ok-others.others.items in
    other_holders m c.args.number c.in_ok-numbers.numbers.items others holders
    c.in_ok-numbers.ensures
    (λ k apart has. c.in_ok-others.ensures k apart
    (subst (λ ks. Contains ks k) (sym c.as_slice.ensures.value) has))
    (subst (λ ks. HaveTheseHolders m ks holders) c.as_slice-2.ensures.value
    c.in_ok-hold_all.ensures.has)
