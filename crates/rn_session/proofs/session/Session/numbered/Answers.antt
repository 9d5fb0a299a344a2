-- The index of a binding in the list is one below its number.
use Rattle.std.proofs.Common.{◌≡◌, ◌-◌, ◌<◌, suc, length, sym, subst, arith, vec_len}
use Rattle.rn_served.specs.Listed.{IsNumbered}
use Rattle.rn_served.proofs.NumberedBindings.{at_is_numbered}
use Rattle.rn_fire.specs.States.{State, end_marking}
use Rattle.rn_session.proofs.Sessions.{not_none}
use Rattle.rn_session.proofs.session.Session.numbered.Goals as goal

pub returns-clause-some : goal.returns-clause-some
returns-clause-some c =
    let s : State = c.args.self.now in
    let k = c.args.k in
    let b = c.swap_remove.result in
    let found = c.in_ok-found.found.items in
    let some = not_none k c.if-k-eq0.false in
    let low = c.if-len-k.false in
    let len = c.len.ensures in
    let same : vec_len c.in_ok-found.found ≡ length found = search in
    let within : k - 1 < length found = omega (arith, some, low, len, same) in
    let number : suc (k - 1) ≡ k = omega (arith, some) in
    subst (λ j. IsNumbered s.setup.system (end_marking s) s.setup.options.depth j b) number
    (at_is_numbered s.setup.system (end_marking s) s.setup.options.depth found c.in_ok-found.ensures (k - 1) b within
    (sym c.swap_remove.ensures.value))
