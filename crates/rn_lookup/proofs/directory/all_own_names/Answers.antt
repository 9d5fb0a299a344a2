-- One more net.
use Rattle.std.proofs.Common.{◌≡◌, ◌∙◌, ◌+◌, ◌++◌, ◌∷◌, [], ap, sym, subst, take}
use Rattle.std.proofs.lemmas.List.{take_more}
use Rattle.rn_lookup.specs.link.Tables.{AreOwnOf}
use Rattle.rn_lookup.proofs.OwnLemmas.{one_more_net}
use Rattle.rn_lookup.proofs.directory.all_own_names.Goals as goal

pub loop-net-preserved : goal.loop-net-preserved
loop-net-preserved c =
    let nets = c.args.nets.now in
    let i = c.loop-net.net-index in
    let net = c.net-item.result in
    let own = c.in_ok-own_names.field-0 in
    let next : take i nets ++ net ∷ [] ≡ take (i + 1) nets
    = ap (λ n. take i nets ++ n ∷ []) c.net-item.is ∙ sym (take_more nets i net c.loop-net-test.true) in
    subst (λ ns. AreOwnOf ns c.push.new.self.items) next
    (subst (AreOwnOf (take i nets ++ net ∷ [])) (sym c.in_ok-push.ensures.items)
    (one_more_net (take i nets) c.loop-net.own.items net own c.loop-net.invariant c.in_ok-own_names.ensures))
