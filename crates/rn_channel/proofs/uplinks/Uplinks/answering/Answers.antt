use Rattle.std.proofs.Common.{◌≡◌, ◌∙◌, ap, sym, subst, ◌<◌, ◌≤◌, length, get_or}
use Rattle.std.specs.Prelude.{unwrap_or}
use Rattle.rn_model.specs.Systems.{empty_net}
use Rattle.rn_channel.specs.Answering.{answering_from}
use Rattle.rn_channel.proofs.NetLemmas.{kept_is_of, none_past}
use Rattle.rn_channel.proofs.uplinks.Uplinks.answering.Goals as goal

pub returns-in-Some : goal.returns-in-Some
returns-in-Some c = λ system are.
    let all = c.args.self.now.nets.items in
    let kept = c.in-Some.kept.now in
    let found = c.in-Some.ensures.lookup in
    let below : c.args.net < length all = subst (λ l. c.args.net < length l) c.deref.ensures.value found.3.0 in
    let here : kept ≡ get_or all c.args.net kept
    = subst (λ l. kept ≡ get_or l c.args.net kept) c.deref.ensures.value found.1 in
    let of = kept_is_of system system.nets all c.args.net kept are below here in
    c.row_of.ensures ∙ of.rows c.args.channel

pub returns-in-None : goal.returns-in-None
returns-in-None c = λ system are.
    let all = c.args.self.now.nets.items in
    let past : length all ≤ c.args.net
    = subst (λ l. length l ≤ c.args.net) c.deref.ensures.value c.in-None.ensures.lookup.3 in
    let none = none_past system system.nets all c.args.net are past in
    ap (λ o. answering_from c.args.channel 0 (unwrap_or o empty_net).transitions) (sym none)
