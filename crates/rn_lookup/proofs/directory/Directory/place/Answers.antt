-- The table of the net, or none where there is no such net.
use Rattle.std.proofs.Common.{◌≡◌, ◌∙◌, ◌<◌, ◌≤◌, ap, sym, subst, length, get_or}
use Rattle.std.specs.Prelude.{unwrap_or}
use Rattle.std.proofs.lemmas.Result.{IfOk-weaker}
use Rattle.rn_model.specs.Systems.{empty_net}
use Rattle.rn_lookup.specs.Found.{place_named}
use Rattle.rn_lookup.proofs.OwnLemmas.{own_is_of, none_past}
use Rattle.rn_lookup.proofs.directory.Directory.place.Goals as goal

pub returns-in-Some : goal.returns-in-Some
returns-in-Some c =
    let all = c.args.self.now.own.items in
    let own = c.in-Some.own.now in
    let found = c.in-Some.ensures.lookup in
    let below : c.args.net < length all = subst (λ l. c.args.net < length l) c.deref.ensures.value found.3.0 in
    let here : own ≡ get_or all c.args.net own
    = subst (λ l. own ≡ get_or l c.args.net own) c.deref.ensures.value found.1 in
    IfOk-weaker c.number.result _ _
    (λ number is system of. is
    ∙ (own_is_of system.nets all c.args.net own of.own below here).places c.args.name.now)
    c.number.ensures

pub returns-in-None : goal.returns-in-None
returns-in-None c = λ system of.
    let all = c.args.self.now.own.items in
    let past : length all ≤ c.args.net
    = subst (λ l. length l ≤ c.args.net) c.deref.ensures.value c.in-None.ensures.lookup.3 in
    ap (λ o. place_named (unwrap_or o empty_net) c.args.name.now)
    (sym (none_past system.nets all c.args.net of.own past))
