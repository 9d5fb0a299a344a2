use Rattle.std.proofs.Common.{◌≡◌, ◌∙◌, ap, sym, subst, ◌<◌, ◌≤◌, length, get_or, map, arith}
use Rattle.std.specs.Prelude.{None}
use Rattle.std.proofs.lemmas.List.{length-map}
use Rattle.rn_model.specs.declared.system.Transition.{Transition}
use Rattle.rn_model.specs.Systems.{net_at, transition_at}
use Rattle.rn_channel.specs.Heights.{IsLeastHeight}
use Rattle.rn_channel.specs.link.Kept.{least_height}
use Rattle.rn_channel.proofs.NetLemmas.{kept_is_of, as_many}
use Rattle.rn_channel.proofs.LeastHeights.{least_is_least, at_transition}
use Rattle.rn_channel.proofs.uplinks.Uplinks.height.Goals as goal

pub returns-in-Some : goal.returns-in-Some
returns-in-Some c = λ system are within inner.
    let all = c.args.self.now.nets.items in
    let kept = c.in-Some.kept.now in
    let found = c.in-Some.ensures.lookup in
    let below : c.args.net < length all = subst (λ l. c.args.net < length l) c.deref.ensures.value found.3.0 in
    let here : kept ≡ get_or all c.args.net kept
    = subst (λ l. kept ≡ get_or l c.args.net kept) c.deref.ensures.value found.1 in
    let of = kept_is_of system system.nets all c.args.net kept are below here in
    let ts = (net_at system c.args.net).transitions in
    let heights = c.as_slice.ensures ∙ of.heights in
    let long = length-map ts (λ (t : Transition). least_height system t 0 17) in
    let in_heights : c.args.transition < length c.as_slice.result.now
    = subst (λ l. c.args.transition < length l) (sym heights) (omega (arith, inner, long)) in
    let value : c.height_in.result ≡ least_height system (transition_at system c.args.net c.args.transition) 0 17
    = c.height_in.ensures in_heights None
    ∙ ap (λ l. get_or l c.args.transition None) heights
    ∙ at_transition (λ (t : Transition). least_height system t 0 17) ts c.args.transition None inner in
    subst (IsLeastHeight system (transition_at system c.args.net c.args.transition)) (sym value)
    (least_is_least system (transition_at system c.args.net c.args.transition))

pub returns-in-None : goal.returns-in-None
returns-in-None c = λ system are within inner.
    let all = c.args.self.now.nets.items in
    let past : length all ≤ c.args.net
    = subst (λ l. length l ≤ c.args.net) c.deref.ensures.value c.in-None.ensures.lookup.3 in
    let many = as_many system system.nets all are in
    absurd (omega (arith, past, many, within))
