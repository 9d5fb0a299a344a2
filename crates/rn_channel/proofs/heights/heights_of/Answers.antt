use Rattle.std.proofs.Common.{◌≡◌, ◌∙◌, ◌<◌, ◌≤◌, ap, length, map, subst, get_or}
use Rattle.std.proofs.lemmas.List.{take_all}
use Rattle.rn_model.specs.declared.system.Transition.{Transition}
use Rattle.rn_channel.specs.link.Kept.{least_height}
use Rattle.rn_channel.proofs.ListLemmas.{map_more}
use Rattle.rn_channel.proofs.heights.heights_of.Goals as goal

pub loop-transition-preserved : goal.loop-transition-preserved
loop-transition-preserved c = λ system are.
    let i = c.loop-transition.transition-index in
    let is_list = c.as_slice-transition-items.ensures in
    let within = subst (λ ts. i < length ts) is_list c.loop-transition-test.true in
    let here = subst (λ ts. c.transition-item.result ≡ get_or ts i c.transition-item.result) is_list
    c.transition-item.is in
    c.in_ok-push.ensures.items
    ∙ map_more (λ (t : Transition). least_height system t 0 (length c.args.levels.now))
    c.args.net.now.transitions i c.transition-item.result
    c.loop-transition.heights.items c.height_of.result within here
    (c.loop-transition.invariant system are) (c.height_of.ensures system are)

pub returns : goal.returns
returns c = λ system are.
    let ts = c.args.net.now.transitions in
    let past = subst (λ l. length l ≤ c.loop-transition.transition-index) c.as_slice-transition-items.ensures
    c.loop-transition-test.false in
    c.from_vec.ensures
    ∙ c.loop-transition.invariant system are
    ∙ ap (map (λ (t : Transition). least_height system t 0 (length c.args.levels.now)))
    (take_all c.loop-transition.transition-index ts past)
