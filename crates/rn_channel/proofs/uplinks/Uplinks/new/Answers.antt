use Rattle.std.proofs.Common.{◌≡◌, ◌∙◌, ◌<◌, ℕ, ap, sym, subst, length, get_or, map, take, ◌∷◌, [], ◌+◌, ◌++◌}
use Rattle.std.proofs.lemmas.List.{take_more}
use Rattle.rn_model.specs.declared.system.Transition.{Transition}
use Rattle.rn_channel.specs.link.Kept.{least_height, AreLevelsFrom}
use Rattle.rn_channel.specs.link.Uplinks.{AreOfNet, AreOfNets}
use Rattle.rn_channel.proofs.NetLemmas.{one_more_net}
use Rattle.rn_channel.proofs.uplinks.Uplinks.new.Goals as goal

pub loop-net-preserved : goal.loop-net-preserved
loop-net-preserved c =
    let system = c.args.system.now in
    let i = c.loop-net.net-index in
    let net = c.net-item.result in
    let is_list = c.as_slice-net-items.ensures in
    let within = subst (λ ns. i < length ns) is_list c.loop-net-test.true in
    let here = subst (λ ns. net ≡ get_or ns i net) is_list c.net-item.is in
    let next : take i system.nets ++ net ∷ [] ≡ take (i + 1) system.nets
    = ap (λ n. take i system.nets ++ n ∷ []) here ∙ sym (take_more system.nets i net within) in
    let heights : c.in_ok-heights.heights ≡ map (λ (t : Transition). least_height system t 0 17) net.transitions
    = c.in_ok-heights.ensures system
    (subst (AreLevelsFrom system 0) (sym c.as_slice.ensures.value) c.in_ok-levels.ensures.each)
    ∙ ap (λ (n : ℕ). map (λ (t : Transition). least_height system t 0 n) net.transitions)
    (ap length c.as_slice.ensures.value ∙ c.in_ok-levels.ensures.len) in
    let of : AreOfNet system net (record { rows = c.in_ok-rows.rows; heights = c.in_ok-heights.heights })
    = record { rows = c.in_ok-rows.ensures; heights = heights } in
    subst (λ ns. AreOfNets system ns c.push.new.self.items) next
    (subst (AreOfNets system (take i system.nets ++ net ∷ [])) (sym c.in_ok-push.ensures.items)
    (one_more_net system (take i system.nets) c.loop-net.nets.items net
    (record { rows = c.in_ok-rows.rows; heights = c.in_ok-heights.heights }) c.loop-net.invariant of))
