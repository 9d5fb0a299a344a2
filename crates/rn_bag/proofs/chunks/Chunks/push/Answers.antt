use Rattle.std.proofs.Common.{◌≡◌, ◌++◌, ◌∷◌, [], ◌+◌, ◌<◌, length, IfNone, refl, subst, arith}
use Rattle.std.proofs.lemmas.List.{length-append}
use Rattle.rn_bag.specs.Words.{has_bit}
use Rattle.rn_bag.specs.link.Pools.{IsPushed}
use Rattle.rn_bag.specs.link.Tags.{slots_at, values_at}
use Rattle.rn_bag.proofs.SlotLemmas.{there_whole}
use Rattle.rn_bag.proofs.EditLemmas.{full_chunk}
use Rattle.rn_bag.proofs.TagLemmas.{same_size, tag_is, seen_at, tag_len, pushed_is, pushed_seen}
use Rattle.rn_bag.proofs.chunks.Chunks.push.Goals as goal

pub all_below-requires : goal.all_below-requires
all_below-requires c =
    let m = c.index-tag.result.now in
    let within : c.args.index < length c.self.inside.tags.items = omega (arith, c.requires.inside, same_size c.self.inside.pool c.self.inside.tags.items c.args.self.now c.self.view_is) in
    let is = tag_is c.self.inside.pool c.self.inside.tags.items c.args.index m c.self.invariant within c.index-tag.ensures in
    omega (arith, c.requires.room (slots_at c.self.inside.pool m) (seen_at c.self.inside.pool c.self.inside.tags.items c.args.self.now c.args.index m c.self.view_is within c.index-tag.ensures), tag_len c.self.inside.pool m is)

pub invariant_of-self-2 : goal.invariant_of-self-2
invariant_of-self-2 c =
    let m = c.index-tag.result.now in
    let pool = c.self.inside.pool in
    let tags = c.self.inside.tags.items in
    let within : c.args.index < length tags = omega (arith, c.requires.inside, same_size pool tags c.args.self.now c.self.view_is) in
    let is = tag_is pool tags c.args.index m c.self.invariant within c.index-tag.ensures in
    let room = c.requires.room (slots_at pool m) (seen_at pool tags c.args.self.now c.args.index m c.self.view_is within c.index-tag.ensures) in
    let len : length (values_at pool m) ≡ m.len = tag_len pool m is in
    let size = length-append (values_at pool m) (c.args.value ∷ []) in
    let pushed : IsPushed pool m.at m.len c.args.value c.push.new.self = subst (λ o. IfNone o (IsPushed pool m.at m.len c.args.value c.push.new.self)) c.in_default.is c.in_ok-value.ensures.pushed in
    pushed_is pool c.push.new.self c.args.value tags c.args.index m _ within c.index-tag.ensures pushed c.self.invariant refl refl
    (full_chunk _ _ c.all_below.result (m.len + 1) refl (omega (arith, len, size)) (record { filled = omega (arith, size); small = omega (arith, len, size, room) }) c.all_below.ensures.each)

pub returns-clause-pushed : goal.returns-clause-pushed
returns-clause-pushed c = λ x seen.
    let m = c.index-tag.result.now in
    let pool = c.self.inside.pool in
    let tags = c.self.inside.tags.items in
    let within : c.args.index < length tags = omega (arith, c.requires.inside, same_size pool tags c.args.self.now c.self.view_is) in
    let is = tag_is pool tags c.args.index m c.self.invariant within c.index-tag.ensures in
    let len : length (values_at pool m) ≡ m.len = tag_len pool m is in
    let size = length-append (values_at pool m) (c.args.value ∷ []) in
    let pushed : IsPushed pool m.at m.len c.args.value c.push.new.self = subst (λ o. IfNone o (IsPushed pool m.at m.len c.args.value c.push.new.self)) c.in_default.is c.in_ok-value.ensures.pushed in
    pushed_seen pool c.push.new.self c.args.value tags c.args.self.now c.args.index m _ x c.self.view_is within c.index-tag.ensures seen pushed c.self.invariant refl refl refl
    (there_whole (has_bit c.all_below.result) 0 (values_at pool m ++ c.args.value ∷ []) (λ i low high. c.all_below.ensures.each i (omega (arith, len, size, high))))
