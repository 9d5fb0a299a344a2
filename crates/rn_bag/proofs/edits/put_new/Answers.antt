use Rattle.std.proofs.Common.{◌++◌, ◌∷◌, take, drop, refl, sym, ◌∙◌, subst}
use Rattle.rn_bag.specs.Cuts.{Ascends}
use Rattle.rn_bag.specs.Slots.{there_from}
use Rattle.rn_bag.specs.Words.{has_bit}
use Rattle.rn_bag.specs.link.Chunks.{AreCounted}
use Rattle.rn_bag.proofs.CountLemmas.{counted_prefix}
use Rattle.rn_bag.proofs.EditLemmas.{read_at, prefix_long, replaced_gives, replaced_sound}
use Rattle.rn_bag.proofs.edits.put_new.Goals as goal

pub recount-requires-clause-inside : goal.recount-requires-clause-inside
recount-requires-clause-inside c =
    let x = read_at c.args.chunks.now c.args.at.chunk c.requires.chunk in
    prefix_long c.args.chunks.now c.grow.new.chunks c.args.at.chunk (c.in_ok-grow.ensures.ok x.0 x.1).prefix c.requires.chunk

pub recount-requires-clause-counted : goal.recount-requires-clause-counted
recount-requires-clause-counted c =
    let x = read_at c.args.chunks.now c.args.at.chunk c.requires.chunk in
    subst (AreCounted 0 0) (sym (c.in_ok-grow.ensures.ok x.0 x.1).prefix) (counted_prefix 0 0 c.args.chunks.now c.args.at.chunk c.requires.sound.counted)

pub returns-clause-ok : goal.returns-clause-ok
returns-clause-ok c =
    let x = read_at c.args.chunks.now c.args.at.chunk c.requires.chunk in
    c.recount.ensures.tokens
    ∙ replaced_gives c.args.chunks.now c.grow.new.chunks c.args.at.chunk c.args.at.slot x.0 c.args.value
    (there_from (has_bit x.0.there) 0 (take c.args.at.slot x.0.values) ++ c.args.value ∷ there_from (has_bit x.0.there) c.args.at.slot (drop c.args.at.slot x.0.values))
    c.requires.chunk x.1 refl (c.in_ok-grow.ensures.ok x.0 x.1)

pub returns-clause-sound : goal.returns-clause-sound
returns-clause-sound c =
    let x = read_at c.args.chunks.now c.args.at.chunk c.requires.chunk in
    record {
      ascend = subst Ascends (sym c.recount.ensures.values)
          (replaced_sound c.args.chunks.now c.grow.new.chunks c.args.at.chunk c.args.at.slot x.0 c.args.value
          (there_from (has_bit x.0.there) 0 (take c.args.at.slot x.0.values) ++ c.args.value ∷ there_from (has_bit x.0.there) c.args.at.slot (drop c.args.at.slot x.0.values))
          c.requires.sound.ascend c.requires.chunk x.1 c.requires.before c.requires.rest refl (c.in_ok-grow.ensures.ok x.0 x.1));
      counted = c.recount.ensures.counted;
    }
