-- One more channel, and the end of all.
use Rattle.std.proofs.Common.{◌∙◌, ap, sym, map, take, drop, ◌+◌, ◌∷◌, ◌++◌, [], arith}
use Rattle.rn_declared.specs.Faults.{first_from}
use Rattle.rn_declared.specs.Patterns.{pattern_of}
use Rattle.rn_declared.specs.Channels.{channels_faults}
use Rattle.rn_declared.specs.link.Tables.{number_in_tables}
use Rattle.rn_declared.proofs.ChannelLemmas.{channel_more, channels_told_more, channels_told_all}
use Rattle.rn_declared.proofs.channels.declare_channels.Goals as goal
use Rattle.rn_items.proofs.Lists.{map_more}

pub loop-i-preserved : goal.loop-i-preserved
loop-i-preserved c =
    let channels = c.args.channels.now in
    let i = c.loop-i.i in
    let x = c.index-channels-i.result in
    record {
      found =
          channel_more channels i x (number_in_tables c.loop-i.tables) (number_in_tables c.declare.new.tables)
          c.loop-i-test.true c.index-channels-i.is c.loop-i.invariant.found c.in_ok-declare.ensures.found;
      patterns =
          c.in_ok-push.ensures.ok
          ∙ ap (λ ps. c.loop-i.patterns ++ ps ∷ []) (c.in_ok-patterns_of.ensures ∙ ap (map pattern_of) c.as_slice.ensures)
          ∙ ap (λ ps. ps ++ map pattern_of x.kinds ∷ []) c.loop-i.invariant.patterns
          ∙ sym (map_more (λ c. map pattern_of c.kinds) channels i x c.loop-i-test.true c.index-channels-i.is);
      told =
          ap (λ k. first_from k (channels_faults (take (i + 1) channels) (drop (i + 1) channels))) c.in_ok-declare.ensures.told
          ∙ channels_told_more channels i x (number_in_tables c.loop-i.tables) c.loop-i.first.fault
          c.loop-i-test.true c.index-channels-i.is c.loop-i.invariant.found
          ∙ c.loop-i.invariant.told;
    }

pub returns-clause-told : goal.returns-clause-told
returns-clause-told c =
    c.tell_past.ensures
    ∙ channels_told_all c.args.channels.now c.loop-i.i c.args.first.now.fault c.loop-i.first.fault
    (omega arith) c.loop-i.invariant.told
