use Rattle.rn_net.proofs.Names.{length, done, between, Item, IsItem}
use Rattle.rn_net.proofs.Steps.{failed, then_read, then_fails}
use Rattle.rn_net.proofs.NetPhrases.{one_channel, one_net, item_channel, item_net, item_none}
use Rattle.rn_net.proofs.net_reader.item.Goals as goal

pub returns-in_err-more-clause-reads : goal.returns-in_err-more-clause-reads
returns-in_err-more-clause-reads c = failed (IsItem c.args.notation) c.args.tokens.now c.args.at between between c.from_residual.result c.in_err-more.field-0.0 c.from_residual.ensures.1
    (then_fails one_channel (λ a. done (Item.Channel a)) (length c.args.tokens.now) c.in_err-more.field-0.0 (item_channel c.args.notation c.args.tokens.now c.args.at c.in-Some.ensures.0) c.in_err-more.ensures.reads)

pub returns-in-Some-clause-reads : goal.returns-in-Some-clause-reads
returns-in-Some-clause-reads c = then_read one_channel (λ a. done (Item.Channel a)) (item_channel c.args.notation c.args.tokens.now c.args.at c.in-Some.ensures.0) c.in_ok-more.ensures.reads

pub returns-in_err-more-2-clause-reads : goal.returns-in_err-more-2-clause-reads
returns-in_err-more-2-clause-reads c = failed (IsItem c.args.notation) c.args.tokens.now c.args.at between between c.from_residual-in_err-more-2.result c.in_err-more-2.field-0.0 c.from_residual-in_err-more-2.ensures.1
    (then_fails (one_net c.args.notation) (λ a. done (Item.Net a)) (length c.args.tokens.now) c.in_err-more-2.field-0.0 (item_net c.args.notation c.args.tokens.now c.args.at c.in-Some-past_word.ensures.0) c.in_err-more-2.ensures.reads)

pub returns-in-Some-past_word-clause-reads : goal.returns-in-Some-past_word-clause-reads
returns-in-Some-past_word-clause-reads c = then_read (one_net c.args.notation) (λ a. done (Item.Net a)) (item_net c.args.notation c.args.tokens.now c.args.at c.in-Some-past_word.ensures.0) c.in_ok-more-2.ensures.reads

pub returns-clause-reads : goal.returns-clause-reads
returns-clause-reads c = item_none c.args.notation c.args.tokens.now c.args.at c.requires.inside c.in_default.ensures c.in_default-past_word.ensures
