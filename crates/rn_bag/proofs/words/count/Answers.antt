use Rattle.std.proofs.lemmas.Nat.{pow_pos}
use Rattle.rn_bag.proofs.CountLemmas.{masked_count}
use Rattle.rn_bag.proofs.words.count.Goals as goal

pub returns-clause-chosen : goal.returns-clause-chosen
returns-clause-chosen c = λ vs size. masked_count vs c.args.word c.all_below.result c.args.end c.all_below.ensures.value size (pow_pos c.args.end)
