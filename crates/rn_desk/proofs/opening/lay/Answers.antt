use Rattle.std.proofs.Common.{rules, ◌≡◌, ◌∷◌, [], sym, ap, ◌∙◌, subst, Some}
use Rattle.atomic_table.specs.Table.{opening}
use Rattle.rn_desk.specs.Turns.{Turns}
use Rattle.rn_desk.specs.Steps.{maker}
use Rattle.rn_desk.proofs.Starting.{opens}
use Rattle.rn_desk.proofs.opening.lay.Goals as goal

pub new-requires-2 : goal.new-requires-2
new-requires-2 g c = let y = c.of.result.value in let is : y ≡ c.args.state = search rules in let items : c.push.new.self.items ≡ Some y ∷ [] = search rules in
    subst (λ xs. Turns g.S.Kept.entries g.S.Kept.author g.S.Kept.fixed c.args.seats y (opening (0 ∷ 0 ∷ 0 ∷ []) xs (maker 0 (g.S.Kept.fixed y)))) (sym items)
    (opens g.S.Kept.entries g.S.Kept.author g.S.Kept.fixed c.args.seats y (ap g.S.Kept.entries is ∙ c.requires.blank) c.requires.seats.1)
