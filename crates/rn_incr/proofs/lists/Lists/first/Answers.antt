use Rattle.std.proofs.Common.{◌≡◌, ◌<◌, ℕ, [], length, get_or, ap, subst}
use Rattle.std.specs.Prelude.{IfSome, IfNone}
use Rattle.std.specs.Option.{option_copied}
use Rattle.rn_incr.proofs.ListedLemmas.{first_is_least_of, dead_unless}
use Rattle.rn_incr.proofs.lists.Lists.first.Goals as goal

pub returns-clause-least : goal.returns-clause-least
returns-clause-least c system are =
    let l = c.args.self.now in
    let same : c.self.inside.kept ≡ l.lists = ap (λ x. x.lists) c.self.view_is in
    first_is_least_of system l.marking l.depth l.lists are (option_copied c.first.result)
    (subst (λ lists. IfSome (option_copied c.first.result) (λ b. (i : ℕ)
    × ((n : ℕ) → n < i → get_or lists n [] ≡ []) × (0 < length (get_or lists i []))
    × (b ≡ get_or (get_or lists i []) 0 b))) same c.first.ensures.some)

pub returns-clause-none : goal.returns-clause-none
returns-clause-none c system are =
    let l = c.args.self.now in
    let same : c.self.inside.kept ≡ l.lists = ap (λ x. x.lists) c.self.view_is in
    dead_unless system l.marking l.depth l.lists are (option_copied c.first.result)
    (subst (λ lists. IfSome (option_copied c.first.result) (λ b. (i : ℕ)
    × ((n : ℕ) → n < i → get_or lists n [] ≡ []) × (0 < length (get_or lists i []))
    × (b ≡ get_or (get_or lists i []) 0 b))) same c.first.ensures.some)
    (subst (λ lists. IfNone (option_copied c.first.result) ((n : ℕ) → get_or lists n [] ≡ []))
    same c.first.ensures.none)
