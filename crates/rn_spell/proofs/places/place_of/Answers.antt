use Rattle.std.proofs.Common.{rules}
use Rattle.std.specs.Ordering.{nat_cmp}
use Rattle.std.specs.Cmp.Lexicographic.{slice_cmp}
use Rattle.std.proofs.lemmas.Fn.{always_returns_same}
use Rattle.rn_model.specs.declared.binding.Node.{Node}
use Rattle.rn_spell.proofs.Paths.{searched_none, searched_before, searched_behind}
use Rattle.rn_spell.proofs.places.place_of.Goals as goal

pub returns-clause-none : goal.returns-clause-none
returns-clause-none c =
    let at = c.binary_search_by-found.ensures.position
    (λ (y : Node). slice_cmp nat_cmp y.path c.args.path.now)
    (always_returns_same _ _ _ (λ a r f called. search rules)) in
    rw c.ok.ensures.value
    (searched_none c.args.nodes.now c.args.path.now c.requires _ at)

pub returns-clause-before : goal.returns-clause-before
returns-clause-before c =
    let at = c.binary_search_by-found.ensures.position
    (λ (y : Node). slice_cmp nat_cmp y.path c.args.path.now)
    (always_returns_same _ _ _ (λ a r f called. search rules)) in
    rw c.ok.ensures.value
    (searched_before c.args.nodes.now c.args.path.now c.requires _ c.binary_search_by-found.ensures.bound at)

pub returns-clause-behind : goal.returns-clause-behind
returns-clause-behind c =
    let at = c.binary_search_by-found.ensures.position
    (λ (y : Node). slice_cmp nat_cmp y.path c.args.path.now)
    (always_returns_same _ _ _ (λ a r f called. search rules)) in
    rw c.ok.ensures.value
    (searched_behind c.args.nodes.now c.args.path.now c.requires _ c.binary_search_by-found.ensures.bound at)
