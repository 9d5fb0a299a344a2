-- A search by the paths of the nodes.
use Rattle.std.proofs.Common.{◌++◌, ◌∷◌, [], rules}
use Rattle.std.specs.Ordering.{nat_cmp}
use Rattle.std.specs.Cmp.Lexicographic.{slice_cmp}
use Rattle.std.proofs.lemmas.Fn.{always_returns_same}
use Rattle.rn_model.specs.declared.binding.Node.{Node}
use Rattle.rn_agree.proofs.PathLemmas.{found_by_search, within_search}
use Rattle.rn_agree.proofs.lookup.child_index.Goals as goal

pub returns-clause-within : goal.returns-clause-within
returns-clause-within c =
    rw (c.ok.ensures.value, ← c.as_slice-nodes.ensures)
    (within_search _ _ c.binary_search_by-found.ensures.bound)

pub returns-clause-node : goal.returns-clause-node
returns-clause-node c =
    let at = c.binary_search_by-found.ensures.position
    (λ (y : Node). slice_cmp nat_cmp y.path (c.args.parent.now ++ c.args.i ∷ []))
    (always_returns_same _ _ _ (λ a r f called. search rules)) in
    rw (c.ok.ensures.value, ← c.as_slice-nodes.ensures)
    (found_by_search c.as_slice-nodes.result.now _ _
    (rw c.as_slice-nodes.ensures c.requires.ascending) c.binary_search_by-found.ensures.bound at)
