-- The lines of a binding, by the names after it.
use Rattle.std.proofs.Common.{◌≡◌, ◌≤◌, ◌<◌, ◌+◌, ℕ, List, length, take, map, sym, ap, ◌∙◌, subst, arith}
use Rattle.std.specs.Prelude.{All, flat_map}
use Rattle.std.proofs.lemmas.List.{length-take}
use Rattle.rn_model.specs.declared.system.System.{System}
use Rattle.rn_model.specs.declared.binding.Node.{Node}
use Rattle.rn_model.specs.declared.binding.Binding.{Binding}
use Rattle.rn_model.specs.Firing.{creations_of, made_by, numbered_inst, renamed_node}
use Rattle.rn_model.specs.NodeText.{IsWritable, node_lines}
use Rattle.rn_record.specs.RecordText.{names_after, numbered_nodes, binding_text}
use Rattle.rn_record.specs.Writable.{HasLines}

-- the nodes, numbered from this number on
abbrev pub numbered_from : System → List Node → ℕ → List Node
numbered_from system nodes next =
    map (renamed_node (numbered_inst (flat_map (made_by system) nodes) next)) nodes

module _ (system : System) (names : List (List ℕ)) (before : ℕ) (b : Binding) (within : before ≤ length names) where
  -- so many names come before
  pub count : length (take before names) ≡ before
  count = omega (arith, within, length-take before names)

  -- the numbers of the instances that it makes stay below 2^32
  pub room : HasLines system (take before names) b → before + 1 + length (creations_of system b) < 4294967296
  room fits = omega (arith, count, fits.low)

  -- its nodes, numbered from the next number on
  pub same : (nodes : List Node) (next : ℕ) → nodes ≡ b.nodes → next ≡ before + 1 →
      numbered_from system nodes next ≡ numbered_nodes system (take before names) b
  same nodes next nodes_are next_is =
      let next_is = next_is ∙ ap (λ n. n + 1) (sym count) in
      λ i. numbered_from system (nodes_are i) (next_is i)

  -- each of them can be written
  pub writable : (nodes : List Node) (next : ℕ) → nodes ≡ b.nodes → next ≡ before + 1 →
      names ≡ names_after system (take before names) b → HasLines system (take before names) b →
      All (IsWritable system names) (numbered_from system nodes next)
  writable nodes next nodes_are next_is named fits =
      subst (λ ns. All (IsWritable system ns) (numbered_from system nodes next)) (sym named)
      (subst (All (IsWritable system (names_after system (take before names) b))) (sym (same nodes next nodes_are next_is)) fits.nodes)

  -- and their lines are the binding's
  pub lines : (lead : List ℕ) (nodes : List Node) (next : ℕ) → nodes ≡ b.nodes → next ≡ before + 1 →
      names ≡ names_after system (take before names) b →
      node_lines system names lead (numbered_from system nodes next) ≡ binding_text system (take before names) lead b
  lines lead nodes next nodes_are next_is named =
      let nodes_same = same nodes next nodes_are next_is in
      λ i. node_lines system (named i) lead (nodes_same i)
