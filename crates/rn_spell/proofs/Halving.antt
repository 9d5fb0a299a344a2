-- The number of a creation, where one node at most has its path.
use Rattle.std.proofs.Common.{◌≡◌, ℕ, ◌+◌, ◌<◌, Bool, true, false, cond, List, [], ◌∷◌, ◌++◌, length, take, drop, get_or, append_assoc, append-nil, length-append, take-append-drop, ap, sym, ◌∙◌, arith}
use Rattle.std.specs.Prelude.{Option, Some, None, ◌&&◌, nat_eq, nat_lt, flat_map}
use Rattle.std.specs.Cmp.Lexicographic.{pointwise}
use Rattle.std.specs.List.{position_from}
use Rattle.std.proofs.lemmas.Grind.{flat_map-append}
use Rattle.std.proofs.lemmas.List.Elements.{All-head, All-tail}
use Rattle.rn_value.specs.declared.value.InstRef.TheVariants.{New}
use Rattle.rn_model.specs.declared.binding.Node.{Node}
use Rattle.rn_model.specs.declared.system.System.{System}
use Rattle.rn_model.specs.Firing.{Made, made_by, numbered_inst}
use Rattle.rn_spell.specs.Spelling.{number_of}
use Rattle.rn_spell.specs.link.Marks.{OtherPaths, made_count}
use Rattle.rn_spell.proofs.FirstCreation.{is_the, at_node, number_of_new, less_of}
use Rattle.rn_spell.proofs.MadeCounts.{made_joined}
use Rattle.rn_spell.proofs.Slices.{drop_item}

module _ (system : System) (path : List ℕ) (j : ℕ) where
  abbrev which : Made → Bool
  which = is_the path j

  abbrev made : List Node → List Made
  made = flat_map (made_by system)

  abbrev other : Node → Type 0
  other node = pointwise nat_eq node.path path ≡ false

  -- the creations of nodes of other paths are passed over
  pass : (xs : List Node) (n : ℕ) (rest : List Made) → OtherPaths path xs →
      position_from which n (made xs ++ rest) ≡ position_from which (n + length (made xs)) rest
  pass [] n rest others = ap (λ m. position_from which m rest) {x = n} {y = n + 0} (omega arith)
  pass (x ∷ xs) n rest others =
      let count : n + length (made_by system x) + length (made xs) ≡ n + length (made_by system x ++ made xs) = omega (arith, length-append (made_by system x) (made xs)) in
      ap (λ (ms : List Made). position_from which n ms) (append_assoc (made_by system x) (made xs) rest)
      ∙ at_node system x path j n (made xs ++ rest)
      ∙ ap (λ b. cond (b && nat_lt j (length (made_by system x))) (Some (n + j)) (position_from which (n + length (made_by system x)) (made xs ++ rest))) (All-head other x xs others)
      ∙ pass xs (n + length (made_by system x)) rest (All-tail other x xs others)
      ∙ ap (λ m. position_from which m rest) count

  -- nodes of other paths don't make it
  none : (xs : List Node) (n : ℕ) → OtherPaths path xs → position_from which n (made xs) ≡ None
  none xs n others = ap (position_from which n) (sym (append-nil (made xs))) ∙ pass xs n [] others

  pub no_number : (nodes : List Node) (next : ℕ) → OtherPaths path nodes →
      None ≡ number_of (numbered_inst (made nodes) next (New path j))
  no_number nodes next others = sym (number_of_new (made nodes) next path j ∙ none nodes next others)

  -- one node alone may have the path
  module _ (nodes : List Node) (next p : ℕ) (node : Node) (within : p < length nodes) (is : node ≡ get_or nodes p node)
      (before : OtherPaths path (take p nodes)) (behind : OtherPaths path (drop (p + 1) nodes)) where
    split : nodes ≡ take p nodes ++ node ∷ drop (p + 1) nodes
    split = sym (take-append-drop p nodes) ∙ ap (λ (ns : List Node). take p nodes ++ ns) (drop_item nodes p node node within is)

    abbrev count : ℕ
    count = made_count system (take p nodes)

    by_node : number_of (numbered_inst (made nodes) next (New path j))
        ≡ cond (pointwise nat_eq node.path path && nat_lt j (length (made_by system node))) (Some (next + count + j)) None
    by_node =
        let later : Option ℕ = position_from which (next + count + length (made_by system node)) (made (drop (p + 1) nodes)) in
        number_of_new (made nodes) next path j
        ∙ ap (λ (ns : List Node). position_from which next (made ns)) split
        ∙ ap (position_from which next) (flat_map-append (made_by system) (take p nodes) (node ∷ drop (p + 1) nodes))
        ∙ pass (take p nodes) next (made (node ∷ drop (p + 1) nodes)) before
        ∙ at_node system node path j (next + count) (made (drop (p + 1) nodes))
        ∙ ap (λ (o : Option ℕ). cond (pointwise nat_eq node.path path && nat_lt j (length (made_by system node))) (Some (next + count + j)) o)
        (none (drop (p + 1) nodes) (next + count + length (made_by system node)) behind)

    -- where that doesn't make it, none does
    pub not_there : pointwise nat_eq node.path path && nat_lt j (length (made_by system node)) ≡ false →
        None ≡ number_of (numbered_inst (made nodes) next (New path j))
    not_there e = sym (by_node ∙ ap (λ b. cond b (Some (next + count + j)) None) e)

    -- and else its number follows those of the nodes before
    pub there : pointwise nat_eq node.path path && nat_lt j (length (made_by system node)) ≡ true →
        Some (next + count + j) ≡ number_of (numbered_inst (made nodes) next (New path j))
    there e = sym (by_node ∙ ap (λ b. cond b (Some (next + count + j)) None) e)

    -- it stands among those that all nodes make
    pub room : pointwise nat_eq node.path path && nat_lt j (length (made_by system node)) ≡ true →
        count + j < made_count system nodes
    room e =
        let inside : j < length (made_by system node) = below (pointwise nat_eq node.path path) e in
        omega (arith, ap (made_count system) split, made_joined system (take p nodes) (node ∷ drop (p + 1) nodes), length-append (made_by system node) (made (drop (p + 1) nodes)), inside)
      where
        below : (b : Bool) → b && nat_lt j (length (made_by system node)) ≡ true → j < length (made_by system node)
        below true e = less_of e
        below false e = cc
