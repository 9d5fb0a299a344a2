-- Where a creation stands among those of nodes.
use Rattle.std.proofs.Common.{◌≡◌, ℕ, ◌+◌, ◌<◌, ◌≤◌, suc, Bool, true, false, cond, List, [], ◌∷◌, ◌++◌, length, map, refl, ap, sym, ◌∙◌, arith, length-append, zero}
use Rattle.std.specs.Prelude.{Option, Some, None, ◌&&◌, nat_eq, nat_lt, flat_map}
use Rattle.std.specs.Cmp.Lexicographic.{pointwise}
use Rattle.std.specs.List.{position_from, position_or_len, enumerate_from}
use Rattle.std.specs.Option.{option_map_or}
use Rattle.std.proofs.lemmas.List.{length-map}
use Rattle.std.proofs.lemmas.List.FromFn.{length-enumerate_from}
use Rattle.std.proofs.lemmas.Bool.Decides.{nat_tests}
use Rattle.rn_value.specs.declared.value.InstRef.TheVariants.{Old, New}
use Rattle.rn_model.specs.declared.binding.Node.{Node}
use Rattle.rn_model.specs.declared.system.System.{System}
use Rattle.rn_model.specs.declared.system.Creation.{Creation}
use Rattle.rn_model.specs.Systems.{transition_of}
use Rattle.rn_model.specs.Firing.{Made, made_by, numbered_inst}
use Rattle.rn_model.proofs.CreationNumbers.{counted_from}
use Rattle.rn_spell.specs.Spelling.{number_of}

-- whether a creation is the one of this path and index
abbrev pub is_the : List ℕ → ℕ → Made → Bool
is_the path j m = pointwise nat_eq m.path path && nat_eq m.index j

-- a creation of the node of this path, by its index
abbrev pub made_at : List ℕ → ℕ × Creation → Made
made_at p c = record { path = p; index = c.0; net = c.1.net }

number_of_place : (b : Bool) (n k : ℕ) (path : List ℕ) (j : ℕ) →
    number_of (option_map_or (λ m. Old (n + m)) (cond b (Some k) None) (New path j)) ≡ cond b (Some (n + k)) None
number_of_place true n k path j = refl
number_of_place false n k path j = refl

-- the number of a creation is the place of the first that is it
pub number_of_new : (cs : List Made) (n : ℕ) (path : List ℕ) (j : ℕ) →
    number_of (numbered_inst cs n (New path j)) ≡ position_from (is_the path j) n cs
number_of_new cs n path j =
    let place : ℕ = position_or_len (is_the path j) cs in
    number_of_place (nat_lt place (length cs)) n place path j ∙ sym (counted_from (is_the path j) n cs)

-- the tests by what they say
pub less_of : {j n : ℕ} → nat_lt j n ≡ true → j < n
less_of {j} {n} h = grind (arith, nat_tests)

not_less_of : {j n : ℕ} → nat_lt j n ≡ false → n ≤ j
not_less_of {j} {n} h = grind (arith, nat_tests)

other_index : (k j : ℕ) → k < j → nat_eq k j ≡ false
other_index k j h = grind (arith, nat_tests)

same_index : (k j : ℕ) → k ≡ j → nat_eq k j ≡ true
same_index k j h = grind (arith, nat_tests)

both_false : (b : Bool) (k j : ℕ) → (b ≡ true → k < j) → b && nat_eq k j ≡ false
both_false true k j h = other_index k j (h refl)
both_false false k j h = refl

-- the creations of a node of another path, or of fewer creations, are passed over
pub passed : (path p : List ℕ) (j k n : ℕ) (cs : List Creation) (rest : List Made) →
    (pointwise nat_eq p path ≡ true → k + length cs ≤ j) →
    position_from (is_the path j) n (map (made_at p) (enumerate_from k cs) ++ rest)
    ≡ position_from (is_the path j) (n + length cs) rest
passed path p j k n [] rest h =
    let same : n ≡ n + 0 = omega arith in
    ap (λ m. position_from (is_the path j) m rest) same
passed path p j k n (c ∷ cs) rest h =
    let others : List Made = map (made_at p) (enumerate_from (k + 1) cs) ++ rest in
    let count : n + 1 + length cs ≡ n + suc (length cs) = omega arith in
    ap (λ b. cond b (Some n) (position_from (is_the path j) (n + 1) others)) (both_false (pointwise nat_eq p path) k j (λ same. first (h same)))
    ∙ passed path p j (k + 1) (n + 1) cs rest (λ same. next (h same))
    ∙ ap (λ m. position_from (is_the path j) m rest) count
  where
    first : k + suc (length cs) ≤ j → k < j
    first h = omega arith

    next : k + suc (length cs) ≤ j → k + 1 + length cs ≤ j
    next h = omega arith

-- the creation at an index of a node is there
pub found : (path p : List ℕ) (j k m n : ℕ) (cs : List Creation) (rest : List Made) →
    pointwise nat_eq p path ≡ true → k + m ≡ j → m < length cs →
    position_from (is_the path j) n (map (made_at p) (enumerate_from k cs) ++ rest) ≡ Some (n + m)
found path p j k m n [] rest same at below = absurd (omega arith)
found path p j k zero n (c ∷ cs) rest same at below =
    let others : List Made = map (made_at p) (enumerate_from (k + 1) cs) ++ rest in
    let index : k ≡ j = omega arith in
    let number : n ≡ n + 0 = omega arith in
    ap (λ b. cond (b && nat_eq k j) (Some n) (position_from (is_the path j) (n + 1) others)) same
    ∙ ap (λ b. cond b (Some n) (position_from (is_the path j) (n + 1) others)) (same_index k j index)
    ∙ ap (λ m. Some m) number
found path p j k (suc m) n (c ∷ cs) rest same at below =
    let others : List Made = map (made_at p) (enumerate_from (k + 1) cs) ++ rest in
    let smaller : k < j = omega arith in
    let index : k + 1 + m ≡ j = omega arith in
    let inside : m < length cs = omega arith in
    let number : n + 1 + m ≡ n + suc m = omega arith in
    ap (λ b. cond b (Some n) (position_from (is_the path j) (n + 1) others)) (both_false (pointwise nat_eq p path) k j (λ _. smaller))
    ∙ found path p j (k + 1) m (n + 1) cs rest same index inside ∙ ap (λ m. Some m) number

-- the first creation of a path and index is one of a node, or is behind those of that node
at_creations : (path p : List ℕ) (j n : ℕ) (cs : List Creation) (rest : List Made) →
    position_from (is_the path j) n (map (made_at p) (enumerate_from 0 cs) ++ rest)
    ≡ cond (pointwise nat_eq p path && nat_lt j (length cs)) (Some (n + j)) (position_from (is_the path j) (n + length cs) rest)
at_creations path p j n cs rest = by (pointwise nat_eq p path) (nat_lt j (length cs)) refl refl
  where
    by : (b d : Bool) → pointwise nat_eq p path ≡ b → nat_lt j (length cs) ≡ d →
        position_from (is_the path j) n (map (made_at p) (enumerate_from 0 cs) ++ rest)
        ≡ cond (b && d) (Some (n + j)) (position_from (is_the path j) (n + length cs) rest)
    by true true same below =
        let index : 0 + j ≡ j = omega arith in
        found path p j 0 j n cs rest same index (less_of below)
    by true false same beyond =
        let all : length cs ≤ j = not_less_of beyond in
        let past : 0 + length cs ≤ j = omega arith in
        passed path p j 0 n cs rest (λ _. past)
    by false d other _ = passed path p j 0 n cs rest (λ same. let never : ⊥ = cc in absurd never)

-- as many are made as the transition has creations
pub made_by_length : (system : System) (node : Node) → length (made_by system node) ≡ length (transition_of system node).creations
made_by_length system node = length-map (enumerate_from 0 (transition_of system node).creations) (made_at node.path) ∙ length-enumerate_from 0 (transition_of system node).creations

pub at_node : (system : System) (node : Node) (path : List ℕ) (j n : ℕ) (rest : List Made) →
    position_from (is_the path j) n (made_by system node ++ rest)
    ≡ cond (pointwise nat_eq node.path path && nat_lt j (length (made_by system node))) (Some (n + j)) (position_from (is_the path j) (n + length (made_by system node)) rest)
at_node system node path j n rest =
    at_creations path node.path j n (transition_of system node).creations rest
    ∙ ap (λ count. cond (pointwise nat_eq node.path path && nat_lt j count) (Some (n + j)) (position_from (is_the path j) (n + count) rest)) (sym (made_by_length system node))

-- the number of a creation of the node at hand
pub here : (system : System) (node : Node) (nodes : List Node) (path : List ℕ) (j n : ℕ) (all : Option ℕ) →
    position_from (is_the path j) n (flat_map (made_by system) (node ∷ nodes)) ≡ all →
    pointwise nat_eq node.path path && nat_lt j (length (made_by system node)) ≡ true → Some (n + j) ≡ all
here system node nodes path j n all is test =
    ap (λ b. cond b (Some (n + j)) (position_from (is_the path j) (n + length (made_by system node)) (flat_map (made_by system) nodes))) (sym test)
    ∙ sym (at_node system node path j n (flat_map (made_by system) nodes)) ∙ is

-- where the creation isn't of the node at hand, it is behind those of that node
pub behind : (system : System) (node : Node) (nodes : List Node) (path : List ℕ) (j next before : ℕ) (all : Option ℕ) →
    position_from (is_the path j) (next + before) (flat_map (made_by system) (node ∷ nodes)) ≡ all →
    pointwise nat_eq node.path path && nat_lt j (length (made_by system node)) ≡ false →
    position_from (is_the path j) (next + (before + length (made_by system node))) (flat_map (made_by system) nodes) ≡ all
behind system node nodes path j next before all is test =
    let left = flat_map (made_by system) nodes in
    let sum : next + (before + length (made_by system node)) ≡ next + before + length (made_by system node) = omega arith in
    ap (λ n. position_from (is_the path j) n left) sum
    ∙ ap (λ b. cond b (Some (next + before + j)) (position_from (is_the path j) (next + before + length (made_by system node)) left)) (sym test)
    ∙ sym (at_node system node path j (next + before) left) ∙ is

-- the creations of the node at hand are counted
pub counted_more : (system : System) (node : Node) (nodes : List Node) (before total : ℕ) →
    before + length (flat_map (made_by system) (node ∷ nodes)) ≡ total →
    before + length (made_by system node) + length (flat_map (made_by system) nodes) ≡ total
counted_more system node nodes before total is =
    omega (arith, length-append (made_by system node) (flat_map (made_by system) nodes))
