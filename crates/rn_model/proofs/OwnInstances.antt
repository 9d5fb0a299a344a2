-- Whether a binding is enabled depends on the instances alone that its nodes stand on.
use Rattle.std.proofs.Common.{◌≡◌, ℕ, ◌+◌, ◌-◌, ◌≤◌, ◌⊎◌, suc, true, false, List, [], ◌∷◌, map, length, refl, sym, ap, ◌∙◌, subst, inl, inr, arith}
use Rattle.std.specs.Prelude.{Some, option_map, option_and_then, unwrap_or, slice_get, All, Contains, flat_map}
use Rattle.std.specs.List.{AllByRecursion}
use Rattle.std.specs.Ordering.{is_eq}
use Rattle.std.specs.Cmp.{Equal-is}
use Rattle.std.proofs.lemmas.List.Elements.{All-contains, All-from_recursion, recursion_from_All, All-contains_itself}
use Rattle.rn_value.specs.Order.{inst_cmp}
use Rattle.rn_value.specs.declared.value.InstRef.{InstRef}
use Rattle.rn_value.specs.declared.value.InstRef.TheVariants.{Old, New}
use Rattle.rn_value.specs.declared.value.Value.{Value}
use Rattle.rn_model.specs.declared.system.System.{System}
use Rattle.rn_model.specs.declared.system.ArcKind.{ArcKind}
use Rattle.rn_model.specs.declared.binding.Node.{Node}
use Rattle.rn_model.specs.declared.binding.Binding.{Binding}
use Rattle.rn_model.specs.Lists.{ordered_values, IsWithin}
use Rattle.rn_model.specs.Markings.{Marking, instance_at, net_of, tokens}
use Rattle.rn_model.specs.Bindings.{env_of}
use Rattle.rn_model.specs.Demands.{takes, tests, inhibits, clears, asked_by_node, taken_at, cleared_at, rest_at, filled_at}
use Rattle.rn_model.specs.Enabling.{PlaceFits, HasRoom}
use Rattle.rn_model.specs.Laws.{LooksAtItsOwn}
use Rattle.rn_model.proofs.EachElement.{each_weaker}
use Rattle.rn_model.proofs.EnablingLemmas.{idle}
use Rattle.rn_value.specs.link.OrderLaws.{insts_apart}

module _ (inst : InstRef) where
  abbrev StandsElsewhere : Node → Type 0
  StandsElsewhere node = is_eq (inst_cmp node.inst inst) ≡ false

  abbrev StandsHere : List Node → Type 0
  StandsHere nodes = (node : Node) × Contains nodes node × (node.inst ≡ inst)

  later : (x : Node) (nodes : List Node) → StandsHere nodes → StandsHere (x ∷ nodes)
  later x nodes (node, there, is) = (node, (suc there.0, omega (arith, there.1), there.2), is)

  -- a node stands on the instance, or each stands elsewhere
  here_or_not : (nodes : List Node) → StandsHere nodes ⊎ AllByRecursion StandsElsewhere nodes
  here_or_not [] = inr tt
  here_or_not (x ∷ nodes) = elim (is_eq (inst_cmp x.inst inst)) as (λ same. is_eq (inst_cmp x.inst inst) ≡ same → StandsHere (x ∷ nodes) ⊎ AllByRecursion StandsElsewhere (x ∷ nodes)) [
    | true ↦ λ e. inl (x, (0, omega arith, refl), insts_apart x.inst inst ((Equal-is (inst_cmp x.inst inst)).0 e))
    | false ↦ λ e. elim (here_or_not nodes) as (λ _. StandsHere (x ∷ nodes) ⊎ AllByRecursion StandsElsewhere (x ∷ nodes)) [ inl here ↦ inl (later x nodes here) | inr none ↦ inr (e, none) ]
  ] refl

  -- of an instance on which no node stands nothing is asked
  asks_nothing : {A : Type 0} (pick : ArcKind → Value → List A) (system : System) (place : ℕ) (nodes : List Node) → AllByRecursion StandsElsewhere nodes →
      flat_map (asked_by_node pick system inst place) (map (λ node. record { node = node; env = env_of system node }) nodes) ≡ []
  asks_nothing pick system place [] none = refl
  asks_nothing pick system place (x ∷ nodes) none = rw (none.0, asks_nothing pick system place nodes none.1) refl

abbrev SameInstances : Binding → Marking → Marking → Type 0
SameInstances b m table = (node : Node) (n : ℕ) → Contains b.nodes node → node.inst ≡ Old n → instance_at table n ≡ instance_at m n

same_tokens : (m table : Marking) (inst : InstRef) (place : ℕ) → ((n : ℕ) → inst ≡ Old n → instance_at table n ≡ instance_at m n) → tokens m inst place ≡ tokens table inst place
same_tokens m table (Old n) place same = ap (λ i. unwrap_or (option_and_then (λ i. slice_get i.places place) i) []) (sym (same n refl))
same_tokens m table (New path j) place same = refl

with_tokens : (system : System) (m table : Marking) (b : Binding) (inst : InstRef) (place : ℕ) → tokens m inst place ≡ tokens table inst place → PlaceFits system m b inst place → PlaceFits system table b inst place
with_tokens system m table b inst place same f = record {
  enough = subst (IsWithin (taken_at system b inst place)) same f.enough;
  left = λ v h. subst (λ vs. Contains (rest_at system b inst place vs) v) same (f.left v h);
  absent = λ v h there. f.absent v h (subst (λ vs. Contains vs v) (sym same) there);
  whole = subst (λ vs. (cleared_at system b inst place ≡ []) ⊎ ((cleared_at system b inst place ≡ vs ∷ []) × (taken_at system b inst place ≡ []))) same f.whole;
}

place_fits : (system : System) (m table : Marking) (b : Binding) (inst : InstRef) (place : ℕ) → SameInstances b m table → PlaceFits system m b inst place → StandsHere inst b.nodes ⊎ AllByRecursion (StandsElsewhere inst) b.nodes → PlaceFits system table b inst place
place_fits system m table b inst place same f (inl (node, there, is)) = with_tokens system m table b inst place (same_tokens m table inst place (λ n e. same node n there (is ∙ e))) f
place_fits system m table b inst place same f (inr none) =
    idle system table b inst place (ap ordered_values (asks_nothing inst takes system place b.nodes none)) (ap ordered_values (asks_nothing inst tests system place b.nodes none))
    (ap ordered_values (asks_nothing inst inhibits system place b.nodes none)) (asks_nothing inst clears system place b.nodes none)

abbrev IsThereWithItsNet : Marking → Node → Type 0
IsThereWithItsNet m node = (n : ℕ) → node.inst ≡ Old n → net_of m n ≡ Some node.net

all_there : (system : System) (m table : Marking) (b : Binding) → SameInstances b m table → All (IsThereWithItsNet m) b.nodes → All (IsThereWithItsNet table) b.nodes
all_there system m table b same there =
    All-from_recursion (IsThereWithItsNet table) b.nodes
    (each_weaker (λ node. Contains b.nodes node) (IsThereWithItsNet table) (λ node contained n is. ap (option_map (λ i. i.net)) (same node n contained is) ∙ All-contains (IsThereWithItsNet m) b.nodes node there contained n is)
    b.nodes (recursion_from_All (Contains b.nodes) b.nodes (All-contains_itself b.nodes)))

-- the tokens after the firing, by those before it
abbrev HoldsAfter : System → Binding → ℕ → ℕ → ℕ → List Value → Type 0
HoldsAfter system b n place most vs =
    (length vs - (length (taken_at system b (Old n) place)
    + length (flat_map (λ vs. vs) (cleared_at system b (Old n) place))))
    + filled_at system b (Old n) place ≤ most

node_room : (system : System) (m table : Marking) (b : Binding) → SameInstances b m table →
    All (HasRoom system m b) b.nodes → (node : Node) → Contains b.nodes node →
    HasRoom system table b node
node_room system m table b same room node contained n place most is has =
    let instance = λ (k : ℕ) (e : Old n ≡ Old k). same node k contained (is ∙ e) in
    subst (HoldsAfter system b n place most) (same_tokens m table (Old n) place instance)
    (All-contains (HasRoom system m b) b.nodes node room contained n place most is has)

all_room : (system : System) (m table : Marking) (b : Binding) → SameInstances b m table →
    All (HasRoom system m b) b.nodes → All (HasRoom system table b) b.nodes
all_room system m table b same room =
    All-from_recursion (HasRoom system table b) b.nodes
    (each_weaker (Contains b.nodes) (HasRoom system table b)
    (node_room system m table b same room) b.nodes
    (recursion_from_All (Contains b.nodes) b.nodes (All-contains_itself b.nodes)))

-- a binding stays enabled where the instances on which its nodes stand stay the same
pub looks_at_its_own : LooksAtItsOwn
looks_at_its_own system m table b depth same e = record {
  shape = e.shape;
  agrees = e.agrees;
  derived = e.derived;
  fits = record {
    there = all_there system m table b same e.fits.there;
    places = λ inst place. place_fits system m table b inst place same (e.fits.places inst place) (here_or_not inst b.nodes);
    room = all_room system m table b same e.fits.room;
    made = e.fits.made;
  };
}
