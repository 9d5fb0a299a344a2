-- The items of a binding as the code goes through them. It only connects the code to the
-- definitions.
use Rattle.std.specs.Prelude.{ℕ, ◌<◌, List, [], ◌∷◌, if◌then◌else◌, Option, Some, None}
use Rattle.std.specs.Prelude.{All, Contains, ◌↔◌, flat_map, length, slice_get}
use Rattle.rn_model.specs.declared.system.NetArc.{NetArc}
use Rattle.rn_model.specs.declared.binding.Node.{Node}
use Rattle.rn_model.specs.Derivation.{Item, entry, found, computed}
use Rattle.rn_model.specs.Derivation.{finds_values}
use Rattle.rn_growing.specs.Decisions.{site_of}
use Rattle.rn_binding.specs.declared.applications.Application.{Application}
use Rattle.rn_binding.specs.declared.part.Part.{Part}
use Rattle.rn_binding.specs.declared.part.Part.TheVariants.{Entry, Found, Computed}

-- an operator application of a node
abbrev pub computed_by : Node → Application → Item
computed_by node a = computed node (site_of a.site) (record { way = a.way; form = a.form.now })

-- the item that a part is
abbrev pub item_of : Part → Item
item_of (Entry node) = entry node.now
item_of (Found node k x) = found node.now k x.now
item_of (Computed node application) = computed_by node.now application

-- the item at an index
abbrev pub item_at : Option Part → List Item
item_at None = []
item_at (Some part) = item_of part ∷ []

-- the items at these indices
abbrev pub picked : List Part → List ℕ → List Item
picked parts ks = flat_map (λ k. item_at (slice_get parts k)) ks

-- each index is one of these parts
abbrev pub AllWithin : List Part → List ℕ → Type 0
AllWithin parts ks = All (λ k. k < length parts) ks

-- two lists contain the same items
abbrev pub HaveTheSame : List Item → List Item → Type 0
HaveTheSame xs ys = (item : Item) → Contains xs item ↔ Contains ys item

-- what an arc finds, if it finds values
abbrev pub found_at : Node → ℕ × NetArc → List Item
found_at node e = if finds_values e.1.kind then found node e.0 e.1 ∷ [] else []
