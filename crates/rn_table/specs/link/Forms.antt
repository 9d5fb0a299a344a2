-- The forms in which an instance holds its places. They only connect the code to the marking.
use Rattle.std.specs.Prelude.{⊤, List, map}
use Rattle.rn_value.specs.declared.value.Value.{Value}
use Rattle.rn_table.specs.link.Chunks.{AreChunks, joined}
use Rattle.rn_table.specs.declared.places.Form.{Form}
use Rattle.rn_table.specs.declared.places.Form.TheVariants.{Few, Many}

-- the tokens of the places
abbrev pub places_in : Form → List (List Value)
places_in (Few chunk) = chunk
places_in (Many chunks) = joined (map (λ c. c.value) chunks.items)

-- many places stand in chunks
abbrev pub IsChunked : Form → Type 0
IsChunked (Few chunk) = ⊤
IsChunked (Many chunks) = AreChunks (map (λ c. c.value) chunks.items)
