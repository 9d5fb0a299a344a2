-- How the moves of a log are written: a line for each token, as `3 + cup[2].tea 1`.
use Rattle.std.specs.Prelude.{ℕ, suc, ◌≡◌, ◌-◌, List, [], ◌∷◌, ◌++◌, map, flat_map, codes}
use Rattle.std.specs.Prelude.{slice_get, unwrap_or}
use Rattle.rn_value.specs.declared.value.InstRef.TheVariants.{Old}
use Rattle.rn_value.specs.Text.{numeral, value_text}
use Rattle.rn_model.specs.declared.system.System.{System}
use Rattle.rn_model.specs.declared.log.Entry.{Entry}
use Rattle.rn_model.specs.declared.log.Entry.TheVariants.{Fire, End}
use Rattle.rn_model.specs.NodeText.{instance_text}
use Rattle.rn_model.specs.Systems.{net_at, main_net}
use Rattle.rn_record.specs.RecordText.{place_name}
use Rattle.rn_moves.specs.declared.token.Token.{Token}
use Rattle.rn_moves.specs.declared.token.Moves.{Moves}
use Rattle.rn_moves.specs.Moves.{AreMoves, nets_by}

-- the nets of the instances that an entry makes
abbrev pub nets_in : System → Entry → List ℕ
nets_in system (Fire worker b outs) = nets_by system b
nets_in system (End reason) = []

-- the nets of all instances of a log, in the order of their numbers, from 1
abbrev pub nets_of : System → List Entry → List ℕ
nets_of system entries = main_net system ∷ flat_map (nets_in system) entries

-- their names
abbrev pub names_of : System → List ℕ → List (List ℕ)
names_of system nets = map (λ net. (net_at system net).name) nets

-- the net of the instance with this number
abbrev pub net_numbered : List ℕ → ℕ → ℕ
net_numbered nets n = unwrap_or (slice_get nets (n - 1)) 0

-- the place of a token, as `cup[2].tea`
abbrev pub place_text : System → List ℕ → Token → List ℕ
place_text system nets t =
    instance_text (net_at system (net_numbered nets t.inst)).name (Old t.inst) ++ codes "."
    ++ place_name (net_at system (net_numbered nets t.inst)) t.place

-- Lines, by the nets of the instances and by the names of these.
module _ (system : System) (nets : List ℕ) (names : List (List ℕ)) where
  -- a token that the firing with this number moves, by a sign
  abbrev pub token_line : ℕ → List ℕ → Token → List ℕ
  token_line step sign t =
      numeral step ++ sign ++ place_text system nets t ++ codes " " ++ value_text t.value names
      ++ codes "\n"

  -- what the firing with this number moves: first what leaves, with `-`, and then what comes, with `+`
  abbrev pub moves_lines : ℕ → Moves → List ℕ
  moves_lines step moves =
      flat_map (token_line step (codes " - ")) moves.taken
      ++ flat_map (token_line step (codes " + ")) moves.put

  -- one after another, the first with this number
  abbrev pub all_lines : ℕ → List Moves → List ℕ
  all_lines step [] = []
  all_lines step (moves ∷ others) = moves_lines step moves ++ all_lines (suc step) others

-- The bytes list the moves of a log, from those of the start, which have the number 0.
pub record MovesText (system : System) (entries : List Entry) (bytes : List ℕ) : Type 0 where
  pub moves : List Moves
  pub are : AreMoves system entries moves
  pub text : bytes
      ≡ all_lines system (nets_of system entries) (names_of system (nets_of system entries)) 0 moves
