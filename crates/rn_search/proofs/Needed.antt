-- Where an enabled binding starts, the arcs that find tokens find some, and those that put tokens
-- find room.
use Rattle.std.proofs.Common.{◌≡◌, ◌<◌, ◌≤◌, ◌+◌, ℕ, [], true, length, sym, ap, ◌∙◌, subst, arith}
use Rattle.std.specs.Prelude.{Some, option_map, slice_get, unwrap_or}
use Rattle.std.proofs.lemmas.Option.{slice_get-get_or}
use Rattle.rn_value.specs.declared.value.InstRef.TheVariants.{Old}
use Rattle.rn_model.specs.declared.system.System.{System}
use Rattle.rn_model.specs.declared.system.NetArc.{NetArc}
use Rattle.rn_model.specs.Markings.{Marking, tokens}
use Rattle.rn_model.specs.RoomLaws.{takers_at, putters_at, is_plain_at}
use Rattle.rn_model.specs.Systems.{capacity, transition_of}
use Rattle.rn_model.proofs.RoomOfStarts as rooms
use Rattle.rn_growing.specs.declared.decision.Head.{Head}
use Rattle.rn_growing.specs.Decisions.{transition_in}
use Rattle.rn_search.specs.Sought.{Sought, Leads}
use Rattle.rn_search.specs.Points.{tokens_of}
use Rattle.rn_search.specs.Needing.{StartsFindTokens, StartsFindRoom}
use Rattle.rn_search.proofs.Offered.{tokens_are_offered}

-- where an enabled binding starts, each arc of its start that finds a token has one
pub starts_find_tokens : StartsFindTokens
starts_find_tokens system m b depth start x enabled starts (k, within, is) finds =
    let sought : Sought =
    record { system = system; marking = m; depth = depth; start = start } in
    let leads : Leads sought [] b =
    record { enabled = enabled; starts = starts; follows = ([], tt) } in
    let arcs = (transition_in system start).arcs in
    let at : slice_get arcs k ≡ Some x = slice_get-get_or arcs k x within ∙ ap Some is in
    let found = tokens_are_offered sought [] b 0 k x leads at finds in
    let some : found.0 < length (tokens_of sought start k) = found.1 in
    let here : tokens_of sought start k ≡ tokens m start.inst x.place =
    ap (λ o. unwrap_or (option_map (λ (y : NetArc). tokens m start.inst y.place) o) []) at in
    omega (arith, ap length here)

-- that a place of a start has room
abbrev HasRoomAt : System → Marking → ℕ → ℕ → ℕ → Head → Type 0
HasRoomAt system m n place most start =
    start.inst ≡ Old n → (transition_in system start).downlinks ≡ [] →
    is_plain_at (transition_in system start) place ≡ true →
    capacity system start.net place ≡ Some most →
    length (tokens m start.inst place) + putters_at (transition_in system start) place
    ≤ most + takers_at (transition_in system start) place

-- where the start of an enabled binding calls nothing, its plain arcs have room for what they put
pub starts_find_room : StartsFindRoom
starts_find_room system m b depth start n place most enabled (node, at, is) =
    subst (HasRoomAt system m n place most) is (λ inst none plain has.
    let puts = putters_at (transition_of system node) place in
    let takes = takers_at (transition_of system node) place in
    subst (λ i. length (tokens m i place) + puts ≤ most + takes) (sym inst)
    (rooms.starts_find_room system m b depth n place most node enabled at inst none plain has))
