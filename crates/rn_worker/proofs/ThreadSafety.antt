-- Posts may cross threads, and workers may share what they work on.
use denote.Ref.{NamedLft}
use denote.RattleType.{RattleType}
use denote.Struct.Tuple.{TupleAt}
use denote.Param.Send.{IsSend, IsSync, sendable}
use Rattle.std.proofs.Common.{ℕ, List, [], ◌∷◌}
use Rattle.std.proofs.Crossing.{crosses}
use Rattle.std.proofs.MapsCrossing as maps
use Rattle.atomic_table.proofs.shared.Seat.TheSendSync as seat
use Rattle.rn_items.proofs.items.Items.TheSendSync as items
use Rattle.rn_channel.specs.contracts.uplinks.Uplinks as uplinks
use Rattle.rn_worker.specs.contracts.standby.Standby as standby
use Rattle.rn_desk.specs.contracts.desk.Desk as desk
use Rattle.rn_desk.proofs.desk.Desk.TheSendSync as desk_safe
use Rattle.rn_model.specs.contracts.log.Entry as entry
use Rattle.rn_model.specs.contracts.log.Options as options
use Rattle.rn_fire.specs.contracts.setup.Setup as setup
use Rattle.rn_fire.specs.contracts.kept.SimStateKept.TheImpl as kept
use Rattle.rn_fire.specs.contracts.state.SimState as state
use Rattle.rn_fire.proofs.ThreadSafety.{state_sends, system_sync}
use Rattle.rn_worker.specs.contracts.posts.Post as post
use Rattle.rn_worker.specs.contracts.team.Team as team

pub state_send : IsSend state.the_row
state_send = search state_sends depth 40 fits 20000

-- threads may share the uplinks of a system
pub uplinks_sync : IsSync uplinks.the_row
uplinks_sync = search (items.the_sync, maps.crosses, sendable, crosses) depth 40 fits 20000

pub post_send : IsSend post.the_row
post_send = search (seat.the_send, state_send, sendable, crosses) depth 40 fits 20000

-- and the options of a run
pub options_sync : IsSync options.the_row
options_sync = search (sendable, crosses) depth 40 fits 20000

pub desk_sync : IsSync (desk.the_row state.the_row entry.the_row setup.the_row kept.ghosts)
desk_sync = search (desk_safe.the_sync, state_send, sendable, crosses) depth 40 fits 20000

pub standby_sync : IsSync standby.the_row
standby_sync = search (sendable, crosses) depth 40 fits 20000

-- and all that the workers of a run share
pub team_sync : (κ : NamedLft) → IsSync (team.the_row κ)
team_sync κ =
    search (desk_sync, system_sync, uplinks_sync, options_sync, standby_sync, sendable, crosses) depth 40 fits 20000

-- a closure over four captures may be shared where each of these may
pub closure_sync : (name : List ℕ) (A B C D : RattleType) →
    IsSync A → IsSync B → IsSync C → IsSync D → IsSync (TupleAt name (A ∷ B ∷ C ∷ D ∷ []))
closure_sync name A B C D a b c d = search sendable depth 40 fits 20000
