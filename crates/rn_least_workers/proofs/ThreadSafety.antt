-- Posts may cross threads, and workers may share what they work on.
use denote.Ref.{NamedLft}
use denote.RattleType.{RattleType}
use denote.Struct.Tuple.{TupleAt}
use denote.Param.Send.{IsSend, IsSync, sendable}
use Rattle.std.proofs.Common.{ℕ, List, [], ◌∷◌}
use Rattle.std.proofs.Crossing.{crosses}
use Rattle.atomic_table.proofs.shared.Seat.TheSendSync as seat
use Rattle.rn_desk.specs.contracts.desk.Desk as desk
use Rattle.rn_desk.proofs.desk.Desk.TheSendSync as desk_safe
use Rattle.rn_model.specs.contracts.log.Entry as entry
use Rattle.rn_fire.specs.contracts.setup.Setup as setup
use Rattle.rn_fire.proofs.ThreadSafety.{system_sync}
use Rattle.rn_least_state.specs.contracts.kept.LeastStateKept.TheImpl as kept
use Rattle.rn_least_state.specs.contracts.state.LeastState as state
use Rattle.rn_least_state.proofs.ThreadSafety.{least_sends}
use Rattle.rn_worker.proofs.ThreadSafety.{options_sync, uplinks_sync}
use Rattle.rn_least_workers.specs.contracts.posts.LeastPost as post
use Rattle.rn_least_workers.specs.contracts.team.LeastTeam as team

pub state_send : IsSend state.the_row
state_send = search least_sends depth 40 fits 20000

pub post_send : IsSend post.the_row
post_send = search (seat.the_send, state_send, sendable, crosses) depth 40 fits 20000

pub desk_sync : IsSync (desk.the_row state.the_row entry.the_row setup.the_row kept.ghosts)
desk_sync = search (desk_safe.the_sync, state_send, sendable, crosses) depth 40 fits 20000

-- and all that the workers share
pub team_sync : (κ : NamedLft) → IsSync (team.the_row κ)
team_sync κ =
    search (desk_sync, system_sync, uplinks_sync, options_sync, sendable, crosses) depth 40 fits 20000

-- a closure over four captures may be shared where each of these may
pub closure_sync : (name : List ℕ) (A B C D : RattleType) →
    IsSync A → IsSync B → IsSync C → IsSync D → IsSync (TupleAt name (A ∷ B ∷ C ∷ D ∷ []))
closure_sync name A B C D a b c d = search sendable depth 40 fits 20000
