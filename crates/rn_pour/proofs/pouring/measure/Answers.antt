use Rattle.std.proofs.Common.{ap, ◌∙◌}
use Rattle.rn_window.proofs.Windows.{came_of, room_stays}
use Rattle.rn_pour.proofs.pouring.measure.Goals as goal

pub returns-clause-length : goal.returns-clause-length
returns-clause-length g c =
    c.came-came.ensures ∙ ap (λ s. s.came) c.put.ensures ∙ came_of _ _ (ap (λ s. s.came) c.begin.ensures)

pub returns-clause-room : goal.returns-clause-room
returns-clause-room g c =
    ap (λ s. s.room) c.begin-2.ensures ∙ ap (λ s. s.room) c.put.ensures ∙ room_stays _ _
    ∙ ap (λ s. s.room) c.begin.ensures
