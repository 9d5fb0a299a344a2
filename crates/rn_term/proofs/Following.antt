-- Where links lead from an id.
use Rattle.std.proofs.Common.{◌≡◌, ◌<◌, ◌≤◌, ℕ, List, arith, length, sym, ◌∙◌, get_or}
use Rattle.std.specs.Prelude.{Bool, Option, Some, None}
use Rattle.std.proofs.lemmas.List.{get_or_read}
use Rattle.rn_term.specs.declared.term.Term.{Term}
use Rattle.rn_term.specs.Stores.{State, link_of, Leads}
use Rattle.rn_term.specs.Assignments.{Keeps}
use Rattle.rn_term.specs.link.Kept.{KeepsAll}
use Rattle.rn_term.proofs.AssignmentLemmas.{link_within}
use Rattle.rn_term.proofs.Extents.{extent, extent-bound}

-- links that lead to an id lead on to that to which it was bound
pub leads_on : (notes : List (ℕ × ℕ)) (id end to : ℕ) → Leads notes id end →
    link_of notes end ≡ Some to → Leads notes id to
leads_on notes id end to (Leads.here {id = _}) is = Leads.next is Leads.here
leads_on notes id end to (Leads.next {to = after} first more) is =
    Leads.next first (leads_on notes after end to more is)

-- links lead to ids of the store
pub leads_within : (s : State) → Keeps s → (id end : ℕ) → id < length s.terms →
    Leads s.notes id end → end < length s.terms
leads_within s keeps id end within (Leads.here {id = _}) = within
leads_within s keeps id end within (Leads.next {to = after} first more) =
    leads_within s keeps after end (link_within s keeps id after first).1 more

-- they lead to an id that extends no further
pub extent-leads : (s : State) → Keeps s → (id end : ℕ) → id < length s.terms →
    Leads s.notes id end → extent s end ≤ extent s id
extent-leads s keeps id end within (Leads.here {id = _}) = omega arith
extent-leads s keeps id end within (Leads.next {to = after} first more) =
    omega (
      arith,
      extent-bound s keeps id after within first,
      extent-leads s keeps after end (link_within s keeps id after first).1 more,
    )

-- a link that is kept is one of the notes
pub kept_link : (terms : List Term) (links lists : List (Option ℕ)) (floors : List ℕ)
    (flags : List Bool) (levels : List ℕ) (notes : List (ℕ × ℕ))
    (id to : ℕ) (link : Option ℕ) → KeepsAll terms links lists floors flags levels notes →
    id < length terms →
    link ≡ get_or links id link → link ≡ Some to → link_of notes id ≡ Some to
kept_link terms links lists floors flags levels notes id to link kept within read is =
    sym (kept.linked id) ∙ sym (get_or_read links id link (rw kept.each within) read None) ∙ is
