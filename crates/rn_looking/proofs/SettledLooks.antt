-- Decisions that a look sees settled.
use Rattle.std.proofs.Common.{◌≡◌, ℕ, ◌≤◌, List, length, subst}
use Rattle.rn_growing.specs.declared.decision.Decision.{Decision}
use Rattle.rn_search.specs.Sought.{Sought}
use Rattle.rn_looking.specs.Looks.{Looked}
use Rattle.rn_looking.specs.Settling.{AreSettled}
use Rattle.rn_looking.specs.Things.{IsOfEntries}
use Rattle.rn_looking.specs.declared.look.Look.{Look}
use Rattle.rn_looking.specs.declared.look.Look.TheVariants.{Done}

-- decisions are settled of which a look says that all is decided
pub settled_by_look : (sought : Sought) (ds : List Decision) (n : ℕ) (look : Look) →
    n ≤ length ds → look ≡ Done → Looked sought ds (IsOfEntries ds n) look →
    AreSettled sought.system ds n
settled_by_look sought ds n look within is looked = record {
  within = within;
  decided = subst (Looked sought ds (IsOfEntries ds n)) is looked;
}
