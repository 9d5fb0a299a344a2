-- What a search is given, and what it may rest on.
use Rattle.std.specs.Prelude.{ℕ, ◌≡◌, false, Some, Contains, refl}
use Rattle.std.specs.Coded.{Coded, code_by, coded×, coded_ℕ}
use Rattle.rn_model.specs.declared.system.System.{System}
use Rattle.rn_model.specs.contracts.system.System as system
use Rattle.rn_model.specs.Markings.{Marking, net_of, tokens_at}
use Rattle.rn_model.specs.link.MarkingCodes.{marking_code}
use Rattle.rn_model.specs.Good.{Good}
use Rattle.rn_model.specs.SoundTokens.{holds_new}
use Rattle.rn_model.specs.Systems.{place_kind}
use Rattle.rn_value.specs.declared.value.Value.{Value}
use Rattle.rn_value.specs.Kinds.{HasKind}
use Rattle.rn_channel.specs.declared.uplinks.Uplinks.{Uplinks}
use Rattle.rn_channel.specs.link.Uplinks.{AreUplinksOf}
use Rattle.rn_growing.specs.declared.decision.Head.{Head}
use Rattle.rn_growing.specs.contracts.decision.Head as head
use Rattle.rn_search.specs.Missing.{MayStart}
use Rattle.rn_search.specs.Sought.{Sought}

-- each token of each instance has its place's kind, and holds no new instance
abbrev pub HasFitTokens : System → Marking → Type 0
HasFitTokens system m = (n net place : ℕ) (v : Value) → net_of m n ≡ Some net →
    Contains (tokens_at m n place) v → HasKind v (place_kind system net place)
    × (holds_new v ≡ false)

-- The system is good, the uplinks are its own, each token of the marking fits, and the start
-- may start a firing.
pub record IsProblem (system : System) (uplinks : Uplinks) (m : Marking) (start : Head)
    : Type 0 where
  pub good : Good system
  pub own : AreUplinksOf system uplinks
  pub tokens : HasFitTokens system m
  pub starts : MayStart system m start

-- what is looked for is coded as its parts
abbrev pub sought_code : Coded Sought
sought_code =
    code_by (System × (Marking × (ℕ × Head)))
    (coded× system.the_row.coded (coded× marking_code (coded× coded_ℕ head.the_row.coded)))
    (λ s. (s.system, (s.marking, (s.depth, s.start))))
    (λ p. record { system = p.0; marking = p.1.0; depth = p.1.1.0; start = p.1.1.1 })
    (λ _. refl)
