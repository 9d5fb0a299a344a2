-- The notation of a system is one of two.
use Rattle.rn_net.proofs.Names.{◌≡◌, ℕ, List, inl, inr, refl, Token, Plain, SpelledInNotation, IsSystem, IsNotation}
use Rattle.rn_net.specs.Nets.{AreItems}

-- items don't change it
of_items : {notation : ℕ} {before plain : Plain} {ts : List Token} → AreItems notation before ts plain →
    before.notation ≡ notation → plain.notation ≡ notation
of_items AreItems.no_more_items same = same
of_items (AreItems.and_channel is more) same = of_items more refl
of_items (AreItems.and_net is more) same = of_items more refl

of_system : {ts : List Token} {plain : Plain} → IsSystem ts plain → IsNotation plain.notation
of_system (IsSystem.first items) = inl (of_items items refl)
of_system (IsSystem.second name number semicolon items) = inr (of_items items refl)

pub spelled_in_notation : SpelledInNotation
spelled_in_notation bytes plain spells = of_system spells.system
