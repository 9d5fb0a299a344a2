-- Markings whose tokens fit.
use Rattle.std.proofs.Common.{◌≡◌, ℕ, [], subst, sym, ◌∙◌}
use Rattle.std.specs.Prelude.{Some, Contains, nat_eq, option_map, option_and_then}
use Rattle.std.specs.Prelude.{slice_get, unwrap_or}
use Rattle.std.proofs.lemmas.List.Elements.{All-contains}
use Rattle.rn_model.specs.declared.system.System.{System}
use Rattle.rn_model.specs.Liveness.{Stands}
use Rattle.rn_model.specs.Markings.{Marking, Instance, instance_at, net_of}
use Rattle.rn_model.specs.SoundTokens.{HasSoundTokens}
use Rattle.rn_model.proofs.AfterFiring.{found_number}
use Rattle.rn_model.proofs.InitialTokens.{initial_tokens_are_sound}
use Rattle.rn_model.proofs.MarkingsOfRuns.{found_is_there}
use Rattle.rn_search.specs.Problems.{HasFitTokens}
use Rattle.rn_search.proofs.Alternatives.{from_map}
use Rattle.rn_finder.specs.Premises.{InitialTokensFit, StandingTokensFit}

-- sound tokens fit
sound_fit : (system : System) (m : Marking) → HasSoundTokens system m → HasFitTokens system m
sound_fit system m sound n net place v is there =
    let token = sound n net place v is there in (token.kind, token.old)

-- the initial tokens of a good system fit
pub initial_tokens_fit : InitialTokensFit
initial_tokens_fit system good =
    sound_fit system _ (initial_tokens_are_sound system good)

-- an instance of the table is that of the marking
same_instance : (system : System) (table m : Marking) (n net : ℕ) → Stands system table m →
    net_of table n ≡ Some net → instance_at table n ≡ instance_at m n
same_instance system table m n net stands is =
    let found = from_map (λ (i : Instance). i.net) (instance_at table n) net is in
    let i = found.0 in
    let there = found_is_there (λ (j : Instance). nat_eq j.number n) table.instances i found.1 in
    let kept = All-contains (λ (j : Instance). instance_at m j.number ≡ Some j) table.instances i
    stands.kept there in
    let number = found_number table.instances n i found.1 in
    found.1 ∙ sym (subst (λ k. instance_at m k ≡ Some i) number kept)

-- the tokens of a table fit that stands for a marking whose tokens are sound
pub standing_tokens_fit : StandingTokensFit
standing_tokens_fit system table m sound stands n net place v is there =
    let same = same_instance system table m n net stands is in
    sound_fit system m sound n net place v
    (subst (λ o. option_map (λ (i : Instance). i.net) o ≡ Some net) same is)
    (subst (λ o. Contains (unwrap_or (option_and_then
    (λ (i : Instance). slice_get i.places place) o) []) v) same there)
