-- Tables that keep just what is live.
use Rattle.std.proofs.Common.{◌≡◌, ℕ, Bool, true, false, List, refl, sym, ap, ◌∙◌, subst}
use Rattle.std.specs.Prelude.{◌↔◌, Contains, filter, nat_eq, not}
use Rattle.std.specs.List.{list_any}
use Rattle.std.proofs.lemmas.Bool.{eq-eqb, not-true}
use Rattle.std.proofs.lemmas.List.Elements.{All-contains, All-contains_itself, All-filter, filter_passes}
use Rattle.rn_model.specs.declared.system.System.{System}
use Rattle.rn_model.specs.Liveness.{IsLive, Stands}
use Rattle.rn_model.specs.LivenessLaws.{without_instances}
use Rattle.rn_model.specs.Markings.{Instance, IsThere, Marking}
use Rattle.rn_model.proofs.AfterFiring.{found_number, some_found}
use Rattle.rn_model.proofs.LiveByRounds.{DecidesLive, contained_any, live_decided}
use Rattle.rn_model.proofs.MarkingsOfRuns.{found_is_there}
use Rattle.rn_model.proofs.StandingTables.{tables_have_the_same_live}
use Rattle.rn_table.specs.Tables.{Kept}
use Rattle.rn_fire.specs.States.{State, end_marking}
use Rattle.rn_worker.specs.Ends.{KeepsJustLive}

live_by : (system : System) (m : Marking) (n : ℕ) (test : ℕ → Bool) → DecidesLive system m test →
    ¬ (¬ IsLive system m n) → (b : Bool) → test n ≡ b → IsLive system m n
live_by system m n test decides some true e = decides.sound n e
live_by system m n test decides some false e =
    absurd (some (λ live.
    let passes = decides.whole n live in
    let never : ⊥ = cc in never))

-- an instance is live, or it isn't
live_or_not : (system : System) (m : Marking) (n : ℕ) → ¬ (¬ IsLive system m n) → IsLive system m n
live_or_not system m n some =
    let test = live_decided system m in live_by system m n test.0 test.1 some (test.0 n) refl

-- an instance that is left was there, and wasn't dropped
left : (drops : ℕ → Bool) (m : Marking) (n : ℕ) → IsThere (without_instances drops m) n →
    IsThere m n × (drops n ≡ false)
left drops m n there =
    let keeps : Instance → Bool = λ i. not (drops i.number) in
    let is = m.instances in
    let i = there.0 in
    let found = found_is_there (λ (j : Instance). nat_eq j.number n) (filter keeps is) i there.1 in
    let number = found_number (filter keeps is) n i there.1 in
    let was = All-contains (Contains is) (filter keeps is) i
    (All-filter keeps (Contains is) is (All-contains_itself is)) found in
    let stays = All-contains (λ j. keeps j ≡ true) (filter keeps is) i (filter_passes keeps is) found in
    (some_found is n i was number, not-true (drops n) (ap (λ k. not (drops k)) (sym number) ∙ stays))

-- A table that stands for a marking, and the numbers of its instances that aren't live.
module _ (system : System) (table m : Marking) (numbers : List ℕ) (stands : Stands system table m)
    (dead : (n : ℕ) → Contains numbers n ↔ (IsThere table n × ¬ IsLive system table n)) where
  -- none of these is live in the marking
  pub none_live : (n : ℕ) → Contains numbers n → ¬ IsLive system m n
  none_live n listed live =
      ((dead n).0 listed).1 ((tables_have_the_same_live system table m stands n).1 live)

  -- and all others are
  pub others_live : (n : ℕ) →
      IsThere (without_instances (λ n. list_any (nat_eq n) numbers) table) n → IsLive system m n
  others_live n there =
      let stayed = left (λ k. list_any (nat_eq k) numbers) table n there in
      (tables_have_the_same_live system table m stands n).0
      (live_or_not system table n (λ gone.
      let listed = contained_any (nat_eq n) numbers n ((dead n).1 (stayed.0, gone)) (eq-eqb n n refl) in
      let stays = stayed.1 in
      let never : ⊥ = cc in never))

-- A state's table without these.
module _ (s : State) (system : System) (table : Kept) (same : system ≡ s.setup.system)
    (at : table ≡ s.table) (stands : Stands s.setup.system table.marking (end_marking s))
    (numbers : List ℕ)
    (dead : (n : ℕ) → Contains numbers n
    ↔ (IsThere table.marking n × ¬ IsLive system table.marking n)) where
  own : (n : ℕ) → Contains numbers n
      ↔ (IsThere table.marking n × ¬ IsLive s.setup.system table.marking n)
  own =
      subst (λ x. (n : ℕ) → Contains numbers n
      ↔ (IsThere table.marking n × ¬ IsLive x table.marking n)) same dead

  pub may_drop : (n : ℕ) → Contains numbers n → ¬ IsLive s.setup.system (end_marking s) n
  may_drop = none_live s.setup.system table.marking (end_marking s) numbers stands own

  pub just_live : (t : State) → t ≡ record s { table = t.table } →
      t.table.marking ≡ without_instances (λ n. list_any (nat_eq n) numbers) s.table.marking →
      KeepsJustLive t
  just_live t is left n there =
      let without : Kept → Marking = λ k. without_instances (λ n. list_any (nat_eq n) numbers) k.marking in
      subst (λ x. IsLive x.setup.system (end_marking x) n) (sym is)
      (others_live s.setup.system table.marking (end_marking s) numbers stands own n
      (subst (λ m. IsThere m n) (left ∙ ap without (sym at)) there))
