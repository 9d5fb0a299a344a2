-- A snapshot that comes after another.
use Rattle.std.proofs.Common.{◌≡◌, ◌≤◌, ℕ, List, [], ◌∷◌, ◌++◌, length, take, refl, sym, ap, ◌∙◌, subst, arith}
use Rattle.std.proofs.lemmas.List.{append-nil, length-append, take-append-le}
use Rattle.std.specs.Prelude.{Bool, true, false, Option, Some, None, IfSome, IsNone, Contains, MatchOption, ⊤, slice_get, unwrap_or, option_map, option_and_then}
use Rattle.rn_model.specs.declared.log.Entry.{Entry}
use Rattle.rn_model.specs.declared.system.System.{System}
use Rattle.rn_model.specs.Liveness.{IsLive, Stands, held}
use Rattle.rn_model.specs.Markings.{Marking, Instance, IsThere, instance_at, net_of, tokens_at}
use Rattle.rn_model.specs.Runs.{Firing, Run, end_of}
use Rattle.rn_model.specs.SoundTokens.{HasSoundTokens}
use Rattle.rn_model.proofs.DeadInstances.{live_there}
use Rattle.rn_model.proofs.SoundRuns.{dead_stay_dead_in_runs, runs_end_sound}
use Rattle.rn_model.proofs.StandingTables.{as_in_table, same_live, tables_have_the_same_live}
use Rattle.rn_desk.specs.Entries.{StartsWith}
use Rattle.rn_reach.specs.Reach.{DifferAtMostIn}
use Rattle.rn_fire.specs.declared.setup.Setup.{Setup}
use Rattle.rn_fire.specs.States.{State, end_marking, logged}
use Rattle.rn_fire.specs.link.States.{firings_in}
use Rattle.rn_fire.proofs.EntryLemmas.{firings_of}
use Rattle.rn_worker.specs.link.Plans.{AddsOwn}
use Rattle.rn_worker.specs.link.Seen.{IsUnended, IsSightOf, Shows, marking_after}
use Rattle.rn_worker.proofs.SeenEntries.{fired_then, had_seen, taken}
use Rattle.rn_worker.proofs.SeenStates.{kept_setup, shows}
use Rattle.rn_firsts.specs.Known.{ComesAfter}
use Rattle.rn_worker.specs.declared.looking.View.{View}
use Rattle.rn_worker.specs.link.Views.{ChangedBetween, ChangedSince, FollowsOne, ShowsView, next_after}

-- Two markings, and tables that stand for them.
module _ (system : System) (old new was is : Marking) (changed : List ℕ)
    (first : Stands system old was) (second : Stands system new is)
    (sound : HasSoundTokens system is) (differ : DifferAtMostIn changed was is)
    (dead : (n : ℕ) → IsThere was n → ¬ IsLive system was n → ¬ IsLive system is n) where
  live_later : (n : ℕ) → IsLive system new n → IsLive system is n
  live_later n = (tables_have_the_same_live system new is second n).0

  same_as_before : (n : ℕ) → IsLive system new n → ¬ Contains changed n →
      instance_at new n ≡ instance_at old n
  same_as_before n live not = by_kept (instance_at old n) refl
    where
      there : instance_at new n ≡ instance_at was n
      there = same_live system new is second n (live_later n live) ∙ differ n not

      by_kept : (o : Option Instance) → instance_at old n ≡ o → instance_at new n ≡ instance_at old n
      by_kept (Some i) e = there ∙ as_in_table system old was first n i e ∙ sym e
      by_kept None e =
          let here = live_there system new n live in
          absurd (dead n (here.0, sym there ∙ here.1)
          (λ lived. let kept = first.live n lived in
          let both : Some kept.0 ≡ None = sym kept.1 ∙ e in
          let no : ⊥ = cc in no) (live_later n live))

  pub comes_after : ComesAfter system changed old new
  comes_after = record {
    same = same_as_before;
    dead = λ n there not live. dead n
        (there.0, as_in_table system old was first n there.0 there.1)
        (λ lived. not ((tables_have_the_same_live system old was first n).1 lived))
        (live_later n live);
    there = λ holder n live refers.
        let later = live_later holder live in
        let same = same_live system new is second holder later in
        let tokens : tokens_at new holder refers.place ≡ tokens_at is holder refers.place =
        ap (λ o. unwrap_or (option_and_then (λ i. slice_get i.places refers.place) o) []) same in
        let token = subst (λ vs. Contains vs refers.token) tokens refers.there in
        let here = live_there system is holder later in
        let net : net_of is holder ≡ Some here.0.net = ap (option_map (λ i. i.net)) here.1 in
        let occurs = (sound holder here.0.net refers.place refers.token net token).there n
        refers.occurs in
        second.live n (held refers.place later token refers.occurs occurs);
  }

-- Two snapshots of one log.
module _ (setup : Setup) (es more : List Entry) (v w : View) (shown : Shows setup es v.sight)
    (later : Shows setup more w.sight) (begins : StartsWith more es) where
  abbrev state : State
  state = record {
    setup = setup;
    fired = firings_in more;
    ended = None;
    table = w.sight.table;
  }

  fired_more : firings_in more ≡ firings_in es ++ firings_in begins.0
  fired_more = fired_then state es (begins.0, sym later.going ∙ begins.1)

  view_comes_after : (changed : List ℕ) →
      DifferAtMostIn changed (marking_after setup es) (marking_after setup more) →
      ComesAfter setup.system changed v.sight.table.marking w.sight.table.marking
  view_comes_after changed differ =
      comes_after setup.system v.sight.table.marking w.sight.table.marking
      (marking_after setup es) (marking_after setup more) changed shown.stands later.stands
      (runs_end_sound setup.system setup.options.depth (firings_in more) later.good later.log.run)
      differ
      (λ n there not live. dead_stay_dead_in_runs setup.system setup.options.depth (firings_in es)
      (firings_in begins.0) later.good
      (subst (Run setup.system setup.options.depth) fired_more later.log.run) n there not
      (subst (λ fs. IsLive setup.system (end_of setup.system fs) n) fired_more live))

  -- what is known at the one, the other follows
  pub follows_then : (Known : Marking → Type 0) → ChangedBetween setup es more w →
      Known v.sight.table.marking → FollowsOne setup.system Known w
  follows_then Known changed known = by_changed (λ c. c.items) w.changed changed
    where
      by_changed : {X : Type 0} (items : X → List ℕ) (o : Option X) →
          IfSome o (λ c. DifferAtMostIn (items c) (marking_after setup es)
          (marking_after setup more)) →
          MatchOption o ⊤ (λ c. (before : Marking) × Known before
          × ComesAfter setup.system (items c) before w.sight.table.marking)
      by_changed items None tells = tt
      by_changed items (Some c) tells =
          (v.sight.table.marking, known, view_comes_after (items c) tells)

-- The same of a list of what changed, as it is lent.
pub follows_lent : (system : System) (Known : Marking → Type 0) (m : Marking) {X V : Type 0}
    (now : X → List ℕ) (items : V → List ℕ) (lent : Option X) (changed : Option V) →
    MatchOption changed (IsNone lent) (λ c. IfSome lent (λ l. now l ≡ items c)) →
    MatchOption changed ⊤ (λ c. (before : Marking) × Known before
    × ComesAfter system (items c) before m) →
    MatchOption lent ⊤ (λ l. (before : Marking) × Known before × ComesAfter system (now l) before m)
follows_lent system Known m now items None changed is its = tt
follows_lent system Known m now items (Some l) None is its = absurd (let no : ⊥ = cc in no)
follows_lent system Known m now items (Some l) (Some c) is (before, known, comes) =
    (before, known, subst (λ ns. ComesAfter system ns before m) (sym is) comes)

-- what is seen of a state whose log goes on
pub show_views : (o : Option View) (t : State) (setup : Setup) (es : List Entry) →
    IfSome o (λ v. IsSightOf t v.sight) → t.setup ≡ setup → es ≡ logged t →
    IfSome o (ShowsView setup es)
show_views None t setup es is same are = tt
show_views (Some v) t setup es is same are = shows t v.sight setup es is same are

-- What is known at a snapshot, each later one follows where it is known what changed between.
pub follow_then : (setup : Setup) (es more : List Entry) (v : View) (o : Option View)
    (Known : Marking → Type 0) → Shows setup es v.sight → StartsWith more es →
    IfSome o (ShowsView setup more) → IfSome o (ChangedBetween setup es more) →
    Known v.sight.table.marking → IfSome o (FollowsOne setup.system Known)
follow_then setup es more v None Known shown begins later changed known = tt
follow_then setup es more v (Some w) Known shown begins later changed known =
    follows_then setup es more v w shown later begins Known changed known

-- What a state's first entries lead to, after a turn in which one came at most.
module _ (old new : State) (worker : ℕ) (fired : Bool) (setup : Setup) (es : List Entry)
    (begins : StartsWith (logged old) es) (going : IsUnended es) (same : old.setup ≡ setup)
    (adds : AddsOwn worker fired old new) (looked : ℕ) (count : looked ≡ length es) where
  fired_more_by : (fired : Bool) → AddsOwn worker fired old new →
      (rest : List Firing) × (new.fired ≡ old.fired ++ rest)
  fired_more_by true its = (its.3.0 ∷ [], its.3.2)
  fired_more_by false its = ([], its.1 ∙ sym (append-nil old.fired))

  few_before : looked ≤ length old.fired
  few_before =
      let few = had_seen old es begins going in
      omega (arith, few, count)

  -- after the turn there are at least so many firings
  pub few_after : looked ≤ length new.fired
  few_after =
      let more = fired_more_by fired adds in
      let long = ap length more.1 ∙ length-append old.fired more.0 in
      let few = few_before in
      omega (arith, long, few)

  taken_after : take looked new.fired ≡ firings_in es
  taken_after =
      let more = fired_more_by fired adds in
      ap (take looked) more.1 ∙ take-append-le looked old.fired more.0 few_before
      ∙ ap (λ k. take k old.fired) count ∙ taken old es begins going

  led_to : end_of new.setup.system (take looked new.fired) ≡ marking_after setup es
  led_to =
      ap (λ fs. end_of new.setup.system fs) taken_after
      ∙ ap (λ (s : Setup). end_of s.system (firings_in es))
      (kept_setup worker fired old new adds ∙ same)

  -- the next number after the entries is that after so many firings
  pub next_is : (next : ℕ) → next ≡ (marking_after setup es).next → next ≡ next_after new looked
  next_is next is = is ∙ ap (λ (m : Marking). m.next) (sym led_to)

  -- what changed since so many firings changed between those entries and the later ones
  pub changed_between : (more : List Entry) → more ≡ logged new → (o : Option View) →
      IfSome o (λ v. IfSome v.changed (λ c. ChangedSince new looked c.items)) →
      IfSome o (ChangedBetween setup es more)
  changed_between more are None tells = tt
  changed_between more are (Some v) tells = by_changed (λ c. c.items) v.changed tells
    where
      ends : end_marking new ≡ marking_after setup more
      ends =
          ap (λ fs. end_of new.setup.system fs)
          (sym (firings_of new.fired new.ended) ∙ ap firings_in (sym are))
          ∙ ap (λ (s : Setup). end_of s.system (firings_in more))
          (kept_setup worker fired old new adds ∙ same)

      by_changed : {X : Type 0} (items : X → List ℕ) (o : Option X) →
          IfSome o (λ c. ChangedSince new looked (items c)) →
          IfSome o (λ c. DifferAtMostIn (items c) (marking_after setup es)
          (marking_after setup more))
      by_changed items None tells = tt
      by_changed items (Some c) tells =
          subst (λ m. DifferAtMostIn (items c) m (marking_after setup more)) led_to
          (subst (DifferAtMostIn (items c) (end_of new.setup.system (take looked new.fired))) ends
          tells)
