-- A state with one firing more.
use Rattle.std.proofs.Common.{◌≡◌, ℕ, ◌<◌, ◌≤◌, suc, List, [], ◌∷◌, ◌++◌, length, refl, sym, ap, ◌∙◌, subst, arith}
use Rattle.std.specs.Prelude.{None, Result, Ok, Err}
use Rattle.std.proofs.lemmas.List.{length-append}
use Rattle.rn_value.specs.declared.value.Value.{Value}
use Rattle.rn_model.specs.declared.binding.Binding.{Binding}
use Rattle.rn_model.specs.declared.log.Entry.{Entry}
use Rattle.rn_model.specs.declared.log.Entry.TheVariants.{Fire}
use Rattle.rn_model.specs.declared.log.FaultKind.{FaultKind}
use Rattle.rn_model.specs.Enabling.{Enabled}
use Rattle.rn_model.specs.Firing.{Fired, fire, firing_result}
use Rattle.rn_model.specs.Limits.{most_workers}
use Rattle.rn_model.specs.Liveness.{Stands}
use Rattle.rn_model.specs.LivenessLaws.{FireAlike}
use Rattle.rn_model.specs.Markings.{Marking, IsMarking}
use Rattle.rn_model.specs.Runs.{Firing, Fires, after_firing, end_of, entries_of, marking_or}
use Rattle.rn_model.specs.SoundTokens.{HasSoundTokens}
use Rattle.rn_model.proofs.MarkingsOfRuns.{runs_end_in_markings}
use Rattle.rn_model.proofs.RunLemmas.{ends_follow, runs_grow}
use Rattle.rn_model.proofs.SoundRuns.{runs_end_sound}
use Rattle.rn_model.proofs.StandingTables.{tables_fire_alike, tables_stand_after}
use Rattle.rn_acts.proofs.MayComeLemmas.{firings_may_come}
use Rattle.rn_table.specs.Changes.{MayCome, changed}
use Rattle.rn_table.specs.Laws.{LeavesNew}
use Rattle.rn_table.specs.Tables.{Kept, IsTableOf}
use Rattle.rn_table.specs.declared.change.Change.{Change}
use Rattle.rn_fire.specs.declared.setup.Setup.{Setup}
use Rattle.rn_fire.specs.Commits.{HasFired}
use Rattle.rn_fire.specs.link.Outcomes.{FiresBy}
use Rattle.rn_fire.specs.States.{State}
use Rattle.rn_fire.specs.link.States.{KeepsRun, state_of, firings_in, end_in}
use Rattle.rn_fire.proofs.EntryLemmas.{fired_more}
use Rattle.rn_fire.proofs.StateLemmas.{are_firings, keeps, state_with}

-- a firing that is alike to a defined one is defined
alike_defined : (f : Fired) (r : Result Fired FaultKind) → FireAlike (Ok f) r →
    (g : Fired) × (r ≡ Ok g) × (f.outs ≡ g.outs)
alike_defined f (Ok g) alike = (g, refl, alike)
alike_defined f (Err cause) alike = absurd alike

module _ (setup : Setup) (entries : List Entry) (room : ℕ) (table : Kept)
    (k : KeepsRun setup entries room table) (going : end_in entries ≡ None)
    (worker : ℕ) (b : Binding) (outs : List Value) (change : Change)
    (enabled : Enabled setup.system (end_of setup.system (firings_in entries)) b setup.options.depth)
    (by : FiresBy setup.system b table.marking.next (suc (length (firings_in entries))) outs change)
  where
    abbrev fs : List Firing
    fs = firings_in entries

    abbrev m : Marking
    m = end_of setup.system fs

    abbrev step : ℕ
    step = suc (length fs)

    abbrev firing : Firing
    firing = record { worker = worker; binding = b; outs = outs }

    form : IsMarking setup.system m
    form = runs_end_in_markings setup.system setup.options.depth fs k.state.good k.state.log.run

    sound : HasSoundTokens setup.system m
    sound = runs_end_sound setup.system setup.options.depth fs k.state.good k.state.log.run

    comes : MayCome setup.system change table.marking × LeavesNew change table.marking.next
    comes =
        firings_may_come setup.system table.marking m b setup.options.depth change k.state.good form
        sound k.state.stands enabled by.of by.low

    pub may_come : MayCome setup.system change table.marking
    may_come = comes.0

    abbrev at_table : Fired
    at_table = record { marking = changed setup.system change table.marking; outs = by.acts.outs }

    fires_at_table : fire setup.system table.marking b step ≡ Ok at_table
    fires_at_table =
        ap (firing_result setup.system table.marking b) by.are ∙ rw by.few refl
        ∙ ap (λ x. let f : Fired = record { marking = x; outs = by.acts.outs } in Ok f)
        (sym (by.after table.marking comes.1))

    alike : (g : Fired) × (fire setup.system m b step ≡ Ok g) × (by.acts.outs ≡ g.outs)
    alike =
        alike_defined at_table (fire setup.system m b step)
        (subst (λ r. FireAlike r (fire setup.system m b step)) fires_at_table
        (tables_fire_alike setup.system table.marking m b step k.state.stands))

    after_is : after_firing setup.system step m firing ≡ alike.0.marking
    after_is = ap (λ r. marking_or r m) alike.1

    end_is : end_of setup.system (fs ++ firing ∷ []) ≡ alike.0.marking
    end_is = ends_follow setup.system fs firing ∙ after_is

    fires : (1 ≤ worker) × (worker ≤ most_workers) → Fires setup.system setup.options.depth step m firing
    fires within = record {
      enabled = enabled;
      fired =
          alike.1
          ∙ ap (λ x. let f : Fired = record { marking = x; outs = alike.0.outs } in Ok f) (sym after_is)
          ∙ ap (λ os. let f : Fired = record { marking = after_firing setup.system step m firing; outs = os } in Ok f)
          (sym (by.printed ∙ alike.2));
      worker = within;
    }

    module _ (after : Kept) (came : after.marking ≡ changed setup.system change table.marking)
        (of : IsTableOf setup.system after) (more : List Entry)
        (added : more ≡ entries ++ Fire worker b outs ∷ [])
        (below : length fs < setup.options.steps)
        (within : (1 ≤ worker) × (worker ≤ most_workers)) where
      entries_are : more ≡ entries_of (fs ++ firing ∷ []) None
      entries_are =
          added
          ∙ ap (λ es. es ++ Fire worker b outs ∷ []) (are_firings setup entries room table k going)
          ∙ fired_more fs firing

      pub keeps_fired : KeepsRun setup more room after
      keeps_fired =
          keeps setup more room after (fs ++ firing ∷ []) None entries_are
          (record {
            good = k.state.good;
            limits = k.state.limits;
            log = record {
              run = (runs_grow setup.system setup.options.depth fs firing).1
                  (k.state.log.run, fires within);
              steps = let count = length-append fs (firing ∷ []) in omega (arith, below, count);
              ends = tt;
            };
            stands =
                subst (Stands setup.system after.marking) (sym end_is)
                (subst (λ x. Stands setup.system x alike.0.marking) (sym came)
                (tables_stand_after setup.system table.marking m b setup.options.depth step at_table
                alike.0 k.state.good form sound k.state.stands enabled fires_at_table alike.1));
            of_system = of;
          }) k.enough

      pub has_fired : HasFired (state_of setup entries table) firing (state_of setup more after)
      has_fired = record {
        defined = (alike.0, alike.1, by.printed ∙ alike.2);
        state =
            ap (λ es. state_of setup es after) entries_are
            ∙ state_with setup (fs ++ firing ∷ []) None after
            ∙ ap (λ e. let s : State = record { setup = setup; fired = fs ++ firing ∷ []; ended = e; table = after } in s)
            (sym going);
        table = came ∙ ap (λ r. marking_or r table.marking) (sym fires_at_table);
      }
