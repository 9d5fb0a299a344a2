-- What the calls of a session leave: sessions.
use Rattle.std.proofs.Common.{◌≡◌, ℕ, zero, suc, ◌+◌, ◌-◌, ◌<◌, ◌≤◌, List, [], ◌∷◌, ◌++◌, length, take, refl, sym, ap, ◌∙◌, subst, arith}
use Rattle.std.specs.Prelude.{None, Option, Result, Ok, drop, true}
use Rattle.std.proofs.lemmas.List.{take-append-drop}
use Rattle.rn_items.specs.declared.memory.NoMemory.{NoMemory as Refused}
use Rattle.rn_model.specs.declared.binding.Binding.{Binding}
use Rattle.rn_model.specs.declared.log.Options.{Options}
use Rattle.rn_model.specs.Liveness.{Stands}
use Rattle.rn_model.specs.Runs.{Run, end_of}
use Rattle.rn_model.proofs.MarkingsOfRuns.{runs_end_in_markings}
use Rattle.rn_model.proofs.RunLemmas.{prefixes_are_runs}
use Rattle.rn_model.proofs.StandingTables.{markings_stand_for_themselves}
use Rattle.rn_channel.specs.declared.uplinks.Uplinks.{Uplinks}
use Rattle.rn_channel.specs.link.Uplinks.{AreUplinksOf}
use Rattle.rn_table.specs.Tables.{Kept, IsTableOf}
use Rattle.rn_served.specs.declared.requests.FireAnswer.{FireAnswer}
use Rattle.rn_fire.specs.declared.committing.Commit.{Commit}
use Rattle.rn_fire.specs.declared.setup.Setup.{Setup}
use Rattle.rn_fire.specs.Commits.{Commits}
use Rattle.rn_fire.specs.States.{State, IsState, logged}
use Rattle.rn_fire.proofs.EntryLemmas.{count_going}
use Rattle.rn_fire.proofs.RewindingLemmas.{first_are}
use Rattle.rn_parted.specs.Parted.{Parted}
use Rattle.rn_session.specs.declared.session.Looked.{Looked}
use Rattle.rn_session.specs.link.Keeping.{AreTablesBefore, IsTableAfter, KeepsSession, Tells}
use Rattle.rn_session.specs.Sessions.{UndoesBy}
use Rattle.rn_session.proofs.Committed.{grows, kept_more}
use Rattle.rn_session.proofs.KeptTables.{fewer, table_now, the_table}
use Rattle.rn_session.proofs.LookedLemmas.{still_kept, still_looked}
use Rattle.rn_session.proofs.SessionStates.{most_entries}

-- a number other than 0
pub not_none : (k : ℕ) → ¬ (k ≡ 0) → 1 ≤ k
not_none zero other = absurd (other refl)
not_none (suc k) other = omega arith

-- one entry more
pub with_one_more : (old new : State) (options : Options) (uplinks : Uplinks) (kept later : List Kept) (t : Kept)
    (firsts : Option Parted) (looked : Option Looked) (b : Binding) (seen : ℕ) (committed : Commit)
    (r : Result FireAnswer Refused) (answer : FireAnswer) →
    KeepsSession old options uplinks kept firsts looked → old.ended ≡ None → IsState new → t ≡ old.table →
    later ≡ kept ++ t ∷ [] → Commits old 1 b seen committed new → Tells committed r → r ≡ Ok answer →
    KeepsSession new options uplinks later firsts looked
with_one_more old new options uplinks kept later t firsts looked b seen committed r answer keeps going is same more commits tells ok =
    let grown = grows old new b seen committed r answer going keeps.session.all commits tells ok in
    let now = table_now old keeps.session.all keeps.session.state.of_system in
    record {
      session = record { state = is; all = grown.all };
      options_are = keeps.options_are ∙ ap (λ (x : Setup). x.options) (sym grown.setup);
      own = subst (λ (x : Setup). AreUplinksOf x.system uplinks) (sym grown.setup) keeps.own;
      before = subst (λ ts. AreTablesBefore new ts) (sym more)
          (kept_more old new kept t grown going (subst (IsTableAfter old (length old.fired)) (sym same) now) keeps.before);
      at = still_looked old new grown.gs grown.setup grown.more looked keeps.at;
      since = still_kept old new grown.gs grown.setup grown.more firsts looked keeps.at keeps.since;
    }

-- without the last entries
module _ (old : State) (options : Options) (uplinks : Uplinks) (kept left : List Kept) (t : Kept)
    (firsts : Option Parted) (looked : Option Looked) (k count : ℕ)
    (keeps : KeepsSession old options uplinks kept firsts looked) (some : 1 ≤ k)
    (there : k ≤ length (logged old)) (is_count : count ≡ length (logged old) - k)
    (parted : take (count + 1) kept ≡ left ++ t ∷ []) where
  pub within : count ≤ length old.fired
  within = let most = most_entries old.fired old.ended in omega (arith, most.1, is_count, some, there)

  low : count < length kept
  low = let all = keeps.before.count in omega (arith, all, is_count, some, there)

  abbrev Back : State → Type 0
  Back new = new ≡ record { setup = old.setup; fired = take count old.fired; ended = None; table = t }

  table_is : IsTableAfter old count t
  table_is =
      the_table old (record { setup = old.setup; fired = take count old.fired; ended = None; table = t })
      kept left t count refl refl within low (count_going (take count old.fired)) parted keeps.before

  pub stands_then : Stands old.setup.system t.marking (end_of old.setup.system (take count old.fired))
  stands_then =
      let system = old.setup.system in
      let depth = old.setup.options.depth in
      let run : Run system depth (take count old.fired) =
      prefixes_are_runs system depth (take count old.fired) (drop count old.fired)
      (subst (Run system depth) (sym (take-append-drop count old.fired)) keeps.session.state.log.run) in
      subst (λ m. Stands system m (end_of system (take count old.fired))) (sym table_is.marking)
      (markings_stand_for_themselves system (end_of system (take count old.fired))
      (runs_end_in_markings system depth (take count old.fired) keeps.session.state.good run))

  pub of_then : IsTableOf old.setup.system t
  of_then = table_is.of_system

  pub with_fewer : (new : State) (forgot : Option Parted) → Back new → IsState new →
      KeepsSession new options uplinks left forgot None
  with_fewer new forgot back is =
      let setup = ap (λ (x : State). x.setup) back in
      let fired = ap (λ (x : State). x.fired) back in
      record {
        session = record {
          state = is;
          all = ap (λ (x : State). x.table.marking) back ∙ table_is.marking
              ∙ ap (λ (x : State). end_of x.setup.system x.fired) (sym back);
        };
        options_are = keeps.options_are ∙ ap (λ (x : Setup). x.options) (sym setup);
        own = subst (λ (x : Setup). AreUplinksOf x.system uplinks) (sym setup) keeps.own;
        before = fewer old new kept left t count setup fired within low
            (ap (λ (x : State). length (logged x)) back ∙ count_going (take count old.fired) ∙ ap length (sym fired))
            parted keeps.before;
        at = tt;
        since = tt;
      }

  pub undone : (new : State) → Back new → UndoesBy old k (Ok true) new
  undone new back = (
    record {
      some = some;
      there = there;
      left = ap (λ (x : State). logged x) back ∙ sym (first_are old.fired old.ended count within)
          ∙ ap (λ n. take n (logged old)) is_count;
    },
    ap (λ (x : State). x.setup) back,
  )
