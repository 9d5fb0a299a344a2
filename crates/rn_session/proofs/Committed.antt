-- What the commit of an enabled binding makes of a session.
use Rattle.std.proofs.Common.{◌≡◌, ℕ, suc, ◌+◌, List, [], ◌∷◌, ◌++◌, length, sym, ap, ◌∙◌, subst, arith}
use Rattle.std.specs.Prelude.{None, Result, Ok, Err}
use Rattle.std.proofs.lemmas.List.{append-nil, length-append}
use Rattle.rn_items.specs.Memory.{no_memory}
use Rattle.rn_items.specs.declared.memory.NoMemory.{NoMemory as Refused}
use Rattle.rn_value.specs.declared.value.Value.{Value}
use Rattle.rn_model.specs.declared.binding.Binding.{Binding}
use Rattle.rn_model.specs.declared.log.FaultKind.{FaultKind}
use Rattle.rn_model.specs.declared.log.Reason.TheVariants.{Fault}
use Rattle.rn_model.specs.Runs.{Firing, after_firing, end_of, entries_of}
use Rattle.rn_model.proofs.RunLemmas.{ends_follow}
use Rattle.rn_table.specs.Tables.{Kept}
use Rattle.rn_served.specs.Entries.{Entries, with_firing}
use Rattle.rn_served.specs.declared.requests.FireAnswer.{FireAnswer}
use Rattle.rn_fire.specs.Commits.{Commits, HasFired, IsEnabledNow}
use Rattle.rn_fire.specs.Ends.{with_end}
use Rattle.rn_fire.specs.States.{State, end_marking, logged}
use Rattle.rn_fire.specs.declared.committing.Commit.{Commit}
use Rattle.rn_fire.specs.declared.committing.Commit.TheVariants.{Fired, Conflict, Faulted, Ended, NoMemory}
use Rattle.rn_fire.proofs.EntryLemmas.{count_ended, count_going, going_count}
use Rattle.rn_session.specs.link.Keeping.{AreTablesBefore, CommitsTo, IsFirst, IsTableAfter, Tells}
use Rattle.rn_session.specs.Sessions.{so_far}
use Rattle.rn_session.proofs.KeptTables.{one_more}

-- nobody came before it
pub is_first : (old new : State) (b : Binding) (seen : ℕ) (committed : Commit) → old.ended ≡ None →
    IsEnabledNow old b → Commits old 1 b seen committed new → IsFirst committed
is_first old new b seen (Fired step) going enabled commits = tt
is_first old new b seen (Conflict at now) going enabled commits = commits.1 enabled
is_first old new b seen Faulted going enabled commits = tt
is_first old new b seen Ended going enabled commits = commits.0 going
is_first old new b seen (NoMemory _) going enabled commits = tt

abbrev by_hand : Binding → List Value → Firing
by_hand b outs = record { worker = 1; binding = b; outs = outs }

-- out of memory nothing has changed
pub unchanged : (old new : State) (b : Binding) (r : Result FireAnswer Refused) → new ≡ old →
    Tells (NoMemory no_memory) r → CommitsTo old b r new
unchanged old new b (Ok answer) same told = absurd told
unchanged old new b (Err refused) same told = same

pub commits_to : (old new : State) (b : Binding) (seen : ℕ) (committed : Commit)
    (r : Result FireAnswer Refused) → Commits old 1 b seen committed new → Tells committed r →
    CommitsTo old b r new
commits_to old new b seen (Fired step) r (going, enabled, (count, (outs, has))) told =
    subst (λ x. CommitsTo old b x new) (sym told) (
      has.defined.0,
      count,
      has.defined.1,
      ap so_far has.state
          ∙ ap (λ e. let x : Entries = record { fired = old.fired ++ by_hand b outs ∷ []; ended = e } in x) going
          ∙ ap (λ os. with_firing b os (so_far old)) has.defined.2,
      ap (λ (x : State). x.setup) has.state,
    )
commits_to old new b seen (Conflict at now) r commits told = absurd told
commits_to old new b seen Faulted r (going, enabled, (cause, fires, same)) told =
    subst (λ x. CommitsTo old b x new) (sym told)
    (cause, fires, ap so_far same, ap (λ (x : State). x.setup) same)
commits_to old new b seen Ended r commits told = absurd told
commits_to old new b seen (NoMemory _) r commits told = unchanged old new b r commits.1 told

-- what a commit leaves that has an answer
pub record Grows (old new : State) : Type 0 where
  pub setup : new.setup ≡ old.setup
  pub gs : List Firing
  pub more : new.fired ≡ old.fired ++ gs
  pub count : length (logged new) ≡ length old.fired + 1
  pub all : new.table.marking ≡ end_marking new

grown : (old new : State) (b : Binding) (outs : List Value) → old.ended ≡ None →
    old.table.marking ≡ end_marking old → HasFired old (by_hand b outs) new → Grows old new
grown old new b outs going all has =
    let fs : List Firing = old.fired ++ by_hand b outs ∷ [] in
    let fired : new.fired ≡ fs = ap (λ (x : State). x.fired) has.state in
    let ended : new.ended ≡ None = ap (λ (x : State). x.ended) has.state ∙ going in
    let long = length-append old.fired (by_hand b outs ∷ []) in
    let entries : length (logged new) ≡ length fs =
    ap (λ e. length (entries_of new.fired e)) ended ∙ count_going new.fired ∙ ap length fired in
    record {
      setup = ap (λ (x : State). x.setup) has.state;
      gs = by_hand b outs ∷ [];
      more = fired;
      count = omega (arith, entries, long);
      all = has.table
          ∙ ap (λ m. after_firing old.setup.system (suc (length old.fired)) m (by_hand b outs)) all
          ∙ sym (ends_follow old.setup.system old.fired (by_hand b outs))
          ∙ ap (λ (x : State). end_of x.setup.system x.fired) (sym has.state);
    }

faulted : (old new : State) (b : Binding) (cause : FaultKind) →
    old.table.marking ≡ end_marking old → new ≡ with_end (Fault cause b) old → Grows old new
faulted old new b cause all same = record {
  setup = ap (λ (x : State). x.setup) same;
  gs = [];
  more = ap (λ (x : State). x.fired) same ∙ sym (append-nil old.fired);
  count = ap (λ (x : State). length (logged x)) same ∙ count_ended old.fired (Fault cause b);
  all = ap (λ (x : State). x.table.marking) same ∙ all
      ∙ ap (λ (x : State). end_of x.setup.system x.fired) (sym same);
}

pub grows : (old new : State) (b : Binding) (seen : ℕ) (committed : Commit) (r : Result FireAnswer Refused)
    (answer : FireAnswer) → old.ended ≡ None → old.table.marking ≡ end_marking old →
    Commits old 1 b seen committed new → Tells committed r → r ≡ Ok answer → Grows old new
grows old new b seen (Fired step) r answer going all (is, enabled, (count, (outs, has))) told ok =
    grown old new b outs going all has
grows old new b seen (Conflict at now) r answer going all commits told ok = absurd told
grows old new b seen Faulted r answer going all (is, enabled, (cause, fires, same)) told ok =
    faulted old new b cause all same
grows old new b seen Ended r answer going all commits told ok = absurd told
grows old new b seen (NoMemory _) r answer going all commits told ok =
    absurd (subst (Tells (NoMemory no_memory)) ok told)

pub kept_more : (old new : State) (kept : List Kept) (t : Kept) → Grows old new → old.ended ≡ None →
    IsTableAfter old (length old.fired) t → AreTablesBefore old kept →
    AreTablesBefore new (kept ++ t ∷ [])
kept_more old new kept t is going now before =
    one_more old new kept t is.setup is.gs is.more (going_count old going) is.count now before
