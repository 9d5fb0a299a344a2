-- What answered lines come to, one after the other.
use Rattle.std.proofs.Common.{◌≡◌, ℕ, suc, ◌-◌, List, [], ◌∷◌, ◌++◌, length, refl, sym, ap, ◌∙◌, subst, arith}
use Rattle.std.specs.Prelude.{None, drop, slice_get}
use Rattle.std.specs.Option.{option_map_or}
use Rattle.std.proofs.lemmas.List.{append-nil, append_assoc, length-append}
use Rattle.std.proofs.Math.Seq.{drop-append_seam}
use Rattle.rn_model.specs.declared.log.Entry.{Entry}
use Rattle.rn_model.specs.declared.log.Options.{Options}
use Rattle.rn_model.specs.declared.system.System.{System}
use Rattle.rn_record.specs.RecordText.{entries_text, entry_text}
use Rattle.rn_fire.specs.declared.setup.Setup.{Setup}
use Rattle.rn_fire.specs.States.{State, IsState, logged}
use Rattle.rn_fire.proofs.EntryLemmas.{going_count}
use Rattle.rn_served.specs.Entries.{Entries}
use Rattle.rn_served.specs.Lines.{lines_of, request_of}
use Rattle.rn_served.specs.Served.{FiresTo, Served, added_text, fire_text, ok_text}
use Rattle.rn_served.specs.Undoing.{IsDone}
use Rattle.rn_served.specs.declared.requests.FireAnswer.{FireAnswer}
use Rattle.rn_served.specs.declared.requests.FireAnswer.TheVariants as Gives
use Rattle.rn_served.specs.declared.requests.Request.TheVariants as Ask
use Rattle.rn_served.proofs.UndoneEntries.{adds_one}
use Rattle.rn_session.specs.link.Serving.{HasLast, IsAnswered, ServesAll, last_text, names_at, refusal_of}
use Rattle.rn_session.specs.Sessions.{Stays, so_far}
use Rattle.rn_session.proofs.LastEntries.{last_got}
use Rattle.rn_session.proofs.NamesSoFar.{has_last}

-- one line more
pub one_line : (first s t : State) (lines rest after line before out more : List ℕ) →
    ((text : List ℕ) → Served s.setup.system s.setup.options (lines_of rest) (so_far s) text →
    ServesAll first lines before (out ++ text)) →
    lines_of rest ≡ line ∷ lines_of after → IsAnswered s (request_of line) out t more →
    (text : List ℕ) → Served t.setup.system t.setup.options (lines_of after) (so_far t) text →
    ServesAll first lines before (more ++ text)
one_line first s t lines rest after line before out more so parted a text served =
    let there : Served s.setup.system s.setup.options (line ∷ lines_of after) (so_far s) (a.text ++ text) = (
      a.text,
      text,
      so_far t,
      a.answers,
      subst (λ (x : Setup). Served x.system x.options (lines_of after) (so_far t) text) a.setup served,
      refl,
    ) in
    subst (ServesAll first lines before)
    (sym (append_assoc out a.text text) ∙ ap (λ x. x ++ text) (sym a.written))
    (so (a.text ++ text)
    (subst (λ ls. Served s.setup.system s.setup.options ls (so_far s) (a.text ++ text)) (sym parted) there))

-- no line more
pub no_line : (first s : State) (lines rest before out : List ℕ) →
    ((text : List ℕ) → Served s.setup.system s.setup.options (lines_of rest) (so_far s) text →
    ServesAll first lines before (out ++ text)) →
    lines_of rest ≡ [] → ServesAll first lines before out
no_line first s lines rest before out so none =
    subst (ServesAll first lines before) (append-nil out)
    (so [] (subst (λ ls. Served s.setup.system s.setup.options ls (so_far s) []) (sym none) refl))

-- a list of one
one_of : (es : List Entry) → length es ≡ 1 → (e : Entry) × (es ≡ e ∷ [])
one_of [] is = absurd (let no : ⊥ = omega (arith, is) in no)
one_of (e ∷ []) is = (e, refl)
one_of (e ∷ f ∷ es) is = absurd (let no : ⊥ = omega (arith, is) in no)

-- a firing that wasn't refused was done, where the run went on, and added one entry
is_done : (answer : FireAnswer) → refusal_of answer ≡ None → IsDone answer
is_done (Gives.Fired step) none = tt
is_done Gives.Faulted none = tt
is_done (Gives.Refused number) none = let no : ⊥ = cc in no

went_on : (system : System) (options : Options) (old new : Entries) (k : ℕ) (answer : FireAnswer) →
    FiresTo system options old k answer new → refusal_of answer ≡ None → old.ended ≡ None
went_on system options old new k (Gives.Fired step) (b, fired, may, count, fires, same) none = may.going
went_on system options old new k Gives.Faulted (b, cause, may, fires, same) none = may.going
went_on system options old new k (Gives.Refused number) fires none = absurd (let no : ⊥ = cc in no)

same_setup : (old new : State) (answer : FireAnswer) → Stays old answer new → new.setup ≡ old.setup
same_setup old new (Gives.Fired step) stays = stays
same_setup old new Gives.Faulted stays = stays
same_setup old new (Gives.Refused number) stays = ap (λ (x : State). x.setup) stays

-- what is there of one entry more
pub record HasCome (old new : State) : Type 0 where
  pub going : old.ended ≡ None
  pub setup : new.setup ≡ old.setup
  pub entry : Entry
  pub came : logged new ≡ logged old ++ entry ∷ []

pub has_come : (old new : State) (k : ℕ) (answer : FireAnswer) →
    FiresTo old.setup.system old.setup.options (so_far old) k answer (so_far new) →
    Stays old answer new → refusal_of answer ≡ None → HasCome old new
has_come old new k answer fires stays none =
    let added = adds_one old.setup.system old.setup.options (so_far old) (so_far new) k answer fires (is_done answer none) in
    let one = one_of added.0 added.1 in
    record {
      going = went_on old.setup.system old.setup.options (so_far old) (so_far new) k answer fires none;
      setup = same_setup old new answer stays;
      entry = one.0;
      came = added.2 ∙ ap (λ es. logged old ++ es) one.1;
    }

pub last_of_come : (old new : State) → IsState new → HasCome old new → HasLast new (names_at old)
last_of_come old new is come = has_last old new come.entry come.setup is come.came

-- what is written of it
pub text_of_come : (old new : State) → HasCome old new →
    last_text new (names_at old) ≡ added_text old.setup.system (so_far old) (so_far new)
text_of_come old new come =
    let e = come.entry in
    let es = logged old in
    let names = names_at old in
    let system = old.setup.system in
    let long = length-append es (e ∷ []) in
    let firings = going_count old come.going in
    let entries = ap length come.came in
    let step : length (logged new) ≡ suc (length old.fired) = omega (arith, long, firings, entries) in
    let lines : List Entry → List ℕ = λ xs. entries_text system names (suc (length old.fired)) xs in
    ap (λ (x : Setup). option_map_or (entry_text x.system names (length (logged new)))
    (slice_get (logged new) (length (logged new) - 1)) []) come.setup
    ∙ ap (λ xs. option_map_or (entry_text system names (length (logged new))) (slice_get xs (length xs - 1)) []) come.came
    ∙ ap (λ o. option_map_or (entry_text system names (length (logged new))) o []) (last_got es e)
    ∙ ap (λ n. entry_text system names n e) step
    ∙ sym (ap lines (ap (drop (length es)) come.came ∙ drop-append_seam es (e ∷ []))
    ∙ append-nil (entry_text system names (suc (length old.fired)) e))

-- and so `fire` was answered
pub fire_answered : (old new : State) (k : ℕ) (answer : FireAnswer) (before mid after : List ℕ) →
    FiresTo old.setup.system old.setup.options (so_far old) k answer (so_far new) →
    Stays old answer new → refusal_of answer ≡ None →
    mid ≡ before ++ last_text new (names_at old) → after ≡ mid ++ ok_text →
    IsAnswered old (Ask.Fire k) before new after
fire_answered old new k answer before mid after fires stays none wrote more =
    let come = has_come old new k answer fires stays none in
    let added = added_text old.setup.system (so_far old) (so_far new) in
    record {
      text = added ++ ok_text;
      answers = (answer, fires, text_is answer none);
      written = more ∙ ap (λ x. x ++ ok_text) (wrote ∙ ap (λ x. before ++ x) (text_of_come old new come))
          ∙ append_assoc before added ok_text;
      setup = come.setup;
    }
  where
    text_is : (a : FireAnswer) → refusal_of a ≡ None →
        added_text old.setup.system (so_far old) (so_far new) ++ ok_text
        ≡ fire_text old.setup.system (so_far old) a (so_far new)
    text_is (Gives.Fired step) is = refl
    text_is Gives.Faulted is = refl
    text_is (Gives.Refused number) is = absurd (let no : ⊥ = cc in no)
