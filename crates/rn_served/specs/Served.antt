-- What a session answers to its lines. It knows the entries so far, and nothing else.
use Rattle.std.specs.Prelude.{ℕ, suc, ◌≡◌, ◌≢◌, ◌<◌, ◌≤◌, ◌-◌, ◌⊎◌, List, [], ◌∷◌, ◌++◌, None, Ok, Err}
use Rattle.std.specs.Prelude.{codes, length, take, drop, flat_map}
use Rattle.rn_value.specs.Text.{numeral}
use Rattle.rn_model.specs.declared.system.System.{System}
use Rattle.rn_model.specs.declared.binding.Binding.{Binding}
use Rattle.rn_model.specs.declared.log.FaultKind.{FaultKind}
use Rattle.rn_model.specs.declared.log.MarkLine.{MarkLine}
use Rattle.rn_model.specs.declared.log.Options.{Options}
use Rattle.rn_model.specs.Firing.{Fired, fire}
use Rattle.rn_model.specs.Liveness.{LivePart}
use Rattle.rn_record.specs.RecordText.{entries_text, mark_text}
use Rattle.rn_served.specs.Entries.{Entries, all_of, marking_of, names_of, with_firing, with_fault}
use Rattle.rn_served.specs.Lines.{request_of}
use Rattle.rn_served.specs.Listed.{AreEnabled, IsNumbered, NoneIsNumbered, numbered_text}
use Rattle.rn_served.specs.declared.requests.Request.{Request}
use Rattle.rn_served.specs.declared.requests.Request.TheVariants as Ask
use Rattle.rn_served.specs.declared.requests.FireAnswer.{FireAnswer}
use Rattle.rn_served.specs.declared.requests.FireAnswer.TheVariants as Gives

-- the last line of what was done, and the line of what was refused
abbrev pub ok_text : List ℕ
ok_text = codes "ok\n"

abbrev pub no_text : ℕ → List ℕ
no_text n = codes "no " ++ numeral n ++ codes "\n"

-- Why `fire K` is refused: the run has ended (3); or else it has as many firings as it may have (2);
-- or else no enabled binding has the number K (1).
abbrev pub FireRefused : System → Options → Entries → ℕ → ℕ → Type 0
FireRefused system options so_far k number =
    ((number ≡ 3) × (so_far.ended ≢ None))
    ⊎ ((number ≡ 2) × (so_far.ended ≡ None) × (length so_far.fired ≡ options.steps))
    ⊎ ((number ≡ 1) × (so_far.ended ≡ None) × (length so_far.fired < options.steps)
    × NoneIsNumbered system (marking_of system so_far) options.depth k)

-- The run may go on, and this is the enabled binding with the number K.
pub record MayFire (system : System) (options : Options) (so_far : Entries) (k : ℕ) (b : Binding)
    : Type 0 where
  pub going : so_far.ended ≡ None
  pub below : length so_far.fired < options.steps
  pub numbered : IsNumbered system (marking_of system so_far) options.depth k b

-- What `fire K` comes to, and the entries after it: the firing of the K-th enabled binding is added;
-- or it is undefined, and the run ends so; or it is refused, and nothing changes.
abbrev pub FiresTo : System → Options → Entries → ℕ → FireAnswer → Entries → Type 0
FiresTo system options old k (Gives.Fired step) new =
    (b : Binding) × (fired : Fired) × MayFire system options old k b
    × (step ≡ suc (length old.fired))
    × (fire system (marking_of system old) b (suc (length old.fired)) ≡ Ok fired)
    × (new ≡ with_firing b fired.outs old)
FiresTo system options old k Gives.Faulted new =
    (b : Binding) × (cause : FaultKind) × MayFire system options old k b
    × (fire system (marking_of system old) b (suc (length old.fired)) ≡ Err cause)
    × (new ≡ with_fault cause b old)
FiresTo system options old k (Gives.Refused number) new =
    FireRefused system options old k number × (new ≡ old)

-- the lines of the entries that were added
abbrev pub added_text : System → Entries → Entries → List ℕ
added_text system old new =
    entries_text system (names_of system old) (suc (length old.fired))
    (drop (length (all_of old)) (all_of new))

-- what `fire` writes
abbrev pub fire_text : System → Entries → FireAnswer → Entries → List ℕ
fire_text system old (Gives.Refused number) new = no_text number
fire_text system old answer new = added_text system old new ++ ok_text

-- what `list` writes: the lines of the bindings, and how many they are
abbrev pub list_text : System → List (List ℕ) → List Binding → List ℕ
list_text system names found =
    numbered_text system names 1 found ++ codes "ok " ++ numeral (length found) ++ codes "\n"

-- what `show` writes
abbrev pub show_text : System → List (List ℕ) → List MarkLine → List ℕ
show_text system names marks = flat_map (mark_text 1 system names) marks ++ ok_text

-- `undo K` takes back the last K entries.
pub record TakesBack (k : ℕ) (old new : Entries) : Type 0 where
  pub some : 1 ≤ k
  pub there : k ≤ length (all_of old)
  pub left : all_of new ≡ take (length (all_of old) - k) (all_of old)

-- there are no K entries to take back
abbrev pub UndoRefused : ℕ → Entries → Type 0
UndoRefused k old = (k ≡ 0) ⊎ (length (all_of old) < k)

-- What a line that asks for this writes, and the entries after it.
abbrev pub AnswersRequest : System → Options → Entries → Request → List ℕ → Entries → Type 0
-- the enabled bindings, and how many they are
AnswersRequest system options old Ask.List text new =
    (found : List Binding) × AreEnabled system (marking_of system old) options.depth found
    × (text ≡ list_text system (names_of system old) found) × (new ≡ old)
-- a firing, or why there is none
AnswersRequest system options old (Ask.Fire k) text new =
    (answer : FireAnswer) × FiresTo system options old k answer new
    × (text ≡ fire_text system old answer new)
-- the marks of the live part
AnswersRequest system options old Ask.Show text new =
    (marks : List MarkLine) × LivePart system (marking_of system old) marks
    × (text ≡ show_text system (names_of system old) marks) × (new ≡ old)
-- the last entries are taken back, or there aren't so many
AnswersRequest system options old (Ask.Undo k) text new =
    (TakesBack k old new × (text ≡ ok_text))
    ⊎ (UndoRefused k old × (text ≡ no_text 4) × (new ≡ old))
AnswersRequest system options old Ask.Wrong text new = (text ≡ no_text 5) × (new ≡ old)

-- The text of a session with these lines, after these entries: to each line, in order, what it
-- writes, and nothing else.
abbrev pub Served : System → Options → List (List ℕ) → Entries → List ℕ → Type 0
Served system options [] so_far text = text ≡ []
Served system options (line ∷ lines) so_far text =
    (first : List ℕ) × (rest : List ℕ) × (after : Entries)
    × AnswersRequest system options so_far (request_of line) first after
    × Served system options lines after rest × (text ≡ first ++ rest)
