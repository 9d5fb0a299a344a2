-- What an undo gives back.
use Rattle.std.proofs.Common.{◌≡◌, ◌+◌, ◌-◌, ℕ, zero, suc, inl, inr, List, [], ◌∷◌, ◌++◌, length, take, map, refl, sym, ap, ◌∙◌, subst, arith}
use Rattle.std.specs.Prelude.{Option, Some, None}
use Rattle.std.proofs.lemmas.List.{append-nil, append_assoc, length-append, map-append}
use Rattle.std.proofs.Math.Seq.{take-append_seam}
use Rattle.rn_model.specs.declared.log.Entry.{Entry}
use Rattle.rn_model.specs.declared.log.Entry.TheVariants.{Fire, End}
use Rattle.rn_model.specs.declared.log.Options.{Options}
use Rattle.rn_model.specs.declared.log.Reason.{Reason}
use Rattle.rn_model.specs.declared.log.Reason.TheVariants.{Fault}
use Rattle.rn_model.specs.declared.system.System.{System}
use Rattle.rn_model.specs.Liveness.{LivePart}
use Rattle.rn_model.specs.Runs.{Firing, entries_of}
use Rattle.rn_served.specs.Entries.{Entries, all_of, marking_of}
use Rattle.rn_served.specs.Listed.{AreEnabled}
use Rattle.rn_served.specs.Served.{AnswersRequest, FiresTo, TakesBack, UndoRefused, ok_text}
use Rattle.rn_served.specs.Undoing.{AreAlike, FiredInTurn, IsDone, OneOutcome, UndoGivesAllBack, UndoGivesBack}
use Rattle.rn_served.specs.declared.requests.FireAnswer.{FireAnswer}
use Rattle.rn_served.specs.declared.requests.FireAnswer.TheVariants.{Fired, Faulted, Refused}
use Rattle.rn_served.specs.declared.requests.Request.TheVariants.{Undo}

abbrev entry_of : Firing → Entry
entry_of f = Fire f.worker f.binding f.outs

-- the same entries are those of the same firings, with the same end
same_parts : (fs gs : List Firing) (a b : Option Reason) → entries_of fs a ≡ entries_of gs b →
    (fs ≡ gs) × (a ≡ b)
same_parts [] [] None None is = (refl, refl)
same_parts [] [] None (Some r) is = absurd (let no : ⊥ = cc in no)
same_parts [] [] (Some r) None is = absurd (let no : ⊥ = cc in no)
same_parts [] [] (Some r) (Some s) is = let same : r ≡ s = cc in (refl, ap Some same)
same_parts [] (g ∷ gs) None b is = absurd (let no : ⊥ = cc in no)
same_parts [] (g ∷ gs) (Some r) b is = absurd (let no : ⊥ = cc in no)
same_parts (f ∷ fs) [] a None is = absurd (let no : ⊥ = cc in no)
same_parts (f ∷ fs) [] a (Some s) is = absurd (let no : ⊥ = cc in no)
same_parts (f ∷ fs) (g ∷ gs) a b is =
    let rest : entries_of fs a ≡ entries_of gs b = cc in
    let worker : f.worker ≡ g.worker = cc in
    let binding : f.binding ≡ g.binding = cc in
    let outs : f.outs ≡ g.outs = cc in
    let first : f ≡ g =
    ap (λ w. let x : Firing = record { worker = w; binding = f.binding; outs = f.outs } in x) worker
    ∙ ap (λ c. let x : Firing = record { worker = g.worker; binding = c; outs = f.outs } in x) binding
    ∙ ap (λ os. let x : Firing = record { worker = g.worker; binding = g.binding; outs = os } in x) outs in
    let both = same_parts fs gs a b rest in
    (ap (λ x. x ∷ fs) first ∙ ap (λ xs. g ∷ xs) both.0, both.1)

pub same_entries : (a b : Entries) → all_of a ≡ all_of b → a ≡ b
same_entries a b is =
    let both = same_parts a.fired b.fired a.ended b.ended is in
    ap (λ fs. let x : Entries = record { fired = fs; ended = a.ended } in x) both.0
    ∙ ap (λ e. let x : Entries = record { fired = b.fired; ended = e } in x) both.1

-- one firing more, or the end
fired_more : (fs : List Firing) (f : Firing) →
    entries_of (fs ++ f ∷ []) None ≡ entries_of fs None ++ entry_of f ∷ []
fired_more fs f =
    append-nil (map entry_of (fs ++ f ∷ [])) ∙ map-append entry_of fs (f ∷ [])
    ∙ ap (λ es. es ++ entry_of f ∷ []) (sym (append-nil (map entry_of fs)))

ended_more : (fs : List Firing) (reason : Reason) →
    entries_of fs (Some reason) ≡ entries_of fs None ++ End reason ∷ []
ended_more fs reason = ap (λ es. es ++ End reason ∷ []) (sym (append-nil (map entry_of fs)))

-- these entries came after those of before
abbrev Came : List Entry → Entries → Entries → Type 0
Came es old new = all_of new ≡ all_of old ++ es

-- a firing that is done, or that ends the run, adds one
pub adds_one : (system : System) (options : Options) (old new : Entries) (k : ℕ) (answer : FireAnswer) →
    FiresTo system options old k answer new → IsDone answer →
    (es : List Entry) × (length es ≡ 1) × Came es old new
adds_one system options old new k (Fired step) (b, fired, may, count, fires, is) done = (
  Fire 1 b fired.outs ∷ [],
  refl,
  ap all_of is ∙ fired_more old.fired (record { worker = 1; binding = b; outs = fired.outs })
      ∙ ap (λ e. entries_of old.fired e ++ Fire 1 b fired.outs ∷ []) (sym may.going),
)
adds_one system options old new k Faulted (b, cause, may, fires, is) done = (
  End (Fault cause b) ∷ [],
  refl,
  ap all_of is ∙ ended_more old.fired (Fault cause b)
      ∙ ap (λ e. entries_of old.fired e ++ End (Fault cause b) ∷ []) (sym may.going),
)
adds_one system options old new k (Refused number) fires done = absurd done

-- and so many add as many
pub add_so_many : (system : System) (options : Options) (n : ℕ) (old new : Entries) →
    FiredInTurn system options n old new → (es : List Entry) × (length es ≡ n) × Came es old new
add_so_many system options zero old new is = ([], refl, ap all_of is ∙ sym (append-nil (all_of old)))
add_so_many system options (suc n) old new (mid, k, answer, fires, done, more) =
    let first = adds_one system options old mid k answer fires done in
    let rest = add_so_many system options n mid new more in
    let count = length-append first.0 rest.0 in
    let one = first.1 in
    let others = rest.1 in (
      first.0 ++ rest.0,
      omega (arith, count, one, others),
      rest.2 ∙ ap (λ es. es ++ rest.0) first.2 ∙ append_assoc (all_of old) first.0 rest.0,
    )

-- what came last is taken back
pub given_back : (n : ℕ) (es : List Entry) (old new back : Entries) → length es ≡ n →
    Came es old new → TakesBack n new back → back ≡ old
given_back n es old new back count came takes =
    let long : length (all_of new) ≡ length (all_of old) + n =
    ap length came ∙ length-append (all_of old) es ∙ ap (λ k. length (all_of old) + k) count in
    let left : length (all_of new) - n ≡ length (all_of old) = omega (arith, long) in
    same_entries back old
    (takes.left ∙ ap (λ k. take k (all_of new)) left ∙ ap (take (length (all_of old))) came
    ∙ take-append_seam (all_of old) es)

-- and is there to be taken back
not_refused : (n : ℕ) (es : List Entry) (old new : Entries) → length es ≡ suc n → Came es old new →
    ¬ UndoRefused (suc n) new
not_refused n es old new count came (inl none) = let no : ⊥ = omega (arith, none) in no
not_refused n es old new count came (inr few) =
    let long = ap length came ∙ length-append (all_of old) es in
    let no : ⊥ = omega (arith, long, count, few) in no

-- the same entries are alike in all
alike : (system : System) (options : Options) (a b : Entries) → a ≡ b → AreAlike system options a b
alike system options a b is = record {
  entries = is;
  marking = ap (marking_of system) is;
  next = ap (λ x. (marking_of system x).next) is;
  list = λ found. (
    subst (λ x. AreEnabled system (marking_of system x) options.depth found) is,
    subst (λ x. AreEnabled system (marking_of system x) options.depth found) (sym is),
  );
  marks = λ marks. (
    subst (λ x. LivePart system (marking_of system x) marks) is,
    subst (λ x. LivePart system (marking_of system x) marks) (sym is),
  );
}

-- an undo of as many as came
undone : (system : System) (options : Options) (n : ℕ) (es : List Entry) (old new back : Entries)
    (text : List ℕ) → length es ≡ suc n → Came es old new →
    AnswersRequest system options new (Undo (suc n)) text back →
    (text ≡ ok_text) × AreAlike system options back old
undone system options n es old new back text count came (inl (takes, ok)) =
    (ok, alike system options back old (given_back (suc n) es old new back count came takes))
undone system options n es old new back text count came (inr (refused, other, same)) =
    absurd (not_refused n es old new count came refused)

pub undo_gives_back : UndoGivesBack
undo_gives_back system options before after back k answer text fires done undoes =
    let came = adds_one system options before after k answer fires done in
    undone system options 0 came.0 before after back text came.1 came.2 undoes

pub undo_gives_all_back : UndoGivesAllBack
undo_gives_all_back system options n before after back text fired undoes =
    let came = add_so_many system options (suc n) before after fired in
    undone system options n came.0 before after back text came.1 came.2 undoes

pub one_outcome : OneOutcome
one_outcome k old new other takes again = same_entries new other (takes.left ∙ sym again.left)
