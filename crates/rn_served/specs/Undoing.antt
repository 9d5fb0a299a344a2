-- The law of undo: it gives back what was before the firings that it takes back.
use Rattle.std.specs.Prelude.{ℕ, zero, suc, ◌≡◌, ◌↔◌, List, ⊤}
use Rattle.rn_model.specs.declared.system.System.{System}
use Rattle.rn_model.specs.declared.binding.Binding.{Binding}
use Rattle.rn_model.specs.declared.log.MarkLine.{MarkLine}
use Rattle.rn_model.specs.declared.log.Options.{Options}
use Rattle.rn_model.specs.Liveness.{LivePart}
use Rattle.rn_served.specs.Entries.{Entries, marking_of}
use Rattle.rn_served.specs.Listed.{AreEnabled}
use Rattle.rn_served.specs.Served.{AnswersRequest, FiresTo, TakesBack, ok_text}
use Rattle.rn_served.specs.declared.requests.Request.TheVariants as Ask
use Rattle.rn_served.specs.declared.requests.FireAnswer.{FireAnswer}
use Rattle.rn_served.specs.declared.requests.FireAnswer.TheVariants as Gives

-- a firing that was done, or that ended the run
abbrev pub IsDone : FireAnswer → Type 0
IsDone (Gives.Refused number) = ⊥
IsDone _ = ⊤

-- So many firings, one after the other, each of which was done.
abbrev pub FiredInTurn : System → Options → ℕ → Entries → Entries → Type 0
FiredInTurn system options zero old new = new ≡ old
FiredInTurn system options (suc n) old new =
    (mid : Entries) × (k : ℕ) × (answer : FireAnswer)
    × FiresTo system options old k answer mid × IsDone answer
    × FiredInTurn system options n mid new

-- Two courses of a session are alike: they have the same entries, and so the same marking and next
-- number, the same list and the same marks.
pub record AreAlike (system : System) (options : Options) (a b : Entries) : Type 0 where
  pub entries : a ≡ b
  pub marking : marking_of system a ≡ marking_of system b
  pub next : (marking_of system a).next ≡ (marking_of system b).next
  pub list : (found : List Binding) → AreEnabled system (marking_of system a) options.depth found
      ↔ AreEnabled system (marking_of system b) options.depth found
  pub marks : (marks : List MarkLine) →
      LivePart system (marking_of system a) marks ↔ LivePart system (marking_of system b) marks

-- After one firing `undo 1` is done, and gives what was before.
abbrev pub UndoGivesBack : Type 0
UndoGivesBack = (system : System) (options : Options) (before after back : Entries) (k : ℕ)
    (answer : FireAnswer) (text : List ℕ) →
    FiresTo system options before k answer after → IsDone answer →
    AnswersRequest system options after (Ask.Undo 1) text back →
    (text ≡ ok_text) × AreAlike system options back before

-- After so many firings, where there was one, an undo of as many is done, and gives what was before
-- them.
abbrev pub UndoGivesAllBack : Type 0
UndoGivesAllBack = (system : System) (options : Options) (n : ℕ) (before after back : Entries)
    (text : List ℕ) →
    FiredInTurn system options (suc n) before after →
    AnswersRequest system options after (Ask.Undo (suc n)) text back →
    (text ≡ ok_text) × AreAlike system options back before

-- `undo` is done exactly where there are so many entries, and then has one outcome.
abbrev pub OneOutcome : Type 0
OneOutcome = (k : ℕ) (old new other : Entries) → TakesBack k old new → TakesBack k old other →
    new ≡ other
