-- The texts of two least logs differ in workers alone.
use Rattle.std.proofs.Common.{◌≡◌, ℕ, List, [], ◌∷◌, refl, ap, ◌∙◌}
use Rattle.rn_value.specs.declared.value.Value.{Value}
use Rattle.rn_model.specs.declared.binding.Binding.{Binding}
use Rattle.rn_model.specs.Runs.{Firing}
use Rattle.rn_least.specs.Laws.{bindings_of, printed_by}
use Rattle.rn_least.proofs.OneRun.{least_logs_are_alike}
use Rattle.rn_commands.specs.LeastLaws.{LeastTextsAreOne, all_by}
use Rattle.rn_commands.specs.Runs.{run_text}

abbrev firing_of : ℕ → Binding → List Value → Firing
firing_of worker b outs = record { worker = worker; binding = b; outs = outs }

all_by_same : (worker : ℕ) (fs gs : List Firing) → bindings_of fs ≡ bindings_of gs →
    printed_by fs ≡ printed_by gs → all_by worker fs ≡ all_by worker gs
all_by_same worker [] [] bindings printed = refl
all_by_same worker [] (g ∷ gs) bindings printed = absurd (let no : ⊥ = cc in no)
all_by_same worker (f ∷ fs) [] bindings printed = absurd (let no : ⊥ = cc in no)
all_by_same worker (f ∷ fs) (g ∷ gs) bindings printed =
    let b : f.binding ≡ g.binding = cc in
    let o : f.outs ≡ g.outs = cc in
    let others : bindings_of fs ≡ bindings_of gs = cc in
    let outs : printed_by fs ≡ printed_by gs = cc in
    ap (λ x. firing_of worker x f.outs ∷ all_by worker fs) b
    ∙ ap (λ x. firing_of worker g.binding x ∷ all_by worker fs) o
    ∙ ap (λ xs. firing_of worker g.binding g.outs ∷ xs) (all_by_same worker fs gs others outs)

pub least_texts_are_one : LeastTextsAreOne
least_texts_are_one format system options others fs gs reason end marks lines worker same log other memory
    memory' part part' =
    let alike = least_logs_are_alike system options others fs gs reason end same log other memory
    memory' in
    ap (λ xs. run_text format system xs reason marks)
    (all_by_same worker fs gs alike.bindings alike.printed)
    ∙ ap (λ r. run_text format system (all_by worker gs) r marks) alike.reasons
    ∙ ap (run_text format system (all_by worker gs) end) (alike.marks marks lines part part')
