-- Lines tell one thing.
use Rattle.std.proofs.Common.{◌≡◌, ℕ, ◌+◌, List, [], refl, sym, ap, ◌∙◌, subst, arith, drop}
use Rattle.std.specs.Prelude.{Option, Some, None}
use Rattle.rn_model.specs.declared.system.System.{System}
use Rattle.rn_model.specs.declared.log.Entry.{Entry}
use Rattle.rn_lines.specs.LineText.{LineSaid}
use Rattle.rn_lines.specs.declared.lines.Ending.{Ending}
use Rattle.rn_lines.specs.declared.lines.Ending.TheVariants.{Dead}
use Rattle.rn_record_reader.specs.Lines.{lines_in}
use Rattle.rn_record_reader.specs.Called.{BadAt}
use Rattle.rn_record_reader.specs.Firings.{FiringRead, firing_read}
use Rattle.rn_record_reader.specs.Runs.{Verdict, with_entry, Opening, end_read, Tells, TellsAfter, first_line, first_made}

-- the parts of what begins, and of what is read
abbrev kind : Opening → ℕ
kind (Opening.firing worker) = 0
kind (Opening.ending e) = 1
kind Opening.neither = 2

abbrev worker_of : Opening → ℕ
worker_of (Opening.firing worker) = worker
worker_of (Opening.ending e) = 0
worker_of Opening.neither = 0

abbrev ending_of : Opening → Ending
ending_of (Opening.firing worker) = Dead
ending_of (Opening.ending e) = e
ending_of Opening.neither = Dead

abbrev sort : FiringRead → ℕ
sort (FiringRead.fired entry all count rest) = 0
sort (FiringRead.broken b) = 1

abbrev bad_of : BadAt → FiringRead → BadAt
bad_of d (FiringRead.fired entry all count rest) = d
bad_of d (FiringRead.broken b) = b

abbrev entry_of : Entry → FiringRead → Entry
entry_of d (FiringRead.fired entry all count rest) = entry
entry_of d (FiringRead.broken b) = d

abbrev all_of : FiringRead → List ℕ
all_of (FiringRead.fired entry all count rest) = all
all_of (FiringRead.broken b) = []

abbrev count_of : FiringRead → ℕ
count_of (FiringRead.fired entry all count rest) = count
count_of (FiringRead.broken b) = 0

abbrev rest_of : FiringRead → List (Option LineSaid)
rest_of (FiringRead.fired entry all count rest) = rest
rest_of (FiringRead.broken b) = []

-- two kinds don't begin at once
apart : {o a b : Opening} {A : Type 0} → o ≡ a → o ≡ b → (kind a ≡ kind b → ⊥) → A
apart p q differ = absurd (differ (ap kind (sym p ∙ q)))

-- what is read by one worker is read by the other
same : (system : System) (made : List ℕ) (step : ℕ) (lines : List (Option LineSaid)) {o : Opening}
    {worker other : ℕ} {r s : FiringRead} → o ≡ Opening.firing worker → o ≡ Opening.firing other →
    firing_read system made step worker lines ≡ r → firing_read system made step other lines ≡ s → s ≡ r
same system made step lines p q is also =
    sym also ∙ ap (λ k. firing_read system made step (worker_of k) lines) (sym q ∙ p) ∙ is

pub tells_one : (format : ℕ) (system : System) (made : List ℕ) (step line : ℕ) (lines : List (Option LineSaid))
    (v w : Verdict) → Tells format system made step line lines v → Tells format system made step line lines w → v ≡ w
tells_one format system made step line lines v w (Tells.stray p) (Tells.stray q) = refl
tells_one format system made step line lines v w (Tells.stray p) (Tells.ended q) = apart p q (λ h. omega (arith, h))
tells_one format system made step line lines v w (Tells.stray p) (Tells.broken q s) = apart p q (λ h. omega (arith, h))
tells_one format system made step line lines v w (Tells.stray p) (Tells.fired q s t) = apart p q (λ h. omega (arith, h))
tells_one format system made step line lines v w (Tells.ended p) (Tells.stray q) = apart p q (λ h. omega (arith, h))
tells_one format system made step line lines v w (Tells.ended p) (Tells.ended q) =
    ap (λ o. end_read format system made (line + 1) (ending_of o) (drop 1 lines)) (sym p ∙ q)
tells_one format system made step line lines v w (Tells.ended p) (Tells.broken q s) = apart p q (λ h. omega (arith, h))
tells_one format system made step line lines v w (Tells.ended p) (Tells.fired q s t) = apart p q (λ h. omega (arith, h))
tells_one format system made step line lines v w (Tells.broken p r) (Tells.stray q) = apart p q (λ h. omega (arith, h))
tells_one format system made step line lines v w (Tells.broken p r) (Tells.ended q) = apart p q (λ h. omega (arith, h))
tells_one format system made step line lines v w (Tells.broken {b = b} p r) (Tells.broken q s) =
    ap (λ x. Verdict.bad (line + (bad_of b x).before) (bad_of b x).refusal) (sym (same system made step lines p q r s))
tells_one format system made step line lines v w (Tells.broken p r) (Tells.fired q s t) =
    absurd (let h = ap sort (same system made step lines p q r s) in omega (arith, h))
tells_one format system made step line lines v w (Tells.fired p r t) (Tells.stray q) = apart p q (λ h. omega (arith, h))
tells_one format system made step line lines v w (Tells.fired p r t) (Tells.ended q) = apart p q (λ h. omega (arith, h))
tells_one format system made step line lines v w (Tells.fired p r t) (Tells.broken q s) =
    absurd (let h = ap sort (same system made step lines p q r s) in omega (arith, h))
tells_one format system made step line lines v w (Tells.fired {all = all} {count = count} {rest = rest} {entry = entry} {v = x} p r t) (Tells.fired {v = y} q s u) =
    let is = same system made step lines p q r s in
    let told = subst (λ k. Tells format system (all_of k) (step + 1) (line + count_of k) (rest_of k) y) is u in
    ap (with_entry entry) (tells_one format system all (step + 1) (line + count) rest x y t told)
    ∙ ap (λ k. with_entry (entry_of entry k) y) (sym is)

-- so do bytes after the name of the format
pub told_one : (format : ℕ) (system : System) (o : Option (List ℕ)) (v w : Verdict) →
    TellsAfter format system o v → TellsAfter format system o w → v ≡ w
told_one format system (Some bytes) v w p q = tells_one format system (first_made system) 1 (first_line format) (lines_in bytes) v w p q
told_one format system None v w p q = p ∙ sym q
