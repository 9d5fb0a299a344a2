-- Reading of lines, in both directions.
use Rattle.std.proofs.Common.{◌≡◌, ◌≤◌, ◌+◌, ◌-◌, ℕ, List, [], ◌∷◌, ◌++◌, length, Bool, true, false, cond, nat_eq, refl, sym, ap, ◌∙◌, subst, arith, append_assoc}
use Rattle.std.specs.Prelude.{Option, Some, None}
use Rattle.std.proofs.lemmas.List.{append-nil}
use Rattle.std.proofs.lemmas.Option.{same_Some, cond_some}
use borrow.Author.Tests.{ne_eqb, eqb-true, eqb-false}
use Rattle.rn_value.specs.Grammar.{IsNumeral}
use Rattle.rn_value.specs.Words.{IsName}
use Rattle.rn_lines.specs.ValueText.{Said, Seen, IsValue, most_brackets}
use Rattle.rn_lines.specs.NodeText.{IsInstance}
use Rattle.rn_lines.specs.LineText.{LeadSaid, Token, Held, LineSaid, IsLead, AreItems, IsLine}
use Rattle.rn_lines.specs.Reading.{◌>>=◌, numeral_at, byte_at, name_at, inst_at, seen_at}
use Rattle.rn_lines.specs.LineReading.{step_at, worker_at, lead_at, last_at, items_at, mark_at}
use Rattle.rn_lines.proofs.NumeralReading.{bind_some, numeral_reads, NumeralAt, numeral_read, step_reads, step_read}
use Rattle.rn_lines.proofs.InstanceReading.{byte_reads, byte_read, name_reads, name_read, inst_reads, inst_read}
use Rattle.rn_lines.proofs.Beginnings.{seen_reads, seen_read}
use Rattle.rn_lines.proofs.Rows.{no_bytes}
use Rattle.rn_lines.proofs.ItemReadings.{item_delimits, items_length, items_reads, items_read}

-- The worker of a firing's line,
abbrev as_worker : ℕ → List ℕ → Option (ℕ × List ℕ)
as_worker n rest = Some (n, rest)

abbrev after_worker : ℕ × List ℕ → Option (ℕ × List ℕ)
after_worker n = cond (nat_eq n.0 0) None (byte_at 32 n.1 >>= as_worker n.0)

worker_reads : {worker : ℕ} {digits : List ℕ} → 1 ≤ worker → worker ≤ 64 → IsNumeral worker digits → (rest : List ℕ) → worker_at (digits ++ (32 ∷ rest)) ≡ Some (worker, rest)
worker_reads {worker} {digits} low high p rest =
    ap (λ o. o >>= after_worker) (numeral_reads p 64 (32 ∷ rest) high refl)
    ∙ ap (λ t. cond t None (byte_at 32 (32 ∷ rest) >>= as_worker worker)) (ne_eqb worker 0 (λ e. omega arith))
    ∙ ap (λ o. o >>= as_worker worker) (byte_reads 32 rest)

record WorkerAt (bytes : List ℕ) (x : ℕ × List ℕ) : Type 0 where
  digits : List ℕ
  whole : bytes ≡ digits ++ (32 ∷ x.1)
  low : 1 ≤ x.0
  high : x.0 ≤ 64
  stands : IsNumeral x.0 digits

worker_read : (bytes : List ℕ) (x : ℕ × List ℕ) → worker_at bytes ≡ Some x → WorkerAt bytes x
worker_read bytes x e =
    let n = bind_some (numeral_at 64 bytes) after_worker x e in
    by n.0 (numeral_read 64 bytes n.0 n.1) (nat_eq n.0.0 0) refl n.2
  where
    by : (n : ℕ × List ℕ) → NumeralAt 64 bytes n → (t : Bool) → nat_eq n.0 0 ≡ t → cond t None (byte_at 32 n.1 >>= as_worker n.0) ≡ Some x → WorkerAt bytes x
    by n here true is e = cc
    by n here false is e =
        let space = bind_some (byte_at 32 n.1) (as_worker n.0) x e in
        let above : ¬ (n.0 ≡ 0) = eqb-false n.0 0 is in
        subst (WorkerAt bytes) (same_Some (n.0, space.0) x space.2)
        (record { digits = here.digits; whole = here.whole ∙ ap (λ rest. here.digits ++ rest) (byte_read 32 n.1 space.0 space.1); low = omega (arith, above); high = here.low; stands = here.stands })

-- and both
abbrev as_lead : List ℕ → ℕ × List ℕ → Option (LeadSaid × List ℕ)
as_lead step worker = Some (record { step = step; worker = worker.0 }, worker.1)

abbrev after_sign : List ℕ → List ℕ → Option (LeadSaid × List ℕ)
after_sign step sign = byte_at 119 sign >>= λ digits. worker_at digits >>= as_lead step

abbrev after_step : List ℕ × List ℕ → Option (LeadSaid × List ℕ)
after_step step = byte_at 32 step.1 >>= after_sign step.0

pub lead_reads : {l : LeadSaid} {a : List ℕ} → IsLead l a → (rest : List ℕ) → lead_at (a ++ rest) ≡ Some (l, rest)
lead_reads (IsLead.lead {worker = worker} {step = step} {digits = digits} p low high q) rest =
    let regrouped : (step ++ (32 ∷ 119 ∷ (digits ++ 32 ∷ []))) ++ rest ≡ step ++ (32 ∷ 119 ∷ (digits ++ (32 ∷ rest))) =
    append_assoc step (32 ∷ 119 ∷ (digits ++ 32 ∷ [])) rest ∙ ap (λ d. step ++ (32 ∷ 119 ∷ d)) (append_assoc digits (32 ∷ []) rest) in
    ap lead_at regrouped
    ∙ ap (λ o. o >>= after_step) (step_reads p (32 ∷ 119 ∷ (digits ++ (32 ∷ rest))) refl)
    ∙ ap (λ o. o >>= after_sign step) (byte_reads 32 (119 ∷ (digits ++ (32 ∷ rest))))
    ∙ ap (λ o. o >>= λ digits. worker_at digits >>= as_lead step) (byte_reads 119 (digits ++ (32 ∷ rest)))
    ∙ ap (λ o. o >>= as_lead step) (worker_reads low high q rest)

pub record LeadAt (bytes : List ℕ) (x : LeadSaid × List ℕ) : Type 0 where
  pub text : List ℕ
  pub whole : bytes ≡ text ++ x.1
  pub stands : IsLead x.0 text

pub lead_read : (bytes : List ℕ) (x : LeadSaid × List ℕ) → lead_at bytes ≡ Some x → LeadAt bytes x
lead_read bytes x e =
    let step = bind_some (step_at bytes) after_step x e in
    let space = bind_some (byte_at 32 step.0.1) (after_sign step.0.0) x step.2 in
    let sign = bind_some (byte_at 119 space.0) (λ digits. worker_at digits >>= as_lead step.0.0) x space.2 in
    let worker = bind_some (worker_at sign.0) (as_lead step.0.0) x sign.2 in
    let here = step_read bytes step.0 step.1 in
    let by = worker_read sign.0 worker.0 worker.1 in
    let text : List ℕ = step.0.0 ++ (32 ∷ 119 ∷ (by.digits ++ 32 ∷ [])) in
    let whole : bytes ≡ text ++ worker.0.1 =
    here.0
    ∙ ap (λ b. step.0.0 ++ b) (byte_read 32 step.0.1 space.0 space.1 ∙ ap (λ b. 32 ∷ b) (byte_read 119 space.0 sign.0 sign.1 ∙ ap (λ b. 119 ∷ b) by.whole))
    ∙ ap (λ d. step.0.0 ++ (32 ∷ 119 ∷ d)) (sym (append_assoc by.digits (32 ∷ []) worker.0.1))
    ∙ sym (append_assoc step.0.0 (32 ∷ 119 ∷ (by.digits ++ 32 ∷ [])) worker.0.1) in
    subst (LeadAt bytes) (same_Some (record { step = step.0.0; worker = worker.0.0 }, worker.0.1) x worker.2)
    (record { text = text; whole = whole; stands = IsLead.lead here.1 by.low by.high by.stands })

-- A value up to the end
abbrev as_last : Seen → Option Token
as_last v = cond (nat_eq (length v.rest) 0) (Some (record { value = v.value; named = v.named })) None

pub last_reads : (t : Token) (a : List ℕ) → IsValue most_brackets t.value t.named a → last_at a ≡ Some t
last_reads t a stands =
    ap (λ o. o >>= as_last) (seen_reads a (record { value = t.value; named = t.named; rest = [] }) (record { text = a; whole = sym (append-nil a); stands = stands; delimited = tt }))

pub last_read : (bytes : List ℕ) (t : Token) → last_at bytes ≡ Some t → IsValue most_brackets t.value t.named bytes
last_read bytes t e =
    let v = bind_some (seen_at bytes) as_last t e in
    let tests = cond_some (nat_eq (length v.0.rest) 0) (record { value = v.0.value; named = v.0.named }) t v.2 in
    let here = seen_read bytes v.0 v.1 in
    let whole : bytes ≡ here.text = here.whole ∙ ap (λ rest. here.text ++ rest) (no_bytes v.0.rest (eqb-true (length v.0.rest) 0 tests.0)) ∙ append-nil here.text in
    subst (λ t. IsValue most_brackets t.value t.named bytes) tests.1 (subst (IsValue most_brackets v.0.value v.0.named) (sym whole) here.stands)

-- Marks
abbrev as_mark : Said → List ℕ → List Held → Option LineSaid
as_mark inst place items = cond (nat_eq (length items) 0) None (Some (LineSaid.holds inst place items))

abbrev after_place : Said → List ℕ × List ℕ → Option LineSaid
after_place inst place = items_at (length place.1) place.1 >>= as_mark inst place.0

abbrev after_inst : Said × List ℕ → Option LineSaid
after_inst inst = byte_at 46 inst.1 >>= λ word. name_at word >>= after_place inst.0

instance_reads : {inst : Said} {a : List ℕ} → IsInstance inst a → (rest : List ℕ) → inst_at (a ++ rest) ≡ Some (inst, rest)
instance_reads (IsInstance.instance is low high p) rest = inst_reads is low high p rest

pub mark_reads : {inst : Said} {place a b : List ℕ} {h : Held} {items : List Held} → IsInstance inst a → IsName place → AreItems (h ∷ items) b → mark_at (a ++ (46 ∷ (place ++ b))) ≡ Some (LineSaid.holds inst place (h ∷ items))
mark_reads {inst} {place} {a} {b} {h} {items} is named all =
    ap (λ o. o >>= after_inst) (instance_reads is (46 ∷ (place ++ b)))
    ∙ ap (λ o. o >>= λ word. name_at word >>= after_place inst) (byte_reads 46 (place ++ b))
    ∙ ap (λ o. o >>= after_place inst) (name_reads place b named (item_delimits all).name)
    ∙ ap (λ o. o >>= as_mark inst place) (items_reads all (length b) (items_length all))
    ∙ ap (λ u. cond u None (Some (LineSaid.holds inst place (h ∷ items)))) (ne_eqb (length (h ∷ items)) 0 (λ e. omega arith))

pub mark_read : (bytes : List ℕ) (x : LineSaid) → mark_at bytes ≡ Some x → IsLine x bytes
mark_read bytes x e =
    let inst = bind_some (inst_at bytes) after_inst x e in
    let point = bind_some (byte_at 46 inst.0.1) (λ word. name_at word >>= after_place inst.0.0) x inst.2 in
    let place = bind_some (name_at point.0) (after_place inst.0.0) x point.2 in
    let items = bind_some (items_at (length place.0.1) place.0.1) (as_mark inst.0.0 place.0.0) x place.2 in
    let here = inst_read bytes inst.0 inst.1 in
    let named = name_read point.0 place.0 place.1 in
    let whole : bytes ≡ (inst.0.0.name ++ (91 ∷ here.digits ++ 93 ∷ [])) ++ (46 ∷ (place.0.0 ++ place.0.1)) =
    here.whole ∙ ap (λ b. (inst.0.0.name ++ (91 ∷ here.digits ++ 93 ∷ [])) ++ b) (byte_read 46 inst.0.1 point.0 point.1 ∙ ap (λ b. 46 ∷ b) named.0) in
    by inst.0.0 (inst.0.0.name ++ (91 ∷ here.digits ++ 93 ∷ [])) place.0.0 place.0.1 items.0 (items_read (length place.0.1) place.0.1 items.0 items.1) items.2 whole (IsInstance.instance here.named here.low here.high here.stands) named.1
  where
    by : (inst : Said) (a place b : List ℕ) (hs : List Held) → AreItems hs b → as_mark inst place hs ≡ Some x → bytes ≡ a ++ (46 ∷ (place ++ b)) → IsInstance inst a → IsName place → IsLine x bytes
    by inst a place b [] all e whole is named = cc
    by inst a place b (h ∷ hs) all e whole is named =
        let some : nat_eq (length (h ∷ hs)) 0 ≡ false = ne_eqb (length (h ∷ hs)) 0 (λ e. omega arith) in
        let said : Some (LineSaid.holds inst place (h ∷ hs)) ≡ Some x = sym (ap (λ u. cond u None (Some (LineSaid.holds inst place (h ∷ hs)))) some) ∙ e in
        subst (λ x. IsLine x bytes) (same_Some (LineSaid.holds inst place (h ∷ hs)) x said) (subst (IsLine (LineSaid.holds inst place (h ∷ hs))) (sym whole) (IsLine.holds is named all))
