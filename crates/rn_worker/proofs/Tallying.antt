-- How many firings have a worker's number.
use Rattle.std.proofs.Common.{◌≡◌, ◌≢◌, ℕ, suc, ◌<◌, ◌≤◌, ◌==◌, Bool, true, false, cond, List, [], ◌∷◌, ◌++◌, length, map, refl, sym, ap, ◌∙◌, arith, eq-eqb, append-nil}
use Rattle.std.specs.Prelude.{Option, Some, None}
use Rattle.std.proofs.lemmas.List.Elements.{All-cons, All-nil}
use Rattle.rn_model.specs.declared.log.Entry.{Entry}
use Rattle.rn_model.specs.declared.log.Entry.TheVariants.{Fire, End}
use Rattle.rn_model.specs.declared.log.Reason.{Reason}
use Rattle.rn_model.specs.declared.system.System.{System}
use Rattle.rn_model.specs.Markings.{Marking}
use Rattle.rn_model.specs.Runs.{Firing, RunFrom, after_firing, end_entries, entries_of}
use Rattle.rn_desk.specs.Entries.{authored}
use Rattle.rn_desk.proofs.Histories.{authored-append, authored_by_other}
use Rattle.rn_fire.specs.States.{author_of}
use Rattle.rn_worker.specs.Ends.{AreOfWorkers, fired_by}

abbrev entry_of : Firing → Entry
entry_of f = Fire f.worker f.binding f.outs

count_alike : {A B : Type 0} (b : Bool) (x : A) (xs : List A) (y : B) (ys : List B) →
    length xs ≡ length ys → length (cond b (x ∷ xs) xs) ≡ length (cond b (y ∷ ys) ys)
count_alike true x xs y ys same = omega (arith, same)
count_alike false x xs y ys same = same

own_firings : (n : ℕ) (fs : List Firing) →
    length (authored author_of n (map entry_of fs)) ≡ fired_by n fs
own_firings n [] = refl
own_firings n (f ∷ fs) =
    count_alike (f.worker == n) (entry_of f) (authored author_of n (map entry_of fs)) f _
    (own_firings n fs)

no_end : (n : ℕ) → 0 ≢ n → (ended : Option Reason) → authored author_of n (end_entries ended) ≡ []
no_end n some None = refl
no_end n some (Some reason) = authored_by_other author_of n (End reason) some

-- the entries that a worker authored are its firings
authored_firings : (n : ℕ) → 0 ≢ n → (fs : List Firing) (ended : Option Reason) →
    authored author_of n (entries_of fs ended) ≡ authored author_of n (map entry_of fs)
authored_firings n some fs ended =
    authored-append author_of n (map entry_of fs) (end_entries ended)
    ∙ ap (λ es. authored author_of n (map entry_of fs) ++ es) (no_end n some ended)
    ∙ append-nil (authored author_of n (map entry_of fs))

-- a worker authored as many entries as it has firings
pub own_count : (n : ℕ) → 0 ≢ n → (fs : List Firing) (ended : Option Reason) →
    length (authored author_of n (entries_of fs ended)) ≡ fired_by n fs
own_count n some fs ended = ap length (authored_firings n some fs ended) ∙ own_firings n fs

-- Where no entry has an author above a number, no firing has.
none_first : (n : ℕ) (x : Entry) (xs : List Entry) → cond (n == n) (x ∷ xs) xs ≡ [] → ⊥
none_first n x xs none =
    let here : cond (n == n) (x ∷ xs) xs ≡ x ∷ xs = ap (λ b. cond b (x ∷ xs) xs) (eq-eqb n n refl) in
    let count = ap length (sym here ∙ none) in
    let never : ⊥ = omega (arith, count) in never

none_then : (b : Bool) (x : Entry) (xs : List Entry) → cond b (x ∷ xs) xs ≡ [] → xs ≡ []
none_then true x xs none =
    let count = ap length none in absurd (let never : ⊥ = omega (arith, count) in never)
none_then false x xs none = none

few_from : (workers : ℕ) (system : System) (depth step : ℕ) (m : Marking) (fs : List Firing) →
    RunFrom system depth step m fs →
    ((n : ℕ) → workers < n → authored author_of n (map entry_of fs) ≡ []) →
    AreOfWorkers workers fs
few_from workers system depth step m [] run none = All-nil _
few_from workers system depth step m (f ∷ fs) (fires, run) none =
    let rest = λ (n : ℕ). authored author_of n (map entry_of fs) in
    let most = λ (above : workers < f.worker).
    none_first f.worker (entry_of f) (rest f.worker) (none f.worker above) in
    let Is : Firing → Type 0 = λ g. (1 ≤ g.worker) × (g.worker ≤ workers) in
    let here : Is f = (fires.worker.0, omega (arith, most)) in
    All-cons Is f fs here
    (few_from workers system depth (suc step) (after_firing system step m f) fs run
    (λ n above. none_then (f.worker == n) (entry_of f) (rest n) (none n above)))

-- where no entry is by a worker above a number, all firings are by workers up to it
pub few_workers : (workers : ℕ) (system : System) (depth : ℕ) (m : Marking) (fs : List Firing)
    (ended : Option Reason) → RunFrom system depth 1 m fs →
    ((n : ℕ) → workers < n → authored author_of n (entries_of fs ended) ≡ []) →
    AreOfWorkers workers fs
few_workers workers system depth m fs ended run none =
    few_from workers system depth 1 m fs run
    (λ n above. sym (authored_firings n (λ e. let never : ⊥ = omega (arith, e, above) in never) fs ended)
    ∙ none n above)
