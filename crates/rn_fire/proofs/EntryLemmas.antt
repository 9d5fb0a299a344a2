-- Entries as firings and an end.
use Rattle.std.proofs.Common.{◌≡◌, ◌≢◌, ℕ, ◌+◌, List, [], ◌∷◌, ◌++◌, length, map, refl, sym, ap, ◌∙◌, subst}
use Rattle.std.specs.Prelude.{Option, Some, None, Contains, slice_get}
use Rattle.std.proofs.lemmas.List.{append-nil, length-append, length-map, map-append}
use Rattle.rn_model.specs.declared.log.Entry.{Entry}
use Rattle.rn_model.specs.declared.log.Entry.TheVariants.{Fire, End}
use Rattle.rn_model.specs.declared.log.Reason.{Reason}
use Rattle.rn_model.specs.Runs.{Firing, entries_of}
use Rattle.rn_model.proofs.AskedValues.{got_contained, map_source}
use Rattle.rn_fire.specs.States.{State, logged}
use Rattle.rn_fire.specs.link.States.{firings_in, end_in}

abbrev pub entry_of : Firing → Entry
entry_of f = Fire f.worker f.binding f.outs

-- the firings of a log's entries, and its end
pub firings_of : (fs : List Firing) (ended : Option Reason) → firings_in (entries_of fs ended) ≡ fs
firings_of [] None = refl
firings_of [] (Some reason) = refl
firings_of (f ∷ fs) ended = ap (λ gs. f ∷ gs) (firings_of fs ended)

-- their end is that of the log
pub end_of_entries : (fs : List Firing) (ended : Option Reason) → end_in (entries_of fs ended) ≡ ended
end_of_entries [] None = refl
end_of_entries [] (Some reason) = refl
end_of_entries (f ∷ fs) ended = end_of_entries fs ended

-- one firing more
pub fired_more : (fs : List Firing) (f : Firing) →
    entries_of fs None ++ entry_of f ∷ [] ≡ entries_of (fs ++ f ∷ []) None
fired_more fs f =
    ap (λ es. es ++ entry_of f ∷ []) (append-nil (map entry_of fs))
    ∙ sym (map-append entry_of fs (f ∷ []))
    ∙ sym (append-nil (map entry_of (fs ++ f ∷ [])))

-- the end
pub ended_more : (fs : List Firing) (reason : Reason) →
    entries_of fs None ++ End reason ∷ [] ≡ entries_of fs (Some reason)
ended_more fs reason = ap (λ es. es ++ End reason ∷ []) (append-nil (map entry_of fs))

-- how many entries there are
pub count_going : (fs : List Firing) → length (entries_of fs None) ≡ length fs
count_going fs = ap length (append-nil (map entry_of fs)) ∙ length-map fs entry_of

pub going_count : (s : State) → s.ended ≡ None → length (logged s) ≡ length s.fired
going_count s going = ap (λ e. length (entries_of s.fired e)) going ∙ count_going s.fired

-- and with an end there is one more
pub count_ended : (fs : List Firing) (reason : Reason) →
    length (entries_of fs (Some reason)) ≡ length fs + 1
count_ended fs reason =
    length-append (map entry_of fs) (End reason ∷ []) ∙ ap (λ n. n + 1) (length-map fs entry_of)

-- a log whose last entry is an end has ended
pub last_tells : (entries : List Entry) (fs : List Firing) (ended : Option Reason) (reason : Reason) (k : ℕ) →
    entries ≡ entries_of fs ended → slice_get entries k ≡ Some (End reason) → ended ≢ None
last_tells entries fs ended reason k are last none =
    let firings : entries ≡ map entry_of fs =
    are ∙ ap (entries_of fs) none ∙ append-nil (map entry_of fs) in
    let from = map_source entry_of fs (End reason)
    (subst (λ es. Contains es (End reason)) firings (got_contained entries k (End reason) last)) in
    let both : entry_of from.0 ≡ End reason = from.2 in
    absurd (let no : ⊥ = cc in no)
