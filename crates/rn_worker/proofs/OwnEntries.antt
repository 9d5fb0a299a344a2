-- What a turn in which one entry came at most adds to a log, and of what its worker authored.
use Rattle.std.proofs.Common.{◌≡◌, ◌≢◌, ℕ, ◌+◌, ◌≤◌, List, [], ◌∷◌, ◌++◌, length, refl, sym, ap, ◌∙◌, inl, inr, arith}
use Rattle.std.specs.Prelude.{◌⊎◌, Bool, true, false, Option, Some, None}
use Rattle.std.proofs.lemmas.List.{append-nil, length-append}
use Rattle.rn_model.specs.declared.log.Entry.{Entry}
use Rattle.rn_model.specs.declared.log.Entry.TheVariants.{End}
use Rattle.rn_model.specs.declared.log.Reason.{Reason}
use Rattle.rn_model.specs.Runs.{Firing, entries_of}
use Rattle.rn_desk.specs.Entries.{AddsAtMostOne, GrowsOwn, StartsWith}
use Rattle.rn_fire.specs.States.{State, author_of, logged}
use Rattle.rn_fire.proofs.EntryLemmas.{ended_more, entry_of, fired_more}
use Rattle.rn_worker.specs.link.Plans.{AddsOwn, GrowsBy}

module _ (worker : ℕ) (old new : State) where
  same_log : new.fired ≡ old.fired → new.ended ≡ old.ended → logged new ≡ logged old
  same_log fired ended =
      ap (λ fs. entries_of fs new.ended) fired ∙ ap (entries_of old.fired) ended

  one_fired : (f : Firing) → new.ended ≡ old.ended → old.ended ≡ None →
      new.fired ≡ old.fired ++ f ∷ [] → logged new ≡ logged old ++ entry_of f ∷ []
  one_fired f stays going fired =
      ap (λ fs. entries_of fs new.ended) fired
      ∙ ap (entries_of (old.fired ++ f ∷ [])) (stays ∙ going)
      ∙ sym (fired_more old.fired f)
      ∙ ap (λ e. entries_of old.fired e ++ entry_of f ∷ []) (sym going)

  one_ended : (reason : Reason) → new.ended ≡ Some reason → old.ended ≡ None →
      new.fired ≡ old.fired → logged new ≡ logged old ++ End reason ∷ []
  one_ended reason ended going fired =
      ap (λ fs. entries_of fs new.ended) fired ∙ ap (entries_of old.fired) ended
      ∙ sym (ended_more old.fired reason)
      ∙ ap (λ e. entries_of old.fired e ++ End reason ∷ []) (sym going)

  -- the log begins with what it was
  pub begins_by : (fired : Bool) → AddsOwn worker fired old new → StartsWith (logged new) (logged old)
  begins_by true adds =
      (entry_of adds.3.0 ∷ [], one_fired adds.3.0 adds.1 adds.2 adds.3.2)
  begins_by false adds = by_end adds.2
    where
      by_reason : (o : Option Reason) → new.ended ≡ o → old.ended ≡ None → new.ended ≢ None →
          StartsWith (logged new) (logged old)
      by_reason None is going ends = absurd (ends is)
      by_reason (Some reason) is going ends =
          (End reason ∷ [], one_ended reason is going adds.1)

      by_end : (new.ended ≡ old.ended) ⊎ ((old.ended ≡ None) × (new.ended ≢ None)) →
          StartsWith (logged new) (logged old)
      by_end (inl same) = ([], same_log adds.1 same ∙ sym (append-nil (logged old)))
      by_end (inr (going, ends)) = by_reason new.ended refl going ends

  -- one entry came at most, which the worker authored or none
  pub adds_by : (fired : Bool) → AddsOwn worker fired old new → (number : ℕ) → number ≡ worker →
      (before : List Entry) → before ≡ logged old → AddsAtMostOne author_of number before (logged new)
  adds_by true adds number its before seen =
      inr (
        entry_of adds.3.0,
        one_fired adds.3.0 adds.1 adds.2 adds.3.2 ∙ ap (λ es. es ++ entry_of adds.3.0 ∷ []) (sym seen),
        inl (adds.3.1 ∙ sym its),
      )
  adds_by false adds number its before seen = by_end adds.2
    where
      by_reason : (o : Option Reason) → new.ended ≡ o → old.ended ≡ None → new.ended ≢ None →
          AddsAtMostOne author_of number before (logged new)
      by_reason None is going ends = absurd (ends is)
      by_reason (Some reason) is going ends =
          inr (End reason, one_ended reason is going adds.1 ∙ ap (λ es. es ++ End reason ∷ []) (sym seen), inr refl)

      by_end : (new.ended ≡ old.ended) ⊎ ((old.ended ≡ None) × (new.ended ≢ None)) →
          AddsAtMostOne author_of number before (logged new)
      by_end (inl same) = inl (same_log adds.1 same ∙ sym seen)
      by_end (inr (going, ends)) = by_reason new.ended refl going ends

  -- what the worker authored grows by its firing, if it fired
  pub mine_by : (fired : Bool) → AddsOwn worker fired old new → 1 ≤ worker → (number : ℕ) →
      number ≡ worker → (before own mine more : List Entry) → before ≡ logged old → mine ≡ own →
      GrowsOwn author_of number before (logged new) mine more → GrowsBy fired own more
  mine_by true adds some number its before own mine more seen same grows =
      let e = entry_of adds.3.0 in
      let log : logged new ≡ before ++ e ∷ [] =
      one_fired adds.3.0 adds.1 adds.2 adds.3.2 ∙ ap (λ es. es ++ e ∷ []) (sym seen) in
      ap length ((grows.1 e log).0 (adds.3.1 ∙ sym its)) ∙ length-append mine (e ∷ [])
      ∙ ap (λ es. length es + 1) same
  mine_by false adds some number its before own mine more seen same grows = by_end adds.2
    where
      by_reason : (o : Option Reason) → new.ended ≡ o → old.ended ≡ None → new.ended ≢ None →
          more ≡ own
      by_reason None is going ends = absurd (ends is)
      by_reason (Some reason) is going ends =
          let log : logged new ≡ before ++ End reason ∷ [] =
          one_ended reason is going adds.1 ∙ ap (λ es. es ++ End reason ∷ []) (sym seen) in
          (grows.1 (End reason) log).1
          (λ none. let never : ⊥ = omega (arith, none, its, some) in never) ∙ same

      by_end : (new.ended ≡ old.ended) ⊎ ((old.ended ≡ None) × (new.ended ≢ None)) → more ≡ own
      by_end (inl stays) = grows.0 (same_log adds.1 stays ∙ sym seen) ∙ same
      by_end (inr (going, ends)) = by_reason new.ended refl going ends
