-- Logs that begin with what was seen.
use Rattle.std.proofs.Common.{◌≡◌, ◌≢◌, ◌≤◌, List, [], ◌∷◌, ◌++◌, length, take, refl, sym, ap, ◌∙◌, arith}
use Rattle.std.specs.Prelude.{Some, None}
use Rattle.std.proofs.Math.Seq.{take-append_seam}
use Rattle.std.proofs.lemmas.List.{length-append}
use Rattle.rn_model.specs.declared.log.Entry.{Entry}
use Rattle.rn_model.specs.declared.log.Entry.TheVariants.{Fire, End}
use Rattle.rn_model.specs.declared.log.Reason.{Reason}
use Rattle.rn_model.specs.Runs.{Firing}
use Rattle.rn_desk.specs.Entries.{StartsWith}
use Rattle.rn_fire.specs.States.{State, logged}
use Rattle.rn_fire.specs.link.States.{end_in, firings_in}
use Rattle.rn_fire.proofs.EntryLemmas.{count_going, end_of_entries, firings_of}
use Rattle.rn_worker.specs.link.Seen.{IsUnended, HasEnded}

firings_joined : (xs ys : List Entry) → firings_in (xs ++ ys) ≡ firings_in xs ++ firings_in ys
firings_joined [] ys = refl
firings_joined (Fire worker binding outs ∷ xs) ys =
    let f : Firing = record { worker = worker; binding = binding; outs = outs } in
    ap (λ fs. f ∷ fs) (firings_joined xs ys)
firings_joined (End reason ∷ xs) ys = firings_joined xs ys

end_joined : (xs ys : List Entry) (reason : Reason) → end_in xs ≡ Some reason →
    end_in (xs ++ ys) ≡ Some reason
end_joined [] ys reason is = absurd (let never : ⊥ = cc in never)
end_joined (Fire worker binding outs ∷ xs) ys reason is = end_joined xs ys reason is
end_joined (End other ∷ xs) ys reason is = is

-- how many firings were seen of a log that went on
pub going_count : (es : List Entry) → IsUnended es → length es ≡ length (firings_in es)
going_count es going = ap length going ∙ count_going (firings_in es)

-- A state whose log begins with these entries.
module _ (t : State) (es : List Entry) (begins : StartsWith (logged t) es) where
  pub fired_then : t.fired ≡ firings_in es ++ firings_in begins.0
  fired_then =
      sym (firings_of t.fired t.ended) ∙ ap firings_in begins.1 ∙ firings_joined es begins.0

  -- where no end was seen, it has at least as many firings
  pub had_seen : IsUnended es → length es ≤ length t.fired
  had_seen going =
      let whole = ap length fired_then ∙ length-append (firings_in es) (firings_in begins.0) in
      let count = going_count es going in
      omega (arith, whole, count)

  -- and the first of them are those that were seen
  pub taken : IsUnended es → take (length es) t.fired ≡ firings_in es
  taken going =
      ap (take (length es)) fired_then
      ∙ ap (λ k. take k (firings_in es ++ firings_in begins.0)) (going_count es going)
      ∙ take-append_seam (firings_in es) (firings_in begins.0)

  -- where an end was seen, it has ended
  pub then_ended : HasEnded es → t.ended ≢ None
  then_ended (fs, reason, are) none =
      let there = ap end_in are ∙ end_of_entries fs (Some reason) in
      let then : t.ended ≡ Some reason =
      sym (end_of_entries t.fired t.ended) ∙ ap end_in begins.1
      ∙ end_joined es begins.0 reason there in
      let both : Some reason ≡ None = sym then ∙ none in
      let never : ⊥ = cc in never
