-- Two least runs of one system and depth: one goes on from where the other stands, and both are the
-- same before that. So they end alike.
use Rattle.std.proofs.Common.{◌≡◌, ℕ, suc, ◌+◌, ◌<◌, List, [], ◌∷◌, ◌++◌, length, refl, sym, ap, ◌∙◌, subst, arith, inl, inr}
use Rattle.std.specs.Prelude.{◌≢◌, ◌⊎◌, Some, Result, Ok, Err, ⊤}
use Rattle.std.proofs.lemmas.List.{length-append, length-map, map-append, append-nil}
use Rattle.rn_value.specs.declared.value.Value.{Value}
use Rattle.rn_model.specs.declared.system.System.{System}
use Rattle.rn_model.specs.declared.binding.Binding.{Binding}
use Rattle.rn_model.specs.declared.log.FaultKind.{FaultKind}
use Rattle.rn_model.specs.declared.log.Options.{Options}
use Rattle.rn_model.specs.declared.log.Reason.{Reason}
use Rattle.rn_model.specs.declared.log.Reason.TheVariants.{Dead, Steps, Fault, Memory}
use Rattle.rn_model.specs.Enabling.{DeadAt}
use Rattle.rn_model.specs.Firing.{Fired, fire}
use Rattle.rn_model.specs.Liveness.{LivePart}
use Rattle.rn_model.specs.Markings.{Marking, initial_marking}
use Rattle.rn_model.specs.Runs.{Firing, Fires, RunFrom, after_firing, end_from, end_of, marking_or}
use Rattle.rn_model.proofs.OneLivePart.{live_part_is_unique}
use Rattle.rn_model.proofs.RunLemmas.{rest_from}
use Rattle.rn_least.specs.LeastRuns.{AreLeastFrom, IsLeast, LeastLog, LeastRun}
use Rattle.rn_least.specs.Laws.{AreAlike, HaveTheSameLimits, IsPrefix, LeastLogsAreAlike, MemoryEndsEarlier, MemoryEndsInLine, bindings_of, printed_by}
use Rattle.rn_least.proofs.LeastRuns.{least_is_one, least_rest}

-- the same but for workers
abbrev AreSame : List Firing → List Firing → Type 0
AreSame fs gs = (bindings_of fs ≡ bindings_of gs) × (printed_by fs ≡ printed_by gs)

-- the second begins as the first, and goes on
record GoesOn (fs gs : List Firing) : Type 0 where
  front : List Firing
  next : Firing
  rest : List Firing
  whole : gs ≡ front ++ next ∷ rest
  same : AreSame fs front

-- two runs are the same, or one goes on from the other's end
abbrev Compared : List Firing → List Firing → Type 0
Compared fs gs = AreSame fs gs ⊎ (GoesOn fs gs ⊎ GoesOn gs fs)

same_with : (f g : Firing) (fs gs : List Firing) → f.binding ≡ g.binding → f.outs ≡ g.outs →
    AreSame fs gs → AreSame (f ∷ fs) (g ∷ gs)
same_with f g fs gs b o same =
    let bindings = same.0 in
    let printed = same.1 in (
      ap (λ x. x ∷ bindings_of fs) b ∙ ap (λ xs. g.binding ∷ xs) bindings,
      ap (λ x. x ∷ printed_by fs) o ∙ ap (λ xs. g.outs ∷ xs) printed,
    )

goes_on_with : (f g : Firing) (fs gs : List Firing) → f.binding ≡ g.binding → f.outs ≡ g.outs →
    GoesOn fs gs → GoesOn (f ∷ fs) (g ∷ gs)
goes_on_with f g fs gs b o on = record {
  front = g ∷ on.front;
  next = on.next;
  rest = on.rest;
  whole = ap (λ xs. g ∷ xs) on.whole;
  same = same_with f g fs on.front b o on.same;
}

compared_with : (f g : Firing) (fs gs : List Firing) → f.binding ≡ g.binding → f.outs ≡ g.outs →
    Compared fs gs → Compared (f ∷ fs) (g ∷ gs)
compared_with f g fs gs b o (inl same) = inl (same_with f g fs gs b o same)
compared_with f g fs gs b o (inr (inl on)) = inr (inl (goes_on_with f g fs gs b o on))
compared_with f g fs gs b o (inr (inr on)) = inr (inr (goes_on_with g f gs fs (sym b) (sym o) on))

after_same : (system : System) (step : ℕ) (m : Marking) (f g : Firing) → f.binding ≡ g.binding →
    after_firing system step m f ≡ after_firing system step m g
after_same system step m f g b = ap (λ x. marking_or (fire system m x step) m) b

abbrev outs_of : Result Fired FaultKind → List Value
outs_of (Ok fired) = fired.outs
outs_of (Err cause) = []

-- one binding prints one list of values at one marking
outs_same : (system : System) (depth step : ℕ) (m : Marking) (f g : Firing) →
    f.binding ≡ g.binding → Fires system depth step m f → Fires system depth step m g →
    f.outs ≡ g.outs
outs_same system depth step m f g b fires others =
    ap outs_of (sym fires.fired ∙ ap (λ x. fire system m x step) b ∙ others.fired)

compare : (system : System) (depth step : ℕ) (m : Marking) (fs gs : List Firing) →
    RunFrom system depth step m fs → AreLeastFrom system depth step m fs →
    RunFrom system depth step m gs → AreLeastFrom system depth step m gs → Compared fs gs
compare system depth step m [] [] run least run' least' = inl (refl, refl)
compare system depth step m [] (g ∷ gs) run least run' least' =
    inr (inl (record { front = []; next = g; rest = gs; whole = refl; same = (refl, refl) }))
compare system depth step m (f ∷ fs) [] run least run' least' =
    inr (inr (record { front = []; next = f; rest = fs; whole = refl; same = (refl, refl) }))
compare system depth step m (f ∷ fs) (g ∷ gs) (fires, run) (first, least) (fires', run')
    (first', least') =
    let b : f.binding ≡ g.binding = least_is_one system m depth f.binding g.binding first first' in
    let o : f.outs ≡ g.outs = outs_same system depth step m f g b fires fires' in
    let after = sym (after_same system step m f g b) in
    compared_with f g fs gs b o
    (compare system depth (suc step) (after_firing system step m f) fs gs run least
    (subst (λ x. RunFrom system depth (suc step) x gs) after run')
    (subst (λ x. AreLeastFrom system depth (suc step) x gs) after least'))

ends_same_from : (system : System) (step : ℕ) (m : Marking) (fs gs : List Firing) →
    bindings_of fs ≡ bindings_of gs → end_from system step m fs ≡ end_from system step m gs
ends_same_from system step m [] [] e = refl
ends_same_from system step m [] (g ∷ gs) e = absurd (let no : ⊥ = cc in no)
ends_same_from system step m (f ∷ fs) [] e = absurd (let no : ⊥ = cc in no)
ends_same_from system step m (f ∷ fs) (g ∷ gs) e =
    let b : f.binding ≡ g.binding = cc in
    let others : bindings_of fs ≡ bindings_of gs = cc in
    ends_same_from system (suc step) (after_firing system step m f) fs gs others
    ∙ ap (λ x. end_from system (suc step) x gs) (after_same system step m f g b)

ends_same : (system : System) (fs gs : List Firing) → AreSame fs gs →
    end_of system fs ≡ end_of system gs
ends_same system fs gs same = ends_same_from system 1 (initial_marking system) fs gs same.0

lengths_same : (fs gs : List Firing) → AreSame fs gs → length fs ≡ length gs
lengths_same fs gs same =
    sym (length-map fs (λ f. f.binding)) ∙ ap length same.0 ∙ length-map gs (λ f. f.binding)

-- a firing that a least run of at most so many firings has next, after so many that lead to this
-- marking
record HasNext (system : System) (depth steps : ℕ) (m : Marking) (count : ℕ) (g : Firing) : Type 0 where
  fires : Fires system depth (suc count) m g
  least : IsLeast system m depth g.binding
  below : count < steps

-- what a least log's end says of the marking after so many firings
abbrev EndsAt : System → ℕ → ℕ → Marking → ℕ → Reason → Type 0
EndsAt system depth steps m count Dead = DeadAt system m depth × (count < steps)
EndsAt system depth steps m count Steps = count ≡ steps
EndsAt system depth steps m count (Fault cause b) =
    IsLeast system m depth b × (fire system m b (suc count) ≡ Err cause) × (count < steps)
EndsAt system depth steps m count Memory = ⊤

ends_at : (system : System) (options : Options) (fs : List Firing) (reason : Reason) →
    LeastLog system options fs (Some reason) →
    EndsAt system options.depth options.steps (end_of system fs) (length fs) reason
ends_at system options fs Dead log = log.log.ends
ends_at system options fs Steps log = log.log.ends
ends_at system options fs (Fault cause b) log =
    (log.fault cause b refl, log.log.ends.1, log.log.ends.2)
ends_at system options fs Memory log = tt

no_fault : {A : Type 0} (r : Result A FaultKind) (a : A) (cause : FaultKind) → r ≡ Ok a →
    r ≡ Err cause → ⊥
no_fault r a cause ok err = let both = sym ok ∙ err in let no : ⊥ = cc in no

-- where a run goes on, a log ends for want of memory alone
stops : (system : System) (depth steps : ℕ) (m : Marking) (count : ℕ) (g : Firing) (reason : Reason) →
    HasNext system depth steps m count g → EndsAt system depth steps m count reason →
    reason ≢ Memory → ⊥
stops system depth steps m count g Dead next ends other = ends.0 g.binding next.fires.enabled
stops system depth steps m count g Steps next ends other =
    let below = next.below in let no : ⊥ = omega (arith, below, ends) in no
stops system depth steps m count g (Fault cause b) next ends other =
    let one : b ≡ g.binding = least_is_one system m depth b g.binding ends.0 next.least in
    no_fault (fire system m g.binding (suc count)) _ cause next.fires.fired
    (subst (λ x. fire system m x (suc count) ≡ Err cause) one ends.1)
stops system depth steps m count g Memory next ends other = other refl

same_cause : (r : Result Fired FaultKind) (cause cause' : FaultKind) → r ≡ Err cause →
    r ≡ Err cause' → cause ≡ cause'
same_cause r cause cause' e e' = let both = sym e ∙ e' in cc

one_fault : (system : System) (depth : ℕ) (m : Marking) (step : ℕ) (cause cause' : FaultKind)
    (b c : Binding) → IsLeast system m depth b → IsLeast system m depth c →
    fire system m b step ≡ Err cause → fire system m c step ≡ Err cause' →
    Fault cause b ≡ Fault cause' c
one_fault system depth m step cause cause' b c first second e e' =
    let one : b ≡ c = least_is_one system m depth b c first second in
    let causes : cause ≡ cause' =
    same_cause (fire system m b step) cause cause' e (ap (λ x. fire system m x step) one ∙ e') in
    ap (λ x. Fault x b) causes ∙ ap (λ x. Fault cause' x) one

-- after the same firings two logs end by one reason
one_end : (system : System) (depth steps : ℕ) (m : Marking) (count : ℕ) (reason end : Reason) →
    EndsAt system depth steps m count reason → EndsAt system depth steps m count end →
    reason ≢ Memory → end ≢ Memory → reason ≡ end
one_end system depth steps m count Memory end first second other other' = absurd (other refl)
one_end system depth steps m count Dead Memory first second other other' = absurd (other' refl)
one_end system depth steps m count Steps Memory first second other other' = absurd (other' refl)
one_end system depth steps m count (Fault cause b) Memory first second other other' =
    absurd (other' refl)
one_end system depth steps m count Dead Dead first second other other' = refl
one_end system depth steps m count Dead Steps first second other other' =
    let below = first.1 in absurd (let no : ⊥ = omega (arith, below, second) in no)
one_end system depth steps m count Dead (Fault cause b) first second other other' =
    absurd (first.0 b second.0.enabled)
one_end system depth steps m count Steps Dead first second other other' =
    let below = second.1 in absurd (let no : ⊥ = omega (arith, below, first) in no)
one_end system depth steps m count Steps Steps first second other other' = refl
one_end system depth steps m count Steps (Fault cause b) first second other other' =
    let below = second.2 in absurd (let no : ⊥ = omega (arith, below, first) in no)
one_end system depth steps m count (Fault cause b) Dead first second other other' =
    absurd (second.0 b first.0.enabled)
one_end system depth steps m count (Fault cause b) Steps first second other other' =
    let below = first.2 in absurd (let no : ⊥ = omega (arith, below, second) in no)
one_end system depth steps m count (Fault cause b) (Fault cause' c) first second other other' =
    one_fault system depth m (suc count) cause cause' b c first.0 second.0 first.1 second.1

-- The firing with which a least run goes on from another's end.
has_next : (system : System) (depth steps : ℕ) (fs gs : List Firing) (on : GoesOn fs gs) →
    LeastRun system depth gs → length gs < suc steps →
    HasNext system depth steps (end_of system fs) (length fs) on.next
has_next system depth steps fs gs on run few =
    let m = initial_marking system in
    let whole = on.whole in
    let run' = subst (RunFrom system depth 1 m) whole run.run in
    let least' = subst (AreLeastFrom system depth 1 m) whole run.least in
    let there = rest_from system depth 1 m on.front (on.next ∷ on.rest) run' in
    let first = least_rest system depth 1 m on.front (on.next ∷ on.rest) least' in
    let count = lengths_same fs on.front on.same in
    let step : 1 + length on.front ≡ suc (length fs) = omega (arith, count) in
    let ends = sym (ends_same system fs on.front on.same) in
    let all = ap length whole ∙ length-append on.front (on.next ∷ on.rest) in
    let below : length fs < steps = omega (arith, all, count, few) in
    record {
      fires = subst (λ x. Fires system depth (suc (length fs)) x on.next) ends
          (subst (λ k. Fires system depth k (end_of system on.front) on.next) step there.0);
      least = subst (λ x. IsLeast system x depth on.next.binding) ends first.0;
      below = below;
    }

-- A log from whose end another of the same limits goes on ended for want of memory.
ends_first : (system : System) (options others : Options) (fs gs : List Firing) (reason end : Reason) →
    HaveTheSameLimits options others → LeastLog system options fs (Some reason) →
    LeastLog system others gs (Some end) → GoesOn fs gs → reason ≢ Memory → ⊥
ends_first system options others fs gs reason end same log other on memory =
    let steps = other.log.steps in
    let equal = same.1 in
    let few : length gs < suc options.steps = omega (arith, steps, equal) in
    let run = subst (λ d. LeastRun system d gs) (sym same.0) other.run in
    stops system options.depth options.steps (end_of system fs) (length fs) on.next reason
    (has_next system options.depth options.steps fs gs on run few)
    (ends_at system options fs reason log) memory

flipped : (options others : Options) → HaveTheSameLimits options others →
    HaveTheSameLimits others options
flipped options others same = (sym same.0, sym same.1)

compare_logs : (system : System) (options others : Options) (fs gs : List Firing) (reason end : Reason) →
    HaveTheSameLimits options others → LeastLog system options fs (Some reason) →
    LeastLog system others gs (Some end) → Compared fs gs
compare_logs system options others fs gs reason end same log other =
    let run = subst (λ d. LeastRun system d gs) (sym same.0) other.run in
    compare system options.depth 1 (initial_marking system) fs gs log.run.run log.run.least run.run
    run.least

-- the end of a log whose firings are the same, said of the other's firings and limits
ends_there : (system : System) (options others : Options) (fs gs : List Firing) (end : Reason) →
    HaveTheSameLimits options others → LeastLog system others gs (Some end) → AreSame fs gs →
    EndsAt system options.depth options.steps (end_of system fs) (length fs) end
ends_there system options others fs gs end same log alike =
    subst (λ d. EndsAt system d options.steps (end_of system fs) (length fs) end) (sym same.0)
    (subst (λ s. EndsAt system others.depth s (end_of system fs) (length fs) end) (sym same.1)
    (subst (λ x. EndsAt system others.depth others.steps x (length fs) end)
    (sym (ends_same system fs gs alike))
    (subst (λ n. EndsAt system others.depth others.steps (end_of system gs) n end)
    (sym (lengths_same fs gs alike)) (ends_at system others gs end log))))

alike_by : (system : System) (options others : Options) (fs gs : List Firing) (reason end : Reason) →
    HaveTheSameLimits options others → LeastLog system options fs (Some reason) →
    LeastLog system others gs (Some end) → reason ≢ Memory → end ≢ Memory → Compared fs gs →
    AreAlike system fs gs reason end
alike_by system options others fs gs reason end same log other memory memory' (inl alike) =
    let ends = ends_same system fs gs alike in
    record {
      bindings = alike.0;
      printed = alike.1;
      reasons = one_end system options.depth options.steps (end_of system fs) (length fs) reason end
          (ends_at system options fs reason log)
          (ends_there system options others fs gs end same other alike) memory memory';
      marking = ends;
      marks = λ lines rows part part'.
          live_part_is_unique system (end_of system fs) lines rows part
          (subst (λ x. LivePart system x rows) (sym ends) part');
    }
alike_by system options others fs gs reason end same log other memory memory' (inr (inl on)) =
    absurd (ends_first system options others fs gs reason end same log other on memory)
alike_by system options others fs gs reason end same log other memory memory' (inr (inr on)) =
    absurd (ends_first system others options gs fs end reason (flipped options others same) other log on
    memory')

-- two least logs with the same limits, which don't end for want of memory, are alike
pub least_logs_are_alike : LeastLogsAreAlike
least_logs_are_alike system options others fs gs reason end same log other memory memory' =
    alike_by system options others fs gs reason end same log other memory memory'
    (compare_logs system options others fs gs reason end same log other)

same_prefix : (fs gs : List Firing) → AreSame fs gs → IsPrefix (bindings_of fs) (bindings_of gs)
same_prefix fs gs same = ([], sym same.0 ∙ sym (append-nil (bindings_of fs)))

on_prefix : (fs gs : List Firing) → GoesOn fs gs → IsPrefix (bindings_of fs) (bindings_of gs)
on_prefix fs gs on = (
  bindings_of (on.next ∷ on.rest),
  ap bindings_of on.whole ∙ map-append (λ f. f.binding) on.front (on.next ∷ on.rest)
      ∙ ap (λ xs. xs ++ bindings_of (on.next ∷ on.rest)) (sym on.same.0),
)

earlier_by : (system : System) (options others : Options) (fs gs : List Firing) (end : Reason) →
    HaveTheSameLimits options others → LeastLog system options fs (Some Memory) →
    LeastLog system others gs (Some end) → end ≢ Memory → Compared fs gs →
    IsPrefix (bindings_of fs) (bindings_of gs)
earlier_by system options others fs gs end same log other memory (inl alike) = same_prefix fs gs alike
earlier_by system options others fs gs end same log other memory (inr (inl on)) = on_prefix fs gs on
earlier_by system options others fs gs end same log other memory (inr (inr on)) =
    absurd (ends_first system others options gs fs end Memory (flipped options others same) other log on
    memory)

pub memory_ends_earlier : MemoryEndsEarlier
memory_ends_earlier system options others fs gs end same log other memory =
    earlier_by system options others fs gs end same log other memory
    (compare_logs system options others fs gs Memory end same log other)

in_line : (fs gs : List Firing) → Compared fs gs →
    IsPrefix (bindings_of fs) (bindings_of gs) ⊎ IsPrefix (bindings_of gs) (bindings_of fs)
in_line fs gs (inl same) = inl (same_prefix fs gs same)
in_line fs gs (inr (inl on)) = inl (on_prefix fs gs on)
in_line fs gs (inr (inr on)) = inr (on_prefix gs fs on)

pub memory_ends_in_line : MemoryEndsInLine
memory_ends_in_line system options others fs gs same log other =
    in_line fs gs (compare_logs system options others fs gs Memory Memory same log other)
