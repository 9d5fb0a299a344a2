-- What is kept of takings holds as decisions come and go.
use Rattle.std.proofs.Common.{◌≡◌, ℕ, zero, suc, ◌+◌, ◌<◌, ◌≤◌, Bool, true, false, List, [], ◌∷◌}
use Rattle.std.proofs.Common.{◌++◌, length, take, get_or, sym, ap, ◌∙◌, subst, arith}
use Rattle.std.proofs.Common.{length-append, inl, inr}
use Rattle.std.specs.Prelude.{Some, slice_get}
use Rattle.std.proofs.lemmas.List.{length-take-le, take-append-le, take-take}
use Rattle.std.proofs.lemmas.Option.{slice_get_within}
use Rattle.rn_value.specs.declared.value.InstRef.{InstRef}
use Rattle.rn_value.specs.declared.value.Value.{Value}
use Rattle.rn_model.specs.declared.system.NetArc.{NetArc}
use Rattle.rn_model.specs.declared.system.System.{System}
use Rattle.rn_model.specs.Lists.{count_of}
use Rattle.rn_growing.specs.declared.decision.Head.{Head}
use Rattle.rn_growing.specs.declared.decision.Decision.{Decision}
use Rattle.rn_growing.specs.declared.decision.Decision.TheVariants.{Found}
use Rattle.rn_growing.specs.Decisions.{transition_in}
use Rattle.rn_growing.specs.Grown.{Grown, Tries}
use Rattle.rn_growing.proofs.Growth.{either_at, some_equal, stands_at}
use Rattle.rn_search.specs.Taking.{taken_so_far}
use Rattle.rn_branch.specs.declared.takings.TakingCounts.{TakingCounts}
use Rattle.rn_branch.specs.Takings.{AreTakings, Takes}
use Rattle.rn_branch.proofs.TakenTokens.{it_takes, taken_once_more, taken_sooner}

-- A decision takes one thing.
same_head : (head other : Head) (k j : ℕ) (v w : Value) → Found head k v ≡ Found other j w →
    head ≡ other
same_head head other k j v w e = cc

same_arc : (head other : Head) (k j : ℕ) (v w : Value) → Found head k v ≡ Found other j w → k ≡ j
same_arc head other k j v w e = cc

same_token : (head other : Head) (k j : ℕ) (v w : Value) → Found head k v ≡ Found other j w → v ≡ w
same_token head other k j v w e = cc

pub takes_one : (system : System) (d : Decision) (inst other : InstRef) (place another : ℕ)
    (v w : Value) → Takes system d inst place v → Takes system d other another w →
    (inst ≡ other) × ((place ≡ another) × (v ≡ w))
takes_one system d inst other place another v w one two =
    let both : Found one.head one.k v ≡ Found two.head two.k w = sym one.is ∙ two.is in
    let head = same_head one.head two.head one.k two.k v w both in
    let k = same_arc one.head two.head one.k two.k v w both in
    let there : slice_get (transition_in system two.head).arcs two.k ≡ Some one.arc =
    subst (λ h. slice_get (transition_in system h).arcs two.k ≡ Some one.arc) head
    (subst (λ j. slice_get (transition_in system one.head).arcs j ≡ Some one.arc) k one.there) in
    let arc = some_equal one.arc two.arc (sym there ∙ two.there) in (
      sym one.on ∙ ap (λ (h : Head). h.inst) head ∙ two.on,
      (
        sym one.at ∙ ap (λ (x : NetArc). x.place) arc ∙ two.at,
        same_token one.head two.head one.k two.k v w both,
      ),
    )

-- of what is kept of a decision, the decisions up to all that is kept take so much
pub kept_so_far : (system : System) (ds : List Decision) (t : TakingCounts) (i n : ℕ) (d : Decision)
    (inst : InstRef) (place : ℕ) (v : Value) → AreTakings system ds t →
    slice_get t.counts.items i ≡ Some n → slice_get ds i ≡ Some d → Takes system d inst place v →
    n ≤ count_of v (taken_so_far system inst place (take (length t.counts.items) ds))
kept_so_far system ds t i n d inst place v are there at takes =
    let low = slice_get_within t.counts.items i n there in
    let some = are.each i n d inst place v there at takes in
    let more = taken_sooner system inst place v (i + 1) (length t.counts.items) ds
    (omega (arith, low)) in
    omega (arith, some, more)

module _ (system : System) (ds : List Decision) (t : TakingCounts) (are : AreTakings system ds t)
  where
    -- one more decision that stands already
    pub one_kept : (next : TakingCounts) (d : Decision) (n : ℕ) →
        next.counts.items ≡ t.counts.items ++ n ∷ [] →
        slice_get ds (length t.counts.items) ≡ Some d →
        ((inst : InstRef) (place : ℕ) (v : Value) → Takes system d inst place v →
        n ≤ count_of v (taken_so_far system inst place (take (length t.counts.items + 1) ds))) →
        AreTakings system ds next
    one_kept next d n is at few = record {
      within = let low = slice_get_within ds (length t.counts.items) d at in
          let long = ap length is ∙ length-append t.counts.items (n ∷ []) in
          omega (arith, low, long);
      each = λ i m e inst place v there here takes.
          elim (either_at t.counts.items n i m
          (subst (λ ns. slice_get ns i ≡ Some m) is there)) [
            | inl front ↦ are.each i m e inst place v front.1 here takes
            | inr last ↦
                let same : d ≡ e = some_equal d e
                (sym at ∙ ap (slice_get ds) (sym last.0) ∙ here) in
                subst (λ k. m ≤ count_of v (taken_so_far system inst place (take (k + 1) ds)))
                (sym last.0)
                (subst (λ j. j ≤ count_of v (taken_so_far system inst place
                (take (length t.counts.items + 1) ds))) (sym last.1)
                (few inst place v (subst (λ f. Takes system f inst place v) (sym same) takes)))
          ];
    }

    -- with how often what it takes was taken
    pub next_kept : (next : TakingCounts) (d : Decision) (inst : InstRef) (place : ℕ) (v : Value)
        (times n : ℕ) → next.counts.items ≡ t.counts.items ++ n ∷ [] → n ≤ times + 1 →
        length t.counts.items < length ds → d ≡ get_or ds (length t.counts.items) d →
        Takes system d inst place v →
        times ≤ count_of v (taken_so_far system inst place (take (length t.counts.items) ds)) →
        AreTakings system ds next
    next_kept next d inst place v times n is few within here takes low =
        one_kept next d n is (stands_at ds (length t.counts.items) d within here)
        (λ other another w also.
        let one = takes_one system d inst other place another v w takes also in
        subst (λ i. n ≤ count_of w (taken_so_far system i another
        (take (length t.counts.items + 1) ds))) one.0
        (subst (λ p. n ≤ count_of w (taken_so_far system inst p
        (take (length t.counts.items + 1) ds))) one.1.0
        (subst (λ u. n ≤ count_of u (taken_so_far system inst place
        (take (length t.counts.items + 1) ds))) one.1.1
        (let more = taken_once_more system inst place v ds (length t.counts.items) d within here times
        low (it_takes system d inst place v takes) in omega (arith, few, more)))))

    -- nothing is said of a decision
    pub none_kept : (next : TakingCounts) (d : Decision) → next.counts.items ≡ t.counts.items ++ 0 ∷ [] →
        length t.counts.items < length ds → d ≡ get_or ds (length t.counts.items) d →
        AreTakings system ds next
    none_kept next d is within here =
        one_kept next d 0 is (stands_at ds (length t.counts.items) d within here)
        (λ inst place v takes. omega arith)

    -- where nothing changes
    pub same_kept : (next : TakingCounts) → next.counts.items ≡ t.counts.items →
        AreTakings system ds next
    same_kept next is = record {
      within = let room = are.within in let long = ap length is in omega (arith, room, long);
      each = λ i n d inst place v there at takes.
          are.each i n d inst place v (subst (λ ns. slice_get ns i ≡ Some n) is there) at takes;
    }

    -- where one more decision is made
    pub kept_by_one : (d : Decision) → AreTakings system (ds ++ d ∷ []) t
    kept_by_one d = record {
      within = let room = are.within in omega (arith, room, length-append ds (d ∷ []));
      each = λ i n e inst place v there at takes.
          let low = slice_get_within t.counts.items i n there in
          let room = are.within in
          let inside : i + 1 ≤ length ds = omega (arith, low, room) in
          subst (λ es. n ≤ count_of v (taken_so_far system inst place es))
          (sym (take-append-le (i + 1) ds (d ∷ []) inside))
          (are.each i n e inst place v there (in_front ds (d ∷ []) i e (omega (arith, inside)) at)
          takes);
    }
      where
        in_front : {A : Type 0} (xs ys : List A) (k : ℕ) (x : A) → k < length xs →
            slice_get (xs ++ ys) k ≡ Some x → slice_get xs k ≡ Some x
        in_front [] ys k x low at = absurd (let no : ⊥ = omega (arith, low) in no)
        in_front (z ∷ xs) ys zero x low at = at
        in_front (z ∷ xs) ys (suc k) x low at = in_front xs ys k x (omega (arith, low)) at

    -- where decisions are taken back
    pub kept_of_front : (next : TakingCounts) (n : ℕ) → next.counts.items ≡ take n t.counts.items →
        n ≤ length ds → AreTakings system (take n ds) next
    kept_of_front next n is room = record {
      within = let cut = length-take-le n ds room in
          let short = few n t.counts.items in
          let long = ap length is in omega (arith, cut, short, long);
      each = λ i m d inst place v there at takes.
          let front = of_front t.counts.items n i m
          (subst (λ ns. slice_get ns i ≡ Some m) is there) in
          let low = front.0 in
          subst (λ es. m ≤ count_of v (taken_so_far system inst place es))
          (sym (take-take (i + 1) n ds (omega (arith, low))))
          (are.each i m d inst place v front.1 (of_front ds n i d at).1 takes);
    }
      where
        few : (k : ℕ) (xs : List ℕ) → length (take k xs) ≤ k
        few zero xs = omega arith
        few (suc k) [] = omega arith
        few (suc k) (x ∷ xs) = let h = few k xs in omega (arith, h)

        of_front : {A : Type 0} (xs : List A) (k i : ℕ) (x : A) → slice_get (take k xs) i ≡ Some x →
            (i < k) × (slice_get xs i ≡ Some x)
        of_front [] zero i x at = absurd (let no : ⊥ = cc in no)
        of_front [] (suc k) i x at = absurd (let no : ⊥ = cc in no)
        of_front (y ∷ ys) zero i x at = absurd (let no : ⊥ = cc in no)
        of_front (y ∷ ys) (suc k) zero x at = (omega arith, at)
        of_front (y ∷ ys) (suc k) (suc i) x at =
            let rest = of_front ys k i x at in
            let low = rest.0 in (omega (arith, low), rest.1)

-- as a branch keeps them
pub takings_by_tries : (old new : Grown) (d : Decision) (t : TakingCounts) (yes : Bool) →
    AreTakings old.system old.decisions t → Tries old d new yes →
    AreTakings new.system new.decisions t
takings_by_tries old new d t true are tries =
    subst (λ (g : Grown). AreTakings g.system g.decisions t) (sym tries.0)
    (kept_by_one old.system old.decisions t are d)
takings_by_tries old new d t false are tries =
    subst (λ (g : Grown). AreTakings g.system g.decisions t) (sym tries.0) are
