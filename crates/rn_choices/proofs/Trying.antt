-- Trying the alternatives of one choice.
use Rattle.std.proofs.Common.{◌≡◌, ℕ, ◌+◌, ◌-◌, ◌<◌, ◌≤◌, ◌⊎◌, ◌↔◌, ⊎_elim, inl, inr, List, [], ◌∷◌}
use Rattle.std.proofs.Common.{◌++◌, length, take, subst, sym, ◌∙◌, ap, arith}
use Rattle.std.proofs.Math.Nat.{eq-or-lt_of_le}
use Rattle.std.proofs.lemmas.Bool.{cases_lt}
use Rattle.std.proofs.lemmas.List.{length-take, length-take-le}
use Rattle.rn_choices.specs.declared.choice.Choice.{Choice}
use Rattle.rn_choices.specs.Turns.{turned}
use Rattle.rn_choices.specs.Waiting.{WaitsAt, at_turn}
use Rattle.rn_choices.specs.Leading.{NoneLeads}
use Rattle.rn_choices.proofs.Turning.{turned_on}

-- what waits at a choice goes on with the next alternative, or waits at what is left then
next_or_later : {D T S : Type 0} (leads : List D → S → Type 0) (offers : List D → T → ℕ →
    D) (before : List D) (c : Choice T) (s : S) →
    WaitsAt leads offers before c s →
    leads (before ++ at_turn offers before c c.tried ∷ []) s
    ⊎ WaitsAt leads offers before (record c { tried = c.tried + 1 }) s
next_or_later leads offers before c s w =
    ⊎_elim
    (λ same. inl (subst (λ turn. leads (before
    ++ at_turn offers before c turn ∷ []) s) (sym same) w.3))
    (λ later. let from : c.tried + 1 ≤ w.0 = omega arith in inr (w.0, from, w.2, w.3))
    (eq-or-lt_of_le w.1)

-- what waits after later turns waited before
sooner : {D T S : Type 0} (leads : List D → S → Type 0) (offers : List D → T → ℕ →
    D) (before : List D) (c : Choice T) (from : ℕ) (s : S) →
    c.tried ≤ from → WaitsAt leads offers before (record c { tried = from }) s →
    WaitsAt leads offers before c s
sooner leads offers before c from s begun w =
    let begins = w.1 in let since : c.tried ≤ w.0 = omega arith in (w.0, since, w.2, w.3)

-- where the next alternative leads to none, all wait at what is left then
pub later : {D T S : Type 0} (leads : List D → S → Type 0) (offers : List D → T → ℕ →
    D) (before : List D) (c : Choice T) (s : S) →
    NoneLeads leads (before ++ at_turn offers before c c.tried ∷ []) →
    WaitsAt leads offers before c s →
    WaitsAt leads offers before (record c { tried = c.tried + 1 }) s
later leads offers before c s none w =
    ⊎_elim (λ led. absurd (none s led)) (λ waits. waits) (next_or_later leads offers before c s w)

-- where the alternative of a turn was made, what waited goes on with it, or waits after it
pub one_made : {D T S : Type 0} (leads : List D → S → Type 0) (offers : List D → T → ℕ →
    D) (before after : List D) (c : Choice T) (turn : ℕ) (s : S) →
    c.tried ≤ turn → turn < c.of → after ≡ before ++ at_turn offers before c turn ∷ [] →
    (WaitsAt leads offers before c s → WaitsAt leads offers before (record c { tried = turn }) s) →
    WaitsAt leads offers before c s
    ↔ (leads after s ⊎ WaitsAt leads offers before (record c { tried = turn + 1 }) s)
one_made leads offers before after c turn s begun below made left = (
  λ w. ⊎_elim
      (λ led. inl (subst (λ ds. leads ds s) (sym made) led))
      (λ waits. inr waits)
      (next_or_later leads offers before (record c { tried = turn }) s (left w)),
  λ or. ⊎_elim
      (λ led. (turn, begun, below, subst (λ ds. leads ds s) made led))
      (λ waits. let more : c.tried ≤ turn + 1 = omega arith in sooner leads offers before c
      (turn + 1) s more waits)
      or,
)

-- the decisions before a choice still stand before what was pushed on them
pub still : {D : Type 0} (n : ℕ) (old mid new : List D) → n ≤ length old → mid ≡ take n old →
    take (length mid) new ≡ mid → (n ≤ length new) × (take n new ≡ take n old)
still n old mid new within is prefix =
    let long : length mid ≡ n = ap length is ∙ length-take-le n old within in
    let kept : take n new ≡ mid = subst (λ k. take k new ≡ mid) long prefix in
    let short : length (take n new) ≡ length mid = ap length kept in
    (omega (arith, length-take n new), kept ∙ is)

-- where no alternative from that of a turn on leads on, up to those before another turn, all wait
-- from there on
pub passed_over : {D T S : Type 0} (leads : List D → S → Type 0) (offers : List D → T → ℕ →
    D) (before : List D) (c : Choice T) (turn next vain : ℕ) (s : S) → next ≤ turn + vain →
    next ≤ turn + (c.of - turned c.first c.of turn) →
    ((a : ℕ) → turned c.first c.of turn ≤ a → a < turned c.first c.of turn + vain →
    NoneLeads leads (before ++ offers before c.site a ∷ [])) →
    WaitsAt leads offers before (record c { tried = turn }) s →
    WaitsAt leads offers before (record c { tried = next }) s
passed_over leads offers before c turn next vain s few near none w =
    let since = w.1 in
    let below = w.2 in
    ⊎_elim
    (λ early.
    let at = turned_on c.first c.of turn w.0 since below (omega (arith, early, near)) in
    absurd (none (turned c.first c.of w.0) (omega (arith, at))
    (omega (arith, at, since, early, few)) s w.3))
    (λ from. (w.0, from, below, w.3))
    (cases_lt w.0 next)

-- nothing waits at a choice of which all is tried
pub all_tried : {D T S : Type 0} (leads : List D → S → Type 0) (offers : List D → T → ℕ →
    D) (before : List D) (c : Choice T) (s : S) →
    c.of ≤ c.tried → WaitsAt leads offers before c s → ⊥
all_tried leads offers before c s over w = let from = w.1 in let below = w.2 in omega arith
