-- Going back to the newest choice.
use Rattle.std.proofs.Common.{◌≡◌, ℕ, ◌+◌, ◌-◌, ◌*◌, ◌<◌, ◌≤◌, ◌⊎◌, ◌↔◌, ⊎_elim, inl, inr, refl}
use Rattle.std.proofs.Common.{true, List, [], ◌∷◌, ◌++◌, length, take, subst, sym, ◌∙◌, ap, arith}
use Rattle.std.proofs.Math.Seq.{take-append_seam}
use Rattle.std.proofs.lemmas.List.{length-take-le}
use Rattle.rn_choices.specs.declared.choice.Choice.{Choice}
use Rattle.rn_choices.specs.Waiting.{WaitsAt, Waits, IsLeft, Stand, StandBelow, bulk, weight, load}
use Rattle.rn_choices.proofs.Measure.{one_taken}

-- what was put after the first n stands after them
pub prefix_kept : {D : Type 0} (n : ℕ) (ds xs after : List D) → n ≤ length ds → after
    ≡ take n ds ++ xs → take n after ≡ take n ds
prefix_kept n ds xs after within is =
    let long : length (take n ds) ≡ n = length-take-le n ds within in
    ap (λ l. take n l) is ∙ subst (λ k. take k (take n ds ++ xs)
    ≡ take n ds) long (take-append_seam (take n ds) xs)

-- no alternative of the newest choice was made: what waits, waits at those before it
pub past_choice : {D T S : Type 0} (leads : List D → S → Type 0) (offers : List D → T → ℕ →
    D) (ds after : List D) (c : Choice T) (cs : List (Choice T)) (s : S) →
    after ≡ take c.mark ds → (WaitsAt leads offers (take c.mark ds) c s ↔ ⊥) →
    Waits leads offers ds (c ∷ cs) s ↔ Waits leads offers after cs s
past_choice leads offers ds after c cs s back none = (
  λ w. ⊎_elim (λ here. absurd (none.0 here)) (λ waits. subst (λ l. Waits leads offers l cs s)
      (sym back) waits) w,
  λ waits. inr (subst (λ l. Waits leads offers l cs s) back waits),
)

-- an alternative of the newest choice was made
pub by_choice : {D T S : Type 0} (leads : List D → S → Type 0) (offers : List D → T → ℕ →
    D) (ds after : List D) (c : Choice T) (turn : ℕ) (cs : List (Choice T)) (s : S) →
    take c.mark after ≡ take c.mark ds →
    (WaitsAt leads offers (take c.mark ds) c s
    ↔ (leads after s ⊎ WaitsAt leads offers (take c.mark ds) (record c { tried = turn + 1 }) s)) →
    Waits leads offers ds (c ∷ cs) s
    ↔ IsLeft leads offers true after (record c { tried = turn + 1 } ∷ cs) s
by_choice leads offers ds after c turn cs s prefix made =
    let here : List _ → Type 0 = λ l. WaitsAt leads offers l (record c { tried = turn + 1 }) s in
    let below : List _ → Type 0 = λ l. Waits leads offers l cs s in (
      λ w. ⊎_elim
          (λ at. ⊎_elim (λ led. inl (
            refl,
            led,
          )) (λ waits. inr (inl (subst here (sym prefix) waits))) (made.0 at))
          (λ waits. inr (inr (subst below (sym prefix) waits)))
          w,
      λ left. ⊎_elim
          (λ led. inl (made.1 (inl led.1)))
          (λ w. ⊎_elim
          (λ waits. inl (made.1 (inr (subst here prefix waits))))
          (λ waits. inr (subst below prefix waits))
          w)
          left,
    )

pub stand_below : {D T : Type 0} (offers : List D → T → ℕ → D) (allows : List D → T → ℕ →
    Type 0) (ds : List D) (cs : List (Choice T)) → Stand offers allows ds cs →
    StandBelow offers allows ds cs
stand_below offers allows ds [] stand = tt
stand_below offers allows ds (c ∷ cs) stand = (stand.0, stand.2)

pub joined : {A B C : Type 0} → (A ↔ B) → (B ↔ C) → A ↔ C
joined p q = (λ a. q.0 (p.0 a), λ c. p.1 (q.1 c))

-- there is less to be tried when an alternative was made
pub less_to_try : {D T : Type 0} (room : List D →
    ℕ) (ds after : List D) (c : Choice T) (turn : ℕ) (cs : List (Choice T)) →
    take c.mark after ≡ take c.mark ds → c.tried ≤ turn → turn < c.of →
    room after < room (take c.mark ds) →
    load room after (record c { tried = turn + 1 } ∷ cs) ≤ weight room ds (c ∷ cs)
less_to_try {D} room ds after c turn cs prefix begun below deeper =
    let before = take c.mark ds in
    let fewer : (c.of - (turn + 1)) + 1 ≤ c.of - c.tried = omega arith in
    let P : List D → Type 0 = λ l.
    bulk (room after + 1) + ((c.of - (turn + 1)) * bulk (room l) + weight room l cs)
    ≤ (c.of - c.tried) * bulk (room before) + weight room before cs in
    subst P (sym prefix)
    (one_taken (room after) (room before) (c.of - c.tried) (c.of - (turn + 1))
    (weight room before cs) deeper fewer)
