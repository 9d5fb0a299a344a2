-- Going on from decisions that are live.
use Rattle.std.proofs.Common.{◌≡◌, ℕ, ◌+◌, ◌-◌, ◌*◌, ◌≤◌, ◌⊎◌, ◌↔◌, ⊎_elim, inl, inr, refl, true}
use Rattle.std.proofs.Common.{false, List, [], ◌∷◌, ◌++◌, length, take, subst, sym, ◌∙◌, ap}
use Rattle.std.proofs.Common.{arith, append_assoc}
use Rattle.std.proofs.Math.Seq.{take-length}
use Rattle.std.proofs.lemmas.List.{length-append, take-append-le}
use Rattle.rn_choices.specs.declared.choice.Choice.{Choice}
use Rattle.rn_choices.specs.declared.next.Next.TheVariants.{Forced, Choose}
use Rattle.rn_choices.specs.Leading.{Says}
use Rattle.rn_choices.specs.Waiting.{at_turn, WaitsAt, Waits, IsLeft, Stand, weight, bulk}
use Rattle.rn_choices.proofs.Turning.{turn_of}

-- what waits, waits after more decisions too
pub waits_on : {D T S : Type 0} (leads : List D → S → Type 0) (offers : List D → T → ℕ →
    D) (allows : List D → T → ℕ → Type 0) (ds es : List D) (cs : List (Choice T)) (s : S) →
    Stand offers allows ds cs → Waits leads offers ds cs s ↔ Waits leads offers (ds ++ es) cs s
waits_on leads offers allows ds es [] s stand = (λ w. w, λ w. w)
waits_on leads offers allows ds es (c ∷ cs) s stand =
    let prefix = take-append-le c.mark ds es stand.0.0 in
    let all : List _ → Type 0 = λ l. WaitsAt leads offers l c s ⊎ Waits leads offers l cs s in
    (λ w. subst all (sym prefix) w, λ w. subst all prefix w)

pub stand_on : {D T : Type 0} (offers : List D → T → ℕ → D) (allows : List D → T → ℕ →
    Type 0) (ds es : List D) (cs : List (Choice T)) → Stand offers allows ds cs →
    Stand offers allows (ds ++ es) cs
stand_on offers allows ds es [] stand = tt
stand_on offers allows ds es (c ∷ cs) stand =
    let met = stand.0 in
    let went = stand.1 in
    let prefix = take-append-le c.mark ds es met.0 in
    let within : c.mark ≤ length (ds ++ es) = omega (arith, length-append ds es) in
    let x = at_turn offers (take c.mark ds) c went.0 in (
      (within, met.1, met.2, λ a less. subst (λ l. allows l c.site a) (sym prefix) (met.3 a less)),
      (
        went.0,
        went.1,
        (
          went.2.0 ++ es,
          ap (λ l. l ++ es) went.2.1
              ∙ append_assoc (take c.mark ds) (x ∷ went.2.0) es
              ∙ ap (λ l. l ++ at_turn offers l c went.0 ∷ (went.2.0 ++ es)) (sym prefix),
        ),
      ),
      subst (λ l. Stand offers allows l cs) (sym prefix) stand.2,
    )

-- a decision to which it is forced drops no solution and adds none
pub forced_on : {D T S : Type 0} (leads : List D → S → Type 0) (offers : List D → T → ℕ →
    D) (allows : List D → T → ℕ →
    Type 0) (ends : Type 0) (ds : List D) (site : T) (cs : List (Choice T)) (s : S) →
    ((es fs : List D) (t : S) → leads (es ++ fs) t → leads es t) →
    Stand offers allows ds cs → Says leads offers allows ends ds (Forced site) →
    IsLeft leads offers true ds cs s ↔ IsLeft leads offers true (ds ++ offers ds site 0 ∷ []) cs s
forced_on leads offers allows ends ds site cs s shorter stand forced =
    let waits = waits_on leads offers allows ds (offers ds site 0 ∷ []) cs s stand in (
      λ left. ⊎_elim (λ led. inl (refl, forced.1 s led.1)) (λ w. inr (waits.0 w)) left,
      λ left. ⊎_elim (λ led. inl (
        refl,
        shorter ds (offers ds site 0 ∷ []) s led.1,
      )) (λ w. inr (waits.1 w)) left,
    )

-- a new choice drops no solution and adds none
pub choice_on : {D T S : Type 0} (leads : List D → S → Type 0) (offers : List D → T → ℕ →
    D) (allows : List D → T → ℕ →
    Type 0) (ends : Type 0) (ds : List D) (site : T) (of start first lag : ℕ)
    (cs : List (Choice T)) (s : S) →
    ((es fs : List D) (t : S) → leads (es ++ fs) t → leads es t) →
    first ≤ of → Says leads offers allows ends ds (Choose site of start) →
    IsLeft leads offers true ds cs s
    ↔ Waits leads offers ds
    (record { mark = length ds; site = site; of = of; first = first; tried = 0; lag = lag } ∷ cs) s
choice_on leads offers allows ends ds site of start first lag cs s shorter within choose =
    let whole = take-length ds in
    let here : List _ → Type 0 = λ l. WaitsAt leads offers l
    (record { mark = length ds; site = site; of = of; first = first; tried = 0; lag = lag }) s in
    let below : List _ → Type 0 = λ l. Waits leads offers l cs s in (
      λ left. ⊎_elim
          (λ led.
          let goes = choose.1 s led.1 in
          let turn = turn_of first of goes.0 within goes.1 in
          let least : 0 ≤ turn.0 = omega arith in
          inl (subst here (sym whole) (
            turn.0,
            least,
            turn.1,
            subst (λ a. leads (ds
                ++ offers ds site a ∷ []) s) (sym turn.2) goes.2,
          )))
          (λ w. inr (subst below (sym whole) w))
          left,
      λ w. ⊎_elim
          (λ at. let waits = subst here whole at in inl (refl, shorter ds _ s waits.3))
          (λ waits. inr (subst below whole waits))
          w,
    )

pub nothing_left : {D T S : Type 0} (leads : List D → S → Type 0) (offers : List D → T → ℕ →
    D) (ds : List D) (s : S) → IsLeft leads offers false ds [] s → ⊥
nothing_left leads offers ds s left = ⊎_elim (λ led. let dead = led.0 in let no : ⊥ = cc in no)
    (λ no. no) left

pub weight_on : {D T : Type 0} (offers : List D → T → ℕ → D) (allows : List D → T → ℕ →
    Type 0) (room : List D → ℕ) (ds es : List D) (cs : List (Choice T)) →
    Stand offers allows ds cs → weight room (ds ++ es) cs ≡ weight room ds cs
weight_on offers allows room ds es [] stand = refl
weight_on offers allows room ds es (c ∷ cs) stand =
    ap (λ l. (c.of - c.tried) * bulk (room l) + weight room l cs)
    (take-append-le c.mark ds es stand.0.0)
