-- Gathering all solutions, each once.
use Rattle.std.proofs.Common.{◌≡◌, ◌≢◌, ℕ, ◌<◌, ◌⊎◌, ◌↔◌, ⊎_elim, inl, inr, refl, true, false}
use Rattle.std.proofs.Common.{Bool, List, [], ◌∷◌, ◌++◌, take, subst, sym, ◌∙◌, arith, Contains}
use Rattle.std.proofs.Common.{AllPairs, append_assoc, Some}
use Rattle.std.proofs.lemmas.List.Elements.{Contains-push_cases, Contains-push}
use Rattle.std.proofs.lemmas.List.Elements.{Contains-append_left, Contains-get_or}
use Rattle.std.proofs.lemmas.List.Quantifiers.{all_pairs_push}
use Rattle.rn_choices.specs.declared.choice.Choice.{Choice}
use Rattle.rn_choices.specs.Turns.{turned}
use Rattle.rn_choices.specs.Leading.{IsOnly}
use Rattle.rn_choices.specs.Waiting.{at_turn, Waits, IsLeft, Stand}
use Rattle.rn_choices.proofs.GoingOn.{nothing_left}
use Rattle.rn_choices.proofs.Turning.{one_turn}

-- what begins with decisions begins with fewer
abbrev pub Shorter : {D S : Type 0} → (List D → S → Type 0) → Type 0
Shorter {D} {S} leads = (ds es : List D) (s : S) → leads (ds ++ es) s → leads ds s

-- no solution goes on in two ways
abbrev pub OneWay : {D T S : Type 0} → (List D → S → Type 0) → (List D → T → ℕ → D) → Type 0
OneWay {D} {T} {S} leads offers =
    (ds : List D) (site : T) (a b : ℕ) (s : S) →
    leads (ds ++ offers ds site a ∷ []) s → leads (ds ++ offers ds site b ∷ []) s → a ≡ b

-- what begins with the decisions doesn't wait
pub apart : {D T S : Type 0} (leads : List D → S → Type 0) (offers : List D → T → ℕ →
    D) (allows : List D → T → ℕ → Type 0) (ds : List D) (cs : List (Choice T)) (s : S) →
    Shorter leads → OneWay leads offers → Stand offers allows ds cs → leads ds s →
    Waits leads offers ds cs s → ⊥
apart leads offers allows ds [] s shorter one_way stand led waits = waits
apart leads offers allows ds (c ∷ cs) s shorter one_way stand led waits =
    let met = stand.0 in
    let went = stand.1 in
    let before = take c.mark ds in
    let gone = at_turn offers before c went.0 in
    let rest = went.2.0 in
    let led_on : leads (before ++ gone ∷ []) s
    = shorter (before ++ gone ∷ []) rest s
    (subst (λ l. leads l s) (went.2.1 ∙ sym (append_assoc before (gone ∷ []) rest)) led) in
    ⊎_elim
    (λ at.
    let earlier = went.1 in
    let tried = met.2 in
    let from = at.1 in
    let below : went.0 < c.of = omega arith in
    let same = one_turn c.first c.of went.0 at.0 met.1 below at.2
    (one_way before c.site (turned c.first c.of went.0) (turned c.first c.of at.0) s led_on at.3) in
    let no : ⊥ = omega arith in no)
    (λ w. apart leads offers allows before cs s shorter one_way stand.2 (shorter before
    (gone ∷ []) s led_on) w)
    waits

-- Each solution was found or is left, what was found is a solution and isn't left, and all that
-- was found differs.
abbrev pub Gathered : {D T S : Type 0} → (List D → S → Type 0) → (List D → T → ℕ → D) → Bool →
    List D → List (Choice T) → List S → Type 0
Gathered {D} {T} {S} leads offers live ds cs found =
    ((s : S) → leads [] s → Contains found s ⊎ IsLeft leads offers live ds cs s)
    × ((s : S) → Contains found s → leads [] s × (IsLeft leads offers live ds cs s → ⊥))
    × AllPairs (λ s t. s ≢ t) found

-- one more was found
pub gathered_more : {D T S : Type 0} (leads : List D → S → Type 0) (offers : List D → T → ℕ →
    D) (allows : List D → T → ℕ → Type 0) (ds0 ds ds1 : List D) (cs0 cs cs1 : List (Choice T))
    (live : Bool) (found : List S) (f : S) →
    Shorter leads → OneWay leads offers → Stand offers allows ds cs → IsOnly (leads ds) (Some f) →
    ((s : S) → IsLeft leads offers true ds0 cs0 s ↔ IsLeft leads offers true ds cs s) →
    ((s : S) → Waits leads offers ds cs s ↔ IsLeft leads offers live ds1 cs1 s) →
    Gathered leads offers true ds0 cs0 found → Gathered leads offers live ds1 cs1 (found ++ f ∷ [])
gathered_more leads offers allows ds0 ds ds1 cs0 cs cs1 live found f shorter one_way stand only
    moved back gathered =
    let here : IsLeft leads offers true ds cs f = inl (refl, only.0) in
    let not_before : Contains found f → ⊥ = λ was. (gathered.1 f was).1 ((moved f).1 here) in (
      λ s led. ⊎_elim
          (λ was. inl (Contains-append_left found (f ∷ []) s was))
          (λ left. ⊎_elim
          (λ leads_here. inl (subst (λ t. Contains (found
          ++ f ∷ []) t) (sym (only.1 s leads_here.1))
          (Contains-push found f)))
          (λ waits. inr ((back s).0 waits))
          ((moved s).0 left))
          (gathered.0 s led),
      λ s has. ⊎_elim
          (λ was. (
            (gathered.1 s was).0,
            λ left. (gathered.1 s was).1 ((moved s).1 (inr ((back s).1 left))),
          ))
          (λ is. subst (λ t. leads [] t × (IsLeft leads offers live ds1 cs1 t → ⊥)) is (
            shorter [] ds f only.0,
            λ left. apart leads offers allows ds cs f shorter one_way stand only.0
                ((back f).1 left),
          ))
          (Contains-push_cases found f s has),
      all_pairs_push (λ s t. s ≢ t) found f gathered.2 (λ k d within same. not_before (subst
          (λ t. Contains found t) same (Contains-get_or found k d within))),
    )

-- nothing is left: all were found, each once
pub gathered_all : {D T S : Type 0} (leads : List D → S → Type 0) (offers : List D → T → ℕ →
    D) (live : Bool) (ds : List D) (cs : List (Choice T)) (found : List S) →
    live ≡ false → cs ≡ [] → Gathered leads offers live ds cs found → (s : S) →
    Contains found s ↔ leads [] s
gathered_all leads offers live ds cs found dead none gathered s = (
  λ has. (gathered.1 s has).0,
  λ led. ⊎_elim
      (λ was. was)
      (λ left. absurd (nothing_left leads offers ds s
      (subst (λ l. IsLeft leads offers false ds l s) none (subst
      (λ b. IsLeft leads offers b ds cs s) dead left))))
      (gathered.0 s led),
)
