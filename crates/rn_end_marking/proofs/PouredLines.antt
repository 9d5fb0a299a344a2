-- Lines that flow one after another, and those of the live part.
use Rattle.std.proofs.Common.{◌≡◌, ℕ, zero, suc, ◌+◌, ◌<◌, ◌≤◌, Bool, true, false, cond, List, [], ◌∷◌, ◌++◌, length, take, refl, sym, ap, ◌∙◌, subst, inl, inr, arith}
use Rattle.std.proofs.lemmas.List.{append-nil, append_assoc}
use Rattle.std.proofs.lemmas.List.Concat.{flat_map-append}
use Rattle.std.proofs.lemmas.List.Elements.{Contains-push, Contains-append_left, Contains-push_cases}
use Rattle.std.specs.Prelude.{◌⊎◌, ◌↔◌, ◌≢◌, Some, Result, Ok, Err, OnErr, All, Contains, flat_map}
use Rattle.rn_window.specs.Windows.{top}
use Rattle.std.specs.List.{AllByRecursion}
use Rattle.rn_value.specs.declared.value.Value.{Value}
use Rattle.rn_model.specs.declared.system.System.{System}
use Rattle.rn_model.specs.declared.log.MarkLine.{MarkLine}
use Rattle.rn_model.specs.Markings.{Marking, Instance, instance_at, net_of, tokens_at}
use Rattle.rn_model.specs.Liveness.{IsLive, LivePart}
use Rattle.rn_model.proofs.AfterFiring.{found_number}
use Rattle.rn_model.proofs.EachElement.{each_append, each_weaker}
use Rattle.rn_model.proofs.EnablingLemmas.{not_in_nil}
use Rattle.rn_model.proofs.LiveBindings.{live_is_there}
use Rattle.rn_model.proofs.MarkingsStay.{Increases, to_strict}
use Rattle.rn_model.proofs.OneLivePart.{live_part_is_unique}
use Rattle.rn_live.specs.Rooms.{is_marked}
use Rattle.rn_live.proofs.HolderLemmas.{of_each}
use Rattle.rn_live.proofs.LiveMarks.{net_there}
use Rattle.rn_pour.specs.Flows.{Standing, Flows, Breaks}
use Rattle.rn_pour.proofs.Flows.{flows_on, breaks_later, breaks_early}
use Rattle.rn_end_marking.specs.link.Lines.{line_of, lines_from, lines_at, marked_lines, lines_below, AreShortAt}
use Rattle.rn_end_marking.specs.MarkTexts.{AreShort, line_text}
use Rattle.rn_end_marking.proofs.LinesInOrder.{lines_of_live}

module _ (f : MarkLine → List ℕ) (b m a : Standing) (k k1 : List ℕ) (xs ys : List MarkLine) (came : Flows b k (flat_map f xs) m k1) where
  -- more lines flow
  pub lines_on : (k2 : List ℕ) → Flows m k1 (flat_map f ys) a k2 → Flows b k (flat_map f (xs ++ ys)) a k2
  lines_on k2 next = subst (λ t. Flows b k t a k2) (sym (flat_map-append f xs ys))
      (flows_on b m a k (flat_map f xs) k1 (flat_map f ys) k2 came next)

  -- the sink failed in more lines
  pub lines_broken : (all rest : List MarkLine) → all ≡ (xs ++ ys) ++ rest → Breaks m k1 (flat_map f ys) a → Breaks b k (flat_map f all) a
  lines_broken all rest is broken = subst (λ t. Breaks b k t a)
      (sym (ap (flat_map f) is ∙ flat_map-append f (xs ++ ys) rest ∙ ap (λ t. t ++ flat_map f rest) (flat_map-append f xs ys)))
      (breaks_early b a k (flat_map f xs ++ flat_map f ys) (flat_map f rest)
      (breaks_later b m a k (flat_map f xs) k1 (flat_map f ys) came broken))

-- the line of a place that holds tokens
pub line_is : (n net place : ℕ) (vs : List Value) → vs ≢ [] → line_of n net place vs ≡ record { inst = n; net = net; place = place; values = vs } ∷ []
line_is n net place [] some = absurd (some refl)
line_is n net place (v ∷ vs) some = refl

pub line_is_text : (f : MarkLine → List ℕ) (n net place : ℕ) (vs : List Value) → vs ≢ [] →
    flat_map f (line_of n net place vs) ≡ f (record { inst = n; net = net; place = place; values = vs })
line_is_text f n net place vs some =
    ap (flat_map f) (line_is n net place vs some) ∙ append-nil (f (record { inst = n; net = net; place = place; values = vs }))

-- the lines of the first places come first
pub places_prefix : (n net k j : ℕ) (places : List (List Value)) →
    (rest : List MarkLine) × (lines_from n net k places ≡ lines_from n net k (take j places) ++ rest)
places_prefix n net k zero [] = ([], refl)
places_prefix n net k zero (vs ∷ places) = (lines_from n net k (vs ∷ places), refl)
places_prefix n net k (suc j) [] = ([], refl)
places_prefix n net k (suc j) (vs ∷ places) =
    let later = places_prefix n net (k + 1) j places in (
      later.0,
      ap (λ lines. line_of n net k vs ++ lines) later.1
          ∙ sym (append_assoc (line_of n net k vs) (lines_from n net (k + 1) (take j places)) later.0),
    )

less_or_same : (j end : ℕ) → j ≤ end → (suc j ≤ end) ⊎ (j ≡ end)
less_or_same zero zero h = inr refl
less_or_same zero (suc end) h = inl (omega arith)
less_or_same (suc j) zero h = absurd (let no : ⊥ = omega (arith, h) in no)
less_or_same (suc j) (suc end) h = elim (less_or_same j end (omega (arith, h))) as (λ _. (suc (suc j) ≤ suc end) ⊎ (suc j ≡ suc end)) [
  | inl less ↦ inl (omega (arith, less))
  | inr same ↦ inr (ap suc same)
]

module _ (m : Marking) (marks : List Bool) where
  -- the lines of the first numbers come first
  pub below_prefix : (j end : ℕ) → j ≤ end → (rest : List MarkLine) × (lines_below m marks end ≡ lines_below m marks j ++ rest)
  below_prefix zero end h = (lines_below m marks end, refl)
  below_prefix (suc j) zero h = absurd (let no : ⊥ = omega (arith, h) in no)
  below_prefix (suc j) (suc end) h = elim (less_or_same j end (omega (arith, h))) as (λ _. (rest : List MarkLine) × (lines_below m marks (suc end) ≡ lines_below m marks (suc j) ++ rest)) [
    | inl less ↦
        let before = below_prefix (suc j) end less in (
          before.0 ++ marked_lines m marks end,
          ap (λ lines. lines ++ marked_lines m marks end) before.1
              ∙ append_assoc (lines_below m marks (suc j)) before.0 (marked_lines m marks end),
        )
    | inr same ↦ ([], ap (λ k. lines_below m marks (suc k)) (sym same) ∙ sym (append-nil (lines_below m marks (suc j))))
  ]

  -- one number more
  pub below_more : (end : ℕ) → lines_below m marks (end + 1) ≡ lines_below m marks end ++ marked_lines m marks end
  below_more end = let next : end + 1 ≡ suc end = omega arith in ap (lines_below m marks) next

  pub below_split : (k end : ℕ) → k < end → (rest : List MarkLine) × (lines_below m marks end ≡ (lines_below m marks k ++ marked_lines m marks k) ++ rest)
  below_split k end h = below_prefix (suc k) end (omega (arith, h))

  abbrev one_marked : ℕ → List ℕ
  one_marked n = cond (is_marked marks n) (n ∷ []) []

  -- the marked numbers below an end
  abbrev pub marked_below : ℕ → List ℕ
  marked_below zero = []
  marked_below (suc end) = marked_below end ++ one_marked end

  marked_one : (n : ℕ) (b : Bool) → cond b (lines_at m n) [] ≡ flat_map (lines_at m) (cond b (n ∷ []) [])
  marked_one n true = sym (append-nil (lines_at m n))
  marked_one n false = refl

  pub lines_are : (end : ℕ) → lines_below m marks end ≡ flat_map (lines_at m) (marked_below end)
  lines_are zero = refl
  lines_are (suc end) =
      ap (λ lines. lines ++ marked_lines m marks end) (lines_are end)
      ∙ ap (λ lines. flat_map (lines_at m) (marked_below end) ++ lines) (marked_one end (is_marked marks end))
      ∙ sym (flat_map-append (lines_at m) (marked_below end) (one_marked end))

  below_end : (end : ℕ) → AllByRecursion (λ n. n < end) (marked_below end)
  below_end zero = tt
  below_end (suc end) = each_append (λ n. n < suc end) (marked_below end) (one_marked end)
      (each_weaker (λ n. n < end) (λ n. n < suc end) (λ n less. omega (arith, less)) (marked_below end) (below_end end))
      (last (is_marked marks end))
    where
      last : (b : Bool) → AllByRecursion (λ n. n < suc end) (cond b (end ∷ []) [])
      last true = (omega arith, tt)
      last false = tt

  pushed : (ns : List ℕ) (k : ℕ) → Increases ns → AllByRecursion (λ n. n < k) ns → Increases (ns ++ k ∷ [])
  pushed [] k up low = (tt, tt)
  pushed (n ∷ []) k up low = (low.0, (tt, tt))
  pushed (n ∷ j ∷ ns) k up low = (up.0, pushed (j ∷ ns) k up.1 low.1)

  increasing : (end : ℕ) → Increases (marked_below end)
  increasing zero = tt
  increasing (suc end) = more (is_marked marks end) (increasing end)
    where
      more : (b : Bool) → Increases (marked_below end) → Increases (marked_below end ++ cond b (end ∷ []) [])
      more true up = pushed (marked_below end) end up (below_end end)
      more false up = subst Increases (sym (append-nil (marked_below end))) up

  there : (end n : ℕ) → n < end → is_marked marks n ≡ true → Contains (marked_below end) n
  there zero n h e = absurd (let no : ⊥ = omega (arith, h) in no)
  there (suc end) n h e = elim (less_or_same n end (omega (arith, h))) as (λ _. Contains (marked_below (suc end)) n) [
    | inl less ↦ Contains-append_left (marked_below end) (one_marked end) n (there end n less e)
    | inr same ↦ subst (λ k. Contains (marked_below end ++ cond (is_marked marks k) (k ∷ []) []) n) same
        (subst (λ b. Contains (marked_below end ++ cond b (n ∷ []) []) n) (sym e) (Contains-push (marked_below end) n))
  ]

  marked : (end n : ℕ) → Contains (marked_below end) n → is_marked marks n ≡ true
  marked zero n h = absurd (not_in_nil n h)
  marked (suc end) n h = last (is_marked marks end) refl h (marked end n)
    where
      last : (b : Bool) → is_marked marks end ≡ b → Contains (marked_below end ++ cond b (end ∷ []) []) n →
          (Contains (marked_below end) n → is_marked marks n ≡ true) → is_marked marks n ≡ true
      last true e inside earlier = elim (Contains-push_cases (marked_below end) end n inside) as (λ _. is_marked marks n ≡ true) [
        | inl before ↦ earlier before
        | inr same ↦ subst (λ k. is_marked marks k ≡ true) same e
      ]
      last false e inside earlier = earlier (subst (λ ns. Contains ns n) (append-nil (marked_below end)) inside)

  module _ (system : System) (live : (n : ℕ) → (is_marked marks n ≡ true) ↔ IsLive system m n) (end : ℕ)
      (below : All (λ i. (0 < i.number) × (i.number < end)) m.instances) where
    pub live_below : (n : ℕ) → IsLive system m n → n < end
    live_below n lives =
        let P : Instance → Type 0 = λ i. (0 < i.number) × (i.number < end) in
        let net = live_is_there system m n lives in
        let at = net_there (instance_at m n) net.0 net.1 in
        let number : at.0.number ≡ n = found_number m.instances n at.0 at.1 in
        subst (λ k. k < end) number (of_each P m n at.0 below at.1).1

    -- the lines of the marked numbers are the live part
    pub marked_part : LivePart system m (lines_below m marks end)
    marked_part = subst (LivePart system m) (sym (lines_are end))
        (lines_of_live system m (marked_below end) (to_strict (marked_below end) (increasing end))
        (λ n. (
          (λ inside. (live n).0 (marked end n inside)),
          (λ lives. there end n (live_below n lives) ((live n).1 lives)),
        )))

    -- and so they are any such lines
    pub marked_are : (lines : List MarkLine) → LivePart system m lines → lines_below m marks end ≡ lines
    marked_are lines part = live_part_is_unique system m (lines_below m marks end) lines marked_part part

-- the lines of a marked instance are short
pub short_at : (format : ℕ) (system : System) (nets : List ℕ) (m : Marking) (n : ℕ) → AreShort format system nets m → IsLive system m n → AreShortAt format system nets m n
short_at format system nets m n short live net place is any =
    short (record { inst = n; net = net; place = place; values = tokens_at m n place })
    (record { live = live; net = is; values = refl; any = any })

pub short_place : (format : ℕ) (system : System) (nets : List ℕ) (m : Marking) (n net place : ℕ) (tokens : List Value) → AreShortAt format system nets m n → net_of m n ≡ Some net → tokens_at m n place ≡ tokens → tokens ≢ [] →
    length (line_text format system nets (record { inst = n; net = net; place = place; values = tokens })) < top
short_place format system nets m n net place tokens short is same some =
    subst (λ vs. vs ≢ [] → length (line_text format system nets (record { inst = n; net = net; place = place; values = vs })) < top) same (λ any. short net place is any) some

pub on_err : {T E : Type 0} (r : Result T E) (P : Type 0) → P → OnErr r P
on_err (Ok x) P p = tt
on_err (Err e) P p = p
