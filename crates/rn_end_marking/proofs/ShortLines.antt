-- Whether the lines of marks are short.
use Rattle.std.proofs.Common.{◌≡◌, ℕ, zero, suc, ◌+◌, ◌<◌, ◌≤◌, List, [], ◌∷◌, length, refl, sym, ap, ◌∙◌, subst, inl, inr, arith}
use Rattle.std.specs.Prelude.{◌⊎◌, ◌≢◌, Some, slice_get, unwrap_or}
use Rattle.rn_value.specs.declared.value.Value.{Value}
use Rattle.rn_model.specs.declared.system.System.{System}
use Rattle.rn_model.specs.declared.log.MarkLine.{MarkLine}
use Rattle.rn_model.specs.Markings.{Marking, net_of, tokens_at}
use Rattle.rn_model.specs.Liveness.{IsMarkOf}
use Rattle.rn_live.specs.link.Marks.{places_of}
use Rattle.rn_live.proofs.HolderLemmas.{tokens_are}
use Rattle.rn_window.specs.Windows.{top}
use Rattle.rn_end_marking.specs.link.Lines.{AreShortAt}
use Rattle.rn_end_marking.specs.MarkTexts.{line_text}

past : (places : List (List Value)) (k : ℕ) → length places ≤ k → unwrap_or (slice_get places k) [] ≡ []
past [] k h = refl
past (vs ∷ places) zero h = absurd (let no : ⊥ = omega (arith, h) in no)
past (vs ∷ places) (suc k) h = past places k (omega (arith, h))

up_to : (k i : ℕ) → k < i + 1 → (k < i) ⊎ (i ≡ k)
up_to zero zero h = inr refl
up_to zero (suc i) h = inl (omega arith)
up_to (suc k) zero h = absurd (let no : ⊥ = omega (arith, h) in no)
up_to (suc k) (suc i) h = elim (up_to k i (omega (arith, h))) as (λ _. (suc k < suc i) ⊎ (suc i ≡ suc k)) [
  | inl less ↦ inl (omega (arith, less))
  | inr same ↦ inr (ap suc same)
]

pub nil_of : (vs : List Value) → length vs ≡ 0 → vs ≡ []
nil_of [] h = refl
nil_of (v ∷ vs) h = absurd (let no : ⊥ = omega (arith, h) in no)

-- what holds below a number and of it holds below the next
pub one_more_holds : (P : ℕ → Type 0) (i : ℕ) → ((k : ℕ) → k < i → P k) → P i → (k : ℕ) → k < i + 1 → P k
one_more_holds P i before here k h = elim (up_to k i h) as (λ _. P k) [
  | inl less ↦ before k less
  | inr same ↦ subst P same here
]

module _ (format : ℕ) (system : System) (nets : List ℕ) (m : Marking) where
  -- the line of a place of an instance of this net is short, where it holds tokens
  abbrev pub IsShortThere : ℕ → ℕ → ℕ → Type 0
  IsShortThere n net place = tokens_at m n place ≢ [] → length (line_text format system nets
      (record { inst = n; net = net; place = place; values = tokens_at m n place })) < top

  module _ (n net : ℕ) (is : net_of m n ≡ Some net) where
    -- where all places that are there have short lines, all lines are short
    pub all_short : (end : ℕ) → length (places_of m n) ≤ end → ((k : ℕ) → k < end → IsShortThere n net k) → AreShortAt format system nets m n
    all_short end h short other place there any = elim (within place end) as (λ _. length (line_text format system nets (record { inst = n; net = other; place = place; values = tokens_at m n place })) < top) [
      | inl less ↦
          let same : net ≡ other = cc in
          subst (λ k. length (line_text format system nets (record { inst = n; net = k; place = place; values = tokens_at m n place })) < top) same (short place less any)
      | inr beyond ↦ absurd (any (tokens_are m n place ∙ past (places_of m n) place (omega (arith, h, beyond))))
    ]
      where
        within : (k end : ℕ) → (k < end) ⊎ (end ≤ k)
        within k zero = inr (omega arith)
        within zero (suc end) = inl (omega arith)
        within (suc k) (suc end) = elim (within k end) as (λ _. (suc k < suc end) ⊎ (suc end ≤ suc k)) [
          | inl less ↦ inl (omega (arith, less))
          | inr past ↦ inr (omega (arith, past))
        ]

    pub one_short : (place : ℕ) → AreShortAt format system nets m n → IsShortThere n net place
    one_short place short any = short net place is any

  -- where the lines of its instance are short, a line is
  pub short_line : (line : MarkLine) → IsMarkOf system m line → AreShortAt format system nets m line.inst → length (line_text format system nets line) < top
  short_line line mark short =
      subst (λ vs. length (line_text format system nets (record { inst = line.inst; net = line.net; place = line.place; values = vs })) < top)
      (sym mark.values) (short line.net line.place mark.net (λ none. mark.any (mark.values ∙ none)))
