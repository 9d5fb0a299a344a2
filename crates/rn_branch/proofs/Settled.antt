-- Decisions that are settled stay so, and what is kept of how many are.
use Rattle.std.proofs.Common.{◌≡◌, ℕ, zero, suc, ◌<◌, ◌≤◌, List, [], ◌∷◌, ◌++◌, length, take}
use Rattle.std.proofs.Common.{sym, ap, ◌∙◌, subst, inl, inr, arith, length-append}
use Rattle.std.specs.Prelude.{Some, None, slice_get}
use Rattle.std.proofs.lemmas.List.{length-take-le, take-append-le, take-take}
use Rattle.std.proofs.lemmas.Option.{slice_get_within}
use Rattle.std.proofs.Math.Seq.{take-append_seam}
use Rattle.std.proofs.lemmas.List.Elements.{Contains-append_left}
use Rattle.rn_model.specs.declared.system.System.{System}
use Rattle.rn_growing.specs.declared.decision.Head.{Head}
use Rattle.rn_growing.specs.declared.decision.Decision.{Decision}
use Rattle.rn_growing.specs.declared.decision.Decision.TheVariants.{Entered, Found, Computed}
use Rattle.rn_growing.specs.Turns.{IsEntered}
use Rattle.rn_growing.specs.Grown.{Grown, first_decisions, with_decision}
use Rattle.rn_growing.proofs.Growth.{at_in, either_at, front_at}
use Rattle.rn_search.specs.Ending.{IsAsked}
use Rattle.rn_looking.specs.Settling.{AreSettled}
use Rattle.rn_branch.specs.Keeping.{KeepsSettled}
use Rattle.rn_looking.specs.Things.{IsOfNode}

in_front : {A : Type 0} (xs ys : List A) (k : ℕ) (x : A) → k < length xs →
    slice_get (xs ++ ys) k ≡ Some x → slice_get xs k ≡ Some x
in_front [] ys k x low at = absurd (let no : ⊥ = omega (arith, low) in no)
in_front (z ∷ xs) ys zero x low at = at
in_front (z ∷ xs) ys (suc k) x low at = in_front xs ys k x (omega (arith, low)) at

module _ (system : System) (ds more : List Decision) where
  -- what is asked of a node that was entered before was asked before
  asked_before : (head : Head) → IsEntered ds head → (d : Decision) → IsOfNode head d →
      IsAsked system (ds ++ more) d → IsAsked system ds d
  asked_before head entered (Entered child None) of asked = asked
  asked_before head entered (Entered child (Some from)) of asked =
      (subst (IsEntered ds) (sym of) entered, asked.1)
  asked_before head entered (Found other k v) of asked =
      (subst (IsEntered ds) (sym of) entered, asked.1)
  asked_before head entered (Computed other site way v) of asked =
      (subst (IsEntered ds) (sym of) entered, asked.1)

  pub settled_by_more : (n : ℕ) → AreSettled system ds n → AreSettled system (ds ++ more) n
  settled_by_more n settled = record {
    within = let room = settled.within in omega (arith, room, length-append ds more);
    decided = λ d of asked.
        let k = of.0 in
        let low = of.1 in
        let room = settled.within in
        let head = of.2.0 in
        let entry : Decision = Entered head of.2.1.0 in
        let there = in_front ds more k entry (omega (arith, low, room)) of.2.1.1 in
        let before = settled.decided d (k, low, (head, (of.2.1.0, there, of.2.1.2)))
        (asked_before head (of.2.1.0, at_in ds k entry there) d of.2.1.2 asked) in
        (before.0, Contains-append_left ds more before.0 before.1, before.2);
  }

-- What is kept where one more decision is made,
pub keeps_more : (g : Grown) (d : Decision) (settled : ℕ) (before : List ℕ) →
    KeepsSettled g settled before →
    KeepsSettled (with_decision g d) settled (before ++ settled ∷ [])
keeps_more g d settled before keeps = record {
  so_far = settled_by_more g.system g.decisions (d ∷ []) settled keeps.so_far;
  each = let each = keeps.each in
      omega (
        arith,
        each,
        length-append before (settled ∷ []),
        length-append g.decisions (d ∷ []),
      );
  earlier = λ k n at. elim (either_at before settled k n at) [
    | inl front ↦
        let low : k ≤ length g.decisions = let h = front.0 in let each = keeps.each in
        omega (arith, h, each) in
        subst (λ ds. AreSettled g.system ds n)
        (sym (take-append-le k g.decisions (d ∷ []) low)) (keeps.earlier k n front.1)
    | inr last ↦
        let seam : take k (g.decisions ++ d ∷ []) ≡ g.decisions =
        ap (λ j. take j (g.decisions ++ d ∷ [])) (last.0 ∙ keeps.each)
        ∙ take-append_seam g.decisions (d ∷ []) in
        subst (λ ds. AreSettled g.system ds n) (sym seam)
        (subst (AreSettled g.system g.decisions) (sym last.1) keeps.so_far)
  ];
}

-- where decisions are taken back,
pub keeps_fewer : (g : Grown) (count settled now : ℕ) (before : List ℕ) →
    KeepsSettled g settled before → slice_get before count ≡ Some now →
    KeepsSettled (first_decisions count g) now (take count before)
keeps_fewer g count settled now before keeps at = record {
  so_far = keeps.earlier count now at;
  each = let each = keeps.each in let low = slice_get_within before count now at in
      let less : count ≤ length g.decisions = omega (arith, each, low) in
      length-take-le count before (omega (arith, low))
      ∙ sym (length-take-le count g.decisions less);
  earlier = λ k n there.
      let low = slice_get_within before count now at in
      let front = front_at before count k n there (omega (arith, low)) in
      let early : k ≤ count = let h = front.0 in omega (arith, h) in
      subst (λ ds. AreSettled g.system ds n) (sym (take-take k count g.decisions early))
      (keeps.earlier k n front.1);
}

-- and where more are settled.
pub keeps_settled : (g : Grown) (settled now : ℕ) (before : List ℕ) →
    KeepsSettled g settled before → AreSettled g.system g.decisions now →
    KeepsSettled g now before
keeps_settled g settled now before keeps are =
    record { so_far = are; each = keeps.each; earlier = keeps.earlier }
