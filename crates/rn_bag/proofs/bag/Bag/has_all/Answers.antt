use Rattle.std.proofs.Common.{◌≡◌, ◌≤◌, ◌-◌, ◌∙◌, ◌↔◌, [], ◌∷◌, IsTrue, refl, sym, ap, subst, arith}
use Rattle.std.proofs.lemmas.List.{take_all, take_more}
use Rattle.std.proofs.lemmas.Bool.{false≢true}
use Rattle.std.specs.List.{AllByRecursion}
use Rattle.rn_value.specs.declared.value.Value.{Value}
use Rattle.rn_model.specs.Lists.{count_of, IsWithin}
use Rattle.rn_bag.proofs.SlotLemmas.{all_more}
use Rattle.rn_bag.proofs.CursorLemmas.{all_read, within_each, one_within}
use Rattle.rn_bag.proofs.bag.Bag.has_all.Goals as goal

pub returns-in-len1 : goal.returns-in-len1
returns-in-len1 c =
    let values = c.as_slice-values.result.now in
    let v = c.value-item.result in
    let one : values ≡ v ∷ [] = sym (take_all 1 values (omega (arith, c.in-len1.len_below))) ∙ take_more values 0 v (omega (arith, c.in-len1.len_at_least)) ∙ ap (λ w. w ∷ []) (sym c.value-item.is) in
    let there = one_within v c.args.self.now in
    subst (λ ws. IsTrue c.contains.result ↔ IsWithin ws c.args.self.now) (sym one ∙ c.as_slice-values.ensures) (λ yes. there.0 (c.contains.ensures.0 yes), λ within. c.contains.ensures.1 (there.1 within))

pub loop-i-preserved-then-same : goal.loop-i-preserved-then-same
loop-i-preserved-then-same c =
    let P : Value → Type 0 = λ w. count_of w c.as_slice-values.result.now ≤ count_of w c.args.self.now in
    let before : P c.index-values-i-then-i-gt0.result = all_read P c.as_slice-values.result.now c.loop-i.i (c.loop-i.i - 1) c.index-values-i-then-i-gt0.result c.loop-i.invariant (omega arith) (omega arith) c.index-values-i-then-i-gt0.is in
    all_more P 0 c.loop-i.i c.as_slice-values.result.now c.index-values-i.result (omega arith) (omega arith) c.index-values-i.is (subst P (c.same.ensures.0 c.if-same.true) before) c.loop-i.invariant

pub loop-i-preserved : goal.loop-i-preserved
loop-i-preserved c =
    let P : Value → Type 0 = λ w. count_of w c.as_slice-values.result.now ≤ count_of w c.args.self.now in
    all_more P 0 c.loop-i.i c.as_slice-values.result.now c.index-values-i.result (omega arith) (omega arith) c.index-values-i.is (omega (arith, c.count.ensures, c.count_among.ensures)) c.loop-i.invariant

pub returns : goal.returns
returns c =
    let P : Value → Type 0 = λ w. count_of w c.as_slice-values.result.now ≤ count_of w c.args.self.now in
    let all : AllByRecursion P c.as_slice-values.result.now = subst (AllByRecursion P) (take_all c.loop-i.i c.as_slice-values.result.now (omega arith)) c.loop-i.invariant in
    (λ _. subst (λ ws. IsWithin ws c.args.self.now) c.as_slice-values.ensures (within_each c.as_slice-values.result.now c.args.self.now all), λ _. refl)

pub returns-then-count-count_among : goal.returns-then-count-count_among
returns-then-count-count_among c = (
  λ yes. absurd (false≢true yes),
  λ within. absurd (let no : ⊥ = omega (arith, within c.index-values-i.result, c.count.ensures, c.count_among.ensures, ap (count_of c.index-values-i.result) c.as_slice-values.ensures) in no),
)
