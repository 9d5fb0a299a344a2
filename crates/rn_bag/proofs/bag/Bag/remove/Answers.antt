use Rattle.std.proofs.Common.{◌≡◌, ◌<◌, true, List, length, get_or, refl, sym, ◌∙◌, subst, arith}
use Rattle.std.proofs.lemmas.Bool.{false≢true}
use Rattle.rn_value.specs.declared.value.Value.{Value}
use Rattle.rn_model.specs.Lists.{count_of}
use Rattle.rn_bag.specs.link.Chunks.{Slots}
use Rattle.rn_bag.specs.Words.{has_bit}
use Rattle.rn_bag.proofs.BagLemmas.{none_found, other_found, taken_out, not_same}
use Rattle.rn_bag.proofs.bag.Bag.remove.Goals as goal

pub returns-in_default-clause-found : goal.returns-in_default-clause-found
returns-in_default-clause-found c =
    let none : count_of c.args.value.now c.args.self.now ≡ 0 = none_found c.args.value.now c.self.inside.chunks c.args.self.now c.seek-from.result.chunk c.seek-from.result.slot c.self.view_is c.seek-from.ensures.before c.in_default.ensures.none in
    (λ yes. absurd (false≢true yes), λ some. absurd (let no : ⊥ = omega (arith, none, some) in no))

pub returns-then-not-same-clause-found : goal.returns-then-not-same-clause-found
returns-then-not-same-clause-found c =
    let other : c.index-values-at.result ≡ c.args.value.now → ⊥ = λ e. false≢true (sym c.if-not-same.true ∙ c.same.ensures.1 e) in
    let none : count_of c.args.value.now c.args.self.now ≡ 0 = other_found c.args.value.now c.index-values-at.result c.self.inside.chunks c.args.self.now c.in-Some.at.chunk c.in-Some.at.slot c.seek-from.result.chunk c.seek-from.result.slot c.at.result c.self.view_is c.self.invariant.ascend
    c.in-Some.ensures.chunk c.at.ensures.chunk (subst (λ (s : Slots). c.in-Some.at.slot < length s.values) (sym c.at.ensures.chunk) (c.in-Some.ensures.slot c.at.result))
    (subst (λ (xs : List Value). c.index-values-at.result ≡ get_or xs c.in-Some.at.slot c.index-values-at.result) c.values.ensures.value c.index-values-at.is) (subst (λ (s : Slots). has_bit s.there c.in-Some.at.slot ≡ true) (sym c.at.ensures.chunk) (c.in-Some.ensures.there c.at.result))
    c.in-Some.ensures.before c.seek-from.ensures.before c.seek-from.ensures.rest (not_same c.args.value.now c.index-values-at.result other) in
    (λ yes. absurd (false≢true yes), λ some. absurd (let no : ⊥ = omega (arith, none, some) in no))

pub returns-clause-found : goal.returns-clause-found
returns-clause-found c =
    let taken = taken_out c.args.value.now c.index-values-at.result c.self.inside.chunks c.args.self.now c.in-Some.at.chunk c.in-Some.at.slot c.seek-from.result.chunk c.seek-from.result.slot c.at.result c.self.view_is
    c.in-Some.ensures.chunk c.at.ensures.chunk (subst (λ (s : Slots). c.in-Some.at.slot < length s.values) (sym c.at.ensures.chunk) (c.in-Some.ensures.slot c.at.result))
    (subst (λ (xs : List Value). c.index-values-at.result ≡ get_or xs c.in-Some.at.slot c.index-values-at.result) c.values.ensures.value c.index-values-at.is) (subst (λ (s : Slots). has_bit s.there c.in-Some.at.slot ≡ true) (sym c.at.ensures.chunk) (c.in-Some.ensures.there c.at.result))
    c.in-Some.ensures.before c.seek-from.ensures.before (c.same.ensures.0 c.if-not-same.false) in
    (λ _. taken.0, λ _. refl)

pub returns-clause-taken : goal.returns-clause-taken
returns-clause-taken c =
    let taken = taken_out c.args.value.now c.index-values-at.result c.self.inside.chunks c.args.self.now c.in-Some.at.chunk c.in-Some.at.slot c.seek-from.result.chunk c.seek-from.result.slot c.at.result c.self.view_is
    c.in-Some.ensures.chunk c.at.ensures.chunk (subst (λ (s : Slots). c.in-Some.at.slot < length s.values) (sym c.at.ensures.chunk) (c.in-Some.ensures.slot c.at.result))
    (subst (λ (xs : List Value). c.index-values-at.result ≡ get_or xs c.in-Some.at.slot c.index-values-at.result) c.values.ensures.value c.index-values-at.is) (subst (λ (s : Slots). has_bit s.there c.in-Some.at.slot ≡ true) (sym c.at.ensures.chunk) (c.in-Some.ensures.there c.at.result))
    c.in-Some.ensures.before c.seek-from.ensures.before (c.same.ensures.0 c.if-not-same.false) in
    c.take_out.ensures.tokens ∙ taken.1
