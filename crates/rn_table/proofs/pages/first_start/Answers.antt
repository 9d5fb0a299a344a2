use Rattle.std.proofs.Common.{◌≡◌, ℕ, ◌<◌, ◌∷◌, [], ◌+◌, List, true, false, length, get_or, drop, sym, ap, ◌∙◌, subst, arith}
use Rattle.std.specs.Prelude.{find, nat_le}
use Rattle.std.proofs.lemmas.List.{drop_more, get_or_default}
use Rattle.rn_table.specs.link.Leaves.{Leaf, bit_of, leaf_with, starting_from}
use Rattle.rn_bag.specs.Words.{has_bit}
use Rattle.rn_table.proofs.CursorLemmas.{Begins, begins_first, begins_next, found_start, no_start, pages_before}
use Rattle.rn_table.proofs.pages.first_start.Goals as goal

pub loop-at-init : goal.loop-at-init
loop-at-init c = record {
  begins = subst (λ b. Begins c.args.from c.leaf_of-at.result b) (sym c.bit-index.ensures.index) (subst (λ k. Begins c.args.from k (bit_of c.args.from)) (sym c.leaf_of-at.ensures) (begins_first c.args.from));
  rest = ap (λ k. find (nat_le c.args.from) (starting_from k (drop c.leaf_of-at.result c.args.leaves.now))) (let e : c.leaf_of-at.result ≡ 0 + c.leaf_of-at.result = omega arith in e)
      ∙ pages_before c.args.from 0 c.leaf_of-at.result c.args.leaves.now (omega (arith, c.leaf_of-at.ensures));
}

-- the page that is looked at
here : (ls : List Leaf) (at : ℕ) → at < length ls → (l : Leaf) × (l ≡ get_or ls at l)
here ls at inside = let d = leaf_with [] 0 0 in (get_or ls at d, get_or_default ls at d (get_or ls at d) inside)

first : (ls : List Leaf) (at : ℕ) (l : Leaf) → at < length ls → l ≡ get_or ls at l → drop at ls ≡ l ∷ drop (at + 1) ls
first ls at l inside is = drop_more ls at l inside ∙ ap (λ m. m ∷ drop (at + 1) ls) (sym is)

pub returns-then-found-lt-ROOM : goal.returns-then-found-lt-ROOM
returns-then-found-lt-ROOM c =
    let at = c.loop-at.at in
    let ls = c.args.leaves.now in
    let inside : at < length ls = omega (arith, c.loop-at-test.true, c.len-at-end.ensures) in
    let l = here ls at inside in
    let word = c.starting.ensures l.0 l.1 in
    sym (sym c.loop-at.invariant.rest ∙ ap (λ rs. find (nat_le c.args.from) (starting_from at rs)) (first ls at l.0 inside l.1)
    ∙ found_start c.args.from at c.loop-at.index c.first_from-found.result l.0 (drop (at + 1) ls) c.loop-at.invariant.begins c.first_from-found.ensures.later c.if-found-lt-ROOM.true
    (subst (λ w. has_bit w c.first_from-found.result ≡ true) word (c.first_from-found.ensures.there c.if-found-lt-ROOM.true))
    (λ i low high. subst (λ w. has_bit w i ≡ false) word (c.first_from-found.ensures.none i low high)))

pub loop-at-preserved : goal.loop-at-preserved
loop-at-preserved c =
    let at = c.loop-at.at in
    let ls = c.args.leaves.now in
    let inside : at < length ls = omega (arith, c.loop-at-test.true, c.len-at-end.ensures) in
    let l = here ls at inside in
    let word = c.starting.ensures l.0 l.1 in
    record {
      begins = begins_next c.args.from at c.loop-at.index c.loop-at.invariant.begins;
      rest = sym (ap (λ rs. find (nat_le c.args.from) (starting_from at rs)) (first ls at l.0 inside l.1) ∙ no_start c.args.from at c.loop-at.index c.first_from-found.result l.0 (drop (at + 1) ls) c.loop-at.invariant.begins c.if-found-lt-ROOM.false (λ i low high. subst (λ w. has_bit w i ≡ false) word (c.first_from-found.ensures.none i low high))) ∙ c.loop-at.invariant.rest;
    }
