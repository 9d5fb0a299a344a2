use Rattle.std.proofs.Common.{◌≡◌, ℕ, ◌+◌, ◌*◌, ◌<◌, ◌≤◌, false, Some, sym, ap, ◌∙◌, arith}
use Rattle.std.specs.Prelude.{find, nat_eq}
use Rattle.std.proofs.lemmas.Bool.{false≢true}
use Rattle.rn_model.specs.Markings.{Instance, IsThere, instance_at}
use Rattle.rn_bag.specs.Words.{has_bit}
use Rattle.rn_table.specs.link.Leaves.{kept_in, numbered}
use Rattle.rn_table.specs.Tables.{Kept}
use Rattle.rn_table.proofs.LeafLemmas.{page_is}
use Rattle.rn_table.proofs.TableLemmas.{found_in, found_none, leaf_here}
use Rattle.rn_table.proofs.CursorLemmas.{kept_there, none_there, held_there, some_then, else_some, if_some}
use Rattle.rn_table.proofs.table.Table.page.Goals as goal

pub returns-then-at-len-clause-some : goal.returns-then-at-len-clause-some
returns-then-at-len-clause-some c = (
  λ e. absurd (false≢true e),
  λ h. absurd (let none = found_none h.0 c.self.inside.leaves c.self.invariant.leaves (omega (arith, c.if-at-len.true, c.len.ensures, page_is c.args.k h.0 h.1 h.2)) in
      let there = ap (λ (t : Kept). instance_at t.marking h.0) c.self.view_is ∙ h.3.1 in
      let no : ⊥ = cc in no),
)

pub page-requires : goal.page-requires
page-requires c = (c.args.k, leaf_here c.self.inside.leaves c.args.k c.leaf.result c.self.invariant.leaves (omega (arith, c.if-at-len.false, c.len.ensures)) c.leaf.ensures)

-- what the table says of a number of the page
same_found : (c : goal.After-page) (n : ℕ) → 64 * c.args.k < n → n ≤ 64 * c.args.k + 64 → instance_at c.args.self.now.marking n ≡ numbered n (kept_in c.leaf.result)
same_found c n low high =
    ap (λ (t : Kept). instance_at t.marking n) (sym c.self.view_is)
    ∙ found_in 0 n c.self.inside.leaves c.args.k c.leaf.result c.self.invariant.leaves (omega (arith, c.if-at-len.false, c.len.ensures)) c.leaf.ensures (omega (arith, page_is c.args.k n low high))

pub returns-clause-some : goal.returns-clause-some
returns-clause-some c = (
  some_then _ ((n : ℕ) × (64 * c.args.k < n) × (n ≤ 64 * c.args.k + 64) × IsThere c.args.self.now.marking n) c.page.result c.page.ensures.kept (λ page bit.
      let here = kept_there c.args.k c.leaf.result (leaf_here c.self.inside.leaves c.args.k c.leaf.result c.self.invariant.leaves (omega (arith, c.if-at-len.false, c.len.ensures)) c.leaf.ensures) bit in
      (here.0, here.1, here.2, (here.3.0, same_found c here.0 here.1 here.2 ∙ here.3.1))),
  λ h. else_some ((bit : ℕ) → bit < 64 → has_bit c.leaf.result.kept bit ≡ false) c.page.result c.page.ensures.none (λ none. none_there c.leaf.result h.0 h.3.0 none (sym (same_found c h.0 h.1 h.2) ∙ h.3.1)),
)

pub returns-clause-held : goal.returns-clause-held
returns-clause-held c =
    if_some _ (λ page. (n : ℕ) (i : Instance) → 64 * c.args.k < n → n ≤ 64 * c.args.k + 64 → instance_at c.args.self.now.marking n ≡ Some i → find (λ j. nat_eq j.number n) page.now.value ≡ Some i) c.page.result c.page.ensures.held (λ page held n i low high there.
    ap (numbered n) held ∙ held_there c.leaf.result n i (sym (same_found c n low high) ∙ there))
