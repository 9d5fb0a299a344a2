use Rattle.std.proofs.Common.{[], sym, ap, ◌∙◌}
use Rattle.std.specs.Option.{option_map_or}
use Rattle.rn_bag.specs.Words.{has_bit}
use Rattle.rn_table.specs.link.Leaves.{Leaf, bit_of, kept_in, numbered}
use Rattle.rn_table.proofs.InstanceLemmas.{numbered_out, numbered_passed}
use Rattle.rn_table.proofs.leaf.Leaf.get.Goals as goal

pub returns-then-not-is_kept : goal.returns-then-not-is_kept
returns-then-not-is_kept c =
    sym (ap (λ (l : Leaf). numbered c.args.number (kept_in l)) (sym c.self.view_is)
    ∙ numbered_out (λ n. has_bit c.self.inside.kept (bit_of n)) c.args.number (option_map_or (λ p. p.now.value) c.self.inside.page []) (sym c.is_kept.ensures ∙ c.if-not-is_kept.true))

pub returns-in-Some : goal.returns-in-Some
returns-in-Some c =
    c.get.ensures ∙ ap (numbered c.args.number) (c.deref.ensures ∙ ap (λ p. option_map_or (λ q. q.now.value) p []) (sym c.in-Some.is))
    ∙ sym (numbered_passed (λ n. has_bit c.self.inside.kept (bit_of n)) c.args.number (option_map_or (λ p. p.now.value) c.self.inside.page []) (sym c.is_kept.ensures ∙ c.if-not-is_kept.false))
    ∙ ap (λ (l : Leaf). numbered c.args.number (kept_in l)) c.self.view_is
