use Rattle.std.proofs.Common.{sym, subst}
use Rattle.rn_firsts.specs.Known.{IsLookedAt}
use Rattle.rn_firsts.proofs.InOrder.{looked_at_none}
use Rattle.rn_firsts.proofs.firsts.Firsts.new.Goals as goal

pub returns : goal.returns
returns c system m depth = record {
  looked = subst (IsLookedAt system m depth 0) (sym c.new.ensures.empty)
      (looked_at_none system m depth);
  held = λ is. absurd (let no : ⊥ = cc in no);
}
