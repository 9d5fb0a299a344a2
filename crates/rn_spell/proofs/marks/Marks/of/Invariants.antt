use Rattle.std.proofs.Common.{◌≡◌, ◌<◌, ◌*◌, ℕ, min, length, take, get_or}
use Rattle.rn_spell.specs.link.Marks.{made_count}
use Rattle.rn_spell.proofs.marks.Marks.of.Given as goal

abbrev pub invariant-loop-k : goal.invariant-loop-k
invariant-loop-k l = record {
  here : l.place ≡ min (l.k * l.step) (length l.nodes);
  before : l.before ≡ made_count l.system (take l.place l.nodes);
  long : length l.counts ≡ 64;
  marks : (j : ℕ) → j < l.k → get_or l.counts j 0 ≡ made_count l.system (take (j * l.step) l.nodes);
}
