use Rattle.rn_firsts.proofs.known_idle.KnownIdle.new.Goals as goal

pub returns : goal.returns
returns c system m depth = record {
  idle = λ n has. absurd (c.new.ensures n has);
  held = λ is. absurd (let no : ⊥ = cc in no);
}
