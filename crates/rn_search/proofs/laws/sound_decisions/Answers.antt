use Rattle.rn_search.proofs.Sound.{none_are_sound, sound_by_one, sound_by_fewer, sound_are_right}
use Rattle.rn_search.proofs.laws.sound_decisions.Goals as goal

pub returns-clause-none : goal.returns-clause-none
returns-clause-none c = none_are_sound

pub returns-clause-more : goal.returns-clause-more
returns-clause-more c = sound_by_one

pub returns-clause-fewer : goal.returns-clause-fewer
returns-clause-fewer c = sound_by_fewer

pub returns-clause-right : goal.returns-clause-right
returns-clause-right c = sound_are_right
