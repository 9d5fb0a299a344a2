use Rattle.rn_replay.proofs.TrueRecords.{refused_are_untrue, refused_for_one_cause, replayed_are_true}
use Rattle.rn_replay.proofs.laws.replay_laws.Goals as goal

pub returns : goal.returns
returns c = record {
  replayed = replayed_are_true;
  refused = refused_are_untrue;
  one = refused_for_one_cause;
}
