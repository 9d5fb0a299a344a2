-- One more step.
use Rattle.std.proofs.Common.{refl}
use Rattle.rn_record_reader.proofs.DueLemmas.{pushed}
use Rattle.rn_record_reader.proofs.due.Due.read.Goals as goal

pub returns-in_ok-push : goal.returns-in_ok-push
returns-in_ok-push c =
    pushed c.args.self.now.levels.items c.push.new.self.items _ c.args.downlinks c.args.self.now.done c.args.self.now.done
    c.if-downlinks-gt0.true refl refl c.in_ok-push.ensures.items c.requires refl
