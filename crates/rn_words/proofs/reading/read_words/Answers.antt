use Rattle.std.proofs.Common.{◌≡◌, ◌↔◌, map, string_bytes, sym, subst, Ok}
use Rattle.rn_words.specs.Commands.{WordsOk}
use Rattle.rn_words.proofs.AcceptedWords.{reads_what_is_accepted}
use Rattle.rn_words.proofs.reading.read_words.Goals as goal

pub returns-clause-accepts : goal.returns-clause-accepts
returns-clause-accepts c =
    let words = map string_bytes c.args.words.now in
    λ d. subst (λ r. r ≡ Ok d ↔ WordsOk words d) (sym c.read.ensures) (reads_what_is_accepted words d)
