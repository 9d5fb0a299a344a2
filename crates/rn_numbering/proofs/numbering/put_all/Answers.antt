-- The transition is that of the inscriptions, with its variables.
use Rattle.std.proofs.Common.{◌∙◌, ap}
use Rattle.rn_occurring.specs.TransitionVars.{with_vars}
use Rattle.rn_numbered.specs.link.NumbersFound.{numbers_by}
use Rattle.rn_numbering.proofs.NumberingLemmas.{made_of}
use Rattle.rn_numbering.proofs.numbering.put_all.Goals as goal

pub returns : goal.returns
returns c =
    c.in_ok-put_vars.ensures
    ∙ ap (with_vars c.args.count)
    (made_of (numbers_by c.args.tables.now) c.args.made.now.name c.args.inscriptions.now
    c.args.made.now c.put_local.new.made c.put_joined.new.made c.requires.bare
    c.in_ok-put_local.ensures c.in_ok-put_joined.ensures)
