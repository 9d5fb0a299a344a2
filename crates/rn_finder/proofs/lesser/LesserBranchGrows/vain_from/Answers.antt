use Rattle.rn_finder.proofs.lesser.LesserBranchGrows.vain_from.Goals as goal

pub returns : goal.returns
returns c = λ a least below s leads. c.vain_from.ensures a least below s leads.0
