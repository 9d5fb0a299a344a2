use Rattle.std.proofs.Common.{sym, subst}
use Rattle.std.specs.Option.{option_copied, option_to_list}
use Rattle.rn_search.specs.Problems.{HasFitTokens}
use Rattle.rn_parted.proofs.ShareLemmas.{fit_alone, listed_there}
use Rattle.rn_parted.proofs.alone.first_alone.Goals as goal

pub least_of-requires-clause-table : goal.least_of-requires-clause-table
least_of-requires-clause-table c =
    c.in_ok-table.ensures.of_system c.args.site.marked.system.now c.requires.searched.of_system

pub least_of-requires-clause-tokens : goal.least_of-requires-clause-tokens
least_of-requires-clause-tokens c =
    let m = c.args.site.marked.table.now.marking in
    let vs = option_to_list (option_copied c.args.token) in
    subst (HasFitTokens c.args.site.marked.system.now) (sym c.in_ok-table.ensures.marking)
    (fit_alone m c.args.site.instance c.args.site.place vs c.args.site.marked.system.now
    c.requires.searched.tokens
    (listed_there m c.args.site.instance c.args.site.place (option_copied c.args.token)
    c.requires.there))
