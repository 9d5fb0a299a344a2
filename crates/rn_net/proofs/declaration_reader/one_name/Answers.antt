use Rattle.rn_net.proofs.DeclarationPhrases.{name_result, name_moves}
use Rattle.rn_net.proofs.declaration_reader.one_name.Goals as goal

pub returns-clause-moved : goal.returns-clause-moved
returns-clause-moved c = name_moves c.args.tokens.now c.args.at c.expect_name.result c.expect_name.ensures

pub returns-clause-reads : goal.returns-clause-reads
returns-clause-reads c = name_result c.args.tokens.now c.args.at c.expect_name.result c.requires c.expect_name.ensures
