use Rattle.jwk_set.proofs.WrittenKeys.{foreign_copy_whole, foreign_copy_read}
use Rattle.jwk_set.proofs.jwk.write_key.Goals as goal

pub returns-in-Foreign-clause-whole : goal.returns-in-Foreign-clause-whole
returns-in-Foreign-clause-whole c = foreign_copy_whole c.in-Foreign.tree c.args.key.now c.copy.result c.in-Foreign.is c.requires c.copy.ensures

pub returns-in-Foreign-clause-reads_back : goal.returns-in-Foreign-clause-reads_back
returns-in-Foreign-clause-reads_back c = foreign_copy_read c.in-Foreign.tree c.args.key.now c.copy.result c.in-Foreign.is c.requires c.copy.ensures
