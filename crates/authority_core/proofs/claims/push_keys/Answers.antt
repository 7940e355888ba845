use Rattle.std.proofs.Common.{◌∙◌, ap, sym}
use Rattle.fed_json.specs.Forms.{whole}
use Rattle.jwk_set.specs.KeySets.{key_set_in}
use Rattle.jwk_set.proofs.Sets.{found}
use Rattle.authority_core.proofs.Wholes.{always}
use Rattle.authority_core.proofs.claims.push_keys.Goals as goal

pub returns-clause-members : goal.returns-clause-members
returns-clause-members c = rw c.in_ok-keys.ensures.tree at c.push_tree.ensures

pub returns-clause-whole : goal.returns-clause-whole
returns-clause-whole c = always _ _ (ap whole (sym c.in_ok-keys.ensures.tree) ∙ c.in_ok-keys.ensures.whole)

pub returns-clause-reads_back : goal.returns-clause-reads_back
returns-clause-reads_back c = always _ _ (found _ _ (ap key_set_in (sym c.in_ok-keys.ensures.tree) ∙ c.in_ok-keys.ensures.reads_back))
