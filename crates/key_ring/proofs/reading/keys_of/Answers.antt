use Rattle.std.proofs.Common.{◌≡◌, ◌∙◌, None, rules, sym}
use Rattle.key_ring.proofs.FoundAgain.{no-keys, no-version}
use Rattle.key_ring.proofs.reading.keys_of.Goals as goal

pub returns-in_default : goal.returns-in_default
returns-in_default c = let none : c.version_in.result ≡ None = search rules in no-version c.args.tree.now (sym c.version_in.ensures ∙ none)

pub returns-in-None : goal.returns-in-None
returns-in-None c = no-keys _ c.args.tree.now (sym c.version_in.ensures ∙ c.in-Some.is) (sym c.in_ok-keys.ensures.keys ∙ c.in-None.is)
