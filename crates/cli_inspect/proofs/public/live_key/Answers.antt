use Rattle.std.proofs.Common.{sym, subst}
use Rattle.std.specs.Prelude.{IfSome, IsTrue}
use Rattle.jwk_set.specs.Keys.{is_key}
use Rattle.cli_inspect.specs.Publics.{is_called}
use Rattle.cli_inspect.proofs.PublicLaws.{copied-all, found-all}
use Rattle.cli_inspect.proofs.public.live_key.Goals as goal

pub returns-clause-formed : goal.returns-clause-formed
returns-clause-formed c =
    copied-all c.first_called.result (λ key. IsTrue (is_key key))
    (subst (λ o. IfSome o (λ key. IsTrue (is_key key))) (sym c.first_called.ensures) (found-all (is_called c.args.kid.now) is_key c.args.keys.now c.requires))
