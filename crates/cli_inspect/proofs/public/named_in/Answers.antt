use Rattle.std.proofs.Common.{sym, subst}
use Rattle.std.specs.Prelude.{IfSome}
use Rattle.fed_json.specs.Forms.{IsWhole, whole}
use Rattle.cli_inspect.specs.Publics.{is_named}
use Rattle.cli_inspect.proofs.PublicLaws.{copied-all, found-all}
use Rattle.cli_inspect.proofs.public.named_in.Goals as goal

pub returns-clause-whole : goal.returns-clause-whole
returns-clause-whole c =
    copied-all c.first_named.result IsWhole (subst (λ o. IfSome o IsWhole) (sym c.first_named.ensures) (found-all (is_named c.args.kid.now) whole c.args.keys.now c.requires))
