use Rattle.std.proofs.Common.{Some, sym, ap, ◌∙◌, subst, rules}
use Rattle.std.proofs.lemmas.Str.{is_utf8-from_IsUtf8}
use Rattle.fed_json.specs.Forms.{whole}
use Rattle.jws_form.specs.Header.{IsHeader}
use Rattle.sealed.proofs.Headers.{header_names, header_whole}
use Rattle.sealed.proofs.sealing.header.Goals as goal

pub returns-clause-tree : goal.returns-clause-tree
returns-clause-tree c = search rules

pub returns-clause-whole : goal.returns-clause-whole
returns-clause-whole c =
    ap whole (returns-clause-tree c) ∙ header_whole c.args.alg c.args.kid.now c.args.typ.now (is_utf8-from_IsUtf8 _ c.requires.kid) (is_utf8-from_IsUtf8 _ c.requires.typ)

pub returns-clause-names : goal.returns-clause-names
returns-clause-names c =
    subst (λ tree. IsHeader tree c.args.alg (Some c.args.typ.now) (Some c.args.kid.now)) (sym (returns-clause-tree c)) (header_names c.args.alg c.args.kid.now c.args.typ.now)
