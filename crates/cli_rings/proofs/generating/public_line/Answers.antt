use Rattle.std.proofs.Common.{rules, ◌≡◌, ◌++◌, [], ◌∷◌, ◌&&◌, nat_lt, length, true, sym, subst, ◌∙◌}
use Rattle.std.specs.Str.{is_utf8}
use Rattle.cli_rings.proofs.KeygenLaws.{is_name, line_is}
use Rattle.cli_rings.proofs.generating.public_line.Goals as goal

-- src/generating.rt
pub write_key-requires : goal.write_key-requires
write_key-requires c = subst (λ k. (nat_lt 0 (length k) && is_utf8 k) ≡ true) (sym c.in_ok-kid.ensures) (is_name c.alg-alg.result c.public-public.result)

-- src/generating.rt
pub returns : goal.returns
returns c =
    let pushed : c.push.new.self ≡ c.in_ok-line.line ++ 10 ∷ [] = search rules in
    pushed ∙ line_is c.args.keys.now c.alg-alg.result c.in_ok-kid.kid c.public-public.result c.in_ok-line.line c.in_ok-write_key.field-0 c.alg-alg.ensures c.public-public.ensures c.in_ok-kid.ensures c.in_ok-write_key.ensures.tree c.in_ok-line.ensures.text
