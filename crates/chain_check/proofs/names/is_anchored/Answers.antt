use Rattle.std.proofs.Common.{refl, sym, ◌∙◌}
use Rattle.chain_check.proofs.NameLaws.{issuer-there, length-claims, same-exactly}
use Rattle.chain_check.proofs.names.is_anchored.Goals as goal

pub returns-else-j-entries : goal.returns-else-j-entries
returns-else-j-entries c =
    let es = c.args.entries.now in
    let same = same-exactly c.eq.result _ c.args.anchor.now _ c.args.anchor.now c.eq.ensures (issuer-there es c.args.j c.index-entries-j.result c.requires) refl in
    (λ yes _. same.0 yes, λ anchored. same.1 (anchored (c.if-j-entries.false ∙ sym (length-claims es))))
