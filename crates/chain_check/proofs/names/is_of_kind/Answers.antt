use Rattle.std.proofs.Common.{◌⊎◌, inl, inr, ◌+◌, length, sym, ◌∙◌, ⊎_elim}
use Rattle.std.proofs.lemmas.Bool.{both_ways, eq-eqb, eqb-false, eqb-true, ne_eqb, not-true, not_from_false}
use Rattle.chain_check.specs.Names.{IsAnchor, IsLeaf}
use Rattle.chain_check.specs.Reading.{claims_in}
use Rattle.chain_check.proofs.NameLaws.{agree-unless, agree-where, issuer-there, length-claims, same-exactly, subject-there}
use Rattle.chain_check.proofs.names.is_of_kind.Goals as goal

pub returns-else-j-eq0 : goal.returns-else-j-eq0
returns-else-j-eq0 c =
    let es = c.args.entries.now in
    let d = c.index-entries-j.result in
    let same = same-exactly c.eq.result _ _ _ _ c.eq.ensures (issuer-there es c.args.j d c.requires) (subject-there es c.args.j d c.requires) in
    agree-where _ _ (IsLeaf c.args.j ⊎ IsAnchor (claims_in es) c.args.j) (same.0 c.if-eq.true) (
      λ yes. inr (eqb-true (c.args.j + 1) (length es) yes ∙ sym (length-claims es)),
      λ end. ⊎_elim (λ leaf. absurd (c.if-j-eq0.false leaf)) (λ last. eq-eqb (c.args.j + 1) (length es) (last ∙ length-claims es)) end,
    )

pub returns-then-j-ne0 : goal.returns-then-j-ne0
returns-then-j-ne0 c =
    let es = c.args.entries.now in
    let d = c.index-entries-j.result in
    let same = same-exactly c.eq.result _ _ _ _ c.eq.ensures (issuer-there es c.args.j d c.requires) (subject-there es c.args.j d c.requires) in
    agree-unless _ _ (IsLeaf c.args.j ⊎ IsAnchor (claims_in es) c.args.j) (λ yes. both_ways c.eq.result c.if-eq.false (same.1 yes)) (
      λ yes end. ⊎_elim (λ leaf. c.if-j-ne0.true leaf) (λ last. eqb-false (c.args.j + 1) (length es) (not-true _ yes) (last ∙ length-claims es)) end,
      λ none. not_from_false _ (ne_eqb (c.args.j + 1) (length es) (λ last. none (inr (last ∙ sym (length-claims es))))),
    )

pub returns-else-j-ne0 : goal.returns-else-j-ne0
returns-else-j-ne0 c =
    let es = c.args.entries.now in
    let d = c.index-entries-j.result in
    let same = same-exactly c.eq.result _ _ _ _ c.eq.ensures (issuer-there es c.args.j d c.requires) (subject-there es c.args.j d c.requires) in
    agree-unless _ _ (IsLeaf c.args.j ⊎ IsAnchor (claims_in es) c.args.j) (λ yes. both_ways c.eq.result c.if-eq.false (same.1 yes)) (
      λ yes. absurd (eqb-false c.args.j 0 (not-true _ yes) c.if-j-ne0.false),
      λ none. absurd (none (inl c.if-j-ne0.false)),
    )
