use Rattle.std.proofs.Common.{◌≡◌, ◌∙◌, arith, sym, ap, refl}
use Rattle.std.specs.Prelude.{is_ok}
use Rattle.std.proofs.lemmas.Bool.{both_ways}
use Rattle.std.proofs.lemmas.List.Sums.{list_all-from_AllPass}
use Rattle.std.proofs.lemmas.List.Folds.{list_any_none}
use Rattle.entity_id.specs.Identifiers.{is_plain, is_extra, host_of, IsIdentifier}
use Rattle.entity_id.proofs.Identifying.{IsIdentifier-tests, host_of-url}
use Rattle.entity_id.proofs.identifier.EntityId.read.Goals as goal
use Rattle.entity_id.proofs.identifier.EntityId.read.Goals.{then-text-gt-MAX_LEN-via-then-text-gt-MAX_LEN, then-text-gt-MAX_LEN-via-else-text-gt-MAX_LEN+then-not-all_plain}

pub returns-then-text-gt-MAX_LEN-clause-only : goal.returns-then-text-gt-MAX_LEN-clause-only
returns-then-text-gt-MAX_LEN-clause-only c = λ id. elim c.then-text-gt-MAX_LEN.branch [
  | then-text-gt-MAX_LEN-via-then-text-gt-MAX_LEN w ↦ absurd (omega (arith, id.short))
  | then-text-gt-MAX_LEN-via-else-text-gt-MAX_LEN+then-not-all_plain w ↦ absurd (both_ways _ w.if-not-all_plain.true (w.all_plain.ensures ∙ list_all-from_AllPass is_plain _ id.plain))
]

pub returns-then-any_extra-clause-only : goal.returns-then-any_extra-clause-only
returns-then-any_extra-clause-only c = λ id. absurd (both_ways _ (c.any_extra.ensures ∙ list_any_none is_extra _ id.bare) c.if-any_extra.true)

pub invariant_of-result : goal.invariant_of-result
invariant_of-result c =
    let text = c.args.text.now in
    let id : IsIdentifier text = IsIdentifier-tests text c.if-text-gt-MAX_LEN.false (sym c.all_plain.ensures ∙ c.if-not-all_plain.false)
    (sym c.is_of_web.ensures ∙ c.if-not-is_of_web.false) (sym c.any_extra.ensures ∙ c.if-any_extra.false) (ap is_ok c.in_ok-url.ensures) in
    let host : c.in_ok-host.host ≡ host_of text = c.in_ok-host.ensures ∙ c.as_bytes.ensures.value ∙ ap (λ s. s.now) c.unwrap_or.ensures
    ∙ host_of-url text c.in_ok-url.url c.host_str.result _ c.in_ok-url.ensures c.host_str.ensures refl in
    rw c.in_ok-text.ensures (id, host)
