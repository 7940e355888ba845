-- How many tests the stages of a check count.
use Rattle.std.proofs.Common.{◌≡◌, ◌+◌, ℕ, zero, suc, true, false, Some, None, refl, sym, ap, ◌∙◌, add-zero, add-suc, arith}
use Rattle.std.specs.Option.{option_map_or}
use Rattle.fed_base.specs.Counts.{CountsAtMost, counted, next_count}
use Rattle.sealed.specs.Deciding.{is_sealed_by}
use Rattle.sealed.specs.Tests.{tests_under}
use Rattle.trust_mark.specs.Conditions.{claims_reason}
use Rattle.trust_mark.specs.Counts.{delegation_tests, mark_tests, tests_from_signature}
use Rattle.trust_mark.specs.Marks.{Case, mark_of, owner_of}
use Rattle.trust_mark.specs.declared.mark.Mark.{Mark}
use Rattle.trust_mark.specs.declared.verdict.MarkReason.{MarkReason}

pub counted-plus : (more steps n : ℕ) → counted more (counted steps n) ≡ counted (steps + more) n
counted-plus zero steps n = ap (λ k. counted k n) (sym (add-zero steps))
counted-plus (suc more) steps n = ap next_count (counted-plus more steps n) ∙ ap (λ k. counted k n) (sym (add-suc steps more))

-- nothing was counted
pub none-counted : (most n : ℕ) → CountsAtMost most n n
none-counted most n = record { steps = 0; within = omega arith; counts = refl }

pub unread-tests : (case : Case) → mark_of case.entry.text ≡ None → mark_tests case ≡ 0
unfolding mark_tests
unread-tests case none = rw none refl

module _ (case : Case) (mark : Mark) (reads : mark_of case.entry.text ≡ Some mark) where
  pub refused-tests : (r : MarkReason) → claims_reason case mark ≡ Some r → mark_tests case ≡ 0
  unfolding mark_tests
  refused-tests r first = rw (reads, first) refl

  module _ (pass : claims_reason case mark ≡ None) where
    -- the tests of the mark and of its delegation
    abbrev own : ℕ
    own = tests_under case.keys case.entry.text

    abbrev leave : ℕ
    leave = option_map_or (delegation_tests mark case.moment) (owner_of case.anchor mark.mark_type) 0

    from_signature : mark_tests case ≡ tests_from_signature case mark
    unfolding mark_tests
    from_signature = rw (reads, pass) refl

    pub unsealed-tests : is_sealed_by case.entry.text case.keys ≡ false → mark_tests case ≡ own
    unfolding tests_from_signature
    unsealed-tests not_so = from_signature ∙ rw not_so (add-zero own)

    pub sealed-tests : is_sealed_by case.entry.text case.keys ≡ true → mark_tests case ≡ own + leave
    unfolding tests_from_signature
    sealed-tests so = from_signature ∙ rw so refl

    -- the counts of a mark that isn't sealed, of one that is, and where memory was wanting behind its test
    pub unsealed-counted : (before now : ℕ) → is_sealed_by case.entry.text case.keys ≡ false → now ≡ counted own before → now ≡ counted (mark_tests case) before
    unsealed-counted before now not_so count = count ∙ ap (λ n. counted n before) (sym (unsealed-tests not_so))

    pub sealed-counted : (before mid now : ℕ) → is_sealed_by case.entry.text case.keys ≡ true → mid ≡ counted own before → now ≡ counted leave mid → now ≡ counted (mark_tests case) before
    sealed-counted before mid now so first second =
        second ∙ ap (counted leave) first ∙ counted-plus leave own before ∙ ap (λ n. counted n before) (sym (sealed-tests so))

    pub wanting-counted : (before mid now : ℕ) → is_sealed_by case.entry.text case.keys ≡ true → mid ≡ counted own before → now ≡ mid → CountsAtMost (mark_tests case) before now
    wanting-counted before mid now so first second = record { steps = own; within = let all = sealed-tests so in omega (arith, all); counts = second ∙ first }

-- where there are no tests the count stays
pub zero-counted : (tests n : ℕ) → tests ≡ 0 → n ≡ counted tests n
zero-counted tests n none = ap (λ k. counted k n) (sym none)
