use Rattle.std.proofs.Common.{◌≡◌, ◌≤◌, ◌+◌, ◌-◌, ◌∙◌, ap, arith, drop, false, true, length, refl, subst, sym, take, take_all}
use Rattle.std.proofs.lemmas.List.{drop-drop, length-drop}
use Rattle.std.specs.List.{position_or_len}
use Rattle.http_messages.specs.Connections.{has_member, is_comma, is_word}
use Rattle.http_messages.proofs.Members.{is_first, none_past, past}
use Rattle.http_messages.proofs.connection.has_member.Goals as goal

pub loop-from-init : goal.loop-from-init
loop-from-init c = record { bound = omega arith; some = λ inside. refl; none = λ out. absurd (omega (arith, out)) }

pub returns-then-is_word : goal.returns-then-is_word
returns-then-is_word c =
    let word = c.args.word.now in
    let all = c.args.value.now in
    let i = c.loop-from.from in
    let n = c.comma-at.result in
    let x = drop i all in
    let inside : i ≤ length all = omega arith in
    let whole : take (length all - i) x ≡ x = take_all (length all - i) x (omega (arith, length-drop i all)) in
    let e : n ≡ position_or_len is_comma x = c.comma-at.ensures.value ∙ ap (λ y. position_or_len is_comma y) whole in
    let is : is_word word (take n x) ≡ true = ap (λ y. is_word word (take n y)) (sym whole) ∙ sym c.is_word.ensures ∙ c.if-is_word.true in
    is_first word x n e is ∙ c.loop-from.invariant.some inside

pub loop-from-preserved : goal.loop-from-preserved
loop-from-preserved c =
    let word = c.args.word.now in
    let all = c.args.value.now in
    let i = c.loop-from.from in
    let n = c.comma-at.result in
    let x = drop i all in
    let inside : i ≤ length all = omega arith in
    let size : length x ≡ length all - i = length-drop i all in
    let whole : take (length all - i) x ≡ x = take_all (length all - i) x (omega (arith, size)) in
    let e : n ≡ position_or_len is_comma x = c.comma-at.ensures.value ∙ ap (λ y. position_or_len is_comma y) whole in
    let other : is_word word (take n x) ≡ false = ap (λ y. is_word word (take n y)) (sym whole) ∙ sym c.is_word.ensures ∙ c.if-is_word.false in
    let within : n ≤ length x = subst (λ y. n ≤ length y) whole c.comma-at.ensures.within in
    record {
      bound = omega (arith, size, within, inside);
      some = λ l. ap (λ y. has_member word y) (sym (drop-drop (n + 1) i all)) ∙ past word x n e other (omega (arith, l, size)) ∙ c.loop-from.invariant.some inside;
      none = λ l. none_past word x n e other (omega (arith, l, size, inside)) ∙ c.loop-from.invariant.some inside;
    }
