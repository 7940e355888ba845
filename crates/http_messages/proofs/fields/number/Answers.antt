use Rattle.std.proofs.Common.{◌≡◌, ℕ, ◌+◌, ◌-◌, ◌*◌, ◌^◌, ◌<◌, ◌≤◌, true, List, length, get_or, take, arith, rules, ap, ◌∙◌, sym, subst, [], ◌∷◌}
use Rattle.std.proofs.lemmas.Bool.Decides.{nat_tests}
use Rattle.std.specs.Char.{is_ascii_digit, digit_value}
use Rattle.std.specs.List.{list_all}
use Rattle.std.specs.Str.Parse.{digits_value, AllDigits}
use Rattle.std.proofs.lemmas.Int.Digits.{digits_value_more, digits_push, digits_value-lt}
use Rattle.std.proofs.lemmas.List.{take_more, length-take}
use Rattle.std.proofs.lemmas.List.Folds.{list_all-append}
use Rattle.std.proofs.Math.Nat.{pow-le-pow_right}
use Rattle.http_messages.proofs.fields.number.Goals as goal

digit : (b : ℕ) → is_ascii_digit b ≡ true → (digit_value b ≡ b - 48) × (b - 48 < 10)
digit b e = (grind (arith, nat_tests), grind (arith, nat_tests))

bound : (ds : List ℕ) (i n : ℕ) → i < 19 → n ≡ digits_value 10 (take i ds) → AllDigits 10 (take i ds) → n < 10 ^ 18
bound ds i n small value each =
    let below = digits_value-lt 10 (take i ds) each in
    let len : length (take i ds) ≤ 18 = omega (arith, length-take i ds) in
    let powers : 10 ^ length (take i ds) ≤ 10 ^ 18 = pow-le-pow_right (omega arith) len in
    omega (arith, below, powers, value)

pub overflow_mul-n : goal.overflow_mul-n
overflow_mul-n c = let b = bound c.args.text.now c.loop-b.b-index c.loop-b.n (omega arith) c.loop-b.invariant.value c.loop-b.invariant.each in omega (arith, b)

pub overflow_add-n : goal.overflow_add-n
overflow_add-n c =
    let b = bound c.args.text.now c.loop-b.b-index c.loop-b.n (omega arith) c.loop-b.invariant.value c.loop-b.invariant.each in
    let d = digit (get_or c.args.text.now c.loop-b.b-index 0) (search rules) in omega (arith, b, d.1)

pub loop-b-preserved : goal.loop-b-preserved
loop-b-preserved c =
    let ds = c.args.text.now in
    let i = c.loop-b.b-index in
    let inside : i < length ds = omega arith in
    let d = digit (get_or ds i 0) (search rules) in
    let more = take_more ds i 0 inside in
    record {
      value = sym (digits_value_more 10 ds i inside ∙ ap (λ n. n * 10 + digit_value (get_or ds i 0)) (sym c.loop-b.invariant.value) ∙ ap (λ k. c.loop-b.n * 10 + k) (d.0 ∙ search rules));
      each = subst (AllDigits 10) (sym more) (digits_push 10 (take i ds) (get_or ds i 0) c.loop-b.invariant.each (omega (arith, d.0, d.1)));
      digits = ap (list_all is_ascii_digit) more ∙ list_all-append is_ascii_digit (take i ds) (get_or ds i 0 ∷ []) ∙ grind (arith, c.loop-b.invariant.digits, c.if-not-is_ascii_digit.false);
    }
