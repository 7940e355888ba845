use Rattle.std.proofs.Common.{◌≡◌, ◌-◌, List, ℕ, length, take, drop, arith, nat_eq, sym, ap, ◌∙◌, take_all}
use Rattle.std.specs.List.{starts_with}
use Rattle.std.proofs.lemmas.List.{length-drop}
use Rattle.http_messages.specs.Heads.{blank}
use Rattle.http_messages.proofs.Ends.{none_there, found_there, none_left}
use Rattle.http_messages.proofs.heads.head_end.Goals as goal

whole : (x : List ℕ) (i : ℕ) → take (length x - i) (drop i x) ≡ drop i x
whole x i = take_all (length x - i) (drop i x) (omega (arith, length-drop i x))

pub returns-then-begins_blank : goal.returns-then-begins_blank
returns-then-begins_blank c =
    let x = c.args.text.now in
    let same = ap (λ y. starts_with nat_eq y blank) (whole x c.loop-at.at) in
    found_there x c.loop-at.at c.loop-at-test.true (sym same ∙ sym c.begins_blank.ensures ∙ c.if-begins_blank.true) c.loop-at.invariant

pub loop-at-preserved : goal.loop-at-preserved
loop-at-preserved c =
    let x = c.args.text.now in
    let same = ap (λ y. starts_with nat_eq y blank) (whole x c.loop-at.at) in
    none_there x c.loop-at.at c.loop-at-test.true (sym same ∙ sym c.begins_blank.ensures ∙ c.if-begins_blank.false) c.loop-at.invariant

pub returns : goal.returns
returns c = none_left c.args.text.now c.loop-at.at (omega arith) c.loop-at.invariant
