use Rattle.std.proofs.Common.{◌≡◌, ◌<◌, ◌++◌, length, take, map, refl, sym, ap, ◌∙◌, append-nil, rules}
use Rattle.std.proofs.lemmas.List.{take_all}
use Rattle.cli_show.specs.Indented.{block, indented, inset_by, level, member_text, odd_text}
use Rattle.plain_notes.specs.Strings.{string}
use Rattle.cli_show.proofs.BlockLaws.{block-shown, piece-leads, piece-shown}
use Rattle.cli_show.proofs.IndentedLaws.{indented-List, indented-Odd, indented-Text, member-shown, shown-as}
use Rattle.cli_show.proofs.StringLaws.{string-line}
use Rattle.cli_show.proofs.indented.+indented.Goals as goal

pub append_value-returns-in-Odd : goal.append_value-returns-in-Odd
append_value-returns-in-Odd t c =
    shown-as c.append-in-Odd.result c.args.text.now c.append-in-Odd.new.self odd_text (inset_by c.args.margin.now (indented c.args.tree.now))
    (ap (inset_by c.args.margin.now) (ap indented c.in-Odd.is ∙ indented-Odd)) c.append-in-Odd.ensures.ok

pub append_value-returns-in-Text : goal.append_value-returns-in-Text
append_value-returns-in-Text t c =
    shown-as c.append_string.result c.args.text.now c.append_string.new.out (string c.as_slice.result.now) (inset_by c.args.margin.now (indented c.args.tree.now))
    (ap (inset_by c.args.margin.now) (ap indented c.in-Text.is ∙ indented-Text c.in-Text.bytes) ∙ string-line c.args.margin.now c.in-Text.bytes
    ∙ ap string (sym c.as_slice.ensures)) c.append_string.ensures

pub append_value-returns-in-List : goal.append_value-returns-in-List
append_value-returns-in-List t c =
    shown-as c.append_list.result c.args.text.now c.append_list.new.text (inset_by c.args.margin.now (block 91 93 (map indented c.as_slice-in-List.result.now)))
    (inset_by c.args.margin.now (indented c.args.tree.now))
    (ap (inset_by c.args.margin.now) (ap indented c.in-List.is ∙ indented-List c.in-List.items ∙ ap (λ xs. block 91 93 (map indented xs)) (sym c.as_slice-in-List.ensures)))
    c.append_list.ensures

pub append_member-returns : goal.append_member-returns
append_member-returns t c =
    member-shown c.append_under.result c.args.margin.now c.args.member.now c.args.before c.args.text.now c.append_line.new.text c.append_string.new.out c.append.new.self
    c.append_under.new.text c.as_slice.result.now c.as_slice.ensures c.in_ok-append_line.ensures c.in_ok-append_string.ensures c.in_ok-append.ensures.ok c.append_under.ensures

pub append_list-loop-item-init : goal.append_list-loop-item-init
append_list-loop-item-init t c = record { shown = sym (append-nil c.args.text.now); before = refl }

pub append_list-loop-item-preserved : goal.append_list-loop-item-preserved
append_list-loop-item-preserved t c =
    let deep : c.as_slice.result.now ≡ c.args.margin.now ++ level = search rules in
    record {
      shown = piece-shown indented c.args.items.now c.loop-item.item-index c.item-item.result 91 c.loop-item.before (c.args.margin.now ++ level) c.as_slice.result.now
          c.args.text.now c.loop-item.text c.append_item.new.text (λ m rest. refl) deep c.loop-item-test.true c.item-item.is c.loop-item.invariant.shown
          c.loop-item.invariant.before c.in_ok-append_item.ensures;
      before = piece-leads indented c.args.items.now c.loop-item.item-index c.item-item.result 91 c.loop-item-test.true c.item-item.is;
    }

pub append_list-returns : goal.append_list-returns
append_list-returns t c =
    let some : 0 < length c.args.items.now = search rules in
    let all : take c.loop-item.item-index c.args.items.now ≡ c.args.items.now = take_all c.loop-item.item-index c.args.items.now c.loop-item-test.false in
    block-shown c.append_end.result indented c.args.items.now (take c.loop-item.item-index c.args.items.now) 91 93 c.args.margin.now (c.args.margin.now ++ level) c.args.text.now
    c.loop-item.text c.append_end.new.text (λ m rest. refl) (λ m rest. refl) some all refl c.loop-item.invariant.shown c.append_end.ensures

pub append_object-loop-member-init : goal.append_object-loop-member-init
append_object-loop-member-init t c = record { shown = sym (append-nil c.args.text.now); before = refl }

pub append_object-loop-member-preserved : goal.append_object-loop-member-preserved
append_object-loop-member-preserved t c =
    let deep : c.as_slice.result.now ≡ c.args.margin.now ++ level = search rules in
    record {
      shown = piece-shown member_text c.args.members.now c.loop-member.member-index c.member-item.result 123 c.loop-member.before (c.args.margin.now ++ level) c.as_slice.result.now
          c.args.text.now c.loop-member.text c.append_member.new.text (λ m rest. refl) deep c.loop-member-test.true c.member-item.is c.loop-member.invariant.shown
          c.loop-member.invariant.before c.in_ok-append_member.ensures;
      before = piece-leads member_text c.args.members.now c.loop-member.member-index c.member-item.result 123 c.loop-member-test.true c.member-item.is;
    }

pub append_object-returns : goal.append_object-returns
append_object-returns t c =
    let some : 0 < length c.args.members.now = search rules in
    let all : take c.loop-member.member-index c.args.members.now ≡ c.args.members.now = take_all c.loop-member.member-index c.args.members.now c.loop-member-test.false in
    block-shown c.append_end.result member_text c.args.members.now (take c.loop-member.member-index c.args.members.now) 123 125 c.args.margin.now (c.args.margin.now ++ level) c.args.text.now
    c.loop-member.text c.append_end.new.text (λ m rest. refl) (λ m rest. refl) some all refl c.loop-member.invariant.shown c.append_end.ensures
