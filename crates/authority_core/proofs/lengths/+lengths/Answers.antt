use Rattle.std.proofs.Common.{arith, ap, ◌+◌, length}
use Rattle.fed_json.specs.Compact.{compact, quoted}
use Rattle.authority_core.specs.Lengths.{member_text}
use Rattle.authority_core.proofs.LengthLaws.{less-then, list-fits, member-length, number-fits, object-fits, pieces-more}
use Rattle.authority_core.proofs.lengths.+lengths.Goals as goal

pub after_items-loop-item-preserved : goal.after_items-loop-item-preserved
after_items-loop-item-preserved t c =
    omega (
      arith,
      pieces-more compact c.args.items.now c.loop-item.item-index c.item-item.result c.loop-item-test.true c.item-item.is,
      c.loop-item.invariant,
      c.in_ok-after_tree.ensures,
      c.in_ok-left.ensures.0,
      c.in_ok-left.ensures.1,
    )

pub after_members-loop-member-preserved : goal.after_members-loop-member-preserved
after_members-loop-member-preserved t c =
    let here = c.in_ok-left.ensures in
    omega (
      arith,
      pieces-more (λ m. member_text m.name m.value) c.args.members.now c.loop-member.member-index c.member-item.result c.loop-member-test.true c.member-item.is,
      c.loop-member.invariant,
      here,
      ap (λ name. length (member_text name c.member-item.result.value)) c.as_slice.ensures,
    )

pub after_member-returns : goal.after_member-returns
after_member-returns t c =
    less-then c.checked_sub.result c.args.room c.in_ok-after_tree.field-0 (length (quoted c.args.name.now) + length (compact c.args.value.now)) 2 _ c.checked_sub.ensures
    (omega (arith, c.in_ok-left.ensures, c.in_ok-after_tree.ensures)) (omega (arith, member-length c.args.name.now c.args.value.now))

pub after_tree-returns-in_ok-checked_sub-in-List : goal.after_tree-returns-in_ok-checked_sub-in-List
after_tree-returns-in_ok-checked_sub-in-List t c =
    list-fits c.args.tree.now c.in-List.items c.as_slice-in-List.result.now c.after_items.result c.args.room c.in_ok-checked_sub-in-List.field-0 c.in-List.is c.as_slice-in-List.ensures
    c.in_ok-checked_sub-in-List.ensures.0 c.in_ok-checked_sub-in-List.ensures.1 c.after_items.ensures

pub after_tree-returns-in_ok-checked_sub-in-Object : goal.after_tree-returns-in_ok-checked_sub-in-Object
after_tree-returns-in_ok-checked_sub-in-Object t c =
    object-fits c.args.tree.now c.in-Object.members c.as_slice-in-Object.result.now c.after_members.result c.args.room c.in_ok-checked_sub-in-Object.field-0 c.in-Object.is c.as_slice-in-Object.ensures
    c.in_ok-checked_sub-in-Object.ensures.0 c.in_ok-checked_sub-in-Object.ensures.1 c.after_members.ensures

pub after_tree-returns-in-Int : goal.after_tree-returns-in-Int
after_tree-returns-in-Int t c =
    number-fits c.args.tree.now c.in-Int.field-0 c.checked_sub.result c.args.room c.in-Int.is (c.is_whole.ensures.0 c.if-is_whole.true) c.checked_sub.ensures
