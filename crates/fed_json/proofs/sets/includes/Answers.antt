use Rattle.std.proofs.Common.{◌≡◌, ◌∙◌, sym, subst, take, take_all, refl, true, false, true≢false}
use Rattle.std.specs.Bool.{Decides}
use Rattle.std.specs.List.{All, Contains}
use Rattle.std.proofs.lemmas.List.Elements.{All-more}
use Rattle.fed_json.proofs.Among.{among_from_all}
use Rattle.fed_json.proofs.sets.includes.Goals as goal

-- a tree of the part isn't a member
missing : (c : goal.Then-not-is_member) → Decides false (All (Contains c.args.list.now) c.args.part.now)
missing c = (
  λ wrong. absurd (true≢false (sym wrong)),
  λ all.
      let there : Contains c.args.list.now c.tree-item.result =
      rw (c.tree-item.is, c.as_slice-tree-items.ensures) (all c.loop-tree.tree-index c.tree-item.result (rw (sym c.as_slice-tree-items.ensures) c.loop-tree-test.true)) in
      sym c.if-not-is_member.true ∙ c.is_member.ensures.member.1 there,
)

pub returns-then-not-is_member-clause-members : goal.returns-then-not-is_member-clause-members
returns-then-not-is_member-clause-members c = missing c

pub returns-then-not-is_member-clause-test : goal.returns-then-not-is_member-clause-test
returns-then-not-is_member-clause-test c = among_from_all c.args.list.now c.args.part.now false (missing c)

pub loop-tree-preserved : goal.loop-tree-preserved
loop-tree-preserved c =
    let there : Contains c.args.list.now c.tree-item.result = c.is_member.ensures.member.0 c.if-not-is_member.false in
    All-more (Contains c.args.list.now) c.as_slice-tree-items.result.now c.loop-tree.tree-index c.tree-item.result c.loop-tree-test.true c.loop-tree.invariant
    (subst (Contains c.args.list.now) c.tree-item.is there)

-- each tree of the part is a member
complete : (c : goal.After-loop-tree) → Decides true (All (Contains c.args.list.now) c.args.part.now)
complete c =
    let all : take c.loop-tree.tree-index c.as_slice-tree-items.result.now ≡ c.args.part.now = take_all _ _ c.loop-tree-test.false ∙ c.as_slice-tree-items.ensures in
    (λ _. subst (All (Contains c.args.list.now)) all c.loop-tree.invariant, λ _. refl)

pub returns-clause-members : goal.returns-clause-members
returns-clause-members c = complete c

pub returns-clause-test : goal.returns-clause-test
returns-clause-test c = among_from_all c.args.list.now c.args.part.now true (complete c)
