use Rattle.std.proofs.Common.{◌∙◌, ap, sym}
use Rattle.chain_climb.specs.Walks.{facing_want}
use Rattle.chain_climb.proofs.NextLaws.{facing-is, item-known}
use Rattle.chain_climb.proofs.state.State.hint_want.Goals as goal

pub hints_of-requires : goal.hints_of-requires
hints_of-requires c = item-known c.args.self.now c.requires.standing c.requires.stage c.index-as_slice-self.result _ c.index-as_slice-self.is c.as_slice.ensures _ c.as_slice-2.ensures

pub returns-in-Wants : goal.returns-in-Wants
returns-in-Wants c =
    let e = facing-is c.args.self.now c.requires.standing c.requires.stage c.index-as_slice-self.result _ c.index-as_slice-self.is c.as_slice.ensures _ c.as_slice-2.ensures c.in_ok-hints.hints.now c.in_ok-hints.ensures
    _ c.as_slice-3.ensures c.index-hints-self.result c.index-hints-self.is _ c.in_ok-want.ensures in
    ap (facing_want c.args.self.now) (sym c.in-Wants.is ∙ e)

pub returns-in-Passed : goal.returns-in-Passed
returns-in-Passed c =
    let e = facing-is c.args.self.now c.requires.standing c.requires.stage c.index-as_slice-self.result _ c.index-as_slice-self.is c.as_slice.ensures _ c.as_slice-2.ensures c.in_ok-hints.hints.now c.in_ok-hints.ensures
    _ c.as_slice-3.ensures c.index-hints-self.result c.index-hints-self.is _ c.in_ok-want.ensures in
    c.bound_met.ensures ∙ ap (facing_want c.args.self.now) (sym c.in-Passed.is ∙ e)

pub returns-in-Spent : goal.returns-in-Spent
returns-in-Spent c =
    let e = facing-is c.args.self.now c.requires.standing c.requires.stage c.index-as_slice-self.result _ c.index-as_slice-self.is c.as_slice.ensures _ c.as_slice-2.ensures c.in_ok-hints.hints.now c.in_ok-hints.ensures
    _ c.as_slice-3.ensures c.index-hints-self.result c.index-hints-self.is _ c.in_ok-want.ensures in
    c.bound_met-in-Spent.ensures ∙ ap (facing_want c.args.self.now) (sym c.in-Spent.is ∙ e)

pub returns : goal.returns
returns c =
    let e = facing-is c.args.self.now c.requires.standing c.requires.stage c.index-as_slice-self.result _ c.index-as_slice-self.is c.as_slice.ensures _ c.as_slice-2.ensures c.in_ok-hints.hints.now c.in_ok-hints.ensures
    _ c.as_slice-3.ensures c.index-hints-self.result c.index-hints-self.is _ c.in_ok-want.ensures in
    c.bound_met-in-Adds.ensures ∙ ap (facing_want c.args.self.now) (sym c.in-Adds.is ∙ e)
