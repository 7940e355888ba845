use Rattle.std.proofs.Common.{◌≡◌, take, filter}
use Rattle.cli_show.specs.KeyViews.{is_told}
use Rattle.cli_show.proofs.key_view.told_members.Given as goal

abbrev pub invariant-loop-member : goal.invariant-loop-member
invariant-loop-member l = l.told ≡ filter (λ m. is_told m.name) (take l.member-index l.members)
