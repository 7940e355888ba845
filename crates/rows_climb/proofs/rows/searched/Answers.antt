use Rattle.rows_climb.proofs.FollowingLaws.{begun-follows}
use Rattle.rows_climb.proofs.rows.searched.Goals as goal

pub driven-told-requires : goal.driven-told-requires
driven-told-requires c = begun-follows _ _ _ c.args.bounds c.args.case.now.calls c.in_ok-session.ensures c.requires
