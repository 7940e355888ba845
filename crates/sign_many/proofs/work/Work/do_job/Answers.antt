use Rattle.std.proofs.Common.{length, arith}
use Rattle.sign_many.proofs.JobLaws.{room-fors, room-layer, done-fors, done-layer}
use Rattle.sign_many.proofs.work.Work.do_job.Goals as goal

pub fors_sign_with-requires-clause-room : goal.fors_sign_with-requires-clause-room
fors_sign_with-requires-clause-room c =
    let room = c.requires.room in
    room-fors c.self.inside.params c.args.job (length c.args.part.now) c.if-job-eq0.true (rw (← c.self.view_is) at room)

pub do_layer-requires-clause-room : goal.do_layer-requires-clause-room
do_layer-requires-clause-room c = room-layer c.args.self.now.params c.args.job (length c.args.part.now) (omega (arith, c.if-job-eq0.false)) c.requires.room

pub returns-then-job-eq0 : goal.returns-then-job-eq0
returns-then-job-eq0 c = done-fors c.args.self.now c.args.job c.fors_sign_with.new.out c.if-job-eq0.true (rw (c.fors_sign_with.ensures.signature, ← c.self.view_is))

pub returns-else-job-eq0 : goal.returns-else-job-eq0
returns-else-job-eq0 c = done-layer c.args.self.now c.args.job c.do_layer.new.part (omega (arith, c.if-job-eq0.false)) c.do_layer.ensures
