use Rattle.std.proofs.Common.{arith}
use Rattle.sign_many.proofs.JobLaws.{start-fors, start-layer}
use Rattle.sign_many.proofs.work.Work.start_of.Goals as goal

pub returns-then-job-eq0 : goal.returns-then-job-eq0
returns-then-job-eq0 c = start-fors c.args.self.now.params c.args.job c.if-job-eq0.true

pub returns-else-job-eq0 : goal.returns-else-job-eq0
returns-else-job-eq0 c =
    rw (c.fors_bytes.ensures.value, c.xmss_bytes.ensures.value, ← c.self.view_is) (start-layer c.self.inside.params c.args.job (omega (arith, c.if-job-eq0.false)))
