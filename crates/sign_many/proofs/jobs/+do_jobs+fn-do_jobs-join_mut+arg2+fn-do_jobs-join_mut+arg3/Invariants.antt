use Rattle.sign_many.proofs.jobs.+do_jobs+fn-do_jobs-join_mut+arg2+fn-do_jobs-join_mut+arg3.Given as goal

abbrev pub decreases-do_jobs : goal.decreases-do_jobs
decreases-do_jobs g l = l.count

abbrev pub decreases-join_mut+arg2 : goal.decreases-join_mut+arg2
decreases-join_mut+arg2 g l = l.near

abbrev pub decreases-join_mut+arg3 : goal.decreases-join_mut+arg3
decreases-join_mut+arg3 g l = l.far
