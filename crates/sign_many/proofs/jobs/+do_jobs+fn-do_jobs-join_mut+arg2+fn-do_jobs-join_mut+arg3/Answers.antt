use Rattle.std.proofs.Common.{◌≡◌, ◌≤◌, ◌<◌, ◌+◌, ◌-◌, ◌/◌, length, arith, rules}
use denote.Param.{param}
use denote.Param.Send.{IsSync}
use Rattle.slh_hash.proofs.SetLaws.{bounds}
use Rattle.sign_many.specs.Jobs.{AreDone, start_of}
use Rattle.sign_many.proofs.JobLaws.{one-done, group-done, front-group, back-group, front-inside, start-later}
use Rattle.sign_many.proofs.jobs.+do_jobs+fn-do_jobs-join_mut+arg2+fn-do_jobs-join_mut+arg3.Goals as goal

pub returns-then-count-eq1 : goal.returns-then-count-eq1
returns-then-count-eq1 g t c = one-done c.args.work.now c.args.first c.args.count c.do_job.new.part c.if-count-eq1.true c.do_job.ensures

pub first_half-near-requires-clause-few : goal.first_half-near-requires-clause-few
first_half-near-requires-clause-few g t c = omega (arith, c.requires.inside, (bounds c.args.work.now.params c.requires.set).layers)

pub overflow_sub-start_of : goal.overflow_sub-start_of
overflow_sub-start_of g t c = rw (c.start_of.ensures, c.start_of-2.ensures) (start-later c.args.work.now.params c.args.first (c.args.first + c.first_half-near.result) (omega arith))

pub split_at_mut-front-requires : goal.split_at_mut-front-requires
split_at_mut-front-requires g t c =
    rw (c.start_of.ensures, c.start_of-2.ensures) (front-inside c.args.work.now.params c.args.first c.args.count c.args.workers (length c.args.parts.now) c.first_half-near.result c.requires c.first_half-near.ensures.1)

pub do_jobs-requires-after_bounds : goal.do_jobs-requires-after_bounds
do_jobs-requires-after_bounds g t c κs within =
    let near = c.first_half-near.result in
    let part : length c.split_at_mut-front.result.0.now ≡ start_of c.args.work.now.params (c.args.first + near) - start_of c.args.work.now.params c.args.first =
    rw (← c.start_of.ensures, ← c.start_of-2.ensures) c.split_at_mut-front.ensures.front_len in
    front-group c.args.work.now.params c.args.first c.args.count c.args.workers (length c.args.parts.now) near 1 (length c.split_at_mut-front.result.0.now)
    c.requires c.first_half-near.ensures.0 c.first_half-near.ensures.1 (omega arith) c.requires.worker part

pub do_jobs-requires-then-workers-eq1-after_bounds : goal.do_jobs-requires-then-workers-eq1-after_bounds
do_jobs-requires-then-workers-eq1-after_bounds g t c κs within =
    let near = c.first_half-near.result in
    let part : length c.split_at_mut-front.result.1.now ≡ length c.args.parts.now - (start_of c.args.work.now.params (c.args.first + near) - start_of c.args.work.now.params c.args.first) =
    rw (← c.start_of.ensures, ← c.start_of-2.ensures) (omega (arith, c.split_at_mut-front.ensures.back_len)) in
    back-group c.args.work.now.params c.args.first c.args.count c.args.workers (length c.args.parts.now) near 1 (length c.split_at_mut-front.result.1.now)
    c.requires c.first_half-near.ensures.1 (omega arith) c.requires.worker part

pub join_mut-requires-after_bounds : goal.join_mut-requires-after_bounds
join_mut-requires-after_bounds g t c κs within =
    let near = c.first_half-near.result in
    let by = c.args.workers in
    let n = length c.args.parts.now in
    let two : 2 ≤ by = omega (arith, c.requires.worker, c.if-workers-eq1.false) in
    let one : length c.split_at_mut-front.result.0.now ≡ start_of c.args.work.now.params (c.args.first + near) - start_of c.args.work.now.params c.args.first =
    rw (← c.start_of.ensures, ← c.start_of-2.ensures) c.split_at_mut-front.ensures.front_len in
    let other : length c.split_at_mut-front.result.1.now ≡ n - (start_of c.args.work.now.params (c.args.first + near) - start_of c.args.work.now.params c.args.first) =
    rw (← c.start_of.ensures, ← c.start_of-2.ensures) (omega (arith, c.split_at_mut-front.ensures.back_len)) in
    let front = front-group c.args.work.now.params c.args.first c.args.count by n near (by / 2) (length c.split_at_mut-front.result.0.now)
    c.requires c.first_half-near.ensures.0 c.first_half-near.ensures.1 (omega (arith, two)) (omega arith) one in
    let back = back-group c.args.work.now.params c.args.first c.args.count by n near (by - by / 2) (length c.split_at_mut-front.result.1.now)
    c.requires c.first_half-near.ensures.1 (omega (arith, two)) (omega arith) other in
    let runtime : IsSync (param 0 g.row.R) = search rules parts 8 in
    let gate : IsSync (param 1 g.row.G) = search rules parts 8 in
    let fewer : near < t = omega (arith, c.decreases, c.first_half-near.ensures.1) in
    let less : c.args.count - near < t = omega (arith, c.decreases, c.first_half-near.ensures.0, c.first_half-near.ensures.1) in
    ((fewer, (λ a m. m, (λ a m. m, ((runtime, gate, front), (runtime, gate))))), (less, (λ a m. m, (λ a m. m, ((runtime, gate, back), (runtime, gate))))))

pub returns-then-workers-eq1 : goal.returns-then-workers-eq1
returns-then-workers-eq1 g t c =
    group-done c.args.work.now c.args.first c.args.count c.first_half-near.result c.do_jobs.new.parts c.do_jobs-then-workers-eq1.new.parts c.first_half-near.ensures.1 c.do_jobs.ensures c.do_jobs-then-workers-eq1.ensures

pub returns : goal.returns
returns g t c =
    let near = c.first_half-near.result in
    let front : AreDone c.args.work.now c.args.first near c.front-2-1.given.0 = search rules in
    let back : AreDone c.args.work.now (c.args.first + near) (c.args.count - near) c.back-2-1.given.0 = search rules in
    group-done c.args.work.now c.args.first c.args.count near c.front-2-1.given.0 c.back-2-1.given.0 c.first_half-near.ensures.1 front back
