use Rattle.std.proofs.Common.{◌≡◌, length, get_or, drop, ap, ◌∙◌, sym, arith}
use Rattle.run_queue.specs.Queues.{role_of, origin_of}
use Rattle.smp_runner.proofs.Numbering.{take_back}
use Rattle.smp_runner.proofs.workers.run_workers.Goals as goal

pub returns-clause-ended : goal.returns-clause-ended
returns-clause-ended g c =
    let n = c.run_all.new.workers in
    let v = c.as_mut_slice.ensures.value in
    let same : length n ≡ length c.as_mut_slice.result.now = c.run_all.auto.workers in
    let len : length n ≡ length c.args.workers.items = same ∙ ap length v in
    let is = take_back c.args.workers.len n (drop (length n) c.args.workers.items) (c.args.workers.ok.0 ∙ sym len) in
    rw is (λ i d lt. c.run_all.ensures.ended i d (omega (arith, lt, same)))

pub returns-clause-knows : goal.returns-clause-knows
returns-clause-knows g c o all =
    let n = c.run_all.new.workers in
    let v = c.as_mut_slice.ensures.value in
    let same : length n ≡ length c.as_mut_slice.result.now = c.run_all.auto.workers in
    let len : length n ≡ length c.args.workers.items = same ∙ ap length v in
    let is = take_back c.args.workers.len n (drop (length n) c.args.workers.items) (c.args.workers.ok.0 ∙ sym len) in
    rw is (λ i d lt.
    (c.run_all.ensures.same i d (omega (arith, lt, same))).origin ∙ ap (λ l. origin_of (get_or l i d).pass.pass) v
    ∙ all i d (omega (arith, lt, len)))

pub returns-clause-roles : goal.returns-clause-roles
returns-clause-roles g c =
    let n = c.run_all.new.workers in
    let v = c.as_mut_slice.ensures.value in
    let same : length n ≡ length c.as_mut_slice.result.now = c.run_all.auto.workers in
    let len : length n ≡ length c.args.workers.items = same ∙ ap length v in
    let is = take_back c.args.workers.len n (drop (length n) c.args.workers.items) (c.args.workers.ok.0 ∙ sym len) in
    rw is (λ i d lt.
    (c.run_all.ensures.same i d (omega (arith, lt, same))).role ∙ ap (λ l. role_of (get_or l i d).pass.pass) v
    ∙ c.requires.roles i d (omega (arith, lt, len)))
