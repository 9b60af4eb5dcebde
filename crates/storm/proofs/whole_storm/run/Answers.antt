use Rattle.std.proofs.Common.{arith, lit<, ℕ, ◌≡◌, ◌+◌, ap, subst, sym, true, All, Bool, List, length}
use Rattle.std.specs.Prelude.{cond}
use Rattle.std.proofs.lemmas.Result.{IfOk-weaker}
use Rattle.lpm_limits.specs.declared.config.Config.{Config}
use Rattle.storm.specs.declared.workers.Worker.{Worker}
use Rattle.storm.specs.Workers.{AreInSeats, IsOver}
use Rattle.storm.specs.Writer.{HasMade}
use Rattle.storm.specs.Storm.{HasMadeAll}
use Rattle.bulk.specs.Desks.{IsAtBench}
use Rattle.storm.proofs.Meetings.{all_seated}
use Rattle.storm.proofs.whole_storm.run.Goals as goal

pub seat_stuck-stuck-requires : goal.seat_stuck-stuck-requires
seat_stuck-stuck-requires g c =
    let plan = c.args.plan.now in
    let seats : c.args.table.now.initial.workers ≡ plan.config.workers + cond plan.has_stuck_worker 1 0 = c.requires.workers in (
      lit< tt,
      (
        lit< tt,
        (
          c.in_ok-workers.ensures.own,
          λ stuck.
              let one : ◌≡◌ {A = ℕ} (cond plan.has_stuck_worker 1 0) 1 = ap (λ (b : Bool). cond b 1 0) stuck in
              c.in_ok-workers.ensures.others plan.config.workers (omega arith) (omega (arith, seats, one)),
        ),
      ),
    )

pub finish-requires-after_bounds : goal.finish-requires-after_bounds
finish-requires-after_bounds g c κs within =
    let plan = c.args.plan.now in
    let id = c.args.table.now in
    let ran = c.in_ok-workers-2.ensures in
    let recorder = c.in_ok-workers-2.recorder in
    let slice = c.as_mut_slice-workers.ensures.value in
    let made : HasMadeAll plan id recorder.outcomes.items recorder.writer = record {
      made = subst (λ (k : Config). HasMade id k plan.orders.now recorder.outcomes.items recorder.writer)
          c.limits-limits.ensures ran.made;
      rules = c.in_ok-recorder.ensures.rules;
      all = omega (arith, ran.all);
      had_memory = ran.had_memory;
    } in
    let over = subst (All (IsOver id plan.addrs.now plan.rounds)) (sym slice) ran.over in
    let done = subst (λ (ws : List Worker). All (λ w. w.is_done ≡ true) ws) (sym slice) ran.done in
    let len : length c.as_mut_slice-workers.result.now ≡ plan.config.workers = omega (arith, c.as_mut_slice-workers.ensures.len, ran.len, c.in_ok-workers.ensures.len) in
    let numbers = subst AreInSeats (sym slice) ran.seats in
    (lit< tt, (lit< tt, (lit< tt, (made, (over, (done, (numbers, (len, (c.requires.in_range.some, (c.in-Some.ensures.some, c.requires.addrs))))))))))

pub returns-clause-seated : goal.returns-clause-seated
returns-clause-seated g c =
    let plan = c.args.plan.now in
    let seats : c.args.table.now.initial.workers ≡ plan.config.workers + cond plan.has_stuck_worker 1 0 = c.requires.workers in
    let waits : plan.has_stuck_worker ≡ true → IsAtBench c.seat_all.new.bench plan.config.workers = λ stuck.
    let one : ◌≡◌ {A = ℕ} (cond plan.has_stuck_worker 1 0) 1 = ap (λ (b : Bool). cond b 1 0) stuck in
    c.in_ok-workers.ensures.others plan.config.workers (omega arith) (omega (arith, seats, one)) in
    IfOk-weaker c.finish.result _ _ (λ _ _. all_seated _ _ plan.config.workers plan.has_stuck_worker waits
    c.seat_stuck-stuck.ensures.seated c.seat_stuck-stuck.ensures.same c.in_ok-workers.ensures.seated) c.finish.ensures.limbo
