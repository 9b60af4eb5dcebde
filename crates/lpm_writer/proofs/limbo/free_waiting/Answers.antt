use Rattle.std.proofs.Common.{subst, sym, rules}
use Rattle.defer_queue.proofs.Longest.{Reclaims-within}
use Rattle.lpm_writer.specs.Limbo.{IsFreed}
use Rattle.lpm_writer.proofs.LimboItems.{is_freed}
use Rattle.lpm_writer.proofs.Reclaims.{reclaimed_steps, reclaimed_states, reclaimed_waits}
use Rattle.lpm_writer.proofs.limbo.free_waiting.Goals as goal

pub returns-clause-reclaims : goal.returns-clause-reclaims
returns-clause-reclaims g c =
    let r = c.reclaim in
    record {
      after = reclaimed_steps g.M.Memory.did g.M.Memory.does (λ s. s.memory.now) (λ s. s.groups.now) (λ s. s.passed.now) c.args.max r.result.freed c.args.pool.now.queue.items _ c.requires.waiting
          r.result.stopped r.new.self.items _ r.new.grace r.ensures.reclaims (search rules);
    }

pub returns-clause-waiting : goal.returns-clause-waiting
returns-clause-waiting g c =
    let r = c.reclaim in
    reclaimed_waits g.M.Memory.did g.M.Memory.does (λ s. s.memory.now) (λ s. s.groups.now) (λ s. s.passed.now) c.args.max r.result.freed c.args.pool.now.queue.items _ c.requires.waiting
    r.result.stopped r.new.self.items r.new.grace r.ensures.reclaims

pub returns-clause-freed : goal.returns-clause-freed
returns-clause-freed g c =
    let r = c.reclaim in
    let x = c.args.pool.now in
    let states = reclaimed_states g.M.Memory.did g.M.Memory.does (λ s. s.memory.now) (λ s. s.groups.now) (λ s. s.passed.now) c.args.max r.result.freed x.queue.items _ c.requires.waiting
    r.result.stopped r.new.self.items r.new.grace r.ensures.reclaims in
    subst (λ ys. IsFreed x.groups x.queue.items r.result.freed ys) (sym states) (is_freed r.result.freed x.queue.items x.groups (Reclaims-within r.ensures.reclaims) c.requires.waiting)
