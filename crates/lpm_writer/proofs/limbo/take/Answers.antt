use Rattle.std.proofs.Common.{rules, ℕ, ◌≡◌, sym, subst, List, Option, None}
use Rattle.lpm_groups.specs.declared.GroupState.{GroupState}
use Rattle.std.specs.Prelude.{Ok, IfNone, IfOk, OnErr}
use Rattle.std.specs.Option.{ok_or}
use Rattle.defer_queue.specs.declared.Reclaimed.{Reclaimed}
use Rattle.lpm_groups.specs.States.{free_count}
use Rattle.lpm_writer.specs.Commands.{FreesAt}
use Rattle.lpm_writer.specs.declared.pool.GroupPool.{GroupPool}
use Rattle.lpm_writer.specs.TakenGroup.{LinksLeast, Takes, TakesAt, taken_by}
use Rattle.lpm_writer.specs.MemorySteps.{by_writer}
use Rattle.lpm_writer.specs.Limbo.{IsQueued, IsTaken}
use Rattle.lpm_writer.proofs.LimboItems.{taken_from, taken_queue, least_linked}
use Rattle.lpm_writer.proofs.Takes.{HasReclaimed, HasTakenLeast, took_none, takes_free, takes_oldest, oldest_linked, oldest_least, oldest_unchanged, oldest_queued}
use Rattle.lpm_writer.proofs.limbo.take.Given.{Over}
use Rattle.lpm_writer.proofs.limbo.take.Goals.{After-ok_or}
use Rattle.lpm_writer.proofs.limbo.take.Goals as goal

-- a group that was free is taken

pub returns-in-Some-clause-takes : goal.returns-in-Some-clause-takes
returns-in-Some-clause-takes g c =
    let x = c.args.pool.now in
    subst (λ ys. TakesAt g.M.Memory.did c.args.memory.now x c.args.memory.now (record x { groups = ys }) (taken_by (Ok c.in-Some.group)) (λ s a z. Takes (by_writer g.M.Memory.does s) a x (Ok c.in-Some.group) z (record x { groups = ys }))) (sym c.in-Some.ensures.linked)
    (takes_free g.M.Memory.did g.M.Memory.does c.args.memory.now x c.in-Some.group c.args.block c.in-Some.ensures.least)

pub returns-in-Some-clause-linked : goal.returns-in-Some-clause-linked
returns-in-Some-clause-linked g c =
    let x = c.args.pool.now in
    let n = c.in-Some.group in
    subst (λ ys. IsTaken x.groups n c.args.block ys) (sym c.in-Some.ensures.linked) (taken_from x.groups n c.args.block c.in-Some.ensures.least.free)

pub returns-in-Some-clause-least : goal.returns-in-Some-clause-least
returns-in-Some-clause-least g c =
    let x = c.args.pool.now in
    let n = c.in-Some.group in
    subst (LinksLeast x.groups) (sym c.in-Some.ensures.linked) (least_linked x.groups n c.args.block c.in-Some.ensures.least)

pub returns-in-Some-clause-queued : goal.returns-in-Some-clause-queued
returns-in-Some-clause-queued g c =
    let x = c.args.pool.now in
    let n = c.in-Some.group in
    subst (λ ys. IsQueued ys x.queue) (sym c.in-Some.ensures.linked) (taken_queue x.groups x.queue n c.args.block c.in-Some.ensures.least.free c.requires.queued)

-- no group was free

-- the oldest was to be freed: what was, and what that left
abbrev pub freed_at : (g : Over) (c : After-ok_or g)
    → (old : GroupPool) × (result : Reclaimed) × (memory : g.row.M.Denot) × (pool : GroupPool) × FreesAt g.M.Memory.did g.M.Memory.does c.args.memory.now old 1 result memory pool
freed_at g c = search

oldest : (g : Over) (c : After-ok_or g)
    → let freed = freed_at g c in HasReclaimed g.M.Memory.did g.M.Memory.does c.args.memory.now c.args.pool.now freed.2 freed.3 freed.1.freed freed.1.stopped
oldest g c =
    let x = c.args.pool.now in
    let freed = freed_at g c in
    let was : c.take_least.result ≡ None = search rules in
    let e = c.take_least.ensures in
    let none = took_none x.groups c.args.block c.take_least.result c.take_least.new.self (record { least = e.least; linked = e.linked; none = e.none; unchanged = e.unchanged }) was in
    subst (λ ys. HasReclaimed g.M.Memory.did g.M.Memory.does c.args.memory.now (record x { groups = ys }) freed.2 freed.3 freed.1.freed freed.1.stopped) none.1 (record {
      none = subst (λ ys. free_count ys ≡ 0) (sym none.1) none.0;
      reclaims = freed.4;
      queue = search;
      waiting = search;
      freed = search;
      unchanged = search;
    })

-- then the least that was free by then was taken, or none was
abbrev pub found_at : (g : Over) (c : After-ok_or g) → (found : Option ℕ) × (c.ok_or.result ≡ ok_or found (freed_at g c).1.stopped)
found_at g c = search

abbrev pub states_at : (g : Over) (c : After-ok_or g) → (states : List GroupState) × IfNone (found_at g c).0 (states ≡ (freed_at g c).3.groups)
states_at g c = search

took : (g : Over) (c : After-ok_or g) → HasTakenLeast (freed_at g c).3.groups c.args.block (found_at g c).0 (states_at g c).0
took g c = record { least = search; linked = search; none = search rules; unchanged = (states_at g c).1 }

-- what the contract says of it, clause by clause
abbrev TakesOldest : (g : Over) → After-ok_or g → Type 0
TakesOldest g c =
    let freed = freed_at g c in
    let y = record freed.3 { groups = (states_at g c).0 } in
    TakesAt g.M.Memory.did c.args.memory.now c.args.pool.now freed.2 y (taken_by c.ok_or.result) (λ s a z. Takes (by_writer g.M.Memory.does s) a c.args.pool.now c.ok_or.result z y)

takes : (g : Over) (c : After-ok_or g) → TakesOldest g c
takes g c =
    let x = c.args.pool.now in
    let freed = freed_at g c in
    let y = record freed.3 { groups = (states_at g c).0 } in
    subst (λ found. TakesAt g.M.Memory.did c.args.memory.now x freed.2 y (taken_by found) (λ s a z. Takes (by_writer g.M.Memory.does s) a x found z y)) (sym (found_at g c).1)
    (takes_oldest g.M.Memory.did g.M.Memory.does c.args.memory.now x freed.2 freed.3 freed.1.freed freed.1.stopped (oldest g c) c.args.block (states_at g c).0 (found_at g c).0 (took g c))

abbrev LinksOldest : (g : Over) → After-ok_or g → Type 0
LinksOldest g c = IfOk c.ok_or.result (λ n. IsTaken c.args.pool.now.groups n c.args.block (states_at g c).0)

links : (g : Over) (c : After-ok_or g) → LinksOldest g c
links g c =
    let x = c.args.pool.now in
    let freed = freed_at g c in
    subst (λ found. IfOk found (λ n. IsTaken x.groups n c.args.block (states_at g c).0)) (sym (found_at g c).1)
    (oldest_linked g.M.Memory.did g.M.Memory.does c.args.memory.now x freed.2 freed.3 freed.1.freed freed.1.stopped (oldest g c) c.args.block (states_at g c).0 (found_at g c).0 (took g c))

least : (g : Over) (c : After-ok_or g) → LinksLeast c.args.pool.now.groups (states_at g c).0
least g c =
    let freed = freed_at g c in
    oldest_least g.M.Memory.did g.M.Memory.does c.args.memory.now c.args.pool.now freed.2 freed.3 freed.1.freed freed.1.stopped (oldest g c) c.args.block (states_at g c).0 (found_at g c).0 (took g c)

abbrev StaysWhole : (g : Over) → After-ok_or g → Type 0
StaysWhole g c = OnErr c.ok_or.result (((states_at g c).0 ≡ c.args.pool.now.groups) × ((freed_at g c).3.queue ≡ c.args.pool.now.queue))

stays : (g : Over) (c : After-ok_or g) → StaysWhole g c
stays g c =
    let x = c.args.pool.now in
    let freed = freed_at g c in
    subst (λ found. OnErr found (((states_at g c).0 ≡ x.groups) × (freed.3.queue ≡ x.queue))) (sym (found_at g c).1)
    (oldest_unchanged g.M.Memory.did g.M.Memory.does c.args.memory.now x freed.2 freed.3 freed.1.freed freed.1.stopped (oldest g c) c.args.block (states_at g c).0 (found_at g c).0 (took g c))

queued : (g : Over) (c : After-ok_or g) → IsQueued (states_at g c).0 (freed_at g c).3.queue
queued g c =
    let freed = freed_at g c in
    oldest_queued g.M.Memory.did g.M.Memory.does c.args.memory.now c.args.pool.now freed.2 freed.3 freed.1.freed freed.1.stopped (oldest g c) c.args.block (states_at g c).0 (found_at g c).0 (took g c) c.requires.rests c.requires.queued

-- The return's goals have the first name where the first `take_least` is tested by an `if let` that returns, the
-- second where it is by a `match`, and the third where the `if let` has an `else`.

pub returns-clause-takes : (g : Over) (c : After-ok_or g) → TakesOldest g c
returns-clause-takes = takes

pub returns-in-None-clause-takes : (g : Over) (c : After-ok_or g) → TakesOldest g c
returns-in-None-clause-takes = takes

pub returns-in_default-clause-takes : (g : Over) (c : After-ok_or g) → TakesOldest g c
returns-in_default-clause-takes = takes

pub returns-clause-linked : (g : Over) (c : After-ok_or g) → LinksOldest g c
returns-clause-linked = links

pub returns-in-None-clause-linked : (g : Over) (c : After-ok_or g) → LinksOldest g c
returns-in-None-clause-linked = links

pub returns-in_default-clause-linked : (g : Over) (c : After-ok_or g) → LinksOldest g c
returns-in_default-clause-linked = links

pub returns-clause-least : (g : Over) (c : After-ok_or g) → LinksLeast c.args.pool.now.groups (states_at g c).0
returns-clause-least = least

pub returns-in-None-clause-least : (g : Over) (c : After-ok_or g) → LinksLeast c.args.pool.now.groups (states_at g c).0
returns-in-None-clause-least = least

pub returns-in_default-clause-least : (g : Over) (c : After-ok_or g) → LinksLeast c.args.pool.now.groups (states_at g c).0
returns-in_default-clause-least = least

pub returns-clause-unchanged : (g : Over) (c : After-ok_or g) → StaysWhole g c
returns-clause-unchanged = stays

pub returns-in-None-clause-unchanged : (g : Over) (c : After-ok_or g) → StaysWhole g c
returns-in-None-clause-unchanged = stays

pub returns-in_default-clause-unchanged : (g : Over) (c : After-ok_or g) → StaysWhole g c
returns-in_default-clause-unchanged = stays

pub returns-clause-queued : (g : Over) (c : After-ok_or g) → IsQueued (states_at g c).0 (freed_at g c).3.queue
returns-clause-queued = queued

pub returns-in-None-clause-queued : (g : Over) (c : After-ok_or g) → IsQueued (states_at g c).0 (freed_at g c).3.queue
returns-in-None-clause-queued = queued

pub returns-in_default-clause-queued : (g : Over) (c : After-ok_or g) → IsQueued (states_at g c).0 (freed_at g c).3.queue
returns-in_default-clause-queued = queued
