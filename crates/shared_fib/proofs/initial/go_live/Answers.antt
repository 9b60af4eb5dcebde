use Rattle.std.proofs.Common.{ℕ, ◌≡◌, IfOk, subst, lit<}
use Rattle.shared_fib.proofs.EmptyLimbo.{none_queued, token_stays}
use Rattle.shared_fib.proofs.initial.go_live.Goals as goal

pub begin-requires : goal.begin-requires
begin-requires g c =
    let parts = c.into_parts-control in
    let none = none_queued g.row.FIRST g.row.SECOND c.args.fib c.reclaim.new.self c.counts-waiting.result.limbo c.reclaim.result
    c.requires.offline c.counts-waiting.ensures.limbo c.reclaim.ensures.frees c.reclaim.ensures.config
    parts.result.0 parts.result.1 parts.ensures.sound parts.ensures.config parts.ensures.table in
    (lit< tt, (lit< tt, (lit< tt, (lit< tt, (parts.ensures.sound, none)))))

pub returns-clause-token : goal.returns-clause-token
returns-clause-token g c =
    let parts = c.into_parts-control in
    let same = token_stays g.row.FIRST g.row.SECOND c.args.fib c.reclaim.new.self c.counts-waiting.result.limbo c.reclaim.result
    c.requires.offline c.counts-waiting.ensures.limbo c.reclaim.ensures.frees c.reclaim.ensures.config
    parts.result.0 parts.result.1 parts.ensures.sound parts.ensures.config parts.ensures.table in
    subst (λ (t : ℕ). IfOk c.begin.result (λ r. r.0.initial.token ≡ t)) same c.begin.ensures.token
