use Rattle.std.proofs.Common.{arith, subst}
use Rattle.audit.specs.Index.{AreUpTo}
use Rattle.audit.proofs.Indexes.{none_at_all, other_prefix, this_prefix}
use Rattle.audit.proofs.events.last_event.Goals as goal

pub returns-then-count-eq0 : goal.returns-then-count-eq0
returns-then-count-eq0 c =
    none_at_all c.args.bits c.args.version c.args.events.now
    (subst (λ n. AreUpTo c.args.bits c.args.version c.args.events.now n) c.if-count-eq0.true c.count_up_to-count.ensures.front)

pub returns-then-last-bits : goal.returns-then-last-bits
returns-then-last-bits c =
    other_prefix c.args.bits c.args.version c.args.events.now c.count_up_to-count.result c.index-events-count.result (omega arith) c.count_up_to-count.ensures.bound
    c.index-events-count.is c.requires c.count_up_to-count.ensures.front c.if-last-bits.true

pub returns : goal.returns
returns c =
    this_prefix c.args.bits c.args.version c.args.events.now c.count_up_to-count.result c.index-events-count.result (omega arith) c.count_up_to-count.ensures.bound
    c.index-events-count.is c.requires c.count_up_to-count.ensures.front c.if-last-bits.false
