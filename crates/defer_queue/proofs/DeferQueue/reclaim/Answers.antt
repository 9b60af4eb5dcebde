use Rattle.std.proofs.Common.{rules, ◌≡◌, ℕ, List, drop, ap, ◌∙◌, subst, inl}
use Rattle.std.proofs.lemmas.List.{drop-drop}
use Rattle.defer_queue.proofs.Longest.{FreesFront-more}
use Rattle.defer_queue.proofs.DeferQueue.reclaim.Goals as goal

pub check-requires : goal.check-requires
check-requires g c =
    let items : List (ℕ × ℕ) = c.loop-freed.self.items in
    inl (c.in-Some.group, drop 1 items, subst (λ xs. g.G.Grace.ready c.loop-freed.grace xs) c.in-Some.ensures.rest c.loop-freed.invariant.ready)

pub loop-freed-preserved : goal.loop-freed-preserved
loop-freed-preserved g c =
    let items : List (ℕ × ℕ) = c.loop-freed.self.items in
    let later : c.take_front.new.self.items ≡ drop 1 items = search rules in
    let ready = subst (λ xs. g.G.Grace.ready c.loop-freed.grace xs) c.in-Some.ensures.rest c.loop-freed.invariant.ready in
    let kept = c.free.ensures.ready c.in-Some.token (drop 1 items) (c.in_default-check.ensures.passed c.in-Some.group (drop 1 items) ready) in
    record {
      at_most = search rules;
      front = FreesFront-more (λ s item. g.G.Grace.checks s item.1) (λ s item. g.G.Grace.frees s item.0) c.loop-freed.freed c.args.self.now.items items (drop 1 items) c.take_front.new.self.items
          (c.in-Some.group, c.in-Some.token) c.args.grace.now c.loop-freed.grace c.check.new.self c.free.new.self
          c.loop-freed.invariant.front c.in-Some.ensures.rest later c.in_default-check.ensures.checks c.free.ensures.frees;
      capacity = search rules;
      left = later ∙ ap (drop 1) c.loop-freed.invariant.left ∙ drop-drop 1 c.loop-freed.freed c.args.self.now.items;
      ready = rw later kept;
      lent = c.free.ensures.lent ∙ c.check.ensures.lent ∙ c.loop-freed.invariant.lent;
    }

pub returns-in-Err-clause-reclaims : goal.returns-in-Err-clause-reclaims
returns-in-Err-clause-reclaims c = search rules

pub returns-after-loop-freed-clause-reclaims : goal.returns-after-loop-freed-clause-reclaims
returns-after-loop-freed-clause-reclaims c = search rules

pub returns-in-Err-clause-left : goal.returns-in-Err-clause-left
returns-in-Err-clause-left c = search rules

pub returns-in-Err-clause-ready : goal.returns-in-Err-clause-ready
returns-in-Err-clause-ready c = search rules
