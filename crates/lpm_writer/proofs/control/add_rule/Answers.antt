use Rattle.std.proofs.Common.{◌≡◌, ◌≢◌, ◌+◌, ◌^◌, ◌<◌, lit<, refl, sym, ap, subst, ◌∙◌, List, length, rules}
use Rattle.std.specs.Prelude.{ℕ, IsSome, IsSomeAnd, IsTrue, ◌↔◌, ◌/◌, Option, None, Some, Ok, Err, Result}
use Rattle.std.specs.FinMap.{get, len}
use Rattle.lpm_bits.specs.Network.{Network, IsNetwork}
use Rattle.lpm_limits.specs.declared.busy.Busy.{Busy}
use Rattle.lpm_rules.specs.declared.Put.{Put}
use Rattle.lpm_rules.specs.declared.Put.TheVariants.{Added as WasAdded, Replaced}
use Rattle.std.proofs.lemmas.Nat.{shr_below}
use Rattle.lpm_cells.specs.Words.{Words, IsWords}
use Rattle.lpm_rules.specs.RuleMap.{RuleList, with_rule}
use Rattle.lpm_rules.specs.declared.Put.TheVariants.{Unchanged}
use Rattle.lpm_limits.specs.declared.refusal.Refusal.TheVariants.{NoGroups}
use Rattle.fib_model.specs.Outcomes.{Adds, groups_in_use}
use Rattle.fib_model.specs.State.{HasTokens}
use Rattle.lpm_update.specs.BlockGroups.{group_at}
use Rattle.lpm_update.specs.GroupStates.{IsTied}
use Rattle.lpm_trace.specs.declared.step.RuleChange.{RuleChange}
use Rattle.lpm_trace.specs.declared.step.RuleChange.TheVariants.{Put as Puts}
use Rattle.lpm_trace.specs.declared.step.WriterStep.{WriterStep}
use Rattle.lpm_trace.specs.States.{InitialState, state_after}
use Rattle.lpm_writer.specs.Limbo.{IsQueued}
use Rattle.lpm_writer.specs.declared.pool.GroupPool.{GroupPool}
use Rattle.lpm_writer.specs.TakenGroup.{Finds, FindsAt, LinksLeast}
use Rattle.lpm_writer.specs.MemorySteps.{by_writer}
use Rattle.lpm_writer.specs.Rest.{IsResting, IsDue, state_of}
use Rattle.lpm_writer.specs.Commands.{Commands, Rests}
use Rattle.lpm_writer.proofs.StepsAlone.{after_find}
use Rattle.lpm_writer.proofs.Rests.{AreFoundLeft, linked_resting, between_take, has_tokens, rests_still}
use Rattle.lpm_writer.proofs.Additions.{absent, found_due, found_linked, found_adds, none_adds, Ok', put_room, taken_back}
use Rattle.lpm_writer.proofs.control.add_rule.Given.{Over}
use Rattle.lpm_writer.proofs.control.add_rule.Goals.{After-add-update, After-change, After-remove}
use Rattle.lpm_writer.proofs.control.add_rule.Goals as goal

pub is_linked-linked-requires : goal.is_linked-linked-requires
is_linked-linked-requires g c =
    let r = c.requires.rests in
    let seen = (g.met.M.Memory.shows c.args.memory.now r.0 r.1 r.2).0 in
    (lit< tt, subst (IsWords g.row.FIRST g.row.SECOND) (sym seen) r.3.represents.table.words)

pub group_for-requires : goal.group_for-requires
group_for-requires g c =
    let b = c.args.control.now.pool in
    let r = c.requires.rests in
    let same = sym c.is_linked-linked.ensures.same in
    let block = c.args.prefix.now.bits / 2 ^ g.row.SECOND in (
      lit< tt,
      (
        subst (λ m. IsTrue c.is_linked-linked.result ↔ IsSome (group_at (g.M.Cells.words m).firsts block)) same c.is_linked-linked.ensures.linked,
        (r.3.queued, (r.0, r.1, subst (λ m. g.M.Memory.did m r.0 r.1) same r.2, between_take r.0 r.1 b r.3.between r.3.keeps)),
      ),
    )

-- what came of the search for a group for the rule of p, from the memory m and the groups x on
abbrev FindsFor : (g : Over) → g.row.M.Denot → Network → GroupPool → Result (Option ℕ) (Option Busy) → g.row.M.Denot → GroupPool → Type 0
FindsFor g m p x result memory pool = FindsAt g.M.Memory.did g.M.Memory.does g.row.FIRST g.row.SECOND (g.M.Cells.words m).firsts p m x result memory pool

-- what was found, and what was left then
abbrev pub found_at : (g : Over) (c : After-add-update g)
    → (result : Result (Option ℕ) (Option Busy)) × (memory : g.row.M.Denot) × (pool : GroupPool) × FindsFor g c.is_linked-linked.new.memory c.args.prefix.now c.args.control.now.pool result memory pool
found_at g c = search

-- the group
abbrev pub group_of : (g : Over) (c : After-add-update g) → (group : Option ℕ) × ((found_at g c).0 ≡ Ok group)
group_of g c = search

-- so the update is due, for the change of the rules that puts this one in
ready : (g : Over) (c : After-add-update g) (rules : RuleList) → rules ≡ with_rule c.args.control.now.rules c.args.prefix.now c.args.hop
    → let left = found_at g c in let group = (group_of g c).0 in IsQueued left.2.groups left.2.queue
    → (put : RuleChange) → put ≡ Puts c.args.prefix.now.bits c.args.prefix.now.len c.args.hop
    → (initial : InitialState) (steps : List WriterStep) → g.M.Memory.did c.args.memory.now initial steps → Rests initial steps c.args.control.now
    → (later : List WriterStep) × g.M.Memory.did left.1 initial later
    × IsDue g.row.FIRST g.row.SECOND initial later c.args.control.now.config rules left.2 c.args.control.now.versions c.add-update.result put
    × Finds (by_writer g.M.Memory.does initial) g.row.FIRST g.row.SECOND (state_after initial steps).words.firsts c.args.prefix.now (c.is_linked-linked.new.memory, steps) c.args.control.now.pool (Ok group) (left.1, later) left.2
    × HasTokens (by_writer g.M.Memory.does initial) c.args.control.now.config (state_of c.args.control.now.rules.rules (c.is_linked-linked.new.memory, steps) c.args.control.now.pool c.args.control.now.versions)
ready g c rules put_in queued put is initial steps did rest =
    let f = g.row.FIRST in
    let s = g.row.SECOND in
    let k = g.M.Memory in
    let l = c.args.control.now in
    let p = c.args.prefix.now in
    let m = c.is_linked-linked.new.memory in
    let t = by_writer k.does initial in
    let x : g.row.M.Denot × List WriterStep = (m, steps) in
    let group = (group_of g c).0 in
    let memory = (found_at g c).1 in
    let pool = (found_at g c).2 in
    let by = subst (λ r. FindsFor g m p l.pool r memory pool) (group_of g c).1 (found_at g c).3 in
    let u = c.add-update in
    let began : k.did m initial steps = subst (λ y. k.did y initial steps) (sym c.is_linked-linked.ensures.same) did in
    let low = shr_below p.bits f s c.bits-bits.ensures.network.1 in
    let found = by.after initial steps began (between_take initial steps l.pool rest.between rest.keeps) in
    let finds = subst (λ (V : Words). Finds t f s V.firsts p x l.pool (Ok group) (memory, found.0) pool) (g.met.M.Memory.shows m initial steps began).0 found.4 in
    let nothing = after_find k.does initial f s (state_after initial steps).words.firsts p x l.pool (Ok group) (memory, found.0) pool finds in
    let sound : IsNetwork (f + s) p × (c.args.hop < 2 ^ 24) = (c.bits-bits.ensures.network, subst (λ n. n < 2 ^ 24) c.number-number.ensures.value c.number-number.ensures.bound) in
    let told : AreFoundLeft k.did k.does l c.args.memory.now = search in
    let left = has_tokens t l.config (state_of l.rules.rules x l.pool l.versions) told.0 told.1 (told.2 initial steps did) in (
      found.0,
      found.1,
      found_due f s initial steps l.config l.rules l.pool l.versions rest p low t x c.args.hop group (memory, found.0) pool found.0 rules u.result put
          finds found.2 nothing found.3 queued u.ensures.begun u.ensures.fills u.ensures.held put_in is sound left,
      finds,
      left,
    )

pub change-requires : goal.change-requires
change-requires g c =
    let at = (goal.at.change-requires g c).After-add-update in
    let r = c.requires.rests in
    let d = ready g at _ (search rules) (search rules) _ (cc) r.0 r.1 r.2 r.3 in
    (lit< tt, (r.0, d.0, d.1, d.2))

-- what the put came to
abbrev pub put_of : (g : Over) (c : After-change g) → (put : Put) × ((Ok' put ≡ Ok' Replaced) ↔ IsSomeAnd (get c.args.control.now.rules.rules c.args.prefix.now) (λ old. old ≢ c.args.hop))
put_of g c = search rules

-- what the contract says of a rule that was put in
abbrev Added : (g : Over) → After-change g → Type 0
Added g c = Commands g.M.Memory.did c.args.control.now c.args.memory.now c.change.new.control c.change.new.memory
    (λ s x z. Adds (by_writer g.M.Memory.does s) g.row.FIRST g.row.SECOND c.args.control.now.config x c.args.prefix.now c.args.hop (Ok (put_of g c).0) z)

added : (g : Over) (c : After-change g) → Added g c
added g c = λ initial steps did rest.
    let f = g.row.FIRST in
    let s = g.row.SECOND in
    let l = c.args.control.now in
    let p = c.args.prefix.now in
    let t = by_writer g.M.Memory.does initial in
    let x : g.row.M.Denot × List WriterStep = (c.is_linked-linked.new.memory, steps) in
    let z = c.change.new.memory in
    let new = c.change.new.control in
    let then = c.change.ensures in
    let put = (put_of g c).0 in
    let changed : put ≢ Unchanged = search rules in
    let fresh : Ok' put ≡ Ok' WasAdded → (get l.rules.rules p ≡ None) × (len l.rules.rules < l.rules.max) = search rules in
    let low = shr_below p.bits f s c.bits-bits.ensures.network.1 in
    let at : After-add-update g = search in
    let d = ready g at _ (search rules) (search rules) (Puts p.bits p.len c.args.hop) refl initial steps did rest in
    let made = then.changed initial d.0 d.1 (subst (IsDue f s initial d.0 l.config _ _ l.versions c.add-update.result) (cc) d.2) in
    let rules_now : new.rules ≡ with_rule l.rules p c.args.hop = then.rules ∙ search rules in
    let put_in = ap (λ (r : RuleList). r.rules) rules_now in
    let linked = linked_resting f s initial made.0 new.config new.rules new.pool new.versions made.2 in (
      made.0,
      made.1,
      made.2,
      subst (λ y. Adds t f s l.config (state_of l.rules.rules (y, steps) l.pool l.versions) p c.args.hop (Ok put) (state_of new.rules.rules (z, made.0) new.pool new.versions)) c.is_linked-linked.ensures.same
          (found_adds f s initial steps l.config l.rules l.pool l.versions rest p low t x c.args.hop put (group_of g at).0 (_, d.0) (z, made.0) _ new.pool new.rules new.versions
          d.3 made.3 linked put_in then.versions changed (put_of g c).1.0 fresh d.4),
    )

added_least : (g : Over) (c : After-change g) → LinksLeast c.args.control.now.pool.groups c.change.new.control.pool.groups
added_least g c =
    let f = g.row.FIRST in
    let s = g.row.SECOND in
    let l = c.args.control.now in
    let p = c.args.prefix.now in
    let r = c.requires.rests in
    let new = c.change.new.control in
    let then = c.change.ensures in
    let low = shr_below p.bits f s c.bits-bits.ensures.network.1 in
    let at : After-add-update g = search in
    let d = ready g at _ (search rules) (search rules) (Puts p.bits p.len c.args.hop) refl r.0 r.1 r.2 r.3 in
    let made = then.changed r.0 d.0 d.1 (subst (IsDue f s r.0 d.0 l.config _ _ l.versions c.add-update.result) (cc) d.2) in
    let x : g.row.M.Denot × List WriterStep = (c.is_linked-linked.new.memory, r.1) in
    let was = found_linked f s r.0 r.1 l.config l.rules l.pool l.versions r.3 p low (by_writer g.M.Memory.does r.0) x c.args.hop (group_of g at).0 (_, d.0) _ d.3 in
    let now = linked_resting f s r.0 made.0 new.config new.rules new.pool new.versions made.2 in
    let rules_now : new.rules ≡ with_rule l.rules p c.args.hop = then.rules ∙ search rules in
    let put_in = ap (λ (r : RuleList). r.rules) rules_now in
    let least : LinksLeast l.pool.groups (found_at g at).2.groups = search rules in
    subst (LinksLeast l.pool.groups) (sym (then.stays (now ∙ ap (groups_in_use f s) put_in ∙ sym was))) least

-- the return's goal has the first name where it ends an arm of a `match`, and the second where it ends the
-- function. Rattle takes the answer that it asks for
pub returns-in-Ok-clause-adds : (g : Over) (c : After-change g) → Added g c
returns-in-Ok-clause-adds = added

pub returns-clause-adds : (g : Over) (c : After-change g) → Added g c
returns-clause-adds = added

pub returns-in-Ok-group_for-clause-adds : (g : Over) (c : After-change g) → Added g c
returns-in-Ok-group_for-clause-adds = added

pub returns-in-Ok-group_for-clause-least : (g : Over) (c : After-change g) → LinksLeast c.args.control.now.pool.groups c.change.new.control.pool.groups
returns-in-Ok-group_for-clause-least = added_least

pub returns-in-Ok-clause-least : (g : Over) (c : After-change g) → LinksLeast c.args.control.now.pool.groups c.change.new.control.pool.groups
returns-in-Ok-clause-least = added_least

pub returns-clause-least : (g : Over) (c : After-change g) → LinksLeast c.args.control.now.pool.groups c.change.new.control.pool.groups
returns-clause-least = added_least

-- what was found, and what was left, where no group could be had
abbrev pub refused_at : (g : Over) (c : After-remove g)
    → (result : Result (Option ℕ) (Option Busy)) × (memory : g.row.M.Denot) × (pool : GroupPool) × FindsFor g c.is_linked-linked.new.memory c.args.prefix.now c.args.control.now.pool result memory pool
refused_at g c = search

-- the worker that holds the oldest in limbo, if one waits
abbrev pub oldest_of : (g : Over) (c : After-remove g) → (oldest : Option Busy) × ((refused_at g c).0 ≡ Err oldest)
oldest_of g c = search

-- what the put had come to
abbrev pub put_before : (g : Over) (c : After-remove g) → (put : Put) × ((Ok' put ≡ Ok' Replaced) ↔ IsSomeAnd (get c.args.control.now.rules.rules c.args.prefix.now) (λ old. old ≢ c.args.hop))
put_before g c = search rules

-- the rule was taken out again, since no group was found for it, by checks alone
abbrev Refused : (g : Over) (c : After-remove g) → Type 0
Refused g c =
    let left = refused_at g c in
    Commands g.M.Memory.did c.args.control.now c.args.memory.now (record c.args.control.now { rules = c.remove.new.self; pool = left.2 }) left.1
    (λ s x z. Adds (by_writer g.M.Memory.does s) g.row.FIRST g.row.SECOND c.args.control.now.config x c.args.prefix.now c.args.hop (Err (NoGroups (oldest_of g c).0)) z)

refused : (g : Over) (c : After-remove g) → Refused g c
refused g c = λ initial steps did rest.
    let f = g.row.FIRST in
    let s = g.row.SECOND in
    let k = g.M.Memory in
    let met = g.met.M.Memory in
    let l = c.args.control.now in
    let p = c.args.prefix.now in
    let h = c.args.hop in
    let m = c.is_linked-linked.new.memory in
    let same_memory = c.is_linked-linked.ensures.same in
    let began : k.did m initial steps = subst (λ y. k.did y initial steps) (sym same_memory) did in
    let t = by_writer k.does initial in
    let x : g.row.M.Denot × List WriterStep = (m, steps) in
    let put = put_before g c in
    let same : Ok' put.0 ≡ Ok' Unchanged → get l.rules.rules p ≡ Some h = search rules in
    let fresh : Ok' put.0 ≡ Ok' WasAdded → (get l.rules.rules p ≡ None) × (len l.rules.rules < l.rules.max) = search rules in
    let low = shr_below p.bits f s c.bits-bits.ensures.network.1 in
    let oldest = (oldest_of g c).0 in
    let memory = (refused_at g c).1 in
    let pool = (refused_at g c).2 in
    let by = subst (λ r. FindsFor g m p l.pool r memory pool) (oldest_of g c).1 (refused_at g c).3 in
    let stays : (pool.groups ≡ l.pool.groups) × (pool.queue ≡ l.pool.queue) = search rules in
    let queued : IsQueued pool.groups pool.queue = search rules in
    let found = by.after initial steps began (between_take initial steps l.pool rest.between rest.keeps) in
    let finds = subst (λ (V : Words). Finds t f s V.firsts p x l.pool (Err oldest) (memory, found.0) pool) (met.shows m initial steps began).0 found.4 in
    let nothing = after_find k.does initial f s (state_after initial steps).words.firsts p x l.pool (Err oldest) (memory, found.0) pool finds in
    let none = absent f s initial steps l.config l.rules l.pool l.versions rest p low finds.0 in
    let back : c.remove.new.self ≡ l.rules = taken_back l.rules p h _ c.remove.new.self c.remove.result (search rules) none c.remove.ensures.hop c.remove.ensures.ok in
    let room = put_room l.rules.rules p h l.rules.max put.0 same put.1.0 fresh none in
    let told : AreFoundLeft k.did k.does l c.args.memory.now = search in
    let left = has_tokens t l.config (state_of l.rules.rules x l.pool l.versions) told.0 told.1 (told.2 initial steps did) in
    let tied = subst (λ xs. IsTied f xs (group_at (state_after initial steps).words.firsts)) (sym stays.0) rest.tied in
    let after = rests_still f s initial steps found.0 l.config l.rules l.pool pool l.versions rest found.2 nothing found.3 tied queued (ap length stays.0) in
    let adds = none_adds f s initial steps l.config l.rules l.pool l.versions rest p low t x h oldest (memory, found.0) pool finds stays.1 room left in (
      found.0,
      found.1,
      subst (λ (r : RuleList). IsResting f s initial found.0 l.config r pool l.versions) (sym back) after,
      subst (λ m. Adds t f s l.config (state_of l.rules.rules (m, steps) l.pool l.versions) p h (Err (NoGroups oldest)) (state_of c.remove.new.self.rules (memory, found.0) pool l.versions)) same_memory
          (subst (λ (r : RuleList). Adds t f s l.config (state_of l.rules.rules x l.pool l.versions) p h (Err (NoGroups oldest)) (state_of r.rules (memory, found.0) pool l.versions)) (sym back) adds),
    )

-- An arm for `Err` of the put, where there is one, takes the first name, and this return the second.
pub returns-in-Err-clause-adds : goal.returns-in-Err-clause-adds
returns-in-Err-clause-adds g c = search (rules, refused)

pub returns-in-Err-group_for-clause-adds : (g : Over) (c : After-remove g) → Refused g c
returns-in-Err-group_for-clause-adds = refused

pub returns-in-Err-clause-least : goal.returns-in-Err-clause-least
returns-in-Err-clause-least g c = search rules

pub returns-in-Err-group_for-clause-least : (g : Over) (c : After-remove g) → LinksLeast c.args.control.now.pool.groups (refused_at g c).2.groups
returns-in-Err-group_for-clause-least g c = search rules
