-- The versions of the writer are those of the accepted changes.
use Rattle.std.proofs.Common.{arith, ℕ, zero, suc, ◌≡◌, ◌+◌, ◌≤◌, ◌<◌, inl, inr, refl, ap, sym, subst, ◌∙◌, List, [], ◌∷◌, ◌++◌, length, map, take, drop, min, get_or, append_assoc, length-append, Ok, Err}
use Rattle.std.specs.List.{flat_map}
use Rattle.std.specs.Prelude.{All}
use Rattle.std.specs.FinMap.{empty, insert}
use Rattle.std.proofs.Math.Seq.{take-append_seam, drop-append_seam}
use Rattle.std.proofs.lemmas.List.{take_more, length-take, length-map, take-append-le, take_all}
use Rattle.std.proofs.lemmas.List.Elements.{All-head, All-tail}
use Rattle.lpm_rules.specs.declared.Answer.{Answer}
use Rattle.lpm_rules.specs.RuleMap.{RuleMap, rules_of, with_rules}
use Rattle.lpm_rules.specs.Changes.{rules_after}
use Rattle.lpm_rules.specs.declared.Rule.{Rule}
use Rattle.lpm_rules.specs.declared.Change.{Change}
use Rattle.lpm_rules.specs.declared.Put.TheVariants.{Added, Replaced, Unchanged}
use Rattle.fib_model.specs.declared.orders.Order.{Order}
use Rattle.fib_model.specs.declared.orders.Outcome.{Outcome}
use Rattle.audit.specs.Wrong.{AreWrong, IsOfSomeVersion, version_of, version_from}
use Rattle.storm.specs.Writer.{addition_of, change_by, changes_by, IsForWriter, HasVersions, by_own_steps}
use Rattle.lpm_limits.specs.declared.config.Config.{Config}
use Rattle.fib_model.specs.State.{State, ReaderModel}
use Rattle.fib_model.specs.Outcomes.{Does}
use Rattle.lpm_trace.specs.declared.step.WriterStep.{WriterStep}
use Rattle.shared_words.specs.Rule.{IsLater}
use Rattle.shared_fib.proofs.CommandSteps.{GoOn, adds_later, deletes_later, flushes_later, frees_later, steps_go_on}
use Rattle.std.proofs.lemmas.Bool.{cases_lt}
use Rattle.lpm_limits.specs.declared.refusal.Refusal.TheVariants.{TooManyRules, NoSuchRule, Exhausted, NoGroups, Memory}
use Rattle.lpm_rules.specs.Longest.{IsLongestHop}
use Rattle.lpm_rules.proofs.Longest.{rules_after-append}
use Rattle.lpm_trace.specs.States.{InitialState, TableState, updates_begun_in, state_after}
use Rattle.lpm_trace.specs.Trace.{FinishedLookup}
use Rattle.lpm_trace.proofs.Traces.{begun_grows}
use Rattle.lpm_writer.specs.GroupToFill.{HasWidths}
use Rattle.shared_fib.specs.RunningTable.{Identity, Rests, WriterState, state_of_writer, initial_writer, initial_state, steps_of, by_steps}
use Rattle.shared_fib.proofs.Backwards.{versions_stay}
use Rattle.storm.specs.Workers.{IsOfAStandingVersion, answer_of}
use Rattle.storm.specs.Storm.{Settles}
use Rattle.fib_model.specs.declared.orders.Order.TheVariants as order
use Rattle.fib_model.specs.declared.orders.Outcome.TheVariants as outcome

-- Wrong answers of two lists, and changes of two lists of commands.

pub append_nil : {X : Type 0} (xs : List X) → xs ++ [] ≡ xs
append_nil [] = refl
append_nil {X} (x ∷ xs) = ap (λ (ys : List X). x ∷ ys) (append_nil xs)

-- the changes that put rules in leave them
pub rules_added : {f s : ℕ} (R : RuleMap) (rs : List (Rule f s)) → rules_after R (map addition_of rs) ≡ with_rules R rs
rules_added R [] = refl
rules_added R (r ∷ rs) = rules_added (insert R r.prefix r.hop) rs

module _ (f s : ℕ) where
  -- the version of a history behind the changes that put rules in
  pub first_version : (rs : List (Rule f s)) (changes : List (Change f s))
      → version_of (map addition_of rs ++ changes) (length rs) ≡ rules_of rs
  first_version rs changes =
      let added : List (Change f s) = map addition_of rs in
      ap (λ (l : List (Change f s)). rules_after empty l)
      (ap (λ (n : ℕ). take n (added ++ changes)) (sym (length-map rs addition_of)) ∙ take-append_seam added changes)
      ∙ rules_added empty rs

  -- the changes behind them
  pub changes_behind : (rs : List (Rule f s)) (changes : List (Change f s))
      → drop (length rs) (map addition_of rs ++ changes) ≡ changes
  changes_behind rs changes =
      let added : List (Change f s) = map addition_of rs in
      ap (λ (n : ℕ). drop n (added ++ changes)) (sym (length-map rs addition_of)) ∙ drop-append_seam added changes

  pub rules_within : (rs : List (Rule f s)) (changes : List (Change f s)) → length rs ≤ length (map addition_of rs ++ changes)
  rules_within rs changes =
      let added : List (Change f s) = map addition_of rs in
      omega (arith, length-append added changes, length-map rs addition_of)

  pub wrong_append : (R : RuleMap) (history : List (Change f s)) (xs ys : List (ℕ × Answer)) (m n : ℕ)
      → AreWrong R history xs m → AreWrong R history ys n → AreWrong R history (xs ++ ys) (m + n)
  wrong_append R history [] ys m n none more =
      let same : n ≡ m + n = omega (arith, none) in subst (AreWrong R history ys) same more
  wrong_append R history (x ∷ xs) ys m n (inl (wrong, rest)) more =
      let next : suc (rest.0 + n) ≡ m + n = omega (arith, rest.1) in
      inl (wrong, (rest.0 + n, sym next, wrong_append R history xs ys rest.0 n rest.2 more))
  wrong_append R history (x ∷ xs) ys m n (inr (right, rest)) more =
      inr (right, wrong_append R history xs ys m n rest more)

  pub wrong_within : (R : RuleMap) (history : List (Change f s)) (xs : List (ℕ × Answer)) (n : ℕ) → AreWrong R history xs n → n ≤ length xs
  wrong_within R history [] n none = omega (arith, none)
  wrong_within R history (x ∷ xs) n (inl (wrong, rest)) =
      let less : rest.0 ≤ length xs = wrong_within R history xs rest.0 rest.2 in omega (arith, less, rest.1)
  wrong_within R history (x ∷ xs) n (inr (right, rest)) =
      let less : n ≤ length xs = wrong_within R history xs n rest in omega (arith, less)

  -- where each answer is of a version, none is wrong
  pub none_wrong : (R : RuleMap) (history : List (Change f s)) (xs : List (ℕ × Answer)) (n : ℕ) → All (IsOfSomeVersion R history) xs → AreWrong R history xs n → n ≡ 0
  none_wrong R history [] n all none = none
  none_wrong R history (x ∷ xs) n all (inl (wrong, rest)) = absurd (wrong (All-head (IsOfSomeVersion R history) x xs all))
  none_wrong R history (x ∷ xs) n all (inr (right, rest)) = none_wrong R history xs n (All-tail (IsOfSomeVersion R history) x xs all) rest

  one_change : (c : Order f s) (o : Outcome) → length (change_by c o) ≤ 1
  one_change (order.Add p h) (outcome.Put Added) = omega arith
  one_change (order.Add p h) (outcome.Put Replaced) = omega arith
  one_change (order.Add p h) (outcome.Put Unchanged) = omega arith
  one_change (order.Add p h) other = omega arith
  one_change (order.Del p) (outcome.Deleted h) = omega arith
  one_change (order.Del p) other = omega arith
  one_change order.Flush (outcome.Flushed zero) = omega arith
  one_change order.Flush (outcome.Flushed (suc n)) = omega arith
  one_change order.Flush other = omega arith
  one_change (order.Reclaim max) out = omega arith
  one_change (order.Online worker) out = omega arith
  one_change (order.Offline worker) out = omega arith
  one_change (order.Quiescent worker) out = omega arith

  -- no command makes more than one change
  pub changes_within : (cs : List (Order f s)) (os : List Outcome) → length (changes_by cs os) ≤ length cs
  changes_within [] os = omega arith
  changes_within (c ∷ cs) [] = omega arith
  changes_within (c ∷ cs) (o ∷ os) =
      let one = one_change c o in
      let rest = changes_within cs os in
      omega (arith, one, rest, length-append (change_by c o) (changes_by cs os))

  pub changes_more : (cs : List (Order f s)) (os : List Outcome) (c : Order f s) (o : Outcome) → length cs ≡ length os
      → changes_by (cs ++ c ∷ []) (os ++ o ∷ []) ≡ changes_by cs os ++ change_by c o
  changes_more [] [] c o e = append_nil (change_by c o)
  changes_more [] (x ∷ os) c o e = absurd (omega (arith, e))
  changes_more (y ∷ cs) [] c o e = absurd (omega (arith, e))
  changes_more (y ∷ cs) (x ∷ os) c o e =
      ap (λ (zs : List (Change f s)). change_by y x ++ zs) (changes_more cs os c o (omega (arith, e)))
      ∙ sym (append_assoc (change_by y x) (changes_by cs os) (change_by c o))

  -- the next of the commands, with its outcome
  pub changes_next : (cs : List (Order f s)) (os : List Outcome) (i : ℕ) (c : Order f s) (o : Outcome) → i < length cs
      → length os ≡ length cs → c ≡ get_or cs i c → o ≡ get_or os i o
      → changes_by (take (i + 1) cs) (take (i + 1) os) ≡ changes_by (take i cs) (take i os) ++ change_by c o
  changes_next cs os i c o low many order outcome =
      let here : i < length os = omega (arith, low, many) in
      let as_many : length (take i cs) ≡ length (take i os) = length-take i cs ∙ (ap (min i) (sym many) ∙ sym (length-take i os)) in
      ap (λ (xs : List (Order f s)). changes_by xs (take (i + 1) os))
      (take_more cs i c low ∙ ap (λ (x : Order f s). take i cs ++ x ∷ []) (sym order))
      ∙ (ap (λ (ys : List Outcome). changes_by (take i cs ++ c ∷ []) ys)
      (take_more os i o here ∙ ap (λ (y : Outcome). take i os ++ y ∷ []) (sym outcome))
      ∙ changes_more (take i cs) (take i os) c o as_many)

pub flat_more : {X Y : Type 0} (g : X → List Y) (xs : List X) (y : X) → flat_map g (xs ++ y ∷ []) ≡ flat_map g xs ++ g y
flat_more g [] y = append_nil (g y)
flat_more g (x ∷ xs) y =
    ap (λ zs. g x ++ zs) (flat_more g xs y) ∙ sym (append_assoc (g x) (flat_map g xs) (g y))

-- The writer's steps go on from command to command.

pub order_later : (k : ReaderModel (List WriterStep)) → GoOn k.changes → (f g : ℕ) (c : Config) (s z : State (List WriterStep))
    → (order : Order f g) (out : Outcome) → IsForWriter order → Does k f g c s order out z → IsLater s.readers z.readers
order_later k on f g c s z (order.Add p h) (outcome.Put put) mine d = adds_later k.changes on f g c s z p h (Ok put) d
order_later k on f g c s z (order.Add p h) (outcome.Refused refusal) mine d = adds_later k.changes on f g c s z p h (Err refusal) d
order_later k on f g c s z (order.Add p h) other mine d = absurd d
order_later k on f g c s z (order.Del p) (outcome.Deleted h) mine d = deletes_later k.changes on f g c s z p (Ok h) d
order_later k on f g c s z (order.Del p) (outcome.Refused refusal) mine d = deletes_later k.changes on f g c s z p (Err refusal) d
order_later k on f g c s z (order.Del p) other mine d = absurd d
order_later k on f g c s z order.Flush (outcome.Flushed n) mine d = flushes_later k.changes on f g c s z (Ok n) d
order_later k on f g c s z order.Flush (outcome.Refused refusal) mine d = flushes_later k.changes on f g c s z (Err refusal) d
order_later k on f g c s z order.Flush other mine d = absurd d
order_later k on f g c s z (order.Reclaim max) (outcome.Reclaimed r) mine d = frees_later k.changes on s z max r d
order_later k on f g c s z (order.Reclaim max) other mine d = absurd d
order_later k on f g c s z (order.Online w) out mine d = absurd (cc)
order_later k on f g c s z (order.Offline w) out mine d = absurd (cc)
order_later k on f g c s z (order.Quiescent w) out mine d = absurd (cc)

-- ---- one command

-- a command leaves the rules after its change, and begins an update where it made one
record Comes {X : Type 0} {f g : ℕ} (s z : State X) (changes : List (Change f g)) : Type 0 where
  rules : z.rules ≡ rules_after s.rules changes
  begun : z.updates_begun ≡ s.updates_begun + length changes
  few : length changes ≤ 1

module _ {X : Type 0} {f g : ℕ} (s z : State X) where
  no_change : z ≡ s → Comes {X = X} {f = f} {g = g} s z []
  no_change same = record {
    rules = ap (λ (x : State X). x.rules) same;
    begun = let e : z.updates_begun ≡ s.updates_begun = ap (λ (x : State X). x.updates_begun) same in omega (arith, e);
    few = omega arith;
  }

  a_change : (change : Change f g) → z.rules ≡ rules_after s.rules (change ∷ []) → z.updates_begun ≡ s.updates_begun + 1
      → Comes s z (change ∷ [])
  a_change change rules count = record { rules = rules; begun = count; few = omega arith }

  kept_rules : z.rules ≡ s.rules → z.updates_begun ≡ s.updates_begun → Comes {X = X} {f = f} {g = g} s z []
  kept_rules rules count = record { rules = rules; begun = omega (arith, count); few = omega arith }

comes : {X : Type 0} (k : ReaderModel X) (f g : ℕ) (c : Config) (s z : State X) (order : Order f g) (out : Outcome)
    → IsForWriter order → Does k f g c s order out z → Comes s z (change_by order out)
comes k f g c s z (order.Add p h) (outcome.Put Added) mine d = a_change s z _ d.2.0 d.2.1
comes k f g c s z (order.Add p h) (outcome.Put Replaced) mine d = a_change s z _ d.3.0 d.3.1
comes k f g c s z (order.Add p h) (outcome.Put Unchanged) mine d = no_change s z d.1
comes k f g c s z (order.Add p h) (outcome.Refused TooManyRules) mine d = no_change s z d.3
comes k f g c s z (order.Add p h) (outcome.Refused Exhausted) mine d = no_change s z d.2
comes {X} k f g c s z (order.Add p h) (outcome.Refused (NoGroups oldest)) mine d =
    kept_rules s z (ap (λ (x : State X). x.rules) d.3) (ap (λ (x : State X). x.updates_begun) d.3)
comes k f g c s z (order.Add p h) (outcome.Refused Memory) mine d = no_change s z d.1
comes k f g c s z (order.Add p h) (outcome.Refused other) mine d = absurd d
comes k f g c s z (order.Add p h) other mine d = absurd d
comes k f g c s z (order.Del p) (outcome.Deleted h) mine d = a_change s z _ d.1.2.0 d.1.2.1
comes k f g c s z (order.Del p) (outcome.Refused NoSuchRule) mine d = no_change s z d.1
comes k f g c s z (order.Del p) (outcome.Refused Exhausted) mine d = no_change s z d.2
comes k f g c s z (order.Del p) (outcome.Refused other) mine d = absurd d
comes k f g c s z (order.Del p) other mine d = absurd d
comes k f g c s z order.Flush (outcome.Flushed zero) mine d = no_change s z (d.1 refl)
comes k f g c s z order.Flush (outcome.Flushed (suc n)) mine d =
    let shrinks = d.2 (omega arith) in a_change s z _ shrinks.2.0 shrinks.2.1
comes k f g c s z order.Flush (outcome.Refused Exhausted) mine d = no_change s z d.2
comes k f g c s z order.Flush (outcome.Refused other) mine d = absurd d
comes k f g c s z order.Flush other mine d = absurd d
comes {X} k f g c s z (order.Reclaim max) (outcome.Reclaimed r) mine d =
    kept_rules s z (ap (λ (x : State X). x.rules) d.1) (ap (λ (x : State X). x.updates_begun) d.1)
comes k f g c s z (order.Reclaim max) other mine d = absurd d
comes k f g c s z (order.Online w) out mine d = absurd (cc)
comes k f g c s z (order.Offline w) out mine d = absurd (cc)
comes k f g c s z (order.Quiescent w) out mine d = absurd (cc)

-- settling makes no version
pub settled_versions : (id : Identity) (last end : WriterState) → Settles id last end → end.table.updates_begun ≡ last.table.updates_begun
settled_versions id last end settled =
    ap (λ (x : State (List WriterStep)). x.updates_begun) settled.frees.1 ∙ ap (λ (w : WriterState). w.table.updates_begun) settled.same

-- ---- the versions, command by command

module _ (f g : ℕ) where
  pub versions_none : (id : Identity) (config : Config)
      → HasVersions {first = f} {second = g} id.initial.rules (initial_writer id config id.initial.rules) []
  versions_none id config = record {
    count = refl;
    begun = refl;
    rules = refl;
    each = λ k low. sym (ap (λ (l : List (Change f g)). rules_after id.initial.rules l) (take_all k [] (omega arith)));
  }

  -- the rules after all changes are those of the last version
  all_changes : (R : RuleMap) (changes : List (Change f g)) (k : ℕ) → length changes ≤ k → version_from R changes k ≡ rules_after R changes
  all_changes R changes k le = ap (rules_after R) (take_all k changes le)

  module _ (R : RuleMap) (id : Identity) (w z : WriterState) (before change : List (Change f g)) (has : HasVersions R w before)
      (own : w.identity ≡ id) (own' : z.identity ≡ id) (later : IsLater (steps_of w) (steps_of z)) (rests : Rests z)
      (came : Comes w.table z.table change) where
    count_now : z.table.updates_begun ≡ length (before ++ change)
    count_now = let e : z.table.updates_begun ≡ w.table.updates_begun + length change = came.begun in omega (arith, e, has.count, length-append before change)

    rules_now : z.table.rules ≡ rules_after R (before ++ change)
    rules_now =
        came.rules ∙ (ap (λ (Q : RuleMap). rules_after Q change) has.rules ∙ sym (rules_after-append f g R before change))

    -- the table's state after the steps before, whichever of its names is used
    left_before : state_of_writer w ≡ state_after (initial_state id) (steps_of w)
    left_before = ap (λ (i : Identity). state_after (initial_state i) (steps_of w)) own

    left_now : state_of_writer z ≡ state_after (initial_state id) (steps_of z)
    left_now = ap (λ (i : Identity). state_after (initial_state i) (steps_of z)) own'

    old_version : (k : ℕ) → k ≤ length before → (state_of_writer z).history k ≡ version_from R (before ++ change) k
    old_version k low =
        let begun_k : k ≤ updates_begun_in (state_after (initial_state id) (steps_of w)) =
        subst (λ (t : TableState). k ≤ updates_begun_in t) left_before (omega (arith, low, has.begun)) in
        ap (λ (t : TableState). t.history k) left_now
        ∙ (versions_stay (initial_state id) (steps_of w) (steps_of z) k later begun_k
        ∙ (ap (λ (t : TableState). t.history k) (sym left_before)
        ∙ (has.each k low ∙ sym (ap (rules_after R) (take-append-le k before change low)))))

    new_version : (k : ℕ) → k ≡ z.table.updates_begun → (state_of_writer z).history k ≡ version_from R (before ++ change) k
    new_version k here =
        ap (λ (n : ℕ). (state_of_writer z).history n) here
        ∙ (rests.rules ∙ (rules_now ∙ sym (all_changes R (before ++ change) k (omega (arith, here, count_now)))))

    versions_more : HasVersions R z (before ++ change)
    versions_more = record {
      count = count_now;
      begun = rests.begun ∙ count_now;
      rules = rules_now;
      each = λ k low. elim (cases_lt (length before) k) [
        | inl new ↦ new_version k (omega (arith, low, new, count_now, length-append before change, came.few))
        | inr old ↦ old_version k (omega (arith, old))
      ];
    }

  pub versions_next : (R : RuleMap) (id : Identity) (config : Config) (w z : WriterState) (before : List (Change f g)) (order : Order f g) (out : Outcome)
      → HasVersions R w before → w.identity ≡ id → z.identity ≡ id → IsForWriter order → Rests z
      → Does (by_own_steps id.initial) f g config w.table order out z.table → HasVersions R z (before ++ change_by order out)
  unfolding by_steps
  versions_next R id config w z before order out has own own' mine rests does =
      let keeping : ReaderModel (List WriterStep) = by_own_steps id.initial in
      versions_more R id w z before (change_by order out) has own own'
      (order_later keeping (steps_go_on id.initial.workers id.initial.token) f g config w.table z.table order out mine does) rests
      (comes keeping f g config w.table z.table order out mine does)

  -- ---- answers

  -- a lookup of a version by the writer's steps answers by a version of the accepted changes
  pub answer_is_right : (R : RuleMap) (id : Identity) (w : WriterState) (changes : List (Change f g)) (seen : FinishedLookup)
      → HasWidths f g (initial_state id) → w.identity ≡ id → HasVersions R w changes
      → IsOfAStandingVersion (initial_state id) (steps_of w) seen → IsOfSomeVersion R changes (answer_of seen)
  answer_is_right R id w changes seen widths own has of =
      let c : InitialState = initial_state id in
      let k : ℕ = of.0 in
      let h = of.1 in
      let left : state_of_writer w ≡ state_after c (steps_of w) = ap (λ (i : Identity). state_after (initial_state i) (steps_of w)) own in
      let begun_k : k ≤ updates_begun_in (state_after c (steps_of w)) = omega (arith, h.stands.1, begun_grows c (steps_of w) h.place) in
      let within : k ≤ length changes = subst (λ (n : ℕ). k ≤ n) has.begun (subst (λ (t : TableState). k ≤ updates_begun_in t) (sym left) begun_k) in
      let rules : (state_after c (steps_of w)).history k ≡ version_from R changes k =
      ap (λ (t : TableState). t.history k) (sym left) ∙ has.each k within in
      let width : c.first + c.second ≡ f + g = omega (arith, widths.0, widths.1) in
      record {
        k = k;
        from = h.low;
        to = h.high;
        within = within;
        answers = subst (λ (n : ℕ). IsLongestHop n (version_from R changes k) seen.addr seen.hop) width
            (subst (λ (Q : RuleMap). IsLongestHop (c.first + c.second) Q seen.addr seen.hop) rules h.answers);
      }
