-- The texts of the commands, by the files that they read.
use Rattle.std.proofs.Common.{◌≡◌, inl, inr, ℕ, List, Option, Some, None, subst, ◌≢◌, ◌∙◌, ap, sym, suc, ◌+◌, ◌<◌, [], ◌∷◌, ◌++◌, Ok, Err, ◌⊎◌, refl, take, drop, length, get_or, map, arith, ◌≤◌, Bool, filter, All}
use Rattle.lpm_limits.specs.declared.config.Config.{Config}
use Rattle.qsbr.specs.Counters.{Registry}
use Rattle.fib_model.specs.State.{State}
use Rattle.route_text.specs.declared.routes.Route.{Route}
use Rattle.fib_model.specs.declared.orders.Order.{Order}
use Rattle.route_text.specs.Files.{AreRoutes, AreAddresses}
use Rattle.route_text.specs.Updates.{AreUpdates}
use Rattle.lpm_files.specs.declared.failure.Failure.{Failure}
use Rattle.lpm_files.specs.Inputs.{Reads, IsKnownAs, AreRead}
use Rattle.lpm_files.specs.Output.{Begins, Writes, WritesBeginning}
use Rattle.lpm_commands.specs.Load.{IsLoaded, HasTable, EndsLoading, Loads, rule_of, IsFirstRefused, rules_of_routes}
use Rattle.lpm_commands.specs.Lookup.{lookup_files, EndsAnswering, EndsLookup, IsAnswered, IsAnswerText, IsLookupText}
use Rattle.lpm_commands.specs.Apply.{apply_files, EndsApply, EndsTelling, IsToldOver, IsApplyText}
use Rattle.std.proofs.Math.Seq.{drop-cons}
use Rattle.std.proofs.lemmas.List.{take_more, take-append-drop}
use Rattle.std.specs.FinMap.{insert, empty}
use Rattle.std.specs.Prelude.{Result, OnOk, OnErr}
use Rattle.std.specs.Io.KnownBytes.{Appends}
use Rattle.lpm_limits.specs.declared.refusal.Refusal.{Refusal}
use Rattle.lpm_limits.specs.declared.refusal.Refusal.TheVariants.{TooManyRules, Exhausted, NoGroups, Memory}
use Rattle.lpm_rules.specs.RuleMap.{RuleMap, rules_of, with_rules}
use Rattle.lpm_rules.specs.declared.Put.{Put}
use Rattle.lpm_rules.specs.declared.Put.TheVariants.{Added, Replaced, Unchanged}
use Rattle.lpm_rules.proofs.Views.{insert_same}
use Rattle.lpm_bits.specs.Network.{Network}
use Rattle.fib_model.specs.Outcomes.{Adds}
use Rattle.fib_model.specs.Counters.{counter_transitions, initial_by_counters}
use Rattle.std.proofs.lemmas.List.Elements.{All-cons, All-nil}
use Rattle.storm.specs.declared.plan.Plan.{Plan}
use Rattle.storm.specs.Writer.{IsForWriter, is_for_writer}
use Rattle.storm.specs.Storm.{limits_of}
use Rattle.lpm_commands.specs.Storm.{AreLoaded, orders_for_writer, IsPlanOf, IsTextOver, IsStormText, EndsAfter, EndsOver, EndsRunning, EndsStormRun}
use Rattle.lpm_commands.specs.Report.{report_files, EndsReport, IsReportedOver, IsReportText}
use Rattle.lpm_commands.proofs.UpdateResults.{updated, last_rules, reported}
use Rattle.lpm_files.specs.declared.failure.Failure.TheVariants as failures
use Rattle.fib_model.specs.declared.orders.Order.TheVariants as orders

-- How a command ended.

-- a file whose items were read is of its form
pub is_read : {Item : Type 0} (known : Option (List ℕ)) (Lists : List ℕ → List Item → Type 0) (items : List Item) → Reads Lists known items → (b : List ℕ) × IsKnownAs known b × ((list : List Item) × Lists b list)
is_read known Lists items reads = (reads.0, reads.1, (items, reads.2))

-- a lookup ends where its addresses are answered
pub ends_lookup : (c : Config) (routes addresses : List ℕ) (bytes : List ℕ → Option (List ℕ)) (list : List Route) (addrs : List ℕ) (table : State Registry) (e : Failure) → Reads AreRoutes (bytes routes) list → Reads AreAddresses (bytes addresses) addrs → IsLoaded c list table → EndsAnswering c.workers e → EndsLookup c routes addresses bytes e
ends_lookup c routes addresses bytes list addrs table e are_routes are_addrs loaded ends =
    let read : AreRead (lookup_files routes addresses bytes) = (is_read (bytes routes) AreRoutes list are_routes, (is_read (bytes addresses) AreAddresses addrs are_addrs, tt)) in
    let table : HasTable c (bytes routes) = (list, (table, are_routes, loaded)) in
    inr (inr (inl (read, table, ends)))

-- an apply of what the files list ends
pub ends_apply : (c : Config) (routes updates addresses : List ℕ) (bytes : List ℕ → Option (List ℕ)) (list list' : List Route) (orders : List (Order 24 8)) (addrs : List ℕ) (e : Failure) → Reads AreRoutes (bytes routes) list → Reads AreUpdates (bytes updates) orders → Reads AreAddresses (bytes addresses) addrs → list' ≡ list → EndsTelling c routes list' e → EndsApply c routes updates addresses bytes e
ends_apply c routes updates addresses bytes list list' orders addrs e are_routes are_updates are_addrs same ends =
    let read : AreRead (apply_files routes updates addresses bytes) = (is_read (bytes routes) AreRoutes list are_routes, (is_read (bytes updates) AreUpdates orders are_updates, (is_read (bytes addresses) AreAddresses addrs are_addrs, tt))) in
    elim (subst (λ (l : List Route). EndsTelling c routes l e) same ends) [
      | inl loading ↦ inr (inl (read, (list, are_routes, loading)))
      | inr answering ↦ inr (inr (inl (read, (list, (answering.0.0, are_routes, answering.0.1)), answering.1)))
    ]

-- a report of what the files list ends
pub ends_report : (c : Config) (routes updates : List ℕ) (bytes : List ℕ → Option (List ℕ)) (list list' : List Route) (orders : List (Order 24 8)) (e : Failure) → Reads AreRoutes (bytes routes) list → Reads AreUpdates (bytes updates) orders → list' ≡ list → EndsLoading c routes list' e → EndsReport c routes updates bytes e
ends_report c routes updates bytes list list' orders e are_routes are_updates same ends =
    let read : AreRead (report_files routes updates bytes) = (is_read (bytes routes) AreRoutes list are_routes, (is_read (bytes updates) AreUpdates orders are_updates, tt)) in
    inr (inl (read, (list, are_routes, subst (λ (l : List Route). EndsLoading c routes l e) same ends)))

-- a text that was written whole
pub is_written : {T E : Type 0} (IsText : List ℕ → Type 0) (r : Result T E) (old new : Option (List ℕ)) (text text' : List ℕ) → text' ≡ text → IsText text → OnOk r (Appends old new text') → OnOk r (Writes IsText old new)
is_written IsText (Ok x) old new text text' same is appends = (text, is, subst (λ (t : List ℕ). Appends old new t) same appends)
is_written IsText (Err e) old new text text' same is appends = tt

-- a text of which a beginning was written
pub is_begun : {T E : Type 0} (IsText : List ℕ → Type 0) (r : Result T E) (e : E) (old new : Option (List ℕ)) (text text' : List ℕ) → text' ≡ text → IsText text → OnErr r (Begins old new text') → r ≡ Err e → WritesBeginning IsText old new
is_begun {T = T} {E = E} IsText r e old new text text' same is begins failed = (text, is, subst (λ (t : List ℕ). Begins old new t) same (subst (λ (x : Result T E). OnErr x (Begins old new text')) failed begins))

-- Routes that are added one after another.

-- the rules of one route more
pub with_routes-more : (R : RuleMap) (xs : List Route) (r : Route) → with_rules R (map rule_of (xs ++ r ∷ [])) ≡ insert (with_rules R (map rule_of xs)) r.prefix r.hop
with_routes-more R [] r = refl
with_routes-more R (x ∷ xs) r = with_routes-more (insert R x.prefix x.hop) xs r

Loads-append : (c : Config) (s t z : State Registry) (xs : List Route) (r : Route) (put : Put) → Loads c s xs t → Adds counter_transitions 24 8 c t r.prefix r.hop (Ok put) z → Loads c s (xs ++ r ∷ []) z
Loads-append c s t z [] r put same adds = (put, z, subst (λ (x : State Registry). Adds counter_transitions 24 8 c x r.prefix r.hop (Ok put) z) same adds, refl)
Loads-append c s t z (x ∷ xs) r put loads adds = (loads.0, loads.1, loads.2, Loads-append c loads.1 t z xs r put loads.3 adds)

-- the rules after an add
pub added_rules : (c : Config) (s z : State Registry) (p : Network) (h : ℕ) (put : Put) → Adds counter_transitions 24 8 c s p h (Ok put) z → z.rules ≡ insert s.rules p h
added_rules c s z p h Unchanged adds = ap (λ (x : State Registry). x.rules) adds.1 ∙ sym (insert_same s.rules p h adds.0)
added_rules c s z p h Replaced adds = adds.3.0
added_rules c s z p h Added adds = adds.2.0

-- an add puts no group into limbo
pub added_limbo : (c : Config) (s z : State Registry) (p : Network) (h : ℕ) (put : Put) → s.limbo ≡ [] → Adds counter_transitions 24 8 c s p h (Ok put) z → z.limbo ≡ []
added_limbo c s z p h Unchanged none adds = ap (λ (x : State Registry). x.limbo) adds.1 ∙ none
added_limbo c s z p h Replaced none adds = adds.4 ∙ none
added_limbo c s z p h Added none adds = (adds.1.1.1 (λ lacks. let front = sym none ∙ (adds.1.1.0 lacks).1 in absurd cc)).0 ∙ none

-- an add changes no reader
pub added_readers : (c : Config) (s z : State Registry) (p : Network) (h : ℕ) (put : Put) → s.limbo ≡ [] → Adds counter_transitions 24 8 c s p h (Ok put) z → z.readers ≡ s.readers
added_readers c s z p h Unchanged none adds = ap (λ (x : State Registry). x.readers) adds.1
added_readers c s z p h Replaced none adds = adds.2.2 ∙ adds.2.1
added_readers c s z p h Added none adds = adds.1.2.2 ∙ (adds.1.2.1 ∙ (adds.1.1.1 (λ lacks. let front = sym none ∙ (adds.1.1.0 lacks).1 in absurd cc)).1)

-- one route more
pub loaded_more : (c : Config) (xs : List Route) (s z : State Registry) (r : Route) (put : Put) → IsLoaded c xs s → Adds counter_transitions 24 8 c s r.prefix r.hop (Ok put) z → IsLoaded c (xs ++ r ∷ []) z
loaded_more c xs s z r put loaded adds = record {
  loads = Loads-append c (initial_by_counters c) s z xs r put loaded.loads adds;
  rules = added_rules c s z r.prefix r.hop put adds ∙ (ap (λ (R : RuleMap). insert R r.prefix r.hop) loaded.rules ∙ sym (with_routes-more empty xs r));
  readers = added_readers c s z r.prefix r.hop put loaded.limbo adds ∙ loaded.readers;
  limbo = added_limbo c s z r.prefix r.hop put loaded.limbo adds;
}

-- the routes up to the one that is read
pub take_read : (routes : List Route) (i : ℕ) (r : Route) → i < length routes → r ≡ get_or routes i r → take (i + 1) routes ≡ take i routes ++ r ∷ []
take_read routes i r h e = take_more routes i r h ∙ ap (λ (x : Route). take i routes ++ x ∷ []) (sym e)

-- the routes before the one that is read, and those after it
split_read : (routes : List Route) (i : ℕ) (r : Route) → i < length routes → r ≡ get_or routes i r → routes ≡ take i routes ++ r ∷ drop (suc i) routes
split_read routes i r h e = sym (take-append-drop i routes) ∙ ap (λ (rest : List Route). take i routes ++ rest) (drop-cons routes i r h ∙ ap (λ (x : Route). x ∷ drop (suc i) routes) (sym e))

-- a refusal leaves the table as it was
refused_leaves : (c : Config) (s z : State Registry) (p : Network) (h : ℕ) (refusal : Refusal) → Adds counter_transitions 24 8 c s p h (Err refusal) z → Adds counter_transitions 24 8 c s p h (Err refusal) s
refused_leaves c s z p h TooManyRules adds = (adds.0, adds.1, adds.2, refl)
refused_leaves c s z p h Exhausted adds = (adds.0, adds.1, refl)
refused_leaves c s z p h Memory adds = (adds.0, refl)
refused_leaves c s z p h (NoGroups None) adds = (adds.0, adds.1, (adds.2.0, refl), refl)
refused_leaves c s z p h (NoGroups (Some busy)) adds = (adds.0, adds.1, (adds.2.0, adds.2.1, (adds.2.2.0, refl)), refl)
refused_leaves c s z p h refusal adds = absurd adds

-- the first route that is refused stands at this place of the routes
pub first_refused : (c : Config) (routes : List Route) (i : ℕ) (r : Route) (d : Config) (s z : State Registry) (refusal : Refusal) → i < length routes → r ≡ get_or routes i r → d ≡ c → IsLoaded c (take i routes) s → refusal ≢ Memory → Adds counter_transitions 24 8 d s r.prefix r.hop (Err refusal) z → IsFirstRefused c routes r.line refusal
first_refused c routes i r d s z refusal h e config loaded reason adds = record {
  before = take i routes;
  route = r;
  after = drop (suc i) routes;
  table = s;
  split = split_read routes i r h e;
  number = refl;
  loaded = loaded;
  reason = reason;
  refused = refused_leaves c s z r.prefix r.hop refusal (subst (λ (x : Config). Adds counter_transitions 24 8 x s r.prefix r.hop (Err refusal) z) config adds);
}

-- a refusal is want of memory, or another one
is_memory : (refusal : Refusal) → (refusal ≡ Memory) ⊎ (refusal ≢ Memory)
is_memory Memory = inl refl
is_memory refusal = inr (λ e. cc)

-- a refusal ends the run for want of memory, or as the refusal of a route
pub refused_ends : (c : Config) (file : List ℕ) (routes : List Route) (refusal : Refusal) (failure refused : Failure) → (refusal ≡ Memory → failure ≡ failures.Memory) → (refusal ≢ Memory → failure ≡ refused) → (refusal ≢ Memory → EndsLoading c file routes refused) → EndsLoading c file routes failure
refused_ends c file routes refusal failure refused memory other ends = elim (is_memory refusal) [
  | inl e ↦ subst (EndsLoading c file routes) (sym (memory e)) tt
  | inr reason ↦ subst (EndsLoading c file routes) (sym (other reason)) (ends reason)
]

-- What a storm of the files is asked to do, and how it ended.

all_for_writer : (list : List (Order 24 8)) → All IsForWriter (filter is_for_writer list)
all_for_writer [] = All-nil IsForWriter
all_for_writer (orders.Add p h ∷ more) = All-cons IsForWriter _ _ refl (all_for_writer more)
all_for_writer (orders.Del p ∷ more) = All-cons IsForWriter _ _ refl (all_for_writer more)
all_for_writer (orders.Flush ∷ more) = All-cons IsForWriter _ _ refl (all_for_writer more)
all_for_writer (orders.Reclaim max ∷ more) = All-cons IsForWriter _ _ refl (all_for_writer more)
all_for_writer (orders.Online worker ∷ more) = all_for_writer more
all_for_writer (orders.Offline worker ∷ more) = all_for_writer more
all_for_writer (orders.Quiescent worker ∷ more) = all_for_writer more

-- no update of a storm is a report of a worker
pub for_writer : (updates : List (Order 24 8)) → All IsForWriter (orders_for_writer updates)
for_writer updates = all_for_writer updates

-- the text of a storm of what the files list
pub is_storm_text : (c : Config) (rounds : ℕ) (is_stuck : Bool) (routes updates addresses : Option (List ℕ)) (list list' : List Route) (orders orders' : List (Order 24 8)) (addrs addrs' text : List ℕ) → Reads AreRoutes routes list → Reads AreUpdates updates orders → Reads AreAddresses addresses addrs → list' ≡ list → orders' ≡ orders → addrs' ≡ addrs → IsTextOver c rounds is_stuck list' orders' addrs' text → IsStormText c rounds is_stuck routes updates addresses text
is_storm_text c rounds is_stuck routes updates addresses list list' orders orders' addrs addrs' text are_routes are_updates are_addrs same_list same_orders same_addrs came = record {
  list = list;
  orders = orders;
  addrs = addrs;
  are_routes = are_routes;
  are_updates = are_updates;
  are_addrs = are_addrs;
  came = subst (λ (l : List ℕ). IsTextOver c rounds is_stuck list orders l text) same_addrs (subst (λ (l : List (Order 24 8)). IsTextOver c rounds is_stuck list l addrs' text) same_orders (subst (λ (l : List Route). IsTextOver c rounds is_stuck l orders' addrs' text) same_list came));
}

-- a storm of what the files list ends its run
pub ends_storm : (c : Config) (rounds : ℕ) (is_stuck : Bool) (routes updates addresses : List ℕ) (bytes : List ℕ → Option (List ℕ)) (list list' : List Route) (orders orders' : List (Order 24 8)) (addrs addrs' : List ℕ) (e : Failure) → Reads AreRoutes (bytes routes) list → Reads AreUpdates (bytes updates) orders → Reads AreAddresses (bytes addresses) addrs → list' ≡ list → orders' ≡ orders → addrs' ≡ addrs → EndsOver c rounds is_stuck routes list' orders' addrs' e → EndsStormRun c rounds is_stuck routes updates addresses bytes e
ends_storm c rounds is_stuck routes updates addresses bytes list list' orders orders' addrs addrs' e are_routes are_updates are_addrs same_list same_orders same_addrs ends =
    let read : AreRead (apply_files routes updates addresses bytes) = (is_read (bytes routes) AreRoutes list are_routes, (is_read (bytes updates) AreUpdates orders are_updates, (is_read (bytes addresses) AreAddresses addrs are_addrs, tt))) in
    let over : EndsOver c rounds is_stuck routes list orders addrs e = subst (λ (l : List ℕ). EndsOver c rounds is_stuck routes list orders l e) same_addrs (subst (λ (l : List (Order 24 8)). EndsOver c rounds is_stuck routes list l addrs' e) same_orders (subst (λ (l : List Route). EndsOver c rounds is_stuck routes l orders' addrs' e) same_list ends)) in
    inr (inl (read, (list, (orders, (addrs, are_routes, are_updates, are_addrs, over)))))

-- the plan of a storm
pub is_plan : (list : List Route) (orders : List (Order 24 8)) (addrs : List ℕ) (plan : Plan 24 8) → plan.rules.now ≡ map rule_of list → plan.orders.now ≡ orders_for_writer orders → plan.addrs.now ≡ addrs → IsPlanOf plan.config plan.rounds plan.has_stuck_worker list orders addrs plan
is_plan list orders addrs plan rules for_writer same = record {
  limits = refl;
  stuck = refl;
  rules = rules;
  for_writer = for_writer;
  addresses = same;
  times = refl;
}

-- ---- the table of the routes

-- each route makes at most one version
one_version : (c : Config) (s z : State Registry) (p : Network) (h : ℕ) (put : Put) → Adds counter_transitions 24 8 c s p h (Ok put) z → z.updates_begun ≤ s.updates_begun + 1
one_version c s z p h Unchanged adds = let same = ap (λ (x : State Registry). x.updates_begun) adds.1 in omega (arith, same)
one_version c s z p h Replaced adds = let more = adds.3.1 in omega (arith, more)
one_version c s z p h Added adds = let more = adds.2.1 in omega (arith, more)

few_versions : (c : Config) (s z : State Registry) (list : List Route) → Loads c s list z → z.updates_begun ≤ s.updates_begun + length list
few_versions c s z [] same = let is = ap (λ (x : State Registry). x.updates_begun) same in omega (arith, is)
few_versions c s z (r ∷ list) loads =
    let one = one_version c s loads.1 r.prefix r.hop loads.0 loads.2 in
    let rest = few_versions c loads.1 z list loads.3 in
    omega (arith, one, rest)

pub versions_within : (c : Config) (list : List Route) (table : State Registry) → IsLoaded c list table → table.updates_begun ≤ length list
versions_within c list table loaded = let few = few_versions c (initial_by_counters c) table list loaded.loads in omega (arith, few)

-- the routes make a table of the limits of the plan, which has its rules
pub are_loaded : (plan : Plan 24 8) (c : Config) (list : List Route) (n : ℕ) → c ≡ limits_of plan → rules_of plan.rules.now ≡ rules_of_routes list → (table : State Registry) → IsLoaded c list table → table.updates_begun ≡ n → AreLoaded plan list n
are_loaded plan c list n limits rules table loaded count = (table, subst (λ (k : Config). IsLoaded k list table) limits loaded, loaded.rules ∙ sym rules, count)

-- the storm ends on the table of the routes, or for want of memory
pub ends_after : (plan : Plan 24 8) (file : List ℕ) (list : List Route) (n : ℕ) (e : Failure) → AreLoaded plan list n → (e ≡ failures.Memory) ⊎ EndsRunning plan e → EndsAfter plan file list e
ends_after plan file list n e loaded (inl memory) = inl (subst (EndsLoading (limits_of plan) file list) (sym memory) tt)
ends_after plan file list n e loaded (inr ends) = inr ((n, loaded), ends)

-- the answers by the rules of the routes, which make a table
pub is_lookup_text : (c : Config) (routes addresses : Option (List ℕ)) (list : List Route) (addrs : List ℕ) (table : State Registry) (R : RuleMap) (text : List ℕ) → Reads AreRoutes routes list → Reads AreAddresses addresses addrs → IsLoaded c list table → R ≡ rules_of_routes list → IsAnswered c R addrs text → IsLookupText c routes addresses text
is_lookup_text c routes addresses list addrs table R text are_routes are_addrs loaded same answered = record {
  list = list;
  addrs = addrs;
  table = table;
  are_routes = are_routes;
  are_addrs = are_addrs;
  loaded = loaded;
  answered = subst (λ (S : RuleMap). IsAnswered c S addrs text) same answered;
}

-- what came of the updates, and the answers of the table after them
told_text : (c : Config) (routes updates addresses : Option (List ℕ)) (list : List Route) (orders : List (Order 24 8)) (addrs : List ℕ) (text : List ℕ) → Reads AreRoutes routes list → Reads AreUpdates updates orders → Reads AreAddresses addresses addrs → IsToldOver c list orders addrs text → IsApplyText c routes updates addresses text
told_text c routes updates addresses list orders addrs text are_routes are_updates are_addrs (x, (z, loaded, told)) =
    let done = updated c list orders told.came x z loaded told.comes in
    record {
      list = list;
      orders = orders;
      addrs = addrs;
      came = told.came;
      log = done.0;
      state = done.1.0;
      answers = told.answers;
      are_routes = are_routes;
      are_updates = are_updates;
      are_addrs = are_addrs;
      updated = done.1.1;
      answered = subst (λ (R : RuleMap). IsAnswered c R addrs told.answers) (last_rules c list orders told.came done.0 z done.1.0 done.1.1 done.1.2) told.answered;
      written = told.written;
    }

-- the text of an apply of what the files list
pub is_apply_text : (c : Config) (routes updates addresses : Option (List ℕ)) (list list' : List Route) (orders orders' : List (Order 24 8)) (addrs addrs' text : List ℕ) → Reads AreRoutes routes list → Reads AreUpdates updates orders → Reads AreAddresses addresses addrs → list' ≡ list → orders' ≡ orders → addrs' ≡ addrs → IsToldOver c list' orders' addrs' text → IsApplyText c routes updates addresses text
is_apply_text c routes updates addresses list list' orders orders' addrs addrs' text are_routes are_updates are_addrs same_list same_orders same_addrs told =
    told_text c routes updates addresses list orders addrs text are_routes are_updates are_addrs (subst (λ (l : List ℕ). IsToldOver c list orders l text) same_addrs (subst (λ (l : List (Order 24 8)). IsToldOver c list l addrs' text) same_orders (subst (λ (l : List Route). IsToldOver c l orders' addrs' text) same_list told)))

-- what the table counts after the updates
reported_text : (c : Config) (routes updates : Option (List ℕ)) (list : List Route) (orders : List (Order 24 8)) (text : List ℕ) → Reads AreRoutes routes list → Reads AreUpdates updates orders → IsReportedOver c list orders text → IsReportText c routes updates text
reported_text c routes updates list orders text are_routes are_updates (x, (fib, loaded, after)) =
    let done = updated c list orders after.came x fib.table loaded after.comes in
    record {
      list = list;
      orders = orders;
      came = after.came;
      log = done.0;
      state = done.1.0;
      report = after.report;
      are_routes = are_routes;
      are_updates = are_updates;
      updated = done.1.1;
      reported = reported c list orders after.came done.0 fib done.1.0 after.report done.1.1 done.1.2 after.limits after.counts;
      written = after.written;
    }

-- the text of a report of what the files list
pub is_report_text : (c : Config) (routes updates : Option (List ℕ)) (list list' : List Route) (orders orders' : List (Order 24 8)) (text : List ℕ) → Reads AreRoutes routes list → Reads AreUpdates updates orders → list' ≡ list → orders' ≡ orders → IsReportedOver c list' orders' text → IsReportText c routes updates text
is_report_text c routes updates list list' orders orders' text are_routes are_updates same_list same_orders after =
    reported_text c routes updates list orders text are_routes are_updates (subst (λ (l : List (Order 24 8)). IsReportedOver c list l text) same_orders (subst (λ (l : List Route). IsReportedOver c l orders' text) same_list after))

-- the same answers by a table of as many workers, and under another name of the addresses
pub answered_as : (c d : Config) (R : RuleMap) (addrs list text : List ℕ) → d.workers ≡ c.workers → addrs ≡ list → IsAnswered d R addrs text → IsAnswered c R list text
answered_as c d R addrs list text many same answered = (omega (arith, many, answered.0), subst (λ (l : List ℕ). IsAnswerText R l text) same answered.1)
