-- An update that runs over a memory, from store to store.
use Rattle.std.proofs.Common.{◌≡◌, ℕ, List, ◌∷◌, arith, suc, ◌+◌, ◌-◌, ◌^◌, ◌<◌, refl, sym, ap, subst, ◌∙◌, Option, None, add-one}
use Rattle.lpm_trace.specs.declared.step.WriterStep.{WriterStep}
use Rattle.lpm_trace.specs.declared.step.WriterStep.TheVariants.{StoreFirst, StoreSecond}
use Rattle.lpm_trace.specs.States.{InitialState, state_after, TableState, first_entry}
use Rattle.lpm_trace.specs.Writer.{IsWritten, MayStep, progress_after}
use Rattle.lpm_writer.specs.Plain.{MayBeNext}
use Rattle.lpm_cells.specs.declared.entry.Entry.{Entry}
use Rattle.lpm_cells.specs.declared.entry.Entry.TheVariants.{Miss, Hop, Group}
use Rattle.lpm_cells.specs.Words.{IsLast, group_in, Words, with_first, with_second}
use Rattle.lpm_groups.specs.States.{IsLinkedTo, linked_count}
use Rattle.lpm_limits.specs.declared.config.Config.{Config}
use Rattle.lpm_update.specs.declared.Did.{Did}
use Rattle.lpm_update.specs.declared.Did.TheVariants.{First, Second, Unlinked, Done}
use Rattle.lpm_update.specs.declared.update.Plan.{Plan}
use Rattle.lpm_update.specs.Step.{Steps}
use Rattle.lpm_update.specs.GroupStates.{IsTied}
use Rattle.lpm_update.specs.Update.{IsNextFirst, IsNextSecond, IsNextUnlink, IsOver, group_held}
use Rattle.lpm_update.specs.BlockGroups.{group_at}
use Rattle.lpm_update.specs.Laws.{HasCome}
use Rattle.lpm_update.proofs.Groups.{last_none}
use Rattle.lpm_update.proofs.Runs.{run_goes_on, next_store, next_first}
use Rattle.lpm_trace.specs.Progress.{Nothing, next_after_store}
use Rattle.lpm_writer.specs.declared.pool.GroupPool.{GroupPool}
use Rattle.fib_model.specs.State.{Unlinks}
use Rattle.lpm_writer.specs.Limbo.{AreWaiting, tokens_of}
use Rattle.lpm_writer.specs.MemorySteps.{WithSteps, UnlinksNone, by_writer}
use Rattle.lpm_writer.specs.GroupsMatch.{HasNothingDue, GroupsMatchSteps}
use Rattle.lpm_writer.specs.GroupToFill.{group_to_fill, HasWidths}
use Rattle.lpm_writer.proofs.GivenUp.{HasUnlinked, HasRetired, Retires}
use Rattle.lpm_writer.proofs.StepsAlone.{store_first, store_unlink, store_second, after_retire}
use Rattle.lpm_writer.proofs.NextStores.{filling_same, first_kind, unlink_kind, may_store_first, may_store_second, may_unlink, may_close}
use Rattle.lpm_writer.proofs.AfterStore.{none_filling, over_filling, taken_first, taken_unlink, unlink_filling, taken_by_second, has_linked, keeps_first, keeps_second, has_unlinked, making_first, making_second, making_quiet}
use Rattle.lpm_writer.proofs.RunningUpdate.{IsMaking, MayMake, HasMade, HasUnlinkedSome}
use Rattle.lpm_cells.specs.declared.Cells as cells
use Rattle.lpm_writer.specs.declared.memory.Memory as memory

-- A memory, as proofs take it.

-- what a type says as a memory, and the laws that `Memory` asks of it
pub record AsMemory (M : Type 0) : Type 1 where
  pub cells : cells.Ghosts M
  pub says : memory.Ghosts M
  pub follows : (m : M) (s : WriterStep) (z : M) (c : InitialState) (steps : List WriterStep) → says.does m s z → says.did m c steps → MayStep c steps s → says.did z c (s ∷ steps)
  pub shows : (m : M) (c : InitialState) (steps : List WriterStep) → says.did m c steps
      → (cells.words m ≡ (state_after c steps).words) × (says.newest m ≡ (state_after c steps).token) × (says.worker_count m ≡ c.workers)
  pub written : (m : M) (c : InitialState) (steps : List WriterStep) → says.did m c steps → IsWritten c steps
  pub may_first : (m : M) (i w : ℕ) → MayBeNext says.did m (StoreFirst i w) → cells.may_set_first m i w
  pub may_second : (m : M) (i w : ℕ) → MayBeNext says.did m (StoreSecond i w) → cells.may_set_second m i w
  pub first_stored : (m : M) (i w : ℕ) (z : M) → cells.sets_first m i w z → says.does m (StoreFirst i w) z
  pub second_stored : (m : M) (i w : ℕ) (z : M) → cells.sets_second m i w z → says.does m (StoreSecond i w) z

due_last : (e : Entry) → IsLast e → next_after_store e ≡ Nothing
due_last Miss h = refl
due_last (Hop hop depth) h = refl
due_last (Group g) h = absurd h

-- what is said by a table's widths
pub fit : (P : ℕ → ℕ → Type 0) (f s : ℕ) (c : InitialState) → HasWidths f s c → P f s → P c.first c.second
fit P f s c w p = subst (λ a. P a c.second) (sym w.0) (subst (λ b. P f b) (sym w.1) p)

-- an update that has come to v by these steps
pub record IsRunning {M : Type 0} (does : M → WriterStep → M → Type 0) (f s : ℕ) (config : Config) (c : InitialState) (m : M) (steps : List WriterStep) (old : GroupPool) (u : Plan)
    (z : M) (later : List WriterStep) (new : GroupPool) (v : Plan) : Type 0 where
  pub widths : HasWidths f s c
  pub making : IsMaking c later u (state_after c steps).words v
  pub idle : HasNothingDue c later
  pub keeps : GroupsMatchSteps c later new.groups new.queue.items new.passed (group_to_fill v (state_after c later).words.firsts)
  pub sequence : (state_after c later).sequence ≡ (state_after c steps).sequence
  pub history : (state_after c later).history ≡ (state_after c steps).history
  pub unlinked : HasUnlinkedSome does c config (m, steps) old (z, later) new

-- whatever the initial state and the steps were, an update that may begin has come to v
abbrev pub Runs : {M : Type 0} → AsMemory M → ℕ → ℕ → Config → M → GroupPool → Plan → M → GroupPool → Plan → Type 0
Runs mem f s config first old u z new v = (c : InitialState) (steps : List WriterStep) → mem.says.did first c steps → MayMake f s c steps u old
    → (later : List WriterStep) × mem.says.did z c later × IsRunning mem.says.does f s config c first steps old u z later new v

module _ {M : Type 0} (mem : AsMemory M) (f s : ℕ) (config : Config) (first : M) (old : GroupPool) (u : Plan) where
  pub run_begins : Runs mem f s config first old u first old u
  run_begins c steps d may = (
    steps,
    d,
    record {
      widths = may.widths;
      making = may.making;
      idle = may.idle;
      keeps = may.keeps;
      sequence = refl;
      history = refl;
      unlinked = record {
        last = (first, steps);
        stores = 0;
        unlinks = none_unlinked c (first, steps);
        since = refl;
      };
    },
  )
    where
      none_unlinked : (c : InitialState) (x : WithSteps M) → Unlinks (by_writer mem.says.does c) config (linked_count old.groups - linked_count old.groups) x (tokens_of old.queue.items) x (tokens_of old.queue.items)
      none_unlinked c x =
          let e : 0 ≡ linked_count old.groups - linked_count old.groups = omega arith in
          subst (λ n. Unlinks (by_writer mem.says.does c) config n x (tokens_of old.queue.items) x (tokens_of old.queue.items)) e (refl, refl)

  module _ (m : M) (new : GroupPool) (v : Plan) (runs : Runs mem f s config first old u m new v) (z : M) (v' : Plan) where
    module _ (c : InitialState) (steps : List WriterStep) (d : mem.says.did first c steps) (may : MayMake f s c steps u old) where
      -- the mem.cells.words of the memory are those that the steps leave
      seen : mem.cells.words m ≡ (state_after c (runs c steps d may).0).words
      seen = let now = runs c steps d may in (mem.shows m c now.0 now.1).0

      next_first_on : (i x : ℕ) → IsNextFirst f s v (mem.cells.words m) i x → IsNextFirst c.first c.second v (state_after c (runs c steps d may).0).words i x
      next_first_on i x n = fit (λ a b. IsNextFirst a b v (state_after c (runs c steps d may).0).words i x) f s c may.widths (subst (λ W. IsNextFirst f s v W i x) seen n)

      next_second_on : (j x : ℕ) → IsNextSecond s v (mem.cells.words m) j x → IsNextSecond c.second v (state_after c (runs c steps d may).0).words j x
      next_second_on j x n = fit (λ a b. IsNextSecond b v (state_after c (runs c steps d may).0).words j x) f s c may.widths (subst (λ W. IsNextSecond s v W j x) seen n)

      next_unlink_on : (b g x : ℕ) → IsNextUnlink f s v (mem.cells.words m) b g x → IsNextUnlink c.first c.second v (state_after c (runs c steps d may).0).words b g x
      next_unlink_on b g x n = fit (λ a b'. IsNextUnlink a b' v (state_after c (runs c steps d may).0).words b g x) f s c may.widths (subst (λ W. IsNextUnlink f s v W b g x) seen n)

      tied_on : IsTied f new.groups (group_held v (mem.cells.words m).firsts) → IsTied c.first new.groups (group_held v (state_after c (runs c steps d may).0).words.firsts)
      tied_on t = subst (λ a. IsTied a new.groups (group_held v (state_after c (runs c steps d may).0).words.firsts)) (sym may.widths.0) (subst (λ (W : Words). IsTied f new.groups (group_held v W.firsts)) seen t)

      steps_first : (did_it : Did) (i x : ℕ) → Steps f s v (mem.cells.words m) did_it v' (mem.cells.words z) → mem.cells.words z ≡ with_first (mem.cells.words m) i x
          → Steps c.first c.second v (state_after c (runs c steps d may).0).words did_it v' (with_first (state_after c (runs c steps d may).0).words i x)
      steps_first did_it i x st e = fit (λ a b. Steps a b v (state_after c (runs c steps d may).0).words did_it v' (with_first (state_after c (runs c steps d may).0).words i x)) f s c may.widths
          (subst (λ W. Steps f s v W did_it v' (with_first W i x)) seen (subst (λ W. Steps f s v (mem.cells.words m) did_it v' W) e st))

      steps_second : (did_it : Did) (j x : ℕ) → Steps f s v (mem.cells.words m) did_it v' (mem.cells.words z) → mem.cells.words z ≡ with_second (mem.cells.words m) j x
          → Steps c.first c.second v (state_after c (runs c steps d may).0).words did_it v' (with_second (state_after c (runs c steps d may).0).words j x)
      steps_second did_it j x st e = fit (λ a b. Steps a b v (state_after c (runs c steps d may).0).words did_it v' (with_second (state_after c (runs c steps d may).0).words j x)) f s c may.widths
          (subst (λ W. Steps f s v W did_it v' (with_second W j x)) seen (subst (λ W. Steps f s v (mem.cells.words m) did_it v' W) e st))

      pub allows_first : (i x : ℕ) → IsNextFirst f s v (mem.cells.words m) i x → MayStep c (runs c steps d may).0 (StoreFirst i x)
      allows_first i x n =
          let r = (runs c steps d may).2 in
          may_store_first c (runs c steps d may).0 u (state_after c steps).words v r.making new.groups new.queue.items new.passed r.keeps r.idle i x (next_first_on i x n)

      pub allows_second : IsTied f new.groups (group_held v (mem.cells.words m).firsts) → (j x : ℕ) → IsNextSecond s v (mem.cells.words m) j x → MayStep c (runs c steps d may).0 (StoreSecond j x)
      allows_second tied j x n =
          let r = (runs c steps d may).2 in
          may_store_second c (runs c steps d may).0 u (state_after c steps).words v r.making new.groups new.queue.items new.passed r.keeps r.idle (tied_on tied) j x (next_second_on j x n)

      pub allows_unlink : (b g x : ℕ) → IsNextUnlink f s v (mem.cells.words m) b g x → MayStep c (runs c steps d may).0 (StoreFirst b x)
      allows_unlink b g x n =
          let r = (runs c steps d may).2 in
          may_unlink c (runs c steps d may).0 u (state_after c steps).words v r.making new.groups new.queue.items new.passed r.keeps r.idle b g x (next_unlink_on b g x n)

    -- one more store, which unlinks no group
    one_more : (c : InitialState) (x : WithSteps M) (later : List WriterStep) (step : WriterStep) (k : HasUnlinkedSome mem.says.does c config x old (m, later) new) → UnlinksNone (state_after c later) step → mem.says.does m step z
        → HasUnlinkedSome mem.says.does c config x old (z, step ∷ later) new
    one_more c x later step k plain goes = record {
      last = k.last;
      stores = k.stores + 1;
      unlinks = k.unlinks;
      since = rw add-one ((m, later), step, k.since, plain, (goes, refl));
    }

    pub run_first : (i x : ℕ) → Steps f s v (mem.cells.words m) (First i) v' (mem.cells.words z) → IsNextFirst f s v (mem.cells.words m) i x → mem.cells.words z ≡ with_first (mem.cells.words m) i x → mem.says.does m (StoreFirst i x) z
        → IsTied f new.groups (group_held v (mem.cells.words m).firsts) → AreWaiting new.groups new.queue.items → Runs mem f s config first old u z new v'
    run_first i x st n e goes tied waits c steps d may =
        let now = runs c steps d may in
        let later = now.0 in
        let r = now.2 in
        let w : TableState = state_after c later in
        let n' = next_first_on c steps d may i x n in
        let st' = steps_first c steps d may (First i) i x st e in
        let under = r.making.come.under_way in
        let kind = first_kind c.first c.second v w.words i x under n' in
        let low = (next_first c.first c.second v w.words i x r.making.come.table under n').0 in
        let low_block : i < 2 ^ c.first = subst (λ y. i < y) r.making.come.table.words.firsts_len low in
        let sm = ((next_store c.first c.second v w.words r.making.come.table under).first_word i x n').1 in
        let none = none_filling c.first c.second v v' w.words i x st'.onward low under n' in (
          StoreFirst i x ∷ later,
          mem.follows m (StoreFirst i x) z c later goes now.1 (allows_first c steps d may i x n),
          record {
            widths = r.widths;
            making = making_first c later u (state_after c steps).words v r.making v' (First i) i x st' sm (taken_first c.first c.second v v' w.words i x (progress_after c later).taken st'.onward n' r.making.taken)
                (store_first i x) st'.passed;
            idle = record { next_step = due_last (first_entry w.words i) kind.old; awaited = r.idle.awaited };
            keeps = subst (GroupsMatchSteps c (StoreFirst i x ∷ later) new.groups new.queue.items new.passed) (sym none)
                (keeps_first c later new.groups new.queue.items new.passed v r.keeps i x kind c.first (tied_on c steps d may tied) low_block waits);
            sequence = r.sequence;
            history = r.history;
            unlinked = one_more c (first, steps) later (StoreFirst i x) r.unlinked (last_none (first_entry w.words i) kind.old) goes;
          },
        )

    pub run_second : (j x : ℕ) → Steps f s v (mem.cells.words m) (Second j) v' (mem.cells.words z) → IsNextSecond s v (mem.cells.words m) j x → mem.cells.words z ≡ with_second (mem.cells.words m) j x → mem.says.does m (StoreSecond j x) z
        → IsTied f new.groups (group_held v (mem.cells.words m).firsts) → Runs mem f s config first old u z new v'
    run_second j x st n e goes tied c steps d may =
        let now = runs c steps d may in
        let later = now.0 in
        let r = now.2 in
        let w : TableState = state_after c later in
        let n' = next_second_on c steps d may j x n in
        let st' = steps_second c steps d may (Second j) j x st e in
        let under = r.making.come.under_way in
        let sm = ((next_store c.first c.second v w.words r.making.come.table under).second_word j x n').1 in (
          StoreSecond j x ∷ later,
          mem.follows m (StoreSecond j x) z c later goes now.1 (allows_second c steps d may tied j x n),
          record {
            widths = r.widths;
            making = making_second c later u (state_after c steps).words v r.making v' (Second j) j x st' sm
                (taken_by_second c later new.groups new.queue.items new.passed u (state_after c steps).words v v' r.making r.keeps (tied_on c steps d may tied) j x st'.onward n')
                (store_second j x) st'.passed;
            idle = record { next_step = r.idle.next_step; awaited = r.idle.awaited };
            keeps = keeps_second c later new.groups new.queue.items new.passed v r.keeps j x v' st'.onward;
            sequence = r.sequence;
            history = r.history;
            unlinked = one_more c (first, steps) later (StoreSecond j x) r.unlinked tt goes;
          },
        )

    -- ---- a store that unlinks a group, whose token is bumped then

    module _ (b g x : ℕ) (st : Steps f s v (mem.cells.words m) (Unlinked b g) v' (mem.cells.words z)) (n : IsNextUnlink f s v (mem.cells.words m) b g x) (e : mem.cells.words z ≡ with_first (mem.cells.words m) b x) (goes : mem.says.does m (StoreFirst b x) z)
        (here : IsLinkedTo new.groups g b) (waits : AreWaiting new.groups new.queue.items) where
      pub unlinked_on : (c : InitialState) (steps : List WriterStep) (d : mem.says.did first c steps) (may : MayMake f s c steps u old)
          → mem.says.did z c (StoreFirst b x ∷ (runs c steps d may).0) × HasUnlinked c (StoreFirst b x ∷ (runs c steps d may).0) new g None
      unlinked_on c steps d may =
          let now = runs c steps d may in
          let r = now.2 in
          let kind = unlink_kind c.first c.second v (state_after c now.0).words b g x r.making.come.table r.making.come.under_way (next_unlink_on c steps d may b g x n) in (
            mem.follows m (StoreFirst b x) z c now.0 goes now.1 (allows_unlink c steps d may b g x n),
            has_unlinked c now.0 new v b g x r.keeps r.idle kind.0 kind.1 kind.2 here waits,
          )

      pub run_unlinked : (y : M) (last : GroupPool) → suc (linked_count old.groups - linked_count new.groups) ≡ linked_count old.groups - linked_count last.groups
          → ((c : InitialState) (steps : List WriterStep) (held : Option ℕ) → mem.says.did z c steps → HasUnlinked c steps new g held
          → (later : List WriterStep) × mem.says.did y c later × HasRetired c steps later × GroupsMatchSteps c later last.groups last.queue.items last.passed held
          × Retires mem.says.does c config (z, steps) (tokens_of new.queue.items) (y, later) (tokens_of last.queue.items)) → Runs mem f s config first old u y last v'
      run_unlinked y last one retires c steps d may =
          let now = runs c steps d may in
          let r = now.2 in
          let w : TableState = state_after c now.0 in
          let n' = next_unlink_on c steps d may b g x n in
          let under = r.making.come.under_way in
          let st' = steps_first c steps d may (Unlinked b g) b x st e in
          let sm = ((next_store c.first c.second v w.words r.making.come.table under).unlink b g x n').1 in
          let kind = unlink_kind c.first c.second v w.words b g x r.making.come.table under n' in
          let unlinked = unlinked_on c steps d may in
          let done = retires c (StoreFirst b x ∷ now.0) None unlinked.0 unlinked.1 in
          let q = done.2 in
          let fills = unlink_filling c.first c.second v v' w.words b g x (state_after c done.0).words.firsts st'.onward n' in
          let making = making_first c now.0 u (state_after c steps).words v r.making v' (Unlinked b g) b x st' sm
          (taken_unlink c.first c.second v v' w.words b g x (progress_after c now.0).taken st'.onward n' r.making.taken) (store_unlink b x g) st'.passed in
          let k = r.unlinked in (
            done.0,
            done.1,
            record {
              widths = r.widths;
              making = making_quiet c (StoreFirst b x ∷ now.0) done.0 u (state_after c steps).words v' q.quiet q.taken
                  (after_retire mem.says.does c config (z, StoreFirst b x ∷ now.0) (tokens_of new.queue.items) (y, done.0) (tokens_of last.queue.items) done.4) making;
              idle = q.idle;
              keeps = subst (GroupsMatchSteps c done.0 last.groups last.queue.items last.passed) (sym fills) done.3;
              sequence = q.quiet.sequence ∙ r.sequence;
              history = q.quiet.history ∙ r.history;
              unlinked = record {
                last = (y, done.0);
                stores = 0;
                unlinks = subst (λ j. Unlinks (by_writer mem.says.does c) config j (first, steps) (tokens_of old.queue.items) (y, done.0) (tokens_of last.queue.items)) one (
                  k.last,
                  tokens_of new.queue.items,
                  k.unlinks,
                  (
                    (state_after c done.4.0.1).token,
                    done.4.0,
                    done.4.1,
                    (k.stores, (m, now.0), (z, StoreFirst b x ∷ now.0), b, x, g, k.since, ap group_in kind.0, (goes, refl), done.4.2, refl),
                    done.4.3,
                    done.4.4,
                  ),
                );
                since = refl;
              };
            },
          )

    -- nothing is left to store
    pub run_ended : Steps f s v (mem.cells.words m) Done v' (mem.cells.words m) → IsTied f new.groups (group_held v (mem.cells.words m).firsts) → (c : InitialState) (steps : List WriterStep) → mem.says.did first c steps → MayMake f s c steps u old
        → (later : List WriterStep) × mem.says.did m c later × HasMade mem.says.does c config first steps old m later new
    run_ended st tied c steps d may =
        let now = runs c steps d may in
        let r = now.2 in
        let w : TableState = state_after c now.0 in
        let st' = fit (λ a b. Steps a b v w.words Done v' w.words) f s c may.widths (subst (λ W. Steps f s v W Done v' W) (seen c steps d may) st) in
        let come = run_goes_on c.first c.second u (state_after c steps).words Done v v' w.words w.words r.making.come st' in
        let over : IsOver c.first c.second v' = st'.stored.1 in
        let none = over_filling c.first c.second v' w.words (group_at (state_after c steps).words.firsts) come.under_way over come.groups in
        let none_yet = sym (filling_same v v' w.words.firsts st'.onward) ∙ none in
        let linked = has_linked c now.0 new.groups new.queue.items new.passed v (progress_after c now.0).taken r.making.taken r.making.come.under_way none_yet r.keeps (tied_on c steps d may tied) in (
          now.0,
          now.1,
          record {
            may_close = may_close c now.0 u (state_after c steps).words v r.making v' come r.idle over linked;
            idle = r.idle;
            once = r.making.once;
            keeps = subst (GroupsMatchSteps c now.0 new.groups new.queue.items new.passed) none_yet r.keeps;
            sequence = r.sequence;
            history = r.history;
            unlinked = r.unlinked;
          },
        )

    -- the mem.cells.words of the memory, as an update that begins has them
    pub begun_come : (c : InitialState) (steps : List WriterStep) → mem.says.did first c steps → MayMake f s c steps u old → HasCome f s u (mem.cells.words first) u (mem.cells.words first)
    begun_come c steps d may =
        let e = (mem.shows first c steps d).0 in
        subst (λ W. HasCome f s u W u W) (sym e) (subst (λ a. HasCome a s u (state_after c steps).words u (state_after c steps).words) may.widths.0
        (subst (λ b. HasCome c.first b u (state_after c steps).words u (state_after c steps).words) may.widths.1 may.making.come))
