-- A change of a memory's words that is under way: what is known of it from store to store, and at each group that it
-- unlinks.
use Rattle.std.proofs.Common.{arith, ◌≡◌, ℕ, suc, ◌+◌, ◌-◌, ◌^◌, ◌<◌, ◌≤◌, refl, sym, ap, subst, ◌∙◌, List, [], ◌∷◌, Some, None, length, slice_index}
use Rattle.std.specs.Prelude.{Option}
use Rattle.lpm_cells.specs.Words.{Words}
use Rattle.lpm_groups.specs.States.{IsLinkedTo, linked_count}
use Rattle.lpm_limits.specs.declared.config.Config.{Config}
use Rattle.lpm_rules.specs.RuleMap.{RuleMap}
use Rattle.lpm_update.specs.declared.Did.{Did}
use Rattle.lpm_update.specs.declared.Did.TheVariants.{First, Second, Unlinked, Done}
use Rattle.lpm_update.specs.declared.update.Plan.{Plan}
use Rattle.lpm_update.specs.BlockGroups.{group_at}
use Rattle.lpm_update.specs.Represents.{Represents, TurnsInto}
use Rattle.lpm_update.specs.Laws.{HasCome, Leads, RunsOn, AllowsAlong}
use Rattle.lpm_update.specs.Step.{Steps, AllowsNext}
use Rattle.lpm_update.specs.GroupStates.{IsTied, SameLinksBut}
use Rattle.lpm_update.specs.Update.{SameGroups, group_held}
use Rattle.lpm_update.proofs.Promises.{run_goes_on, run_ends, tied_same, tied_gone}
use Rattle.lpm_trace.specs.declared.step.WriterStep.{WriterStep}
use Rattle.lpm_trace.specs.declared.step.WriterStep.TheVariants.{StoreFirst, StoreSecond}
use Rattle.lpm_trace.specs.States.{InitialState, state_after}
use Rattle.lpm_trace.specs.Writer.{MayStep}
use Rattle.lpm_writer.specs.declared.pool.GroupPool.{GroupPool}
use Rattle.lpm_writer.specs.Limbo.{IsQueued, tokens_of}
use Rattle.lpm_writer.specs.GroupsMatch.{GroupsMatchSteps}
use Rattle.lpm_writer.proofs.GivenUp.{HasUnlinked, HasRetired, Retires}
use Rattle.lpm_writer.proofs.RunningUpdate.{MayMake, HasMade}
use Rattle.lpm_writer.proofs.UpdateRuns.{AsMemory, Runs, run_begins, begun_come, allows_first, allows_second, allows_unlink, run_first, run_second, unlinked_on, run_unlinked, run_ended}
use Rattle.lpm_writer.proofs.LimboItems.{some_linked, few_linked}

-- the change u of the first memory has come to v
pub record IsUnderWayAt {M : Type 0} (mem : AsMemory M) (f s : ℕ) (config : Config) (first : M) (old : GroupPool) (u : Plan) (m : M) (new : GroupPool) (v : Plan) : Type 0 where
  pub come : HasCome f s u (mem.cells.words first) v (mem.cells.words m)
  pub tied : IsTied f new.groups (group_held v (mem.cells.words m).firsts)
  pub queued : IsQueued new.groups new.queue
  pub states : length new.groups ≡ length old.groups
  pub fewer : linked_count new.groups ≤ linked_count old.groups
  pub stays : linked_count new.groups ≡ linked_count old.groups → new.groups ≡ old.groups
  pub token : mem.says.newest m + linked_count new.groups ≡ mem.says.newest first + linked_count old.groups
  pub runs : Runs mem f s config first old u m new v

module _ {M : Type 0} (mem : AsMemory M) (f s : ℕ) (config : Config) (first : M) (old : GroupPool) (u : Plan)
    (begun : (c : InitialState) × (steps : List WriterStep) × mem.says.did first c steps × MayMake f s c steps u old) where
  abbrev At : M → GroupPool → Plan → Type 0
  At m new v = IsUnderWayAt mem f s config first old u m new v

  pub at_first : IsTied f old.groups (group_held u (mem.cells.words first).firsts) → IsQueued old.groups old.queue → At first old u
  at_first tied queued =
      let runs = run_begins mem f s config first old u in
      record {
        come = begun_come mem f s config first old u first old u runs first u begun.0 begun.1 begun.2 begun.3;
        tied = tied;
        queued = queued;
        states = refl;
        fewer = omega arith;
        stays = λ _. refl;
        token = refl;
        runs = runs;
      }

  module _ (m : M) (new : GroupPool) (v : Plan) (k : At m new v) where
    allows : AllowsNext f s v (mem.cells.words m) (mem.cells.may_set_first m) (mem.cells.may_set_second m)
    allows =
        let now = k.runs begun.0 begun.1 begun.2 begun.3 in
        record {
          first_word = λ i x n. mem.may_first m i x (
            begun.0,
            now.0,
            now.1,
            allows_first mem f s config first old u m new v k.runs m v begun.0 begun.1 begun.2 begun.3 i x n,
          );
          second_word = λ j x n. mem.may_second m j x (
            begun.0,
            now.0,
            now.1,
            allows_second mem f s config first old u m new v k.runs m v begun.0 begun.1 begun.2 begun.3 k.tied j x n,
          );
          unlink = λ i h x n. mem.may_first m i x (
            begun.0,
            now.0,
            now.1,
            allows_unlink mem f s config first old u m new v k.runs m v begun.0 begun.1 begun.2 begun.3 i h x n,
          );
        }

    -- the same token after a step that bumps none
    same_token : (z : M) (later : List WriterStep) → mem.says.did z begun.0 later → (state_after begun.0 later).token ≡ (state_after begun.0 (k.runs begun.0 begun.1 begun.2 begun.3).0).token → mem.says.newest z ≡ mem.says.newest m
    same_token z later now same =
        let was = k.runs begun.0 begun.1 begun.2 begun.3 in
        (mem.shows z begun.0 later now).1 ∙ same ∙ sym (mem.shows m begun.0 was.0 was.1).1

    -- a store that unlinks none
    on_store : (did : Did) (step : WriterStep) (v' : Plan) (z : M) → Steps f s v (mem.cells.words m) did v' (mem.cells.words z) → SameGroups f (group_held v (mem.cells.words m).firsts) (group_held v' (mem.cells.words z).firsts)
        → let was = k.runs begun.0 begun.1 begun.2 begun.3 in
        mem.says.does m step z → MayStep begun.0 was.0 step → (state_after begun.0 (step ∷ was.0)).token ≡ (state_after begun.0 was.0).token → Runs mem f s config first old u z new v' → At z new v'
    on_store did step v' z st same goes may bumps runs =
        let was = k.runs begun.0 begun.1 begun.2 begun.3 in
        record {
          come = run_goes_on f s u (mem.cells.words first) did v v' (mem.cells.words m) (mem.cells.words z) k.come st;
          tied = tied_same f new.groups _ _ same k.tied;
          queued = k.queued;
          states = k.states;
          fewer = k.fewer;
          stays = k.stays;
          token = ap (λ n. n + linked_count new.groups) (same_token z (step ∷ was.0) (mem.follows m step z begun.0 was.0 goes was.1 may) bumps) ∙ k.token;
          runs = runs;
        }

    on_first : (i : ℕ) (v' : Plan) (z : M) → Steps f s v (mem.cells.words m) (First i) v' (mem.cells.words z) → mem.cells.sets_first m i (slice_index (mem.cells.words z).firsts i) z → At z new v'
    on_first i v' z st sets =
        let x = slice_index (mem.cells.words z).firsts i in
        let goes = mem.first_stored m i x z sets in
        let may = allows_first mem f s config first old u m new v k.runs z v' begun.0 begun.1 begun.2 begun.3 i x st.stored.0 in
        on_store (First i) (StoreFirst i x) v' z st st.held goes may refl (run_first mem f s config first old u m new v k.runs z v' i x st st.stored.0 st.stored.1 goes k.tied k.queued.waiting)

    on_second : (j : ℕ) (v' : Plan) (z : M) → Steps f s v (mem.cells.words m) (Second j) v' (mem.cells.words z) → mem.cells.sets_second m j (slice_index (mem.cells.words z).seconds j) z → At z new v'
    on_second j v' z st sets =
        let x = slice_index (mem.cells.words z).seconds j in
        let goes = mem.second_stored m j x z sets in
        let may = allows_second mem f s config first old u m new v k.runs z v' begun.0 begun.1 begun.2 begun.3 k.tied j x st.stored.0 in
        on_store (Second j) (StoreSecond j x) v' z st st.held goes may refl (run_second mem f s config first old u m new v k.runs z v' j x st st.stored.0 st.stored.1 goes k.tied)

    -- a store that unlinks a group
    module _ (i n : ℕ) (v' : Plan) (z : M) (st : Steps f s v (mem.cells.words m) (Unlinked i n) v' (mem.cells.words z)) (sets : mem.cells.sets_first m i (slice_index (mem.cells.words z).firsts i) z) where
      gone : IsLinkedTo new.groups n i
      gone = (tied_gone f new.groups _ _ i n k.tied st.held).0

      -- the steps that may have led to the memory
      after_store : mem.says.did z begun.0 (StoreFirst i (slice_index (mem.cells.words z).firsts i) ∷ (k.runs begun.0 begun.1 begun.2 begun.3).0)
          × HasUnlinked begun.0 (StoreFirst i (slice_index (mem.cells.words z).firsts i) ∷ (k.runs begun.0 begun.1 begun.2 begun.3).0) new n None
      after_store =
          let x = slice_index (mem.cells.words z).firsts i in
          unlinked_on mem f s config first old u m new v k.runs z v' i n x st st.stored.0 st.stored.1 (mem.first_stored m i x z sets) gone k.queued.waiting
          begun.0 begun.1 begun.2 begun.3

      stopped : ((block : ℕ) × IsLinkedTo new.groups n block) × (mem.says.newest first + length old.groups ≤ 2 ^ 62 → mem.says.newest z < 2 ^ 62)
          × ((c : InitialState) × (steps : List WriterStep) × (held : Option ℕ) × mem.says.did z c steps × HasUnlinked c steps new n held)
      stopped =
          let token : mem.says.newest z ≡ mem.says.newest m = same_token z _ after_store.0 refl in (
            (i, gone),
            (λ tokens. omega (arith, some_linked new.groups n i gone, k.token, token, few_linked old.groups, tokens)),
            (begun.0, StoreFirst i (slice_index (mem.cells.words z).firsts i) ∷ (k.runs begun.0 begun.1 begun.2 begun.3).0, None, after_store.0, after_store.1),
          )

      on_retired : (y : M) (last : GroupPool)
          → ((c : InitialState) (steps : List WriterStep) (held : Option ℕ) → mem.says.did z c steps → HasUnlinked c steps new n held
          → (later : List WriterStep) × mem.says.did y c later × HasRetired c steps later × GroupsMatchSteps c later last.groups last.queue.items last.passed held
          × Retires mem.says.does c config (z, steps) (tokens_of new.queue.items) (y, later) (tokens_of last.queue.items))
          → IsQueued last.groups last.queue → length last.groups ≡ length new.groups → linked_count last.groups + 1 ≡ linked_count new.groups → SameLinksBut n new.groups last.groups
          → ((b : ℕ) → IsLinkedTo last.groups n b → ⊥) → At y last v'
      on_retired y last retires queued states linked others none =
          let x = slice_index (mem.cells.words z).firsts i in
          let fewer = k.fewer in
          let known = k.token in
          let held = tied_gone f new.groups _ _ i n k.tied st.held in
          let one : suc (linked_count old.groups - linked_count new.groups) ≡ linked_count old.groups - linked_count last.groups = omega (arith, linked, fewer) in
          let was = k.runs begun.0 begun.1 begun.2 begun.3 in
          let done = retires begun.0 (StoreFirst i x ∷ was.0) None after_store.0 after_store.1 in
          let token : mem.says.newest y ≡ suc (mem.says.newest m) = (mem.shows y begun.0 done.0 done.1).1 ∙ done.2.token ∙ ap suc (sym (mem.shows m begun.0 was.0 was.1).1) in
          let same : mem.cells.words y ≡ mem.cells.words z = (mem.shows y begun.0 done.0 done.1).0 ∙ done.2.quiet.words ∙ sym (mem.shows z begun.0 _ after_store.0).0 in
          record {
            come = subst (HasCome f s u (mem.cells.words first) v') (sym same) (run_goes_on f s u (mem.cells.words first) (Unlinked i n) v v' (mem.cells.words m) (mem.cells.words z) k.come st);
            tied = subst (λ (W : Words). IsTied f last.groups (group_held v' W.firsts)) (sym same) (held.1 last.groups others none);
            queued = queued;
            states = states ∙ k.states;
            fewer = omega (arith, linked, fewer);
            stays = λ as_many. absurd (omega (arith, linked, fewer, as_many));
            token = omega (arith, linked, known, token);
            runs = run_unlinked mem f s config first old u m new v k.runs z v' i n x st st.stored.0 st.stored.1 (mem.first_stored m i x z sets) gone k.queued.waiting y last one
                retires;
          }

    -- nothing is left to store
    module _ (v' : Plan) (st : Steps f s v (mem.cells.words m) Done v' (mem.cells.words m)) where
      all_made : (c : InitialState) (steps : List WriterStep) → mem.says.did first c steps → MayMake f s c steps u old → (later : List WriterStep) × mem.says.did m c later × HasMade mem.says.does c config first steps old m later new
      all_made = run_ended mem f s config first old u m new v k.runs m v' st k.tied

      all_represents : (R R' : RuleMap) → Represents f s R (mem.cells.words first) → TurnsInto f s u R R' → Represents f s R' (mem.cells.words m) × IsTied f new.groups (group_at (mem.cells.words m).firsts)
      all_represents R R' represents turns =
          let come = run_goes_on f s u (mem.cells.words first) Done v v' (mem.cells.words m) (mem.cells.words m) k.come st in
          let end = run_ends f s R R' u (mem.cells.words first) v' (mem.cells.words m) represents turns come st.stored.1 in
          (end.0, tied_same f new.groups _ (group_at (mem.cells.words m).firsts) end.1 (tied_same f new.groups _ (group_held v' (mem.cells.words m).firsts) st.held k.tied))

  -- stores one after another, none of which unlinks a group
  on_leads : (new : GroupPool) (m : M) (v : Plan) → At m new v → (dids : List Did) (v' : Plan) (z : M) → Leads mem.cells.words mem.cells.sets_first mem.cells.sets_second f s v m dids v' z → At z new v'
  on_leads new m v k [] v' z h = subst (λ p. At z new p) (sym h.0) (subst (λ y. At y new v) (sym h.1) k)
  on_leads new m v k (First i ∷ before) v' z h = on_first h.1 new h.0 (on_leads new m v k before h.0 h.1 h.2) i v' z h.4 h.5
  on_leads new m v k (Second j ∷ before) v' z h = on_second h.1 new h.0 (on_leads new m v k before h.0 h.1 h.2) j v' z h.4 h.5
  on_leads new m v k (Unlinked b g ∷ before) v' z h = absurd h.3
  on_leads new m v k (Done ∷ before) v' z h = absurd h.3

  pub allows_along : (m : M) (new : GroupPool) (v : Plan) → At m new v → AllowsAlong mem.cells.words mem.cells.sets_first mem.cells.sets_second mem.cells.may_set_first mem.cells.may_set_second f s v m
  allows_along m new v k dids v' z h = allows z new v' (on_leads new m v k dids v' z h)

  -- a run of stores up to the one that unlinks a group
  module _ (m : M) (new : GroupPool) (v : Plan) (k : At m new v) (n : ℕ) (v' : Plan) (z : M) (h : RunsOn mem.cells.words mem.cells.sets_first mem.cells.sets_second f s v m (Some n) v' z) where
    now : At h.2 new h.1
    now = on_leads new m v k h.0 h.1 h.2 h.4

    -- the block that had the group, the token, and the steps so far
    pub run_stopped : ((block : ℕ) × IsLinkedTo new.groups n block) × (mem.says.newest first + length old.groups ≤ 2 ^ 62 → mem.says.newest z < 2 ^ 62)
        × ((c : InitialState) × (steps : List WriterStep) × (held : Option ℕ) × mem.says.did z c steps × HasUnlinked c steps new n held)
    run_stopped = stopped h.2 new h.1 now h.3 n v' z h.5 h.6

    pub run_retired : (y : M) (last : GroupPool)
        → ((c : InitialState) (steps : List WriterStep) (held : Option ℕ) → mem.says.did z c steps → HasUnlinked c steps new n held
        → (later : List WriterStep) × mem.says.did y c later × HasRetired c steps later × GroupsMatchSteps c later last.groups last.queue.items last.passed held
        × Retires mem.says.does c config (z, steps) (tokens_of new.queue.items) (y, later) (tokens_of last.queue.items))
        → IsQueued last.groups last.queue → length last.groups ≡ length new.groups → linked_count last.groups + 1 ≡ linked_count new.groups → SameLinksBut n new.groups last.groups
        → ((b : ℕ) → IsLinkedTo last.groups n b → ⊥) → At y last v'
    run_retired = on_retired h.2 new h.1 now h.3 n v' z h.5 h.6

  -- a run of all stores that are left
  module _ (m : M) (new : GroupPool) (v : Plan) (k : At m new v) (v' : Plan) (z : M) (h : RunsOn mem.cells.words mem.cells.sets_first mem.cells.sets_second f s v m None v' z) where
    end : At z new h.1
    end = on_leads new m v k h.0 h.1 z h.2

    pub run_over : ((c : InitialState) (steps : List WriterStep) → mem.says.did first c steps → MayMake f s c steps u old → (later : List WriterStep) × mem.says.did z c later × HasMade mem.says.does c config first steps old z later new)
        × ((R R' : RuleMap) → Represents f s R (mem.cells.words first) → TurnsInto f s u R R' → Represents f s R' (mem.cells.words z) × IsTied f new.groups (group_at (mem.cells.words z).firsts))
        × (length (mem.cells.words z).seconds ≡ length (mem.cells.words first).seconds)
    run_over = (all_made z new h.1 end v' h.3, all_represents z new h.1 end v' h.3, end.come.sizes)
