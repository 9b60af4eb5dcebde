-- A whole run: from the initial state to what it shows.
use Rattle.std.proofs.Common.{◌≡◌, ℕ, refl, ap, sym, subst, ◌∙◌, List, [], ◌++◌, length, reverse, arith, ◌<◌, ◌≤◌, ◌↔◌, inl, inr, true, false, Bool, ◌∷◌, Option, Some, None, MatchOption, suc, cond, eqb, eq-eqb, map, ◌*◌, ◌^◌}
use Rattle.std.specs.FinMap.{empty}
use Rattle.lpm_rules.specs.RuleMap.{RuleMap, network_cmp}
use Rattle.lpm_limits.specs.declared.config.Config.{Config}
use Rattle.lpm_rules.specs.declared.Change.{Change}
use Rattle.lpm_trace.specs.declared.shown_step.Actor.{Actor}
use Rattle.lpm_trace.specs.declared.deed.Deed.{Deed}
use Rattle.lpm_trace.specs.declared.step.WriterStep.{WriterStep}
use Rattle.lpm_trace.specs.Trace.{writes, worker_of, IsTrace, worker_by_step, FinishedLookup}
use Rattle.interleave.specs.World.{HasEnded as ActorHasEnded, IsScheduled, writer_items, IsInitial, IsPlayedOut, WorldDid, Reaches, scripts_and_schedule, WorldDoes}
use Rattle.interleave.specs.View.{script_at, WorldView}
use Rattle.lpm_writer.specs.Commands.{Rests}
use Rattle.lpm_writer.specs.Rest.{blank_initial_state, state_of}
use Rattle.interleave.specs.declared.trace.Trace.{Trace}
use Rattle.interleave.specs.Runs.{StateBySteps, HasTokensLeft, Waits, Answers, AgreesWithSteps, IsPerformed, IsRun, initial_state_by_steps, HaveComeOut, InitialStatesAreSettled, RunsAreLawful}
use Rattle.std.proofs.lemmas.Bool.{cases_lt}
use Rattle.lpm_rules.specs.declared.Change.TheVariants.{Synchronize}
use Rattle.lpm_trace.specs.States.{InitialState, state_after, TableState, Unused, Retired, IsSettled, IsAnswer, addresses, answer, updates_done_in, updates_begun_in, state_at}
use Rattle.lpm_writer.specs.declared.control.ControlState.{ControlState}
use Rattle.lpm_writer.proofs.Reclaims.{is_limbo}
use Rattle.interleave.specs.declared.reply.Reply.{Reply}
use Rattle.interleave.proofs.WriterScript.{HasPerformed, performed_more, performed_all, performed_before, performed_within, waits_longer}
use Rattle.std.proofs.lemmas.List.{append-nil, map-append, reverse-append}
use Rattle.std.proofs.lemmas.List.Elements.{filter-append}
use Rattle.lpm_trace.specs.declared.step.TraceStep.{TraceStep}
use Rattle.lpm_trace.specs.declared.step.TraceStep.TheVariants.{Writer, Worker as ByWorker}
use Rattle.interleave.specs.declared.finished_lookups.Seen.{Seen}
use Rattle.interleave.specs.Record.{finished_by, seen_by, all_seen, seen_of}
use Rattle.interleave.proofs.Lookups.{finished_then}
use Rattle.lpm_trace.specs.Laws.{at_moment, by_steps, rules_of_version, Unlinks, Fills}
use Rattle.lpm_trace.proofs.Grace.{older_trace}
use Rattle.lpm_trace.proofs.Versions.{by_number, Shows, rest_shown}
use Rattle.lpm_trace.proofs.Traces.{history_at, shows_at}
use Rattle.lpm_trace.proofs.Moments.{count, writes_oldest}
use Rattle.lpm_trace.proofs.Promises.{lookups_are_legal, versions_never_fall, reuse_is_lawful}
use Rattle.qsbr.specs.Intervals.{Interval, IsReaderInterval, Holds}
use Rattle.lpm_writer.proofs.Initial.{settled}
use Rattle.interleave.specs.Laws.{TracesAreLawful}
use Rattle.lpm_update.proofs.Promises.{blank}

pub opens : (f s : ℕ) (config : Config) (workers : ℕ) → workers ≡ config.workers → IsInitial f s config.groups workers config.first_token (blank_initial_state f s config)
opens f s config workers as_many = record {
  first_bits = refl;
  second_bits = refl;
  worker_count = sym as_many;
  first_token = refl;
  firsts = refl;
  seconds = refl;
}

pub nothing_yet : (rules : RuleMap) (limbo : List ℕ) (begun : ℕ) → rules ≡ empty → limbo ≡ [] → begun ≡ 0
    → (let k : StateBySteps = record { rules = rules; readers = []; limbo = limbo; updates_begun = begun } in k) ≡ initial_state_by_steps
nothing_yet rules limbo begun r l b =
    ap {B = StateBySteps} (λ x. record { rules = x; readers = []; limbo = limbo; updates_begun = begun }) r
    ∙ ap {B = StateBySteps} (λ x. record { rules = empty {R = network_cmp}; readers = []; limbo = x; updates_begun = begun }) l
    ∙ ap {B = StateBySteps} (λ x. record { rules = empty {R = network_cmp}; readers = []; limbo = []; updates_begun = x }) b

pub run_ends : (f s : ℕ) (config : Config) (script : List (Change f s)) (scripts : List (List Deed)) → length scripts ≡ config.workers → (schedule : List Actor)
    (steps : List WriterStep) (shown : Trace)
    → IsPerformed (blank_initial_state f s config) f s config (writer_items schedule) initial_state_by_steps script shown.replies.items steps
    → IsPlayedOut (blank_initial_state f s config) scripts schedule steps shown.steps.items shown.lookups.items
    → IsRun f s config script (script_at scripts) schedule shown
run_ends f s config script scripts as_many schedule steps shown performed played =
    let c = blank_initial_state f s config in
    record {
      steps = played.trace;
      beyond = played.beyond;
      trace = record {
        may_come = played.may_come;
        scripted = played.scripted;
        performed = subst (IsPerformed c f s config (writer_items schedule) initial_state_by_steps script shown.replies.items) played.split performed;
      };
      cut = played.at_end;
      scheduled = subst (λ n. IsScheduled (ActorHasEnded n (script_at scripts) (λ earlier. writes earlier ≡ played.beyond ++ writes played.trace)) (reverse schedule) played.trace) as_many
          (subst (λ xs. IsScheduled (ActorHasEnded (length scripts) (script_at scripts) (λ earlier. writes earlier ≡ xs)) (reverse schedule) played.trace) played.split played.made);
      shows_steps = played.shown;
      shows_lookups = played.finished;
    }

-- The writer's script over the memory of the world: what was answered so far, and how the script ends.

items_same : (v z : WorldView) → scripts_and_schedule z ≡ scripts_and_schedule v → writer_items z.schedule ≡ writer_items v.schedule
items_same v z e = ap (λ x. writer_items x.1) e

not_true : false ≡ true → ⊥
not_true e = cc

module _ (f s : ℕ) where
  abbrev pub kept_in : ControlState f s → List WriterStep → StateBySteps
  kept_in l steps = state_of l.rules.rules steps l.pool l.versions

  -- what a control state that rests keeps agrees with the steps that it has made
  pub agrees : (c : InitialState) (steps : List WriterStep) (l : ControlState f s) → Rests c steps l → AgreesWithSteps f s c (kept_in l steps)
  agrees c steps l rests = record {
    begun = rests.versions;
    rules = rests.version;
    represents = rests.represents;
    limbo = is_limbo c (state_after c steps) l.pool.groups l.pool.queue.items rests.keeps.kept;
    once = rests.between.once;
  }

  -- from m0 and l0 these changes were answered so, which led to m and l
  abbrev pub HasAnswered : WorldView → ControlState f s → List (Change f s) → List Reply → WorldView → ControlState f s → Type 0
  HasAnswered m0 l0 done replies m l = (c : InitialState) → WorldDid f s m0 c [] → Rests c [] l0
      → (steps : List WriterStep) × WorldDid f s m c steps × Rests c steps l
      × HasPerformed c f s l0.config (writer_items m0.schedule) (kept_in l0 []) done replies (kept_in l steps)

  -- from m0 and l0 the script was performed so, which led to m
  abbrev pub HasEnded : WorldView → ControlState f s → List (Change f s) → List Reply → WorldView → Type 0
  HasEnded m0 l0 changes replies m = (c : InitialState) → WorldDid f s m0 c [] → Rests c [] l0
      → (steps : List WriterStep) × WorldDid f s m c steps
      × IsPerformed c f s l0.config (writer_items m0.schedule) (kept_in l0 []) changes replies steps

  -- a change was answered so, or waits
  abbrev pub HasCome : WorldView → ControlState f s → Change f s → ℕ → Option Reply → WorldView → ControlState f s → Type 0
  HasCome m l change tries came m' l' = (c : InitialState) (steps : List WriterStep) → WorldDid f s m c steps → Rests c steps l
      → MatchOption came ((change ≡ Synchronize) × HasTokensLeft c l.config (kept_in l steps)
      × ((later : List WriterStep) × WorldDid f s m' c later × Waits c tries steps later))
      (λ reply. (later : List WriterStep) × WorldDid f s m' c later × Rests c later l'
      × Answers c f s l.config (kept_in l steps) change reply (kept_in l' later))

  -- the writer has an item left for its next step, or hasn't
  abbrev pub IsLeft : WorldView → Bool → Type 0
  IsLeft m left = (c : InitialState) (steps : List WriterStep) → WorldDid f s m c steps → (left ≡ true ↔ (length steps < writer_items m.schedule))

  -- the schedule has ended before the writer's last step, or hasn't
  abbrev pub IsLate : WorldView → Bool → Type 0
  IsLate m late = (c : InitialState) (steps : List WriterStep) → WorldDid f s m c steps → (late ≡ true ↔ (writer_items m.schedule < length steps))

  -- what follows from what a change came to: it waits, the schedule has ended before the writer's last step, or it hasn't
  pub record Comes (m0 : WorldView) (l0 : ControlState f s) (done left : List (Change f s)) (replies : List Reply) (y : WorldView) (l : ControlState f s)
      (change : Change f s) (tries : ℕ) (m' : WorldView) (l' : ControlState f s) : Type 0 where
    pub waiting : HasCome y l change tries None m' l' → HasEnded m0 l0 (done ++ change ∷ left) replies m'
    pub late : (reply : Reply) → HasCome y l change tries (Some reply) m' l' → IsLate m' true → HasEnded m0 l0 (done ++ change ∷ left) replies m'
    pub in_time : (reply : Reply) → HasCome y l change tries (Some reply) m' l' → IsLate m' false
        → HasAnswered m0 l0 (done ++ change ∷ []) (replies ++ reply ∷ []) m' l'

  module _ (m0 : WorldView) (l0 : ControlState f s) (done : List (Change f s)) (replies : List Reply) (m y : WorldView) (l : ControlState f s) (answered : HasAnswered m0 l0 done replies m l)
      (same : scripts_and_schedule m ≡ scripts_and_schedule m0) (reaches : Reaches f s m y) where
    abbrev n : ℕ
    n = writer_items m0.schedule

    pub ends_all : HasEnded m0 l0 done replies m
    ends_all c did rests =
        let h = answered c did rests in
        (h.0, h.1, performed_all c f s l0.config n (kept_in l0 []) done replies (kept_in l h.0) h.3)

    pub ends_before : (change : Change f s) (left : List (Change f s)) → IsLeft m false → HasEnded m0 l0 (done ++ change ∷ left) replies y
    ends_before change left none c did rests =
        let h = answered c did rests in (
          h.0,
          reaches c h.0 h.1,
          performed_before c f s l0.config n (kept_in l0 []) done left replies (kept_in l h.0) change h.3 (elim (cases_lt (length h.0) n) [
            | inl low ↦ absurd (not_true ((none c h.0 h.1).1 (omega (arith, low, items_same m0 m same))))
            | inr high ↦ omega (arith, high)
          ]),
        )

    module _ (change : Change f s) (left : List (Change f s)) (tries : ℕ) (m' : WorldView) (l' : ControlState f s) (config : l.config ≡ l0.config) (is_left : IsLeft m true) (still : scripts_and_schedule m' ≡ scripts_and_schedule m0) where
      low : (c : InitialState) (steps : List WriterStep) → WorldDid f s m c steps → length steps < n
      low c steps did = let some = (is_left c steps did).0 refl in omega (arith, some, items_same m0 m same)

      pub comes : n ≤ tries → Comes m0 l0 done left replies y l change tries m' l'
      comes many = record {
        waiting = λ come c did rests.
            let h = answered c did rests in
            let now = come c h.0 (reaches c h.0 h.1) h.2 in
            let long = waits_longer c tries h.0 now.2.0 now.2.2 in (
              now.2.0,
              now.2.1,
              performed_within c f s l0.config n (kept_in l0 []) done left replies (kept_in l h.0) change now.2.0 h.3 (low c h.0 h.1) (omega (arith, long, many))
                  (inr (now.0, subst (λ x. HasTokensLeft c x (kept_in l h.0)) config now.1, (tries, now.2.2))),
            );
        late = λ reply come late c did rests.
            let h = answered c did rests in
            let now = come c h.0 (reaches c h.0 h.1) h.2 in
            let over : n < length now.0 = let some = (late c now.0 now.1).0 refl in omega (arith, some, items_same m0 m' still) in (
              now.0,
              now.1,
              performed_within c f s l0.config n (kept_in l0 []) done left replies (kept_in l h.0) change now.0 h.3 (low c h.0 h.1) over
                  (inl (reply, kept_in l' now.0, (subst (λ x. Answers c f s x (kept_in l h.0) change reply (kept_in l' now.0)) config now.3, agrees c now.0 l' now.2), refl)),
            );
        in_time = λ reply come in_time c did rests.
            let h = answered c did rests in
            let now = come c h.0 (reaches c h.0 h.1) h.2 in
            let high : length now.0 ≤ n = elim (cases_lt n (length now.0)) [
              | inl over ↦ absurd (not_true ((in_time c now.0 now.1).1 (omega (arith, over, items_same m0 m' still))))
              | inr within ↦ omega (arith, within)
            ] in (
              now.0,
              now.1,
              now.2,
              performed_more c f s l0.config n (kept_in l0 []) done replies (kept_in l h.0) change reply (kept_in l' now.0) h.3 (low c h.0 h.1) high
                  (subst (λ x. Answers c f s x (kept_in l h.0) change reply (kept_in l' now.0)) config now.3, agrees c now.0 l' now.2),
            );
      }

-- What a run shows of a worker's lookups: those that it has finished, and no others.

mine : (k : ℕ) (xs : List FinishedLookup) → seen_of k (map (seen_by k) xs) ≡ map (seen_by k) xs
mine k [] = refl
mine k (x ∷ xs) = rw (eq-eqb k k refl) (ap (λ ys. seen_by k x ∷ ys) (mine k xs))

others : (k j : ℕ) → eqb k j ≡ false → (xs : List FinishedLookup) → seen_of k (map (seen_by j) xs) ≡ []
others k j not [] = refl
others k j not (x ∷ xs) = rw not (others k j not xs)

map_reverse : (j : ℕ) (xs : List FinishedLookup) → reverse (map (seen_by j) xs) ≡ map (seen_by j) (reverse xs)
map_reverse j [] = refl
map_reverse j (x ∷ xs) =
    reverse-append (seen_by j x ∷ []) (map (seen_by j) xs)
    ∙ ap (λ ys. ys ++ seen_by j x ∷ []) (map_reverse j xs)
    ∙ sym (ap (map (seen_by j)) (reverse-append (x ∷ []) xs) ∙ map-append (seen_by j) (reverse xs) (x ∷ []))

pub seen_finished : (k : ℕ) (steps : List TraceStep) → seen_of k (all_seen steps) ≡ reverse (map (seen_by k) (worker_of k steps).finished)
seen_finished k [] = refl
seen_finished k (Writer s ∷ steps) = ap (seen_of k) (append-nil (all_seen steps)) ∙ seen_finished k steps
seen_finished k (ByWorker j s ∷ steps) =
    let now = suc (length steps) in
    let r = worker_of k steps in
    let shown = all_seen steps in
    let was = reverse (map (seen_by k) r.finished) in
    let by = λ (i : ℕ). reverse (map (seen_by i) (finished_by (worker_of i steps) s)) in
    let split : (i : ℕ) → seen_of k (shown ++ by i) ≡ was ++ seen_of k (by i) =
    λ i. filter-append (λ (x : Seen). eqb k x.worker) shown (by i) ∙ ap (λ xs. xs ++ seen_of k (by i)) (seen_finished k steps) in
    by_number (λ b. seen_of k (shown ++ by j) ≡ reverse (map (seen_by k) (cond b (worker_by_step now r s) r).finished)) k j
    (λ h.
    let own = finished_by r s in
    let same : seen_of k (by k) ≡ by k = ap (seen_of k) (map_reverse k own) ∙ mine k (reverse own) ∙ sym (map_reverse k own) in
    let all : reverse (map (seen_by k) (worker_by_step now r s).finished) ≡ was ++ by k =
    ap (λ xs. reverse (map (seen_by k) xs)) (finished_then now r s) ∙ ap reverse (map-append (seen_by k) own r.finished) ∙ reverse-append (map (seen_by k) own) (map (seen_by k) r.finished) in
    subst (λ i. seen_of k (shown ++ by i) ≡ reverse (map (seen_by k) (worker_by_step now r s).finished)) h.1
    (split k ∙ ap (λ xs. was ++ xs) same ∙ sym all))
    (λ h.
    let ended = finished_by (worker_of j steps) s in
    let none : seen_of k (by j) ≡ [] = ap (seen_of k) (map_reverse j ended) ∙ others k j h.0 (reverse ended) in
    split j ∙ ap (λ xs. was ++ xs) none ∙ append-nil was)

-- The law of every trace, and what it says of a run.

rests : (c : InitialState) (steps : List TraceStep) → IsSettled c → IsTrace c steps → (t : ℕ) → updates_done_in (at_moment c steps t) ≡ updates_begun_in (at_moment c steps t)
    → (a : ℕ) → a < addresses c → IsAnswer c (rules_of_version c steps (updates_done_in (at_moment c steps t))) a (answer c (at_moment c steps t).words a)
rests c steps start trace t still a low =
    let is : state_at c (writes steps) (count steps t) ≡ at_moment c steps t = ap (state_after c) (writes_oldest steps t) in
    let now = rest_shown c (at_moment c steps t) (subst (Shows c) is (shows_at c start steps trace (count steps t))) still a low in
    let within : updates_done_in (at_moment c steps t) ≤ updates_begun_in (state_at c (writes steps) (count steps t)) = subst (λ w. updates_done_in (at_moment c steps t) ≤ updates_begun_in w) (sym is) (omega (arith, still)) in
    let old = history_at c (writes steps) (count steps t) (updates_done_in (at_moment c steps t)) within in
    subst (λ R. IsAnswer c R a (answer c (at_moment c steps t).words a)) (sym (old ∙ ap (λ (w : TableState). w.history (updates_done_in (at_moment c steps t))) is)) now

reuses : (c : InitialState) (steps : List TraceStep) → IsSettled c → IsTrace c steps
    → (newer between older : List TraceStep) (unlinks fills : WriterStep) (group : ℕ) → steps ≡ newer ++ Writer fills ∷ (between ++ Writer unlinks ∷ older)
    → Unlinks c older unlinks group → Fills c fills group → (i : Interval) → IsReaderInterval by_steps steps i
    → Holds i (length older) → ¬ Holds i (length (between ++ Writer unlinks ∷ older))
reuses c steps start trace newer between older unlinks fills group is unlinked filled i interval holds =
    reuse_is_lawful c newer between older unlinks fills group start (subst (IsTrace c) is trace) unlinked filled i (subst (λ x. IsReaderInterval by_steps x i) is interval) holds

pub traces_are_lawful : TracesAreLawful
traces_are_lawful c steps start trace = record {
  rest = rests c steps start trace;
  legal = λ worker. lookups_are_legal c steps worker start trace;
  reuse = reuses c steps start trace;
  versions = λ a t u later. versions_never_fall c steps a t u later;
}

initial_agrees : (f g : ℕ) (config : Config) → AgreesWithSteps f g (blank_initial_state f g config) initial_state_by_steps
initial_agrees f g config = record {
  begun = refl;
  rules = refl;
  represents = (blank f g (config.groups * 2 ^ g) config.groups).0;
  limbo = record {
    items = [];
    tokens = refl;
    rising = tt;
    retired = tt;
    linked = λ group block linked. tt;
    all = λ some group token waits. absurd (not_retired token waits);
  };
  once = tt;
}
  where
    not_retired : (token : ℕ) → Unused ≡ Retired token → ⊥
    not_retired token e = cc

pub initial_states_are_settled : InitialStatesAreSettled
initial_states_are_settled f g config limits = (settled f g config limits, initial_agrees f g config)

-- changes that came out keep that agreement
last_agrees : (c : InitialState) (f g : ℕ) (config : Config) (n : ℕ) (initial : StateBySteps) (log : List (Change f g × Reply)) (last : StateBySteps)
    → AgreesWithSteps f g c initial → HaveComeOut c f g config n initial log last → AgreesWithSteps f g c last
last_agrees c f g config n initial [] last rest h = subst (AgreesWithSteps f g c) (sym h) rest
last_agrees c f g config n initial (entry ∷ log) last rest h = h.4.1

pub runs_are_lawful : RunsAreLawful
runs_are_lawful f g config script scripts schedule shown limits run =
    let c = blank_initial_state f g config in (
      traces_are_lawful c run.steps (settled f g config limits) (older_trace c (map Writer run.beyond) run.steps run.trace.may_come),
      λ worker. ap (seen_of worker) run.shows_lookups ∙ seen_finished worker run.steps,
      last_agrees c f g config (writer_items schedule) initial_state_by_steps run.trace.performed.log run.trace.performed.last (initial_agrees f g config) run.trace.performed.answered,
    )

-- What no step of the writer changes: the scripts and the schedule.

abbrev pub does_in : ℕ → ℕ → WorldView → WriterStep → WorldView → Type 0
does_in first second m s z = WorldDoes first second s m z

abbrev pub ScriptsAndSchedule : Type 0
ScriptsAndSchedule = List (List Deed) × List Actor

pub stays : (first second : ℕ) (m : WorldView) (s : WriterStep) (z : WorldView) → does_in first second m s z → scripts_and_schedule z ≡ scripts_and_schedule m
stays first second m s z does = does.0
