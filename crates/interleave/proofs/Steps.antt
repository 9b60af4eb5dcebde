-- One more step: where a worker stands then.
use Rattle.std.proofs.Common.{◌≡◌, ℕ, ◌+◌, ◌*◌, ◌^◌, All, List, [], length, replicate, false, refl, sym, ap, ◌∙◌, ◌<◌, Bool, true, ◌∷◌, map, subst, arith, ◌≤◌, ◌⊎◌, inl, inr, ◌++◌, reverse, get_or, vec_len, vec_capacity}
use Rattle.std.proofs.lemmas.List.Elements.{All-get_or, All-nil, All-cons}
use Rattle.lpm_cells.specs.Words.{Words, IsWords, word_of}
use Rattle.lpm_cells.specs.declared.entry.Entry.TheVariants.{Miss}
use Rattle.lpm_trace.specs.declared.shown_step.Actor.{Actor}
use Rattle.lpm_trace.specs.declared.deed.Deed.{Deed}
use Rattle.lpm_trace.specs.States.{InitialState, TableState, addresses, done_at}
use Rattle.interleave.specs.declared.worker.Worker.{Worker as Machine}
use Rattle.interleave.specs.Scripts.{IsSound, IsSoundFrom, IsCut, GoesOn, BeginsWith}
use Rattle.interleave.specs.View.{WorldView, script_at}
use Rattle.interleave.specs.World.{WorldDid, AreAt, AreNew, IsInitial}
use Rattle.lpm_trace.specs.declared.shown_step.Step.{Step}
use Rattle.lpm_trace.specs.Trace.{Worker, Phase, Offline, Online, IsBetweenDeeds, Unread, worker_by_step, MayRead}
use Rattle.interleave.specs.Record.{step_of_worker, shown_by, finished_by}
use Rattle.interleave.specs.Machine.{Shows, BeginsDeed, is_online, phase_of, probes_of, ContinuesDeed, IsAt, IsOf, IsInRange, IsNoted, Advances}
use Rattle.std.proofs.lemmas.List.{append-nil, append_assoc, get_or_at, length-append, length-reverse, reverse-append}
use Rattle.lpm_trace.specs.declared.step.WorkerStep.{WorkerStep}
use Rattle.interleave.specs.declared.finished_lookups.Seen.{Seen as Noted}
use Rattle.interleave.proofs.Ranges.{kept}
use Rattle.lpm_trace.specs.declared.deed.Deed.TheVariants as deed
use Rattle.lpm_trace.specs.declared.shown_step.Kind.TheVariants as kind
use Rattle.lpm_trace.specs.declared.step.WorkerStep.TheVariants as step
use Rattle.interleave.specs.declared.probe.Probe.TheVariants as probe
use Rattle.interleave.specs.declared.worker.Phase.TheVariants as phase

-- What a new memory has done: nothing.

-- a memory before its first step
abbrev pub unused : Words → ℕ → List Machine → List (List Deed) → List Actor → WorldView
unused words token machines scripts schedule = record {
  words = words;
  sequence = 0;
  token = token;
  machines = machines;
  scripts = scripts;
  schedule = schedule;
  next = 0;
  steps = [];
  seen = [];
  stopped = false;
}

pub begins : (first second groups token : ℕ) (words : Words) (machines : List Machine) (scripts : List (List Deed)) (schedule : List Actor) (c : InitialState)
    → IsInitial first second groups (length scripts) token c
    → words.firsts ≡ replicate (2 ^ first) (word_of Miss) → words.seconds ≡ replicate (groups * 2 ^ second) (word_of Miss)
    → AreNew (length scripts) machines → All (IsSound (2 ^ (first + second))) scripts
    → WorldDid first second (unused words token machines scripts schedule) c []
begins first second groups token words machines scripts schedule c initial firsts seconds new sound = (
  [],
  [],
  record {
    first_bits = initial.first_bits;
    second_bits = initial.second_bits;
    workers = initial.worker_count;
    may_come = tt;
    words_are = same;
    token_is = sym initial.first_token;
    sequence_is = refl;
    made = refl;
    shown = refl;
    finished = refl;
    at = at;
    at_end = λ some. absurd (some refl);
    late = λ some. absurd (some refl);
    in_time = λ none. refl;
  },
  refl,
)
  where
    same : words ≡ c.words
    same =
        ap (λ xs. record { firsts = xs; seconds = words.seconds }) (firsts ∙ sym initial.firsts)
        ∙ ap (λ xs. record { firsts = c.words.firsts; seconds = xs }) (seconds ∙ sym initial.seconds)

    at : AreAt first second (length c.words.seconds) machines scripts []
    at k inside =
        let here = new k inside in
        (here.0, here.1, here.2 first second (length c.words.seconds) (script_at scripts k) (All-get_or (IsSound (2 ^ (first + second))) scripts k [] inside sound))

-- The first step of each deed.

offline_is : (p : Phase) → is_online p ≡ false → p ≡ Offline
offline_is Offline e = refl
offline_is p e = absurd cc

online_is : (p : Phase) → IsBetweenDeeds p → is_online p ≡ true → p ≡ Online
online_is Offline b e = absurd cc
online_is Online b e = refl
online_is p b e = absurd b

probes_unread : (addrs : List ℕ) → map Unread addrs ≡ probes_of (map probe.Unread addrs)
probes_unread [] = refl
probes_unread (a ∷ addrs) = ap (λ ps. Unread a ∷ ps) (probes_unread addrs)

-- a worker that stands between two deeds makes the first step of the deed
abbrev pub IsBegun : InitialState → TableState → ℕ → ℕ → Worker → List Deed → Machine → Machine → Step → Deed → Type 0
IsBegun c w k now r left m new shown deed = Shows m r → IsBetweenDeeds r.phase
    → IsSoundFrom (addresses c) (is_online r.phase) (deed ∷ left)
    → BeginsDeed c w k now r deed left new shown

module _ (c : InitialState) (w : TableState) (k now : ℕ) (r : Worker) (left : List Deed) (m : Machine) where
  begun_by : (s : WorkerStep) (deed : Deed) (new : Machine) (shown : Step) → BeginsWith deed s → MayRead c w r s → Shows new (worker_by_step now r s) → shown ≡ shown_by c k r s
      → IsSoundFrom (addresses c) (is_online (worker_by_step now r s).phase) left → finished_by r s ≡ [] → BeginsDeed c w k now r deed left new shown
  begun_by s deed new shown begins may shows told sound none = record {
    made = s;
    begins = begins;
    makes = record { may = may; shows = shows; shown = told };
    sound = sound;
    unfinished = none;
  }

  pub online_begun : (token : ℕ) (shown : Step) → w.token ≡ token → shown ≡ step_of_worker k kind.LoadToken 0 token
      → IsBegun c w k now r left m (record m { phase = phase.ComingOnline token }) shown deed.Online
  online_begun token shown same is shows between sound =
      begun_by (step.LoadOnline token) deed.Online _ shown tt (offline_is r.phase sound.0, sym same)
      (record { counter = shows.counter; phase = refl; lo = shows.lo; probes = shows.probes }) is sound.1 refl

  pub offline_begun : (shown : Step) → shown ≡ step_of_worker k kind.StoreCounter k 0
      → IsBegun c w k now r left m (record m { counter = 0; phase = phase.Offline }) shown deed.Offline
  offline_begun shown is shows between sound =
      begun_by step.StoreOffline deed.Offline _ shown tt (online_is r.phase between sound.0)
      (record { counter = refl; phase = refl; lo = shows.lo; probes = shows.probes }) is sound.1 refl

  pub quiescent_begun : (token : ℕ) (shown : Step) → w.token ≡ token → shown ≡ step_of_worker k kind.LoadToken 0 token
      → IsBegun c w k now r left m (record m { phase = phase.ReportingQuiescent token }) shown deed.Quiescent
  quiescent_begun token shown same is shows between sound =
      begun_by (step.LoadQuiescent token) deed.Quiescent _ shown tt (online_is r.phase between sound.0, sym same)
      (record { counter = shows.counter; phase = refl; lo = shows.lo; probes = shows.probes }) is
      (subst (λ (b : Bool). IsSoundFrom (addresses c) b left) sound.0 sound.1) refl

  pub meet_begun : (sequence : ℕ) (shown : Step) → w.sequence ≡ sequence → shown ≡ step_of_worker k kind.LoadSequence 0 sequence
      → IsBegun c w k now r left m m shown deed.Meet
  meet_begun sequence shown same is shows between sound =
      begun_by (step.MeetWriter sequence) deed.Meet m shown tt (between, sym same) shows is sound refl

  module _ (new : Machine) (addrs : List ℕ) (sequence : ℕ) (shown : Step) (same : w.sequence ≡ sequence) (is : shown ≡ step_of_worker k kind.LoadSequence 0 sequence)
      (counter : new.counter ≡ m.counter) (doing : new.phase ≡ phase.LookingUp) (lo : new.lo ≡ done_at sequence) (probes : new.probes.items ≡ map probe.Unread addrs) where
    looks_up : (deed : Deed) → BeginsWith deed (step.BeginLookup addrs sequence) → Shows m r → IsBetweenDeeds r.phase → is_online r.phase ≡ true → All (λ a. a < addresses c) addrs
        → IsSoundFrom (addresses c) (is_online r.phase) left → BeginsDeed c w k now r deed left new shown
    looks_up deed begins shows between online all sound =
        let known : Shows new (worker_by_step now r (step.BeginLookup addrs sequence)) = record {
          counter = shows.counter ∙ sym counter;
          phase = sym (ap phase_of doing);
          lo = sym lo;
          probes = probes_unread addrs ∙ ap probes_of (sym probes);
        } in
        begun_by (step.BeginLookup addrs sequence) deed new shown begins (online_is r.phase between online, all, sym same) known is
        (subst (λ (b : Bool). IsSoundFrom (addresses c) b left) online sound) refl

    pub lookup_begun : (addr : ℕ) → addrs ≡ addr ∷ [] → IsBegun c w k now r left m new shown (deed.Lookup addr)
    lookup_begun addr one shows between sound =
        looks_up (deed.Lookup addr) one shows between sound.0 (rw one (All-cons (λ a. a < addresses c) addr [] sound.1 (All-nil (λ a. a < addresses c)))) sound.2

    pub lookup4_begun : IsBegun c w k now r left m new shown (deed.Lookup4 addrs)
    lookup4_begun shows between sound = looks_up (deed.Lookup4 addrs) refl shows between sound.0 sound.1 sound.2

-- ---- the deed that begins next

left_at : (begun left : List Deed) (n : ℕ) (d : Deed) → length begun ≡ n → n < length (reverse begun ++ left) → d ≡ get_or (reverse begun ++ left) n d
    → (rest : List Deed) × (left ≡ d ∷ rest)
left_at begun [] n d count inside is =
    let none : List Deed = [] in absurd (omega (arith, inside, count, length-append (reverse begun) none, length-reverse begun))
left_at begun (x ∷ rest) n d count inside is =
    (rest, ap (λ y. y ∷ rest) (sym (is ∙ get_or_at (reverse begun) x rest d n (length-reverse begun ∙ count))))

pub next_deed : (script begun left : List Deed) (n : ℕ) (d : Deed) → IsCut script begun left → length begun ≡ n → n < length script → d ≡ get_or script n d
    → (rest : List Deed) × (left ≡ d ∷ rest)
next_deed script begun left n d cut count inside is =
    left_at begun left n d count (subst (λ (ds : List Deed). n < length ds) cut inside) (subst (λ (ds : List Deed). d ≡ get_or ds n d) cut is)

cut_more : (script begun left rest : List Deed) (d : Deed) → IsCut script begun left → left ≡ d ∷ rest → IsCut script (d ∷ begun) rest
cut_more script begun left rest d cut is =
    cut ∙ ap (λ (ds : List Deed). reverse begun ++ ds) is ∙ sym (append_assoc (reverse begun) (d ∷ []) rest) ∙ ap (λ (ds : List Deed). ds ++ rest) (sym (reverse-append (d ∷ []) begun))

-- ---- a step

is_between : (m : Machine) (r : Worker) → Shows m r → (m.phase ≡ phase.Offline) ⊎ (m.phase ≡ phase.Online) → IsBetweenDeeds r.phase
is_between m r shows at = elim at [
  | inl e ↦ subst IsBetweenDeeds (sym (shows.phase ∙ ap phase_of e)) tt
  | inr e ↦ subst IsBetweenDeeds (sym (shows.phase ∙ ap phase_of e)) tt
]

goes_on_online : (c : InitialState) (w : TableState) (now : ℕ) (r : Worker) (s : WorkerStep) → GoesOn s → MayRead c w r s → is_online (worker_by_step now r s).phase ≡ is_online r.phase
goes_on_online c w now r (step.StoreOnline t) goes may = ap is_online (sym may)
goes_on_online c w now r (step.StoreQuiescent t) goes may = ap is_online (sym may)
goes_on_online c w now r (step.LoadFirst x) goes may = refl
goes_on_online c w now r (step.LoadSecond x) goes may = refl
goes_on_online c w now r (step.EndLookup x) goes may = ap is_online (sym may.0)
goes_on_online c w now r s goes may = absurd goes

module _ (first second : ℕ) (words : Words) (sequence token : ℕ) (c : InitialState) (w : TableState) (k now : ℕ) (script : List Deed) (r : Worker) (own : List WorkerStep) (m : Machine)
    (ok : IsWords first second words) (of : IsOf first second words sequence token c w) (at : IsAt first second (length words.seconds) m script r own) where
  in_range_then : (s : WorkerStep) → MayRead c w r s → All (IsInRange (2 ^ (first + second)) second (length words.seconds)) (worker_by_step now r s).probes
  in_range_then s may =
      kept first second words ok c w of.second_width of.first_width of.words_are now r s may at.in_range

  wide_is : addresses c ≡ 2 ^ (first + second)
  wide_is = ap (λ n. 2 ^ (n + c.second)) of.first_width ∙ ap (λ n. 2 ^ (first + n)) of.second_width

  module _ (new : Machine) (shown : Step) (room : 4 ≤ vec_capacity new.probes) (few : vec_len new.probes ≤ 4) where
    -- a deed begins
    pub begins_next : (before : List Noted) (d : Deed) → m.begun < length script → d ≡ get_or script m.begun d → (m.phase ≡ phase.Offline) ⊎ (m.phase ≡ phase.Online)
        → new.begun ≡ m.begun + 1
        → ((left : List Deed) → Shows (record m { begun = m.begun + 1 }) r → IsBetweenDeeds r.phase → IsSoundFrom (addresses c) (is_online r.phase) (d ∷ left) → BeginsDeed c w k now r d left new shown)
        → Advances first second (length words.seconds) c w k now script r own new shown before before
    begins_next before d inside is rests count begin =
        let next = next_deed script at.begun at.left m.begun d at.cut at.count inside is in
        let n_is : 2 ^ (first + second) ≡ addresses c = sym wide_is in
        let sound : IsSoundFrom (addresses c) (is_online r.phase) (d ∷ next.0) = subst (λ n. IsSoundFrom n (is_online r.phase) (d ∷ next.0)) n_is (subst (λ (ds : List Deed). IsSoundFrom (2 ^ (first + second)) (is_online r.phase) ds) next.1 at.sound) in
        let shows : Shows (record m { begun = m.begun + 1 }) r = record { counter = at.shows.counter; phase = at.shows.phase; lo = at.shows.lo; probes = at.shows.probes } in
        let b : BeginsDeed c w k now r d next.0 new shown = begin next.0 shows (is_between m r at.shows rests) sound in record {
          made = b.made;
          may = b.makes.may;
          at = record {
            shows = b.makes.shows;
            room = room;
            few = few;
            begun = d ∷ at.begun;
            left = next.0;
            cut = cut_more script at.begun at.left next.0 d at.cut next.1;
            count = let e = at.count in omega (arith, e, count);
            made = inr (d, at.begun, refl, b.begins, at.made);
            sound = subst (λ n. IsSoundFrom n (is_online (worker_by_step now r b.made).phase) next.0) wide_is b.sound;
            in_range = in_range_then b.made b.makes.may;
          };
          shown = b.makes.shown;
          noted = rw b.unfinished (sym (append-nil before));
        }

    -- a deed goes on
    pub goes_next : (before after : List Noted) → new.begun ≡ m.begun → ContinuesDeed c w k now r new shown before after
        → Advances first second (length words.seconds) c w k now script r own new shown before after
    goes_next before after count g = record {
      made = g.made;
      may = g.makes.may;
      at = record {
        shows = g.makes.shows;
        room = room;
        few = few;
        begun = at.begun;
        left = at.left;
        cut = at.cut;
        count = at.count ∙ sym count;
        made = inl (g.goes, at.made);
        sound = subst (λ b. IsSoundFrom (2 ^ (first + second)) b at.left) (sym (goes_on_online c w now r g.made g.goes g.makes.may)) at.sound;
        in_range = in_range_then g.made g.makes.may;
      };
      shown = g.makes.shown;
      noted = g.noted;
    }

  -- a report stores its token
  pub stores : (new : Machine) (stored : ℕ) (shown : Step) (before : List Noted) → (m.phase ≡ phase.ComingOnline stored) ⊎ (m.phase ≡ phase.ReportingQuiescent stored)
      → new ≡ record m { counter = stored; phase = phase.Online } → shown ≡ step_of_worker k kind.StoreCounter k stored → ContinuesDeed c w k now r new shown before before
  stores new stored shown before doing is told =
      let counter : stored ≡ new.counter = sym (ap (λ (n : Machine). n.counter) is) in
      let rests : Online ≡ phase_of new.phase = sym (ap (λ (n : Machine). phase_of n.phase) is) in
      let lo : r.lo ≡ new.lo = at.shows.lo ∙ sym (ap (λ (n : Machine). n.lo) is) in
      let probes : r.probes ≡ _ = at.shows.probes ∙ sym (ap (λ (n : Machine). probes_of n.probes.items) is) in
      let goes : (s : WorkerStep) → GoesOn s → MayRead c w r s → Shows new (worker_by_step now r s)
      → shown ≡ shown_by c k r s → IsNoted k r s before before → ContinuesDeed c w k now r new shown before before =
      λ s goes may shows told noted.
      record { made = s; goes = goes; makes = record { may = may; shows = shows; shown = told }; noted = noted } in
      elim doing [
        | inl e ↦ goes (step.StoreOnline stored) tt (at.shows.phase ∙ ap phase_of e)
            (record { counter = counter; phase = rests; lo = lo; probes = probes }) told (sym (append-nil before))
        | inr e ↦ goes (step.StoreQuiescent stored) tt (at.shows.phase ∙ ap phase_of e)
            (record { counter = counter; phase = rests; lo = lo; probes = probes }) told (sym (append-nil before))
      ]
