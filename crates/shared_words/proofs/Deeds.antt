-- Steps of a worker one after another.
use Rattle.std.proofs.Common.{◌≡◌, ℕ, ◌+◌, ◌^◌, ◌≤◌, All, List, [], ◌∷◌, ◌++◌, length, None, refl, sym, ap, subst, ◌∙◌, arith, append_assoc, length-append, slice_set, inl, inr}
use Rattle.std.proofs.lemmas.List.{nil_from_length, set-get_or}
use Rattle.std.proofs.lemmas.List.Elements.{All-head, All-tail}
use Rattle.lpm_cells.specs.Words.{IsFirstWord, hop_in, IsLast}
use Rattle.lpm_cells.specs.declared.entry.Entry.{Entry}
use Rattle.lpm_cells.specs.declared.entry.Entry.TheVariants.{Miss, Hop, Group}
use Rattle.lpm_trace.specs.declared.step.WriterStep.{WriterStep}
use Rattle.lpm_trace.specs.declared.step.WorkerStep.{WorkerStep}
use Rattle.lpm_trace.specs.declared.step.WorkerStep.TheVariants.{BeginLookup, EndLookup}
use Rattle.lpm_trace.specs.States.{InitialState, oldest, state_after, done_at, begun_at, updates_begun_in}
use Rattle.lpm_trace.specs.Trace.{worker_by, writes, Answered, worker_by_step, read_first, MayRead}
use Rattle.lpm_trace.specs.Laws.{ArePlaced}
use Rattle.lpm_trace.proofs.Traces.{oldest_all}
use Rattle.lpm_trace.proofs.Versions.{firsts_length}
use Rattle.shared_words.specs.declared.view.View.{View}
use Rattle.shared_words.specs.Layout.{InitialData, initial_state_of}
use Rattle.shared_words.specs.Rule.{IsLater, SeatPlan, Sits, IsViewOf, Holds, note_of, read_note, view_with_note}
use Rattle.shared_words.specs.Seats.{IsSound, Gains, SeatCompares}
use Rattle.shared_words.specs.Deeds.{IsReadOn, GainsAll, GainsAt, GoesOn, LoadsAround}
use Rattle.shared_words.proofs.WriterRule.{later_none, seats_set}
use mathlib.Core.Option.{some, none}
use lib.ListN.{get_elem?}
use Rattle.atomic_table.specs.Table.{State, Me, keeps, step, Allows, Splits, Joins}
use Rattle.atomic_table.proofs.Lists.{at_snoc, set_again, set_else}
use Rattle.lpm_trace.specs.declared.step.TraceStep.{TraceStep}
use Rattle.shared_words.specs.declared.view.Role.{Role}
use Rattle.shared_words.specs.declared.view.Role.TheVariants.{Writer, Worker, Note}

-- ---- one step

pub later_trans : (xs ys zs : List WriterStep) → IsLater xs ys → IsLater ys zs → IsLater xs zs
later_trans xs ys zs h k =
    (k.0 ++ h.0, k.1 ∙ (ap (λ (zs : List WriterStep). k.0 ++ zs) h.1 ∙ sym (append_assoc k.0 h.0 xs)))

-- a view that gains a step goes on, and its worker's state is moved
pub gains_on : (r : WorkerStep) (v w : View) → Gains r v w → GoesOn v w
gains_on r v w g =
    let same : w.writer_steps ≡ g.writer_steps = ap (λ (x : View). x.writer_steps) g.view in
    let mine : w.own_steps ≡ (r, length g.writer_steps) ∷ v.own_steps = ap (λ (x : View). x.own_steps) g.view in
    record {
      same = g.view ∙ ap (λ (z : List (WorkerStep × ℕ) × List WriterStep). record v { own_steps = z.0; writer_steps = z.1 })
          (λ i. (sym mine i, sym same i));
      later = subst (IsLater v.writer_steps) (sym same) g.later;
    }

pub later_longer : (xs ys : List WriterStep) → IsLater xs ys → length xs ≤ length ys
later_longer xs ys h = omega (arith, ap length h.1, length-append h.0 xs)

pub goes_on : (u v w : View) → GoesOn u v → GoesOn v w → GoesOn u w
goes_on u v w h k = record {
  same = k.same ∙ ap (λ (x : View). record x { own_steps = w.own_steps; writer_steps = w.writer_steps }) h.same;
  later = later_trans u.writer_steps v.writer_steps w.writer_steps h.later k.later;
}

pub gains_state : (r : WorkerStep) (v w : View) (g : Gains r v w)
    → worker_by w.own_steps ≡ worker_by_step (length g.writer_steps) (worker_by v.own_steps) r
gains_state r v w g = ap (λ (x : View). worker_by x.own_steps) g.view

-- a step may come at the end of what the worker has seen by then of the writer's steps
pub may_now : (s : WorkerStep) (v w : View) → Gains s v w → IsSound w
    → MayRead (initial_state_of v.initial) (state_after (initial_state_of v.initial) w.writer_steps) (worker_by v.own_steps) s
may_now s v w g known =
    let c : InitialState = initial_state_of v.initial in
    let placed = subst (λ (x : View). ArePlaced (initial_state_of x.initial) x.writer_steps x.own_steps) g.view known.placed in
    let all : oldest (length g.writer_steps) g.writer_steps ≡ g.writer_steps = oldest_all g.writer_steps (length g.writer_steps) (omega arith) in
    subst (λ (l : List WriterStep). MayRead c (state_after c l) (worker_by v.own_steps) s)
    (all ∙ sym (ap (λ (x : View). x.writer_steps) g.view)) placed.0

-- the two loads of the sequence tell how many updates were done and begun at their places
pub around : (addrs : List ℕ) (low high lo hi : ℕ) (v b u w : View) (begins : Gains (BeginLookup addrs low) v b)
    (ends : Gains (EndLookup high) u w) → IsSound b → IsSound w → u.initial ≡ v.initial → lo ≡ done_at low → hi ≡ begun_at high
    → LoadsAround addrs lo hi v b u w
around addrs low high lo hi v b u w begins ends known_then known same lo_is hi_is = record {
  low = low;
  begins = begins;
  high = high;
  ends = ends;
  done_then = lo_is ∙ ap done_at (may_now (BeginLookup addrs low) v b begins known_then).2;
  begun_then = subst (λ (o : InitialData). hi ≡ updates_begun_in (state_after (initial_state_of o) w.writer_steps)) same
      (hi_is ∙ ap begun_at (may_now (EndLookup high) u w ends known).2);
}

-- steps one after another
pub goes_at : (newer older : List (WorkerStep × ℕ)) (u v w : View) → GainsAt newer v w → GainsAt older u v
    → GainsAt (newer ++ older) u w
goes_at [] older u v w new old = subst (GainsAt older u) (sym new) old
goes_at (s ∷ newer) older u v w new old = (new.0, goes_at newer older u v new.0 new.1 old, new.2, new.3)

pub two_steps : (r s : WorkerStep) (v u w : View) → Gains r v u → Gains s u w → GainsAll (s ∷ r ∷ []) v w
two_steps r s v u w first second = (u, (v, refl, first), second)

pub two_on : (r s : WorkerStep) (v u w : View) → Gains r v u → Gains s u w → GoesOn v w
two_on r s v u w first second = goes_on v u w (gains_on r v u first) (gains_on s u w second)

-- a view that gains steps goes on
pub all_at : (steps : List (WorkerStep × ℕ)) (v w : View) → GainsAt steps v w → GoesOn v w
all_at [] v w same = subst (GoesOn v) (sym same) (record { same = refl; later = ([], refl) })
all_at (s ∷ steps) v w more = goes_on v more.0 w (all_at steps v more.0 more.1) (gains_on s.0 more.0 w more.2)

-- what was seen between two views that had seen the same
pub between : (first middle last : List WriterStep) → IsLater first middle → IsLater middle last → last ≡ first
    → middle ≡ first
between first middle last old new same =
    let none : length old.0 ≡ 0 = omega (
      arith,
      ap length old.1,
      ap length new.1,
      ap length same,
      length-append old.0 first,
      length-append new.0 middle,
    ) in
    old.1 ∙ ap (λ (l : List WriterStep). l ++ first) (nil_from_length old.0 none)

-- ---- the words of an address

pub firsts_are : (r : WorkerStep) (v w : View) (first : ℕ) → Gains r v w → IsSound w → v.initial.first ≡ first
    → length w.initial.firsts ≡ 2 ^ first
firsts_are r v w first g known is =
    let firsts : length w.initial.firsts ≡ 2 ^ w.initial.first =
    sym (firsts_length (initial_state_of w.initial) w.writer_steps) ∙ known.words.firsts_len in
    let same : w.initial.first ≡ first = ap (λ (x : View). x.initial.first) g.view ∙ is in
    firsts ∙ ap (λ n. 2 ^ n) same

-- a word that may stand in the first table still may after more steps
pub word_fits : (u v w : View) (first second n : ℕ) → GoesOn u v → GoesOn v w
    → u.initial.first ≡ first → u.initial.second ≡ second
    → IsFirstWord (v.initial.first + v.initial.second) v.initial.second v.initial.seconds n
    → IsFirstWord (first + second) second w.initial.seconds n
word_fits u v w first second n h k is_first is_second fit =
    let same : w.initial ≡ v.initial = ap (λ (x : View). x.initial) k.same in
    let f : v.initial.first ≡ first = ap (λ (x : View). x.initial.first) h.same ∙ is_first in
    let s : v.initial.second ≡ second = ap (λ (x : View). x.initial.second) h.same ∙ is_second in
    subst (λ (o : InitialData). IsFirstWord (first + second) second o.seconds n) (sym same)
    (subst (λ m. IsFirstWord (first + m) m v.initial.seconds n) s
    (subst (λ m. IsFirstWord (m + v.initial.second) v.initial.second v.initial.seconds n) f fit))

-- what holds of each of four
pub all_four : (P : ℕ → Type 0) (a b c d : ℕ) → All P (a ∷ b ∷ c ∷ d ∷ []) → P a × P b × P c × P d
all_four P a b c d all =
    let all2 = All-tail P a (b ∷ c ∷ d ∷ []) all in
    let all3 = All-tail P b (c ∷ d ∷ []) all2 in
    let all4 = All-tail P c (d ∷ []) all3 in
    (All-head P a (b ∷ c ∷ d ∷ []) all, All-head P b (c ∷ d ∷ []) all2, All-head P c (d ∷ []) all3, All-head P d [] all4)

-- a word that answers is no group's
pub alone : (e : Entry) → IsLast e → IsReadOn e None (hop_in e)
alone Miss last = (refl, refl)
alone (Hop hop depth) last = (refl, refl)
alone (Group group) last = absurd last

pub answered : (now a : ℕ) (e : Entry) → IsLast e → read_first now a e ≡ Answered a (hop_in e) now now
answered now a Miss last = refl
answered now a (Hop hop depth) last = refl
answered now a (Group group) last = absurd last

-- Seats that leave notes for one another: a worker that has heard all that the writer has seen, and a writer
-- that has heard all that the worker has seen, have seen the same steps.

module _ (o : InitialData) where
  abbrev St : Type 0
  St = State (Unit {0}) View

  -- the rule is kept where the views alone change, and each is one of the trace
  kept : (s : St) (h : Holds o s) (views : List View)
      → ((j : ℕ) (u : View) → get_elem? views j ≡ some u → IsViewOf o h.steps h.seating j u)
      → Holds o record { words = s.words; homes = s.homes; views = views }
  kept s h views each = record {
    steps = h.steps;
    seating = h.seating;
    settled = h.settled;
    trace = h.trace;
    words = h.words;
    made = h.made;
    unmade = h.unmade;
    views = each;
  }

  -- a note of what a view of the trace has seen
  note_is : (steps : List TraceStep) (seating : SeatPlan) (seat : ℕ) (v : View)
      → IsViewOf o steps seating seat v → (j : ℕ) → IsViewOf o steps seating j (note_of v)
  note_is steps seating seat v is j = record { sits = tt; writer_steps = is.writer_steps; heard = later_none (writes steps) }

  -- what a seat has heard changes nothing else of it
  heard_sits : (steps : List TraceStep) (seating : SeatPlan) (seat : ℕ) (v : View) (told : List WriterStep)
      → (role : Role) → Sits o steps seating seat v role
      → Sits o steps seating seat (record v { heard = told }) role
  heard_sits steps seating seat v told Writer h = h
  heard_sits steps seating seat v told (Worker k) h = h
  heard_sits steps seating seat v told Note h = tt

  heard_is : (steps : List TraceStep) (seating : SeatPlan) (seat : ℕ) (v : View) (told : List WriterStep)
      → IsViewOf o steps seating seat v → IsLater told (writes steps)
      → IsViewOf o steps seating seat (record v { heard = told })
  heard_is steps seating seat v told is later = record {
    sits = heard_sits steps seating seat v told v.role is.sits;
    writer_steps = is.writer_steps;
    heard = later;
  }

  -- ---- the steps

  -- a note is cut off a seat
  pub notes_split : (id : ℕ) (v : View) → Splits {S = Unit {0}} (Holds o) id v v (note_of v)
  notes_split id v s h at =
      let is : ℕ → View → Type 0 = IsViewOf o h.steps h.seating in
      subst
      (λ (views : List View). Holds o record { words = s.words; homes = s.homes; views = views ++ note_of v ∷ [] })
      (sym (set_again s.views id v at))
      (kept s h (s.views ++ note_of v ∷ []) (λ j u e. elim (at_snoc s.views (note_of v) u j e) [
        | inl t ↦ h.views j u t
        | inr t ↦ subst (is j) t (note_is h.steps h.seating id v (h.views id v at) j)
      ]))

  -- a seat takes in a note
  pub notes_join : (id other : ℕ) (v w : View)
      → Joins {S = Unit {0}} (Holds o) id v other w (view_with_note v w) read_note
  notes_join id other v w s h at apart there =
      let is : ℕ → View → Type 0 = IsViewOf o h.steps h.seating in
      let note : is other w = h.views other w (sym (set_else s.views id other (view_with_note v w) apart) ∙ there) in
      kept s h (slice_set (slice_set s.views id (view_with_note v w)) other read_note)
      (seats_set is (slice_set s.views id (view_with_note v w)) other read_note
      record { sits = tt; writer_steps = later_none (writes h.steps); heard = later_none (writes h.steps) }
      (λ j u _. seats_set is s.views id (view_with_note v w)
      (heard_is h.steps h.seating id v w.writer_steps (h.views id v at) note.writer_steps) (λ j u _. h.views j u) j u))

  -- the writer compares what it has heard with its own steps
  pub compares_allowed : (slots id at : ℕ) (me : Me (Unit {0}) View) → me.0.role ≡ Writer
      → Allows (Holds o) slots id me at (λ n. n) (SeatCompares (step slots at 0 0 none) me)
  compares_allowed slots id at me role s h len there range =
      let w : View = record me.0 { heard = [] } in
      let known : IsViewOf o h.steps h.seating id me.0 = h.views id me.0 there in
      let mine = subst (Sits o h.steps h.seating id me.0) role known.sits in (
        w,
        keeps,
        tt,
        subst
            (λ (words : List ℕ). Holds o record { words = words; homes = s.homes; views = slice_set s.views id w })
            (sym (set-get_or s.words at 0))
            (kept s h (slice_set s.views id w) (seats_set (IsViewOf o h.steps h.seating) s.views id w
            (heard_is h.steps h.seating id me.0 [] known (later_none (writes h.steps))) (λ j u _. h.views j u))),
        (refl, subst (IsLater me.0.heard) (sym mine.2) known.heard),
      )
