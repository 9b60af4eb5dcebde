-- The items of a schedule: how many are used up, and how many of the writer's among them.
use Rattle.std.proofs.Common.{◌≡◌, ℕ, zero, suc, ◌+◌, ◌<◌, ◌≤◌, inl, inr, List, [], ◌∷◌, ◌++◌, length, take, drop, get_or, reverse, refl, sym, ap, ◌∙◌, arith, add-one, drop-cons}
use Rattle.std.proofs.lemmas.List.{take_more, take_all, reverse-append, take-append-drop, length-reverse, length-take}
use Rattle.lpm_trace.specs.declared.shown_step.Actor.{Actor}
use Rattle.lpm_trace.specs.declared.shown_step.Actor.TheVariants.{Writer as WriterActor, Worker as WorkerActor}
use Rattle.lpm_trace.specs.declared.deed.Deed.{Deed}
use Rattle.lpm_trace.specs.declared.step.TraceStep.{TraceStep}
use Rattle.lpm_trace.specs.declared.step.TraceStep.TheVariants.{Writer, Worker as ByWorker}
use Rattle.lpm_trace.specs.Trace.{writes}
use Rattle.interleave.specs.World.{IsBy, HasEnded, IsScheduled, writer_items, used_items}

-- the last item that is used up is the newest
pub used_more : (schedule : List Actor) (next : ℕ) (item : Actor) → next < length schedule → get_or schedule next item ≡ item → used_items schedule (suc next) ≡ item ∷ used_items schedule next
used_more schedule next item left is =
    ap (λ n. reverse (take n schedule)) (sym (add-one next))
    ∙ ap reverse (take_more schedule next item left ∙ ap (λ x. take next schedule ++ x ∷ []) is)
    ∙ reverse-append (take next schedule) (item ∷ [])

pub used_all : (schedule : List Actor) (next : ℕ) → next ≡ length schedule → used_items schedule next ≡ reverse schedule
used_all schedule next all = ap reverse (take_all next schedule (omega (arith, all)))

items_of : (xs ys : List Actor) → writer_items (xs ++ ys) ≡ writer_items xs + writer_items ys
items_of [] ys = omega arith
items_of (WriterActor ∷ xs) ys = omega (arith, items_of xs ys)
items_of (WorkerActor k ∷ xs) ys = items_of xs ys

one_item : (x : Actor) (n : ℕ) → n + writer_items (x ∷ []) ≡ writer_items (x ∷ []) + n
one_item x n = omega arith

more_items : (x : Actor) (xs : List Actor) → writer_items (x ∷ xs) ≡ writer_items (x ∷ []) + writer_items xs
more_items WriterActor xs = omega arith
more_items (WorkerActor k) xs = omega arith

pub items_reversed : (xs : List Actor) → writer_items (reverse xs) ≡ writer_items xs
items_reversed [] = refl
items_reversed (x ∷ xs) =
    ap writer_items (reverse-append (x ∷ []) xs)
    ∙ items_of (reverse xs) (x ∷ [])
    ∙ one_item x (writer_items (reverse xs))
    ∙ ap (λ n. writer_items (x ∷ []) + n) (items_reversed xs)
    ∙ sym (more_items x xs)

-- of the used items, the writer's are among those of the schedule
pub items_used : (schedule : List Actor) (next : ℕ) → writer_items (used_items schedule next) + writer_items (drop next schedule) ≡ writer_items schedule
items_used schedule next =
    ap (λ n. n + writer_items (drop next schedule)) (items_reversed (take next schedule))
    ∙ sym (items_of (take next schedule) (drop next schedule))
    ∙ ap writer_items (take-append-drop next schedule)

-- the next item is the writer's: not all of the writer's items are used up
pub items_left : (schedule : List Actor) (next : ℕ) → next < length schedule → ((other : Actor) → get_or schedule next other ≡ WriterActor) → writer_items (used_items schedule next) < writer_items schedule
items_left schedule next left item =
    let first : drop next schedule ≡ WriterActor ∷ drop (suc next) schedule = drop-cons schedule next WriterActor left ∙ ap (λ x. x ∷ drop (suc next) schedule) (item WriterActor) in
    let one = ap writer_items first in
    omega (arith, items_used schedule next, one)

pub items_all : (schedule : List Actor) (next : ℕ) → next ≡ length schedule → writer_items (used_items schedule next) ≡ writer_items schedule
items_all schedule next all = ap writer_items (used_all schedule next all) ∙ items_reversed schedule

writes_one : (step : TraceStep) (earlier : List TraceStep) → IsBy WriterActor step → length (writes (step ∷ earlier)) ≡ suc (length (writes earlier))
writes_one (Writer s) earlier by = refl
writes_one (ByWorker k s) earlier by = absurd by

writes_none : (k : ℕ) (step : TraceStep) (earlier : List TraceStep) → IsBy (WorkerActor k) step → writes (step ∷ earlier) ≡ writes earlier
writes_none k (Writer s) earlier by = absurd by
writes_none k (ByWorker j s) earlier by = refl

-- the writer has made a step for each of its items
pub one_each : (workers : ℕ) (scripts : ℕ → List Deed) (items : List Actor) (steps : List TraceStep)
    → IsScheduled (HasEnded workers scripts (λ earlier. ⊥)) items steps → length (writes steps) ≡ writer_items items
one_each workers scripts [] steps made = ap (λ xs. length (writes xs)) made
one_each workers scripts (WriterActor ∷ items) steps (inl made) = absurd made.0
one_each workers scripts (WriterActor ∷ items) steps (inr made) =
    ap (λ xs. length (writes xs)) made.2 ∙ writes_one made.0 made.1 made.3 ∙ ap suc (one_each workers scripts items made.1 made.4)
one_each workers scripts (WorkerActor k ∷ items) steps (inl made) = one_each workers scripts items steps made.1
one_each workers scripts (WorkerActor k ∷ items) steps (inr made) =
    ap (λ xs. length (writes xs)) made.2 ∙ ap length (writes_none k made.0 made.1 made.3) ∙ one_each workers scripts items made.1 made.4

-- the writer has made at most a step for each of its items
pub one_at_most : (workers : ℕ) (scripts : ℕ → List Deed) (done : List TraceStep → Type 0) (items : List Actor) (steps : List TraceStep)
    → IsScheduled (HasEnded workers scripts done) items steps → length (writes steps) ≤ writer_items items
one_at_most workers scripts done [] steps made = let e = ap (λ xs. length (writes xs)) made in omega (arith, e)
one_at_most workers scripts done (WriterActor ∷ items) steps (inl made) = omega (arith, one_at_most workers scripts done items steps made.1)
one_at_most workers scripts done (WriterActor ∷ items) steps (inr made) =
    let e = ap (λ xs. length (writes xs)) made.2 ∙ writes_one made.0 made.1 made.3 in
    omega (arith, e, one_at_most workers scripts done items made.1 made.4)
one_at_most workers scripts done (WorkerActor k ∷ items) steps (inl made) = one_at_most workers scripts done items steps made.1
one_at_most workers scripts done (WorkerActor k ∷ items) steps (inr made) =
    let e = ap (λ xs. length (writes xs)) made.2 ∙ ap length (writes_none k made.0 made.1 made.3) in
    omega (arith, e, one_at_most workers scripts done items made.1 made.4)

-- what has ended by one meaning of the writer's end has by another
pub makes_still : (workers : ℕ) (scripts : ℕ → List Deed) (was is : List TraceStep → Type 0) → ((steps : List TraceStep) → was steps → is steps)
    → (items : List Actor) (steps : List TraceStep) → IsScheduled (HasEnded workers scripts was) items steps → IsScheduled (HasEnded workers scripts is) items steps
makes_still workers scripts was is more [] steps made = made
makes_still workers scripts was is more (WriterActor ∷ items) steps (inl made) = inl (more steps made.0, makes_still workers scripts was is more items steps made.1)
makes_still workers scripts was is more (WorkerActor k ∷ items) steps (inl made) = inl (made.0, makes_still workers scripts was is more items steps made.1)
makes_still workers scripts was is more (item ∷ items) steps (inr made) =
    inr (made.0, made.1, made.2, made.3, makes_still workers scripts was is more items made.1 made.4)

-- an item that is there is the same whatever stands for one that isn't
pub item_there : (schedule : List Actor) (next : ℕ) (one other : Actor) → next < length schedule → get_or schedule next one ≡ get_or schedule next other
item_there [] next one other left = absurd (omega (arith, left))
item_there (x ∷ schedule) zero one other left = refl
item_there (x ∷ schedule) (suc n) one other left = item_there schedule n one other (omega (arith, left))

pub items_few : (xs : List Actor) → writer_items xs ≤ length xs
items_few [] = omega arith
items_few (WriterActor ∷ xs) = omega (arith, items_few xs)
items_few (WorkerActor k ∷ xs) = omega (arith, items_few xs)

pub used_few : (schedule : List Actor) (next : ℕ) → writer_items (used_items schedule next) ≤ next
used_few schedule next = omega (arith, items_few (used_items schedule next), length-reverse (take next schedule), length-take next schedule)
