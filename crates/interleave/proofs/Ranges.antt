-- The addresses of a lookup stay in range.
use Rattle.std.proofs.Common.{◌≡◌, ℕ, ◌+◌, ◌*◌, ◌/◌, ◌^◌, ◌<◌, List, [], ◌∷◌, All, length, slice_index, sym, ap, subst, ◌∙◌}
use Rattle.std.proofs.Math.Nat.{div-lt_iff_lt-mul}
use Rattle.std.proofs.lemmas.Nat.{pow-add, pow_pos}
use Rattle.std.proofs.lemmas.List.Elements.{All-nil, All-cons, All-head, All-tail, All-map}
use Rattle.lpm_cells.specs.Words.{Words, IsWords, IsFirst, entry_in}
use Rattle.lpm_cells.specs.declared.entry.Entry.{Entry}
use Rattle.lpm_cells.specs.declared.entry.Entry.TheVariants.{Group}
use Rattle.lpm_trace.specs.declared.step.WorkerStep.{WorkerStep}
use Rattle.lpm_trace.specs.declared.step.WorkerStep.TheVariants.{BeginLookup, LoadFirst, LoadSecond, EndLookup}
use Rattle.lpm_trace.specs.States.{InitialState, TableState, addresses}
use Rattle.lpm_trace.specs.Trace.{Worker, Probe, Unread, InGroup, first_read, second_read, read_first, worker_by_step, MayRead, IsNextFirst}
use Rattle.interleave.specs.Machine.{IsInRange}

div_below : (a first second : ℕ) → a < 2 ^ (first + second) → a / 2 ^ second < 2 ^ first
div_below a first second low =
    let above : 0 < 2 ^ second = pow_pos second in
    let wide : a < 2 ^ first * 2 ^ second = subst (λ n. a < n) (pow-add 2 first second) low in
    (div-lt_iff_lt-mul {k = 2 ^ second} {x = a} {y = 2 ^ first} above).1 wide

module _ (first second : ℕ) (words : Words) where
  abbrev InRange : Probe → Type 0
  InRange = IsInRange (2 ^ (first + second)) second (length words.seconds)

  -- an address whose first word was read
  read_kept : (now a : ℕ) (e : Entry) → IsFirst second words.seconds e → a < 2 ^ (first + second) → InRange (read_first now a e)
  read_kept now a (Group g) is low = (low, is)
  read_kept now a e is low = tt

  first_kept : (now : ℕ) (e : Entry) → IsFirst second words.seconds e → (ps : List Probe) → All InRange ps → All InRange (first_read now e ps)
  first_kept now e is [] all = all
  first_kept now e is (Unread a ∷ ps) all =
      All-cons InRange (read_first now a e) ps (read_kept now a e is (All-head InRange (Unread a) ps all)) (All-tail InRange (Unread a) ps all)
  first_kept now e is (p ∷ ps) all = All-cons InRange p (first_read now e ps) (All-head InRange p ps all) (first_kept now e is ps (All-tail InRange p ps all))

  second_kept : (now : ℕ) (e : Entry) (ps : List Probe) → All InRange ps → All InRange (second_read now e ps)
  second_kept now e [] all = all
  second_kept now e (InGroup a g f ∷ ps) all = All-cons InRange _ ps tt (All-tail InRange (InGroup a g f) ps all)
  second_kept now e (p ∷ ps) all = All-cons InRange p (second_read now e ps) (All-head InRange p ps all) (second_kept now e ps (All-tail InRange p ps all))

  module _ (ok : IsWords first second words) (c : InitialState) (w : TableState) (same_second : c.second ≡ second) (same_first : c.first ≡ first) (same_words : w.words ≡ words) where
    -- the next first word is one that may stand there
    first_word : (word : ℕ) (ps : List Probe) → IsNextFirst c w word ps → All InRange ps → IsFirst second words.seconds (entry_in word)
    first_word word [] next all = absurd next
    first_word word (Unread a ∷ ps) next all =
        let inside : a / 2 ^ second < length words.firsts = subst (λ n. a / 2 ^ second < n) (sym ok.firsts_len) (div_below a first second (All-head InRange (Unread a) ps all)) in
        let is : word ≡ slice_index words.firsts (a / 2 ^ second) = next ∙ ap (λ n. slice_index w.words.firsts (a / 2 ^ n)) same_second ∙ ap (λ (ws : Words). slice_index ws.firsts (a / 2 ^ second)) same_words in
        subst (λ x. IsFirst second words.seconds (entry_in x)) (sym is) (ok.first_words (a / 2 ^ second) inside).1
    first_word word (p ∷ ps) next all = first_word word ps next (All-tail InRange p ps all)

    wide_is : addresses c ≡ 2 ^ (first + second)
    wide_is = ap (λ n. 2 ^ (n + c.second)) same_first ∙ ap (λ n. 2 ^ (first + n)) same_second

    pub kept : (now : ℕ) (r : Worker) (s : WorkerStep) → MayRead c w r s → All InRange r.probes → All InRange (worker_by_step now r s).probes
    kept now r (BeginLookup addrs x) may all =
        All-map InRange Unread addrs (subst (λ n. All (λ a. a < n) addrs) wide_is may.1)
    kept now r (LoadFirst word) may all = first_kept now (entry_in word) (first_word word r.probes may.1 all) r.probes all
    kept now r (LoadSecond word) may all = second_kept now (entry_in word) r.probes all
    kept now r (EndLookup x) may all = All-nil InRange
    kept now r s may all = all
