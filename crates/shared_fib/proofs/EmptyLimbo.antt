-- Where no worker is online, a reclaim of all that waits leaves nothing in limbo.
use Rattle.std.proofs.Common.{ℕ, zero, suc, ◌≡◌, ◌<◌, ◌≤◌, inl, inr, refl, ap, sym, subst, ◌∙◌, arith, List, [], ◌∷◌, length, Option, Some, None}
use Rattle.std.specs.Prelude.{◌⊎◌, slice_get, MatchOption, Err}
use Rattle.std.proofs.lemmas.List.{drop_all}
use Rattle.qsbr.specs.Counters.{IsOnline, Registry}
use Rattle.lpm_limits.specs.declared.busy.Busy.{Busy}
use Rattle.defer_queue.specs.declared.Reclaimed.{Reclaimed}
use Rattle.fib_model.specs.State.{State}
use Rattle.fib_model.specs.Counters.{counter_transitions, IsFirstByCounter}
use Rattle.fib_model.specs.Outcomes.{Frees}
use Rattle.fib_model.proofs.ByPlaces.{Passes, Reclaims, by_places}
use Rattle.lpm_limits.specs.declared.config.Config.{Config}
use Rattle.lpm_writer.specs.declared.plain_memory.PlainMemory.{PlainMemory}
use Rattle.lpm_writer.specs.declared.control.ControlState.{ControlState}
use Rattle.lpm_writer.specs.Limbo.{tokens_of}
use Rattle.fib.specs.Fib.{FibState, IsSound, table_of}

-- checks that pass leave the token and the counters
unmoved : (n : ℕ) (limbo : List ℕ) (x z : Registry) → Passes counter_transitions n limbo x z → z ≡ x
unmoved zero limbo x z h = h
unmoved (suc n) limbo x z h = h.4.1 ∙ unmoved n limbo x h.0 h.2

abbrev AreOffline : ℕ → Registry → Type 0
AreOffline workers r = (w : ℕ) → w < workers → ¬ IsOnline r.counters w

-- a worker that holds a group is online
none_holds : (r : Registry) (token : ℕ) (busy : Busy) → AreOffline (length r.counters) r → IsFirstByCounter r token busy → ⊥
none_holds r token busy offline held = offline busy.worker held.0.holds.registered held.0.holds.online

-- how a reclaim ended: it took as many as it may, or a worker stopped it
abbrev Ends : ℕ → List ℕ → ℕ → Registry → Registry → Option Busy → Type 0
Ends max limbo freed last z stopped = MatchOption stopped ((z ≡ last) × ((freed ≡ max) ⊎ (freed ≡ length limbo)))
    (λ busy. (freed < max) × ((u : ℕ) × (slice_get limbo freed ≡ Some u) × counter_transitions.checks last u (Err busy) z))

unstopped : (max : ℕ) (limbo : List ℕ) (freed : ℕ) (last z : Registry) (stopped : Option Busy) → (z ≡ last → AreOffline (length last.counters) last)
    → Ends max limbo freed last z stopped → (z ≡ last) × ((freed ≡ max) ⊎ (freed ≡ length limbo))
unstopped max limbo freed last z None offline h = h
unstopped max limbo freed last z (Some busy) offline h = absurd (none_holds last h.1.0 busy (offline h.1.2.1) h.1.2.0)

module _ (x z : State Registry) (max : ℕ) (r : Reclaimed) (workers : ℕ) (offline : AreOffline workers x.readers)
    (all : max ≡ length x.limbo) (frees : Frees counter_transitions x max r z) (count : length z.readers.counters ≡ workers) where
  taken : Reclaims counter_transitions x.readers max x.limbo r.freed r.stopped z.limbo z.readers
  taken = by_places counter_transitions x.readers max x.limbo r.freed r.stopped z.limbo z.readers frees.0

  same_readers : taken.last ≡ x.readers
  same_readers = unmoved r.freed x.limbo x.readers taken.last taken.passed

  ended : (z.readers ≡ taken.last) × ((r.freed ≡ max) ⊎ (r.freed ≡ length x.limbo))
  ended = unstopped max x.limbo r.freed taken.last z.readers r.stopped
      (λ same w low. subst (λ (y : Registry). ¬ IsOnline y.counters w) (sym same_readers)
      (offline w (subst (λ n. w < n) (sym (ap (λ (y : Registry). length y.counters) same) ∙ count) low)))
      taken.end

  freed_all : (r.freed ≡ max) ⊎ (r.freed ≡ length x.limbo) → length x.limbo ≤ r.freed
  freed_all (inl e) = omega (arith, e, all)
  freed_all (inr e) = omega (arith, e)

  pub readers_stay : z.readers ≡ x.readers
  readers_stay = ended.0 ∙ same_readers

  pub none_waits : z.limbo ≡ []
  none_waits = taken.rest ∙ drop_all r.freed x.limbo (freed_all ended.1)

-- no token waits, so no group does
no_cons : (t : ℕ) (ts : List ℕ) → t ∷ ts ≡ [] → ⊥
no_cons t ts e = cc

pub no_items : (items : List (ℕ × ℕ)) → tokens_of items ≡ [] → items ≡ []
no_items [] e = refl
no_items (item ∷ items) e = absurd (no_cons item.1 (tokens_of items) e)

-- the parts of a table of which all that waited was reclaimed
module _ (f s : ℕ) (x z : FibState) (max : ℕ) (r : Reclaimed) (offline : (w : ℕ) → w < x.config.workers → ¬ IsOnline x.table.readers.counters w)
    (all : max ≡ length x.table.limbo) (frees : Frees counter_transitions x.table max r z.table) (limits : z.config ≡ x.config)
    (control : ControlState f s) (memory : PlainMemory f s) (sound : IsSound f s control memory) (config : control.config ≡ z.config)
    (table : table_of control memory ≡ z.table) where
  count : length z.table.readers.counters ≡ x.config.workers
  count =
      ap (λ (y : State Registry). length y.readers.counters) (sym table) ∙ (sound.2.did.workers ∙ (sound.2.rests.workers
      ∙ ap (λ (c : Config). c.workers) (config ∙ limits)))

  pub none_queued : control.pool.queue.items ≡ []
  none_queued = no_items control.pool.queue.items
      (ap (λ (y : State Registry). y.limbo) table ∙ none_waits x.table z.table max r x.config.workers offline all frees count)

  pub token_stays : memory.domain.token ≡ x.table.readers.token
  token_stays =
      ap (λ (y : State Registry). y.readers.token) table
      ∙ ap (λ (y : Registry). y.token) (readers_stay x.table z.table max r x.config.workers offline all frees count)
