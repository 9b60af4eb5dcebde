-- Updates that leave the rules as they are. Such an update stores no word between its two steps, and
-- each list of rules that words represent has one.
use Rattle.std.proofs.Common.{arith, ◌≡◌, ℕ, zero, suc, ◌+◌, ◌/◌, ◌%◌, ◌^◌, ◌<◌, ◌≤◌, refl, sym, ap, subst, ◌∙◌, inl, inr, ◌*◌, ◌⊎◌, cond, Bool, true, false, List, [], ◌∷◌, length, slice_index, Some, None}
use Rattle.std.specs.Prelude.{IsSome, is_some, ◌==◌, if◌then◌else◌}
use Rattle.std.specs.FinMap.{get, empty, entries, get-entries, len-entries, empty_of_len}
use Rattle.std.specs.FinMap.Entries.{find}
use Rattle.std.specs.Ordering.{is_eq}
use Rattle.std.specs.Cmp.{tied_itself}
use Rattle.lpm_bits.specs.Network.{Network, Covers}
use Rattle.lpm_cells.specs.declared.entry.Entry.{Entry}
use Rattle.lpm_cells.specs.declared.entry.Entry.TheVariants.{Miss, Hop, Group}
use Rattle.lpm_cells.specs.Words.{entry_in, Words, entry_at, last_entry}
use Rattle.lpm_limits.specs.declared.config.Config.{Config}
use Rattle.lpm_rules.specs.RuleMap.{RuleMap, RuleList, AllNetworks, network_cmp}
use Rattle.lpm_rules.proofs.Views.{insert_same, networks_total}
use Rattle.lpm_update.specs.Best.{IsBest}
use Rattle.lpm_update.specs.Represents.{Represents}
use Rattle.lpm_update.proofs.Promises.{best_hop}
use Rattle.lpm_trace.specs.declared.step.RuleChange.{RuleChange}
use Rattle.lpm_trace.specs.declared.step.RuleChange.TheVariants.{Put, Clear}
use Rattle.lpm_trace.specs.declared.step.WriterStep.{WriterStep}
use Rattle.lpm_trace.specs.declared.step.WriterStep.TheVariants.{BeginUpdate, EndUpdate}
use Rattle.lpm_trace.specs.States.{InitialState, TableState, state_after, answer, IsAnswer, IsChange, updates_begun_in, rules_by}
use Rattle.lpm_trace.specs.Writer.{MayStep, IsWritten}
use Rattle.lpm_trace.proofs.Versions.{with_at-same}
use Rattle.lpm_writer.specs.declared.pool.GroupPool.{GroupPool}
use Rattle.lpm_writer.specs.Rest.{IsResting}
use Rattle.lpm_writer.proofs.Reclaims.{kept_quiet}
use Rattle.lpm_writer.proofs.UpdateRuns.{fit}
use Rattle.lpm_writer.proofs.WholeUpdates.{even_begun, even_same}

-- ---- a change that leaves the rules as they are

-- the number of a next hop has 24 bits
abbrev IsSmall : Entry → Type 0
IsSmall Miss = Unit {0}
IsSmall (Hop hop depth) = hop < 2 ^ 24
IsSmall (Group group) = Unit {0}

read_small : (w : ℕ) → IsSmall (entry_in w)
unfolding entry_in
read_small w = by_tests (w / 2 ^ 24 % 4 == 3) (w / 2 ^ 24 % 4 == 1)
  where
    by_tests : (b d : Bool) → IsSmall (if b then Group (w % 2 ^ 24) else (if d then Hop (w % 2 ^ 24) (w / 2 ^ 26) else Miss))
    by_tests true d = tt
    by_tests false true = omega arith
    by_tests false false = tt

followed_small : (s : ℕ) (S : List ℕ) (r : ℕ) (e : Entry) → IsSmall e → IsSmall (last_entry s S r e)
followed_small s S r Miss h = tt
followed_small s S r (Hop hop depth) h = h
followed_small s S r (Group group) h = read_small (slice_index S (group * 2 ^ s + r))

-- a list of rules is empty, or has a rule
some_rule : (R : RuleMap) → (R ≡ empty) ⊎ ((p : Network) × IsSome (get R p))
some_rule R = by_entries (entries R) refl
  where
    by_entries : (es : List (Network × ℕ)) → entries R ≡ es → (R ≡ empty) ⊎ ((p : Network) × IsSome (get R p))
    by_entries [] is = inl (empty_of_len R (len-entries R ∙ ap length is))
    by_entries (e ∷ es) is = inr (e.0, subst IsSome (sym (get-entries R e.0 ∙ ap (find network_cmp e.0) is)) (ap (λ o. is_some (cond (is_eq o) (Some e.1) (find network_cmp e.0 es))) (tied_itself networks_total e.0)))

-- a change that leaves the rules as they are
pub record IsUnchanging (width : ℕ) (R : RuleMap) (change : RuleChange) : Type 0 where
  pub sound : IsChange width change
  pub same : rules_by R change ≡ R

-- the longest rule of an address is put in again
again : (f s : ℕ) (R : RuleMap) (t : Words) (a : ℕ) (e : Entry) (q : Network) → AllNetworks (f + s) R → IsSome (get R q) → Covers (f + s) q a → IsBest (f + s) R a e → IsSmall e
    → (change : RuleChange) × IsUnchanging (f + s) R change
again f s R t a Miss q networks some covers best small = absurd (best q some covers)
again f s R t a (Hop hop depth) q networks some covers best small =
    let p = best.0 in
    (Put p.bits p.len hop, record { sound = (networks p (ap is_some best.1), small); same = insert_same R p hop best.1 })
again f s R t a (Group group) q networks some covers best small = absurd best

pub unchanging : (f s : ℕ) (R : RuleMap) (t : Words) → Represents f s R t → (change : RuleChange) × IsUnchanging (f + s) R change
unchanging f s R t represents = elim (some_rule R) [
  | inl none ↦ (Clear, record { sound = tt; same = sym none })
  | inr has ↦
      let q = has.0 in
      let network = represents.networks q has.1 in
      again f s R t q.bits (entry_at s t q.bits) q represents.networks has.1 refl (represents.best q.bits network.1)
      (followed_small s t.seconds (q.bits % 2 ^ s) (entry_in (slice_index t.firsts (q.bits / 2 ^ s))) (read_small (slice_index t.firsts (q.bits / 2 ^ s))))
]

-- ---- n updates of such a change

twice : (n : ℕ) → n % 2 ≡ 0 → suc (suc n) / 2 ≡ suc ((n + 1) / 2)
twice n e = omega (arith, e)

back : (n : ℕ) → n % 2 ≡ 0 → suc (suc n) % 2 ≡ 0
back n e = omega (arith, e)

-- n updates of one change, none of which stores a word
abbrev pub unchanged : RuleChange → ℕ → List WriterStep
unchanged change zero = []
unchanged change (suc n) = EndUpdate ∷ BeginUpdate change ∷ unchanged change n

-- the words, the token and the checks stay
pub record Stays (c : InitialState) (w : TableState) : Type 0 where
  pub words : w.words ≡ c.words
  pub token : w.token ≡ c.token
  pub passed : w.passed ≡ 0

pub unchanged_stays : (c : InitialState) (change : RuleChange) (n : ℕ) → Stays c (state_after c (unchanged change n))
unchanged_stays c change zero = record { words = refl; token = refl; passed = refl }
unchanged_stays c change (suc n) =
    let before = unchanged_stays c change n in
    record { words = before.words; token = before.token; passed = before.passed }

module _ (f s : ℕ) (c : InitialState) (config : Config) (rules : RuleList) (pool : GroupPool) (change : RuleChange)
    (is : IsUnchanging (f + s) rules.rules change) where
  module _ (steps : List WriterStep) (n : ℕ) (rest : IsResting f s c steps config rules pool n) where
    abbrev w : TableState
    w = state_after c steps

    -- the rules that the change leads to are those that were there
    next_rules : rules_by (w.history (updates_begun_in w)) change ≡ rules.rules
    next_rules = ap (λ k. rules_by (w.history k) change) (even_same w.sequence rest.between.even) ∙ ap (λ r. rules_by r change) rest.version ∙ is.same

    -- the next update may begin
    opens_unchanged : MayStep c steps (BeginUpdate change)
    opens_unchanged = ((rest.between.even, fit (λ a b. IsChange (a + b) change) f s c rest.widths is.sound), rest.between.idle.next_step)

    abbrev z : TableState
    z = state_after c (BeginUpdate change ∷ steps)

    begun_rules : z.history (updates_begun_in z) ≡ rules.rules
    begun_rules = ap z.history (even_begun w.sequence rest.between.even) ∙ with_at-same w.history (suc (updates_begun_in w)) (rules_by (w.history (updates_begun_in w)) change) ∙ next_rules

    -- and may end at once
    closes_unchanged : MayStep c (BeginUpdate change ∷ steps) EndUpdate
    closes_unchanged =
        let even = rest.between.even in
        let represents = fit (λ a b. Represents a b rules.rules w.words) f s c rest.widths rest.represents in (
          (
            omega (arith, even),
            λ a low. subst (λ (r : RuleMap). IsAnswer c r a (answer c w.words a)) (sym begun_rules) (best_hop (c.first + c.second) rules.rules a (entry_at c.second w.words a) (represents.best a low)),
          ),
          (rest.between.idle.next_step, tt),
        )

    -- there the writer rests again
    rests_unchanged : n < 2 ^ 61 → IsResting f s c (EndUpdate ∷ BeginUpdate change ∷ steps) config rules pool (suc n)
    rests_unchanged few =
        let even = rest.between.even in
        let number = twice w.sequence even in
        record {
          shape = rest.shape;
          widths = rest.widths;
          workers = rest.workers;
          between = record {
            idle = record { next_step = rest.between.idle.next_step; awaited = rest.between.idle.awaited };
            even = back w.sequence even;
            clear = λ a low. refl;
            once = (λ n d low same. same, (λ n d low same. same, rest.between.once));
          };
          version = ap z.history number ∙ with_at-same w.history (suc (updates_begun_in w)) (rules_by (w.history (updates_begun_in w)) change) ∙ next_rules;
          represents = rest.represents;
          tied = rest.tied;
          room = rest.room;
          queued = rest.queued;
          keeps = record {
            kept = kept_quiet c w (state_after c (EndUpdate ∷ BeginUpdate change ∷ steps)) w.token pool.groups pool.queue.items None refl (omega arith) rest.keeps.kept;
            remembers = rest.keeps.remembers;
          };
          limits = rest.limits;
          max = rest.max;
          states = rest.states;
          versions = let done_before = rest.versions in omega (arith, number, done_before, even_same w.sequence even);
          updates = omega (arith, few);
        }

  -- where a writer rests that made no step, it may rest after n such updates
  pub rests_after_unchanged : IsResting f s c [] config rules pool 0 → (n : ℕ) → n ≤ 2 ^ 61
      → IsWritten c (unchanged change n) × IsResting f s c (unchanged change n) config rules pool n
  rests_after_unchanged first zero few = (tt, first)
  rests_after_unchanged first (suc n) few =
      let before = rests_after_unchanged first n (omega (arith, few)) in
      let steps = unchanged change n in (
        (closes_unchanged steps n before.1, (opens_unchanged steps n before.1, before.0)),
        rests_unchanged steps n before.1 (omega (arith, few)),
      )
