-- What a table begins with: its words are all misses, which represent no rules, and all groups are free.
use Rattle.std.proofs.Common.{◌≡◌, ℕ, ◌+◌, ◌^◌, ◌<◌, ◌≤◌, inl, inr, refl, ap, sym, ◌∙◌, List, [], length, slice_get, slice_index, Some, arith, subst, zero, suc, ◌*◌, replicate}
use Rattle.std.proofs.lemmas.Option.{none-some}
use Rattle.std.proofs.lemmas.Bool.{cases_lt}
use Rattle.std.proofs.lemmas.List.{get_or_past, length-replicate}
use Rattle.lpm_bits.specs.Widths.{IsShape}
use Rattle.lpm_cells.specs.declared.entry.Entry.TheVariants.{Miss, Group}
use Rattle.lpm_cells.specs.Words.{entry_in, group_in, Words, entry_at}
use Rattle.lpm_cells.proofs.ReadBack.{entry_in_zero}
use Rattle.lpm_groups.specs.declared.GroupState.{GroupState}
use Rattle.lpm_groups.specs.declared.GroupState.TheVariants.{Free, Linked, Limbo}
use Rattle.lpm_groups.specs.States.{limbo_count}
use Rattle.lpm_limits.specs.Limits.{IsConfig}
use Rattle.lpm_limits.specs.declared.config.Config.{Config}
use Rattle.lpm_rules.specs.RuleMap.{RuleMap, network_cmp}
use Rattle.lpm_update.specs.BlockGroups.{group_at}
use Rattle.lpm_update.specs.Represents.{Represents}
use Rattle.lpm_update.specs.GroupStates.{IsTied, HasGroupRoom}
use Rattle.lpm_update.proofs.Promises.{best_hop, blank}
use Rattle.lpm_trace.specs.States.{InitialState, Status, Unused, Linked as LinkedTo, Retired, IsFree, IsSettled}
use Rattle.lpm_writer.specs.Rest.{IsResting, blank_initial_state}
use Rattle.std.specs.FinMap.{empty}
use Rattle.lpm_groups.proofs.Marks.{limbo_count-replicate}
use Rattle.lpm_update.specs.Laws.{blank_words}
use Rattle.lpm_writer.specs.declared.pool.GroupPool.{GroupPool}

-- A table whose words represent its rules, and of which no group waits, is one that may be opened, and a
-- control state rests there.

pub no_group : (g : ℕ) → Miss ≡ Group g → ⊥
no_group g e = cc

-- no word stands past the end
past_end : (firsts : List ℕ) (i g : ℕ) → length firsts ≤ i → entry_in (slice_index firsts i) ≡ Group g → ⊥
past_end firsts i g past e =
    no_group g (sym (ap entry_in (get_or_past firsts i 0 past) ∙ entry_in_zero) ∙ e)

-- what is known of a group at first: which block it is linked to; any other was never linked
abbrev pub status_at_first : GroupState → Status
status_at_first Free = Unused
status_at_first (Linked block) = LinkedTo block
status_at_first Limbo = Unused

module _ (f s : ℕ) (t : Words) (R : RuleMap) (xs : List GroupState) (config : Config) (token : ℕ)
    (groups : ℕ → Status) (represents : Represents f s R t) (tied : IsTied f xs (group_at t.firsts))
    (known : (g : ℕ) (state : GroupState) → slice_get xs g ≡ Some state → groups g ≡ status_at_first state)
    (never : (g x : ℕ) → groups g ≡ Retired x → ⊥) where
  abbrev pub beginning : InitialState
  beginning = record {
    first = f;
    second = s;
    workers = config.workers;
    token = token;
    words = t;
    rules = R;
    groups = groups;
  }

  pub begins_settled : 0 < token → IsSettled beginning
  begins_settled pos = record {
    token = pos;
    words = represents.table.words;
    networks = represents.networks;
    answers = λ a low. best_hop (f + s) R a (entry_at s t a) (represents.best a low);
    links = λ i g e. elim (cases_lt i (2 ^ f)) [
      | inl low ↦ known g (Linked i) (tied.linked i g low (ap group_in e))
      | inr past ↦ absurd (past_end t.firsts i g (omega (arith, past, represents.table.words.firsts_len)) e)
    ];
  }

  pub begins_resting : (max : ℕ) → IsShape f s → IsConfig config → max ≡ config.rules
      → length xs ≡ config.groups → HasGroupRoom s t xs → limbo_count xs ≡ 0
      → IsResting f s beginning [] config (record { rules = R; max = max })
      (record { groups = xs; queue = record { items = []; capacity = length xs }; passed = 0 }) 0
  begins_resting max shape limits same states room none = record {
    shape = shape;
    widths = (refl, refl);
    workers = refl;
    between = record { idle = record { next_step = refl; awaited = refl }; even = refl; clear = λ a low. refl; once = tt };
    version = refl;
    represents = represents;
    tied = tied;
    room = room;
    queued = record { waiting = tt; all = sym none; room = refl };
    keeps = record {
      kept = record {
        free = λ g here. subst (IsFree beginning 0) (sym (known g Free here)) tt;
        linked = λ g b here not. known g (Linked b) here;
        taken = λ g e. absurd (none-some g e);
        rising = tt;
        retired = tt;
        all = λ some g x e. absurd (never g x e);
      };
      remembers = λ some. refl;
    };
    limits = limits;
    max = same;
    states = states;
    versions = refl;
    updates = omega arith;
  }

pub unused_retired : (t : ℕ) → Unused ≡ Retired t → ⊥
unused_retired t e = cc

free_at_first : (n g : ℕ) (state : GroupState) → slice_get (replicate n Free) g ≡ Some state → Unused ≡ status_at_first state
free_at_first zero g state e = absurd cc
free_at_first (suc n) zero state e = let same : Free ≡ state = cc in ap status_at_first same
free_at_first (suc n) (suc g) state e = free_at_first n g state e

pub settled : (f s : ℕ) (config : Config) → IsConfig config → IsSettled (blank_initial_state f s config)
settled f s config limits =
    let new = blank f s (config.groups * 2 ^ s) config.groups in
    begins_settled f s (blank_words (2 ^ f) (config.groups * 2 ^ s)) (empty {R = network_cmp}) (replicate config.groups Free) config config.first_token (λ g. Unused) new.0 new.1
    (free_at_first config.groups) (λ g. unused_retired) (omega (arith, limits.first_token.0))

-- the pool of a new table
abbrev pub new_books : Config → GroupPool
new_books c = record {
  groups = replicate c.groups Free;
  queue = record { items = []; capacity = c.groups };
  passed = 0;
}

pub opened_rests : (f s : ℕ) (config : Config) → IsShape f s → IsConfig config
    → IsResting f s (blank_initial_state f s config) [] config (record { rules = empty {R = network_cmp}; max = config.rules }) (new_books config) 0
opened_rests f s config shape limits =
    let new = blank f s (config.groups * 2 ^ s) config.groups in
    let groups = length-replicate config.groups Free in
    subst (λ n. IsResting f s (blank_initial_state f s config) [] config (record { rules = empty {R = network_cmp}; max = config.rules })
    (record { groups = replicate config.groups Free; queue = record { items = []; capacity = n }; passed = 0 }) 0) groups
    (begins_resting f s (blank_words (2 ^ f) (config.groups * 2 ^ s)) (empty {R = network_cmp}) (replicate config.groups Free) config config.first_token (λ g. Unused) new.0 new.1
    (free_at_first config.groups) (λ g. unused_retired) config.rules shape limits refl groups
    (record { few = omega (arith, groups, limits.groups.1); words = length-replicate (config.groups * 2 ^ s) _ ∙ ap (λ n. n * 2 ^ s) (sym groups) }) (limbo_count-replicate config.groups))
