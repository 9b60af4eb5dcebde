-- A change that goes on is of one kind, and never turns back.
use Rattle.std.proofs.Common.{arith, refl, sym, ◌≡◌, ℕ, subst, ◌≤◌, List, [], ◌∷◌, Some, None, ap, ◌∙◌}
use Rattle.lpm_cells.specs.Words.{Words}
use Rattle.lpm_update.specs.declared.Did.{Did}
use Rattle.lpm_update.specs.declared.Did.TheVariants.{First, Second, Unlinked, Done}
use Rattle.lpm_update.specs.declared.link_group.LinkGroup.{LinkGroup}
use Rattle.lpm_update.specs.declared.rewrite_range.RewriteRange.{RewriteRange}
use Rattle.lpm_update.specs.declared.update.Plan.{Plan}
use Rattle.lpm_update.specs.declared.update.Plan.TheVariants.{Range, Link, Unlink, Flush}
use Rattle.lpm_update.specs.BlockGroups.{IsTable}
use Rattle.lpm_update.specs.Rewrite.{Skips}
use Rattle.lpm_update.specs.Kinds.{IsFurther, Visits}
use Rattle.lpm_update.specs.Update.{IsUnderWay, IsOnward}
use Rattle.lpm_update.specs.Step.{Steps, StoresNext, SetsWord}
use Rattle.lpm_update.specs.Laws.{KeepsGroups, Leads, RunsOn}
use Rattle.lpm_update.proofs.RangeSteps.{further_same, further_on, mid_steps, range_done, skips_join}
use Rattle.lpm_update.specs.declared.unlink_group.UnlinkGroup.{UnlinkGroup}
use Rattle.lpm_update.specs.declared.flush.Flush.{Flush as FlushData}

-- Several steps of a change in one call.

-- a step that stored a word and unlinked no group
pub keeps_groups : (did : Did) → ((b g : ℕ) → did ≡ Unlinked b g → ⊥) → (did ≡ Done → ⊥) → KeepsGroups did
keeps_groups (First i) n stored = tt
keeps_groups (Second j) n stored = tt
keeps_groups (Unlinked b g) n stored = n b g refl
keeps_groups Done n stored = stored refl

-- an addition by a group unlinks none
pub link_keeps : (f s : ℕ) (u : LinkGroup) (v : Plan) (W W' : Words) (did : Did) → Steps f s (Link u) W did v W' → (b g : ℕ) → did ≡ Unlinked b g → ⊥
link_keeps f s u v W W' did h b g e = (subst (λ d. StoresNext f s d (Link u) W v W') e h.stored).0

module _ {A : Type 0} (words : A → Words) (P Q : A → ℕ → ℕ → A → Type 0) (f s : ℕ) where
  -- steps lead from the change u on the cells c to v and the cells d, and it may go on there
  pub record Advances (u : Plan) (c : A) (v : Plan) (d : A) : Type 0 where
    pub dids : List Did
    pub leads : Leads words P Q f s u c dids v d
    pub table : IsTable f s (words d)
    pub under_way : IsUnderWay f s v (words d)

  -- the same of a range, some places of which were looked at since the last store
  pub record Visited (u : RewriteRange) (c : A) (v : RewriteRange) (d : A) : Type 0 where
    pub last : RewriteRange
    pub advances : Advances (Range u) c (Range last) d
    pub further : IsFurther last v
    pub under_way : IsUnderWay f s (Range v) (words d)
    pub skips : Skips s last.rewrite (words d) last.at v.at

  pub advances_same : (u : Plan) (c : A) → IsTable f s (words c) → IsUnderWay f s u (words c) → Advances u c u c
  advances_same u c table k = record { dids = []; leads = (refl, refl); table = table; under_way = k }

  pub advances_step : (u : Plan) (c : A) (did : Did) (v : Plan) (d : A) (v' : Plan) (d' : A) → KeepsGroups did → Advances u c v d → Steps f s v (words d) did v' (words d') → SetsWord words P Q d did d'
      → Advances u c v' d'
  advances_step u c did v d v' d' n k h sets = record {
    dids = did ∷ k.dids;
    leads = (v, d, k.leads, n, h, sets);
    table = h.table;
    under_way = h.under_way;
  }

  -- nothing is left to store
  pub ran_all : (u : Plan) (c : A) (m : Plan) (b : A) (v : Plan) (d : A) → Advances u c m b → Steps f s m (words b) Done v (words d) → d ≡ b → RunsOn words P Q f s u c None v d
  ran_all u c m b v d k h same = subst (RunsOn words P Q f s u c None v) (sym same) (k.dids, m, k.leads, subst (λ x. Steps f s m (words b) Done v (words x)) same h)

  -- the group of a block is unlinked
  pub ran_to : (u : Plan) (c : A) (m : Plan) (b : A) (block g : ℕ) (v : Plan) (d : A) → Advances u c m b → Steps f s m (words b) (Unlinked block g) v (words d) → SetsWord words P Q b (Unlinked block g) d
      → RunsOn words P Q f s u c (Some g) v d
  ran_to u c m b block g v d k h sets = (k.dids, m, b, block, k.leads, h, sets)

  pub visited_same : (u : RewriteRange) (c : A) → IsTable f s (words c) → IsUnderWay f s (Range u) (words c) → Visited u c u c
  visited_same u c table k = record {
    last = u;
    advances = advances_same (Range u) c table k;
    further = further_same u;
    under_way = k;
    skips = λ a low high. absurd (omega (arith, low, high));
  }

  module _ (u : RewriteRange) (c : A) (m : RewriteRange) (d : A) (k : Visited u c m d) (v : RewriteRange) where
    -- after a look at the next place that stored a word
    stored_visit : (did : Did) (d' : A) → KeepsGroups did → (did ≡ Done → ⊥) → Visits f s m (words d) did v (words d') → SetsWord words P Q d did d' → Visited u c v d'
    stored_visit did d' n stored h sets =
        let st = mid_steps s k.last m (words d) k.further k.skips f did v (words d') k.advances.table k.advances.under_way stored h in
        record {
          last = v;
          advances = advances_step (Range u) c did (Range k.last) d (Range v) d' n k.advances st sets;
          further = further_same v;
          under_way = st.under_way;
          skips = λ a low high. absurd (omega (arith, low, high));
        }

    -- after one that stored none
    passed_visit : Visits f s m (words d) Done v (words d) → Visited u c v d
    passed_visit h = record {
      last = k.last;
      advances = k.advances;
      further = further_on k.last m v k.further h.further;
      under_way = h.stored.0;
      skips = skips_join s k.last.at m.at v.at k.last.rewrite (words d) k.skips (subst (λ w. Skips s w (words d) m.at v.at) k.further.rewrite h.stored.1);
    }

    pub visited_visit : (did : Did) (d' : A) → Visits f s m (words d) did v (words d') → SetsWord words P Q d did d' → Visited u c v d'
    visited_visit (First i) d' h sets = stored_visit (First i) d' tt (λ e. cc) h sets
    visited_visit (Second j) d' h sets = stored_visit (Second j) d' tt (λ e. cc) h sets
    visited_visit (Unlinked b g) d' h sets = absurd h.stored
    visited_visit Done d' h sets = subst (Visited u c v) (sym sets) (passed_visit (subst (λ x. Visits f s m (words d) Done v (words x)) sets h))

  -- all places were looked at
  pub visited_all : (u : RewriteRange) (c : A) (v : RewriteRange) (d : A) → Visited u c v d → v.end ≤ v.at → RunsOn words P Q f s (Range u) c None (Range v) d
  visited_all u c v d k done =
      let within = k.under_way.within in
      (k.advances.dids, Range k.last, k.advances.leads, range_done f s k.last v (words d) k.advances.table k.advances.under_way k.further k.under_way k.skips (omega (arith, done, within)))

pub onward_same : (u : Plan) → IsOnward u u
onward_same (Range u) = further_same u
onward_same (Link u) = (refl, omega arith)
onward_same (Unlink u) = (further_same u.range, refl, λ e. e)
onward_same (Flush u) = omega arith

-- a change goes onward to one of its own kind
pub by_kind : (P : Plan → Plan → Type 0) → ((u v : RewriteRange) → IsOnward (Range u) (Range v) → P (Range u) (Range v))
    → ((u v : LinkGroup) → IsOnward (Link u) (Link v) → P (Link u) (Link v)) → ((u v : UnlinkGroup) → IsOnward (Unlink u) (Unlink v) → P (Unlink u) (Unlink v))
    → ((u v : FlushData) → IsOnward (Flush u) (Flush v) → P (Flush u) (Flush v)) → (u v : Plan) → IsOnward u v → P u v
by_kind P s f c l (Range u) (Range v) o = s u v o
by_kind P s f c l (Range u) other o = absurd o
by_kind P s f c l (Link u) (Link v) o = f u v o
by_kind P s f c l (Link u) other o = absurd o
by_kind P s f c l (Unlink u) (Unlink v) o = c u v o
by_kind P s f c l (Unlink u) other o = absurd o
by_kind P s f c l (Flush u) (Flush v) o = l u v o
by_kind P s f c l (Flush u) other o = absurd o

range_onward : (u v : RewriteRange) → IsFurther u v → (w : Plan) → IsOnward (Range v) w → IsOnward (Range u) w
range_onward u v a (Range w) b = further_on u v w a b
range_onward u v a other b = absurd b

link_onward : (u v : LinkGroup) → IsOnward (Link u) (Link v) → (w : Plan) → IsOnward (Link v) w → IsOnward (Link u) w
link_onward u v a (Link w) b = (b.0 ∙ ap (λ (x : LinkGroup). record x { next = w.next }) a.0, let p = a.1 in let q = b.1 in omega (arith, p, q))
link_onward u v a other b = absurd b

unlink_onward : (u v : UnlinkGroup) → IsOnward (Unlink u) (Unlink v) → (w : Plan) → IsOnward (Unlink v) w → IsOnward (Unlink u) w
unlink_onward u v a (Unlink w) b = (further_on u.range v.range w.range a.0 b.0, b.1 ∙ a.1, λ e. b.2 (a.2 e))
unlink_onward u v a other b = absurd b

flush_onward : (u v : FlushData) → u.next ≤ v.next → (w : Plan) → IsOnward (Flush v) w → IsOnward (Flush u) w
flush_onward u v a (Flush w) b = omega (arith, a, b)
flush_onward u v a other b = absurd b

pub onward_on : (u v w : Plan) → IsOnward u v → IsOnward v w → IsOnward u w
onward_on u v w a = by_kind (λ x y. (z : Plan) → IsOnward y z → IsOnward x z) range_onward link_onward unlink_onward flush_onward u v a w
