-- A run of steps, from its beginning to its end.
use Rattle.std.proofs.Common.{arith, ◌≡◌, ℕ, ◌+◌, ◌^◌, ◌≤◌, ◌⊎◌, inl, inr, true, refl, ap, sym, ◌∙◌, subst, Option, Some, None, ◌*◌, ◌<◌, length, List, [], ◌∷◌}
use Rattle.std.specs.Prelude.{◌==◌, if◌then◌else◌, IsSome, slice_index_or}
use Rattle.std.proofs.Math.Nat.{mul-le-mul_right}
use Rattle.std.proofs.lemmas.Nat.{pow-add, shr_below}
use Rattle.std.proofs.lemmas.Bool.{cases_lt, cases_Bool}
use Rattle.lpm_cells.specs.declared.entry.Entry.{Entry}
use Rattle.lpm_cells.specs.Words.{entry_at, Words, IsFirstWord, with_first, with_second, IsLastWord}
use Rattle.lpm_update.specs.declared.link_group.LinkGroup.{LinkGroup}
use Rattle.lpm_update.specs.declared.rewrite.Rewrite.{Rewrite}
use Rattle.lpm_update.specs.declared.update.Plan.{Plan}
use Rattle.lpm_update.specs.declared.update.Plan.TheVariants.{Range, Link, Unlink, Flush}
use Rattle.lpm_update.specs.Rewrite.{rewritten_entry, Stands}
use Rattle.lpm_update.specs.Kinds.{final_entry, reach_of_link, IsRewriting, IsFirstStore, IsSecondStore, IsFurther, IsUnlinkStore}
use Rattle.lpm_update.specs.Update.{IsUnderWay, IsOnward, from_of, end_of, reached_of, rewrite_of, group_after, IsNextFirst, IsNextSecond, IsNextUnlink, StandsSoFar, HasGroups, IsOver, SameGroups, group_held, entry_after}
use Rattle.lpm_update.specs.Laws.{AnswersTurnOnce, Moves, NextStore, RunBegins, RunGoesOn, RunEnds, NoWordTwice, Runs, HasCome, IsSameWord}
use Rattle.lpm_update.proofs.Links.{range_true, final_same, reached_low, reached_high, next_place, link_fill, link_link}
use Rattle.lpm_update.proofs.Onward.{by_kind, onward_same, onward_on}
use Rattle.std.proofs.lemmas.List.{get_or-set_same}
use Rattle.std.proofs.Math.ListN.{length-set}
use Rattle.lpm_update.specs.declared.Did.TheVariants.{First, Second, Unlinked, Done}
use Rattle.lpm_update.specs.declared.rewrite_range.RewriteRange.{RewriteRange}
use Rattle.lpm_update.specs.BlockGroups.{IsTable, group_at}
use Rattle.lpm_update.specs.Step.{Steps, StoresNext, HasPassed}
use Rattle.lpm_update.proofs.Groups.{first_within, held_by, there_is}
use Rattle.lpm_update.proofs.RangeSteps.{come_on, place_within, range_first, range_second, range_done}
use Rattle.lpm_update.proofs.Unlinks.{unlink_range, unlink_link, stands_final}
use Rattle.lpm_update.proofs.Flushes.{come_to, flush_first, flush_unlink}
use Rattle.std.specs.List.{All, AllPairs}
use Rattle.std.proofs.lemmas.List.Elements.{All-nil, All-cons}
use Rattle.std.proofs.lemmas.List.Kept.{AllPairs-cons}
use Rattle.lpm_update.specs.declared.Did.{Did}
use Rattle.lpm_update.specs.Best.{IsBest}
use Rattle.lpm_update.proofs.Once.{passed_stays, not_twice}

-- An address goes from its old answer to its new one, and not back.

-- ---- where the change has come

above_from : (s : ℕ) (u : LinkGroup) → u.from ≤ u.end → u.from ≤ reach_of_link s u
above_from s u r = elim (cases_lt (2 ^ s) u.next) [
  | inl past ↦ omega (arith, r, reached_high s u past)
  | inr before ↦ omega (arith, reached_low s u before)
]

below_end : (s : ℕ) (u : LinkGroup) → u.from ≤ u.end → reach_of_link s u ≤ u.end
below_end s u r = elim (cases_lt (2 ^ s) u.next) [
  | inl past ↦ omega (arith, reached_high s u past)
  | inr before ↦ omega (arith, r, reached_low s u before)
]

reached_link : (s : ℕ) (u v : LinkGroup) → u.from ≤ u.end → IsOnward (Link u) (Link v) → reach_of_link s u ≤ reach_of_link s v
reached_link s u v r o =
    let n = o.1 in
    let from : v.from ≡ u.from = ap (λ (z : LinkGroup). z.from) o.0 in
    let end : v.end ≡ u.end = ap (λ (z : LinkGroup). z.end) o.0 in
    elim (cases_lt (2 ^ s) u.next) [
      | inl past ↦ omega (arith, end, reached_high s u past, reached_high s v (omega (arith, n, past)))
      | inr before ↦
          let low = above_from s v (omega (arith, from, end, r)) in
          omega (arith, from, low, reached_low s u before)
    ]

reached_on : (f s : ℕ) (u v : Plan) (W : Words) → IsUnderWay f s u W → IsOnward u v → reached_of s u ≤ reached_of s v
reached_on f s u v W k o = by_kind (λ x y. IsUnderWay f s x W → reached_of s x ≤ reached_of s y)
    (λ x y o k. o.at)
    (λ x y o k. reached_link s x y k.range o)
    (λ x y o k. o.0.at)
    (λ x y o k. mul-le-mul_right (2 ^ s) o)
    u v o k

reached_within : (f s : ℕ) (u : Plan) (W : Words) → IsUnderWay f s u W → reached_of s u ≤ end_of (f + s) u
reached_within f s (Range u) W k = k.within
reached_within f s (Link u) W k = below_end s u k.range
reached_within f s (Unlink u) W k = elim (cases_Bool u.unlinked) [
  | inl gone ↦ let e = k.1 gone in omega (arith, e)
  | inr still ↦ (k.0 still).rewriting.within
]
reached_within f s (Flush u) W k = let m = mul-le-mul_right (2 ^ s) k in let e = pow-add 2 f s in omega (arith, m, e)

-- ---- it is the same change

pub from_same : (u v : Plan) → IsOnward u v → from_of v ≡ from_of u
from_same = by_kind (λ x y. from_of y ≡ from_of x) (λ x y o. o.from) (λ x y o. ap (λ (z : LinkGroup). z.from) o.0) (λ x y o. o.0.from) (λ x y o. refl)

pub end_same : (width : ℕ) (u v : Plan) → IsOnward u v → end_of width v ≡ end_of width u
end_same width = by_kind (λ x y. end_of width y ≡ end_of width x) (λ x y o. o.end) (λ x y o. ap (λ (z : LinkGroup). z.end) o.0) (λ x y o. o.0.end) (λ x y o. refl)

pub rewrite_same : (u v : Plan) → IsOnward u v → rewrite_of v ≡ rewrite_of u
rewrite_same = by_kind (λ x y. rewrite_of y ≡ rewrite_of x) (λ x y o. o.rewrite) (λ x y o. ap (λ (z : LinkGroup). z.rewrite) o.0) (λ x y o. o.0.rewrite) (λ x y o. refl)

pub groups_same : (u v : Plan) → IsOnward u v → (L : ℕ → Option ℕ) (i : ℕ) → group_after v L i ≡ group_after u L i
groups_same = by_kind (λ x y. (L : ℕ → Option ℕ) (i : ℕ) → group_after y L i ≡ group_after x L i) (λ x y o L i. refl)
    (λ x y o L i. ap (λ (z : LinkGroup). if i == z.block then Some z.group else L i) o.0) (λ x y o L i. ap (λ z. if i == z then None else L i) o.1) (λ x y o L i. refl)

-- ---- the answers

turns : (s from at next end : ℕ) (c : Rewrite) (W W' : Words) (E : ℕ → Entry) (a : ℕ) → at ≤ next → next ≤ end → Stands s from at c W E → Stands s from next c W' E
    → (entry_at s W' a ≡ entry_at s W a) ⊎ ((entry_at s W a ≡ E a) × (entry_at s W' a ≡ final_entry from end c a (E a)))
turns s from at next end c W W' E a on within t t' = elim (cases_lt a from) [
  | inl below ↦ inl (t'.before a below ∙ sym (t.before a below))
  | inr above ↦ elim (cases_lt a at) [
    | inl done ↦ inl (t'.done a above (omega (arith, done, on)) ∙ sym (t.done a above done))
    | inr todo ↦ elim (cases_lt a next) [
      | inl now ↦ inr (t.todo a todo, t'.done a above now ∙ sym (range_true from end a (rewritten_entry c (E a)) (E a) above (omega (arith, now, within))))
      | inr later ↦ inl (t'.todo a later ∙ sym (t.todo a todo))
    ]
  ]
]

pub answers_turn_once : AnswersTurnOnce
answers_turn_once f s u v W W' E k k' o t t' =
    let within = reached_within f s v W' k' in
    let end = end_same (f + s) u v o in
    let later = subst (λ x. Stands s (from_of u) (reached_of s v) x W' E) (rewrite_same u v o) (subst (λ x. Stands s x (reached_of s v) (rewrite_of v) W' E) (from_same u v o) t') in
    let d : Moves f s u E W W' = λ a.
    turns s (from_of u) (reached_of s u) (reached_of s v) (end_of (f + s) u) (rewrite_of u) W W' E a (reached_on f s u v W k o) (omega (arith, within, end)) t later in (
      d,
      λ a new. elim (d a) [
        | inl same ↦ same ∙ new
        | inr turned ↦ turned.1
      ],
    )

-- The next store of a change, whatever the cells are.

-- the range that has come to that address
abbrev moved_to : RewriteRange → ℕ → RewriteRange
moved_to u at = record u { at = at }

module _ (f s : ℕ) (u : RewriteRange) (W : Words) (t : IsTable f s W) (k : IsRewriting f s u.from u.at u.end u.rewrite W.firsts) where
  first_moved : (i w : ℕ) → IsFirstStore s u.at u.end u.rewrite W i w → IsFurther u (moved_to u (i * 2 ^ s + 2 ^ s))
  first_moved i w n = record { from = refl; end = refl; rewrite = refl; at = let l = n.low in omega (arith, l) }

  second_moved : (g x j w : ℕ) → IsSecondStore s u.at u.end u.rewrite W g x j w → IsFurther u (moved_to u (x + 1))
  second_moved g x j w n = record { from = refl; end = refl; rewrite = refl; at = let l = n.low in omega (arith, l) }

  first_steps : (i w : ℕ) → IsFirstStore s u.at u.end u.rewrite W i w → Steps f s (Range u) W (First i) (Range (moved_to u (i * 2 ^ s + 2 ^ s))) (with_first W i w)
  first_steps i w n = range_first f s u (moved_to u (i * 2 ^ s + 2 ^ s)) W t k (first_moved i w n) i w n refl

  second_steps : (g x j w : ℕ) → IsSecondStore s u.at u.end u.rewrite W g x j w → Steps f s (Range u) W (Second j) (Range (moved_to u (x + 1))) (with_second W j w)
  second_steps g x j w n = range_second f s u (moved_to u (x + 1)) W t k (second_moved g x j w n) g x j w n refl

  first_place : (i w : ℕ) → IsFirstStore s u.at u.end u.rewrite W i w → i < length W.firsts
  first_place i w n = subst (λ x. i < x) (sym t.words.firsts_len) (first_within f s i u.end n.high k.fits)

  second_place : (g x j w : ℕ) → IsSecondStore s u.at u.end u.rewrite W g x j w → j < length W.seconds
  second_place g x j w n =
      let high = n.high in
      subst (λ y. y < length W.seconds) (sym n.place) (place_within f s W g x t (shr_below x f s (let z = k.fits in omega (arith, z, high))) n.group)

-- a store in the first table that is the next one is a step
pub next_first : (f s : ℕ) (u : Plan) (W : Words) (i w : ℕ) → IsTable f s W → IsUnderWay f s u W → IsNextFirst f s u W i w → (i < length W.firsts) × ((v : Plan) × Steps f s u W (First i) v (with_first W i w))
next_first f s (Range u) W i w t k n = (first_place f s u W t k i w n, (Range (moved_to u (i * 2 ^ s + 2 ^ s)), first_steps f s u W t k i w n))
next_first f s (Link u) W i w t k n =
    (subst (λ x. i < x) (sym t.words.firsts_len) (subst (λ x. x < 2 ^ f) (sym n.1) k.block), (Link (next_place u), link_link f s u W t k i w n))
next_first f s (Unlink u) W i w t k n =
    let d = k.0 n.0 in (
      first_place f s u.range W t d.rewriting i w n.1,
      (
        Unlink (record u { range = moved_to u.range (i * 2 ^ s + 2 ^ s) }),
        unlink_range f s u W n.0 d (moved_to u.range (i * 2 ^ s + 2 ^ s)) (with_first W i w) (First i) (λ e. absurd cc) (first_steps f s u.range W t d.rewriting i w n.1),
      ),
    )
next_first f s (Flush u) W i w t k n = (subst (λ x. i < x) (sym t.words.firsts_len) n.0.high, (Flush (come_to (i + 1)), flush_first f s u W t i w n.0 n.1))

pub next_second : (f s : ℕ) (u : Plan) (W : Words) (j w : ℕ) → IsTable f s W → IsUnderWay f s u W → IsNextSecond s u W j w → (j < length W.seconds) × ((v : Plan) × Steps f s u W (Second j) v (with_second W j w))
next_second f s (Range u) W j w t k n = (second_place f s u W t k n.0 n.1 j w n.2, (Range (moved_to u (n.1 + 1)), second_steps f s u W t k n.0 n.1 j w n.2))
next_second f s (Link u) W j w t k n =
    let more = n.0 in
    let place = n.1 in
    let room : u.group * 2 ^ s + 2 ^ s ≤ length W.seconds = k.room in
    (omega (arith, more, place, room), (Link (next_place u), link_fill f s u W t k j w n))
next_second f s (Unlink u) W j w t k n =
    let d = k.0 n.0 in (
      second_place f s u.range W t d.rewriting n.1.0 n.1.1 j w n.1.2,
      (
        Unlink (record u { range = moved_to u.range (n.1.1 + 1) }),
        unlink_range f s u W n.0 d (moved_to u.range (n.1.1 + 1)) (with_second W j w) (Second j) (λ e. absurd cc) (second_steps f s u.range W t d.rewriting n.1.0 n.1.1 j w n.1.2),
      ),
    )
next_second f s (Flush u) W j w t k n = absurd n

pub next_unlink : (f s : ℕ) (u : Plan) (W : Words) (b g w : ℕ) → IsTable f s W → IsUnderWay f s u W → IsNextUnlink f s u W b g w → (b < length W.firsts) × ((v : Plan) × Steps f s u W (Unlinked b g) v (with_first W b w))
next_unlink f s (Range u) W b g w t k n = absurd n
next_unlink f s (Link u) W b g w t k n = absurd n
next_unlink f s (Unlink u) W b g w t k n =
    let d = k.0 n.0 in
    let r = moved_to u.range u.range.end in
    let within = d.rewriting.within in
    let now = come_on f s r.from u.range.at r.at r.end r.rewrite W.firsts within (omega arith) d.rewriting.whole_end d.rewriting in
    let done = range_done f s u.range r W t d.rewriting (record { from = refl; end = refl; rewrite = refl; at = within }) now n.2 refl in (
      subst (λ x. b < x) (sym t.words.firsts_len) (subst (λ x. x < 2 ^ f) (sym n.1) d.in_table),
      (
        Unlink (record u { range = r; unlinked = true }),
        subst (λ x. Steps f s (Unlink u) W (Unlinked x g) (Unlink (record u { range = r; unlinked = true })) (with_first W x w)) (sym n.1)
            (unlink_link f s u W n.0 r g w d done n.2 (subst (λ x. IsUnlinkStore s W x g w) n.1 n.3)),
      ),
    )
next_unlink f s (Flush u) W b g w t k n = (subst (λ x. b < x) (sym t.words.firsts_len) n.0.high, (Flush (come_to (b + 1)), flush_unlink f s u W t b w n.0 g n.1))

-- each address keeps its entry in a step, or goes from the old to the new one
moves : (f s : ℕ) (u v : Plan) (W W' : Words) (E : ℕ → Entry) → IsUnderWay f s u W → StandsSoFar s u W E → IsUnderWay f s v W' → IsOnward u v → StandsSoFar s v W' E → Moves f s u E W W'
moves f s u v W W' E k st k' on st' = (answers_turn_once f s u v W W' E k k' on st st').0

pub next_store : NextStore
next_store f s u W t k = record {
  first_word = λ i w n.
      let h = next_first f s u W i w t k n in
      let a = h.1.1 in (
        subst (IsFirstWord (f + s) s W.seconds) (get_or-set_same W.firsts i w 0 h.0) (a.table.words.first_words i (subst (λ x. i < x) (sym (length-set W.firsts i w)) h.0)),
        λ E st. moves f s u h.1.0 W (with_first W i w) E k st a.under_way a.onward (a.stands E st),
      );
  second_word = λ j w n.
      let h = next_second f s u W j w t k n in
      let a = h.1.1 in (
        subst (IsLastWord (f + s)) (get_or-set_same W.seconds j w 0 h.0) (a.table.words.second_words j (subst (λ x. j < x) (sym (length-set W.seconds j w)) h.0)),
        λ E st. moves f s u h.1.0 W (with_second W j w) E k st a.under_way a.onward (a.stands E st),
      );
  unlink = λ b g w n.
      let h = next_unlink f s u W b g w t k n in
      let a = h.1.1 in (
        subst (IsFirstWord (f + s) s W.seconds) (get_or-set_same W.firsts b w 0 h.0) (a.table.words.first_words b (subst (λ x. b < x) (sym (length-set W.firsts b w)) h.0)),
        λ E st. moves f s u h.1.0 W (with_first W b w) E k st a.under_way a.onward (a.stands E st),
      );
}

-- ---- one step after another

pub run_begins : RunBegins
run_begins f s u W t b = record { onward = onward_same u; table = t; under_way = b.under_way; stands = b.stands; groups = b.groups; sizes = refl }

same_size : (f s : ℕ) (did : Did) (u v : Plan) (W W' : Words) → StoresNext f s did u W v W' → length W'.seconds ≡ length W.seconds
same_size f s (First i) u v W W' h = ap (λ (x : Words). length x.seconds) h.1
same_size f s (Second j) u v W W' h = ap (λ (x : Words). length x.seconds) h.1 ∙ length-set W.seconds j _
same_size f s (Unlinked b g) u v W W' h = ap (λ (x : Words). length x.seconds) h.1
same_size f s Done u v W W' h = ap (λ (x : Words). length x.seconds) h.0

pub run_goes_on : RunGoesOn
run_goes_on f s u t did v v' z z' k h = record {
  onward = onward_on u v v' k.onward h.onward;
  table = h.table;
  under_way = h.under_way;
  stands = h.stands (entry_at s t) k.stands;
  groups = h.groups (group_at t.firsts) k.groups;
  sizes = same_size f s did v v' z z' h.stored ∙ k.sizes;
}

-- ---- the end

-- each address has the entry that it has after the change
pub over_entries : (f s : ℕ) (u v : Plan) (W : Words) (E : ℕ → Entry) → IsOnward u v → IsOver f s v → StandsSoFar s v W E → (a : ℕ) → entry_at s W a ≡ entry_after (f + s) u E a
over_entries f s u v W E on over t a =
    let whole : Stands s (from_of v) (end_of (f + s) v) (rewrite_of v) W E = subst (λ x. Stands s (from_of v) x (rewrite_of v) W E) over.reached t in
    stands_final s (from_of v) (end_of (f + s) v) (rewrite_of v) W E whole a
    ∙ final_same a (E a) _ _ _ _ _ _ (from_same u v on) (end_same (f + s) u v on) (rewrite_same u v on)

-- the groups that are held are those that the blocks have
over_held : (f s : ℕ) (v : Plan) (F : List ℕ) (L : ℕ → Option ℕ) → IsOver f s v → HasGroups f s v F L → SameGroups f (group_held v F) (group_at F)
over_held f s (Range v) F L over known i low = refl
over_held f s (Link v) F L over known i low =
    let now = known i low ∙ over.groups L i low in
    now ∙ held_by i v.block (Some v.group) (L i) (group_at F i) (λ n. sym (now ∙ there_is i v.block (Some v.group) (L i) n))
over_held f s (Unlink v) F L over known i low = refl
over_held f s (Flush v) F L over known i low = refl

pub run_ends : RunEnds
run_ends f s R R' u t v z known turns k over = (
  record {
    table = k.table;
    networks = turns.networks known.networks;
    best = λ a low. subst (IsBest (f + s) R' a) (sym (over_entries f s u v z (entry_at s t) k.onward over k.stands a)) (turns.best (entry_at s t) known.best a low);
    groups = λ i low.
        let e = k.groups i low ∙ over.groups (group_at t.firsts) i low ∙ groups_same u v k.onward (group_at t.firsts) i in
        let d = turns.groups (group_at t.firsts) known.groups i low in
        ((λ some. d.0 (subst IsSome e some)), (λ deep. subst IsSome (sym e) (d.1 deep)));
  },
  over_held f s v z.firsts (group_at t.firsts) over k.groups,
)

-- ---- no word twice

all_along : (f s : ℕ) (u : Plan) (t : Words) (dids : List Did) (v : Plan) (z : Words) → HasCome f s u t u t → Runs f s u t dids v z → HasCome f s u t v z
all_along f s u t [] v z k run = subst (λ x. HasCome f s u t x z) (sym run.0) (subst (HasCome f s u t u) (sym run.1) k)
all_along f s u t (did ∷ before) v z k run = run_goes_on f s u t did run.0 v run.1 z (all_along f s u t before run.0 run.1 k run.2) run.3

-- each word that was stored is passed
all_passed : (f s : ℕ) (u : Plan) (t : Words) (dids : List Did) (v : Plan) (z : Words) → HasCome f s u t u t → Runs f s u t dids v z → All (λ d. HasPassed s d v z.firsts) dids
all_passed f s u t [] v z k run = All-nil _
all_passed f s u t (did ∷ before) v z k run =
    let here = all_along f s u t before run.0 run.1 k run.2 in
    let old = all_passed f s u t before run.0 run.1 k run.2 in
    All-cons (λ d. HasPassed s d v z.firsts) did before run.3.passed (λ n d l. passed_stays f s (slice_index_or before n d) did run.0 v run.1 z here.under_way (old n d l) run.3)

pub no_word_twice : NoWordTwice
no_word_twice f s u t dids v z table begun run = apart dids v z run
  where
    apart : (dids : List Did) (v : Plan) (z : Words) → Runs f s u t dids v z → AllPairs (λ late early. ¬ IsSameWord early late) dids
    apart [] v z run = λ i j d l m. absurd (omega (arith, m))
    apart (did ∷ before) v z run =
        let k = run_begins f s u t table begun in
        let here = all_along f s u t before run.0 run.1 k run.2 in
        let old = all_passed f s u t before run.0 run.1 k run.2 in
        AllPairs-cons (λ late early. ¬ IsSameWord early late) did before
        (λ n d l. not_twice f s (slice_index_or before n d) did run.0 v run.1 z here.table here.under_way (old n d l) run.3.stored)
        (apart before run.0 run.1 run.2)
