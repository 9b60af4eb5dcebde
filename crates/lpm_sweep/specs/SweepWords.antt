-- This layer's own: the words of the first blocks, for the rules that begin in them or before.
use Rattle.std.specs.Prelude.{ℕ, ◌≢◌, ◌+◌, ◌*◌, ◌/◌, ◌^◌, ◌<◌, ◌≤◌, List, length, slice_index, ◌≡◌, nat_lt, if◌then◌else◌, [], ◌∷◌, ◌↔◌, IsSome, Some, slice_get}
use Rattle.lpm_cells.specs.Words.{IsLastWord, entry_in, Words, IsFirstWord, entry_at}
use Rattle.lpm_cells.specs.declared.entry.Entry.{Entry}
use Rattle.lpm_rules.specs.RuleMap.{RuleMap, AllNetworks}
use Rattle.lpm_rules.specs.Deep.{IsDeepBlock}
use Rattle.lpm_update.specs.Best.{IsBest}
use Rattle.lpm_sweep.specs.declared.frames.Frame.{Frame}
use Rattle.lpm_sweep.specs.declared.frames.Frames.{Frames}
use Rattle.lpm_update.specs.BlockGroups.{IsLinkTo, group_at}
use Rattle.lpm_sweep.specs.declared.whole_sweep.Swept.{Swept}

-- A group that is filled upwards, for the rules of one block that are longer than FIRST bits.

-- the group from `base` on is filled up to the end of the list for the rules R, which are those of
-- R0 and some of block b that are longer than FIRST bits; the places behind have the words w
pub record IsFilling (first second b base : ℕ) (R0 R : RuleMap) (seconds : List ℕ) (w : ℕ → ℕ)
    : Type 0 where
  pub networks : AllNetworks (first + second) R
  pub done : (r : ℕ) → r < 2 ^ second → base + r < length seconds
      → IsBest (first + second) R (b * 2 ^ second + r) (entry_in (slice_index seconds (base + r)))
  pub todo : (r : ℕ) → r < 2 ^ second → length seconds ≤ base + r
      → IsBest (first + second) R (b * 2 ^ second + r) (entry_in (w (base + r)))
  pub stored : (j : ℕ) → base ≤ j → j < length seconds
      → IsLastWord (first + second) (slice_index seconds j)
  pub held : (k : ℕ) → length seconds ≤ k → IsLastWord (first + second) (w k)
  pub others : (a : ℕ) (e : Entry) → a / 2 ^ second ≢ b
      → IsBest (first + second) R0 a e → IsBest (first + second) R a e
  pub kept : (i : ℕ) → IsDeepBlock first second R0 i → IsDeepBlock first second R i
  pub no_other : (i : ℕ) → i ≢ b → IsDeepBlock first second R i → IsDeepBlock first second R0 i

-- The words of the rules that cover a place, and the lists of words that they fill.

-- the word of a place under a frame, where the frames below give it w
abbrev pub under : Frame → ℕ → ℕ → ℕ
under f k w = if nat_lt k f.end then f.word else w

-- the word of a place by frames, of which the topmost stands last
abbrev pub word_at : ℕ → List Frame → ℕ → ℕ
word_at rest [] k = rest
word_at rest (f ∷ fs) k = word_at (under f k rest) fs k

-- the word that the frames give to a place
abbrev pub word_by_frames : Frames → ℕ → ℕ
word_by_frames fs k = under fs.top k (word_at fs.rest fs.below.items k)

-- from a place on the frames give the same words
abbrev pub Agrees : Frames → Frames → ℕ → Type 0
Agrees old new from = (k : ℕ) → from ≤ k → word_by_frames new k ≡ word_by_frames old k

-- the frame lies over the old ones
abbrev pub Covers : Frame → Frames → Frames → Type 0
Covers f old new = (k : ℕ) → word_by_frames new k ≡ under f k (word_by_frames old k)

-- words were put last, each by its place
pub record Fills (old new : List ℕ) (w : ℕ → ℕ) : Type 0 where
  pub more : length old ≤ length new
  pub kept : (k : ℕ) → k < length old → slice_index new k ≡ slice_index old k
  pub filled : (k : ℕ) → length old ≤ k → k < length new → slice_index new k ≡ w k

-- how many frames can be taken off, where one that ends at the greatest number never ends
abbrev pub rank : Frames → ℕ
rank fs = length fs.below.items + (if nat_lt fs.top.end 18446744073709551615 then 1 else 0)

-- the words as two lists
abbrev pub words_of : Swept → Words
words_of t = record { firsts = t.first_words.items; seconds = t.second_words.items }

-- the blocks that have a first word answer by R, and `groups` of them have a group; no rule of R
-- that is longer than FIRST bits lies in another block, and these have the words w
pub record IsSwept (first second groups : ℕ) (R : RuleMap) (t : Words) (w : ℕ → ℕ)
    : Type 0 where
  pub few : length t.firsts ≤ 2 ^ first
  pub room : length t.seconds ≡ groups * 2 ^ second
  pub networks : AllNetworks (first + second) R
  pub done : (a : ℕ) → a / 2 ^ second < length t.firsts
      → IsBest (first + second) R a (entry_at second t a)
  pub todo : (a : ℕ) → a < 2 ^ (first + second) → length t.firsts ≤ a / 2 ^ second
      → IsBest (first + second) R a (entry_in (w (a / 2 ^ second)))
  pub first_words : (i : ℕ) → i < length t.firsts
      → IsFirstWord (first + second) second t.seconds (slice_index t.firsts i)
  pub second_words : (j : ℕ) → j < length t.seconds
      → IsLastWord (first + second) (slice_index t.seconds j)
  pub held : (k : ℕ) → length t.firsts ≤ k → IsLastWord (first + second) (w k)
  pub linked_once : (i j g : ℕ) → i < length t.firsts → j < length t.firsts
      → IsLinkTo t.firsts i g → IsLinkTo t.firsts j g → i ≡ j
  pub deep : (i : ℕ) → i < length t.firsts
      → IsSome (group_at t.firsts i) ↔ IsDeepBlock first second R i
  pub shallow : (i : ℕ) → length t.firsts ≤ i → IsDeepBlock first second R i → ⊥

-- the blocks that have a group are these, in the order of their groups' numbers: the words link
-- block b to group g just where b stands at place g
pub record AreNumbered (firsts : List ℕ) (blocks : List ℕ) : Type 0 where
  pub linked : (b g : ℕ) → b < length firsts → group_at firsts b ≡ Some g
      → slice_get blocks g ≡ Some b
  pub only : (b g : ℕ) → slice_get blocks g ≡ Some b
      → (b < length firsts) × (group_at firsts b ≡ Some g)
