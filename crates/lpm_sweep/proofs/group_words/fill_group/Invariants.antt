use Rattle.std.proofs.Common.{◌≡◌, ℕ, ◌+◌, ◌-◌, ◌*◌, ◌^◌, ◌<◌, ◌≤◌, length, take}
use Rattle.std.specs.Prelude.{slice_index}
use Rattle.lpm_rules.specs.Deep.{IsDeepBlock}
use Rattle.lpm_sweep.specs.SweepWords.{word_by_frames, IsFilling}
use Rattle.lpm_rules.specs.RuleMap.{AllUpTo, place, prefix_at, rules_of}
use Rattle.lpm_sweep.proofs.group_words.fill_group.Given as goal

abbrev pub invariant-loop-next : goal.invariant-loop-next
invariant-loop-next g l =
    let items = g.W.WordList.items in
    record {
      started : l.from ≤ l.next;
      within : l.next ≤ length l.rules;
      base : l.base ≡ length (items l.fn.words);
      longer : l.base ≤ length (items l.words);
      room : length (items l.words) ≤ l.base + 2 ^ g.row.SECOND;
      kept : (k : ℕ) → k < l.base → slice_index (items l.words) k ≡ slice_index (items l.fn.words) k;
      reached : (k : ℕ) → l.next ≤ k → k < length l.rules → (l.block * 2 ^ g.row.SECOND + (length (items l.words) - l.base)) * 64 ≤ place (prefix_at l.rules k);
      before : (k : ℕ) → l.next ≤ k → k < length l.rules → AllUpTo (rules_of (take l.next l.rules)) (place (prefix_at l.rules k));
      filling : IsFilling g.row.FIRST g.row.SECOND l.block l.base (rules_of (take l.from l.rules)) (rules_of (take l.next l.rules)) (items l.words) (word_by_frames l.frames);
      deep : l.from < l.next → IsDeepBlock g.row.FIRST g.row.SECOND (rules_of (take l.next l.rules)) l.block;
    }

abbrev pub decreases-loop-next : goal.decreases-loop-next
decreases-loop-next g l = length l.initial.rules - l.next
