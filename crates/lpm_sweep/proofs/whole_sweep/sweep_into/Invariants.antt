use Rattle.std.proofs.Common.{◌≡◌, ℕ, ◌-◌, ◌*◌, ◌^◌, ◌<◌, ◌≤◌, length, take}
use Rattle.std.specs.FinSet as set
use Rattle.lpm_rules.specs.Deep.{deep_blocks}
use Rattle.lpm_sweep.specs.SweepWords.{word_by_frames, IsSwept, AreNumbered}
use Rattle.lpm_rules.specs.RuleMap.{AllUpTo, place, prefix_at, rules_of}
use Rattle.lpm_sweep.proofs.whole_sweep.sweep_into.Given as goal

abbrev pub invariant-loop-next : goal.invariant-loop-next
invariant-loop-next g l =
    let items = g.W.WordList.items in
    record {
      within : l.next ≤ length l.rules;
      few : length l.blocks.items ≤ l.groups;
      count : length l.blocks.items ≡ set.len (deep_blocks g.row.FIRST g.row.SECOND (rules_of (take l.next l.rules)));
      numbered : AreNumbered (items l.firsts) l.blocks.items;
      reached : (k : ℕ) → l.next ≤ k → k < length l.rules → length (items l.firsts) * 2 ^ g.row.SECOND * 64 ≤ place (prefix_at l.rules k);
      before : (k : ℕ) → l.next ≤ k → k < length l.rules → AllUpTo (rules_of (take l.next l.rules)) (place (prefix_at l.rules k));
      swept : IsSwept g.row.FIRST g.row.SECOND (length l.blocks.items) (rules_of (take l.next l.rules)) (record { firsts = items l.firsts; seconds = items l.seconds }) (word_by_frames l.outer);
    }

abbrev pub decreases-loop-next : goal.decreases-loop-next
decreases-loop-next g l = length l.initial.rules - l.next
