-- What an upper layer cites of this crate: the statements are in `specs.Laws`.
use Rattle.std.proofs.Common.{ℕ, ◌+◌}
use Rattle.lpm_cells.specs.Words.{IsLastWord, Words, IsFirstWord}
use Rattle.lpm_update.specs.declared.update.Plan.{Plan}
use Rattle.lpm_update.specs.BlockGroups.{IsTable}
use Rattle.lpm_update.specs.Update.{IsUnderWay}
use Rattle.lpm_update.specs.Step.{AllowsNext}
use Rattle.lpm_update.proofs.Runs.{next_store as next}
pub use Rattle.lpm_update.proofs.Runs.{run_begins, run_goes_on, run_ends, no_word_twice, next_store, next_first, next_second, next_unlink, answers_turn_once, from_same, end_same, rewrite_same}
pub use Rattle.lpm_update.proofs.Once.{held_same, passed_stays, not_twice}
pub use Rattle.lpm_update.proofs.Rules.{best_hop}
pub use Rattle.lpm_update.proofs.Ties.{blank, linked_deep, tied_same, tied_gone, tied_taken}
pub use Rattle.lpm_update.proofs.Groups.{no_group_at, last_none, first_within}
pub use Rattle.lpm_update.proofs.Places.{word_entry, followed_last}
pub use Rattle.lpm_update.proofs.Onward.{by_kind}
pub use Rattle.lpm_update.proofs.Unlinks.{some_group}
pub use Rattle.lpm_update.proofs.RangeSteps.{past_group}

-- cells that allow each word that a table may hold at its place allow the next store
pub plain_allows : (f s : ℕ) (u : Plan) (W : Words) → IsTable f s W → IsUnderWay f s u W
    → AllowsNext f s u W (λ i w. IsFirstWord (f + s) s W.seconds w) (λ j w. IsLastWord (f + s) w)
plain_allows f s u W t k =
    let a = next f s u W t k in
    record { first_word = λ i w n. (a.first_word i w n).0; second_word = λ j w n. (a.second_word j w n).0; unlink = λ b g w n. (a.unlink b g w n).0 }
