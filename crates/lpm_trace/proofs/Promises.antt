-- The laws, as the contracts name them.
use Rattle.std.proofs.Common.{subst, sym}
use Rattle.lpm_trace.specs.Trace.{after}
use Rattle.lpm_trace.specs.Laws.{RestAnswers}
use Rattle.lpm_trace.proofs.Versions.{Shows, rest_shown}
use Rattle.lpm_trace.proofs.Traces.{state_is, shows_state}
pub use Rattle.lpm_trace.proofs.Moments.{lookups_are_legal, versions_never_fall}
pub use Rattle.lpm_trace.proofs.Grace.{reuse_is_lawful}
pub use Rattle.lpm_trace.proofs.Checks.{writer_is_alone, writer_goes_on, passed_is_checked, words_are_entries}
pub use Rattle.lpm_trace.proofs.Traces.{own_lookups_are_legal, own_steps_are_placed, versions_never_fall_at_places, places_never_fall, trace_grows}

pub rest_answers : RestAnswers
rest_answers c steps settled trace rests a lt =
    rest_shown c (after c steps).state (subst (Shows c) (sym (state_is c steps)) (shows_state c settled steps trace)) rests a lt
