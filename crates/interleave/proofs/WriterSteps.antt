-- What a step of the writer leaves of a memory of the pure world.
use Rattle.std.specs.Prelude.{ℕ, suc, [], ◌∷◌, ◌++◌, true}
use Rattle.lpm_cells.specs.Words.{Words, with_first, with_second}
use Rattle.lpm_trace.specs.declared.step.WriterStep.{WriterStep}
use Rattle.lpm_trace.specs.declared.step.WriterStep.TheVariants.{StoreFirst, StoreSecond, BeginUpdate, EndUpdate, BumpToken}
use Rattle.interleave.specs.Record.{shown_write}
use Rattle.interleave.specs.View.{WorldView}

-- the words after a step of the writer
abbrev pub words_by : Words → WriterStep → Words
words_by t (StoreFirst i x) = with_first t i x
words_by t (StoreSecond j x) = with_second t j x
words_by t other = t

-- the token after a step of the writer
abbrev pub token_by : ℕ → WriterStep → ℕ
token_by token BumpToken = suc token
token_by token other = token

-- the sequence after a step of the writer
abbrev pub sequence_by : ℕ → WriterStep → ℕ
sequence_by sequence (BeginUpdate change) = suc sequence
sequence_by sequence EndUpdate = suc sequence
sequence_by sequence other = sequence

-- a step of the writer that uses up an item, and is recorded
abbrev pub with_recorded_step : WorldView → WriterStep → WorldView
with_recorded_step v s = record v {
  words = words_by v.words s;
  sequence = sequence_by v.sequence s;
  token = token_by v.token s;
  next = suc v.next;
  steps = v.steps ++ shown_write v.sequence v.token s ∷ [];
}

-- a step of the writer after the schedule's end: nothing is recorded
abbrev pub with_unrecorded_step : WorldView → WriterStep → WorldView
with_unrecorded_step v s = record v {
  words = words_by v.words s;
  token = token_by v.token s;
  stopped = true;
}
