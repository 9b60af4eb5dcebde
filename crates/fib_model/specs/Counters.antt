-- Meaning: reports kept by a token and counters (DPDK Programmer's Guide, "RCU Library": a reader
-- takes the token into its counter when it goes online or reports a quiescent state, and 0 when
-- it goes offline; a reader holds what was given up under a token where its counter isn't 0 and
-- is below that token).
use Rattle.std.specs.Prelude.{ℕ, ◌≡◌, ◌+◌, replicate, slice_index, slice_set}
use Rattle.qsbr.specs.Counters.{IsOnline, IsFirstHolding, Registry}
use Rattle.lpm_limits.specs.declared.busy.Busy.{Busy}
use Rattle.lpm_limits.specs.declared.config.Config.{Config}
use Rattle.fib_model.specs.declared.orders.ReaderReport.{ReaderReport}
use Rattle.fib_model.specs.declared.orders.ReaderReport.TheVariants.{Online, Offline, Quiescent}
use Rattle.fib_model.specs.State.{State, Transitions, ReaderModel, looks, initial_with}

-- the counter after a report
abbrev pub counter_of : ReaderReport → ℕ → ℕ
counter_of Online token = token
counter_of Offline token = 0
counter_of Quiescent token = token

-- the first worker whose counter holds what was given up under this token, and its counter
abbrev pub IsFirstByCounter : Registry → ℕ → Busy → Type 0
IsFirstByCounter r token busy = IsFirstHolding token r.counters busy.worker
    × (busy.counter ≡ slice_index r.counters busy.worker)

-- an unlinking goes by the token that is started for it; else a change leaves token and counters
abbrev pub counter_transitions : Transitions Registry
counter_transitions = record {
  checks = looks IsFirstByCounter;
  begins = λ r z. z ≡ r;
  unlinks = λ r name z. (name ≡ r.token + 1) × (z ≡ record r { token = r.token + 1 });
  ends = λ r z. z ≡ r;
  token = λ r. r.token;
}

abbrev pub by_counters : ReaderModel Registry
by_counters = record {
  changes = counter_transitions;
  is_online = λ r w. IsOnline r.counters w;
  after_report = λ report w r. record r { counters = slice_set r.counters w (counter_of report r.token) };
}

-- a table that was just opened
abbrev pub initial_by_counters : Config → State Registry
initial_by_counters c = initial_with (record { token = c.first_token; counters = replicate c.workers 0 })
