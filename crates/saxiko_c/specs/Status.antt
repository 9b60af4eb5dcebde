-- Meaning: what calls answer, 0 or more, or an error number of Linux below 0 (errno(3); DPDK Programmer's
-- Guide, "LPM Library"; which refusal has which number is this project's).
use Rattle.std.specs.Prelude.{ℤ, pos, negsuc, Option, Some, None, Result, Ok, Err, ℕ, ◌≡◌}
use Rattle.lpm_rules.specs.declared.Put.{Put}
use Rattle.lpm_rules.specs.declared.Put.TheVariants.{Added, Replaced, Unchanged}
use Rattle.lpm_limits.specs.declared.refusal.Refusal.{Refusal}
use Rattle.lpm_limits.specs.declared.refusal.Refusal.TheVariants.{BadLength, BadHop, TooManyRules, NoSuchRule, BadConfig, Exhausted, NoGroups, NoWorkers, Memory, NoSuchWorker, Taken, NoThread, NotOnline, AlreadyOnline}
use Rattle.lpm_limits.specs.declared.config.Config.{Config}
use Rattle.saxiko_c.specs.declared.records.SaxikoConfig.{SaxikoConfig}

-- the call is done
abbrev pub success : ℤ
success = pos 0

-- EPERM is 1, ENOENT 2, E2BIG 7, EAGAIN 11, ENOMEM 12, EBUSY 16, EINVAL 22, ENOSPC 28, EDOM 33, EOVERFLOW 75,
-- EALREADY 114
abbrev pub not_permitted : ℤ
not_permitted = negsuc 0

abbrev pub no_entry : ℤ
no_entry = negsuc 1

abbrev pub too_big : ℤ
too_big = negsuc 6

abbrev pub again : ℤ
again = negsuc 10

abbrev pub no_memory : ℤ
no_memory = negsuc 11

abbrev pub busy : ℤ
busy = negsuc 15

abbrev pub invalid : ℤ
invalid = negsuc 21

abbrev pub no_space : ℤ
no_space = negsuc 27

abbrev pub out_of_domain : ℤ
out_of_domain = negsuc 32

abbrev pub overflow : ℤ
overflow = negsuc 74

abbrev pub already : ℤ
already = negsuc 113

-- a group is lacking: a reader holds the oldest that waits, or none waits
abbrev pub status_without_group : {A : Type 0} → Option A → ℤ
status_without_group None = no_space
status_without_group (Some holder) = busy

-- how a refusal is answered
abbrev pub status_of_refusal : Refusal → ℤ
status_of_refusal BadLength = invalid
status_of_refusal BadHop = invalid
status_of_refusal TooManyRules = no_space
status_of_refusal NoSuchRule = no_entry
status_of_refusal BadConfig = invalid
status_of_refusal Exhausted = overflow
status_of_refusal (NoGroups oldest) = status_without_group oldest
status_of_refusal NoWorkers = invalid
status_of_refusal Memory = no_memory
status_of_refusal NoSuchWorker = invalid
status_of_refusal Taken = busy
status_of_refusal NoThread = again
status_of_refusal NotOnline = not_permitted
status_of_refusal AlreadyOnline = already

-- how an add that was done is answered
abbrev pub put_status : Put → ℤ
put_status Unchanged = pos 0
put_status Added = pos 1
put_status Replaced = pos 2

abbrev pub add_status : Result Put Refusal → ℤ
add_status (Ok put) = put_status put
add_status (Err refusal) = status_of_refusal refusal

-- how a call is answered that is done or refused
abbrev pub status_of : {T : Type 0} → Result T Refusal → ℤ
status_of (Ok result) = success
status_of (Err refusal) = status_of_refusal refusal

-- What C hands over as limits (DPDK Programmer's Guide, "LPM Library" and "RCU Library").

-- the limits of a table with so many readers; its first token is 1
abbrev pub config_of : SaxikoConfig → ℕ → Config
config_of c readers = record {
  rules = c.rules;
  groups = c.groups;
  workers = readers;
  threshold = c.threshold;
  reclaim_max = c.reclaim_max;
  first_token = 1;
}

-- What a call does with a handle, by the status that it answers (this project's).

-- a call that may change what the handle holds; on a closed handle it is EINVAL, and nothing changes
abbrev pub Calls : {S : Type 0} → (S → ℤ → S → Type 0) → (unchanged : Type 0)
    → Option S → ℤ → Option S → Type 0
Calls call unchanged None status after = (status ≡ invalid) × (after ≡ None) × unchanged
Calls call unchanged (Some s) status None = ⊥
Calls call unchanged (Some s) status (Some t) = call s status t

-- a call that only asks what the handle holds; on a closed handle it is EINVAL, and nothing is told
abbrev pub Asks : {S : Type 0} → (S → ℤ → Type 0) → (unchanged : Type 0) → Option S → ℤ → Type 0
Asks ask unchanged None status = (status ≡ invalid) × unchanged
Asks ask unchanged (Some s) status = ask s status

-- a call that opens a closed handle; on an open handle it is EBUSY, and nothing changes
abbrev pub OpensIt : {S : Type 0} → (failed : ℤ → Type 0) → (opened : S → Type 0) → (unchanged : Type 0)
    → Option S → ℤ → Option S → Type 0
OpensIt failed opened unchanged (Some s) status after = (status ≡ busy) × unchanged × (after ≡ Some s)
OpensIt failed opened unchanged None status None = failed status
OpensIt failed opened unchanged None status (Some s) = (status ≡ success) × opened s
