-- This layer's own: what a thread of a storm has before it (this project's).
use Rattle.std.specs.Prelude.{ℕ, ◌≡◌, List}
use Rattle.lpm_limits.specs.declared.config.Config.{Config}
use Rattle.fib_model.specs.declared.orders.Order.{Order}
use Rattle.shared_fib.specs.RunningTable.{Identity}
use Rattle.storm.specs.declared.writer.Updates.{Updates}
use Rattle.storm.specs.declared.workers.Lookups.{Lookups}

-- these lookups by this table, of the worker of this number
pub record AreLookups {first second : ℕ} (id : Identity) (addrs : List ℕ) (rounds : ℕ)
    (l : Lookups first second) : Type 0 where
  pub table : l.table.now ≡ id
  pub list : l.addrs.now ≡ addrs
  pub times : l.rounds ≡ rounds

-- these commands, by this table of these limits
pub record AreUpdates {first second : ℕ} (id : Identity) (limits : Config)
    (orders : List (Order first second)) (u : Updates first second) : Type 0 where
  pub table : u.table.now ≡ id
  pub limited : u.limits ≡ limits
  pub list : u.orders.now ≡ orders
