-- The passes at the bench of an owner.
use Rattle.std.proofs.Common.{ℕ, ◌≡◌, zero, suc, ◌≤◌, refl, ap, sym, subst, ◌∙◌, List, [], ◌∷◌, slice_get, Option, Some, None, Result}
use Rattle.std.specs.Prelude.{slice_set, ◌↔◌, ◌⊎◌, IfOk, IfErr, IsErrOf, OnErr}
use Rattle.lpm_limits.specs.declared.config.Config.{Config}
use Rattle.lpm_limits.specs.declared.refusal.Refusal.{Refusal}
use Rattle.lpm_limits.specs.declared.refusal.Refusal.TheVariants.{NoSuchWorker, Taken, Memory}
use Rattle.lpm_rules.specs.RuleMap.{RuleMap}
use Rattle.shared_fib.specs.Passes.{PassState, IsPassOf, IsFullBench, IsBenchOf, IsPutBack}
use Rattle.shared_fib.specs.RunningTable.{Identity, WriterState, initial_writer}
use Rattle.shared_fib.proofs.SeatMemory.{on_err_then}
use Rattle.saxiko.specs.Owners.{OwnerState, Registers}

-- what was taken off a place and put back stands there as before
pub set_back : {X : Type 0} (xs : List X) (i : ℕ) (x y : X) → slice_get xs i ≡ Some x → slice_set (slice_set xs i y) i x ≡ xs
set_back [] i x y here = refl
set_back (z ∷ xs) zero x y here = cc
set_back (z ∷ xs) (suc i) x y here = ap (λ l. z ∷ l) (set_back xs i x y here)

-- of an owner with this writer and this bench
module _ (w : WriterState) (old new : List (Option PassState)) (x : OwnerState) (is : record { writer = w; bench = old } ≡ x) where
  pub registers : (id : Identity) (worker : ℕ) (r : Result PassState Refusal) → w.identity ≡ id
      → IfOk r (IsPassOf id worker)
      → IfOk r (λ p. (slice_get old worker ≡ Some (Some p)) × (new ≡ slice_set old worker None))
      → IsErrOf r NoSuchWorker ↔ (id.initial.workers ≤ worker)
      → IsErrOf r Taken ↔ (slice_get old worker ≡ Some None)
      → IfErr r (λ e. (e ≡ NoSuchWorker) ⊎ (e ≡ Taken) ⊎ (e ≡ Memory))
      → OnErr r (new ≡ old) → IsBenchOf id new → Registers x worker r (record { writer = w; bench = new })
  registers id worker r same reader registered no_such_worker taken refusals unchanged own =
      subst (λ (y : OwnerState). Registers y worker r (record { writer = w; bench = new })) is (record {
        reader = subst (λ (i : Identity). IfOk r (IsPassOf i worker)) (sym same) reader;
        registered = registered;
        no_such_worker = subst (λ (i : Identity). IsErrOf r NoSuchWorker ↔ (i.initial.workers ≤ worker)) (sym same) no_such_worker;
        taken = taken;
        refusals = refusals;
        unchanged = on_err_then r unchanged (ap (λ (b : List (Option PassState)). record { writer = w; bench = b }));
        own = subst (λ (i : Identity). IsBenchOf i new) (sym same) own;
        same = refl;
      })

  pub takes_back : (pass reader : PassState) → pass ≡ reader → IsPutBack old pass new → IsPutBack x.bench reader new
  takes_back pass reader same back =
      subst (λ (z : OwnerState × PassState). IsPutBack z.0.bench z.1 new) (λ i. (is i, same i)) back

-- An owner of what was opened together.

-- it is the owner of this table, which was just opened with these rules
pub record OpensAs (table : Identity) (config : Config) (rules : RuleMap) (o : OwnerState) : Type 0 where
  pub identity : o.writer.identity ≡ table
  pub writer : o.writer ≡ initial_writer o.writer.identity config rules
  pub bench : IsFullBench o.writer.identity o.bench

pub opens_as : (table : Identity) (config : Config) (rules : RuleMap) (w : WriterState) (b : List (Option PassState)) (o : OwnerState)
    → o ≡ record { writer = w; bench = b } → w ≡ initial_writer table config rules → IsFullBench table b
    → OpensAs table config rules o
opens_as table config rules w b o is opened full =
    let same : o.writer ≡ w = ap (λ (x : OwnerState). x.writer) is in
    let identity : o.writer.identity ≡ table = ap (λ (x : WriterState). x.identity) (same ∙ opened) in
    let bench : o.bench ≡ b = ap (λ (x : OwnerState). x.bench) is in
    record {
      identity = identity;
      writer = same ∙ opened ∙ ap (λ (i : Identity). initial_writer i config rules) (sym identity);
      bench = subst (λ (z : Identity × List (Option PassState)). IsFullBench z.0 z.1) (λ i. (sym identity i, sym bench i)) full;
    }
