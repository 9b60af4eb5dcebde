use Rattle.std.proofs.Common.{◌≡◌, ◌∙◌, inl, inr, refl, ap, sym, subst}
use Rattle.std.proofs.lemmas.Result.{MatchResult-weaker}
use Rattle.lpm_rules.specs.RuleMap.{rules_of, RuleMap}
use Rattle.fib_model.specs.Outcomes.{AreSufficient}
use Rattle.saxiko.specs.Owners.{OwnerState}
use Rattle.shared_fib.specs.Passes.{IsFullBench}
use Rattle.shared_fib.specs.RunningTable.{initial_writer}
use Rattle.saxiko_c.specs.RunningTable.{IsInitial}
use Rattle.saxiko_c.proofs.Options.{at_some}
use Rattle.saxiko_c.proofs.running_table.load_owner.Goals as goal

pub returns-in-Ok-Some : goal.returns-in-Ok-Some
returns-in-Ok-Some c =
    let config = c.args.config in
    let rules = rules_of c.deref.result.now in
    let is = c.in-Ok-Some.field-0-is in
    let known = c.in-Ok-Some.ensures in
    let read = c.in_ok-rules.ensures in
    MatchResult-weaker c.boxed.result c.boxed.ensures
    (λ b made.
    let opened = subst (λ (R : RuleMap). AreSufficient 24 8 config R × IsInitial config R b.value) (ap rules_of (c.deref.ensures.value ∙ read.0)) (
      at_some (λ (o : OwnerState). AreSufficient 24 8 config rules) is known.suffice,
      subst (IsInitial config rules) (sym (made ∙ c.new.ensures)) (record {
        opened = at_some (λ (o : OwnerState). o.writer ≡ initial_writer o.writer.identity config rules) is known.opened;
        token = at_some (λ (o : OwnerState). o.writer.identity.initial.token ≡ config.first_token) is known.token;
        workers = at_some (λ (o : OwnerState). o.writer.identity.initial.workers ≡ config.workers) is known.workers;
        at_rest = refl;
        bench = at_some (λ (o : OwnerState). IsFullBench o.writer.identity o.bench) is known.bench;
        limits = known.limits;
      }),
    ) in
    (read.2, (read.1, opened.0, opened.1)))
    (λ status none. inl (inr (read.1.few, inr (none, read.2))))
