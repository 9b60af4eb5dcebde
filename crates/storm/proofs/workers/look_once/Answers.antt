use Rattle.std.proofs.Common.{◌∙◌, ◌++◌, [], ◌∷◌, ℕ, List, ap, sym, rules, map, take, append_assoc, get_or}
use Rattle.std.proofs.lemmas.List.{map-append, take_more}
use Rattle.lpm_rules.specs.declared.Answer.{Answer}
use Rattle.shared_fib.specs.RunningTable.{initial_state}
use Rattle.storm.proofs.PassAnswers.{told_more}
use Rattle.storm.proofs.workers.look_once.Goals as goal

abbrev address_of : ℕ × Answer → ℕ
address_of x = x.0

pub loop-i-preserved : goal.loop-i-preserved
loop-i-preserved g c =
    let was = c.loop-i.invariant in
    let addrs = c.args.lookups.now.addrs.now in
    let id = c.args.lookups.now.table.now in
    let more = told_more c.loop-i.worker.pass c.lookup-answer.new.self _ c.lookup-answer.result c.lookup-answer.ensures.answer
    c.history_is_sound.ensures (initial_state id) c.loop-i.worker.answers.items (ap initial_state (was.own ∙ c.requires.own)) (was.told.answers, was.told.versions) in
    record {
      own = c.lookup-answer.ensures.own ∙ was.own;
      online = c.lookup-answer.ensures.online;
      seat = c.lookup-answer.ensures.answer.steps.worker ∙ was.seat;
      len = search rules;
      told = record { answers = c.push_reserved.ensures.items ∙ more.0; versions = more.1 };
      whole = ap (map address_of) c.push_reserved.ensures.items
          ∙ map-append address_of c.loop-i.worker.answers.items _
          ∙ ap (λ (xs : List ℕ). xs ++ get_or addrs c.loop-i.i 0 ∷ []) was.whole
          ∙ append_assoc (map address_of c.args.worker.now.answers.items) (take c.loop-i.i addrs) (get_or addrs c.loop-i.i 0 ∷ [])
          ∙ ap (λ (xs : List ℕ). map address_of c.args.worker.now.answers.items ++ xs) (sym (take_more addrs c.loop-i.i 0 c.loop-i-test.true));
      capacity = search rules;
    }
