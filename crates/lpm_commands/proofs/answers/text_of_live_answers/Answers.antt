use Rattle.std.proofs.Common.{◌≡◌, ℕ, ◌^◌, ◌<◌, List, length, map, get_or, rules, arith, ◌∙◌, ap, sym, subst, lit<}
use Rattle.std.specs.Prelude.{All}
use Rattle.std.proofs.lemmas.Grind.{common_steps}
use Rattle.std.proofs.lemmas.List.{get_or_default, length-map}
use Rattle.std.proofs.lemmas.List.FromFn.{length-range_with_len}
use Rattle.bulk.specs.declared.desk.Desk.{Desk}
use Rattle.bulk.specs.Desks.{IsDeskOf, worker_of}
use Rattle.lpm_rules.proofs.Longest.{length-AreLongestHops}
use Rattle.route_text.specs.Texts.{answer_lines}
use Rattle.lpm_commands.proofs.answers.text_of_live_answers.Goals as goal

pub bulk-requires-after_bounds : goal.bulk-requires-after_bounds
bulk-requires-after_bounds g c κs within =
    let addrs = c.args.addrs.now in
    let desks = subst (λ (ds : List Desk). All (IsDeskOf c.args.running.table) ds) (sym c.as_mut_slice-seats.ensures.value) c.in_ok-desks.ensures.desks in
    let narrow : (k d : ℕ) → k < length addrs → get_or addrs k d < 2 ^ 32 = λ k d lt.
    subst (λ (a : ℕ). a < 2 ^ 32) (get_or_default addrs k 0 d lt) (omega (arith, c.type_inv.addrs k)) in
    (lit< tt, (lit< tt, (c.requires.own, (desks, narrow))))

-- there are as many desks as workers
count : (workers : ℕ) (desks seats : List Desk) (numbers : List ℕ) → seats ≡ desks → map worker_of desks ≡ numbers → length numbers ≡ workers
    → length seats ≡ workers
count workers desks seats numbers same is all = ap length same ∙ sym (length-map desks worker_of) ∙ ap length is ∙ all

pub returns-in-Err-clause-failure : goal.returns-in-Err-clause-failure
returns-in-Err-clause-failure g c =
    let many : length c.as_mut_slice-seats.result.now ≡ c.args.workers = count c.args.workers _ _ _
    c.as_mut_slice-seats.ensures.value c.in_ok-desks.ensures.numbers (length-range_with_len 0 c.args.workers) in
    grind (arith, common_steps)

pub answers_text_on-requires : goal.answers_text_on-requires
answers_text_on-requires g c = (search rules, rw c.deref.ensures.value (length-AreLongestHops _ _ _ _ c.in-Ok.ensures.answers))

pub returns-clause-workers : goal.returns-clause-workers
returns-clause-workers g c =
    let many : length c.as_mut_slice-seats.result.now ≡ c.args.workers = count c.args.workers _ _ _
    c.as_mut_slice-seats.ensures.value c.in_ok-desks.ensures.numbers (length-range_with_len 0 c.args.workers) in
    grind (arith, common_steps)

pub returns-clause-text : goal.returns-clause-text
returns-clause-text g c =
    let written = c.in_ok-answers_text_on.ensures ∙ ap (answer_lines c.args.addrs.now) c.deref.ensures.value in
    (c.in-Ok.hops.items, c.in-Ok.ensures.answers, written)
