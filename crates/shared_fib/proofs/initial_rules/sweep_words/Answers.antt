use Rattle.std.proofs.Common.{ℕ, ◌≡◌, ◌-◌, ◌*◌, ◌%◌, ◌^◌, ◌≤◌, ◌∷◌, ◌++◌, length, replicate, ap, ◌∙◌, arith, rules}
use Rattle.fib.proofs.InitialVersions.{fewer_words}
use Rattle.shared_words.specs.Layout.{packed_words}
use Rattle.shared_fib.proofs.SweepWords.{few_seconds}
use Rattle.shared_fib.proofs.initial_rules.sweep_words.Goals as goal

pub lay_swept-requires-clause-seconds : goal.lay_swept-requires-clause-seconds
lay_swept-requires-clause-seconds g c =
    let s = g.row.SECOND in
    let groups = c.args.config.groups in
    let used = length c.in-Some.blocks.items in
    let room : length c.sweep_into.new.seconds ≡ used * 2 ^ s = search rules in
    let few : used ≤ groups = search rules in
    let fits = fewer_words used groups (2 ^ s) few in
    let small = few_seconds g.row.FIRST s groups c.requires.shape c.requires.limits.groups.1 in
    omega (arith, room, fits, small)

pub returns-clause-swept : goal.returns-clause-swept
returns-clause-swept g c =
    let s = g.row.SECOND in
    let groups = c.args.config.groups in
    let F = c.sweep_into.new.firsts in
    let S = c.sweep_into.new.seconds in
    let small = few_seconds g.row.FIRST s groups c.requires.shape c.requires.limits.groups.1 in
    let whole : groups * 2 ^ s % 2 ^ 64 ≡ groups * 2 ^ s = omega (arith, small) in
    record {
      firsts = F;
      seconds = S;
      represents = search rules;
      numbered = search rules;
      room = search rules;
      few = search rules;
      laid = c.in_ok-words.ensures
          ∙ ap (λ (n : ℕ). 0 ∷ c.args.config.first_token ∷ (packed_words F ++ (packed_words (S ++ replicate (n - length S) 0)
          ++ replicate c.args.config.workers 0))) whole;
    }
