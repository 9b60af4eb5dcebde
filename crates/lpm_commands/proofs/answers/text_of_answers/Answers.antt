use Rattle.std.proofs.Common.{rules}
use Rattle.lpm_rules.proofs.Longest.{length-AreLongestHops}
use Rattle.lpm_commands.proofs.answers.text_of_answers.Goals as goal

pub answers_text_on-requires : goal.answers_text_on-requires
answers_text_on-requires g c = (search rules, rw c.deref.ensures.value (length-AreLongestHops _ _ _ _ c.in-Ok.ensures.answers))

pub returns-clause-text : goal.returns-clause-text
returns-clause-text g c = search rules
