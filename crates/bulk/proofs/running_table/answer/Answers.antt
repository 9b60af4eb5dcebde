use Rattle.std.proofs.Common.{◌<◌, ℕ, List, Option, [], length, take, refl, subst, ◌∙◌, arith}
use Rattle.std.proofs.lemmas.List.{take_all, take_more, take_more_set}
use Rattle.shared_words.proofs.Deeds.{later_trans}
use Rattle.bulk.specs.Desks.{AnswersAtRest}
use Rattle.bulk.proofs.Meetings.{answers_more, has_answered}
use Rattle.bulk.proofs.running_table.answer.Goals as goal

pub loop-i-init : goal.loop-i-init
loop-i-init g c = record {
  own = c.online.ensures.own ∙ c.requires.desk.table;
  worker = refl;
  online = c.online.ensures.online;
  later = ([], refl);
  room = c.requires.room;
  answered = λ w is rest written before after. tt;
}

pub loop-i-preserved : goal.loop-i-preserved
loop-i-preserved g c =
    let i = c.loop-i.i in
    let addrs = c.args.addrs.now in
    let hops = c.loop-i.hops.items in
    let known = c.loop-i.invariant in
    let first = c.online.new.self.writer_steps in
    let before = c.loop-i.pass in
    let after = c.lookup.new.self in
    let answer = c.lookup.result in
    let looks = c.lookup.ensures.answer in
    let fits : i < length hops = omega arith in
    let more = answers_more c.args.table.now (take i addrs) (take i hops) _ answer.hop answer.lo answer.hi
    first before after known.answered known.later known.own looks in
    record {
      own = c.lookup.ensures.own ∙ known.own;
      worker = looks.steps.worker ∙ known.worker;
      online = c.lookup.ensures.online;
      later = later_trans first before.writer_steps after.writer_steps known.later looks.steps.writer_steps;
      room = known.room;
      answered = rw (take_more addrs i 0 (omega arith), take_more_set hops i answer.hop fits) more;
    }

pub returns : goal.returns
returns g c =
    let addrs = c.args.addrs.now in
    let hops = c.loop-i.hops.items in
    let known = c.loop-i.invariant in
    let leaves = c.offline.ensures in
    let all = take_all c.loop-i.i addrs (omega arith) in
    let each = take_all c.loop-i.i hops (omega arith) in
    let answers = subst (λ (z : List ℕ × List (Option ℕ)). AnswersAtRest c.args.table.now z.0 z.1 c.online.new.self.writer_steps c.loop-i.pass.writer_steps) (λ i. (all i, each i)) known.answered in
    has_answered c.args.table.now addrs c.args.desk.now _ c.online.new.self c.loop-i.pass _ _
    c.requires.desk.table leaves.offline c.online.ensures.steps.3 known.own known.worker known.later leaves.steps.1 answers
