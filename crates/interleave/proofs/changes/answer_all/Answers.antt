use Rattle.std.proofs.Common.{arith, ◌≡◌, ℕ, suc, ◌+◌, ◌<◌, true, ap, sym, subst, ◌∙◌, List, [], ◌∷◌, ◌++◌, length, take, drop, get_or, Option, drop-cons}
use Rattle.std.specs.Prelude.{is_ok, not, if◌then◌else◌}
use Rattle.std.proofs.lemmas.List.{take_more, take_all, take-append-drop}
use Rattle.lpm_rules.specs.declared.Change.{Change}
use Rattle.lpm_writer.specs.declared.control.ControlState.{ControlState}
use Rattle.interleave.specs.View.{WorldView}
use Rattle.interleave.specs.World.{scripts_and_schedule}
use Rattle.interleave.specs.declared.reply.Reply.{Reply}
use Rattle.interleave.proofs.Items.{items_few}
use Rattle.interleave.proofs.Turns.{scripts_stay}
use Rattle.interleave.proofs.Ends.{Comes, HasAnswered, HasEnded, HasCome, IsLate, comes, ends_all, ends_before}
use Rattle.interleave.proofs.changes.answer_all.Given.{Over}
use Rattle.interleave.proofs.changes.answer_all.Goals.{In_ok-reply}
use Rattle.interleave.proofs.changes.answer_all.Goals as goal

split : {A : Type 0} (xs : List A) (i : ℕ) (x : A) → i < length xs → x ≡ get_or xs i x → take i xs ++ x ∷ drop (suc i) xs ≡ xs
split xs i x low is = ap (λ y. take i xs ++ y ∷ drop (suc i) xs) is ∙ ap (λ ys. take i xs ++ ys) (sym (drop-cons xs i x low)) ∙ take-append-drop i xs

one_more : {A : Type 0} (xs : List A) (i : ℕ) (x : A) → i < length xs → x ≡ get_or xs i x → take (i + 1) xs ≡ take i xs ++ x ∷ []
one_more xs i x low is = take_more xs i x low ∙ ap (λ y. take i xs ++ y ∷ []) (sym is)

-- the end that was reached with a change and those behind it left
whole : {f g : ℕ} {v z : WorldView} {l : ControlState f g} {replies : List Reply} (all : List (Change f g)) (i : ℕ)
    (change : Change f g) → i < length all → change ≡ get_or all i change
    → HasEnded f g v l (take i all ++ change ∷ drop (suc i) all) replies z → HasEnded f g v l all replies z
whole {f} {g} {v} {z} {l} {replies} all i change low is =
    subst (λ xs. HasEnded f g v l xs replies z) (split all i change low is)

pub reach-requires : goal.reach-requires
reach-requires g c =
    let o = c.requires.initial in
    let h = c.loop-change.invariant.answered o.0 o.1 o.2 in
    (omega arith, (o.0, h.0, h.1))

pub returns-then-not-reach-clause-performed : goal.returns-then-not-reach-clause-performed
returns-then-not-reach-clause-performed g c =
    let f = g.row.FIRST in
    let s = g.row.SECOND in
    let i = c.loop-change.change-index in
    let change = c.change-item.result in
    let all = c.args.changes.now in
    let done = take i all in
    whole all i change c.loop-change-test.true c.change-item.is
    (ends_before f s c.args.memory.now c.args.control.now done c.loop-change.replies.items c.loop-change.memory c.reach.new.self c.loop-change.control
    c.loop-change.invariant.answered c.loop-change.invariant.scripts_are c.if-not-reach.ensures.reaches change (drop (suc i) all) c.if-not-reach.ensures.left)

pub answer-requires : goal.answer-requires
answer-requires g c =
    let o = c.requires.initial in
    let h = c.loop-change.invariant.answered o.0 o.1 o.2 in
    (omega arith, (omega arith, (omega arith, (o.0, h.0, c.if-not-reach.ensures.reaches o.0 h.0 h.1, h.2))))

-- what the change came to
abbrev Came : (g : Over) → In_ok-reply g → Option Reply → Type 0
Came g c came = HasCome g.row.FIRST g.row.SECOND c.reach.new.self c.loop-change.control c.change-item.result c.args.tries came c.answer.new.memory c.answer.new.control

still : (g : Over) (c : In_ok-reply g) → scripts_and_schedule c.answer.new.memory ≡ scripts_and_schedule c.args.memory.now
still g c = c.in_ok-reply.ensures.scripts ∙ scripts_stay c.loop-change.memory c.reach.new.self c.if-not-reach.ensures.shared ∙ c.loop-change.invariant.scripts_are

-- what follows from it
follows : (g : Over) (c : In_ok-reply g) → let i = c.loop-change.change-index in
    Comes g.row.FIRST g.row.SECOND c.args.memory.now c.args.control.now (take i c.args.changes.now) (drop (suc i) c.args.changes.now) c.loop-change.replies.items
    c.reach.new.self c.loop-change.control c.change-item.result c.args.tries c.answer.new.memory c.answer.new.control
follows g c =
    let i = c.loop-change.change-index in
    let all = c.args.changes.now in
    comes g.row.FIRST g.row.SECOND c.args.memory.now c.args.control.now (take i all) c.loop-change.replies.items c.loop-change.memory c.reach.new.self c.loop-change.control
    c.loop-change.invariant.answered c.loop-change.invariant.scripts_are c.if-not-reach.ensures.reaches c.change-item.result (drop (suc i) all) c.args.tries
    c.answer.new.memory c.answer.new.control c.loop-change.invariant.config c.if-not-reach.ensures.left (still g c) (omega (arith, items_few c.args.memory.now.schedule, c.requires.tries))

pub returns-in_default-clause-performed : goal.returns-in_default-clause-performed
returns-in_default-clause-performed g c =
    let at = (goal.at.returns-in_default-clause-performed g c).In_ok-reply in
    whole c.args.changes.now c.loop-change.change-index c.change-item.result c.loop-change-test.true c.change-item.is
    ((follows g at).waiting (subst (Came g at) c.in_default.is c.in_ok-reply.ensures.replies))

pub returns-then-is_stopped-clause-performed : goal.returns-then-is_stopped-clause-performed
returns-then-is_stopped-clause-performed g c =
    let at = (goal.at.returns-then-is_stopped-clause-performed g c).In_ok-reply in
    whole c.args.changes.now c.loop-change.change-index c.change-item.result c.loop-change-test.true c.change-item.is
    ((follows g at).late c.in-Some.reply (subst (Came g at) c.in-Some.is c.in_ok-reply.ensures.replies)
    (subst (IsLate g.row.FIRST g.row.SECOND c.answer.new.memory) c.if-is_stopped.true c.is_stopped.ensures))

pub loop-change-preserved : goal.loop-change-preserved
loop-change-preserved g c =
    let f = g.row.FIRST in
    let s = g.row.SECOND in
    let i = c.loop-change.change-index in
    let change = c.change-item.result in
    let all = c.args.changes.now in
    let m' = c.answer.new.memory in
    let l' = c.answer.new.control in
    let at = (goal.at.loop-change-preserved g c).In_ok-reply in
    let more = (follows g at).in_time c.in-Some.reply (subst (Came g at) c.in-Some.is c.in_ok-reply.ensures.replies) (subst (IsLate f s m') c.if-is_stopped.false c.is_stopped.ensures) in
    let ok : is_ok c.push.result ≡ true = c.is_err.ensures.negation ∙ ap not c.if-is_err.false in
    let pushed : c.push.new.self.items ≡ c.loop-change.replies.items ++ c.in-Some.reply ∷ [] =
    c.push.ensures.items ∙ ap (λ b. if b then (c.loop-change.replies.items ++ c.in-Some.reply ∷ []) else c.loop-change.replies.items) ok in
    record {
      config = c.answer.ensures.config ∙ c.loop-change.invariant.config;
      scripts_are = still g at;
      answered = subst (λ xs. HasAnswered f s c.args.memory.now c.args.control.now xs c.push.new.self.items m' l') (sym (one_more all i change c.loop-change-test.true c.change-item.is))
          (subst (λ xs. HasAnswered f s c.args.memory.now c.args.control.now (take i all ++ change ∷ []) xs m' l') (sym pushed) more);
    }

pub returns-clause-performed : goal.returns-clause-performed
returns-clause-performed g c =
    let f = g.row.FIRST in
    let s = g.row.SECOND in
    let all = c.args.changes.now in
    let whole = take_all c.loop-change.change-index all (omega (arith, c.loop-change-test.false)) in
    let ends = ends_all f s c.args.memory.now c.args.control.now (take c.loop-change.change-index all) c.loop-change.replies.items c.loop-change.memory c.loop-change.memory c.loop-change.control
    c.loop-change.invariant.answered c.loop-change.invariant.scripts_are (λ c' steps did. did) in
    subst (λ xs. HasEnded f s c.args.memory.now c.args.control.now xs c.loop-change.replies.items c.loop-change.memory) whole ends
