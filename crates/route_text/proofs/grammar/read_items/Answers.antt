use Rattle.std.proofs.Common.{◌≡◌, ◌+◌, [], length, subst, arith}
use Rattle.std.proofs.lemmas.Bool.Decides.{nat_tests}
use Rattle.route_text.specs.Starts.{SaysItems, SaysFault}
use Rattle.route_text.specs.Files.{IsReadError}
use Rattle.route_text.specs.declared.fault.Fault.{Fault}
use Rattle.route_text.specs.declared.fault.ReadError.{ReadError}
use Rattle.route_text.specs.declared.fault.ReadError.TheVariants as errors
use Rattle.route_text.proofs.Items.{takes_on, takes_more, takes_count, takes_within, takes_all, takes_fault}
use Rattle.route_text.proofs.grammar.read_items.Goals as goal

pub overflow_add-first : goal.overflow_add-first
overflow_add-first g c =
    let within = takes_within g.G.Grammar.Spells c.args.first c.args.bytes.now [] c.loop-rest.items.items c.loop-rest.read c.loop-rest.rest.now c.loop-rest.invariant in
    omega arith

pub take_plain-taken-requires : goal.take_plain-taken-requires
take_plain-taken-requires g c =
    let within = takes_within g.G.Grammar.Spells c.args.first c.args.bytes.now [] c.loop-rest.items.items c.loop-rest.read c.loop-rest.rest.now c.loop-rest.invariant in
    omega arith

pub overflow_add-read : goal.overflow_add-read
overflow_add-read g c =
    let t = c.take_plain-taken.result in
    let within = takes_within g.G.Grammar.Spells c.args.first c.args.bytes.now [] c.loop-rest.items.items c.loop-rest.read c.loop-rest.rest.now c.loop-rest.invariant in
    let count = takes_count g.G.Grammar.Spells (c.args.first + c.loop-rest.read) c.loop-rest.rest.now _ _ t.lines t.rest.now c.take_plain-taken.ensures in
    omega arith

pub returns-then-is_empty-clause-items : goal.returns-then-is_empty-clause-items
returns-then-is_empty-clause-items g c =
    let S = g.G.Grammar.Spells in
    let t = c.take_plain-taken.result in
    let taken = takes_on S c.args.first c.args.bytes.now c.loop-rest.items.items c.reserve.new.self.items t.items.items c.loop-rest.read t.lines c.loop-rest.rest.now t.rest.now c.loop-rest.invariant c.in_ok-reserve.ensures.items c.take_plain-taken.ensures in
    let none : length t.rest.now ≡ 0 = grind (arith, nat_tests, c.if-is_empty.ensures) in
    takes_all S c.args.first c.args.bytes.now t.items.items (c.loop-rest.read + t.lines) t.rest.now taken none

pub overflow_add-first-in-loop-rest : goal.overflow_add-first-in-loop-rest
overflow_add-first-in-loop-rest g c =
    let t = c.take_plain-taken.result in
    let within = takes_within g.G.Grammar.Spells c.args.first c.args.bytes.now [] c.loop-rest.items.items c.loop-rest.read c.loop-rest.rest.now c.loop-rest.invariant in
    let count = takes_count g.G.Grammar.Spells (c.args.first + c.loop-rest.read) c.loop-rest.rest.now _ _ t.lines t.rest.now c.take_plain-taken.ensures in
    omega arith

-- an error of reading, where each fault of the one kind is one of the other
as_error : {P Q : Fault → Type 0} → ((fault : Fault) → P fault → Q fault) → (error : ReadError) → IsReadError P error → IsReadError Q error
as_error h (errors.Fault fault) is = h fault is
as_error h errors.Memory is = tt

pub returns-in-Err-clause-error : goal.returns-in-Err-clause-error
returns-in-Err-clause-error g c =
    let S = g.G.Grammar.Spells in
    let t = c.take_plain-taken.result in
    let taken = takes_on S c.args.first c.args.bytes.now c.loop-rest.items.items c.reserve.new.self.items t.items.items c.loop-rest.read t.lines c.loop-rest.rest.now t.rest.now c.loop-rest.invariant c.in_ok-reserve.ensures.items c.take_plain-taken.ensures in
    as_error (λ fault is. takes_fault S g.G.Grammar.HasFault c.args.first c.args.bytes.now t.items.items (c.loop-rest.read + t.lines) t.rest.now fault taken (subst (λ m. SaysFault S g.G.Grammar.HasFault m t.rest.now fault) (omega arith) is)) c.in-Err.error c.in-Err.ensures.error

pub overflow_add-read-in-loop-rest : goal.overflow_add-read-in-loop-rest
overflow_add-read-in-loop-rest g c =
    let S = g.G.Grammar.Spells in
    let t = c.take_plain-taken.result in
    let within = takes_within S c.args.first c.args.bytes.now [] c.loop-rest.items.items c.loop-rest.read c.loop-rest.rest.now c.loop-rest.invariant in
    let count = takes_count S (c.args.first + c.loop-rest.read) c.loop-rest.rest.now _ _ t.lines t.rest.now c.take_plain-taken.ensures in
    let more = takes_count S _ t.rest.now t.items.items c.in-Ok.line.0.items 1 c.in-Ok.line.1.now c.in-Ok.ensures.taken in
    omega arith

pub loop-rest-preserved : goal.loop-rest-preserved
loop-rest-preserved g c =
    let S = g.G.Grammar.Spells in
    let t = c.take_plain-taken.result in
    let longer = c.in-Ok.line.0.items in
    let left = c.in-Ok.line.1.now in
    let taken = takes_on S c.args.first c.args.bytes.now c.loop-rest.items.items c.reserve.new.self.items t.items.items c.loop-rest.read t.lines c.loop-rest.rest.now t.rest.now c.loop-rest.invariant c.in_ok-reserve.ensures.items c.take_plain-taken.ensures in
    takes_more S c.args.first c.args.bytes.now [] t.items.items longer (c.loop-rest.read + t.lines) 1 t.rest.now left taken (subst (λ n. SaysItems S n t.rest.now t.items.items longer 1 left) (omega arith) c.in-Ok.ensures.taken)

pub returns-clause-items : goal.returns-clause-items
returns-clause-items g c =
    let none : length c.loop-rest.rest.now ≡ 0 = grind (arith, nat_tests, c.loop-rest-test.ensures) in
    takes_all g.G.Grammar.Spells c.args.first c.args.bytes.now c.loop-rest.items.items c.loop-rest.read c.loop-rest.rest.now c.loop-rest.invariant none
