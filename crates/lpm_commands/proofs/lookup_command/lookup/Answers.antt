use Rattle.std.proofs.Common.{refl, rules}
use Rattle.lpm_commands.specs.Lookup.{IsLookupText}
use Rattle.lpm_commands.proofs.Texts.{is_lookup_text, answered_as, ends_lookup, is_written, is_begun}
use Rattle.lpm_commands.proofs.lookup_command.lookup.Goals as goal

pub returns-clause-done : goal.returns-clause-done
returns-clause-done g c =
    let made = c.in_ok-running.ensures.loads in
    let is = is_lookup_text c.args.config (g.F.Files.bytes c.args.files.now c.args.routes.now) (g.F.Files.bytes c.args.files.now c.args.addresses.now) c.in_ok-list.list.items c.in_ok-addrs.addrs.items made.0 c.in_ok-running.running.writer.table.rules c.in_ok-text.text.items c.in_ok-list.ensures.items c.in_ok-addrs.ensures.items made.1 c.in_ok-running.ensures.rules (answered_as c.args.config c.args.config c.in_ok-running.running.writer.table.rules c.deref.result.now c.in_ok-addrs.addrs.items c.in_ok-text.text.items refl c.deref.ensures.value (c.in_ok-text.ensures.workers, c.in_ok-text.ensures.text)) in
    is_written (IsLookupText c.args.config (g.F.Files.bytes c.args.files.now c.args.routes.now) (g.F.Files.bytes c.args.files.now c.args.addresses.now)) c.put_text.result _ _ c.in_ok-text.text.items c.deref-2.result.now c.deref-2.ensures.value is c.put_text.ensures.all

pub returns-clause-beginning : goal.returns-clause-beginning
returns-clause-beginning g c failed =
    let made = c.in_ok-running.ensures.loads in
    let is = is_lookup_text c.args.config (g.F.Files.bytes c.args.files.now c.args.routes.now) (g.F.Files.bytes c.args.files.now c.args.addresses.now) c.in_ok-list.list.items c.in_ok-addrs.addrs.items made.0 c.in_ok-running.running.writer.table.rules c.in_ok-text.text.items c.in_ok-list.ensures.items c.in_ok-addrs.ensures.items made.1 c.in_ok-running.ensures.rules (answered_as c.args.config c.args.config c.in_ok-running.running.writer.table.rules c.deref.result.now c.in_ok-addrs.addrs.items c.in_ok-text.text.items refl c.deref.ensures.value (c.in_ok-text.ensures.workers, c.in_ok-text.ensures.text)) in
    is_begun (IsLookupText c.args.config (g.F.Files.bytes c.args.files.now c.args.routes.now) (g.F.Files.bytes c.args.files.now c.args.addresses.now)) c.put_text.result _ _ _ c.in_ok-text.text.items c.deref-2.result.now c.deref-2.ensures.value is c.put_text.ensures.beginning failed

pub returns-in_err-text-clause-failure : goal.returns-in_err-text-clause-failure
returns-in_err-text-clause-failure g c =
    let made = c.in_ok-running.ensures.loads in
    let ends = ends_lookup c.args.config c.args.routes.now c.args.addresses.now (g.F.Files.bytes c.args.files.now) c.in_ok-list.list.items c.in_ok-addrs.addrs.items made.0 _ c.in_ok-list.ensures.items c.in_ok-addrs.ensures.items made.1 c.in_err-text.ensures.failure in
    search rules

pub returns-in_err-addrs-clause-failure : goal.returns-in_err-addrs-clause-failure
returns-in_err-addrs-clause-failure g c = search rules
