use Rattle.std.proofs.Common.{◌+◌, ◌≡◌, ap, sym, ◌∙◌, cond, true, false, arith}
use Rattle.lpm_cells.specs.Words.{entry_in, word_of}
use Rattle.lpm_update.specs.Rewrite.{rewritten_entry, replaces}
use Rattle.lpm_update.proofs.Links.{range_true, range_low, range_high}
use Rattle.lpm_update.proofs.link_group.LinkGroup.word_for.Goals as goal
use Rattle.lpm_update.proofs.link_group.LinkGroup.word_for.Goals.{else-self-address-via-then-self-address+then-address-self+else-replaces, else-self-address-via-then-self-address+else-address-self, else-self-address-via-else-self-address}

pub returns-then-replaces : goal.returns-then-replaces
returns-then-replaces g c =
    let u = c.args.self.now in
    let e = entry_in c.args.old in
    let on = c.on_words-on.ensures (g.row.FIRST + g.row.SECOND) c.requires.shape.2 in
    let taken : replaces u.rewrite e ≡ true = on.replaced c.args.old c.requires.last ∙ sym c.replaces.ensures ∙ c.if-replaces.true in
    let inside = range_true u.from u.end c.args.address (rewritten_entry u.rewrite e) e c.if-self-address.true c.if-address-self.true in
    on.word ∙ sym (ap word_of (inside ∙ ap (λ b. cond b u.rewrite.entry e) taken))

pub returns : goal.returns
returns g c =
    let u = c.args.self.now in
    let a = c.args.address in
    let e = entry_in c.args.old in
    let on = c.on_words-on.ensures (g.row.FIRST + g.row.SECOND) c.requires.shape.2 in
    let back = c.requires.last.0.1 in
    elim c.else-self-address.branch [
      | else-self-address-via-then-self-address+then-address-self+else-replaces w ↦
          let kept : replaces u.rewrite e ≡ false = on.replaced c.args.old c.requires.last ∙ sym w.replaces.ensures ∙ w.if-replaces.false in
          sym (ap word_of (range_true u.from u.end a (rewritten_entry u.rewrite e) e w.if-self-address.true w.if-address-self.true ∙ ap (λ b. cond b u.rewrite.entry e) kept) ∙ back)
      | else-self-address-via-then-self-address+else-address-self w ↦ sym (ap word_of (range_high u.from u.end a (rewritten_entry u.rewrite e) e (let h = w.if-address-self.false in omega (arith, h))) ∙ back)
      | else-self-address-via-else-self-address w ↦ sym (ap word_of (range_low u.from u.end a (rewritten_entry u.rewrite e) e (let h = w.if-self-address.false in omega (arith, h))) ∙ back)
    ]
