use Rattle.std.proofs.Common.{◌≡◌, ◌-◌, ◌+◌, ◌∷◌, ◌++◌, [], List, Option, ℕ, length, get_or, drop, sym, ap, ◌∙◌, arith, append_assoc}
use Rattle.std.proofs.lemmas.List.{drop_all}
use Rattle.route_text.specs.Texts.{address_text, hop_text, answer_line, answer_lines}
use Rattle.route_text.proofs.AnswerLines.{next, done}
use Rattle.route_text.proofs.answers.write_lines.Goals as goal

pub loop-left-init : goal.loop-left-init
loop-left-init c =
    let block = c.args.block.now in
    let addrs = c.args.addrs.now in
    record {
      within = omega arith;
      place = omega arith;
      room = omega arith;
      written = drop_all (length block) block (omega arith) ∙ sym (done addrs c.args.hops.now (length addrs) (omega arith));
    }

-- the pieces of a line, each before what stands after it
joined : (address hop rest : List ℕ) → address ++ 32 ∷ (hop ++ 10 ∷ rest) ≡ address ++ 32 ∷ [] ++ hop ++ 10 ∷ [] ++ rest
joined address hop rest = sym (simp append_assoc)

pub loop-left-preserved : goal.loop-left-preserved
loop-left-preserved c =
    let addrs = c.args.addrs.now in
    let hops = c.args.hops.now in
    let i = c.loop-left.left - 1 in
    let e : c.loop-left.left ≡ i + 1 = omega arith in
    let hop = c.index-hops-left.result in
    let rest : drop c.loop-left.start c.loop-left.block ≡ answer_lines (drop (i + 1) addrs) (drop (i + 1) hops) = c.loop-left.invariant.written ∙ ap (λ n. answer_lines (drop n addrs) (drop n hops)) e in
    let lower = drop c.loop-left.start c.loop-left.block in
    let after = c.put_hop-end.ensures.written ∙ ap (λ t. hop_text hop ++ t) c.put_byte-end.ensures.written in
    let blank = c.put_byte-end-in-loop-left.ensures.written ∙ ap (λ t. 32 ∷ t) after in
    let line = c.put_address-start.ensures.written ∙ (ap (λ t. address_text (get_or addrs i 0) ++ t) blank ∙ joined (address_text (get_or addrs i 0)) (hop_text hop) lower) in
    let here = next addrs hops i hop (omega arith) c.requires.same in
    record {
      within = omega arith;
      place = omega arith;
      room = omega arith;
      written = line
          ∙ (ap (λ (h : Option ℕ). answer_line (get_or addrs i 0) h ++ lower) c.index-hops-left.is
          ∙ (ap (λ t. answer_line (get_or addrs i 0) (get_or hops i hop) ++ t) rest ∙ sym here));
    }
