use Rattle.std.proofs.Common.{◌≡◌, ◌∷◌, ◌*◌, ◌-◌, ◌+◌, get_or, drop, ap, ◌∙◌, arith}
use Rattle.route_text.specs.declared.answers.TheConstants.{OCTETS}
use Rattle.route_text.proofs.WrittenOctets.{entry, written}
use Rattle.route_text.proofs.answers.put_octet.Goals as goal

pub overflow_sub-result : goal.overflow_sub-result
overflow_sub-result c = let is = entry c.args.octet c.requires.fits in omega arith

pub returns-clause-start : goal.returns-clause-start
returns-clause-start c = let is = entry c.args.octet c.requires.fits in (omega arith, omega arith)

pub returns-clause-written : goal.returns-clause-written
returns-clause-written c =
    let n = c.args.octet in
    let last = c.put_byte.new.line in
    let at : c.args.end - 4 ≡ c.put_byte.result = omega arith in
    let four : drop (c.args.end - 4) last ≡ get_or OCTETS (n * 4) 0 ∷ get_or OCTETS (n * 4 + 1) 0 ∷ get_or OCTETS (n * 4 + 2) 0 ∷ get_or OCTETS (n * 4 + 3) 0 ∷ drop c.args.end c.args.line.now =
    ap (λ i. drop i last) at ∙ (c.put_byte.ensures.written ∙ ap (λ t. get_or OCTETS (n * 4) 0 ∷ t) (c.put_byte-low-3.ensures.written ∙ ap (λ t. get_or OCTETS (n * 4 + 1) 0 ∷ t) (c.put_byte-low-2.ensures.written ∙ ap (λ t. get_or OCTETS (n * 4 + 2) 0 ∷ t) c.put_byte-low.ensures.written))) in
    ap (λ l. drop (c.args.end - l) last) c.from.ensures ∙ written n _ _ _ _ c.args.end last (drop c.args.end c.args.line.now) (entry n c.requires.fits) (omega arith) four
