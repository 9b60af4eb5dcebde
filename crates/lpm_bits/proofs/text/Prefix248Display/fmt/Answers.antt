use Rattle.std.proofs.Common.{◌≡◌, ap, subst, ◌∙◌, ◌++◌, List, ℕ}
use Rattle.std.specs.Prelude.{codes, decimal}
use Rattle.std.specs.Fmt.{HasWritten}
use Rattle.std.specs.Int.{w32, to_be_bytes}
use Rattle.std.specs.Net.Addr.{ipv4_octets, IsIpv4OfBits}
use Rattle.std.specs.Net.Text.{ipv4_text}
use Rattle.lpm_bits.proofs.text.Prefix248Display.fmt.Goals as goal

pub returns-clause-writes : goal.returns-clause-writes
unfolding IsIpv4OfBits
returns-clause-writes g c = λ plain ok.
    let octets : ipv4_octets c.from_bits.result ≡ to_be_bytes w32 c.args.self.now.bits =
    c.from_bits.ensures ∙ ap (to_be_bytes w32) c.bits.ensures.value in
    subst (λ (z : List ℕ × ℕ). HasWritten {W = g.row.W.Denot} g.W.Write.write_str_gives c.args.f.now (ipv4_text z.0 ++ (codes "/" ++ decimal z.1)) c.write.new.self)
    (λ i. (octets i, c.len.ensures.value i)) (c.write.ensures.writes plain ok)
