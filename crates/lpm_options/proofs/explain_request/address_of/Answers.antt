use Rattle.std.proofs.Common.{◌≡◌, ◌∙◌, ap, sym, subst, refl, arith, ℕ, ◌+◌, ◌*◌, List, [], ◌∷◌}
use Rattle.std.specs.Int.{w32, from_be_bytes}
use Rattle.std.specs.declared.net.ipv4_addr.Ipv4Addr.{Ipv4Addr}
use Rattle.std.specs.Net.Addr.{ipv4_bits}
use Rattle.std.specs.Net.Grammar.{IsIpv4Text}
use Rattle.route_text.specs.Fields.{IsAddress}
use Rattle.lpm_options.proofs.explain_request.address_of.Goals as goal

-- the number of four octets
number_of : (a b c d : ℕ) → from_be_bytes w32 (a ∷ b ∷ c ∷ d ∷ []) ≡ ((a * 256 + b) * 256 + c) * 256 + d
number_of a b c d = omega arith

-- the standard library's address is spelled as that of an address file
spelled : (text : List ℕ) (address : Ipv4Addr) (bits : ℕ) → IsIpv4Text text address → bits ≡ ipv4_bits address → IsAddress text bits
unfolding ipv4_bits
spelled text address bits is value = record {
  a = is.a;
  b = is.b;
  c = is.c;
  d = is.d;
  octets = is.fit;
  spelled = is.spelled;
  value = value ∙ (ap (from_be_bytes w32) is.value ∙ number_of is.a is.b is.c is.d);
}

pub returns-in-Ok-clause-found : goal.returns-in-Ok-clause-found
returns-in-Ok-clause-found c = subst (λ (t : List ℕ). IsAddress t c.to_bits.result) c.as_bytes.ensures.value (spelled c.as_bytes.result.now c.in-Ok.address c.to_bits.result c.in-Ok.ensures c.to_bits.ensures)

-- an address that is spelled so is one of the standard library
none_spelled : (text : List ℕ) → ((address : Ipv4Addr) → IsIpv4Text text address → ⊥) → (addr : ℕ) → IsAddress text addr → ⊥
none_spelled text none addr is = none (record { octets = is.a ∷ is.b ∷ is.c ∷ is.d ∷ [] }) (record {
  a = is.a;
  b = is.b;
  c = is.c;
  d = is.d;
  fit = is.octets;
  value = refl;
  spelled = is.spelled;
})

pub returns-in-Err-clause-missing : goal.returns-in-Err-clause-missing
returns-in-Err-clause-missing c = λ _ addr is. none_spelled c.as_bytes.result.now c.in-Err.ensures addr (subst (λ (t : List ℕ). IsAddress t addr) (sym c.as_bytes.ensures.value) is)
