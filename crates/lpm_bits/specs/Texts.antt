-- Meaning: prefixes and next hops as people write them (RFC 4632, section 3.1: an address, a slash and
-- the length of the prefix; next hops are numbers, which is this project's).
use Rattle.std.specs.Prelude.{ℕ, ◌≡◌, List, ◌++◌, ◌∷◌, codes, decimal}
use Rattle.std.specs.Int.{w32, to_be_bytes}
use Rattle.std.specs.Net.Addr.{ipv4_bits}
use Rattle.std.specs.Net.Grammar.{IsIpv4Text, IsNumber}
use Rattle.std.specs.declared.net.ipv4_addr.Ipv4Addr.{Ipv4Addr}
use Rattle.std.specs.Net.Text.{ipv4_text}
use Rattle.lpm_bits.specs.Network.{Network, prefix_of}

-- the text of a prefix
abbrev pub prefix_text : Network → List ℕ
prefix_text p = ipv4_text (to_be_bytes w32 p.bits) ++ (codes "/" ++ decimal p.len)

-- the text writes this prefix; host bits that it may write are cleared
pub record IsPrefixText (text : List ℕ) (p : Network) : Type 0 where
  pub addr_text : List ℕ
  pub len_text : List ℕ
  pub addr : Ipv4Addr
  -- 47 is the slash
  pub spelled : text ≡ addr_text ++ 47 ∷ len_text
  pub dotted : IsIpv4Text addr_text addr
  pub digits : IsNumber 10 len_text p.len
  pub prefix : p ≡ prefix_of 32 p.len (ipv4_bits addr)
