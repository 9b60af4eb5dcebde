-- Meaning: prefixes as numbers, and the addresses that they cover (DPDK Programmer's Guide, "LPM
-- Library": a rule has an address and a depth, and matches the addresses that share its first
-- `depth` bits).
use Rattle.std.specs.Prelude.{ℕ, ◌≡◌, ◌-◌, ◌*◌, ◌/◌, ◌^◌, ◌≤◌, ◌<◌}

-- a prefix: the first `len` bits of `bits`
pub record Network : Type 0 where
  pub bits : ℕ
  pub len : ℕ

-- the prefix covers the address: both have the same first `len` bits
abbrev pub Covers : ℕ → Network → ℕ → Type 0
Covers width p a = a / 2 ^ (width - p.len) ≡ p.bits / 2 ^ (width - p.len)

-- an address of `width` bits with all but its first `len` bits cleared
abbrev pub network_bits : ℕ → ℕ → ℕ → ℕ
network_bits width len a = a / 2 ^ (width - len) * 2 ^ (width - len)

-- the prefix of that length that covers the address
abbrev pub prefix_of : ℕ → ℕ → ℕ → Network
prefix_of width len a = record { bits = network_bits width len a; len = len }

-- a prefix of addresses of `width` bits, whose host bits are 0
abbrev pub IsNetwork : ℕ → Network → Type 0
IsNetwork width p = (p.len ≤ width) × (p.bits < 2 ^ width) × (network_bits width p.len p.bits ≡ p.bits)
