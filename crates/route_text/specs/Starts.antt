-- This layer's own: what a text begins with, a number, an address or the end of a line
-- (this project's).
use Rattle.std.specs.Prelude.{◌≡◌, ℕ, List, ◌∷◌, ◌++◌, length, ◌≤◌, ◌⊎◌, [], decimal, ⊤, ◌<◌}
use Rattle.route_text.specs.declared.fault.Fault.{Fault}
use Rattle.route_text.specs.declared.fault.FaultKind.{FaultKind}
use Rattle.route_text.specs.declared.grammar.Line.{Line}
use Rattle.route_text.specs.Files.{lines, fields, IsSkipped, AreItems}
use Rattle.std.specs.Int.{IsInRange}
use Rattle.route_text.specs.declared.lines.End.{End}
use Rattle.route_text.specs.Fields.{IsAddress}
use Rattle.lpm_bits.specs.Network.{IsNetwork}
use Rattle.fib_model.specs.declared.orders.Order.{Order}
use Rattle.route_text.specs.declared.grammar.Line.TheVariants as kinds
use Rattle.route_text.specs.declared.lines.End.TheVariants as ends
use Rattle.fib_model.specs.declared.orders.Order.TheVariants as orders

-- What one line says (this project's).

module _ {Item : Type 0} (Spells : ℕ → List (List ℕ) → Item → Type 0)
    (HasFault : List (List ℕ) → FaultKind → Type 0) where
  -- the line is skipped, spells an item, or has a fault
  abbrev pub Says : ℕ → List (List ℕ) → Line Item → Type 0
  Says n fs kinds.Nothing = IsSkipped fs
  Says n fs (kinds.Item item) = ¬ IsSkipped fs × Spells n fs item
  Says n fs (kinds.Fault kind) = ¬ IsSkipped fs × HasFault fs kind

  -- the first line of the bytes says this, and the rest stands after it
  pub record SaysFirst (n : ℕ) (bytes : List ℕ) (this : Line Item) (rest : List ℕ) : Type 0 where
    pub line : List ℕ
    pub split : lines bytes ≡ line ∷ lines rest
    pub says : Says n (fields line) this

  -- the first line of the bytes has this fault
  pub record SaysFault (n : ℕ) (bytes : List ℕ) (fault : Fault) : Type 0 where
    pub rest : List ℕ
    pub number : fault.line ≡ n
    pub first : SaysFirst n bytes (kinds.Fault fault.kind) rest

-- so many lines at the front of the bytes are items, which were added to a list, and the rest stands
-- after them
module _ {Item : Type 0} (Spells : ℕ → List (List ℕ) → Item → Type 0) where
  pub record SaysItems (n : ℕ) (bytes : List ℕ) (before after : List Item) (count : ℕ)
      (rest : List ℕ) : Type 0 where
    pub done : List (List ℕ)
    pub more : List Item
    pub split : lines bytes ≡ done ++ lines rest
    pub counted : length done ≡ count
    pub good : AreItems Spells n done more
    pub grown : after ≡ before ++ more

-- no digit goes on here
abbrev pub StartsNoDigit : List ℕ → Type 0
StartsNoDigit [] = ⊤
StartsNoDigit (b ∷ bs) = IsInRange 48 57 b → ⊥

-- the text is the decimal of n, which is at most max, and then the rest
pub record StartsNumber (max : ℕ) (text : List ℕ) (n : ℕ) (rest : List ℕ) : Type 0 where
  pub small : n ≤ max
  pub split : text ≡ decimal n ++ rest
  pub ends : StartsNoDigit rest

abbrev pub StartsNoNumber : ℕ → List ℕ → Type 0
StartsNoNumber max text = (n : ℕ) (rest : List ℕ) → StartsNumber max text n rest → ⊥

-- the text is a dot, an octet, and then the rest
pub record StartsNextOctet (text : List ℕ) (n : ℕ) (rest : List ℕ) : Type 0 where
  pub front : List ℕ
  pub dot : text ≡ 46 ∷ front
  pub octet : StartsNumber 255 front n rest

abbrev pub StartsNoNextOctet : List ℕ → Type 0
StartsNoNextOctet text = (n : ℕ) (rest : List ℕ) → StartsNextOctet text n rest → ⊥

-- the text is an address, and then the rest
pub record StartsAddress (text : List ℕ) (addr : ℕ) (rest : List ℕ) : Type 0 where
  pub front : List ℕ
  pub address : IsAddress front addr
  pub split : text ≡ front ++ rest
  pub ends : StartsNoDigit rest

abbrev pub StartsNoAddress : List ℕ → Type 0
StartsNoAddress text = (addr : ℕ) (rest : List ℕ) → StartsAddress text addr rest → ⊥

-- the text is what ends a number, and then the rest; a line ends with LF or CR LF
abbrev pub StartsEnd : End → List ℕ → List ℕ → Type 0
StartsEnd (ends.Byte byte) text rest = text ≡ byte ∷ rest
StartsEnd ends.Line text rest = (text ≡ 10 ∷ rest) ⊎ (text ≡ 13 ∷ 10 ∷ rest)

-- the text is the decimal of n, which is at most max, what ends it, and then the rest
pub record StartsNumberBefore (end : End) (max : ℕ) (text : List ℕ) (n : ℕ) (rest : List ℕ)
    : Type 0 where
  pub after : List ℕ
  pub small : n ≤ max
  pub split : text ≡ decimal n ++ after
  pub ends : StartsEnd end after rest

-- the text is an address, what ends it, and then the rest
pub record StartsAddressBefore (end : End) (text : List ℕ) (addr : ℕ) (rest : List ℕ)
    : Type 0 where
  pub front : List ℕ
  pub after : List ℕ
  pub address : IsAddress front addr
  pub split : text ≡ front ++ after
  pub ends : StartsEnd end after rest

-- The ranges of an update's values (this project's).

-- the values of an update are in the ranges of their types
abbrev pub IsSound : Order 24 8 → Type 0
IsSound (orders.Add prefix hop) = IsNetwork 32 prefix × (hop < 16777216)
IsSound (orders.Del prefix) = IsNetwork 32 prefix
IsSound orders.Flush = ⊤
IsSound (orders.Reclaim count) = ⊤
IsSound (orders.Online worker) = worker < 4294967296
IsSound (orders.Offline worker) = worker < 4294967296
IsSound (orders.Quiescent worker) = worker < 4294967296
