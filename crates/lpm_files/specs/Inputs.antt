-- Meaning: files that are read and parsed one after another (this project's program: in the order of
-- the command line, and the first fault wins).
use Rattle.std.specs.Prelude.{ℕ, ◌≡◌, ◌⊎◌, ⊤, List, [], ◌∷◌, Option, IfSome}
use Rattle.std.specs.Borrow.{Bor}
use Rattle.route_text.specs.declared.fault.Fault.{Fault}
use Rattle.route_text.specs.declared.fault.ReadError.{ReadError}
use Rattle.route_text.specs.declared.fault.ReadError.TheVariants as errors
use Rattle.route_text.specs.Files.{AreRoutes, IsRoutesFault, AreAddresses, IsAddressesFault}
use Rattle.route_text.specs.Updates.{AreUpdates, IsUpdatesFault, AreOldUpdates, IsOldUpdatesFault}
use Rattle.lpm_files.specs.declared.failure.Failure.{Failure}
use Rattle.lpm_files.specs.declared.failure.Failure.TheVariants.{CannotRead, Bad, Memory}

-- a file to read: its path, its bytes where they are known, whether bytes are of its form, and the
-- first fault of bytes that aren't
pub record Input : Type 1 where
  pub path : List ℕ
  pub bytes : Option (List ℕ)
  pub IsFile : List ℕ → Type 0
  pub IsFault : List ℕ → Fault → Type 0

-- a file of a form that lists items
abbrev pub input : {Item : Type 0} → (List ℕ → List Item → Type 0)
    → (List ℕ → Fault → Type 0) → List ℕ → Option (List ℕ) → Input
input {Item} Lists IsFault path bytes = record {
  path = path;
  bytes = bytes;
  IsFile = λ b. (items : List Item) × Lists b items;
  IsFault = IsFault;
}

abbrev pub route_file : List ℕ → Option (List ℕ) → Input
route_file path bytes = input AreRoutes IsRoutesFault path bytes

abbrev pub address_file : List ℕ → Option (List ℕ) → Input
address_file path bytes = input AreAddresses IsAddressesFault path bytes

abbrev pub update_file : List ℕ → Option (List ℕ) → Input
update_file path bytes = input AreUpdates IsUpdatesFault path bytes

abbrev pub old_update_file : List ℕ → Option (List ℕ) → Input
old_update_file path bytes = input AreOldUpdates IsOldUpdatesFault path bytes

-- the bytes are the known ones, where they are known
abbrev pub IsKnownAs : Option (List ℕ) → List ℕ → Type 0
IsKnownAs known bytes = IfSome known (λ b. bytes ≡ b)

-- a file whose bytes may be known lists these items
abbrev pub Reads : {Item : Type 0} → (List ℕ → List Item → Type 0) → Option (List ℕ) → List Item
    → Type 0
Reads Lists known items = (bytes : List ℕ) × IsKnownAs known bytes × Lists bytes items

-- what an error in parsing the file of this path ends the run with
abbrev pub ending_of : Bor (List ℕ) → ReadError → Failure
ending_of path (errors.Fault fault) = Bad path fault
ending_of path errors.Memory = Memory

-- reading and parsing the file ends so
abbrev pub EndsReading : Input → Failure → Type 0
EndsReading file (CannotRead path) = path.now ≡ file.path
EndsReading file (Bad path fault) =
    (path.now ≡ file.path)
    × ((bytes : List ℕ) × IsKnownAs file.bytes bytes × file.IsFault bytes fault)
EndsReading file Memory = ⊤
EndsReading file _ = ⊥

-- the file's bytes are of its form
abbrev pub IsRead : Input → Type 0
IsRead file = (bytes : List ℕ) × IsKnownAs file.bytes bytes × file.IsFile bytes

abbrev pub AreRead : List Input → Type 0
AreRead [] = ⊤
AreRead (file ∷ files) = IsRead file × AreRead files

-- reading and parsing the files, one after another, ends so at one of them
abbrev pub EndsAtOne : List Input → Failure → Type 0
EndsAtOne [] failure = ⊥
EndsAtOne (file ∷ files) failure =
    EndsReading file failure ⊎ (IsRead file × EndsAtOne files failure)
