-- The addresses of `explain`, word by word.
use Rattle.std.proofs.Common.{◌≡◌, ap, arith, ℕ, List, Option, Some, None, codes, slice_index, ◌∙◌, sym, subst, suc, ◌+◌, ◌<◌, [], ◌∷◌, ◌++◌, map, length, take, drop, get_or}
use Rattle.std.specs.Prelude.{IfSome, IsNone, All, option_map}
use Rattle.clap.specs.Words.{Row, Text}
use Rattle.lpm_limits.specs.declared.config.Config.{Config}
use Rattle.lpm_limits.specs.Limits.{IsIn}
use Rattle.lpm_options.specs.Commands.{storm_rounds}
use Rattle.lpm_options.specs.Requests.{AreLimits, Asks, IsLine, HasNumber, HaveFiles, IsFirstBadWord, IsNoAddress}
use Rattle.lpm_options.specs.declared.CommandLine.{CommandLine}
use Rattle.lpm_options.specs.declared.CommandLine.TheVariants.{Lookup, Apply, Report, Storm, Explain, Migrate}
use Rattle.std.specs.List.{AllZip}
use Rattle.std.specs.Borrow.{Bor}
use Rattle.std.proofs.Math.Seq.{drop-cons}
use Rattle.std.proofs.lemmas.List.{take_more, take-append-drop, map-append, length-map, length-take-le}
use Rattle.std.proofs.lemmas.List.Elements.{All-nil, All-cons}
use Rattle.route_text.specs.Fields.{IsAddress}

-- What matches ask for, whatever the command.

-- what is asked for by nothing isn't made
unasked : (name : Text) (rows : List Row) (made : Option CommandLine) → IsNone made → ((line : CommandLine) → Asks name rows line → ⊥) → IsLine name rows made
unasked name rows None is none = none
unasked name rows (Some line) is none = absurd cc

-- where there are no limits, only `explain` and `migrate` can be asked for
pub no_limits : (name : Text) (rows : List Row) (made : Option CommandLine) → IsNone made → (name ≡ codes "migrate" → ⊥) → (name ≡ codes "explain" → ⊥)
    → ((config : Config) → AreLimits rows config → ⊥) → IsLine name rows made
no_limits name rows made is migrate explain none = unasked name rows made is by_command where
  by_command : (line : CommandLine) → Asks name rows line → ⊥
  by_command (Lookup routes addresses config) asks = none config asks.3
  by_command (Explain routes addresses config) asks = explain asks.0
  by_command (Apply routes updates addresses config) asks = none config asks.2
  by_command (Report routes updates config) asks = none config asks.3
  by_command (Storm routes updates addresses config rounds has_stuck_worker) asks = none config asks.2
  by_command (Migrate old) asks = migrate asks.0

-- where there are no three files, neither `apply` nor `storm` is asked for
pub no_files : (name : Text) (rows : List Row) (made : Option CommandLine) → IsNone made → (name ≡ codes "lookup" → ⊥) → (name ≡ codes "explain" → ⊥) → (name ≡ codes "report" → ⊥) → (name ≡ codes "migrate" → ⊥)
    → ((routes updates addresses : Text) → HaveFiles rows routes updates addresses → ⊥) → IsLine name rows made
no_files name rows made is lookup explain report migrate none = unasked name rows made is by_command where
  by_command : (line : CommandLine) → Asks name rows line → ⊥
  by_command (Lookup routes addresses config) asks = lookup asks.0
  by_command (Explain routes addresses config) asks = explain asks.0
  by_command (Apply routes updates addresses config) asks = none _ _ _ asks.1
  by_command (Report routes updates config) asks = report asks.0
  by_command (Storm routes updates addresses config rounds has_stuck_worker) asks = none _ _ _ asks.1
  by_command (Migrate old) asks = migrate asks.0

-- the name begins with another byte
storm≢apply : codes "storm" ≡ codes "apply" → ⊥
storm≢apply e = let first : ◌≡◌ {A = ℕ} 115 97 = ap (λ (t : Text). slice_index t 0) e in absurd (omega arith)

-- where there are no rounds in range, `storm` isn't asked for
pub no_rounds : (rows : List Row) (made : Option CommandLine) → IsNone made → ((rounds : ℕ) → HasNumber rows (codes "rounds") rounds → IsIn storm_rounds rounds → ⊥) → IsLine (codes "storm") rows made
no_rounds rows made is none = unasked (codes "storm") rows made is by_command where
  by_command : (line : CommandLine) → Asks (codes "storm") rows line → ⊥
  by_command (Lookup routes addresses config) asks = let name = asks.0 in absurd cc
  by_command (Explain routes addresses config) asks = let name = asks.0 in absurd cc
  by_command (Apply routes updates addresses config) asks = storm≢apply asks.0
  by_command (Report routes updates config) asks = let name = asks.0 in absurd cc
  by_command (Storm routes updates addresses config rounds has_stuck_worker) asks = none rounds asks.3 asks.4
  by_command (Migrate old) asks = let name = asks.0 in absurd cc

-- the texts of words
abbrev pub texts : List (Bor Text) → List Text
texts ws = map (λ w. w.now) ws

zip_push : (ws : List Text) (addrs : List ℕ) (w : Text) (a : ℕ) → AllZip IsAddress ws addrs → IsAddress w a → AllZip IsAddress (ws ++ w ∷ []) (addrs ++ a ∷ [])
zip_push [] [] w a read is = (is, tt)
zip_push [] (b ∷ addrs) w a read is = absurd read
zip_push (v ∷ ws) [] w a read is = absurd read
zip_push (v ∷ ws) (b ∷ addrs) w a read is = (read.0, zip_push ws addrs w a read.1 is)

are_read : (ws : List Text) (addrs : List ℕ) → AllZip IsAddress ws addrs → All (λ (t : Text). (a : ℕ) × IsAddress t a) ws
are_read [] addrs read = All-nil _
are_read (w ∷ ws) [] read = absurd read
are_read (w ∷ ws) (a ∷ addrs) read =
    let here : (b : ℕ) × IsAddress w b = (a, read.0) in
    All-cons (λ (t : Text). (b : ℕ) × IsAddress t b) w ws here (are_read ws addrs read.1)

-- one word more is an address
pub next_word : (ws : List (Bor Text)) (i : ℕ) (d : Bor Text) (addrs : List ℕ) (a : ℕ) → i < length ws → AllZip IsAddress (texts (take i ws)) addrs → IsAddress (get_or ws i d).now a → AllZip IsAddress (texts (take (i + 1) ws)) (addrs ++ a ∷ [])
next_word ws i d addrs a within read is =
    let w = get_or ws i d in
    let split : texts (take (i + 1) ws) ≡ texts (take i ws) ++ w.now ∷ [] = ap texts (take_more ws i d within) ∙ map-append (λ (w : Bor Text). w.now) (take i ws) (w ∷ []) in
    subst (λ (l : List Text). AllZip IsAddress l (addrs ++ a ∷ [])) (sym split) (zip_push (texts (take i ws)) addrs w.now a read is)

-- the word at this place is the first that is no address
pub first_bad : (ws : List (Bor Text)) (i : ℕ) (d : Bor Text) (addrs : List ℕ) → i < length ws → AllZip IsAddress (texts (take i ws)) addrs → IsNoAddress (get_or ws i d).now → IsFirstBadWord (texts ws) (i + 1) (get_or ws i d).now
first_bad ws i d addrs within read bad =
    let w = get_or ws i d in
    let whole : ws ≡ take i ws ++ w ∷ drop (suc i) ws = sym (take-append-drop i ws) ∙ ap (λ (rest : List (Bor Text)). take i ws ++ rest) (drop-cons ws i d within) in
    record {
      before = texts (take i ws);
      after = texts (drop (suc i) ws);
      split = ap texts whole ∙ map-append (λ (w : Bor Text). w.now) (take i ws) (w ∷ drop (suc i) ws);
      place = omega (arith, length-map (take i ws) (λ (w : Bor Text). w.now), length-take-le i ws (omega arith));
      good = are_read (texts (take i ws)) addrs read;
      bad = bad;
    }

-- Where something is read, it is the values, and where nothing is read, there are none.
module _ {X V : Type 0} (f : X → V) where
  pub are_values : (read : Option (Bor X)) (values : Option V) → values ≡ option_map (λ s. f s.now) read → IfSome read (λ r. values ≡ Some (f r.now))
  are_values None values e = tt
  are_values (Some r) values e = e

  pub are_absent : (read : Option (Bor X)) (values : Option V) → values ≡ option_map (λ s. f s.now) read → IsNone read → (v : V) → values ≡ Some v → ⊥
  are_absent None values e n v is = cc
  are_absent (Some r) values e n v is = cc
