-- What is written is read back: each update is a line of its word and fields.
use Rattle.std.proofs.Common.{◌≡◌, ℕ, suc, ◌+◌, ◌<◌, ◌≤◌, List, [], ◌∷◌, ◌++◌, length, get_or, drop, sym, ap, ◌∙◌, append_assoc, add-one, ◌^◌, false, ◌==◌, refl, subst, arith, Bool, true, ◌&&◌, nat_lt, codes, All}
use Rattle.std.proofs.Math.Seq.{drop-cons}
use Rattle.std.proofs.lemmas.List.{append-nil, drop_all, length-append, get_or_append_left}
use Rattle.std.specs.Fmt.{decimal}
use Rattle.std.specs.Int.{byte_at}
use Rattle.std.specs.Str.Parse.{AllDigits}
use Rattle.std.proofs.lemmas.Bool.Decides.{nat_tests}
use Rattle.std.proofs.lemmas.Fmt.{decimal_is_IsNumeral, decimal_nonempty}
use Rattle.std.proofs.lemmas.Str.Parse.{digit_from_value, digit_at}
use Rattle.route_text.specs.Files.{is_blank, onto_first, lines, fields, SpellsAddress, HasAddressFault, SpellsRoute, HasRouteFault, StandsFor, AreItems}
use Rattle.lpm_bits.specs.Network.{Network, network_bits, IsNetwork}
use Rattle.lpm_bits.specs.Texts.{prefix_text}
use Rattle.route_text.specs.Fields.{IsNumber, IsAddress, IsPrefix}
use Rattle.route_text.specs.Starts.{StartsNumberBefore, StartsAddressBefore, Says, SaysFirst, IsSound}
use Rattle.route_text.proofs.Cuts.{HasNoSlash, before_cut, after_cut}
use Rattle.route_text.proofs.Items.{IsWritten, ended_line, nil_lines, line_first}
use Rattle.route_text.proofs.Runs.{last_one, goes_on, cons_blank, nil_fields}
use Rattle.std.proofs.lemmas.Bool.{and_parts}
use borrow.Author.Tests.{ltb-true}
use Rattle.fib_model.specs.declared.orders.Order.{Order}
use Rattle.fib_model.specs.declared.orders.Outcome.{Outcome}
use Rattle.route_text.specs.Updates.{IsCountInRange, SpellsUpdate, AreUpdates, header, after_first, StartsHeader}
use Rattle.route_text.specs.Texts.{address_text, addition_text, update_text, update_line, lines_of_updates, update_lines, outcome_line, outcome_lines}
use Rattle.route_text.specs.declared.lines.End.TheVariants as ends
use Rattle.route_text.specs.declared.grammar.Line.TheVariants as kinds
use Rattle.fib_model.specs.declared.orders.Order.TheVariants as orders

-- The text of a list, item by item.

-- `text_of` is the text of a list, which has `piece` for each item
module _ {A : Type 0} (piece : A → List ℕ) (text_of : List A → List ℕ) (next : (x : A) (xs : List A) → text_of (x ∷ xs) ≡ piece x ++ text_of xs) (none : text_of [] ≡ []) where
  more_of : (xs : List A) (i : ℕ) (d : A) → i < length xs → text_of (drop i xs) ≡ piece (get_or xs i d) ++ text_of (drop (i + 1) xs)
  more_of xs i d lt =
      ap text_of (drop-cons xs i d lt) ∙ (next (get_or xs i d) (drop (suc i) xs)
      ∙ ap (λ n. piece (get_or xs i d) ++ text_of (drop n xs)) (sym (add-one i)))

  -- a list of items before what is to come: one more piece
  pub step_on : (xs : List A) (i : ℕ) (x : A) (text more all : List ℕ) → i < length xs → x ≡ get_or xs i x → more ≡ text ++ piece x → text ++ text_of (drop i xs) ≡ all → more ++ text_of (drop (i + 1) xs) ≡ all
  step_on xs i x text more all lt is grown whole =
      let rest = text_of (drop (i + 1) xs) in
      let split : text_of (drop i xs) ≡ piece x ++ rest = more_of xs i x lt ∙ ap (λ y. piece y ++ rest) (sym is) in
      ap (λ t. t ++ rest) grown ∙ (append_assoc text (piece x) rest ∙ (ap (λ t. text ++ t) (sym split) ∙ whole))

  -- nothing is to come
  pub at_end : (xs : List A) (i : ℕ) (text all : List ℕ) → length xs ≤ i → text ++ text_of (drop i xs) ≡ all → text ≡ all
  at_end xs i text all le whole =
      let nothing : text_of (drop i xs) ≡ [] = ap text_of (drop_all i xs le) ∙ none in
      sym (append-nil text) ∙ (ap (λ t. text ++ t) (sym nothing) ∙ whole)

-- Lines of plain bytes: neither blanks nor bytes of a line's end.

-- each byte is past the space
abbrev pub IsPlain : List ℕ → Type 0
IsPlain [] = Unit {0}
IsPlain (b ∷ bs) = (32 < b) × IsPlain bs

pub plain_append : (xs bs : List ℕ) → IsPlain xs → IsPlain bs → IsPlain (xs ++ bs)
plain_append [] bs p q = q
plain_append (a ∷ xs) bs p q = (p.0, plain_append xs bs p.1 q)

plain_digits : (ds : List ℕ) → AllDigits 10 ds → IsPlain ds
plain_digits [] p = tt
plain_digits (d ∷ ds) p = let digit = digit_from_value d p.0 in (omega arith, plain_digits ds p.1)

pub plain_decimal : (n : ℕ) → n < 2 ^ 64 → IsPlain (decimal n)
plain_decimal n fits = plain_digits (decimal n) (decimal_is_IsNumeral n fits).0.1

not_blank : (b : ℕ) → 32 < b → is_blank b ≡ false
not_blank b high = grind (arith, nat_tests)

-- one field
pub one_field : (bs : List ℕ) → IsPlain bs → 0 < length bs → fields bs ≡ bs ∷ []
one_field [] p some = absurd (omega arith)
one_field (b ∷ []) p some = last_one b [] (not_blank b p.0) refl ∙ ap (λ fs. (b ∷ []) ∷ fs) nil_fields
one_field (b ∷ c ∷ bs) p some = goes_on b (c ∷ bs) (not_blank b p.0) (not_blank c p.1.0) ∙ ap (onto_first b) (one_field (c ∷ bs) p.1 (omega arith))

-- a field and a space
pub field_before : (bs rest : List ℕ) → IsPlain bs → 0 < length bs → fields (bs ++ 32 ∷ rest) ≡ bs ∷ fields rest
field_before [] rest p some = absurd (omega arith)
field_before (b ∷ []) rest p some = last_one b (32 ∷ rest) (not_blank b p.0) refl ∙ ap (λ fs. (b ∷ []) ∷ fs) (cons_blank 32 rest refl)
field_before (b ∷ c ∷ bs) rest p some = goes_on b (c ∷ (bs ++ 32 ∷ rest)) (not_blank b p.0) (not_blank c p.1.0) ∙ ap (onto_first b) (field_before (c ∷ bs) rest p.1 (omega arith))

pub written_plain : (bs : List ℕ) → IsPlain bs → IsWritten bs
written_plain [] p = tt
written_plain (b ∷ bs) p = (omega arith, written_plain bs p.1)

pub written_append : (xs bs : List ℕ) → IsWritten xs → IsWritten bs → IsWritten (xs ++ bs)
written_append [] bs p q = q
written_append (a ∷ xs) bs p q = (p.0, written_append xs bs p.1 q)

octet_plain : (n : ℕ) → n < 256 → IsPlain (decimal n)
octet_plain n fits = plain_decimal n (omega arith)

pub plain_address : (text : List ℕ) (addr : ℕ) → IsAddress text addr → IsPlain text
plain_address text addr is =
    subst IsPlain (sym is.spelled) (plain_append _ (decimal is.d) (plain_append _ (46 ∷ []) (plain_append _ (decimal is.c) (plain_append _ (46 ∷ []) (plain_append _ (decimal is.b) (plain_append (decimal is.a) (46 ∷ []) (octet_plain is.a is.octets.0) dot) (octet_plain is.b is.octets.1)) dot) (octet_plain is.c is.octets.2)) dot) (octet_plain is.d is.octets.3))
  where
    dot : IsPlain (46 ∷ [])
    dot = (omega arith, tt)

-- an address doesn't begin with `#`
unskipped : (text rest : List ℕ) (addr : ℕ) → IsAddress text addr → get_or (text ++ rest) 0 0 ≡ 35 → ⊥
unskipped text rest addr is e =
    let octet = is.octets.0 in
    let some = decimal_nonempty is.a (omega arith) in
    let first = digit_at (decimal is.a) 0 (decimal_is_IsNumeral is.a (omega arith)).0.1 some in
    let split : text ++ rest ≡ decimal is.a ++ (46 ∷ (decimal is.b ++ 46 ∷ [] ++ decimal is.c ++ 46 ∷ [] ++ decimal is.d ++ rest)) = ap (λ t. t ++ rest) is.spelled ∙ simp append_assoc in
    let same = ap (λ t. get_or t 0 0) split ∙ get_or_append_left (decimal is.a) _ 0 0 some in
    omega (arith, e, same)

some_address : (text : List ℕ) (addr : ℕ) → IsAddress text addr → 0 < length text
some_address text addr is = rw is.spelled (simp (length-append) (omega arith))

pub plain_address_line : (n addr : ℕ) (bytes rest : List ℕ) → StartsAddressBefore ends.Line bytes addr rest → SaysFirst SpellsAddress HasAddressFault n bytes (kinds.Item addr) rest
plain_address_line n addr bytes rest is =
    let text = is.front in
    let plain = plain_address text addr is.address in
    let some = some_address text addr is.address in
    let fs = one_field text plain some in
    record {
      line = text;
      split = ap lines is.split ∙ ended_line text (written_plain text plain) is.after rest is.ends;
      says = subst (λ f. Says SpellsAddress HasAddressFault n f (kinds.Item addr)) (sym fs) (
        λ skipped. unskipped text [] addr is.address (ap (λ t. get_or t 0 0) (append-nil text) ∙ skipped),
        is.address,
      );
    }

-- an address has no slash
has_no_slash : (xs : List ℕ) → HasNoSlash xs → (ys : List ℕ) → HasNoSlash ys → HasNoSlash (xs ++ ys)
has_no_slash [] p ys q = q
has_no_slash (x ∷ xs) p ys q = (p.0, has_no_slash xs p.1 ys q)

digits_unslashed : (ds : List ℕ) → AllDigits 10 ds → HasNoSlash ds
digits_unslashed [] p = tt
digits_unslashed (d ∷ ds) p = let digit = digit_from_value d p.0 in (not_slash d (omega arith), digits_unslashed ds p.1)
  where
    not_slash : (b : ℕ) → 47 < b → (b == 47) ≡ false
    not_slash b high = grind (arith, nat_tests)

octet_unslashed : (n : ℕ) → n < 256 → HasNoSlash (decimal n)
octet_unslashed n fits = digits_unslashed (decimal n) (decimal_is_IsNumeral n (omega arith)).0.1

address_unslashed : (text : List ℕ) (addr : ℕ) → IsAddress text addr → HasNoSlash text
address_unslashed text addr is =
    subst HasNoSlash (sym is.spelled) (has_no_slash _ (has_no_slash _ (has_no_slash _ (has_no_slash _ (has_no_slash _ (has_no_slash (decimal is.a) (octet_unslashed is.a is.octets.0) (46 ∷ []) dot) (decimal is.b) (octet_unslashed is.b is.octets.1)) (46 ∷ []) dot) (decimal is.c) (octet_unslashed is.c is.octets.2)) (46 ∷ []) dot) (decimal is.d) (octet_unslashed is.d is.octets.3))
  where
    dot : HasNoSlash (46 ∷ [])
    dot = (refl, tt)

-- the prefix that an address, a slash and a length are
pub prefix_of : (text after : List ℕ) (addr len : ℕ) (prefix : Network) → IsAddress text addr → IsNumber 32 after len → prefix ≡ record { bits = network_bits 32 len addr; len = len } → IsPrefix (text ++ 47 ∷ after) prefix
prefix_of text after addr len prefix is number e = record {
  addr = addr;
  back = after;
  address = subst (λ t. IsAddress t addr) (sym (before_cut text after (address_unslashed text addr is))) is;
  slash = after_cut text after (address_unslashed text addr is);
  length = subst (λ (p : Network). IsNumber 32 after p.len) (sym e) number;
  bits = rw e refl;
}

-- an address, a slash, a length, a space, a hop and the end of the line
pub plain_route_line : (n addr len hop : ℕ) (prefix : Network) (bytes b d rest : List ℕ)
    → StartsAddressBefore (ends.Byte 47) bytes addr b → StartsNumberBefore (ends.Byte 32) 32 b len d → StartsNumberBefore ends.Line 16777215 d hop rest
    → prefix ≡ record { bits = network_bits 32 len addr; len = len }
    → SaysFirst SpellsRoute HasRouteFault n bytes (kinds.Item (record { line = n; prefix = prefix; hop = hop })) rest
plain_route_line n addr len hop prefix bytes b d rest address length_is hop_is same =
    let text = address.front in
    let first = text ++ 47 ∷ decimal len in
    let second = decimal hop in
    let line = first ++ 32 ∷ second in
    let plain_first : IsPlain first = plain_append text (47 ∷ decimal len) (plain_address text addr address.address) (omega arith, plain_decimal len (omega (arith, length_is.small))) in
    let plain_second : IsPlain second = plain_decimal hop (omega (arith, hop_is.small)) in
    let some_first : 0 < length first = omega (arith, length-append text (47 ∷ decimal len)) in
    let some_second : 0 < length second = decimal_nonempty hop (omega (arith, hop_is.small)) in
    let fs : fields line ≡ first ∷ second ∷ [] = field_before first second plain_first some_first ∙ ap (λ t. first ∷ t) (one_field second plain_second some_second) in
    let middle : b ≡ decimal len ++ 32 ∷ (second ++ hop_is.after) = length_is.split ∙ ap (λ t. decimal len ++ t) (length_is.ends ∙ ap (λ t. 32 ∷ t) hop_is.split) in
    let split : bytes ≡ line ++ hop_is.after = address.split ∙ (ap (λ t. text ++ t) (address.ends ∙ ap (λ t. 47 ∷ t) middle) ∙ regroup text (decimal len) second hop_is.after) in
    let written : IsWritten line = written_append first (32 ∷ second) (written_plain first plain_first) (omega arith, written_plain second plain_second) in
    record {
      line = line;
      split = ap lines split ∙ ended_line line written hop_is.after rest hop_is.ends;
      says = subst (λ f. Says SpellsRoute HasRouteFault n f (kinds.Item (record { line = n; prefix = prefix; hop = hop }))) (sym fs) (
        unskipped text (47 ∷ decimal len) addr address.address,
        (refl, prefix_of text (decimal len) addr len prefix address.address (record { small = length_is.small; spelled = refl }) same, record { small = hop_is.small; spelled = refl }),
      );
    }
  where
    regroup : (t l h r : List ℕ) → t ++ 47 ∷ (l ++ 32 ∷ (h ++ r)) ≡ (t ++ 47 ∷ l ++ 32 ∷ h) ++ r
    regroup t l h r = sym (simp append_assoc)

pub next_update : (o : Order 24 8) (os : List (Order 24 8)) → lines_of_updates (o ∷ os) ≡ update_line o ++ lines_of_updates os
unfolding lines_of_updates
next_update o os = refl

pub no_updates : lines_of_updates [] ≡ []
unfolding lines_of_updates
no_updates = refl

pub next_outcome : (o : Outcome) (os : List Outcome) → outcome_lines (o ∷ os) ≡ outcome_line o ++ outcome_lines os
unfolding outcome_lines
next_outcome o os = refl

pub no_outcomes : outcome_lines [] ≡ []
unfolding outcome_lines
no_outcomes = refl

-- bytes past this one, as a test
abbrev all_past : ℕ → List ℕ → Bool
all_past n [] = true
all_past n (b ∷ bs) = nat_lt n b && all_past n bs

no_lower : (bs : List ℕ) → all_past 31 bs ≡ true → IsWritten bs
no_lower [] e = tt
no_lower (b ∷ bs) e = let both = and_parts (nat_lt 31 b) (all_past 31 bs) e in (ltb-true 31 b both.0, no_lower bs both.1)

past_space : (bs : List ℕ) → all_past 32 bs ≡ true → IsPlain bs
past_space [] e = tt
past_space (b ∷ bs) e = let both = and_parts (nat_lt 32 b) (all_past 32 bs) e in (ltb-true 32 b both.0, past_space bs both.1)

-- a word that a line begins with
record IsWord (word : List ℕ) : Type 0 where
  pub plain : IsPlain word
  pub some : 0 < length word

is_word : (word : List ℕ) → all_past 32 word ≡ true → 0 < length word → IsWord word
is_word word past some = record { plain = past_space word past; some = some }

-- an address in four octets
pub address_of : (addr : ℕ) → addr < 2 ^ 32 → IsAddress (address_text addr) addr
address_of addr small = record {
  a = byte_at 3 addr;
  b = byte_at 2 addr;
  c = byte_at 1 addr;
  d = byte_at 0 addr;
  octets = (omega arith, omega arith, omega arith, omega arith);
  spelled = refl;
  value = omega arith;
}

-- the text of a line, and what its fields spell
record IsLineOf (n : ℕ) (text : List ℕ) (o : Order 24 8) : Type 0 where
  pub written : IsWritten text
  pub stands : StandsFor SpellsUpdate n (fields text) (o ∷ [])

-- a line of a word and one field
module _ (n : ℕ) (word : List ℕ) (is : IsWord word) (field : List ℕ) (plain : IsPlain field) (some : 0 < length field) where
  one_fields : fields (word ++ 32 ∷ field) ≡ word ∷ field ∷ []
  one_fields = field_before word field is.plain is.some ∙ ap (λ fs. word ∷ fs) (one_field field plain some)

  one_written : IsWritten (word ++ 32 ∷ field)
  one_written = written_append word (32 ∷ field) (written_plain word is.plain) (omega arith, written_plain field plain)

  line_of_one : (o : Order 24 8) → StandsFor SpellsUpdate n (word ∷ field ∷ []) (o ∷ []) → IsLineOf n (word ++ 32 ∷ field) o
  line_of_one o stands = record { written = one_written; stands = subst (λ fs. StandsFor SpellsUpdate n fs (o ∷ [])) (sym one_fields) stands }

-- a line of a word and two fields
module _ (n : ℕ) (word : List ℕ) (is : IsWord word) (f g : List ℕ) (plain : IsPlain f) (some : 0 < length f) (clean : IsPlain g) (full : 0 < length g) where
  two_fields : fields (word ++ 32 ∷ (f ++ 32 ∷ g)) ≡ word ∷ f ∷ g ∷ []
  two_fields =
      field_before word (f ++ 32 ∷ g) is.plain is.some
      ∙ ap (λ fs. word ∷ fs) (field_before f g plain some ∙ ap (λ fs. f ∷ fs) (one_field g clean full))

  two_written : IsWritten (word ++ 32 ∷ (f ++ 32 ∷ g))
  two_written = written_append word (32 ∷ (f ++ 32 ∷ g)) (written_plain word is.plain) (omega arith, written_append f (32 ∷ g) (written_plain f plain) (omega arith, written_plain g clean))

  line_of_two : (o : Order 24 8) → StandsFor SpellsUpdate n (word ∷ f ∷ g ∷ []) (o ∷ []) → IsLineOf n (word ++ 32 ∷ (f ++ 32 ∷ g)) o
  line_of_two o stands = record { written = two_written; stands = subst (λ fs. StandsFor SpellsUpdate n fs (o ∷ [])) (sym two_fields) stands }

-- a prefix is written as one field, which spells it
module _ (prefix : Network) (is : IsNetwork 32 prefix) where
  spelled_address : IsAddress (address_text prefix.bits) prefix.bits
  spelled_address = address_of prefix.bits is.1

  plain_prefix : IsPlain (prefix_text prefix)
  plain_prefix = plain_append (address_text prefix.bits) (47 ∷ decimal prefix.len) (plain_address (address_text prefix.bits) prefix.bits spelled_address) (omega arith, plain_decimal prefix.len (omega (arith, is.0)))

  some_prefix : 0 < length (prefix_text prefix)
  some_prefix = omega (arith, length-append (address_text prefix.bits) (47 ∷ decimal prefix.len))

  spelled_prefix : IsPrefix (prefix_text prefix) prefix
  spelled_prefix =
      let same : prefix ≡ record { bits = network_bits 32 prefix.len prefix.bits; len = prefix.len } = ap (λ b. made b prefix.len) (sym is.2) in
      prefix_of (address_text prefix.bits) (decimal prefix.len) prefix.bits prefix.len prefix spelled_address (record { small = is.0; spelled = refl }) same
    where
      made : ℕ → ℕ → Network
      made x y = record { bits = x; len = y }

module _ (n m : ℕ) (fits : m < 2 ^ 32) where
  number_line : (word : List ℕ) → IsWord word → (o : Order 24 8) → StandsFor SpellsUpdate n (word ∷ decimal m ∷ []) (o ∷ []) → IsLineOf n (word ++ 32 ∷ decimal m) o
  number_line word is o = line_of_one n word is (decimal m) (plain_decimal m (omega arith)) (decimal_nonempty m (omega arith)) o

  is_number : (max : ℕ) → m ≤ max → IsNumber max (decimal m) m
  is_number max le = record { small = le; spelled = refl }

-- each update is one line, which spells it
line_of : (n : ℕ) (o : Order 24 8) → IsSound o → IsCountInRange o → IsLineOf n (update_text o) o
line_of n (orders.Add prefix hop) sound fine =
    let regroup : addition_text prefix hop ≡ codes "add" ++ 32 ∷ (prefix_text prefix ++ 32 ∷ decimal hop) = ap (λ t. 97 ∷ 100 ∷ 100 ∷ 32 ∷ t) (append_assoc (prefix_text prefix) (32 ∷ []) (decimal hop)) in
    let fits : hop < 2 ^ 64 = omega (arith, sound.1) in
    subst (λ t. IsLineOf n t (orders.Add prefix hop)) (sym regroup) (line_of_two n (codes "add") (is_word (codes "add") refl (omega arith)) (prefix_text prefix) (decimal hop) (plain_prefix prefix sound.0) (some_prefix prefix sound.0) (plain_decimal hop fits) (decimal_nonempty hop fits) (orders.Add prefix hop) (
      λ skipped. absurd (omega (arith, skipped)),
      (refl, (refl, spelled_prefix prefix sound.0, record { small = omega (arith, sound.1); spelled = refl })),
    ))
line_of n (orders.Del prefix) sound fine = line_of_one n (codes "del") (is_word (codes "del") refl (omega arith)) (prefix_text prefix) (plain_prefix prefix sound) (some_prefix prefix sound) (orders.Del prefix) (λ skipped. absurd (omega (arith, skipped)), (refl, spelled_prefix prefix sound))
line_of n orders.Flush sound fine =
    let plain = past_space (codes "flush") refl in
    record {
      written = written_plain (codes "flush") plain;
      stands = subst (λ fs. StandsFor SpellsUpdate n fs (orders.Flush ∷ [])) (sym (one_field (codes "flush") plain (omega arith))) (λ skipped. absurd (omega (arith, skipped)), (refl, refl));
    }
line_of n (orders.Reclaim count) sound fine = number_line n count (omega (arith, fine)) (codes "reclaim") (is_word (codes "reclaim") refl (omega arith)) (orders.Reclaim count) (λ skipped. absurd (omega (arith, skipped)), (refl, is_number n count (omega (arith, fine)) 65536 fine))
line_of n (orders.Online worker) sound fine = number_line n worker sound (codes "online") (is_word (codes "online") refl (omega arith)) (orders.Online worker) (λ skipped. absurd (omega (arith, skipped)), (refl, is_number n worker sound 4294967295 (omega (arith, sound))))
line_of n (orders.Offline worker) sound fine = number_line n worker sound (codes "offline") (is_word (codes "offline") refl (omega arith)) (orders.Offline worker) (λ skipped. absurd (omega (arith, skipped)), (refl, is_number n worker sound 4294967295 (omega (arith, sound))))
line_of n (orders.Quiescent worker) sound fine = number_line n worker sound (codes "quiescent") (is_word (codes "quiescent") refl (omega arith)) (orders.Quiescent worker) (λ skipped. absurd (omega (arith, skipped)), (refl, is_number n worker sound 4294967295 (omega (arith, sound))))

-- the lines of updates are items, one each
items_of : (n : ℕ) (os : List (Order 24 8)) → All IsSound os → All IsCountInRange os → AreItems SpellsUpdate n (lines (lines_of_updates os)) os
items_of n [] sound fine = subst (λ ls. AreItems SpellsUpdate n ls []) (sym (ap lines no_updates ∙ nil_lines)) refl
items_of n (o ∷ os) sound fine =
    let line = line_of n o (sound 0 o (omega arith)) (fine 0 o (omega arith)) in
    let rest = items_of (n + 1) os (λ k d lt. sound (suc k) d (omega arith)) (λ k d lt. fine (suc k) d (omega arith)) in
    let split : lines (lines_of_updates (o ∷ os)) ≡ update_text o ∷ lines (lines_of_updates os) = ap lines (next_update o os) ∙ line_first (update_text o) line.written (lines_of_updates os) in
    subst (λ ls. AreItems SpellsUpdate n ls (o ∷ os)) (sym split) (o ∷ [], os, line.stands, rest, refl)

written_header : IsWritten header
written_header = no_lower header refl

-- what is written is read back
pub read_back : (os : List (Order 24 8)) → All IsSound os → All IsCountInRange os → AreUpdates (update_lines os) os
read_back os sound fine =
    let split : lines (update_lines os) ≡ header ∷ lines (lines_of_updates os) = line_first header written_header (lines_of_updates os) in
    (subst StartsHeader (sym split) refl, subst (λ ls. AreItems SpellsUpdate 2 (after_first ls) os) (sym split) (items_of 2 os sound fine))
