-- The rules that cover an address, found length by length, the longest first.
use Rattle.std.proofs.Common.{◌≡◌, ◌∙◌, ap, sym, subst, refl, ℕ, ◌+◌, ◌*◌, ◌^◌, ◌<◌, List, [], ◌∷◌, ◌++◌, Option, length, take, get_or, append_assoc, arith, inl, inr, zero, suc, ◌-◌, ◌≤◌, Some, None}
use Rattle.std.proofs.lemmas.List.{take_more, append-nil}
use Rattle.lpm_limits.specs.declared.config.Config.{Config}
use Rattle.lpm_cells.specs.Words.{Words}
use Rattle.lpm_rules.specs.RuleMap.{RuleMap, AllNetworks}
use Rattle.lpm_rules.specs.declared.Rule.{Rule}
use Rattle.lpm_writer.specs.declared.plain_memory.PlainMemory.{PlainMemory}
use Rattle.lpm_update.specs.Represents.{Represents}
use Rattle.lpm_writer.specs.declared.control.ControlState.{ControlState}
use Rattle.qsbr.specs.Counters.{Registry}
use Rattle.fib_model.specs.State.{State}
use Rattle.fib.specs.Fib.{FibState, IsSound, table_of}
use Rattle.route_text.specs.declared.routes.Route.{Route}
use Rattle.route_text.specs.Files.{AreRoutes}
use Rattle.route_text.specs.declared.explanations.Reading.{Reading}
use Rattle.route_text.specs.Explanation.{explanation_lines}
use Rattle.lpm_files.specs.Inputs.{Reads}
use Rattle.lpm_commands.specs.Load.{IsLoaded}
use Rattle.lpm_commands.specs.Explain.{AreCovering, IsAnsweredByFirst, reading_of, IsExplanation, AreExplanations, ExplainsBy, IsExplainText}
use Rattle.std.specs.Prelude.{IsSome, MatchOption}
use Rattle.std.specs.Option.{option_to_list}
use Rattle.std.specs.FinMap.{get}
use Rattle.std.specs.List.{All, AllPairs, Contains}
use Rattle.std.proofs.lemmas.Bool.{cases_eq}
use Rattle.std.proofs.lemmas.List.Elements.{All-push, All-head, Contains-push, Contains-append_left}
use Rattle.std.proofs.lemmas.List.Quantifiers.{all_pairs_push}
use Rattle.lpm_bits.specs.Network.{Network, Covers, network_bits}
use Rattle.lpm_rules.proofs.Longest.{network_at, covers_masked}

-- What explains answers, one address after another.

-- one address more
pub one_more : (R : RuleMap) (t : Words) (addrs : List ℕ) (a : ℕ) (text here : List ℕ) → AreExplanations R t addrs text → IsExplanation R t a here → AreExplanations R t (addrs ++ a ∷ []) (text ++ here)
one_more R t [] a text here none is = (here, [], is, refl, ap (λ (x : List ℕ). x ++ here) none ∙ sym (append-nil here))
one_more R t (x ∷ addrs) a text here told is = (
  told.0,
  told.1 ++ here,
  told.2,
  one_more R t addrs a told.1 here told.3 is,
  ap (λ (y : List ℕ). y ++ here) told.4 ∙ append_assoc told.0 told.1 here,
)

-- the address that is read, and the text with what explains it
pub next_explained : (R : RuleMap) (t : Words) (addrs : List ℕ) (i d : ℕ) (text more : List ℕ) → i < length addrs → AreExplanations R t (take i addrs) text → (here : List ℕ) × IsExplanation R t (get_or addrs i d) here × (more ≡ text ++ here) → AreExplanations R t (take (i + 1) addrs) more
next_explained R t addrs i d text more within told here =
    let a = get_or addrs i d in
    let explained = one_more R t (take i addrs) a text here.0 told here.1 in
    subst (λ (l : List ℕ). AreExplanations R t l more) (sym (take_more addrs i d within)) (subst (AreExplanations R t (take i addrs ++ a ∷ [])) (sym here.2) explained)

-- what is written explains the answer to the address
pub explained_by : (R : RuleMap) (t : Words) (a : ℕ) (rules slice : List (Rule 24 8)) (reading : Reading) (old new : List ℕ) → slice ≡ rules → AreCovering 32 R a rules → IsAnsweredByFirst 32 R a rules → reading ≡ reading_of 8 t a → new ≡ old ++ explanation_lines a slice reading → (here : List ℕ) × IsExplanation R t a here × (new ≡ old ++ here)
explained_by R t a rules slice reading old new same covering answered is written =
    let explanation : IsExplanation R t a (explanation_lines a slice reading) = record {
      rules = slice;
      covering = subst (λ (rs : List (Rule 24 8)). AreCovering 32 R a rs) (sym same) covering;
      answered = subst (λ (rs : List (Rule 24 8)). IsAnsweredByFirst 32 R a rs) (sym same) answered;
      written = ap (λ (r : Reading). explanation_lines a slice r) is;
    } in
    (explanation_lines a slice reading, explanation, written)

-- the words of a table represent its rules
represented : (control : ControlState 24 8) (memory : PlainMemory 24 8) → IsSound 24 8 control memory → Represents 24 8 control.rules.rules memory.cells
represented control memory sound = subst (Represents 24 8 control.rules.rules) (sym sound.2.did.words) sound.2.rests.represents

-- a table has the words of as many groups as it was opened with
sized : (control : ControlState 24 8) (memory : PlainMemory 24 8) → IsSound 24 8 control memory → length memory.cells.seconds ≡ control.config.groups * 2 ^ 8
sized control memory sound = ap (λ (t : Words). length t.seconds) sound.2.did.words ∙ (sound.2.rests.room.words ∙ ap (λ n. n * 2 ^ 8) sound.2.rests.states)

-- the answers are explained by the rules of the table and by the words that represent them
pub explains_by : (control : ControlState 24 8) (memory : PlainMemory 24 8) (fib : FibState) (addrs text : List ℕ) → IsSound 24 8 control memory → control.config ≡ fib.config → table_of control memory ≡ fib.table → AreExplanations control.rules.rules memory.cells addrs text
    → ExplainsBy fib.config.groups fib.table.rules addrs text
explains_by control memory fib addrs text sound limits same told =
    let explained : ExplainsBy control.config.groups control.rules.rules addrs text = (memory.cells, represented control memory sound, sized control memory sound, told) in
    subst (λ (c : Config). ExplainsBy c.groups fib.table.rules addrs text) limits
    (subst (λ (R : RuleMap). ExplainsBy control.config.groups R addrs text) (ap (λ (s : State Registry). s.rules) same) explained)

-- the explanations by the rules of the routes, which make a table
pub is_explain_text : (c : Config) (routes : Option (List ℕ)) (list : List Route) (addrs : List ℕ) (fib : FibState) (text : List ℕ) → Reads AreRoutes routes list → fib.config ≡ c → IsLoaded c list fib.table → ExplainsBy fib.config.groups fib.table.rules addrs text → IsExplainText c routes addrs text
is_explain_text c routes list addrs fib text are_routes limits loaded explained = record {
  list = list;
  table = fib.table;
  are_routes = are_routes;
  loaded = loaded;
  explained = subst (λ (R : RuleMap). ExplainsBy c.groups R addrs text) loaded.rules (subst (λ (k : Config). ExplainsBy k.groups fib.table.rules addrs text) limits explained);
}

-- the rules that cover the address and are longer than `width - host`: all of them, the longest first
pub record AreFound {first second : ℕ} (width : ℕ) (R : RuleMap) (a host : ℕ) (rs : List (Rule first second)) : Type 0 where
  pub rules : All (λ (r : Rule first second). get R r.prefix ≡ Some r.hop) rs
  pub cover : All (λ (r : Rule first second). Covers width r.prefix a) rs
  pub longer : All (λ (r : Rule first second). width < r.prefix.len + host) rs
  pub complete : (p : Network) (hop : ℕ) → get R p ≡ Some hop → Covers width p a → width < p.len + host → Contains rs (record { prefix = p; hop = hop })
  pub longest_first : AllPairs (λ (r s : Rule first second). s.prefix.len < r.prefix.len) rs

some_of : (R : RuleMap) (p : Network) (hop : ℕ) → get R p ≡ Some hop → IsSome (get R p)
some_of R p hop is = subst IsSome (sym is) refl

-- the rule of a length that covers an address is the one of its prefix
rule_at : (width : ℕ) (R : RuleMap) (a len : ℕ) (p : Network) (hop : ℕ) → AllNetworks width R → get R p ≡ Some hop → Covers width p a → p.len ≡ len → p ≡ record { bits = network_bits width len a; len = len }
rule_at width R a len p hop nets is cov e = network_at width a p (nets p (some_of R p hop is)) cov ∙ ap (λ n. record { bits = network_bits width n a; len = n }) e

-- no rule of the next length covers the address
pub found_none : {first second : ℕ} (width : ℕ) (R : RuleMap) (a host : ℕ) (rs : List (Rule first second)) → AllNetworks width R → host ≤ width → get R (record { bits = network_bits width (width - host) a; len = width - host }) ≡ None
    → AreFound width R a host rs → AreFound width R a (host + 1) rs
found_none width R a host rs nets within none old = record {
  rules = old.rules;
  cover = old.cover;
  longer = λ k d lt. let z = old.longer k d lt in omega (arith, z);
  complete = λ p hop is cov far. elim (cases_eq p.len (width - host)) [
    | inl e ↦ let both = sym is ∙ (ap (get R) (rule_at width R a (width - host) p hop nets is cov e) ∙ none) in absurd cc
    | inr n ↦ old.complete p hop is cov (omega (arith, far, n, within))
  ];
  longest_first = old.longest_first;
}

same_rule : {first second : ℕ} (p : Network) (hop : ℕ) (r : Rule first second) → p ≡ r.prefix → hop ≡ r.hop → r ≡ record { prefix = p; hop = hop }
same_rule {first} {second} p hop r e f = ap (λ (q : Network). made q r.hop) (sym e) ∙ ap (λ (h : ℕ). made p h) (sym f)
  where
    made : Network → ℕ → Rule first second
    made q h = record { prefix = q; hop = h }

same_hop : (x y : ℕ) (o : Option ℕ) → o ≡ Some x → o ≡ Some y → x ≡ y
same_hop x y o e f = let both = sym e ∙ f in cc

-- this rule of the next length covers the address
pub found_one : {first second : ℕ} (width : ℕ) (R : RuleMap) (a host : ℕ) (rs : List (Rule first second)) (r : Rule first second) → AllNetworks width R → host ≤ width → r.prefix ≡ record { bits = network_bits width (width - host) a; len = width - host } → get R r.prefix ≡ Some r.hop
    → AreFound width R a host rs → AreFound width R a (host + 1) (rs ++ r ∷ [])
found_one {first} {second} width R a host rs r nets within prefix rule old =
    let long : r.prefix.len ≡ width - host = ap (λ (p : Network). p.len) prefix in
    record {
      rules = All-push (λ (s : Rule first second). get R s.prefix ≡ Some s.hop) rs r old.rules rule;
      cover = All-push (λ (s : Rule first second). Covers width s.prefix a) rs r old.cover (subst (λ q. Covers width q a) (sym prefix) (covers_masked width (width - host) a));
      longer = All-push (λ (s : Rule first second). width < s.prefix.len + (host + 1)) rs r (λ k d lt. let z = old.longer k d lt in omega (arith, z)) (omega (arith, long, within));
      complete = λ p hop is cov far. elim (cases_eq p.len (width - host)) [
        | inl e ↦
            let same = rule_at width R a (width - host) p hop nets is cov e ∙ sym prefix in
            let hops = same_hop hop r.hop (get R r.prefix) (ap (get R) (sym same) ∙ is) rule in
            subst (Contains (rs ++ r ∷ [])) (same_rule p hop r same hops) (Contains-push rs r)
        | inr n ↦ Contains-append_left rs (r ∷ []) (record { prefix = p; hop = hop }) (old.complete p hop is cov (omega (arith, far, n, within)))
      ];
      longest_first = all_pairs_push (λ (x y : Rule first second). y.prefix.len < x.prefix.len) rs r old.longest_first (λ k d lt. let z = old.longer k d lt in omega (arith, z, long, within));
    }

-- the rule of the next length, where there is one
pub found_next : {first second : ℕ} (width : ℕ) (R : RuleMap) (a host : ℕ) (rs new : List (Rule first second)) (o : Option (Rule first second)) → AllNetworks width R → host ≤ width
    → MatchOption o (get R (record { bits = network_bits width (width - host) a; len = width - host }) ≡ None) (λ (r : Rule first second). (r.prefix ≡ record { bits = network_bits width (width - host) a; len = width - host }) × (get R r.prefix ≡ Some r.hop))
    → new ≡ rs ++ option_to_list o → AreFound width R a host rs → AreFound width R a (host + 1) new
found_next {first} {second} width R a host rs new None nets within none grown old = subst (λ (l : List (Rule first second)). AreFound width R a (host + 1) l) (sym (grown ∙ append-nil rs)) (found_none width R a host rs nets within none old)
found_next {first} {second} width R a host rs new (Some r) nets within is grown old = subst (λ (l : List (Rule first second)). AreFound width R a (host + 1) l) (sym grown) (found_one width R a host rs r nets within is.0 is.1 old)

-- all lengths were tried
pub found_all : {first second : ℕ} (width : ℕ) (R : RuleMap) (a host : ℕ) (rs : List (Rule first second)) → width < host → AreFound width R a host rs → AreCovering width R a rs
found_all width R a host rs past found = record {
  rules = found.rules;
  cover = found.cover;
  complete = λ p hop is cov. found.complete p hop is cov (omega (arith, past));
  longest_first = found.longest_first;
}

-- no element is longer than the first
first_is_longest : {first second : ℕ} (r : Rule first second) (more : List (Rule first second)) (x : Rule first second) (k : ℕ) → AllPairs (λ (r s : Rule first second). s.prefix.len < r.prefix.len) (r ∷ more) → k < length (r ∷ more) → get_or (r ∷ more) k x ≡ x → x.prefix.len ≤ r.prefix.len
first_is_longest {first} {second} r more x zero pairs within is = let e = ap (λ (s : Rule first second). s.prefix.len) is in omega (arith, e)
first_is_longest {first} {second} r more x (suc k) pairs within is =
    let shorter = pairs 0 (suc k) x (omega arith) within in
    let e = ap (λ (s : Rule first second). s.prefix.len) is in
    omega (arith, shorter, e)

hop_of : (o : Option ℕ) → IsSome o → (hop : ℕ) × (o ≡ Some hop)
hop_of None some = absurd cc
hop_of (Some hop) some = (hop, refl)

-- the first of the rules answers
pub first_answers : {first second : ℕ} (width : ℕ) (R : RuleMap) (a : ℕ) (rs : List (Rule first second)) → AreCovering width R a rs → IsAnsweredByFirst width R a rs
first_answers width R a [] all = λ q some cov.
    let hop = hop_of (get R q) some in
    let at = all.complete q hop.0 hop.1 cov in
    absurd (omega (arith, at.1))
first_answers {first} {second} width R a (r ∷ more) all = (
  All-head (λ (s : Rule first second). get R s.prefix ≡ Some s.hop) r more all.rules,
  record {
    covers = All-head (λ (s : Rule first second). Covers width s.prefix a) r more all.cover;
    longest = λ q some cov.
        let hop = hop_of (get R q) some in
        let at = all.complete q hop.0 hop.1 cov in
        first_is_longest r more (record { prefix = q; hop = hop.0 }) at.0 all.longest_first at.1 at.2;
  },
)
