use Rattle.std.proofs.Common.{◌≡◌, ◌∙◌, ap, sym, refl, ◌<◌, length, take, arith}
use Rattle.std.proofs.lemmas.List.{take_all}
use Rattle.std.specs.FinMap.{insert, len}
use Rattle.lpm_rules.specs.RuleMap.{RuleMap, RuleList}
use Rattle.fib_model.specs.Outcomes.{groups_in_use}
use Rattle.lpm_commands.proofs.Texts.{refused_ends}
use Rattle.lpm_commands.specs.Load.{rules_of_routes}
use Rattle.lpm_commands.proofs.FilledTable.{changes_of, changes_read, loaded_as, no_rules, none_in_use, refused_at, rules_read}
use Rattle.lpm_commands.proofs.refusals.made_with_tokens.Goals as goal

pub loop-index-init : goal.loop-index-init
loop-index-init c =
    let is = c.new-rules.ensures in
    let size = ap (λ (l : RuleList). len l.rules) is in
    let used = ap (λ (l : RuleList). groups_in_use 24 8 l.rules) is in
    let none = no_rules in
    let shallow = none_in_use in
    record {
      rules = ap (λ (l : RuleList). l.rules) is;
      max = ap (λ (l : RuleList). l.max) is;
      most = omega (arith, size, none);
      in_use = omega (arith, used, shallow);
      few = omega arith;
      count = omega arith;
      versions = refl;
    }

pub returns-in-Err-clause-failure : goal.returns-in-Err-clause-failure
returns-in-Err-clause-failure c =
    let inv = c.loop-index.invariant in
    let used = inv.in_use in
    let few = inv.few in
    let within : c.loop-index.index < length c.args.routes.now = omega arith in
    refused_ends _ _ _ _ _ _ c.refused.ensures.memory c.refused.ensures.other (λ reason.
    (refl, refused_at c.args.config c.args.routes.now c.loop-index.index c.index-routes-index.result c.loop-index.rules c.in-Err.refusal within c.index-routes-index.is (omega arith) inv.rules inv.max inv.most (omega (arith, used, few)) c.requires.tokens reason c.in-Err.ensures.refuses))

pub loop-index-preserved : goal.loop-index-preserved
loop-index-preserved c =
    let inv = c.loop-index.invariant in
    let routes = c.args.routes.now in
    let i = c.loop-index.index in
    let r = c.index-routes-index.result in
    let within : i < length routes = omega arith in
    let put = c.in-Ok.ensures in
    let by = c.versions_by-versions.ensures in
    let before = inv.count in
    let one = by.one in
    let versions = inv.versions in
    let changes = changes_read routes i r c.loop-index.rules.rules c.in-Ok.done c.versions_by-versions.result within c.index-routes-index.is inv.rules put.unchanged by.unchanged by.changed in
    record {
      rules = ap (λ (l : RuleList). l.rules) put.put ∙ (ap (λ (R : RuleMap). insert R r.prefix r.hop) inv.rules ∙ sym (rules_read routes i r within c.index-routes-index.is));
      max = ap (λ (l : RuleList). l.max) put.put ∙ inv.max;
      most = put.most;
      in_use = put.in_use;
      few = put.few;
      count = omega (arith, before, one);
      versions = omega (arith, versions, changes);
    }

pub returns-clause-loaded : goal.returns-clause-loaded
returns-clause-loaded c =
    let inv = c.loop-index.invariant in
    let routes = c.args.routes.now in
    let all : take c.loop-index.index routes ≡ routes = take_all c.loop-index.index routes c.loop-index-test.false in
    let most = inv.most in
    let max = inv.max in
    let used = inv.in_use in
    let few = inv.few in
    loaded_as c.args.config routes c.loop-index.rules.rules c.loop-index.versions (omega arith)
    (inv.rules ∙ ap rules_of_routes all) (inv.versions ∙ ap changes_of all)
    (omega (arith, most, max), omega (arith, used, few)) c.requires.tokens
